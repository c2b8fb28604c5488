-- What an audit with the values of groups answers. This is statement.
use Rattle.std.specs.Prelude.{ℕ, List, [], codes, None, Result, Ok, Err}
use Rattle.knx_base.specs.declared.address.GroupAddr.{GroupAddr}
use Rattle.key_tables.specs.declared.types.Row.{Row}
use Rattle.frame_file.specs.Records.{records_of}
use Rattle.datapoints.specs.declared.dpt.Dpt.{Dpt}
use Rattle.datapoints.specs.declared.types.TypesFault.{TypesFault}
use Rattle.datapoints.specs.Types.{types_of}
use Rattle.knxsec_app.specs.declared.whole_file.WholeFile.TheVariants.{Types}
use Rattle.knxsec_app.specs.Answer.{Answer, ◌>>=◌, answer_from}
use Rattle.knxsec_app.specs.Auditing.{within, installation, frames_answer}
use Rattle.knxsec_app.specs.Refusing.{refused, types_reason}
use Rattle.knxsec_app.specs.Showing.{values_shown}

abbrev pub types_told : Result (List (GroupAddr × Dpt)) TypesFault → Result (List (GroupAddr × Dpt)) Answer
types_told (Ok types) = Ok types
types_told (Err fault) = Err (refused (codes "types") (types_reason fault))

-- the types of groups in a file
abbrev pub types_in : List ℕ → Result (List (GroupAddr × Dpt)) Answer
types_in octets = do
  text ← within Types octets
  types_told (types_of text)

-- the answer under the rows of an installation
abbrev pub typed_answer : List Row → List ℕ → List ℕ → Answer
typed_answer rows types frames =
    answer_from (types_in types) (λ types. frames_answer (values_shown types) rows [] (records_of frames))

-- the answer of an audit of the third file under the first, with the values of the groups that the second names
abbrev pub values_answer : List ℕ → List ℕ → List ℕ → Answer
values_answer tables types frames =
    answer_from (installation None tables) (λ rows. typed_answer rows types frames)
