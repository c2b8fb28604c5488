-- Statement: the line that tells which file is refused, and why.
use Rattle.std.specs.Prelude.{◌≡◌, ℕ, List, [], ◌∷◌, ◌++◌, codes, Option, Some, None}
use Rattle.std.specs.Fmt.{decimal}
use Rattle.knx_base.specs.Cause.{cause_word}
use Rattle.key_tables.specs.declared.faults.BuildFault.{BuildFault}
use Rattle.key_tables.specs.declared.faults.BuildFault.TheVariants as build
use Rattle.key_tables.specs.declared.faults.TablesFault.{TablesFault}
use Rattle.key_tables.specs.declared.faults.TablesFault.TheVariants as tables
use Rattle.datapoints.specs.declared.types.TypesFault.{TypesFault}
use Rattle.datapoints.specs.declared.types.TypesFault.TheVariants as types
use Rattle.script_text.specs.declared.fault.ScriptFault.{ScriptFault}
use Rattle.script_text.specs.declared.fault.ScriptFault.TheVariants as script
use Rattle.tag_text.specs.declared.tag.TagFault.{TagFault}
use Rattle.tag_text.specs.declared.tag.TagFault.TheVariants as tag
use Rattle.keyring_reader.specs.Attributes.{name_of}
use Rattle.keyring_reader.specs.declared.fault.KeyringFault.{KeyringFault}
use Rattle.keyring_reader.specs.declared.fault.KeyringFault.TheVariants as keyring
use Rattle.hex.specs.Hex.{encode_lower}
use Rattle.frame_file.specs.declared.fault.Field.{Field}
use Rattle.frame_file.specs.declared.fault.Field.TheVariants as field
use Rattle.frame_file.specs.declared.fault.RecordFault.{RecordFault}
use Rattle.frame_file.specs.declared.fault.RecordFault.TheVariants as record_
use Rattle.knx_base.specs.Sink.{AppendsPrefix}
use Rattle.knxsec_app.specs.declared.status.Status.{Status}
use Rattle.knxsec_app.specs.declared.status.Status.TheVariants as status
use Rattle.knxsec_app.specs.Answer.{Answer, Answers, after}

-- a file is refused for this reason
abbrev pub refused : List ℕ → List ℕ → Answer
refused file reason = record { report = codes "refused " ++ file ++ reason ++ 10 ∷ []; status = status.Refused }

abbrev pub at_line : ℕ → List ℕ → List ℕ
at_line number word = codes " line " ++ decimal number ++ 32 ∷ [] ++ word

-- No text is refused for want of memory: `HaveReasons` of specs/Reasons says so, here by its field `tables`.
abbrev pub tables_reason : TablesFault → List ℕ
tables_reason (tables.Line number cause) = at_line number (cause_word cause)
tables_reason (tables.Twice number) = at_line number (codes "twice")
tables_reason (tables.TooMany number) = at_line number (codes "many")
tables_reason tables.NoMemory = []

-- the same of types of groups, by `types`
abbrev pub types_reason : TypesFault → List ℕ
types_reason (types.Line number cause) = at_line number (cause_word cause)
types_reason (types.Twice number) = at_line number (codes "twice")
types_reason (types.TooMany number) = at_line number (codes "many")
types_reason types.NoMemory = []

-- the same of a script, by `script`
abbrev pub script_reason : ScriptFault → List ℕ
script_reason (script.Line number cause) = at_line number (cause_word cause)
script_reason (script.Order number) = at_line number (codes "order")
script_reason (script.Twice number) = at_line number (codes "twice")
script_reason (script.TooMany number) = at_line number (codes "many")
script_reason script.NoMemory = []

abbrev pub at_place : ℕ → List ℕ → List ℕ
at_place place word = codes " at " ++ decimal place ++ 32 ∷ [] ++ word

-- nor is a document, as `frames` and `keyring` say of those that are read here
abbrev pub document_reason : TagFault → List ℕ
document_reason (tag.Bad place) = at_place place (codes "bad")
document_reason (tag.Utf8 place) = at_place place (codes "utf8")
document_reason (tag.Deep place) = at_place place (codes "deep")
document_reason tag.NoMemory = []

abbrev pub missing_reason : List ℕ → ℕ → List ℕ
missing_reason attribute place = at_place place (codes "missing " ++ attribute)

-- the name of an attribute of a recorded log
abbrev pub field_name : Field → List ℕ
field_name field.Timestamp = codes "Timestamp"
field_name field.RawData = codes "RawData"

-- no text is refused for a fault of reading or for want of memory, by `frames`
abbrev pub frames_reason : RecordFault → List ℕ
frames_reason (record_.Line number cause) = at_line number (cause_word cause)
frames_reason (record_.LongLine number) = at_line number (codes "long")
frames_reason (record_.TooMany number) = at_line number (codes "many")
frames_reason record_.LongFile = codes " long"
frames_reason (record_.Tag fault) = document_reason fault
frames_reason (record_.Missing field place) = missing_reason (field_name field) place
frames_reason (record_.Time place) = at_place place (codes "time")
frames_reason (record_.Digits place) = at_place place (codes "digits")
frames_reason record_.ReadFault = []
frames_reason record_.NoMemory = []

-- a signature in hexadecimal, or a dash where the text is none
abbrev pub stored_text : Option (List ℕ) → List ℕ
stored_text (Some stored) = encode_lower stored
stored_text None = codes "-"

-- no keyring is refused for want of memory, by `keyring`
abbrev pub keyring_reason : KeyringFault → List ℕ
keyring_reason (keyring.Tag fault) = document_reason fault
keyring_reason keyring.NotKeyring = codes " root"
keyring_reason (keyring.Missing attribute place) = missing_reason (name_of attribute) place
keyring_reason (keyring.LongText place) = at_place place (codes "long-text")
keyring_reason (keyring.Signature stored computed) =
    codes " signature " ++ stored_text stored ++ 32 ∷ [] ++ encode_lower computed
keyring_reason (keyring.Key place) = at_place place (codes "key")
keyring_reason (keyring.Address place) = at_place place (codes "address")
keyring_reason (keyring.Twice place) = at_place place (codes "twice")
keyring_reason keyring.NoMemory = []

-- What is answered where a text of tables has this fault: its refusal, or that memory was wanting.
abbrev pub EndsTables : TablesFault → Status → Option (List ℕ) → Option (List ℕ) → Type 0
EndsTables tables.NoMemory ended old new = (ended ≡ status.NoMemory) × (new ≡ old)
EndsTables fault ended old new = Answers (refused (codes "tables") (tables_reason fault)) ended old new

-- The same of types of groups.
abbrev pub EndsTypes : TypesFault → Status → Option (List ℕ) → Option (List ℕ) → Type 0
EndsTypes types.NoMemory ended old new = (ended ≡ status.NoMemory) × (new ≡ old)
EndsTypes fault ended old new = Answers (refused (codes "types") (types_reason fault)) ended old new

-- The same of a script.
abbrev pub EndsScript : ScriptFault → Status → Option (List ℕ) → Option (List ℕ) → Type 0
EndsScript script.NoMemory ended old new = (ended ≡ status.NoMemory) × (new ≡ old)
EndsScript fault ended old new = Answers (refused (codes "script") (script_reason fault)) ended old new

-- What is answered where merged rows have this fault: that there are too many, since no two of them say the same, by
-- the field `many` of `HaveReasons`; or that memory was wanting.
abbrev pub EndsMerged : BuildFault → Status → Option (List ℕ) → Option (List ℕ) → Type 0
EndsMerged build.NoMemory ended old new = (ended ≡ status.NoMemory) × (new ≡ old)
EndsMerged fault ended old new = Answers (refused (codes "keyring") (codes " many")) ended old new

-- What is answered where the reader of records ends with this fault: what waited, and then the refusal; or that the
-- files failed; or that memory was wanting, unless the sink did not take what waited.
abbrev pub EndsList : RecordFault → List ℕ → Status → Option (List ℕ) → Option (List ℕ) → Type 0
EndsList record_.ReadFault held ended old new = (ended ≡ status.ReadFault) × AppendsPrefix old new held
EndsList record_.NoMemory held ended old new =
    Answers (record { report = held; status = status.NoMemory }) ended old new
EndsList fault held ended old new = Answers (after held (refused (codes "frames") (frames_reason fault))) ended old new
