-- Statement: what an audit answers: a line for each record, by those before it, and the total.
use Rattle.std.specs.Prelude.{ℕ, ◌==◌, nat_lt, if◌then◌else◌, List, [], ◌∷◌, length, codes, Option, Some, None, Result, Ok, Err}
use Rattle.std.specs.Str.Lines.{lines}
use Rattle.text_lines.specs.declared.whole_file.FileFault.{FileFault}
use Rattle.text_lines.specs.declared.whole_file.FileFault.TheVariants as unread
use Rattle.key_tables.specs.declared.types.Row.{Row}
use Rattle.key_tables.specs.declared.faults.TablesFault.{TablesFault}
use Rattle.key_tables.specs.declared.faults.BuildFault.{BuildFault}
use Rattle.key_tables.specs.Build.{build_fault, merged}
use Rattle.key_tables.specs.Text.{tables_of}
use Rattle.keyring_reader.specs.declared.fault.KeyringFault.{KeyringFault}
use Rattle.keyring_reader.specs.Keyring.{keyring_of}
use Rattle.frame_file.specs.declared.fault.RecordFault.{RecordFault}
use Rattle.frame_file.specs.Lists.{Entry, RecordList}
use Rattle.frame_file.specs.Records.{records_of}
use Rattle.audit_core.specs.Audit.{Total, apdu_of, line_of, total_of}
use Rattle.audit_core.specs.Text.{line_text_with, total_text}
use Rattle.knxsec_app.specs.declared.status.Status.{Status}
use Rattle.knxsec_app.specs.declared.status.Status.TheVariants.{Done, Alarm, ReadFault, NoMemory}
use Rattle.knxsec_app.specs.declared.whole_file.WholeFile.{WholeFile}
use Rattle.knxsec_app.specs.declared.whole_file.WholeFile.TheVariants.{Tables, Types, Keyring, Password, Script}
use Rattle.knxsec_app.specs.Answer.{Answer, after, ◌>>=◌, answer_from}
use Rattle.knxsec_app.specs.Refusing.{refused, tables_reason, frames_reason, keyring_reason}
use Rattle.knxsec_app.specs.Showing.{Behind, nothing_shown}

-- ---- files that are read whole

-- the word for the file in a refusal
abbrev pub word_of : WholeFile → List ℕ
word_of Tables = codes "tables"
word_of Types = codes "types"
word_of Keyring = codes "keyring"
word_of Password = codes "password"
word_of Script = codes "script"

-- the most octets that it may have
abbrev pub most_of : WholeFile → ℕ
most_of Tables = 4194304
most_of Types = 4194304
most_of Keyring = 4194304
most_of Password = 4096
most_of Script = 16777216

-- the octets of the file, unless they are more than it may have
abbrev pub within : WholeFile → List ℕ → Result (List ℕ) Answer
within file octets =
    if nat_lt (most_of file) (length octets) then Err (refused (word_of file) (codes " long")) else Ok octets

-- the status where it could not be read
abbrev pub unread_status : FileFault → Status
unread_status unread.ReadFault = ReadFault
unread_status unread.NoMemory = NoMemory

-- ---- the rows that records are judged under

abbrev pub rows_told : Result (List Row) TablesFault → Result (List Row) Answer
rows_told (Ok rows) = Ok rows
rows_told (Err fault) = Err (refused (codes "tables") (tables_reason fault))

-- the merged rows, unless they may not stand together: no two say the same, so there are too many, by the field `many`
-- of `HaveReasons`
abbrev pub unless_many : Option BuildFault → List Row → Result (List Row) Answer
unless_many None rows = Ok rows
unless_many (Some fault) rows = Err (refused (codes "keyring") (codes " many"))

-- the rows of tables, over those of a keyring where there is one
abbrev pub laid_over : Option (List Row) → List Row → Result (List Row) Answer
laid_over None rows = Ok rows
laid_over (Some under) rows = unless_many (build_fault (merged rows under)) (merged rows under)

-- the rows of a text of tables, over those of a keyring where there is one
abbrev pub rows_in : Option (List Row) → List ℕ → Result (List Row) Answer
rows_in under text = do
  rows ← rows_told (tables_of text)
  laid_over under rows

-- the same of a file of tables
abbrev pub installation : Option (List Row) → List ℕ → Result (List Row) Answer
installation under tables = do
  text ← within Tables tables
  rows_in under text

-- ---- the records

-- the line of a record after those with these octets, of which the latest comes first, with what is shown behind it
abbrev pub record_line : Behind → List Row → List (List ℕ) → Entry → List ℕ
record_line shown rows past entry =
    line_text_with (line_of rows past entry.octets) entry.time (apdu_of rows past entry.octets)
    (shown (line_of rows past entry.octets) (apdu_of rows past entry.octets))

abbrev pub total_status : Total → Status
total_status total = if total.alarms == 0 then Done else Alarm

-- what is answered where no record is left
abbrev pub last_answer : List Row → List (List ℕ) → Option RecordFault → Answer
last_answer rows past None =
    record { report = total_text (total_of rows past); status = total_status (total_of rows past) }
last_answer rows past (Some fault) = refused (codes "frames") (frames_reason fault)

-- the lines of these records after those, and then the total or the refusal
abbrev pub records_answer : Behind → List Row → List (List ℕ) → List Entry → Option RecordFault → Answer
records_answer shown rows past [] fault = last_answer rows past fault
records_answer shown rows past (entry ∷ records) fault =
    after (record_line shown rows past entry) (records_answer shown rows (entry.octets ∷ past) records fault)

unfoldable pub frames_answer : Behind → List Row → List (List ℕ) → RecordList → Answer
frames_answer shown rows past list = records_answer shown rows past list.records list.refused

-- ---- the audit under tables, and under the rows of a keyring where there is one

abbrev pub tables_answer : Option (List Row) → List ℕ → List ℕ → Answer
tables_answer under tables frames =
    answer_from (installation under tables) (λ rows. frames_answer nothing_shown rows [] (records_of frames))

-- the answer of an audit of the second file under the first
abbrev pub audit_answer : List ℕ → List ℕ → Answer
audit_answer tables frames = tables_answer None tables frames

-- ---- the audit under a keyring

-- a password is the first line of its file
abbrev pub first_line : List (List ℕ) → List ℕ
first_line [] = []
first_line (line ∷ rest) = line

abbrev pub password_of : List ℕ → List ℕ
password_of octets = first_line (lines octets)

abbrev pub keyring_told : Result (List Row) KeyringFault → Result (List Row) Answer
keyring_told (Ok rows) = Ok rows
keyring_told (Err fault) = Err (refused (codes "keyring") (keyring_reason fault))

-- the rows of a keyring: it is judged after the password was read
abbrev pub keyring_rows : List ℕ → List ℕ → Result (List Row) Answer
keyring_rows keyring password = do
  text ← within Keyring keyring
  secret ← within Password password
  keyring_told (keyring_of text (password_of secret))

-- the answer of an audit under a keyring, its password and tables
abbrev pub keyring_answer : List ℕ → List ℕ → List ℕ → List ℕ → Answer
keyring_answer keyring password tables frames =
    answer_from (keyring_rows keyring password) (λ under. tables_answer (Some under) tables frames)
