-- Statement: which records a file has. In a list of frames each line that is not skipped is one word, the octets of a
-- record in hexadecimal; in a recorded log each element named Telegram is a record.
use Rattle.std.specs.Prelude.{◌≡◌, ℕ, ◌+◌, nat_lt, Bool, true, false, if◌then◌else◌, List, [], ◌∷◌, ◌++◌, length, map, Option, Some, None, IsSome, Result, Ok, Err}
use Rattle.std.specs.List.{filter_map}
use Rattle.std.specs.Str.Lines.{lines}
use Rattle.hex.specs.Hex.{decode_of}
use Rattle.hex.specs.declared.error.FromHexError.{FromHexError}
use Rattle.text_lines.specs.Lines.{line_of}
use Rattle.knx_base.specs.declared.cause.Cause.{Cause}
use Rattle.knx_base.specs.declared.cause.Cause.TheVariants as cause
use Rattle.frame_file.specs.declared.fault.RecordFault.{RecordFault}
use Rattle.frame_file.specs.declared.fault.RecordFault.TheVariants.{Line, LongLine, TooMany}
use Rattle.frame_file.specs.Lists.{RecordList, untimed, no_records, refused_by, with_record}
use Rattle.frame_file.specs.Logs.{is_log, log_of}

-- the most records that a list may have
abbrev pub most_records : ℕ
most_records = 10000000

-- ---- what one line says: nothing, the octets of a record, or the cause why it is refused

abbrev pub record_of_digits : Result (List ℕ) FromHexError → Result (Option (List ℕ)) Cause
record_of_digits (Ok octets) = Ok (Some octets)
record_of_digits (Err fault) = Err cause.Digits

abbrev pub record_of_words : List (List ℕ) → Result (Option (List ℕ)) Cause
record_of_words [] = Err cause.Words
record_of_words (word ∷ []) = record_of_digits (decode_of word)
record_of_words (word ∷ next ∷ words) = Err cause.Words

abbrev pub record_of_judged : Result (Option (List (List ℕ))) Cause → Result (Option (List ℕ)) Cause
record_of_judged (Ok None) = Ok None
record_of_judged (Ok (Some words)) = record_of_words words
record_of_judged (Err fault) = Err fault

abbrev pub record_of : List ℕ → Result (Option (List ℕ)) Cause
record_of line = record_of_judged (line_of line)

-- the answer that a line says a record, with the octets that were taken from it
abbrev pub said_by : Result Bool Cause → List ℕ → Result (Option (List ℕ)) Cause
said_by (Ok true) octets = Ok (Some octets)
said_by (Ok false) octets = Ok None
said_by (Err fault) octets = Err fault

-- ---- the list

-- the refusal of the line of this number
abbrev pub refusal_of : ℕ → Cause → RecordFault
refusal_of number cause.Long = LongLine number
refusal_of number fault = Line number fault

-- how many records a line says
abbrev pub records_in : Result (Option (List ℕ)) Cause → ℕ
records_in (Ok None) = 0
records_in (Ok (Some octets)) = 1
records_in (Err fault) = 0

-- the list from a line of this number on, where so many records stand before it
abbrev pub from_line : ℕ → ℕ → Result (Option (List ℕ)) Cause → RecordList → RecordList
from_line number before (Ok None) rest = rest
from_line number before (Ok (Some octets)) rest =
    if nat_lt before most_records then with_record (untimed octets) rest else refused_by (TooMany number)
from_line number before (Err fault) rest = refused_by (refusal_of number fault)

-- the list that these lines say, where so many lines and records stand before them
abbrev pub records_from : ℕ → ℕ → List (List ℕ) → RecordList
records_from lines_before before [] = no_records
records_from lines_before before (line ∷ rest) =
    from_line (lines_before + 1) before (record_of line) (records_from (lines_before + 1)
    (before + records_in (record_of line)) rest)

-- the list of a list of frames with these octets
abbrev pub listed_in : List ℕ → RecordList
listed_in octets = records_from 0 0 (lines octets)

-- ---- the same, said of all lines at once

abbrev pub octets_said : Result (Option (List ℕ)) Cause → Option (List ℕ)
octets_said (Ok said) = said
octets_said (Err fault) = None

-- the octets of the records that lines say
abbrev pub said_in : List (List ℕ) → List (List ℕ)
said_in lines = filter_map (λ line. octets_said (record_of line)) lines

-- why the line of this number, which says this, may not stand after so many records
abbrev pub refusal : ℕ → ℕ → Result (Option (List ℕ)) Cause → Option RecordFault
refusal number before (Err fault) = Some (refusal_of number fault)
refusal number before (Ok None) = None
refusal number before (Ok (Some octets)) = if nat_lt before most_records then None else Some (TooMany number)

-- why a line may not stand right after these
abbrev pub refusal_after : List (List ℕ) → List ℕ → Option RecordFault
refusal_after before line = refusal (length before + 1) (length (said_in before)) (record_of line)

-- each of these lines may stand after those before it
abbrev pub Stand : List (List ℕ) → List (List ℕ) → Type 0
Stand before [] = Unit {0}
Stand before (line ∷ lines) = (refusal_after before line ≡ None) × Stand (before ++ line ∷ []) lines

-- where a line is left, it is refused right after these
abbrev pub IsRefusedAfter : List (List ℕ) → List (List ℕ) → Option RecordFault → Type 0
IsRefusedAfter before [] refused = refused ≡ None
IsRefusedAfter before (line ∷ lines) refused = IsSome refused × (refused ≡ refusal_after before line)

-- The records are those that the lines before the first refused one say, and its refusal stands behind them.
pub record IsListOf (lines : List (List ℕ)) (list : RecordList) : Type 0 where
  pub standing : List (List ℕ)
  pub left : List (List ℕ)
  pub lines_are : lines ≡ standing ++ left
  pub stand : Stand [] standing
  pub records_are : list.records ≡ map untimed (said_in standing)
  pub refused_is : IsRefusedAfter standing left list.refused

-- ---- of either kind

-- the list of a file with these octets
unfoldable pub records_of : List ℕ → RecordList
records_of octets = if is_log octets then log_of octets else listed_in octets
