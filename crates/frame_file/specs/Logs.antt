-- Statement: recorded logs: element documents in which each element named Telegram, at any depth, is a record.
use Rattle.std.specs.Prelude.{ℕ, ℤ, pos, ◌==◌, ◌||◌, nat_lt, Bool, false, if◌then◌else◌, List, [], ◌∷◌, length, codes, Option, Some, None, Result, Ok, Err}
use Rattle.std.specs.Option.{option_map}
use Rattle.std.specs.Result.{result_ok}
use Rattle.std.specs.Int.{int_div_euclid}
use Rattle.std.specs.Str.{bytes_eq}
use Rattle.hex.specs.Hex.{decode_of}
use Rattle.jiff.specs.Words.{parse_timestamp}
use Rattle.tag_text.specs.Octets.{after_blanks}
use Rattle.tag_text.specs.Attributes.{value_named}
use Rattle.tag_text.specs.Document.{Left, after_order_mark, outcome_of}
use Rattle.tag_text.specs.declared.tag.Tag.{Tag}
use Rattle.tag_text.specs.declared.tag.Tag.TheVariants as tag
use Rattle.tag_text.specs.declared.tag.TagFault.{TagFault}
use Rattle.frame_file.specs.declared.fault.Field.TheVariants as field
use Rattle.frame_file.specs.declared.fault.RecordFault.{RecordFault}
use Rattle.frame_file.specs.declared.fault.RecordFault.TheVariants as fault
use Rattle.frame_file.specs.Lists.{Entry, RecordList, refused_by, with_record}

abbrev pub begins_tag : List ℕ → Bool
begins_tag [] = false
begins_tag (octet ∷ text) = octet == 60

-- a file is a log where its first octet, after a byte order mark at the start and white space, is `<`
abbrev pub is_log : List ℕ → Bool
is_log octets = begins_tag (after_blanks (after_order_mark octets))

-- the most octets that a log may have, 2^24
abbrev pub most_logged : ℕ
most_logged = 16777216

-- the whole milliseconds from 1970-01-01T00:00:00Z to the instant that a text names, rounded down. What is an instant
-- is what jiff reads as one, in nanoseconds
abbrev pub millisecond_of : List ℕ → Option ℤ
millisecond_of text =
    option_map (λ nanosecond. int_div_euclid nanosecond (pos 1000000)) (result_ok (parse_timestamp text))

-- the octets that 2 to 2,048 hexadecimal digits write, an even number of them
abbrev pub octets_of_digits : List ℕ → Option (List ℕ)
octets_of_digits digits =
    if length digits == 0 || nat_lt 2048 (length digits) then None else result_ok (decode_of digits)

-- ---- what the element at this place says

abbrev pub entry_of : ℕ → Option ℤ → Option (List ℕ) → Result Entry RecordFault
entry_of place None octets = Err (fault.Time place)
entry_of place (Some time) None = Err (fault.Digits place)
entry_of place (Some time) (Some octets) = Ok (record { time = Some time; octets = octets })

abbrev pub entry_told : ℕ → Option (List ℕ) → Option (List ℕ) → Result Entry RecordFault
entry_told place None digits = Err (fault.Missing field.Timestamp place)
entry_told place (Some text) None = Err (fault.Missing field.RawData place)
entry_told place (Some text) (Some digits) = entry_of place (millisecond_of text) (octets_of_digits digits)

abbrev pub telegram_of : List (List ℕ × List ℕ) → ℕ → Result Entry RecordFault
telegram_of attributes place =
    entry_told place (value_named attributes (codes "Timestamp")) (value_named attributes (codes "RawData"))

-- ---- the list

-- a record and then the rest, or the refusal
abbrev pub from_entry : Result Entry RecordFault → RecordList → RecordList
from_entry (Ok entry) rest = with_record entry rest
from_entry (Err why) rest = refused_by why

-- what an element adds to the list
abbrev pub from_element : List ℕ → List (List ℕ × List ℕ) → ℕ → RecordList → RecordList
from_element name attributes place rest =
    if bytes_eq name (codes "Telegram") then from_entry (telegram_of attributes place) rest else rest

-- the records of these starts and ends of elements, and then the fault of the document, if it has one
abbrev pub entries_in : List Tag → Option TagFault → RecordList
entries_in [] why = record { records = []; refused = option_map fault.Tag why }
entries_in (tag.Start name attributes place ∷ tags) why = from_element name attributes place (entries_in tags why)
entries_in (tag.End place ∷ tags) why = entries_in tags why
entries_in (tag.Finish ∷ tags) why = entries_in tags why

abbrev pub entries_of : Left → RecordList
entries_of left = entries_in left.tags left.fault

-- the list of a log with these octets
abbrev pub log_of : List ℕ → RecordList
log_of octets = if nat_lt most_logged (length octets) then refused_by fault.LongFile else entries_of (outcome_of octets)
