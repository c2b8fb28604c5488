-- How the records of a log come one after the other: plumbing for proofs.
use Rattle.std.specs.Prelude.{◌≡◌, ℕ, ℤ, ◌<◌, List, ◌++◌, length, Option, Some, None, Result, Ok, Err}
use Rattle.tag_text.specs.Document.{Left}
use Rattle.tag_text.specs.declared.tag.TagFault.{TagFault}
use Rattle.tag_text.specs.declared.tag.TagFault.TheVariants as tag
use Rattle.frame_file.specs.declared.fault.RecordFault.{RecordFault}
use Rattle.frame_file.specs.declared.fault.RecordFault.TheVariants as fault
use Rattle.frame_file.specs.Lists.{Entry, RecordList, IsOfText, no_records, refused_by, with_record}
use Rattle.frame_file.specs.Logs.{entries_of}

abbrev pub tag_refusal : TagFault → RecordFault
tag_refusal tag.NoMemory = fault.NoMemory
tag_refusal why = fault.Tag why

abbrev pub found_in : Result Entry RecordFault → Result (Option Entry) RecordFault
found_in (Ok entry) = Ok (Some entry)
found_in (Err why) = Err why

-- why no more of a log was read: its text, or the memory
abbrev pub IsOfReading : RecordFault → Type 0
IsOfReading fault.NoMemory = Unit {0}
IsOfReading why = IsOfText why

-- a reader of the document took the next record
abbrev pub TakesTelegram : Left → Left → Result (Option Entry) RecordFault → Type 0
TakesTelegram old new (Ok (Some entry)) =
    (entries_of old ≡ with_record entry (entries_of new)) × (length new.tags < length old.tags)
TakesTelegram old new (Ok None) = entries_of old ≡ no_records
TakesTelegram old new (Err fault.NoMemory) = Unit {0}
TakesTelegram old new (Err why) = entries_of old ≡ refused_by why

-- the records of these, and then the rest
abbrev pub with_records : List Entry → RecordList → RecordList
with_records entries list = record { records = entries ++ list.records; refused = list.refused }

-- the next of the records that are kept was given
abbrev pub GivesLogged : RecordList → RecordList → List ℕ → Result (Option ℤ) RecordFault → Type 0
GivesLogged old new octets (Ok (Some time)) = old ≡ with_record (record { time = Some time; octets = octets }) new
GivesLogged old new octets (Ok None) = (old ≡ no_records) × (new ≡ old)
GivesLogged old new octets (Err why) = (old ≡ refused_by why) × (new ≡ old)
