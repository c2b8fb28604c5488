-- Statement: records, and a list of them up to a refusal.
use Rattle.std.specs.Prelude.{ℕ, ℤ, List, [], ◌∷◌, Option, Some, None}
use Rattle.frame_file.specs.declared.fault.RecordFault.{RecordFault}
use Rattle.frame_file.specs.declared.fault.RecordFault.TheVariants.{Tag, ReadFault, NoMemory}
use Rattle.tag_text.specs.declared.tag.TagFault.TheVariants as tag

-- a record: its octets, and its time where that is told, in milliseconds since 1970-01-01T00:00:00Z
pub record Entry : Type 0 where
  pub time : Option ℤ
  pub octets : List ℕ

-- a record whose time is not told
abbrev pub untimed : List ℕ → Entry
untimed octets = record { time = None; octets = octets }

-- the records up to the end, or up to the first refusal and that refusal
pub record RecordList : Type 0 where
  pub records : List Entry
  pub refused : Option RecordFault

abbrev pub no_records : RecordList
no_records = record { records = []; refused = None }

abbrev pub refused_by : RecordFault → RecordList
refused_by fault = record { records = []; refused = Some fault }

abbrev pub with_record : Entry → RecordList → RecordList
with_record entry list = record { records = entry ∷ list.records; refused = list.refused }

-- a fault of what a file says, and of neither the files nor the memory
abbrev pub IsOfText : RecordFault → Type 0
IsOfText ReadFault = ⊥
IsOfText NoMemory = ⊥
IsOfText (Tag tag.NoMemory) = ⊥
IsOfText fault = Unit {0}
