-- Statement: what a reader of records shows, and what a call for the next record does. Nothing is said of what it has
-- read ahead.
use Rattle.std.specs.Prelude.{◌≡◌, ◌≢◌, ℕ, ◌+◌, ◌≤◌, ◌⊎◌, Bool, true, false, List, [], drop, Option, Some, None, IsSome, Result, Ok, Err}
use Rattle.knx_base.specs.Faults.{Rose}
use Rattle.knx_base.specs.Files.{Seen, last_place}
use Rattle.text_lines.specs.Reading.{WhereTold, GoesOn, OthersStay}
use Rattle.frame_file.specs.Ahead.{Ahead, left_by}
use Rattle.frame_file.specs.Lists.{Entry, RecordList, no_records, refused_by, with_record}
use Rattle.frame_file.specs.Logs.{is_log, most_logged}
use Rattle.frame_file.specs.Records.{most_records, records_of}
use Rattle.frame_file.specs.declared.fault.RecordFault.{RecordFault}
use Rattle.frame_file.specs.declared.fault.RecordFault.TheVariants.{Tag, ReadFault, NoMemory}
use Rattle.tag_text.specs.declared.tag.TagFault.TheVariants as tag

pub record RecordsState : Type 0 where
  -- the fault that is answered from now on
  pub fault : Option RecordFault
  -- how many records were given, and the last of them
  pub given : ℕ
  pub last : Entry
  -- whether it is known of which kind the file is, and whether it is a log, which is read to its end at the first call
  pub begun : Bool
  pub log : Bool
  -- at least so many octets of the file were read
  pub read : ℕ
  -- what was read ahead, of which nothing is seen but the records that are left
  pub ahead : Ahead

-- the records that it would still give, and the refusal, were these octets all that is still to be read of the file
abbrev pub left : RecordsState → List ℕ → RecordList
left state unread = left_by state.ahead unread

-- the records that are still to be given of a file with these octets
abbrev pub left_of : Seen → RecordsState → List ℕ → RecordList
left_of seen state octets = left state (drop seen.place octets)

-- nothing was read, and all records of the file are left
pub record IsFresh (state : RecordsState) : Type 0 where
  pub no_fault : state.fault ≡ None
  pub none_given : state.given ≡ 0
  pub not_begun : state.begun ≡ false
  pub no_log : state.log ≡ false
  pub none_read : state.read ≡ 0
  pub all_left : (octets : List ℕ) → left state octets ≡ records_of octets

-- the file is current and was read by this value alone
pub record IsAtPlace (seen : Seen) (state : RecordsState) : Type 0 where
  pub current : IsSome seen.current
  pub read : state.read ≤ seen.place
  pub last : seen.place ≤ last_place
  pub whole : state.log ≡ true → WhereTold seen (λ octets. drop seen.place octets ≡ [])

-- after a fault nothing is asked
abbrev pub IsReading : Seen → RecordsState → Type 0
IsReading seen state = state.fault ≡ None → IsAtPlace seen state

-- the current file was read on without a fault, and nothing else was
abbrev pub ReadsOn : Seen → Seen → Type 0
ReadsOn seen later = GoesOn seen later [] [] 0

-- how many records a file of this kind may have: a log has no more than octets
abbrev pub most_given : Bool → ℕ
most_given true = most_logged
most_given false = most_records

-- the next record was given, which was the first of those that were left
pub record TakesRecord (seen later : Seen) (old new : RecordsState) (number : ℕ) (entry : Entry) : Type 0 where
  pub no_fault : old.fault ≡ None
  pub still_none : new.fault ≡ None
  pub reads : ReadsOn seen later
  pub at : IsAtPlace later new
  pub number_is : (number ≡ old.given + 1) × (new.given ≡ number)
  pub few : number ≤ most_given new.log
  pub last_is : new.last ≡ entry
  pub left_is : WhereTold seen (λ octets. left_of seen old octets ≡ with_record entry (left_of later new octets))

-- all records were given, and the file was read to its end
pub record Ends (seen later : Seen) (old new : RecordsState) : Type 0 where
  pub no_fault : old.fault ≡ None
  pub still_none : new.fault ≡ None
  pub reads : ReadsOn seen later
  pub at : IsAtPlace later new
  pub counted : new.given ≡ old.given
  pub none_left : WhereTold seen (λ octets. (left_of seen old octets ≡ no_records)
      × (left_of later new octets ≡ no_records))
  pub whole : WhereTold seen (λ octets. drop later.place octets ≡ [])

-- memory is taken at the first call alone, and over a log alone
abbrev pub TakesMemory : Seen → RecordsState → Type 0
TakesMemory seen state = (state.begun ≡ false) × WhereTold seen (λ octets. is_log (drop seen.place octets) ≡ true)

-- The file is refused by this fault before any record that is left; or the files failed; or there was no memory, which
-- is never told as a fault of a document.
abbrev pub Refuses : Seen → Seen → RecordsState → RecordFault → Type 0
Refuses seen later state ReadFault = Rose seen.faults later.faults
Refuses seen later state NoMemory = TakesMemory seen state
Refuses seen later state (Tag tag.NoMemory) = ⊥
Refuses seen later state fault = WhereTold seen (λ octets. left_of seen state octets ≡ refused_by fault)

-- What a fault leaves: the files tell the same, no record was given, and no place changed but in the current file,
-- which was read on unless the files failed.
pub record Leaves (seen later : Seen) (old new : RecordsState) (fault : RecordFault) : Type 0 where
  pub told : later.told ≡ seen.told
  pub counted : new.given ≡ old.given
  pub others : OthersStay seen later
  pub reads : fault ≢ ReadFault → ReadsOn seen later

-- A fault is answered, and from now on. It was answered before and nothing is asked, or the file is refused by it here,
-- or the files failed.
pub record Fails (seen later : Seen) (old new : RecordsState) (fault : RecordFault) : Type 0 where
  pub kept : new.fault ≡ Some fault
  pub cause : (old.fault ≡ Some fault) ⊎ ((old.fault ≡ None) × Refuses seen later old fault)
  pub again : IsSome old.fault → (later ≡ seen) × (new ≡ old)
  pub first : old.fault ≡ None → Leaves seen later old new fault

-- whether there is one more record, which is the last that the new state shows
abbrev pub Goes : Seen → Seen → RecordsState → RecordsState → Result Bool RecordFault → Type 0
Goes seen later old new (Ok true) = TakesRecord seen later old new new.given new.last
Goes seen later old new (Ok false) = Ends seen later old new
Goes seen later old new (Err fault) = Fails seen later old new fault
