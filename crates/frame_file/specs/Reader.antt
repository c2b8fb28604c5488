-- Plumbing: what a reader of records does, said by what is held and what is left: the records that are still to be
-- given, and the refusal.
use Rattle.std.specs.Prelude.{◌≡◌, ◌≢◌, ℕ, ◌+◌, ◌≤◌, Bool, true, false, List, [], ◌∷◌, length, drop, IsSome, IfSome, Result, Ok, Err}
use Rattle.std.specs.Str.Lines.{lines}
use Rattle.knx_base.specs.Faults.{Rose}
use Rattle.knx_base.specs.Files.{Seen, last_place}
use Rattle.text_lines.specs.Reading.{WhereTold, GoesOn, OthersStay, ahead}
use Rattle.frame_file.specs.Lists.{Entry, RecordList, IsOfText, no_records, refused_by, with_record}
use Rattle.frame_file.specs.Logs.{is_log, most_logged}
use Rattle.frame_file.specs.Records.{most_records, records_from, records_of}
use Rattle.frame_file.specs.declared.stage.Stage.{Stage}
use Rattle.frame_file.specs.declared.stage.Stage.TheVariants.{Start, Lines, Log}
use Rattle.frame_file.specs.declared.fault.RecordFault.{RecordFault}
use Rattle.frame_file.specs.declared.fault.RecordFault.TheVariants.{Tag, ReadFault, NoMemory}
use Rattle.tag_text.specs.declared.tag.TagFault.TheVariants as tag
use Rattle.frame_file.specs.declared.reader.Step.{Step}
use Rattle.frame_file.specs.declared.reader.Step.TheVariants.{Given, Skipped, End}

-- which kind of file is read, if that is known; how many lines were read and records given, the octets that were read
-- and not yet taken, and the last record
pub record ReaderState : Type 0 where
  pub stage : Stage
  pub lines : ℕ
  pub given : ℕ
  pub held : List ℕ
  pub record_ : Entry

-- Before the first octet nothing was given. A log was read to its end, and its records are no more than its octets may
-- be.
abbrev pub IsAtStage : Seen → ReaderState → Stage → Type 0
IsAtStage seen state Start = (state.given ≡ 0) × (state.held ≡ [])
IsAtStage seen state Lines = Unit {0}
IsAtStage seen state (Log list) = (state.given + length list.records ≤ most_logged)
    × IfSome list.refused IsOfText × WhereTold seen (λ octets. drop seen.place octets ≡ [])

-- The file is current and was read by this reader alone: no line is shorter than an octet, so the lines are no more
-- than the octets that were taken.
pub record IsAt (seen : Seen) (state : ReaderState) : Type 0 where
  pub current : IsSome seen.current
  pub counted : state.lines + length state.held ≤ seen.place
  pub last : seen.place ≤ last_place
  pub stage : IsAtStage seen state state.stage

-- what is left, of the octets that are ahead
abbrev pub left_ahead : Stage → ReaderState → List ℕ → RecordList
left_ahead Start state octets = records_of octets
left_ahead Lines state octets = records_from state.lines state.given (lines octets)
left_ahead (Log list) state octets = list

-- of a file with these octets, the records that are still to be given
abbrev pub left : Seen → ReaderState → List ℕ → RecordList
left seen state octets = left_ahead state.stage state (ahead seen state.held octets)

-- how many octets an answer takes at the least: a log was read whole before
abbrev pub least_taken : Stage → ℕ
least_taken (Log list) = 0
least_taken _ = 1

-- how many records may be given
abbrev pub most_given : Stage → ℕ
most_given Lines = most_records
most_given _ = most_logged

-- one more record was given, the first of those that were left
pub record GivesRecord (seen later : Seen) (old new : ReaderState) : Type 0 where
  pub goes : GoesOn seen later old.held new.held (least_taken old.stage)
  pub at : IsAt later new
  pub counted : new.given ≡ old.given + 1
  pub few : new.given ≤ most_given new.stage
  pub left_is : WhereTold seen (λ octets. left seen old octets ≡ with_record new.record_ (left later new octets))

-- no record was given, and the same ones are left
pub record SkipsLine (seen later : Seen) (old new : ReaderState) : Type 0 where
  pub known : new.stage ≢ Start
  pub goes : GoesOn seen later old.held new.held 1
  pub at : IsAt later new
  pub counted : new.given ≡ old.given
  pub left_is : WhereTold seen (λ octets. left seen old octets ≡ left later new octets)

-- no record is left, and the file was read to its end
pub record FindsEnd (seen later : Seen) (old new : ReaderState) : Type 0 where
  pub goes : GoesOn seen later old.held new.held 0
  pub at : IsAt later new
  pub counted : new.given ≡ old.given
  pub none_left : WhereTold seen (λ octets. (left seen old octets ≡ no_records) × (left later new octets ≡ no_records))
  pub whole : WhereTold seen (λ octets. drop later.place octets ≡ [])

-- nothing takes memory but the beginning of a log
abbrev pub TakesMemory : Seen → ReaderState → Type 0
TakesMemory seen state = (state.stage ≡ Start) × WhereTold seen (λ octets. is_log (ahead seen state.held octets) ≡ true)

-- The file is refused by this fault before any record that is left; or the files failed; or there was no memory, which
-- is never told as a fault of a document.
abbrev pub Refuses : Seen → Seen → ReaderState → RecordFault → Type 0
Refuses seen later state ReadFault = Rose seen.faults later.faults
Refuses seen later state NoMemory = TakesMemory seen state
Refuses seen later state (Tag tag.NoMemory) = ⊥
Refuses seen later state fault = WhereTold seen (λ octets. left seen state octets ≡ refused_by fault)

-- What a fault leaves: the files tell the same, no record was given, and no place changed but in the current file,
-- which was read on unless the files failed.
pub record Leaves (seen later : Seen) (old new : ReaderState) (fault : RecordFault) : Type 0 where
  pub told : later.told ≡ seen.told
  pub counted : new.given ≡ old.given
  pub others : OthersStay seen later
  pub goes : fault ≢ ReadFault → GoesOn seen later old.held new.held (least_taken old.stage)

-- the answer to: is there one more record?
abbrev pub Advances : Seen → Seen → ReaderState → ReaderState → Result Bool RecordFault → Type 0
Advances seen later old new (Ok true) = GivesRecord seen later old new
Advances seen later old new (Ok false) = FindsEnd seen later old new
Advances seen later old new (Err fault) = Refuses seen later old fault × Leaves seen later old new fault

-- ---- one line

-- a line said one more record, whatever lines follow it
pub record SaysRecord (old new : ReaderState) (line : List ℕ) : Type 0 where
  pub counted : new.given ≡ old.given + 1
  pub few : new.given ≤ most_records
  pub list : (rest : List (List ℕ)) → records_from old.lines old.given (line ∷ rest)
      ≡ with_record new.record_ (records_from new.lines new.given rest)

-- a line said nothing
pub record SaysNothing (old new : ReaderState) (line : List ℕ) : Type 0 where
  pub counted : new.given ≡ old.given
  pub list : (rest : List (List ℕ)) → records_from old.lines old.given (line ∷ rest)
      ≡ records_from new.lines new.given rest

-- a line was refused
pub record SaysFault (old new : ReaderState) (line : List ℕ) (fault : RecordFault) : Type 0 where
  pub text : IsOfText fault
  pub counted : new.given ≡ old.given
  pub list : (rest : List (List ℕ)) → records_from old.lines old.given (line ∷ rest) ≡ refused_by fault

abbrev pub TakesLine : ReaderState → ReaderState → List ℕ → Result Bool RecordFault → Type 0
TakesLine old new line (Ok true) = SaysRecord old new line
TakesLine old new line (Ok false) = SaysNothing old new line
TakesLine old new line (Err fault) = SaysFault old new line fault

-- ---- one step: a record, a line without one, or the end

abbrev pub Steps : Seen → Seen → ReaderState → ReaderState → Result Step RecordFault → Type 0
Steps seen later old new (Ok Given) = GivesRecord seen later old new
Steps seen later old new (Ok Skipped) = SkipsLine seen later old new
Steps seen later old new (Ok End) = FindsEnd seen later old new
Steps seen later old new (Err fault) = Refuses seen later old fault × Leaves seen later old new fault
