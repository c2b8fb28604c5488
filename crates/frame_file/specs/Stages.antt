-- What a reader of records does at each stage: plumbing for proofs.
use Rattle.std.specs.Prelude.{◌≡◌, ℕ, ◌+◌, Result, Ok, Err}
use Rattle.frame_file.specs.declared.fault.RecordFault.{RecordFault}
use Rattle.frame_file.specs.declared.reader.Step.{Step}
use Rattle.frame_file.specs.declared.reader.Step.TheVariants.{Given, Skipped, End}
use Rattle.frame_file.specs.declared.lead.LeadStep.{LeadStep}
use Rattle.frame_file.specs.declared.lead.LeadStep.TheVariants as shown
use Rattle.frame_file.specs.declared.stage.Stage.{Stage}
use Rattle.frame_file.specs.declared.stage.Stage.TheVariants as stage
use Rattle.frame_file.specs.Lists.{RecordList, no_records, refused_by, with_record}
use Rattle.frame_file.specs.Reader.{ReaderState}

abbrev pub IfLog : Stage → (RecordList → Type 0) → Type 0
IfLog stage.Start P = Unit {0}
IfLog stage.Lines P = Unit {0}
IfLog (stage.Log list) P = P list

abbrev pub IsStageLog : Stage → Type 0
IsStageLog stage.Start = ⊥
IsStageLog stage.Lines = ⊥
IsStageLog (stage.Log list) = Unit {0}

-- the list of the log that was begun
abbrev pub log_in : Stage → Result Step RecordFault → Result RecordList RecordFault
log_in reached (Err fault) = Err fault
log_in (stage.Log list) (Ok step) = Ok list
log_in _ (Ok step) = Ok no_records

abbrev pub SameButStage : ReaderState → ReaderState → Type 0
SameButStage old new = (new.lines ≡ old.lines) × (new.given ≡ old.given) × (new.record_ ≡ old.record_)

-- the next record of a log
abbrev pub GivesNext : RecordList → ReaderState → ReaderState → Result Step RecordFault → Type 0
GivesNext list old new (Ok Given) = (new.given ≡ old.given + 1) × (new.held ≡ old.held) × (new.lines ≡ old.lines)
    × IfLog new.stage (λ rest. list ≡ with_record new.record_ rest) × IsStageLog new.stage
GivesNext list old new (Ok Skipped) = ⊥
GivesNext list old new (Ok End) = (new.given ≡ old.given) × (new.held ≡ old.held) × (new.lines ≡ old.lines)
    × IfLog new.stage (λ rest. (list ≡ no_records) × (rest ≡ no_records)) × IsStageLog new.stage
GivesNext list old new (Err fault) = (new.given ≡ old.given) × (new.held ≡ old.held) × (list ≡ refused_by fault)

-- what an octet of the front shows, where it begins a list
abbrev pub step_of : Result LeadStep RecordFault → Result Step RecordFault
step_of (Ok shown.Given) = Ok Given
step_of (Ok shown.Skipped) = Ok Skipped
step_of (Ok _) = Ok End
step_of (Err fault) = Err fault

-- how many records were given then, at the first call
abbrev pub given_at_first : Result LeadStep RecordFault → ℕ
given_at_first (Ok shown.Given) = 1
given_at_first _ = 0
