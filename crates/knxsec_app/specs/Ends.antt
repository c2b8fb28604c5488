-- Plumbing: how a status came about, where files were read and a report was written.
use Rattle.std.specs.Prelude.{◌≡◌, ◌≢◌, ◌⊎◌, ℕ, ◌≤◌, List, [], ◌∷◌, length, Option, Some, IsSome, Result, Ok, Err}
use Rattle.knx_base.specs.Faults.{Rose}
use Rattle.knx_base.specs.Files.{Seen}
use Rattle.text_lines.specs.Reading.{WhereTold}
use Rattle.knxsec_app.specs.declared.status.Status.{Status}
use Rattle.knxsec_app.specs.declared.status.Status.TheVariants.{Done, Usage, ReadFault, WriteFault, NoMemory}
use Rattle.knxsec_app.specs.Answer.{Answer, Answers}
use Rattle.knxsec_app.specs.Commands.{IsServed, OpensJust}
use Rattle.knxsec_app.specs.Counted.{IsCounted}

-- by a sink alone, whose counts of faults these are
pub record EndsWriting (before now : ℕ) (status : Status) : Type 0 where
  pub no_reading : status ≢ ReadFault
  pub no_memory : status ≢ NoMemory
  pub write_fault : status ≡ WriteFault → Rose before now
  pub kept : status ≢ WriteFault → now ≡ before
  pub later : before ≤ now

-- by a sink and memory
pub record EndsTelling (before now : ℕ) (status : Status) : Type 0 where
  pub no_usage : status ≢ Usage
  pub no_reading : status ≢ ReadFault
  pub write_fault : status ≡ WriteFault → Rose before now
  pub kept : status ≢ WriteFault → now ≡ before
  pub later : before ≤ now

-- by a sink and memory, after a fault of reading too
pub record EndsPage (before now : ℕ) (status : Status) : Type 0 where
  pub no_usage : status ≢ Usage
  pub write_fault : status ≡ WriteFault → Rose before now
  pub kept : status ≢ ReadFault → status ≢ WriteFault → now ≡ before
  pub later : before ≤ now

-- by files, a sink and memory
pub record EndsReading (seen later_seen : Seen) (before now : ℕ) (status : Status) : Type 0 where
  pub no_usage : status ≢ Usage
  pub counted : IsCounted seen later_seen before now status

-- The current file was read from its start to its end, and no other file.
pub record ReadsToEnd (old new : Seen) : Type 0 where
  pub end : WhereTold old (λ octets. new.place ≡ length octets)
  pub placed : (name : List ℕ) → old.current ≡ Some name → IsSome old.told → old.places name ≡ old.place
      → new.places name ≡ new.place
  pub others : (other : List ℕ) → old.current ≢ Some other → new.places other ≡ old.places other

-- ---- a call for a value that the report needs

-- the status so far: that of a call that stopped, else all is done
abbrev pub status_of : {A : Type 0} → Result A Status → Status
status_of (Ok value) = Done
status_of (Err status) = status

-- The call stopped with this status: the files or memory failed and nothing was written, or the refusal in the value's
-- place was told.
abbrev pub Stops : {A : Type 0} → Result A Answer → Status → Option (List ℕ) → Option (List ℕ) → Type 0
Stops expected status old new =
    ((IsServed status → ⊥) × (new ≡ old)) ⊎ ((refusal : Answer) × (expected ≡ Err refusal)
    × Answers refusal status old new)

-- the file of this name was opened, once, and no other
abbrev pub OpensOne : Seen → Seen → List ℕ → Type 0
OpensOne old new name = IsSome old.told → OpensJust (name ∷ []) old new
