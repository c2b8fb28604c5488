-- The numbers of the telegrams that a node acts on. This is statement.
use Rattle.std.specs.Prelude.{◌≡◌, ℕ, ◌<◌, List, [], ◌∷◌, true, Option, Some, None, IfSome, if◌then◌else◌}
use Rattle.std.specs.List.{AllPairs}
use Rattle.key_tables.specs.declared.types.Lane.{Lane}
use Rattle.key_tables.specs.Lanes.{same_lane}
use Rattle.node_core.specs.Standing.{place_in, mark_at}
use Rattle.script_text.specs.declared.event.Event.{Event}
use Rattle.step_text.specs.declared.outcome.Entry.{Entry}
use Rattle.step_text.specs.declared.outcome.Entry.TheVariants as entry
use Rattle.step_text.specs.declared.outcome.Step.{Step}
use Rattle.step_text.specs.declared.outcome.StepOutcome.{StepOutcome}
use Rattle.step_text.specs.declared.outcome.StepOutcome.TheVariants as outcome
use Rattle.install_run.specs.Machine.{WorldAt, node_in}
use Rattle.install_run.specs.Marks.{marks_at}
use Rattle.install_run.specs.Runs.{place_of, is_at, after, step_of, journal_of}

-- the mark of a lane of the node at this place
abbrev pub mark_on : WorldAt → ℕ → Lane → ℕ
mark_on w place lane = mark_at (marks_at w place) (place_in (node_in w place).config lane)

-- the number and the lane of a telegram that was acted on
abbrev pub acted_in : StepOutcome → Option (ℕ × Lane)
acted_in (outcome.Acted number lane act reply) = Some (number, lane)
acted_in _ = None

-- What the node at this place acts on in one of these steps is above the mark of its lane before that step.
abbrev pub ExceedsMarks : ℕ → List Event → WorldAt → Type 0
ExceedsMarks place [] w = Unit {0}
ExceedsMarks place (e ∷ events) w =
    (is_at place (place_of e) ≡ true
    → IfSome (acted_in (step_of e w).outcome) (λ acted. mark_on w place acted.1 < acted.0))
    × ExceedsMarks place events (after e w)

-- the numbers of a journal's telegrams of this lane, in their order
abbrev pub numbers_on : Lane → List Entry → List ℕ
numbers_on lane [] = []
numbers_on lane (entry.Set object value ∷ entries) = numbers_on lane entries
numbers_on lane (entry.Telegram telegram number its act ∷ entries) =
    if same_lane lane its then number ∷ numbers_on lane entries else numbers_on lane entries

-- They rise strictly, so no telegram is acted on twice.
abbrev pub JournalRises : ℕ → List Step → Type 0
JournalRises place history =
    (lane : Lane) → AllPairs (λ early late. early < late) (numbers_on lane (journal_of place history))
