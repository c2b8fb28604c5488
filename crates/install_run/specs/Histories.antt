-- What a history tells of the numbers of a node, by the outcomes of its steps alone. This is statement.
use Rattle.std.specs.Prelude.{◌≡◌, ℕ, ◌+◌, ◌-◌, ◌<◌, ◌≤◌, List, [], ◌∷◌, ◌++◌, Option, None, IfSome, slice_index, if◌then◌else◌}
use Rattle.std.specs.List.{All, AllPairs}
use Rattle.seq_store.specs.Draws.{reservation_for}
use Rattle.script_text.specs.declared.node_row.NodeRow.{NodeRow}
use Rattle.step_text.specs.declared.outcome.Step.{Step}
use Rattle.step_text.specs.declared.outcome.StepOutcome.{StepOutcome}
use Rattle.step_text.specs.declared.outcome.StepOutcome.TheVariants as outcome
use Rattle.install_run.specs.Machine.{has_telegram}
use Rattle.install_run.specs.Runs.{place_of, is_at}

-- what came of the events of the node at this place
abbrev pub outcomes_of : ℕ → List Step → List StepOutcome
outcomes_of place [] = []
outcomes_of place (step ∷ steps) =
    if is_at place (place_of step.event) then step.outcome ∷ outcomes_of place steps else outcomes_of place steps

-- ---- the next number, and the last reserved one

-- A start and a synchronisation tell the next number, and a telegram that the node puts on the air takes one.
abbrev pub next_after : ℕ → StepOutcome → ℕ
next_after next (outcome.On first marks) = first
next_after next (outcome.Synced number kept then_next) = then_next
next_after next said = if has_telegram said then next + 1 else next

-- A start goes on above the last reserved number, and a number that is drawn is reserved first.
abbrev pub reserved_after : ℕ → ℕ → StepOutcome → ℕ
reserved_after reserved next (outcome.On first marks) = first - 1
reserved_after reserved next said = if has_telegram said then reservation_for reserved next else reserved

-- ---- marks

-- no mark is below the one before
abbrev pub NoneFalls : List ℕ → List ℕ → Type 0
NoneFalls old new = (lane : ℕ) → slice_index old lane ≤ slice_index new lane

-- ---- the numbers that are drawn

-- a number that was drawn for a telegram, and the last reserved number after that step
pub record Draw : Type 0 where
  pub number : ℕ
  pub reserved : ℕ

abbrev pub draw_of : ℕ → ℕ → StepOutcome → List Draw
draw_of reserved next said =
    if has_telegram said then record { number = next; reserved = reservation_for reserved next } ∷ [] else []

-- those of these outcomes, where the numbers up to the reserved one were reserved before, and the next is this one
abbrev pub draws : ℕ → ℕ → List StepOutcome → List Draw
draws reserved next [] = []
draws reserved next (said ∷ later) =
    draw_of reserved next said ++ draws (reserved_after reserved next said) (next_after next said) later

-- the number under which an outcome says that the node sealed
abbrev pub number_said : StepOutcome → Option ℕ
number_said (outcome.Air telegram number) = number
number_said _ = None

-- each outcome that says a number says the next one
abbrev pub SayTheNext : ℕ → List StepOutcome → Type 0
SayTheNext next [] = Unit {0}
SayTheNext next (said ∷ later) =
    IfSome (number_said said) (λ number. number ≡ next) × SayTheNext (next_after next said) later

-- ---- of a node of a script

abbrev pub drawn_by : ℕ → NodeRow → List Step → List Draw
drawn_by place row history = draws (row.next - 1) row.next (outcomes_of place history)

-- The numbers that the node at this place draws rise strictly, so it seals no two telegrams under one; each is reserved
-- by then; and where an outcome says a number it is that one.
pub record DrawsOnce (place : ℕ) (row : NodeRow) (history : List Step) : Type 0 where
  pub rise : AllPairs (λ (early late : Draw). early.number < late.number) (drawn_by place row history)
  pub reserved : All (λ (draw : Draw). draw.number ≤ draw.reserved) (drawn_by place row history)
  pub said : SayTheNext row.next (outcomes_of place history)
