-- Starts in a history that arms nothing. This is statement.
use Rattle.std.specs.Prelude.{◌≡◌, ℕ, ◌+◌, List, [], ◌∷◌, Bool, true, false}
use Rattle.script_text.specs.declared.event.Event.{Event}
use Rattle.script_text.specs.declared.event.Event.TheVariants as event
use Rattle.step_text.specs.declared.outcome.Step.{Step}
use Rattle.step_text.specs.declared.outcome.StepOutcome.{StepOutcome}
use Rattle.step_text.specs.declared.outcome.StepOutcome.TheVariants as outcome
use Rattle.install_run.specs.Legal.{Told, told_in, told_after}

abbrev pub arms : Event → Bool
arms (event.Cut node write torn) = true
arms (event.Fault node write torn) = true
arms e = false

-- No event arms a cut or a fault.
abbrev pub NoneArms : List Step → Type 0
NoneArms [] = Unit {0}
NoneArms (step ∷ steps) = (arms step.event ≡ false) × NoneArms steps

-- A start tells the marks that the node had when it stopped, and goes on right above what it had reserved.
abbrev pub StartsAsKept : Event → StepOutcome → Told → Type 0
StartsAsKept (event.On node) said told =
    (next : ℕ) (marks : List ℕ) → said ≡ outcome.On next marks
    → (let t = told_in told node in (next ≡ t.stopped.reserved + 1) × (marks ≡ t.stopped.marks))
StartsAsKept e said told = Unit {0}

-- each start in these steps after this
abbrev pub AllStartAsKept : List Step → Told → Type 0
AllStartAsKept [] told = Unit {0}
AllStartAsKept (step ∷ steps) told =
    StartsAsKept step.event step.outcome told × AllStartAsKept steps (told_after step told)
