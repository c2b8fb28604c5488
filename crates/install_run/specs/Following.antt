-- The next number, the reservation and the open challenge of a node, by its outcomes alone. This is statement.
use Rattle.std.specs.Prelude.{◌≡◌, ℕ, ◌+◌, ◌-◌, max, List, [], ◌∷◌, Some, None, if◌then◌else◌}
use Rattle.sync_service.specs.Open.{Pending}
use Rattle.node_core.specs.Standing.{Standing}
use Rattle.script_text.specs.declared.event.Event.{Event}
use Rattle.script_text.specs.declared.event.Event.TheVariants as event
use Rattle.script_text.specs.declared.node_row.NodeRow.{NodeRow}
use Rattle.step_text.specs.declared.outcome.Step.{Step}
use Rattle.step_text.specs.declared.outcome.StepOutcome.{StepOutcome}
use Rattle.step_text.specs.declared.outcome.StepOutcome.TheVariants as outcome
use Rattle.install_run.specs.Histories.{next_after, reserved_after}
use Rattle.install_run.specs.Machine.{WorldAt, node_in}
use Rattle.install_run.specs.Runs.{place_of, is_at}

-- what the steps of the node at this place make of something, each by its event and outcome
abbrev pub by_steps : {X : Type 0} → (Event → StepOutcome → X → X) → ℕ → List Step → X → X
by_steps later place [] x = x
by_steps later place (step ∷ steps) x =
    by_steps later place steps
    (if is_at place (place_of step.event) then later step.event step.outcome x else x)

-- ---- the next number, and the last reserved one

pub record Counter : Type 0 where
  pub reserved : ℕ
  pub next : ℕ

-- as an outcome is counted, and in a synchronisation by the number that its answer says was kept
abbrev pub next_counted : ℕ → StepOutcome → ℕ
next_counted next (outcome.Synced number kept told) = max next (kept + 1)
next_counted next said = next_after next said

abbrev pub counted : Event → StepOutcome → Counter → Counter
counted e said c =
    record { reserved = reserved_after c.reserved c.next said; next = next_counted c.next said }

-- A node that runs counts on from the script's next number by what its outcomes tell.
abbrev pub CountsOn : ℕ → NodeRow → WorldAt → List Step → Type 0
CountsOn place row w history =
    (s : Standing) → (node_in w place).standing ≡ Some s
    → record { reserved = s.numbers.reserved; next = s.next }
    ≡ by_steps counted place history (record { reserved = row.next - 1; next = row.next })

-- ---- the open challenge

-- a request opens its challenge
abbrev pub asks : Event → Pending → Pending
asks (event.Ask node to challenge) pending = Some (record { peer = to; challenge = challenge })
asks e pending = pending

-- where it was put on the air; the answer closes it, and so does a start
abbrev pub asked_after : Event → StepOutcome → Pending → Pending
asked_after e (outcome.Air telegram number) pending = asks e pending
asked_after e (outcome.Synced number kept next) pending = None
asked_after e (outcome.On next marks) pending = None
asked_after e said pending = pending

-- The open challenge of a node that runs is that of its last request since its start, unless its answer was taken.
abbrev pub AsksOnce : ℕ → WorldAt → List Step → Type 0
AsksOnce place w history =
    (s : Standing) → (node_in w place).standing ≡ Some s → s.pending ≡ by_steps asked_after place history None
