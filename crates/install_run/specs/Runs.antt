-- Lists of events: what an installation is after them, and their history. This is statement.
use Rattle.std.specs.Prelude.{ℕ, ◌==◌, List, [], ◌∷◌, ◌++◌, Bool, false, Option, Some, None, if◌then◌else◌}
use Rattle.group_objects.specs.Value.{ObjectValue}
use Rattle.script_text.specs.declared.event.Event.{Event}
use Rattle.script_text.specs.declared.event.Event.TheVariants as event
use Rattle.step_text.specs.declared.outcome.Entry.{Entry}
use Rattle.step_text.specs.declared.outcome.Entry.TheVariants as entry
use Rattle.step_text.specs.declared.outcome.Step.{Step}
use Rattle.step_text.specs.declared.outcome.StepOutcome.{StepOutcome}
use Rattle.step_text.specs.declared.outcome.StepOutcome.TheVariants as outcome
use Rattle.install_run.specs.Machine.{WorldAt, turn_of}

-- ---- events in turn

abbrev pub after : Event → WorldAt → WorldAt
after e w = (turn_of e w).world

-- an event, and what came of it
abbrev pub step_of : Event → WorldAt → Step
step_of e w = record { event = e; outcome = (turn_of e w).outcome }

abbrev pub world_after : List Event → WorldAt → WorldAt
world_after [] w = w
world_after (e ∷ events) w = world_after events (after e w)

abbrev pub history_of : List Event → WorldAt → List Step
history_of [] w = []
history_of (e ∷ events) w = step_of e w ∷ history_of events (after e w)

-- ---- journals

-- the node of an event that comes to one
abbrev pub place_of : Event → Option ℕ
place_of (event.Set node object value) = Some node
place_of (event.Send node object service) = Some node
place_of (event.ToolSend node to apdu) = Some node
place_of (event.Ask node to challenge) = Some node
place_of (event.Deliver telegram node) = Some node
place_of (event.Lose telegram) = None
place_of (event.Inject octets) = None
place_of (event.Off node) = Some node
place_of (event.On node) = Some node
place_of (event.Cut node write torn) = Some node
place_of (event.Fault node write torn) = Some node

abbrev pub is_at : ℕ → Option ℕ → Bool
is_at place None = false
is_at place (Some node) = place == node

abbrev pub set_entry : ℕ → ObjectValue → StepOutcome → List Entry
set_entry object value outcome.Set = entry.Set object value ∷ []
set_entry object value _ = []

abbrev pub telegram_entry : ℕ → StepOutcome → List Entry
telegram_entry telegram (outcome.Acted number lane act reply) = entry.Telegram telegram number lane act ∷ []
telegram_entry telegram _ = []

-- what a step adds to the journal of its node
abbrev pub entries_of : Event → StepOutcome → List Entry
entries_of (event.Set node object value) said = set_entry object value said
entries_of (event.Deliver telegram node) said = telegram_entry telegram said
entries_of _ said = []

abbrev pub journal_of : ℕ → List Step → List Entry
journal_of place [] = []
journal_of place (step ∷ steps) =
    (if is_at place (place_of step.event) then entries_of step.event step.outcome else []) ++ journal_of place steps
