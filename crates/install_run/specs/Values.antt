-- The values of a node's objects, by its journal. This is statement.
use Rattle.std.specs.Prelude.{◌≡◌, ℕ, List, [], ◌∷◌, slice_set, Some, if◌then◌else◌}
use Rattle.group_objects.specs.Objects.{first_values}
use Rattle.group_objects.specs.Value.{ObjectValue}
use Rattle.node_core.specs.declared.outcome.Act.TheVariants as act
use Rattle.node_core.specs.Standing.{Standing}
use Rattle.script_text.specs.declared.event.Event.{Event}
use Rattle.script_text.specs.declared.node_row.NodeRow.{NodeRow}
use Rattle.step_text.specs.declared.outcome.Entry.{Entry}
use Rattle.step_text.specs.declared.outcome.Entry.TheVariants as entry
use Rattle.step_text.specs.declared.outcome.Step.{Step}
use Rattle.step_text.specs.declared.outcome.StepOutcome.{StepOutcome}
use Rattle.step_text.specs.declared.outcome.StepOutcome.TheVariants as outcome
use Rattle.install_run.specs.Machine.{WorldAt, node_in}
use Rattle.install_run.specs.Runs.{place_of, is_at, entries_of}

-- A value that was set, written or sent in response takes the place of the object's; nothing else changes one.
abbrev pub with_entry : Entry → List ObjectValue → List ObjectValue
with_entry (entry.Set object value) values = slice_set values object value
with_entry (entry.Telegram telegram number lane (act.Write object value)) values = slice_set values object value
with_entry (entry.Telegram telegram number lane (act.Response object value)) values = slice_set values object value
with_entry (entry.Telegram telegram number lane (act.Read object reply)) values = values
with_entry (entry.Telegram telegram number lane (act.Tool service)) values = values

abbrev pub with_entries : List Entry → List ObjectValue → List ObjectValue
with_entries [] values = values
with_entries (added ∷ entries) values = with_entries entries (with_entry added values)

-- after a step; a start returns the objects to their first values
abbrev pub values_after : List ObjectValue → Event → StepOutcome → List ObjectValue → List ObjectValue
values_after first e (outcome.On next marks) values = first
values_after first e said values = with_entries (entries_of e said) values

-- after the steps of the node at this place
abbrev pub values_by : ℕ → List ObjectValue → List Step → List ObjectValue → List ObjectValue
values_by place first [] values = values
values_by place first (step ∷ steps) values =
    values_by place first steps
    (if is_at place (place_of step.event) then values_after first step.event step.outcome values else values)

-- The values of the node at this place, where it runs, are its first ones with the entries since the last start.
abbrev pub ObjectsByJournal : ℕ → NodeRow → WorldAt → List Step → Type 0
ObjectsByJournal place row w history =
    (s : Standing) → (node_in w place).standing ≡ Some s
    → s.values ≡ values_by place (first_values row.objects) history (first_values row.objects)
