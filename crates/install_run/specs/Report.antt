-- The report of a run: the line of each step, and the end. This is statement.
use Rattle.std.specs.Prelude.{ℕ, ◌+◌, List, [], ◌++◌, length, slice_get, take, Option, Some, None}
use Rattle.std.specs.Option.{is_some}
use Rattle.std.specs.List.{zip, flat_map, enumerate_from}
use Rattle.seq_store.specs.Runs.{numbers_in}
use Rattle.group_objects.specs.Value.{ObjectValue}
use Rattle.group_objects.specs.Objects.{most_rows}
use Rattle.key_tables.specs.declared.types.Lane.{Lane}
use Rattle.node_core.specs.Standing.{Standing}
use Rattle.script_text.specs.declared.node_row.NodeRow.{NodeRow}
use Rattle.step_text.specs.declared.outcome.Step.{Step}
use Rattle.step_text.specs.Text.{step_text, node_text, values_text, all_kept_text, image_text, total_text}
use Rattle.install_run.specs.Turn.{NodeAt}
use Rattle.install_run.specs.Machine.{WorldAt, node_in}
use Rattle.install_run.specs.Runs.{place_of, journal_of}

-- ---- steps

-- the lanes of the node of an event
abbrev pub lanes_at : WorldAt → Option ℕ → List Lane
lanes_at w None = []
lanes_at w (Some place) = (node_in w place).config.lanes

abbrev pub step_line : ℕ → WorldAt → Option Step → List ℕ
step_line number w None = []
step_line number w (Some step) = step_text number (lanes_at w (place_of step.event)) step.outcome

-- the line of the step at this place of the history; steps are told from 1
abbrev pub line_of_step : WorldAt → List Step → ℕ → List ℕ
line_of_step w history place = step_line (place + 1) w (slice_get history place)

abbrev pub numbered_line : WorldAt → ℕ × Step → List ℕ
numbered_line w (number, step) = step_text number (lanes_at w (place_of step.event)) step.outcome

-- the lines of all steps, in their order
abbrev pub steps_text : WorldAt → List Step → List ℕ
steps_text w history = flat_map (numbered_line w) (enumerate_from 1 history)

-- ---- the end

-- the values of a node that runs
abbrev pub values_of : Option Standing → List ObjectValue
values_of None = []
values_of (Some s) = s.values

-- their lines; a node has no more objects
abbrev pub objects_text : Option Standing → List ℕ
objects_text standing = values_text (take most_rows (values_of standing))

-- a node of a script at its place, as it is after these steps: what its memory restores, and the memory's octets
abbrev pub node_end : List Step → ℕ × (NodeRow × NodeAt) → List ℕ
node_end history (place, (row, n)) =
    let numbers = numbers_in (length n.config.lanes) n.octets in
    node_text (record {
      name = row.name;
      running = is_some n.standing;
      journal = length (journal_of place history);
      reserved = numbers.reserved;
    })
    ++ (objects_text n.standing ++ (all_kept_text n.config.lanes numbers.marks ++ image_text n.octets))

-- all nodes, in their order
abbrev pub nodes_text : List NodeRow → WorldAt → List Step → List ℕ
nodes_text nodes w history = flat_map (node_end history) (enumerate_from 0 (zip nodes w.nodes))

-- and how many events and telegrams there were
abbrev pub end_text : List NodeRow → WorldAt → List Step → List ℕ
end_text nodes w history = nodes_text nodes w history ++ total_text (length history) (length w.air)

-- the whole report
abbrev pub run_text : List NodeRow → WorldAt → List Step → List ℕ
run_text nodes w history = steps_text w history ++ end_text nodes w history
