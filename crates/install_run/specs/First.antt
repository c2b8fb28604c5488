-- An installation as a script begins. This is statement.
use Rattle.std.specs.Prelude.{◌≡◌, ◌-◌, List, [], map, true, false, Some, None}
use Rattle.std.specs.List.{list_any}
use Rattle.key_tables.specs.declared.types.Row.{Row}
use Rattle.key_tables.specs.Build.{build_fault}
use Rattle.key_tables.specs.Lanes.{is_any}
use Rattle.nvm_model.specs.Nvm.{State}
use Rattle.nvm_model.specs.Plan.{unarmed}
use Rattle.seq_store.specs.Layout.{formatted_memory}
use Rattle.seq_store.specs.Runs.{Numbers, RestoresNumbers}
use Rattle.node_core.specs.Config.{configured}
use Rattle.node_core.specs.Standing.{started}
use Rattle.script_text.specs.declared.node_row.NodeRow.{NodeRow}
use Rattle.install_run.specs.Counts.{Counts, no_counts, counts_in}
use Rattle.install_run.specs.Turn.{NodeAt}
use Rattle.install_run.specs.Machine.{WorldAt}
use Rattle.install_run.specs.Place.{PlaceAt}
use Rattle.install_run.specs.World.{WorldState}

-- the stated marks, and all numbers below the stated next one are reserved
abbrev pub first_numbers : NodeRow → Numbers
first_numbers row = record { reserved = row.next - 1; marks = row.marks }

-- a node of these rows, running over a memory that was formatted with its numbers
abbrev pub first_node : List Row → NodeRow → NodeAt
first_node rows row = record {
  config = configured row.address rows row.objects;
  standing = Some (started (configured row.address rows row.objects) (first_numbers row));
  octets = formatted_memory (row.next - 1) row.marks;
  plan = unarmed;
  powered = true;
}

abbrev pub first_world : List Row → List NodeRow → WorldAt
first_world rows nodes = record { nodes = map (first_node rows) nodes; air = [] }

abbrev pub zero_counts : NodeRow → Counts
zero_counts row = no_counts

-- the first world of these rows and nodes of a script
pub record IsFirst (rows : List Row) (nodes : List NodeRow) (w : WorldState) : Type 0 where
  pub rows_are : w.rows ≡ rows
  pub nodes_are : w.nodes ≡ nodes
  pub world_is : w.world ≡ first_world rows nodes
  pub counts_are : w.counts ≡ map zero_counts nodes
  pub no_steps : w.history ≡ []

-- ---- parts

abbrev pub first_place : List Row → NodeRow → PlaceAt
first_place rows row = record { node = first_node rows row; counts = no_counts; journal = [] }

-- no role row is of any sender, and the rows may stand
pub record RowsStand (rows : List Row) : Type 0 where
  pub named : list_any is_any rows ≡ false
  pub stand : build_fault rows ≡ None

-- a memory that was formatted for a node
pub record IsFormatted (row : NodeRow) (memory : State) : Type 0 where
  pub octets : memory.octets ≡ formatted_memory (row.next - 1) row.marks
  pub restores : RestoresNumbers (first_numbers row) memory.octets
  pub powered : memory.powered ≡ true
  pub plan : memory.plan ≡ Some unarmed
  pub counts : counts_in memory ≡ no_counts
