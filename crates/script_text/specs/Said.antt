-- What the lines of a script say, and which of them may stand after others. This is statement.
use Rattle.std.specs.Prelude.{◌≡◌, ℕ, ◌<◌, ◌≤◌, ◌^◌, ◌==◌, ◌&&◌, ◌||◌, nat_le, nat_lt, if◌then◌else◌, Bool, true, false, List, [], ◌∷◌, ◌++◌, length, map, find, Option, Some, None, option_map}
use Rattle.std.specs.List.{filter, filter_map, list_any, All, AllPairs}
use Rattle.knx_base.specs.declared.address.IndAddr.{IndAddr}
use Rattle.knx_base.specs.declared.cause.Cause.{Cause}
use Rattle.key_tables.specs.declared.faults.BuildFault.{BuildFault}
use Rattle.key_tables.specs.declared.faults.BuildFault.TheVariants as build
use Rattle.key_tables.specs.declared.types.Lane.{Lane}
use Rattle.key_tables.specs.declared.types.Row.{Row}
use Rattle.key_tables.specs.Build.{row_fault}
use Rattle.key_tables.specs.Lanes.{is_any, lanes_of, same_lane}
use Rattle.group_objects.specs.declared.row.ObjectRow.{ObjectRow}
use Rattle.group_objects.specs.Objects.{most_rows}
use Rattle.script_text.specs.Parts.{IsName, same_name}
use Rattle.script_text.specs.Script.{groups_of, most_nodes, most_lanes, most_events, IsEvent}
use Rattle.script_text.specs.declared.event.Event.{Event}
use Rattle.script_text.specs.declared.fault.Refusal.{Refusal}
use Rattle.script_text.specs.declared.fault.Refusal.TheVariants as refusal
use Rattle.script_text.specs.declared.fault.ScriptFault.{ScriptFault}
use Rattle.script_text.specs.declared.fault.ScriptFault.TheVariants as fault
use Rattle.script_text.specs.declared.said.NodeLine.{NodeLine}
use Rattle.script_text.specs.declared.said.ObjectLine.{ObjectLine}
use Rattle.script_text.specs.declared.said.MarkLine.{MarkLine}
use Rattle.script_text.specs.declared.said.Said.{Said}
use Rattle.script_text.specs.declared.said.Said.TheVariants as said
use Rattle.script_text.specs.declared.said.Stage.{Stage}
use Rattle.script_text.specs.declared.said.Stage.TheVariants.{Start, Rows, Nodes, Marks, Events}

-- ---- the order of kinds

abbrev pub stage_rank : Stage → ℕ
stage_rank Start = 0
stage_rank Rows = 1
stage_rank Nodes = 2
stage_rank Marks = 3
stage_rank Events = 4

-- no line came yet
abbrev pub is_start : Stage → Bool
is_start Start = true
is_start _ = false

-- the stage that a line reaches
abbrev pub stage_of : Said → Stage
stage_of said.Head = Rows
stage_of (said.Row _) = Rows
stage_of (said.Node _) = Nodes
stage_of (said.Object _) = Nodes
stage_of (said.Mark _) = Marks
stage_of (said.Event _) = Events

-- ---- what lines said

-- What some lines say, by their kinds: the stage that they reached, and of each kind all that they say, in their order.
pub record Before : Type 0 where
  pub stage : Stage
  pub rows : List Row
  pub nodes : List NodeLine
  pub objects : List ObjectLine
  pub marks : List MarkLine
  pub events : List Event

abbrev pub object_at : IndAddr → ObjectLine → Option ObjectRow
object_at node line = if line.node.0 == node.0 then Some line.row else None

-- the objects of a node
abbrev pub objects_at : IndAddr → List ObjectLine → List ObjectRow
objects_at node lines = filter_map (object_at node) lines

-- the lanes of a node
abbrev pub lanes_at : Before → NodeLine → List Lane
lanes_at before node = lanes_of before.rows node.address (groups_of (objects_at node.address before.objects))

-- the first node that has too many lanes
abbrev pub is_crowded : Before → NodeLine → Bool
is_crowded before node = nat_lt most_lanes (length (lanes_at before node))

abbrev pub crowded : Before → Option NodeLine
crowded before = find (is_crowded before) before.nodes

-- ---- what may stand after what was said

abbrev pub refusal_of_row : BuildFault → Refusal
refusal_of_row (build.Twice _) = refusal.Twice
refusal_of_row (build.TooMany _) = refusal.TooMany
refusal_of_row build.NoMemory = refusal.NoMemory

-- a node of the same name or of the same address
abbrev pub is_again : NodeLine → NodeLine → Bool
is_again node other = same_name node.name other.name || node.address.0 == other.address.0

-- an object of the same group of the same node
abbrev pub is_same_object : ObjectLine → ObjectLine → Bool
is_same_object object other = other.node.0 == object.node.0 && other.row.group.0 == object.row.group.0

-- a mark of the same lane of the same node
abbrev pub is_same_mark : MarkLine → MarkLine → Bool
is_same_mark mark other = other.node.0 == mark.node.0 && same_lane mark.lane other.lane

-- twice, or else too many
abbrev pub twice_or_many : Bool → Bool → Option Refusal
twice_or_many twice many = if twice then Some refusal.Twice else if many then Some refusal.TooMany else None

-- why a line that says this may not stand after what was said
abbrev pub standing : Before → Said → Option Refusal
standing before said.Head = None
standing before (said.Row row) = option_map refusal_of_row (row_fault before.rows row)
standing before (said.Node node) =
    twice_or_many (list_any (is_again node) before.nodes) (nat_le most_nodes (length before.nodes))
standing before (said.Object object) =
    twice_or_many (list_any (is_same_object object) before.objects)
    (nat_le most_rows (length (objects_at object.node before.objects)))
standing before (said.Mark mark) = twice_or_many (list_any (is_same_mark mark) before.marks) false
standing before (said.Event event) = twice_or_many false (nat_le most_events (length before.events))

-- it is this that the line is refused for, or memory was wanting
abbrev pub IsRefusal : Refusal → Option Refusal → Type 0
IsRefusal refusal.NoMemory found = Unit {0}
IsRefusal why found = found ≡ Some why

-- the fault of a refused line of this number
abbrev pub fault_at : ℕ → Refusal → ScriptFault
fault_at number (refusal.Cause cause) = fault.Line number cause
fault_at number refusal.Order = fault.Order number
fault_at number refusal.Twice = fault.Twice number
fault_at number refusal.TooMany = fault.TooMany number
fault_at number (refusal.Lanes line) = fault.TooMany line
fault_at number refusal.NoMemory = fault.NoMemory
