-- What a script's text says, line by line. This is statement.
use Rattle.std.specs.Prelude.{◌≡◌, ℕ, ◌+◌, ◌==◌, ◌&&◌, Bool, if◌then◌else◌, List, [], ◌∷◌, ◌++◌, length, map, find, Option, Some, None, Result, Ok, Err}
use Rattle.std.specs.Option.{option_to_list}
use Rattle.std.specs.List.{filter_map}
use Rattle.std.specs.Str.Lines.{lines}
use Rattle.knx_base.specs.declared.address.IndAddr.{IndAddr}
use Rattle.knx_base.specs.declared.cause.Cause.TheVariants as cause
use Rattle.key_tables.specs.declared.types.Lane.{Lane}
use Rattle.key_tables.specs.declared.types.Row.{Row}
use Rattle.key_tables.specs.Lanes.{same_lane}
use Rattle.script_text.specs.Script.{ScriptState}
use Rattle.script_text.specs.Said.{Before, is_start, stage_of, objects_at, lanes_at, crowded}
use Rattle.script_text.specs.Reading.{◌>>=◌, at_line, line_said}
use Rattle.script_text.specs.declared.event.Event.{Event}
use Rattle.script_text.specs.declared.fault.ScriptFault.{ScriptFault}
use Rattle.script_text.specs.declared.fault.ScriptFault.TheVariants.{Line, TooMany, NoMemory}
use Rattle.script_text.specs.declared.node_row.NodeRow.{NodeRow}
use Rattle.script_text.specs.declared.said.NodeLine.{NodeLine}
use Rattle.script_text.specs.declared.said.ObjectLine.{ObjectLine}
use Rattle.script_text.specs.declared.said.MarkLine.{MarkLine}
use Rattle.script_text.specs.declared.said.Said.{Said}
use Rattle.script_text.specs.declared.said.Said.TheVariants as said
use Rattle.script_text.specs.declared.said.Stage.{Stage}
use Rattle.script_text.specs.declared.said.Stage.TheVariants.{Start}

-- ---- what some lines say, by their kinds

abbrev pub row_in : Said → Option Row
row_in (said.Row row) = Some row
row_in _ = None

abbrev pub node_in : Said → Option NodeLine
node_in (said.Node node) = Some node
node_in _ = None

abbrev pub object_in : Said → Option ObjectLine
object_in (said.Object object) = Some object
object_in _ = None

abbrev pub mark_line_in : Said → Option MarkLine
mark_line_in (said.Mark mark) = Some mark
mark_line_in _ = None

abbrev pub event_in : Said → Option Event
event_in (said.Event event) = Some event
event_in _ = None

-- the stage of the last line
abbrev pub last_stage : Stage → List Said → Stage
last_stage stage [] = stage
last_stage stage (said ∷ more) = last_stage (stage_of said) more

abbrev pub before_of : List Said → Before
before_of lines = record {
  stage = last_stage Start lines;
  rows = filter_map row_in lines;
  nodes = filter_map node_in lines;
  objects = filter_map object_in lines;
  marks = filter_map mark_line_in lines;
  events = filter_map event_in lines;
}

-- ---- the script that lines say

abbrev pub is_mark_of : IndAddr → Lane → MarkLine → Bool
is_mark_of node lane mark = mark.node.0 == node.0 && same_lane lane mark.lane

abbrev pub number_of_mark : Option MarkLine → ℕ
number_of_mark None = 0
number_of_mark (Some mark) = mark.number

-- the number that a mark line gives to the lane of a node, or 0
abbrev pub mark_in : List MarkLine → IndAddr → Lane → ℕ
mark_in marks node lane = number_of_mark (find (is_mark_of node lane) marks)

-- a node with its objects, and a mark for each of its lanes
abbrev pub node_row : Before → NodeLine → NodeRow
node_row before node = record {
  name = node.name;
  address = node.address;
  next = node.next;
  objects = objects_at node.address before.objects;
  marks = map (mark_in before.marks node.address) (lanes_at before node);
}

abbrev pub script_in : Before → ScriptState
script_in before =
    record { rows = before.rows; nodes = map (node_row before) before.nodes; events = before.events }

abbrev pub unless_crowded : Option NodeLine → ScriptState → Result ScriptState ScriptFault
unless_crowded None script = Ok script
unless_crowded (Some node) script = Err (TooMany node.line)

-- the script of all lines; there is a head, and no node has too many lanes
abbrev pub ended : Before → Result ScriptState ScriptFault
ended before =
    if is_start before.stage then Err (Line 1 cause.Words) else unless_crowded (crowded before) (script_in before)

-- ---- the whole text

-- Of lines after others: what those before say, and how many they are. Each line says something after what those before
-- it say, or is refused; the first refused line is the answer.
abbrev pub script_after : List Said → ℕ → List (List ℕ) → Result ScriptState ScriptFault
script_after before count [] = ended (before_of before)
script_after before count (line ∷ more) = do
  says ← at_line (count + 1) (line_said (before_of before) (count + 1) line)
  script_after (before ++ option_to_list says) (count + 1) more

-- the script of a text, or the fault of its first refused line
unfoldable pub script_of : List ℕ → Result ScriptState ScriptFault
script_of text = script_after [] 0 (lines text)

-- it is this fault that the text has, or memory was wanting
abbrev pub IsTextFault : ScriptFault → Result ScriptState ScriptFault → Type 0
IsTextFault NoMemory found = Unit {0}
IsTextFault fault found = found ≡ Err fault
