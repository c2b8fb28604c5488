-- What was said, as the reader holds it. This is plumbing for proofs.
use Rattle.std.specs.Prelude.{◌≡◌, ℕ, ◌+◌, ◌-◌, ◌*◌, ◌<◌, ◌≤◌, ◌^◌, false, true, Bool, List, [], ◌∷◌, ◌++◌, length, map, take, drop, find, Option, Some, None, Result, Ok, Err}
use Rattle.std.specs.List.{list_any, All, AllPairs}
use Rattle.knx_base.specs.declared.address.IndAddr.{IndAddr}
use Rattle.knx_base.specs.declared.cause.Cause.{Cause}
use Rattle.knx_base.specs.declared.cause.Cause.TheVariants as cause
use Rattle.key_tables.specs.declared.types.Lane.{Lane}
use Rattle.key_tables.specs.declared.types.Row.{Row}
use Rattle.key_tables.specs.Build.{build_fault}
use Rattle.key_tables.specs.Lanes.{is_any}
use Rattle.group_objects.specs.Objects.{objects_fault}
use Rattle.group_objects.specs.Value.{ObjectValue, bits_value, octets_value}
use Rattle.knx_base.specs.declared.address.GroupAddr.{GroupAddr}
use Rattle.script_text.specs.Made.{Made, all_flags, bits_group, octets_group, events_made, made_address, made_name, made_rows}
use Rattle.script_text.specs.Parts.{IsName}
use Rattle.script_text.specs.Script.{most_nodes, most_events, IsEvent}
use Rattle.script_text.specs.Said.{Before, objects_at, is_again, is_start, lanes_at, is_crowded, crowded, standing}
use Rattle.script_text.specs.Reading.{◌>>=◌, caused, in_order, named}
use Rattle.script_text.specs.declared.fault.Refusal.{Refusal}
use Rattle.script_text.specs.declared.fault.Refusal.TheVariants as refusal
use Rattle.script_text.specs.declared.fault.ScriptFault.{ScriptFault}
use Rattle.script_text.specs.declared.fault.ScriptFault.TheVariants as fault
use Rattle.script_text.specs.declared.event.Event.{Event}
use Rattle.script_text.specs.declared.said.NodeLine.{NodeLine}
use Rattle.script_text.specs.declared.said.ObjectLine.{ObjectLine}
use Rattle.script_text.specs.declared.said.MarkLine.{MarkLine}
use Rattle.script_text.specs.declared.said.Said.{Said}
use Rattle.script_text.specs.declared.said.Said.TheVariants as said
use Rattle.script_text.specs.declared.said.Stage.{Stage}
use Rattle.script_text.specs.declared.said.Stage.TheVariants.{Start, Rows, Nodes, Marks, Events}

abbrev pub lists : Stage → List Row → List NodeLine → List ObjectLine → List MarkLine → List Event → Before
lists stage rows nodes objects marks events =
    record { stage = stage; rows = rows; nodes = nodes; objects = objects; marks = marks; events = events }

abbrev pub nothing_said : Before
nothing_said = lists Start [] [] [] [] []

-- a line more
abbrev pub added : Before → Said → Before
added b said.Head = lists Rows b.rows b.nodes b.objects b.marks b.events
added b (said.Row row) = lists Rows (b.rows ++ row ∷ []) b.nodes b.objects b.marks b.events
added b (said.Node node) = lists Nodes b.rows (b.nodes ++ node ∷ []) b.objects b.marks b.events
added b (said.Object object) = lists Nodes b.rows b.nodes (b.objects ++ object ∷ []) b.marks b.events
added b (said.Mark mark) = lists Marks b.rows b.nodes b.objects (b.marks ++ mark ∷ []) b.events
added b (said.Event event) = lists Events b.rows b.nodes b.objects b.marks (b.events ++ event ∷ [])

pub record IsNodeLine (node : NodeLine) : Type 0 where
  pub name : IsName node.name
  pub address : 0 < node.address.0
  pub address_fits : node.address.0 < 2 ^ 16
  pub next_some : 0 < node.next
  pub next_fits : node.next < 2 ^ 48

-- what a line says is in its ranges, where so many nodes stand before it
abbrev pub IsSaid : ℕ → Said → Type 0
IsSaid nodes said.Head = Unit {0}
IsSaid nodes (said.Row row) = is_any row ≡ false
IsSaid nodes (said.Node node) = IsNodeLine node
IsSaid nodes (said.Object object) = 0 < object.row.group.0
IsSaid nodes (said.Mark mark) = mark.number < 2 ^ 48
IsSaid nodes (said.Event event) = IsEvent nodes event

-- what was said keeps the rules of a script, but for lanes and marks
pub record Stand (b : Before) : Type 0 where
  pub named : list_any is_any b.rows ≡ false
  pub stand : build_fault b.rows ≡ None
  pub nodes_are : All IsNodeLine b.nodes
  pub nodes_once : AllPairs (λ node later. is_again later node ≡ false) b.nodes
  pub nodes_few : length b.nodes ≤ most_nodes
  pub groups : All (λ object. 0 < object.row.group.0) b.objects
  pub objects_stand : (node : IndAddr) → objects_fault (objects_at node b.objects) ≡ None
  pub marks_fit : All (λ mark. mark.number < 2 ^ 48) b.marks
  pub events_stand : All (IsEvent (length b.nodes)) b.events
  pub events_few : length b.events ≤ most_events

-- the lanes of each node are known, and no node has too many
pub record IsSettled (b : Before) (lanes : List (List Lane)) : Type 0 where
  pub are : lanes ≡ map (lanes_at b) b.nodes
  pub few : crowded b ≡ None

-- they are, where any are there
abbrev pub IsKnown : Before → List (List Lane) → Type 0
IsKnown b lanes = 0 < length lanes → IsSettled b lanes

-- of the nodes up to a place
pub record IsSettledUpTo (b : Before) (place : ℕ) (lanes : List (List Lane)) : Type 0 where
  pub are : lanes ≡ map (lanes_at b) (take place b.nodes)
  pub rest : find (is_crowded b) (drop place b.nodes) ≡ crowded b

-- what a line of a row reads, by what a tables file has of it
abbrev pub as_row : Option Row → Result Said Refusal
as_row None = Err (refusal.Cause cause.Words)
as_row (Some row) = named row

abbrev pub role_after_in : Bool → Result (Option Row) Cause → Result (Option Row) Cause
role_after_in true (Err cause.Role) = Err cause.Any
role_after_in any row = row

abbrev pub row_read : Before → Bool → Result (Option Row) Cause → Result Said Refusal
row_read b any says = do
  reached ← in_order b Rows
  row ← caused (role_after_in any says)
  as_row row

-- a line was taken
abbrev pub added_if : Before → Option Said → Before
added_if b None = b
added_if b (Some said) = added b said

abbrev pub TakesSaid : Before → Result (Option Said) Refusal → Before → Type 0
TakesSaid old found new = (says : Option Said) × (found ≡ Ok says) × (new ≡ added_if old says)

abbrev pub IsLineRefusal : Refusal → Result (Option Said) Refusal → Type 0
IsLineRefusal refusal.NoMemory found = Unit {0}
IsLineRefusal why found = found ≡ Err why

-- the lanes of nodes may be others with it
abbrev pub moves_lanes : Said → Bool
moves_lanes (said.Row _) = true
moves_lanes (said.Node _) = true
moves_lanes (said.Object _) = true
moves_lanes _ = false

abbrev pub IsLineFault : ScriptFault → Result (Option Said) ScriptFault → Type 0
IsLineFault fault.NoMemory found = Unit {0}
IsLineFault fault found = found ≡ Err fault

-- an event was made, and the draws stand there now
pub record IsMade (made : Made) (event : Event) (state sends : ℕ) : Type 0 where
  pub event_is : event ≡ made.event
  pub state_is : state ≡ made.state
  pub sends_are : sends ≡ made.sends

-- ---- what is made

abbrev pub HasRows : Before → List Row → Before → Type 0
HasRows old rows new = new ≡ lists Rows (old.rows ++ rows) old.nodes old.objects old.marks old.events

abbrev pub made_line : ℕ → NodeLine
made_line node = record { line = 0; name = made_name node; address = made_address node; next = 1 }

abbrev pub made_object_line : IndAddr → GroupAddr → ObjectValue → ObjectLine
made_object_line node group value =
    record { node = node; row = record { group = group; flags = all_flags; value = value } }

abbrev pub first_object : ℕ → ObjectLine
first_object node = made_object_line (made_address node) bits_group (bits_value 0)

abbrev pub second_object : ℕ → ObjectLine
second_object node = made_object_line (made_address node) octets_group (octets_value (0 ∷ 0 ∷ []))

abbrev pub HasNode : Before → ℕ → Before → Type 0
HasNode old node new =
    new ≡ lists Nodes old.rows (old.nodes ++ made_line node ∷ [])
    ((old.objects ++ first_object node ∷ []) ++ second_object node ∷ []) old.marks old.events

-- the installation
abbrev pub installed : Before
installed = lists Nodes made_rows (made_line 0 ∷ made_line 1 ∷ made_line 2 ∷ made_line 3 ∷ [])
    (first_object 0 ∷ second_object 0 ∷ first_object 1 ∷ second_object 1
    ∷ first_object 2 ∷ second_object 2 ∷ first_object 3 ∷ second_object 3 ∷ []) [] []

-- so many of its nodes stand, with their objects
pub record AreInstalled (count : ℕ) (b : Before) : Type 0 where
  pub nodes_are : b.nodes ≡ take count installed.nodes
  pub objects_are : b.objects ≡ take (2 * count) installed.objects

-- the next of them may stand, and so may its objects
pub record NodeStands (b : Before) (node : ℕ) : Type 0 where
  pub line : standing b (said.Node (made_line node)) ≡ None
  pub first : standing (added b (said.Node (made_line node))) (said.Object (first_object node)) ≡ None
  pub second : standing (added (added b (said.Node (made_line node))) (said.Object (first_object node)))
      (said.Object (second_object node))
      ≡ None

-- with these events
pub record IsWithEvents (old : Before) (events : List Event) (new : Before) : Type 0 where
  pub rows_are : new.rows ≡ old.rows
  pub nodes_are : new.nodes ≡ old.nodes
  pub objects_are : new.objects ≡ old.objects
  pub marks_are : new.marks ≡ old.marks
  pub events_are : new.events ≡ old.events ++ events
  pub begun : is_start old.stage ≡ false → is_start new.stage ≡ false

-- some events were drawn, and the draws stand where the others follow
pub record IsDrawn (old new : Before) (number count index state sends : ℕ) : Type 0 where
  pub past : List Event
  pub with_past : IsWithEvents old past new
  pub many : length past ≡ index
  pub follow : past ++ events_made (count - index) (index + 1) state sends ≡ events_made count 1 number 0
  pub counted : sends ≤ index
