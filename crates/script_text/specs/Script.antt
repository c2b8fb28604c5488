-- What a script is: the rows of an installation, its nodes, and what happens to them. This is statement.
use Rattle.std.specs.Prelude.{◌≡◌, ◌≢◌, ℕ, ◌<◌, ◌≤◌, ◌^◌, false, List, length, map, None}
use Rattle.std.specs.List.{list_any, All, AllPairs}
use Rattle.knx_base.specs.declared.address.GroupAddr.{GroupAddr}
use Rattle.knx_base.specs.declared.address.IndAddr.{IndAddr}
use Rattle.key_tables.specs.declared.types.Lane.{Lane}
use Rattle.key_tables.specs.declared.types.Row.{Row}
use Rattle.key_tables.specs.Build.{build_fault}
use Rattle.key_tables.specs.Lanes.{is_any, lanes_of}
use Rattle.group_objects.specs.declared.row.ObjectRow.{ObjectRow}
use Rattle.group_objects.specs.Objects.{objects_fault}
use Rattle.script_text.specs.Parts.{HasLength, IsChallenge, IsName}
use Rattle.script_text.specs.declared.node_row.NodeRow.{NodeRow}
use Rattle.script_text.specs.declared.event.Event.{Event}
use Rattle.script_text.specs.declared.event.Event.TheVariants as event

-- ---- limits

abbrev pub most_nodes : ℕ
most_nodes = 32

-- of one node
abbrev pub most_lanes : ℕ
most_lanes = 64

abbrev pub most_events : ℕ
most_events = 100000

-- the last object that an event may name
abbrev pub last_object : ℕ
last_object = 63

-- the last memory write that an event may name
abbrev pub last_write : ℕ
last_write = 1000

-- ---- nodes

abbrev pub groups_of : List ObjectRow → List GroupAddr
groups_of objects = map (λ object. object.group) objects

-- the lanes of a node
abbrev pub node_lanes : List Row → NodeRow → List Lane
node_lanes rows node = lanes_of rows node.address (groups_of node.objects)

-- A node of these rows: its address is one of 16 bits and not 0, its next number is one of 48 bits and not 0, its
-- objects are at most 64 and none are of one group, and it has a mark for each of its lanes.
pub record IsNode (rows : List Row) (node : NodeRow) : Type 0 where
  pub name : IsName node.name
  pub address : 0 < node.address.0
  pub address_fits : node.address.0 < 2 ^ 16
  pub next_some : 0 < node.next
  pub next_fits : node.next < 2 ^ 48
  pub groups : All (λ object. 0 < object.group.0) node.objects
  pub objects : objects_fault node.objects ≡ None
  pub lanes : length (node_lanes rows node) ≤ most_lanes
  pub marks : length node.marks ≡ length (node_lanes rows node)
  pub marks_fit : All (λ mark. mark < 2 ^ 48) node.marks

-- two nodes have names and addresses of their own
pub record AreTwoNodes (node other : NodeRow) : Type 0 where
  pub names : node.name ≢ other.name
  pub addresses : node.address.0 ≢ other.address.0

-- ---- events

-- a number of a memory write that an event may name
pub record IsWrite (write torn : ℕ) : Type 0 where
  pub some : 0 < write
  pub most : write ≤ last_write
  pub octet : torn < 256

-- Among so many nodes: an event's node is one of them, and its other parts are in their ranges. There need not be such
-- an object or such a telegram.
abbrev pub IsEvent : ℕ → Event → Type 0
IsEvent nodes (event.Set node object value) = (node < nodes) × (object ≤ last_object)
IsEvent nodes (event.Send node object service) = (node < nodes) × (object ≤ last_object)
IsEvent nodes (event.ToolSend node to apdu) = (node < nodes) × HasLength 2 16 apdu
IsEvent nodes (event.Ask node to challenge) = (node < nodes) × IsChallenge challenge
IsEvent nodes (event.Deliver telegram node) = (0 < telegram) × (node < nodes)
IsEvent nodes (event.Lose telegram) = 0 < telegram
IsEvent nodes (event.Inject octets) = HasLength 1 265 octets
IsEvent nodes (event.Off node) = node < nodes
IsEvent nodes (event.On node) = node < nodes
IsEvent nodes (event.Cut node write torn) = (node < nodes) × IsWrite write torn
IsEvent nodes (event.Fault node write torn) = (node < nodes) × IsWrite write torn

-- ---- scripts

pub record ScriptState : Type 0 where
  pub rows : List Row
  pub nodes : List NodeRow
  pub events : List Event

-- No role row is of any sender, the rows may stand, and so may the nodes among them; no two nodes have one name or one
-- address; and each event is one of these nodes.
pub record IsScript (rows : List Row) (nodes : List NodeRow) (events : List Event) : Type 0 where
  pub named : list_any is_any rows ≡ false
  pub stand : build_fault rows ≡ None
  pub nodes_stand : All (IsNode rows) nodes
  pub nodes_once : AllPairs AreTwoNodes nodes
  pub nodes_few : length nodes ≤ most_nodes
  pub events_stand : All (IsEvent (length nodes)) events
  pub events_few : length events ≤ most_events
