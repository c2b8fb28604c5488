-- The script that is made from a number: an installation of four nodes, and events that are drawn. This is statement.
use Rattle.std.specs.Prelude.{◌≡◌, ℕ, zero, suc, ◌+◌, ◌-◌, ◌*◌, ◌/◌, ◌%◌, ◌^◌, ◌==◌, nat_le, if◌then◌else◌, true, List, [], ◌∷◌, ◌++◌, length, map, replicate, slice_index, codes, Some, min}
use Rattle.knx_base.specs.declared.address.GroupAddr.{GroupAddr}
use Rattle.knx_base.specs.declared.address.IndAddr.{IndAddr}
use Rattle.knx_base.specs.Number.{octets_of}
use Rattle.key_tables.specs.declared.types.Channel.TheVariants as channel
use Rattle.key_tables.specs.declared.types.Level.TheVariants.{Auth, Conf}
use Rattle.key_tables.specs.declared.types.Role.{Role}
use Rattle.key_tables.specs.declared.types.Role.TheVariants.{Observe, Command, Manage}
use Rattle.key_tables.specs.declared.types.Row.{Row}
use Rattle.key_tables.specs.declared.types.Row.TheVariants as row
use Rattle.key_tables.specs.Lanes.{lanes_of}
use Rattle.group_objects.specs.declared.row.Flags.{Flags}
use Rattle.group_objects.specs.declared.row.ObjectRow.{ObjectRow}
use Rattle.group_objects.specs.declared.service.SendService.TheVariants.{Write}
use Rattle.group_objects.specs.Value.{ObjectValue, bits_value, octets_value}
use Rattle.script_text.specs.Script.{ScriptState, groups_of}
use Rattle.script_text.specs.declared.event.Event.{Event}
use Rattle.script_text.specs.declared.event.Event.TheVariants as event
use Rattle.script_text.specs.declared.node_row.NodeRow.{NodeRow}

-- ---- the installation

-- 1.1.1 to 1.1.4
abbrev pub made_address : ℕ → IndAddr
made_address node = record { 0 = 4353 + node }

-- 1/0/1 and 1/0/2
abbrev pub bits_group : GroupAddr
bits_group = record { 0 = 2049 }

abbrev pub octets_group : GroupAddr
octets_group = record { 0 = 2050 }

-- sixteen times this octet
abbrev pub made_key : ℕ → List ℕ
made_key octet = replicate 16 octet

abbrev pub tool_row : ℕ → Row
tool_row node = row.Tool (made_address node) (made_key (49 + node))

abbrev pub group_role : GroupAddr → ℕ → Role → Row
group_role group node role = row.Role (channel.Group group) (Some (made_address node)) role

abbrev pub tool_role : ℕ → ℕ → Role → Row
tool_role device node role = row.Role (channel.Tool (made_address device)) (Some (made_address node)) role

abbrev pub made_rows : List Row
made_rows =
    row.Group bits_group (made_key 17) Conf ∷ row.Group octets_group (made_key 34) Auth
    ∷ tool_row 0 ∷ tool_row 1 ∷ tool_row 2 ∷ tool_row 3
    ∷ group_role bits_group 0 Command ∷ group_role bits_group 1 Command
    ∷ group_role bits_group 2 Command ∷ group_role bits_group 3 Observe
    ∷ group_role octets_group 0 Command ∷ group_role octets_group 1 Command
    ∷ group_role octets_group 2 Command ∷ group_role octets_group 3 Command
    ∷ tool_role 0 1 Observe ∷ tool_role 0 2 Observe ∷ tool_role 0 3 Observe
    ∷ tool_role 1 0 Manage ∷ tool_role 2 0 Manage ∷ tool_role 3 0 Manage ∷ []

abbrev pub all_flags : Flags
all_flags = record { reads = true; writes = true; updates = true; transmits = true }

-- six bits, and two octets
abbrev pub made_objects : List ObjectRow
made_objects =
    record { group = bits_group; flags = all_flags; value = bits_value 0 }
    ∷ record { group = octets_group; flags = all_flags; value = octets_value (0 ∷ 0 ∷ []) } ∷ []

-- n0 to n3
abbrev pub made_name : ℕ → List ℕ
made_name node = 110 ∷ (48 + node) ∷ []

-- no mark is above 0
abbrev pub made_node : ℕ → NodeRow
made_node node = record {
  name = made_name node;
  address = made_address node;
  next = 1;
  objects = made_objects;
  marks = map (λ lane. 0) (lanes_of made_rows (made_address node) (groups_of made_objects));
}

-- ---- draws

-- the state after a draw
abbrev pub next_state : ℕ → ℕ
next_state state = (state * 6364136223846793005 + 1442695040888963407) % 2 ^ 64

-- what a draw gave that left this state, where there were so many to draw from
abbrev pub drawn : ℕ → ℕ → ℕ
drawn state bound = state / 2 ^ 33 % bound

-- an event, the state after its draws, and how many sends and requests there are up to it
pub record Made : Type 0 where
  pub event : Event
  pub state : ℕ
  pub sends : ℕ

-- of a node, the object of bits or of octets
abbrev pub send_made : ℕ → ℕ → Made
send_made state sends =
    let first = next_state state in
    let second = next_state first in
    record { event = event.Send (drawn first 4) (drawn second 2) Write; state = second; sends = sends + 1 }

abbrev pub value_made : ℕ → ℕ → ObjectValue
value_made object value = if object == 0 then bits_value value else octets_value (0 ∷ value ∷ [])

abbrev pub set_made : ℕ → ℕ → Made
set_made state sends =
    let first = next_state state in
    let second = next_state first in
    let third = next_state second in
    record {
      event = event.Set (drawn first 4) (drawn second 2) (value_made (drawn second 2) (drawn third 64));
      state = third;
      sends = sends;
    }

-- the first telegram, or one of the last eight
abbrev pub deliver_made : ℕ → ℕ → Made
deliver_made state sends =
    let first = next_state state in
    let second = next_state first in
    if sends == 0 then record { event = event.Deliver 1 (drawn first 4); state = first; sends = sends }
    else record {
      event = event.Deliver (sends - drawn first (min sends 8)) (drawn second 4);
      state = second;
      sends = sends;
    }

-- n0 asks another node; the challenge is the event's number
abbrev pub ask_made : ℕ → ℕ → ℕ → Made
ask_made number state sends =
    let first = next_state state in
    record {
      event = event.Ask 0 (made_address (1 + drawn first 3)) (octets_of number);
      state = first;
      sends = sends + 1;
    }

abbrev pub torn_made : ℕ → ℕ
torn_made choice = slice_index (0 ∷ 165 ∷ 255 ∷ []) choice

abbrev pub cut_made : ℕ → ℕ → Made
cut_made state sends =
    let first = next_state state in
    let second = next_state first in
    let third = next_state second in
    record {
      event = event.Cut (drawn first 4) (1 + drawn second 6) (torn_made (drawn third 3));
      state = third;
      sends = sends;
    }

abbrev pub on_made : ℕ → ℕ → Made
on_made state sends =
    let first = next_state state in
    record { event = event.On (drawn first 4); state = first; sends = sends }

-- by the first of its draws
abbrev pub kind_made : ℕ → ℕ → ℕ → ℕ → Made
kind_made kind number state sends =
    if nat_le kind 4 then send_made state sends
    else if nat_le kind 5 then set_made state sends
    else if nat_le kind 11 then deliver_made state sends
    else if nat_le kind 12 then ask_made number state sends
    else if nat_le kind 13 then cut_made state sends
    else on_made state sends

-- the event of this number, after a state and after so many sends and requests
unfoldable pub event_made : ℕ → ℕ → ℕ → Made
event_made number state sends =
    let first = next_state state in kind_made (drawn first 16) number first sends

-- so many events from this number on
abbrev pub events_made : ℕ → ℕ → ℕ → ℕ → List Event
events_made zero number state sends = []
events_made (suc count) number state sends =
    let made = event_made number state sends in
    made.event ∷ events_made count (number + 1) made.state made.sends

-- the script of a number and a count of events
abbrev pub made_script : ℕ → ℕ → ScriptState
made_script number count = record {
  rows = made_rows;
  nodes = made_node 0 ∷ made_node 1 ∷ made_node 2 ∷ made_node 3 ∷ [];
  events = events_made count 1 number 0;
}
