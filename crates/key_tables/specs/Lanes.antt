-- Statement: the lanes of a node: which it has, and in what order.
use Rattle.std.specs.Prelude.{◌≡◌, ◌==◌, ◌&&◌, ◌||◌, Bool, true, false, if◌then◌else◌, List, [], ◌∷◌, ◌++◌, Option, Some, None, ℕ}
use Rattle.std.specs.Option.{is_some}
use Rattle.std.specs.Ordering.{nat_cmp, ordering_then, match_ordering}
use Rattle.std.specs.declared.cmp.Ordering.{Ordering}
use Rattle.std.specs.declared.cmp.Ordering.TheVariants.{Less, Greater}
use Rattle.std.specs.List.{list_any, filter_map, AllPairs}
use Rattle.std.specs.List.Sorted.{IsStrictlySortedBy}
use Rattle.knx_base.specs.declared.address.GroupAddr.{GroupAddr}
use Rattle.knx_base.specs.declared.address.IndAddr.{IndAddr}
use Rattle.key_tables.specs.declared.types.Channel.{Channel}
use Rattle.key_tables.specs.declared.types.Channel.TheVariants as channel
use Rattle.key_tables.specs.declared.types.Lane.{Lane}
use Rattle.key_tables.specs.declared.types.Lane.TheVariants as lane
use Rattle.key_tables.specs.declared.types.Row.{Row}
use Rattle.key_tables.specs.declared.types.Row.TheVariants as row
use Rattle.key_tables.specs.Rows.{has_key, has_role, role_of, channel_of, lane_of, receiver_may}

-- ---- lanes and their order

abbrev pub same_lane : Lane → Lane → Bool
same_lane (lane.Run sender) (lane.Run other) = sender.0 == other.0
same_lane (lane.Tool device sender) (lane.Tool other from) = device.0 == other.0 && sender.0 == from.0
same_lane _ _ = false

abbrev pub has_lane : List Lane → Lane → Bool
has_lane lanes lane = list_any (same_lane lane) lanes

-- the lanes of groups by their sender, and after them those of devices by device and sender
abbrev pub lane_cmp : Lane → Lane → Ordering
lane_cmp (lane.Run sender) (lane.Run other) = nat_cmp sender.0 other.0
lane_cmp (lane.Run _) _ = Less
lane_cmp (lane.Tool _ _) (lane.Run _) = Greater
lane_cmp (lane.Tool device sender) (lane.Tool other from) =
    ordering_then (nat_cmp device.0 other.0) (nat_cmp sender.0 from.0)

-- ---- in words

-- the row is of any sender
abbrev pub is_any : Row → Bool
is_any (row.Role _ None _) = true
is_any _ = false

-- A sender with a role row on a group of these has a lane. Where the node has a tool key, so have on its channel the
-- node itself and each sender with a role row there. Where it has none, so has each device with a tool key, on its own
-- channel, where the node has a role row there.
abbrev pub is_lane_of : List Row → IndAddr → List GroupAddr → Lane → Bool
is_lane_of rows node groups (lane.Run sender) =
    list_any (λ group. has_role rows (channel.Group group) (Some sender)) groups
is_lane_of rows node groups (lane.Tool device sender) =
    if has_key rows (channel.Tool node)
    then device.0 == node.0 && (sender.0 == node.0 || has_role rows (channel.Tool node) (Some sender))
    else sender.0 == device.0 && (has_key rows (channel.Tool device) && has_role rows (channel.Tool device) (Some node))

-- a list of these very lanes, each before those that come after it in their order; so none stands twice
pub record AreLanesOf (rows : List Row) (node : IndAddr) (groups : List GroupAddr) (lanes : List Lane) : Type 0 where
  pub members : (lane : Lane) → has_lane lanes lane ≡ is_lane_of rows node groups lane
  pub ascend : IsStrictlySortedBy lane_cmp lanes
  pub once : AllPairs (λ lane other. same_lane lane other ≡ false) lanes

-- ---- as a list

abbrev pub is_group_of : List GroupAddr → GroupAddr → Bool
is_group_of groups group = list_any (λ other. other.0 == group.0) groups

-- the lane of a sender to a group of these
abbrev pub group_lane : List GroupAddr → Row → Option Lane
group_lane groups (row.Role (channel.Group group) (Some sender) _) =
    if is_group_of groups group then Some (lane.Run sender) else None
group_lane groups _ = None

-- the lane of a sender on the node's channel
abbrev pub own_lane : IndAddr → Row → Option Lane
own_lane node (row.Role (channel.Tool device) (Some sender) _) =
    if node.0 == device.0 then Some (lane.Tool node sender) else None
own_lane node _ = None

-- the lane of a device that has a key and on whose channel the node has a role
abbrev pub device_lane : List Row → IndAddr → Row → Option Lane
device_lane rows node (row.Role (channel.Tool device) (Some sender) _) =
    if node.0 == sender.0 && has_key rows (channel.Tool device) then Some (lane.Tool device device) else None
device_lane rows node _ = None

abbrev pub tool_lanes : List Row → IndAddr → List Lane
tool_lanes rows node =
    if has_key rows (channel.Tool node)
    then filter_map (own_lane node) rows ++ lane.Tool node node ∷ []
    else filter_map (device_lane rows node) rows

-- as the rows name them
abbrev pub named_lanes : List Row → IndAddr → List GroupAddr → List Lane
named_lanes rows node groups = filter_map (group_lane groups) rows ++ tool_lanes rows node

-- with the lane at its place in the order, unless it stands there
abbrev pub with_lane : Lane → List Lane → List Lane
with_lane lane [] = lane ∷ []
with_lane lane (other ∷ lanes) =
    match_ordering (lane_cmp lane other) (lane ∷ other ∷ lanes) (other ∷ lanes) (other ∷ with_lane lane lanes)

abbrev pub in_order : List Lane → List Lane
in_order [] = []
in_order (lane ∷ lanes) = with_lane lane (in_order lanes)

-- the lanes of a node with objects for these groups
unfoldable pub lanes_of : List Row → IndAddr → List GroupAddr → List Lane
lanes_of rows node groups = in_order (named_lanes rows node groups)

-- which lanes there are, and their order, leave no choice
abbrev pub AreTheOnly : List Row → IndAddr → List GroupAddr → List Lane → Type 0
AreTheOnly rows node groups lanes = (others : List Lane) → AreLanesOf rows node groups others → others ≡ lanes

-- ---- who may send to a node has a lane there

-- the destination is a group of these, or the node itself
abbrev pub is_to : IndAddr → List GroupAddr → Bool → ℕ → Bool
is_to node groups true destination = is_group_of groups (record { 0 = destination })
is_to node groups false destination = destination == node.0

-- On every channel that a telegram to the node, or to one of its groups, can have, a sender with a role has a lane,
-- where the destination may receive there.
abbrev pub SendersHaveLanes : List Row → IndAddr → List GroupAddr → Type 0
SendersHaveLanes rows node groups =
    (group tool : Bool) (source : IndAddr) (destination : ℕ) (channel : Channel)
    → is_to node groups group destination ≡ true
    → channel_of rows group tool source destination ≡ Some channel
    → is_some (role_of rows channel source) ≡ true
    → receiver_may rows destination channel ≡ true
    → has_lane (lanes_of rows node groups) (lane_of channel source) ≡ true
