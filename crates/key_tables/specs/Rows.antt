-- Statement: what a list of rows says of an installation: keys, levels, roles, and the channel and the lane of a
-- frame.
use Rattle.std.specs.Prelude.{◌≡◌, ℕ, ◌==◌, ◌&&◌, ◌||◌, nat_le, Bool, true, false, if◌then◌else◌, List, find, Option, Some, None}
use Rattle.std.specs.Option.{is_some, option_or, option_and_then}
use Rattle.std.specs.List.{list_any, Contains}
use Rattle.knx_base.specs.declared.address.IndAddr.{IndAddr}
use Rattle.key_tables.specs.declared.types.Channel.{Channel}
use Rattle.key_tables.specs.declared.types.Channel.TheVariants as channel
use Rattle.key_tables.specs.declared.types.Lane.{Lane}
use Rattle.key_tables.specs.declared.types.Lane.TheVariants as lane
use Rattle.key_tables.specs.declared.types.Level.{Level}
use Rattle.key_tables.specs.declared.types.Level.TheVariants.{Conf}
use Rattle.key_tables.specs.declared.types.Role.{Role}
use Rattle.key_tables.specs.declared.types.Role.TheVariants.{Observe, Command, Manage}
use Rattle.key_tables.specs.declared.types.Row.{Row}
use Rattle.key_tables.specs.declared.types.Row.TheVariants as row

-- ---- what one row says

abbrev pub same_channel : Channel → Channel → Bool
same_channel (channel.Group a) (channel.Group b) = a.0 == b.0
same_channel (channel.Tool a) (channel.Tool b) = a.0 == b.0
same_channel _ _ = false

-- None is any sender
abbrev pub same_sender : Option IndAddr → Option IndAddr → Bool
same_sender None None = true
same_sender (Some a) (Some b) = a.0 == b.0
same_sender _ _ = false

-- the channel whose key stands in the row
abbrev pub key_channel : Row → Option Channel
key_channel (row.Group address _ _) = Some (channel.Group address)
key_channel (row.Tool device _) = Some (channel.Tool device)
key_channel (row.Role _ _ _) = None

-- the channel of a role row
abbrev pub role_channel : Row → Option Channel
role_channel (row.Role channel _ _) = Some channel
role_channel _ = None

abbrev pub is_channel : Channel → Option Channel → Bool
is_channel channel None = false
is_channel channel (Some other) = same_channel channel other

-- the row holds the channel's key
abbrev pub is_key_row : Channel → Row → Bool
is_key_row channel row = is_channel channel (key_channel row)

abbrev pub has_sender : Option IndAddr → Row → Bool
has_sender sender (row.Role _ other _) = same_sender sender other
has_sender sender _ = false

-- the row holds this very sender's role on the channel
abbrev pub is_role_row : Channel → Option IndAddr → Row → Bool
is_role_row channel sender row = is_channel channel (role_channel row) && has_sender sender row

abbrev pub row_key : Row → Option (List ℕ)
row_key (row.Group _ key _) = Some key
row_key (row.Tool _ key) = Some key
row_key (row.Role _ _ _) = None

-- a device's channel is confidential
abbrev pub row_level : Row → Option Level
row_level (row.Group _ _ level) = Some level
row_level (row.Tool _ _) = Some Conf
row_level (row.Role _ _ _) = None

abbrev pub row_role : Row → Option Role
row_role (row.Role _ _ role) = Some role
row_role _ = None

-- ---- what the list says

-- a row holds the channel's key
abbrev pub has_key : List Row → Channel → Bool
has_key rows channel = list_any (is_key_row channel) rows

-- a row holds this very sender's role on the channel, None being any
abbrev pub has_role : List Row → Channel → Option IndAddr → Bool
has_role rows channel sender = list_any (is_role_row channel sender) rows

-- the key of a channel
unfoldable pub key_of : List Row → Channel → Option (List ℕ)
key_of rows channel = option_and_then row_key (find (is_key_row channel) rows)

-- the level of a channel
unfoldable pub level_of : List Row → Channel → Option Level
level_of rows channel = option_and_then row_level (find (is_key_row channel) rows)

-- the role that a row gives to this very sender, None being any
unfoldable pub named_role : List Row → Channel → Option IndAddr → Option Role
named_role rows channel sender = option_and_then row_role (find (is_role_row channel sender) rows)

-- the channel is this device's
abbrev pub is_own : Channel → IndAddr → Bool
is_own (channel.Tool device) sender = device.0 == sender.0
is_own (channel.Group _) sender = false

-- a device observes on its own channel
abbrev pub device_role : Channel → IndAddr → Option Role
device_role channel sender = if is_own channel sender then Some Observe else None

-- the role of a sender on a channel: by its own row, else by the row of any, else as the device whose channel it is
unfoldable pub role_of : List Row → Channel → IndAddr → Option Role
role_of rows channel sender =
    option_or (named_role rows channel (Some sender))
    (option_or (named_role rows channel None) (device_role channel sender))

abbrev pub where_keyed : Channel → Option (List ℕ) → Option Channel
where_keyed channel None = None
where_keyed channel (Some _) = Some channel

-- the channel, where it has a key
abbrev pub keyed : List Row → Channel → Option Channel
keyed rows channel = where_keyed channel (key_of rows channel)

-- The channel of a frame by its kind of destination, its tool access and its two addresses: the destination group, or,
-- with tool access, the destination device or else the source device, where it has a key.
unfoldable pub channel_of : List Row → Bool → Bool → IndAddr → ℕ → Option Channel
channel_of rows true false source destination = keyed rows (channel.Group (record { 0 = destination }))
channel_of rows false true source destination =
    option_or (keyed rows (channel.Tool (record { 0 = destination }))) (keyed rows (channel.Tool source))
channel_of rows _ _ source destination = None

-- what a channel asks of the destination: a device's channel is its own, or it has a role on it
abbrev pub receiver_may : List Row → ℕ → Channel → Bool
receiver_may rows destination (channel.Group _) = true
receiver_may rows destination (channel.Tool device) =
    is_some (key_of rows (channel.Tool (record { 0 = destination })))
    || is_some (role_of rows (channel.Tool device) (record { 0 = destination }))

-- the lane of a sender on a channel
abbrev pub lane_of : Channel → IndAddr → Lane
lane_of (channel.Group _) sender = lane.Run sender
lane_of (channel.Tool device) sender = lane.Tool device sender

-- each such row of the list says this
abbrev pub EachSays : {A : Type 0} → List Row → (Row → Bool) → (Row → Option A) → Option A → Type 0
EachSays rows is_such says answer = (row : Row) → Contains rows row → is_such row ≡ true → answer ≡ says row

-- ---- roles in their order

abbrev pub role_rank : Role → ℕ
role_rank Observe = 0
role_rank Command = 1
role_rank Manage = 2

-- a sender with this role may do what needs the other
abbrev pub is_enough : Role → Role → Bool
is_enough role needed = nat_le (role_rank needed) (role_rank role)
