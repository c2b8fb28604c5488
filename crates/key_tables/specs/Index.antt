-- Statement: the rows in the order of their keys: what a row is found by, what stands under it, and how many steps a
-- search takes.
use Rattle.std.specs.Prelude.{◌≡◌, ◌≤◌, ◌+◌, ◌*◌, ◌^◌, ◌&&◌, ℕ, Bool, false, List, Option, Some, None}
use Rattle.std.specs.Option.{unwrap_or}
use Rattle.std.specs.Ordering.{nat_cmp, ordering_then}
use Rattle.std.specs.declared.cmp.Ordering.{Ordering}
use Rattle.std.specs.declared.cmp.Ordering.TheVariants.{Less, Equal, Greater}
use Rattle.std.specs.List.{filter_map}
use Rattle.std.specs.List.Sorted.{IsPermutation, IsStrictlySortedBy}
use Rattle.std.specs.Map.{keys_of}
use Rattle.knx_base.specs.declared.address.IndAddr.{IndAddr}
use Rattle.key_tables.specs.declared.types.Channel.{Channel}
use Rattle.key_tables.specs.declared.types.Channel.TheVariants as channel
use Rattle.key_tables.specs.declared.types.Level.{Level}
use Rattle.key_tables.specs.declared.types.Level.TheVariants.{Conf}
use Rattle.key_tables.specs.declared.types.Role.{Role}
use Rattle.key_tables.specs.declared.types.Row.{Row}
use Rattle.key_tables.specs.declared.types.Row.TheVariants as row
use Rattle.key_tables.specs.declared.types.RowKey.{RowKey}
use Rattle.key_tables.specs.declared.types.RowKey.TheVariants as under
use Rattle.key_tables.specs.declared.types.RowValue.{RowValue}
use Rattle.key_tables.specs.declared.types.RowValue.TheVariants as value
use Rattle.key_tables.specs.Build.{build_fault}
use Rattle.key_tables.specs.Rows.{same_channel, same_sender}

-- ---- what a row is found by

abbrev pub same_key : RowKey → RowKey → Bool
same_key (under.Key a) (under.Key b) = same_channel a b
same_key (under.Role a from) (under.Role b other) = same_channel a b && same_sender from other
same_key _ _ = false

-- groups before devices, each by their addresses
abbrev pub channel_cmp : Channel → Channel → Ordering
channel_cmp (channel.Group a) (channel.Group b) = nat_cmp a.0 b.0
channel_cmp (channel.Group _) (channel.Tool _) = Less
channel_cmp (channel.Tool _) (channel.Group _) = Greater
channel_cmp (channel.Tool a) (channel.Tool b) = nat_cmp a.0 b.0

-- any sender before each that is named
abbrev pub sender_cmp : Option IndAddr → Option IndAddr → Ordering
sender_cmp None None = Equal
sender_cmp None (Some _) = Less
sender_cmp (Some _) None = Greater
sender_cmp (Some a) (Some b) = nat_cmp a.0 b.0

-- key rows by their channel, and after them role rows by channel and sender
abbrev pub key_cmp : RowKey → RowKey → Ordering
key_cmp (under.Key a) (under.Key b) = channel_cmp a b
key_cmp (under.Key _) (under.Role _ _) = Less
key_cmp (under.Role _ _) (under.Key _) = Greater
key_cmp (under.Role a from) (under.Role b other) = ordering_then (channel_cmp a b) (sender_cmp from other)

abbrev pub row_key_of : Row → RowKey
row_key_of (row.Group address _ _) = under.Key (channel.Group address)
row_key_of (row.Tool device _) = under.Key (channel.Tool device)
row_key_of (row.Role channel sender _) = under.Role channel sender

-- what the row says something of: a channel's key, or the roles on it
abbrev pub subject_of : Row → RowKey
subject_of (row.Group address _ _) = under.Key (channel.Group address)
subject_of (row.Tool device _) = under.Key (channel.Tool device)
subject_of (row.Role channel _ _) = under.Role channel None

-- ---- what stands under it

abbrev pub value_key : RowValue → Option (List ℕ)
value_key (value.Key key _) = Some key
value_key (value.Role _) = None

-- a device's channel is confidential
abbrev pub value_level : RowValue → Option Level
value_level (value.Key _ level) = Some (unwrap_or level Conf)
value_level (value.Role _) = None

abbrev pub value_role : RowValue → Option Role
value_role (value.Key _ _) = None
value_role (value.Role role) = Some role

-- a row of a key, with what it is found by
abbrev pub key_entry : Row → Option (RowKey × RowValue)
key_entry (row.Group address key level) = Some (under.Key (channel.Group address), value.Key key (Some level))
key_entry (row.Tool device key) = Some (under.Key (channel.Tool device), value.Key key None)
key_entry (row.Role _ _ _) = None

-- a row of a role, with what it is found by
abbrev pub role_entry : Row → Option (RowKey × RowValue)
role_entry (row.Role channel sender role) = Some (under.Role channel sender, value.Role role)
role_entry _ = None

abbrev pub key_entries : List Row → List (RowKey × RowValue)
key_entries rows = filter_map key_entry rows

abbrev pub role_entries : List Row → List (RowKey × RowValue)
role_entries rows = filter_map role_entry rows

-- ---- the rows of one kind in order

-- the same rows, each before those whose keys come after its own; so no key stands twice
pub record AreInOrder (entries index : List (RowKey × RowValue)) : Type 0 where
  pub moved : IsPermutation entries index
  pub ascend : IsStrictlySortedBy key_cmp (keys_of index)

-- the keys in the order of the index
abbrev pub expanded_of : List (RowKey × RowValue) → List (List ℕ)
expanded_of index = filter_map (λ entry. value_key entry.1) index

-- What tables keep beside their rows: both indexes, and the keys in the order of theirs.
pub record AreIndexed (rows : List Row) (keys roles : List (RowKey × RowValue)) (expanded : List (List ℕ))
    : Type 0 where
  pub stand : build_fault rows ≡ None
  pub keys_are : AreInOrder (key_entries rows) keys
  pub roles_are : AreInOrder (role_entries rows) roles
  pub expanded_are : expanded ≡ expanded_of keys

-- ---- steps

-- So many searches among so many rows were taken. Each took at most s comparisons, where 2^s is at most twice the rows
-- and one.
pub record AddsSteps (searches rows before now : ℕ) : Type 0 where
  pub each : ℕ
  pub few : 2 ^ each ≤ 2 * rows + 1
  pub later : before ≤ now
  pub most : now ≤ before + searches * each
