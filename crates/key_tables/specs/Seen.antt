-- Plumbing: which keys a set holds, against the rows that they are of, and where a row is in an index.
use Rattle.std.specs.Prelude.{◌≡◌, ◌||◌, ◌&&◌, ◌<◌, ◌+◌, ◌*◌, ◌==◌, Bool, not, length, slice_get, List, Option, Some, None}
use Rattle.std.specs.Option.{option_map, option_or, option_and_then}
use Rattle.std.specs.List.Sorted.{IsStrictlySortedBy}
use Rattle.std.specs.Map.{keys_of, lookup}
use Rattle.std.specs.List.{list_any}
use Rattle.knx_base.specs.declared.address.IndAddr.{IndAddr}
use Rattle.key_tables.specs.declared.key_set.Mark.{Mark}
use Rattle.key_tables.specs.declared.types.Channel.{Channel}
use Rattle.key_tables.specs.declared.types.Channel.TheVariants as channel
use Rattle.key_tables.specs.declared.types.Level.{Level}
use Rattle.key_tables.specs.declared.types.Role.{Role}
use Rattle.key_tables.specs.declared.types.Row.{Row}
use Rattle.key_tables.specs.declared.types.RowKey.{RowKey}
use Rattle.key_tables.specs.declared.types.RowKey.TheVariants as under
use Rattle.key_tables.specs.declared.types.RowValue.{RowValue}
use Rattle.key_tables.specs.Build.{IsCounted}
use Rattle.key_tables.specs.Index.{same_key, key_cmp, row_key_of, subject_of, value_key, value_level, value_role}
use Rattle.key_tables.specs.Rows.{device_role}
use Prim.Native.Nat.{ℕ}

-- a key in two numbers, of which no two keys have the same
abbrev pub channel_number : Channel → ℕ
channel_number (channel.Group address) = address.0 * 4
channel_number (channel.Tool device) = device.0 * 4 + 1

abbrev pub sender_number : Option IndAddr → ℕ
sender_number None = 0
sender_number (Some sender) = sender.0 + 1

abbrev pub mark_of : RowKey → Mark
mark_of (under.Key channel) = record { channel = channel_number channel; sender = 0 }
mark_of (under.Role channel sender) =
    record { channel = channel_number channel + 2; sender = sender_number sender }

abbrev pub same_mark : Mark → Mark → Bool
same_mark a b = (a.channel == b.channel) && (a.sender == b.sender)

abbrev pub holds : List Mark → RowKey → Bool
holds set key = list_any (same_mark (mark_of key)) set

-- the set holds one key more
abbrev pub Gains : RowKey → List Mark → List Mark → Type 0
Gains key before now = (other : RowKey) → holds now other ≡ (same_key other key || holds before other)

-- the set holds one key less
abbrev pub Loses : RowKey → List Mark → List Mark → Type 0
Loses key before now = (other : RowKey) → holds now other ≡ (not (same_key other key) && holds before other)

-- the set holds just the keys of the rows, or what they say something of
abbrev pub HasThose : (Row → RowKey) → List Row → List Mark → Type 0
HasThose key_of rows set = (key : RowKey) → holds set key ≡ list_any (λ row. same_key key (key_of row)) rows

-- what a list of rows keeps beside them
pub record IsKept (rows : List Row) (seen : List Mark) (keys roles : ℕ) : Type 0 where
  pub counted : IsCounted rows keys roles
  pub seen_are : HasThose row_key_of rows seen

-- no row over it says something of the same
abbrev pub is_left : List Mark → Row → Bool
is_left subjects row = not (holds subjects (subject_of row))

-- a row under this key stands at this place of an index in order
pub record StandsAt (index : List (RowKey × RowValue)) (wanted : RowKey) (place : ℕ) : Type 0 where
  pub within : place < length index
  pub is : option_map (λ entry. entry.0) (slice_get index place) ≡ Some wanted
  pub ascend : IsStrictlySortedBy key_cmp (keys_of index)

-- it is the place of the row under the key, or there is none
abbrev pub IsPlace : List (RowKey × RowValue) → RowKey → Option ℕ → Type 0
IsPlace index wanted (Some place) = StandsAt index wanted place
IsPlace index wanted None = lookup (same_key wanted) index ≡ None

-- what an index says of the key of a channel, and of its level
abbrev pub key_in : List (RowKey × RowValue) → Channel → Option (List ℕ)
key_in index channel = option_and_then value_key (lookup (same_key (under.Key channel)) index)

abbrev pub level_in : List (RowKey × RowValue) → Channel → Option Level
level_in index channel = option_and_then value_level (lookup (same_key (under.Key channel)) index)

-- and of a sender on a channel, None being any
abbrev pub named_in : List (RowKey × RowValue) → Channel → Option IndAddr → Option Role
named_in index channel sender = option_and_then value_role (lookup (same_key (under.Role channel sender)) index)

abbrev pub role_in : List (RowKey × RowValue) → Channel → IndAddr → Option Role
role_in index channel sender =
    option_or (named_in index channel (Some sender))
    (option_or (named_in index channel None) (device_role channel sender))
