-- Statement: which lists of rows are tables, and how two lists are merged.
use Rattle.std.specs.Prelude.{◌≡◌, ◌≤◌, ℕ, nat_le, not, Bool, true, false, if◌then◌else◌, List, [], ◌++◌, length, Option, Some, None}
use Rattle.std.specs.Option.{option_or}
use Rattle.std.specs.List.{list_any, filter, AllPairs}
use Rattle.knx_base.specs.declared.address.IndAddr.{IndAddr}
use Rattle.key_tables.specs.declared.types.Channel.{Channel}
use Rattle.key_tables.specs.declared.types.Channel.TheVariants as channel
use Rattle.key_tables.specs.declared.types.Row.{Row}
use Rattle.key_tables.specs.declared.types.Row.TheVariants as row
use Rattle.key_tables.specs.declared.faults.BuildFault.{BuildFault}
use Rattle.key_tables.specs.declared.faults.BuildFault.TheVariants.{Twice, TooMany, NoMemory}
use Rattle.key_tables.specs.First.{first_of}
use Rattle.key_tables.specs.Rows.{role_channel, is_channel, is_key_row, is_role_row, key_of, level_of, role_of}

-- ---- limits

abbrev pub is_key : Row → Bool
is_key (row.Role _ _ _) = false
is_key _ = true

abbrev pub is_role : Row → Bool
is_role row = not (is_key row)

abbrev pub most_keys : ℕ
most_keys = 4096

abbrev pub most_roles : ℕ
most_roles = 16384

-- as many rows of its kind as there may be stand before the row
abbrev pub is_full : List Row → Row → Bool
is_full before (row.Role _ _ _) = nat_le most_roles (length (filter is_role before))
is_full before _ = nat_le most_keys (length (filter is_key before))

-- so many rows of keys, and of roles, may stand in one list
pub record AreFew (rows : List Row) : Type 0 where
  pub keys : length (filter is_key rows) ≤ most_keys
  pub roles : length (filter is_role rows) ≤ most_roles

-- ---- rows that say twice

-- the earlier row is of the same group, of the same device, or of the same sender on the same channel
abbrev pub repeats : Row → Row → Bool
repeats (row.Group address _ _) earlier = is_key_row (channel.Group address) earlier
repeats (row.Tool device _) earlier = is_key_row (channel.Tool device) earlier
repeats (row.Role channel sender _) earlier = is_role_row channel sender earlier

abbrev pub is_repeated : List Row → Row → Bool
is_repeated before row = list_any (repeats row) before

-- neither row repeats the other
abbrev pub AreApart : Row → Row → Type 0
AreApart row other = (repeats row other ≡ false) × (repeats other row ≡ false)

-- of two places in the list neither row repeats the other
abbrev pub NoneTwice : List Row → Type 0
NoneTwice rows = AllPairs AreApart rows

-- ---- the first row that may not stand

-- why the row may not stand right after these
unfoldable pub row_fault : List Row → Row → Option BuildFault
row_fault before row =
    if is_repeated before row then Some (Twice (length before))
    else if is_full before row then Some (TooMany (length before))
    else None

-- of rows that are to stand after others, the fault of the first that may not
abbrev pub first_fault : List Row → List Row → Option BuildFault
first_fault before rows = first_of row_fault before rows

-- the rows were added one after another, and each may stand where it does
pub record Adds (before now rows : List Row) : Type 0 where
  pub are : now ≡ before ++ rows
  pub stand : first_fault before rows ≡ None

-- the fault of the first row that may not stand after those before it
unfoldable pub build_fault : List Row → Option BuildFault
build_fault rows = first_fault [] rows

-- every row may stand, and so many of them are of keys and of roles
pub record IsCounted (rows : List Row) (keys roles : ℕ) : Type 0 where
  pub stand : build_fault rows ≡ None
  pub once : NoneTwice rows
  pub few : AreFew rows
  pub keys_are : keys ≡ length (filter is_key rows)
  pub roles_are : roles ≡ length (filter is_role rows)

-- it is this fault that was found, or memory was wanting
abbrev pub IsFault : BuildFault → Option BuildFault → Type 0
IsFault NoMemory found = Unit {0}
IsFault fault found = found ≡ Some fault

-- ---- merging

-- the rows say something of one channel, both its key or both a role on it
abbrev pub displaces : Row → Row → Bool
displaces (row.Group address _ _) over = is_key_row (channel.Group address) over
displaces (row.Tool device _) over = is_key_row (channel.Tool device) over
displaces (row.Role channel _ _) over = is_channel channel (role_channel over)

-- a row of the list above says it
abbrev pub is_displaced : List Row → Row → Bool
is_displaced over row = list_any (displaces row) over

abbrev pub is_kept : List Row → Row → Bool
is_kept over row = not (is_displaced over row)

-- All rows of the list above, and then those of the list below whose channel has no key, or no role, above.
unfoldable pub merged : List Row → List Row → List Row
merged over under = over ++ filter (is_kept over) under

-- ---- what a merged list says of a channel

-- a row gives a role on the channel
abbrev pub has_roles : List Row → Channel → Bool
has_roles rows channel = list_any (λ row. is_channel channel (role_channel row)) rows

-- the key is that of the list above, where it has one, else that of the list below
abbrev pub KeysMerge : List Row → List Row → Type 0
KeysMerge over under =
    (channel : Channel) → key_of (merged over under) channel ≡ option_or (key_of over channel) (key_of under channel)

-- and so is the level
abbrev pub LevelsMerge : List Row → List Row → Type 0
LevelsMerge over under =
    (channel : Channel) → level_of (merged over under) channel
    ≡ option_or (level_of over channel) (level_of under channel)

-- the roles are all those of the list above, where it gives any on the channel, else all those of the list below
abbrev pub RolesMerge : List Row → List Row → Type 0
RolesMerge over under =
    (channel : Channel) (sender : IndAddr)
    → role_of (merged over under) channel sender ≡ role_of (if has_roles over channel then over else under) channel
    sender

-- What merged rows say of a channel: all of it is what one of the two lists says.
pub record LookUpsMerge (over under : List Row) : Type 0 where
  pub keys : KeysMerge over under
  pub levels : LevelsMerge over under
  pub roles : RolesMerge over under
