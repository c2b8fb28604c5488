-- The role rows that a keyring's contents give. This is statement.
use Rattle.std.specs.Prelude.{ℕ, ◌==◌, if◌then◌else◌, Bool, List, [], ◌∷◌, ◌++◌, map, fold, flat_map, filter_map, Option, Some, None}
use Rattle.std.specs.List.{list_any, filter}
use Rattle.std.specs.declared.cmp.Ordering.{Ordering}
use Rattle.std.specs.Ordering.{nat_cmp}
use Rattle.std.specs.BTreeSet.{insert_key}
use Rattle.knx_base.specs.declared.address.GroupAddr.{GroupAddr}
use Rattle.knx_base.specs.declared.address.IndAddr.{IndAddr}
use Rattle.key_tables.specs.declared.types.Channel.TheVariants as channel
use Rattle.key_tables.specs.declared.types.Role.TheVariants.{Command, Manage}
use Rattle.key_tables.specs.declared.types.Row.{Row}
use Rattle.key_tables.specs.declared.types.Row.TheVariants as row
use Rattle.keyring_reader.specs.declared.said.Listing.{Listing}
use Rattle.keyring_reader.specs.Contents.{Contents}

-- each of these once, in ascending order of its number
unfoldable pub ascending : {A : Type 0} → (A → ℕ) → List A → List A
ascending number = fold (insert_key (λ a b. nat_cmp (number a) (number b))) []

abbrev pub by_group : GroupAddr → GroupAddr → Ordering
by_group a b = nat_cmp a.0 b.0

abbrev pub by_device : IndAddr → IndAddr → Ordering
by_device a b = nat_cmp a.0 b.0

abbrev pub keyed_group : Row → Option GroupAddr
keyed_group (row.Group address _ _) = Some address
keyed_group _ = None

abbrev pub keyed_device : Row → Option IndAddr
keyed_device (row.Tool device _) = Some device
keyed_device _ = None

-- the groups with a key
abbrev pub groups_of : List Row → List GroupAddr
groups_of rows = ascending (λ group. group.0) (filter_map keyed_group rows)

-- the devices with a tool key
abbrev pub devices_of : List Row → List IndAddr
devices_of rows = ascending (λ device. device.0) (filter_map keyed_device rows)

abbrev pub lists : GroupAddr → Listing → Bool
lists group listing = listing.group.0 == group.0

abbrev pub is_listed : List Listing → GroupAddr → Bool
is_listed listings group = list_any (lists group) listings

-- the senders of all listings of the group
abbrev pub senders_to : List Listing → GroupAddr → List IndAddr
senders_to listings group = flat_map (λ listing. listing.senders) (filter (lists group) listings)

-- those who may send to a group that is listed
abbrev pub listed_senders : List Listing → GroupAddr → Option (List IndAddr)
listed_senders listings group =
    if is_listed listings group then Some (ascending (λ device. device.0) (senders_to listings group)) else None

abbrev pub commands : GroupAddr → IndAddr → Row
commands group sender = row.Role (channel.Group group) (Some sender) Command

-- a listed group is commanded by those who may send to it, any other group by any sender
abbrev pub roles_by : GroupAddr → Option (List IndAddr) → List Row
roles_by group (Some senders) = map (commands group) senders
roles_by group None = row.Role (channel.Group group) None Command ∷ []

abbrev pub group_roles : List Listing → GroupAddr → List Row
group_roles listings group = roles_by group (listed_senders listings group)

-- any sender manages a device
abbrev pub device_role : IndAddr → Row
device_role device = row.Role (channel.Tool device) None Manage

-- the key rows, then the role rows: of the groups with a key, ascending, and then of the devices, ascending
unfoldable pub rows_of : Contents → List Row
rows_of contents =
    contents.rows ++ flat_map (group_roles contents.listings) (groups_of contents.rows)
    ++ map device_role (devices_of contents.rows)
