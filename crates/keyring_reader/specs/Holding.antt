-- What was gathered of the contents of a keyring, so far: plumbing for proofs.
use Rattle.std.specs.Prelude.{◌≡◌, List}
use Rattle.std.specs.Option.{option_map}
use Rattle.std.specs.BTreeMap.{BTreeMap}
use Rattle.std.specs.BTreeMap as tree
use Rattle.std.specs.BTreeSet.{BTreeSet, contains, keys}
use Rattle.knx_base.specs.declared.address.GroupAddr.{GroupAddr}
use Rattle.knx_base.specs.declared.address.IndAddr.{IndAddr}
use Rattle.key_tables.specs.declared.types.Channel.TheVariants as channel
use Rattle.key_tables.specs.Rows.{has_key}
use Rattle.keyring_reader.specs.declared.gathered.Gathered.{Gathered}
use Rattle.keyring_reader.specs.declared.said.Listing.{Listing}
use Rattle.keyring_reader.specs.Contents.{Contents}
use Rattle.keyring_reader.specs.Roles.{by_group, by_device, groups_of, devices_of, listed_senders}

-- the map has the senders of each group that is listed
abbrev pub AreListed : BTreeMap GroupAddr (BTreeSet IndAddr) → List Listing → Type 0
AreListed senders listings =
    (group : GroupAddr) → option_map keys (tree.get by_group senders group) ≡ listed_senders listings group

pub record Holds (gathered : Gathered) (contents : Contents) : Type 0 where
  pub rows : gathered.rows.items ≡ contents.rows
  pub groups : gathered.groups.keys ≡ groups_of contents.rows
  pub devices : gathered.devices.keys ≡ devices_of contents.rows
  pub group_known : (group : GroupAddr) → contains by_group gathered.groups group
      ≡ has_key contents.rows (channel.Group group)
  pub device_known : (device : IndAddr) → contains by_device gathered.devices device
      ≡ has_key contents.rows (channel.Tool device)
  pub listed : AreListed gathered.senders contents.listings
