use Rattle.std.proofs.Common.{◌≡◌, fold, take}
use Rattle.std.specs.BTreeSet.{insert_key}
use Rattle.keyring_reader.specs.Roles.{by_device}
use Rattle.keyring_reader.proofs.gathered.insert_all.Given as goal

-- those so far are in the set
abbrev pub invariant-devices : goal.invariant-devices
invariant-devices l = l.set.keys ≡ fold (insert_key by_device) l.initial.set.keys (take l.device-index l.devices)
