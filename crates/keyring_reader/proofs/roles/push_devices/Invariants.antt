use Rattle.std.proofs.Common.{◌≡◌, ◌++◌, map}
use Rattle.keyring_reader.specs.Roles.{device_role}
use Rattle.keyring_reader.proofs.roles.push_devices.Given as goal

-- the rows so far and those of the devices that are left are all
abbrev pub invariant-devices : goal.invariant-devices
invariant-devices l =
    l.rows.items ++ map device_role l.device-iterator ≡ l.initial.rows.items ++ map device_role l.devices.keys
