-- A fault that was found.
use Rattle.std.proofs.Common.{◌≡◌, Result, Err}
use Rattle.keyring_reader.specs.declared.fault.KeyringFault.{KeyringFault}
use Rattle.keyring_reader.specs.declared.fault.KeyringFault.TheVariants as fault
use Rattle.keyring_reader.specs.Keyring.{IsFault}

pub is_fault : {A : Type 0} (why : KeyringFault) (found : Result A KeyringFault) → found ≡ Err why → IsFault why found
is_fault fault.NoMemory found is = tt
is_fault (fault.Tag why) found is = is
is_fault fault.NotKeyring found is = is
is_fault (fault.Missing attribute place) found is = is
is_fault (fault.LongText place) found is = is
is_fault (fault.Signature stored computed) found is = is
is_fault (fault.Key place) found is = is
is_fault (fault.Address place) found is = is
is_fault (fault.Twice place) found is = is
