-- The attributes that a keyring must have, by their names. This is statement.
use Rattle.std.specs.Prelude.{ℕ, List, codes, Result}
use Rattle.std.specs.Option.{ok_or}
use Rattle.tag_text.specs.Attributes.{value_named}
use Rattle.keyring_reader.specs.declared.attribute.Attribute.{Attribute}
use Rattle.keyring_reader.specs.declared.attribute.Attribute.TheVariants.{Created, Signature, Address, Key, IndividualAddress}
use Rattle.keyring_reader.specs.declared.fault.KeyringFault.{KeyringFault}
use Rattle.keyring_reader.specs.declared.fault.KeyringFault.TheVariants as fault

abbrev pub name_of : Attribute → List ℕ
name_of Created = codes "Created"
name_of Signature = codes "Signature"
name_of Address = codes "Address"
name_of Key = codes "Key"
name_of IndividualAddress = codes "IndividualAddress"

-- the value of the attribute that an element at this place must have
abbrev pub required : List (List ℕ × List ℕ) → Attribute → ℕ → Result (List ℕ) KeyringFault
required attributes attribute place = ok_or (value_named attributes (name_of attribute)) (fault.Missing attribute place)
