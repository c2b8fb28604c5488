-- What an element of a keyring is, by the path of names from the root to it. This is statement.
use Rattle.std.specs.Prelude.{ℕ, ◌==◌, ◌&&◌, if◌then◌else◌, Bool, true, false, List, [], ◌∷◌, codes, reverse, Option, Some, None}
use Rattle.std.specs.Option.{option_map, option_and_then}
use Rattle.std.specs.Str.{bytes_eq}
use Rattle.knx_base.specs.declared.address.GroupAddr.{GroupAddr}
use Rattle.knx_base.specs.declared.address.IndAddr.{IndAddr}
use Rattle.knx_base.specs.Address.{group_of, individual_of}
use Rattle.tag_text.specs.Attributes.{value_named}
use Rattle.keyring_reader.specs.declared.kind.Kind.{Kind}
use Rattle.keyring_reader.specs.declared.kind.Kind.TheVariants as kind
use Rattle.keyring_reader.specs.declared.attribute.Attribute.TheVariants.{IndividualAddress}
use Rattle.keyring_reader.specs.Attributes.{name_of}

abbrev pub device_named : List ℕ → Option IndAddr
device_named text = option_map (λ value. record { 0 = value }) (individual_of text)

abbrev pub group_at : ℕ → Option GroupAddr
group_at value = if value == 0 then None else Some (record { 0 = value })

-- a group other than 0
abbrev pub group_named : List ℕ → Option GroupAddr
group_named text = option_and_then group_at (group_of text)

-- an interface's own address
abbrev pub own_address : List (List ℕ × List ℕ) → Option IndAddr
own_address attributes = option_and_then device_named (value_named attributes (name_of IndividualAddress))

pub record Named : Type 0 where
  pub name : List ℕ
  pub attributes : List (List ℕ × List ℕ)

-- the elements have these names
abbrev pub are_named : List Named → List (List ℕ) → Bool
are_named [] [] = true
are_named [] (name ∷ names) = false
are_named (element ∷ outer) [] = false
are_named (element ∷ outer) (name ∷ names) = are_named outer names && bytes_eq element.name name

-- this path of names leads from the root to the first of the elements, each of which stands in the one that follows
abbrev pub stands_at : List Named → List (List ℕ) → Bool
stands_at elements path = are_named elements (reverse path)

abbrev pub address_of : List Named → Option IndAddr
address_of [] = None
address_of (element ∷ outer) = own_address element.attributes

-- the address of the element that the first stands in
abbrev pub outer_address : List Named → Option IndAddr
outer_address [] = None
outer_address (element ∷ outer) = address_of outer

-- the kind of the first of the elements
abbrev pub kind_at : List Named → Kind
kind_at elements =
    if stands_at elements (codes "Keyring" ∷ []) then kind.Keyring
    else if stands_at elements (codes "Keyring" ∷ codes "Interface" ∷ []) then kind.Interface (address_of elements)
    else if stands_at elements (codes "Keyring" ∷ codes "GroupAddresses" ∷ []) then kind.GroupAddresses
    else if stands_at elements (codes "Keyring" ∷ codes "Devices" ∷ []) then kind.Devices
    else if stands_at elements (codes "Keyring" ∷ codes "Interface" ∷ codes "Group" ∷ [])
    then kind.Listing (outer_address elements)
    else if stands_at elements (codes "Keyring" ∷ codes "GroupAddresses" ∷ codes "Group" ∷ []) then kind.GroupKey
    else if stands_at elements (codes "Keyring" ∷ codes "Devices" ∷ codes "Device" ∷ []) then kind.Device
    else kind.Other
