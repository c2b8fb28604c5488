-- The kinds of elements as they are read in turn, each by its name and the kind around it: plumbing for proofs.
use Rattle.std.specs.Prelude.{ℕ, if◌then◌else◌, List, [], ◌∷◌, codes, Option, Some, None}
use Rattle.std.specs.Str.{bytes_eq}
use Rattle.keyring_reader.specs.declared.kind.Kind.{Kind}
use Rattle.keyring_reader.specs.declared.kind.Kind.TheVariants as kind
use Rattle.keyring_reader.specs.Kinds.{own_address}

abbrev pub root_kind : List ℕ → Kind
root_kind name = if bytes_eq name (codes "Keyring") then kind.Keyring else kind.Other

abbrev pub section_kind : List ℕ → List (List ℕ × List ℕ) → Kind
section_kind name attributes =
    if bytes_eq name (codes "Interface") then kind.Interface (own_address attributes)
    else if bytes_eq name (codes "GroupAddresses") then kind.GroupAddresses
    else if bytes_eq name (codes "Devices") then kind.Devices
    else kind.Other

abbrev pub where_named : List ℕ → List ℕ → Kind → Kind
where_named name wanted found = if bytes_eq name wanted then found else kind.Other

-- None stands for the document
abbrev pub kind_in : Option Kind → List ℕ → List (List ℕ × List ℕ) → Kind
kind_in None name attributes = root_kind name
kind_in (Some kind.Keyring) name attributes = section_kind name attributes
kind_in (Some (kind.Interface own)) name attributes = where_named name (codes "Group") (kind.Listing own)
kind_in (Some kind.GroupAddresses) name attributes = where_named name (codes "Group") kind.GroupKey
kind_in (Some kind.Devices) name attributes = where_named name (codes "Device") kind.Device
kind_in (Some _) name attributes = kind.Other

abbrev pub innermost : List Kind → Option Kind
innermost [] = None
innermost (kind ∷ opened) = Some kind
