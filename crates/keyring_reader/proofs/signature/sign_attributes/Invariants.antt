use Rattle.std.proofs.Common.{◌≡◌, ℕ, List, ◌++◌, map, flat_map}
use Rattle.sha2.specs.Hashers.{Holds256}
use Rattle.keyring_reader.specs.Signed.{signed_attribute}
use Rattle.keyring_reader.specs.Texts.{deref_texts}
use Rattle.keyring_reader.proofs.signature.sign_attributes.Given as goal

-- these were signed, and the others are left
abbrev pub invariant-attributes : goal.invariant-attributes
invariant-attributes l = (m : List ℕ) → Holds256 l.initial.hasher m
    → (done : List (List ℕ × List ℕ)) × (done ++ map deref_texts l.name-iterator ≡ map deref_texts l.attributes.entries)
    × Holds256 l.hasher (m ++ flat_map signed_attribute done)
