-- Octets and names in their ranges. This is statement.
use Rattle.std.specs.Prelude.{◌≡◌, ℕ, ◌≤◌, ◌==◌, ◌||◌, ◌&&◌, nat_eq, nat_le, Bool, true, List, length}
use Rattle.std.specs.List.{list_all}
use Rattle.std.specs.Cmp.Lexicographic.{pointwise}
use Rattle.aes_modes.specs.Cipher.{AreOctets}

-- so many octets at the least and at the most
pub record HasLength (low high : ℕ) (octets : List ℕ) : Type 0 where
  pub least : low ≤ length octets
  pub most : length octets ≤ high

-- six octets, as a synchronisation's challenge has
pub record IsChallenge (challenge : List ℕ) : Type 0 where
  pub six : length challenge ≡ 6
  pub octets : AreOctets challenge

-- a to z, a digit, or `_`
abbrev pub is_name_octet : ℕ → Bool
is_name_octet octet = nat_le 97 octet && nat_le octet 122 || nat_le 48 octet && nat_le octet 57 || octet == 95

-- 1 to 16 such octets
abbrev pub is_name : List ℕ → Bool
is_name text = nat_le 1 (length text) && nat_le (length text) 16 && list_all is_name_octet text

pub record IsName (text : List ℕ) : Type 0 where
  pub fits : HasLength 1 16 text
  pub letters : list_all is_name_octet text ≡ true

abbrev pub same_name : List ℕ → List ℕ → Bool
same_name name other = pointwise nat_eq name other
