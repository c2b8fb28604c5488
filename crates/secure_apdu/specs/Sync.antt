-- Statement: the octets of a synchronisation.
use Rattle.std.specs.Prelude.{ℕ, List, [], ◌∷◌, bit_xor}
use Rattle.knx_base.specs.Number.{octets_of, number_of, number_at}

-- the XOR of two lists, octet by octet
abbrev pub xor_octets : List ℕ → List ℕ → List ℕ
xor_octets [] _ = []
xor_octets (x ∷ xs) [] = []
xor_octets (x ∷ xs) (y ∷ ys) = bit_xor x y ∷ xor_octets xs ys

-- the number whose six octets are those of a number, XOR a challenge
abbrev pub xor_number : List ℕ → ℕ → ℕ
xor_number challenge number = number_of (xor_octets challenge (octets_of number))

-- the numbers in the payload of an answer: the one under which it was sealed, and the one that the responder kept
abbrev pub sync_values : List ℕ → ℕ × ℕ
sync_values payload = (number_at payload 0, number_at payload 6)
