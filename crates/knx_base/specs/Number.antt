-- Statement: sequence numbers of 48 bits as octets, the highest first.
use Rattle.std.specs.Prelude.{ℕ, ◌+◌, ◌*◌, ◌/◌, ◌%◌, ◌^◌, List, [], ◌∷◌, slice_index}

-- the number that the six octets from this place on write
unfoldable pub number_at : List ℕ → ℕ → ℕ
number_at octets at =
    slice_index octets at * 2 ^ 40 + slice_index octets (at + 1) * 2 ^ 32 + slice_index octets (at + 2) * 2 ^ 24
    + slice_index octets (at + 3) * 2 ^ 16 + slice_index octets (at + 4) * 2 ^ 8 + slice_index octets (at + 5)

-- the number that six octets write
abbrev pub number_of : List ℕ → ℕ
number_of octets = number_at octets 0

-- the six octets of a number
unfoldable pub octets_of : ℕ → List ℕ
octets_of n =
    n / 2 ^ 40 % 256 ∷ n / 2 ^ 32 % 256 ∷ n / 2 ^ 24 % 256 ∷ n / 2 ^ 16 % 256 ∷ n / 2 ^ 8 % 256 ∷ n % 256 ∷ []
