-- Blocks of sixteen octets, and the first of them that passes a test. This is statement.
use Rattle.std.specs.Prelude.{ℕ, zero, suc, ◌/◌, ◌%◌, ◌^◌, Bool, if◌then◌else◌, List, [], ◌∷◌, Option, Some, None}
use Rattle.std.specs.Option.{option_or}

-- so many octets of a number, the lowest first
unfoldable pub octets_of : ℕ → ℕ → List ℕ
octets_of zero number = []
octets_of (suc count) number = number % 256 ∷ octets_of count (number / 256)

-- the blocks, by number
abbrev pub block_of : ℕ → List ℕ
block_of number = octets_of 16 number

abbrev pub where_true : Bool → List ℕ → Option (List ℕ)
where_true test block = if test then Some block else None

-- the first that passes, of the blocks whose number is below this
unfoldable pub first_below : (List ℕ → Bool) → ℕ → Option (List ℕ)
first_below test zero = None
first_below test (suc number) =
    option_or (first_below test number) (where_true (test (block_of number)) (block_of number))

-- the first block that passes, of all blocks
unfoldable pub first_block : (List ℕ → Bool) → Option (List ℕ)
first_block test = first_below test (256 ^ 16)
