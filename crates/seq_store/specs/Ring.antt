-- Statement: a ring of records in two banks, with indexes of so many octets.
--
-- A bank has a gate, a generation of 8 octets, a number of 6 octets for each value, and sixteen records of gate, index
-- and number. An image is any list of numbers, so each number of six octets is taken below 2^48.
use Rattle.std.specs.Prelude.{ℕ, zero, suc, ◌+◌, ◌*◌, ◌/◌, ◌%◌, ◌^◌, max, Bool, false, ◌&&◌, ◌==◌, nat_le, if◌then◌else◌, List, [], ◌∷◌, ◌++◌, replicate, slice_index, Option, Some, None}
use Rattle.knx_base.specs.Number.{number_at, octets_of}
use Rattle.nvm_model.specs.Gate.{is_open, gated_writes}
use Rattle.nvm_model.specs.Write.{Write}
use Rattle.seq_store.specs.declared.bank.Banks.{Banks}

-- an index of so many octets, the highest first, and the octets of one
abbrev pub index_at : ℕ → List ℕ → ℕ → ℕ
index_at zero image at = 0
index_at (suc width) image at = index_at width image at * 256 + slice_index image (at + width)

abbrev pub index_octets : ℕ → ℕ → List ℕ
index_octets zero n = []
index_octets (suc width) n = index_octets width (n / 256) ++ n % 256 ∷ []

-- a number of six octets
abbrev pub six_at : List ℕ → ℕ → ℕ
six_at image at = number_at image at % 2 ^ 48

-- a generation of eight octets, and those octets
abbrev pub generation_at : List ℕ → ℕ → ℕ
generation_at image at = slice_index image at * 2 ^ 56 + slice_index image (at + 1) * 2 ^ 48 + number_at image (at + 2)

unfoldable pub generation_octets : ℕ → List ℕ
generation_octets g = g / 2 ^ 56 % 256 ∷ g / 2 ^ 48 % 256 ∷ octets_of g

-- the number of this record, where it is one of this value, else 0
abbrev pub record_number : ℕ → List ℕ → ℕ → ℕ → ℕ
record_number width image place v =
    if is_open image place && index_at width image (place + 1) == v then six_at image (place + 1 + width) else 0

-- the greatest number of this value in so many records, from this place on
unfoldable pub records_number : ℕ → List ℕ → ℕ → ℕ → ℕ → ℕ
records_number width image v zero place = 0
records_number width image v (suc n) place =
    max (record_number width image place v) (records_number width image v n (place + (7 + width)))

-- the place of the first of so many records that is not open
unfoldable pub first_shut : ℕ → List ℕ → ℕ → ℕ → Option ℕ
first_shut width image zero place = None
first_shut width image (suc n) place =
    if is_open image place then first_shut width image n (place + (7 + width)) else Some place

-- number v of a bank, the sum of its numbers, and the place of its records
abbrev pub bank_number : List ℕ → ℕ → ℕ → ℕ
bank_number image at v = six_at image (at + 9 + 6 * v)

unfoldable pub numbers_sum : List ℕ → ℕ → ℕ → ℕ
numbers_sum image at zero = 0
numbers_sum image at (suc v) = numbers_sum image at v + bank_number image at v

abbrev pub records_place : ℕ → ℕ → ℕ
records_place values at = at + 9 + 6 * values

abbrev pub bank_size : ℕ → ℕ → ℕ
bank_size width values = 9 + 6 * values + 16 * (7 + width)

-- value v of a bank
unfoldable pub bank_value : ℕ → ℕ → List ℕ → ℕ → ℕ → ℕ
bank_value width values image at v =
    max (bank_number image at v) (records_number width image v 16 (records_place values at))

-- the generation of a bank that is open
unfoldable pub open_generation : ℕ → List ℕ → ℕ → Option ℕ
open_generation values image at =
    if is_open image at && nat_le (generation_at image (at + 1)) (numbers_sum image at values)
    then Some (generation_at image (at + 1)) else None

-- Current is the open bank with the greater generation, and the first where both are equal.
abbrev pub banks_by : Option ℕ → Option ℕ → ℕ → ℕ → Option Banks
banks_by None None a b = None
banks_by (Some g) None a b = Some (record { current = a; other = b })
banks_by None (Some h) a b = Some (record { current = b; other = a })
banks_by (Some g) (Some h) a b =
    if nat_le h g then Some (record { current = a; other = b }) else Some (record { current = b; other = a })

-- the banks of a ring at this place, where one is open
unfoldable pub banks_of : ℕ → ℕ → ℕ → List ℕ → Option Banks
banks_of width values at image =
    banks_by (open_generation values image at) (open_generation values image (at + bank_size width values)) at
    (at + bank_size width values)

abbrev pub value_in : ℕ → ℕ → List ℕ → ℕ → Option Banks → Option ℕ
value_in width values image v None = None
value_in width values image v (Some banks) = Some (bank_value width values image banks.current v)

abbrev pub ring_value : ℕ → ℕ → ℕ → List ℕ → ℕ → Option ℕ
ring_value width values at image v = value_in width values image v (banks_of width values at image)

-- six octets for each of so many numbers
unfoldable pub numbers_octets : (ℕ → ℕ) → ℕ → List ℕ
numbers_octets number zero = []
numbers_octets number (suc v) = numbers_octets number v ++ octets_of (number v)

-- behind its gate: a bank with this generation, these numbers and no record
unfoldable pub bank_body : ℕ → ℕ → ℕ → (ℕ → ℕ) → List ℕ
bank_body width values g number = generation_octets g ++ numbers_octets number values ++ replicate (16 * (7 + width)) 0

-- a record behind its gate
abbrev pub record_body : ℕ → ℕ → ℕ → List ℕ
record_body width v n = index_octets width v ++ octets_of n

-- the values of a bank with value v replaced
abbrev pub replaced : ℕ → ℕ → List ℕ → ℕ → ℕ → ℕ → ℕ → ℕ
replaced width values image at v n w = if w == v then n else bank_value width values image at w

-- A raise takes the first record that is not open, or else the other bank.
abbrev pub writes_by : ℕ → ℕ → List ℕ → ℕ → ℕ → Banks → Option ℕ → List Write
writes_by width values image v n banks (Some place) = gated_writes place false (record_body width v n)
writes_by width values image v n banks None =
    gated_writes banks.other (is_open image banks.other)
    (bank_body width values (generation_at image (banks.current + 1) + 1)
    (replaced width values image banks.current v n))

abbrev pub writes_in : ℕ → ℕ → List ℕ → ℕ → ℕ → Option Banks → List Write
writes_in width values image v n None = []
writes_in width values image v n (Some banks) =
    writes_by width values image v n banks (first_shut width image 16 (records_place values banks.current))

abbrev pub ring_writes : ℕ → ℕ → ℕ → List ℕ → ℕ → ℕ → List Write
ring_writes width values at image v n = writes_in width values image v n (banks_of width values at image)
