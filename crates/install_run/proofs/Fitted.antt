-- A number that a memory restores has 48 bits, and so has each mark of a node whose memory restores its numbers.
use Rattle.std.proofs.Common.{◌≡◌, inl, inr, ℕ, zero, suc, ◌+◌, ◌%◌, ◌^◌, ◌<◌, max, List, length, Bool, true, false, ◌&&◌, Option, Some, None, refl, subst, arith}
use Rattle.std.specs.Prelude.{◌==◌, slice_index, unwrap_or, if◌then◌else◌}
use Rattle.std.proofs.lemmas.Bool.{cases_lt}
use Rattle.std.proofs.lemmas.List.{get_or_past}
use Rattle.nvm_model.specs.Gate.{is_open}
use Rattle.seq_store.specs.Laws.{restore}
use Rattle.seq_store.specs.Layout.{width, value_of}
use Rattle.seq_store.specs.Ring.{index_at, records_number, records_place, bank_number, bank_value, banks_of, value_in}
use Rattle.seq_store.specs.Runs.{Numbers, RestoresNumbers, marks_from}
use Rattle.seq_store.specs.declared.bank.Banks.{Banks}
use Rattle.node_core.specs.Standing.{Standing, mark_at}
use Rattle.install_run.specs.Marks.{marks_by}
use Rattle.install_run.specs.Turn.{NodeAt}
use Rattle.install_run.proofs.Marking.{AllStand}
use Rattle.install_run.proofs.Sounding.{some_same}

six_fits : (there : Bool) (number : ℕ) → (if there then number % 2 ^ 48 else 0) < 2 ^ 48
six_fits true number = omega arith
six_fits false number = omega arith

pub max_fits : (a b : ℕ) → a < 2 ^ 48 → b < 2 ^ 48 → max a b < 2 ^ 48
max_fits a b of_a of_b = omega (arith, of_a, of_b)

records_fit : (image : List ℕ) (v n place : ℕ) → records_number width image v n place < 2 ^ 48
unfolding records_number
records_fit image v zero place = omega arith
records_fit image v (suc n) place =
    max_fits _ (records_number width image v n (place + (7 + width)))
    (six_fits (is_open image place && index_at width image (place + 1) == v) _)
    (records_fit image v n (place + (7 + width)))

bank_fits : (values : ℕ) (image : List ℕ) (at v : ℕ) → bank_value width values image at v < 2 ^ 48
unfolding bank_value
bank_fits values image at v =
    max_fits (bank_number image at v) _ (six_fits true _) (records_fit image v 16 (records_place values at))

value_fits_in : (values : ℕ) (image : List ℕ) (v n : ℕ) (banks : Option Banks)
    → value_in width values image v banks ≡ Some n → n < 2 ^ 48
value_fits_in values image v n None is = absurd cc
value_fits_in values image v n (Some banks) is =
    subst (λ n. n < 2 ^ 48) (some_same (bank_value width values image banks.current v) n is)
    (bank_fits values image banks.current v)

value_fits : (lanes : ℕ) (image : List ℕ) (v n : ℕ) → value_of lanes image v ≡ Some n → n < 2 ^ 48
unfolding value_of
value_fits lanes image v n is = value_fits_in (1 + lanes) image v n (banks_of width (1 + lanes) 0 image) is

mark_fits : (numbers : Numbers) (image : List ℕ) (place : Option ℕ) → RestoresNumbers numbers image
    → mark_at numbers.marks place < 2 ^ 48
mark_fits numbers image None restores = omega arith
mark_fits numbers image (Some lane) restores = elim (cases_lt lane (length numbers.marks)) [
  | inl below ↦ value_fits (length numbers.marks) image (1 + lane) (slice_index numbers.marks lane)
      (restores.each lane below)
  | inr past ↦ let none : slice_index numbers.marks lane ≡ 0 = get_or_past numbers.marks lane 0 past in
      omega (arith, none)
]

-- ---- of a node

read_value : (found : Option ℕ) → ((n : ℕ) → found ≡ Some n → n < 2 ^ 48) → unwrap_or found 0 < 2 ^ 48
read_value None each = omega arith
read_value (Some n) each = each n refl

read_fits : (lanes : ℕ) (image : List ℕ) (lane n k : ℕ) → slice_index (marks_from lanes image lane n) k < 2 ^ 48
read_fits lanes image lane zero k = omega arith
read_fits lanes image lane (suc n) zero =
    read_value (restore lanes image lane) (λ m is. value_fits lanes image (1 + lane) m is)
read_fits lanes image lane (suc n) (suc k) = read_fits lanes image (lane + 1) n k

read_at : (lanes : ℕ) (image : List ℕ) (place : Option ℕ) → mark_at (marks_from lanes image 0 lanes) place < 2 ^ 48
read_at lanes image None = omega arith
read_at lanes image (Some lane) = read_fits lanes image 0 lanes lane

-- whether it runs or not
pub marks_fit : (n : NodeAt) (standing : Option Standing) (place : Option ℕ) → n.standing ≡ standing → AllStand n
    → mark_at (marks_by n standing) place < 2 ^ 48
marks_fit n None place is stand = read_at (length n.config.lanes) n.octets place
marks_fit n (Some s) place is stand = mark_fits s.numbers n.octets place (stand s is).restores
