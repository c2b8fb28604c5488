-- The two copies of a cell: their numbers, the greatest of them, and the copy that is not current.
use Rattle.std.proofs.Common.{◌≡◌, ◌⊎◌, ℕ, ◌+◌, ◌<◌, ◌≤◌, Bool, true, false, List, length, Option, None, Some, cond, refl, sym, ap, ◌∙◌, inl, inr, arith, add-zero, zero-add, add_assoc, leb-true, leb-false}
use Rattle.std.specs.Prelude.{slice_index, slice_range, nat_le, ◌==◌}
use Rattle.std.proofs.lemmas.Grind.{common_steps}
use Rattle.knx_base.specs.Number.{number_at}
use Rattle.knx_base.proofs.NumberLemmas.{number_at_same}
use Rattle.nvm_model.specs.Gate.{is_open}
use Rattle.mark_cells.specs.Cell.{copy_number, greatest, reading, place_beside, other_copy, IsUnformatted}

pub greatest-comm : (a b : Option ℕ) → greatest a b ≡ greatest b a
greatest-comm None None = refl
greatest-comm None (Some b) = refl
greatest-comm (Some a) None = refl
greatest-comm (Some a) (Some b) = ap Some (omega arith)

-- The copy beside the place is the greatest: it is current.
beside_by : (le : Bool) (a b at : ℕ) → nat_le b a ≡ le
    → ((cond le (at + 7) at ≡ at) × (greatest (Some a) (Some b) ≡ Some b))
    ⊎ ((cond le (at + 7) at ≡ at + 7) × (greatest (Some a) (Some b) ≡ Some a))
beside_by true a b at is = inr (refl, ap Some (omega (arith, leb-true b a is)))
beside_by false a b at is = inl (refl, ap Some (omega (arith, leb-false b a is)))

pub beside : (a b : Option ℕ) (at : ℕ) → ((place_beside a b at ≡ at) × (greatest a b ≡ b))
    ⊎ ((place_beside a b at ≡ at + 7) × (greatest a b ≡ a))
beside None b at = inl (refl, refl)
beside (Some a) None at = inr (refl, refl)
beside (Some a) (Some b) at = beside_by (nat_le b a) a b at refl

-- a copy with an open gate, and one without
pub copy_open : (image : List ℕ) (gate : ℕ) → is_open image gate ≡ true
    → copy_number image gate ≡ Some (number_at image (gate + 1))
copy_open image gate is = ap (λ b. cond b (Some (number_at image (gate + 1))) None) is

pub copy_shut : (image : List ℕ) (gate : ℕ) → is_open image gate ≡ false → copy_number image gate ≡ None
copy_shut image gate is = ap (λ b. cond b (Some (number_at image (gate + 1))) None) is

-- equal octets make equal copies, wherever they stand
pub copy_same : (xs ys : List ℕ) (i j : ℕ) → ((k : ℕ) → k < 7 → slice_index xs (i + k) ≡ slice_index ys (j + k))
    → copy_number xs i ≡ copy_number ys j
copy_same xs ys i j same =
    let gates : slice_index xs i ≡ slice_index ys j = simp add-zero at (same 0 (omega arith)) in
    let numbers : number_at xs (i + 1) ≡ number_at ys (j + 1) =
    number_at_same xs ys (i + 1) (j + 1) (λ k h. simp add_assoc (same (1 + k) (omega arith))) in
    ap (λ octet. cond (octet == 0xA5) (Some (number_at xs (i + 1))) None) gates
    ∙ ap (λ n. cond (is_open ys j) (Some n) None) numbers

place_by : (le : Bool) (at : ℕ) → cond le (at + 7) at ≡ at + cond le 7 0
place_by true at = refl
place_by false at = sym (add-zero at)

-- the place of a copy counts from that of its cell
pub place_from : (a b : Option ℕ) (at : ℕ) → place_beside a b at ≡ at + place_beside a b 0
place_from None b at = sym (add-zero at)
place_from (Some a) None at = refl
place_from (Some a) (Some b) at = place_by (nat_le b a) at

-- a cell that was read from an image
module _ (cell image : List ℕ) (at : ℕ) (copied : (k : ℕ) → k < 14
    → slice_index cell k ≡ slice_index image (at + k)) where
  first_same : copy_number cell 0 ≡ copy_number image at
  first_same = copy_same cell image 0 at (λ k h. rw zero-add (copied k (omega arith)))

  second_same : copy_number cell 7 ≡ copy_number image (at + 7)
  second_same = copy_same cell image 7 (at + 7) (λ k h. rw add_assoc (copied (7 + k) (omega arith)))

  pub reading_same : reading cell 0 ≡ reading image at
  unfolding reading
  reading_same = ap (λ a. greatest a (copy_number cell 7)) first_same ∙ ap (greatest (copy_number image at)) second_same

  pub open_same : (k : ℕ) → k < 14 → is_open cell k ≡ is_open image (at + k)
  open_same k h = ap (λ octet. octet == 0xA5) (copied k h)

  pub other_same : other_copy image at ≡ at + other_copy cell 0
  unfolding other_copy
  other_same =
      place_from (copy_number image at) (copy_number image (at + 7)) at
      ∙ ap (λ a. at + place_beside a (copy_number image (at + 7)) 0) (sym first_same)
      ∙ ap (λ b. at + place_beside (copy_number cell 0) b 0) (sym second_same)

pub copied_from : (cell image : List ℕ) (at : ℕ) → at + 14 ≤ length image → cell ≡ slice_range image at (at + 14)
    → (k : ℕ) → k < 14 → slice_index cell k ≡ slice_index image (at + k)
copied_from cell image at inside is k h = grind (arith, common_steps)

none_of : (x y : Bool) (m n : ℕ) → greatest (cond x (Some m) None) (cond y (Some n) None) ≡ None → (x ≡ false)
    × (y ≡ false)
none_of true true m n is = absurd cc
none_of true false m n is = absurd cc
none_of false true m n is = absurd cc
none_of false false m n is = (refl, refl)

-- No copy is open exactly where there is no reading.
pub none_open : (image : List ℕ) (at : ℕ) → reading image at ≡ None → IsUnformatted image at
unfolding reading
none_open image at is =
    let shut = none_of (is_open image at) (is_open image (at + 7)) _ _ is in
    record { first = shut.0; second = shut.1 }

pub unformatted_reading : (image : List ℕ) (at : ℕ) → IsUnformatted image at → reading image at ≡ None
unfolding reading
unformatted_reading image at shut = ap (λ a. greatest a (copy_number image (at + 7))) (copy_shut image at shut.first)
    ∙ copy_shut image (at + 7) shut.second

-- the number of a copy, read from its six octets
pub number_read : (octets number : List ℕ) (gate : ℕ) → gate + 7 ≤ length octets
    → number ≡ slice_range octets (gate + 1) (gate + 7)
    → slice_index octets gate ≡ 0xA5 → copy_number octets gate ≡ Some (number_at number 0)
number_read octets number gate inside is opened =
    let each : (k : ℕ) → k < 6 → slice_index octets (gate + 1 + k) ≡ slice_index number (0 + k) =
    λ k h. grind (arith, common_steps) in
    copy_open octets gate (ap (λ octet. octet == 0xA5) opened)
    ∙ ap Some (number_at_same octets number (gate + 1) 0 each)
