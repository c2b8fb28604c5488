-- Numbers of 48 bits and their six octets.
use Rattle.std.proofs.Common.{◌≡◌, ℕ, ◌+◌, ◌/◌, ◌%◌, ◌^◌, ◌<◌, List, [], ◌∷◌, length, refl, sym, ◌∙◌, add-zero, arith}
use Rattle.std.specs.Prelude.{slice_index}
use Rattle.std.proofs.lemmas.Slice.Eq.{text_from_reads}
use Rattle.knx_base.specs.Number.{number_at, octets_of}

-- six octets stand for each number
pub length-octets_of : (n : ℕ) → length (octets_of n) ≡ 6
unfolding octets_of
length-octets_of n = refl

-- the octets of a number write it
pub number_at-octets_of : (n : ℕ) → n < 2 ^ 48 → number_at (octets_of n) 0 ≡ n
unfolding number_at octets_of
number_at-octets_of n below = omega arith

-- six octets are those of the number that they write
pub octets_of-number_at : (s : List ℕ) → length s ≡ 6 → slice_index s 0 < 256 → slice_index s 1 < 256
    → slice_index s 2 < 256
    → slice_index s 3 < 256 → slice_index s 4 < 256 → slice_index s 5 < 256 → octets_of (number_at s 0) ≡ s
unfolding number_at octets_of
octets_of-number_at s is b0 b1 b2 b3 b4 b5 =
    let e0 : number_at s 0 / 2 ^ 40 % 256 ≡ slice_index s 0 = omega arith in
    let e1 : number_at s 0 / 2 ^ 32 % 256 ≡ slice_index s 1 = omega arith in
    let e2 : number_at s 0 / 2 ^ 24 % 256 ≡ slice_index s 2 = omega arith in
    let e3 : number_at s 0 / 2 ^ 16 % 256 ≡ slice_index s 3 = omega arith in
    let e4 : number_at s 0 / 2 ^ 8 % 256 ≡ slice_index s 4 = omega arith in
    let e5 : number_at s 0 % 256 ≡ slice_index s 5 = omega arith in
    (λ i. e0 i ∷ e1 i ∷ e2 i ∷ e3 i ∷ e4 i ∷ e5 i ∷ [])
    ∙ sym (text_from_reads s (slice_index s 0 ∷ slice_index s 1 ∷ slice_index s 2 ∷ slice_index s 3 ∷ slice_index s 4
    ∷ slice_index s 5 ∷ []) is
    (refl, (refl, (refl, (refl, (refl, (refl, tt)))))))

-- six equal octets write equal numbers, wherever they stand
pub number_at_same : (xs ys : List ℕ) (i j : ℕ) → ((k : ℕ) → k < 6 → slice_index xs (i + k) ≡ slice_index ys (j + k))
    → number_at xs i ≡ number_at ys j
unfolding number_at
number_at_same xs ys i j same =
    let first : slice_index xs i ≡ slice_index ys j = simp add-zero at (same 0 (omega arith)) in
    omega (
      arith,
      first,
      same 1 (omega arith),
      same 2 (omega arith),
      same 3 (omega arith),
      same 4 (omega arith),
      same 5
          (omega arith),
    )
