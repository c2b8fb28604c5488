-- Sums of the numbers of a bank, and what its values are at least and at most.
use Rattle.std.proofs.Common.{◌≡◌, ◌≢◌, ℕ, zero, suc, ◌+◌, ◌*◌, ◌%◌, ◌^◌, ◌<◌, ◌≤◌, max, Bool, true, false, cond, List, refl, ap, ◌∙◌, inl, inr, arith}
use Rattle.std.specs.Prelude.{◌==◌, ◌&&◌}
use Rattle.std.proofs.lemmas.Bool.{cases_order}
use Rattle.nvm_model.specs.Gate.{is_open}
use Rattle.seq_store.specs.Ring.{index_at, six_at, record_number, records_number, bank_number, numbers_sum, records_place, bank_value}

pub sum_upto : (xs ys : List ℕ) (i j values : ℕ) → ((v : ℕ) → v < values → bank_number xs i v ≤ bank_number ys j v)
    → numbers_sum xs i values ≤ numbers_sum ys j values
unfolding numbers_sum
sum_upto xs ys i j zero each = omega arith
sum_upto xs ys i j (suc v) each =
    omega (arith, sum_upto xs ys i j v (λ w h. each w (omega (arith, h))), each v (omega arith))

pub sum_below : (xs ys : List ℕ) (i j values v : ℕ) → v < values
    → ((w : ℕ) → w < values → bank_number xs i w ≤ bank_number ys j w)
    → bank_number xs i v < bank_number ys j v → numbers_sum xs i values < numbers_sum ys j values
unfolding numbers_sum
sum_below xs ys i j zero v below each less = absurd (omega (arith, below))
sum_below xs ys i j (suc u) v below each less = elim (cases_order v u) [
  | inl same ↦
      let here : bank_number xs i u < bank_number ys j u = rw same at less in
      omega (arith, here, sum_upto xs ys i j u (λ w h. each w (omega (arith, h))))
  | inr rest ↦ elim rest [
    | inl before ↦ omega (
      arith,
      sum_below xs ys i j u v before (λ w h. each w (omega (arith, h))) less,
      each u
          (omega arith),
    )
    | inr more ↦ absurd (omega (arith, below, more))
  ]
]

pub sum_bound : (xs : List ℕ) (i values : ℕ) → numbers_sum xs i values ≤ 2 ^ 48 * values
unfolding numbers_sum
sum_bound xs i zero = omega arith
sum_bound xs i (suc v) = omega (arith, sum_bound xs i v)

record_by : (t : Bool) (n : ℕ) → n < 2 ^ 48 → cond t n 0 < 2 ^ 48
record_by true n fits = fits
record_by false n fits = omega arith

record_fits : (width : ℕ) (c : List ℕ) (place v : ℕ) → record_number width c place v < 2 ^ 48
record_fits width c place v =
    record_by (is_open c place && index_at width c (place + 1) == v) (six_at c (place + 1 + width)) (omega arith)

records_fit : (width : ℕ) (c : List ℕ) (v n place : ℕ) → records_number width c v n place < 2 ^ 48
unfolding records_number
records_fit width c v zero place = omega arith
records_fit width c v (suc n) place =
    omega (arith, record_fits width c place v, records_fit width c v n (place + (7 + width)))

pub value_fits : (width values : ℕ) (c : List ℕ) (at v : ℕ) → bank_value width values c at v < 2 ^ 48
unfolding bank_value
value_fits width values c at v = omega (arith, records_fit width c v 16 (records_place values at))

pub number_upto : (width values : ℕ) (c : List ℕ) (at v : ℕ) → bank_number c at v ≤ bank_value width values c at v
unfolding bank_value
number_upto width values c at v = omega arith
