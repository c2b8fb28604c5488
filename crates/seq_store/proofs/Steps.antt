-- One step each of the code that reads and makes banks.
use Rattle.std.proofs.Common.{◌≡◌, ℕ, zero, suc, ◌+◌, ◌*◌, ◌-◌, ◌%◌, ◌^◌, ◌<◌, ◌≤◌, max, Bool, true, false, cond, List, [], ◌∷◌, ◌++◌, length, take, drop, Option, Some, None, replicate, refl, sym, ap, subst, ◌∙◌, arith, add-zero, add_assoc}
use Rattle.std.specs.Prelude.{slice_index, slice_range}
use Rattle.std.proofs.lemmas.Grind.{common_steps}
use Rattle.knx_base.specs.Number.{number_at, octets_of}
use Rattle.knx_base.proofs.NumberLemmas.{number_at_same}
use Rattle.nvm_model.specs.Gate.{is_open}
use Rattle.seq_store.specs.Ring.{six_at, generation_at, record_number, records_number, bank_number, numbers_sum, records_place, bank_value, first_shut}

below_of : (n : ℕ) → number_at (octets_of n) 0 ≡ n → n < 2 ^ 48
unfolding number_at octets_of
below_of n is = omega (arith, is)

-- six octets that were copied
pub six_copied : (octets bytes : List ℕ) (at n : ℕ) → at + 6 ≤ length octets → bytes ≡ slice_range octets at (at + 6)
    → n ≡ number_at bytes 0 → octets_of n ≡ bytes
    → n ≡ six_at octets at
six_copied octets bytes at n inside is number back =
    let same : number_at bytes 0 ≡ number_at octets at =
    number_at_same bytes octets 0 at (λ k h. grind (arith, common_steps)) in
    let fits : n < 2 ^ 48 = below_of n (ap (λ b. number_at b 0) back ∙ sym number) in
    omega (arith, fits, number, same)

pub generation_read : (octets : List ℕ) (at n : ℕ)
    → n ≡ slice_index octets at * 2 ^ 56 + slice_index octets (at + 1) * 2 ^ 48 + slice_index octets (at + 2) * 2 ^ 40
    + slice_index octets (at + 3) * 2 ^ 32
    + slice_index octets (at + 4) * 2 ^ 24 + slice_index octets (at + 5) * 2 ^ 16 + slice_index octets (at + 6) * 2 ^ 8
    + slice_index octets (at + 7)
    → n ≡ generation_at octets at
unfolding number_at
generation_read octets at n is = simp add_assoc (omega (arith, is))

pub sum_start : (octets : List ℕ) (at : ℕ) → 0 ≡ numbers_sum octets at 0
unfolding numbers_sum
sum_start octets at = refl

pub sum_more : (octets : List ℕ) (at v s n : ℕ) → s ≡ numbers_sum octets at v → n ≡ bank_number octets at v
    → s + n ≡ numbers_sum octets at (v + 1)
unfolding numbers_sum
sum_more octets at v s n sum number = let next : v + 1 ≡ suc v = omega arith in rw next (omega (arith, sum, number))

pub first_here : (octets : List ℕ) (n place : ℕ) → 0 < n → is_open octets place ≡ false
    → first_shut 1 octets n place ≡ Some place
unfolding first_shut
first_here octets zero place some shut = absurd (omega (arith, some))
first_here octets (suc n) place some shut = ap (λ b. cond b (first_shut 1 octets n (place + (7 + 1))) (Some place)) shut

pub first_next : (octets : List ℕ) (records k : ℕ) → k < 16 → is_open octets (records + 8 * k) ≡ true
    → first_shut 1 octets (16 - (k + 1)) (records + 8 * (k + 1)) ≡ first_shut 1 octets (16 - k) (records + 8 * k)
unfolding first_shut
first_next octets records k below opened =
    let more : 16 - k ≡ suc (16 - (k + 1)) = omega arith in
    let next : records + 8 * (k + 1) ≡ records + 8 * k + (7 + 1) = omega arith in
    ap (first_shut 1 octets (16 - (k + 1))) next
    ∙ sym (ap (λ b. cond b (first_shut 1 octets (16 - (k + 1)) (records + 8 * k + (7 + 1))) (Some (records + 8 * k)))
    opened)
    ∙ ap (λ n. first_shut 1 octets n (records + 8 * k)) (sym more)

pub first_none : (octets : List ℕ) (n place : ℕ) → n ≡ 0 → None ≡ first_shut 1 octets n place
unfolding first_shut
first_none octets n place is = ap (λ n. first_shut 1 octets n place) (sym is)

pub value_start : (values : ℕ) (octets : List ℕ) (at v n : ℕ) → n ≡ bank_number octets at v
    → max n (records_number 1 octets v 16 (at + 9 + 6 * values + 0)) ≡ bank_value 1 values octets at v
unfolding bank_value
value_start values octets at v n is =
    ap (λ n. max n (records_number 1 octets v 16 (at + 9 + 6 * values + 0))) is
    ∙ ap (λ place. max (bank_number octets at v) (records_number 1 octets v 16 place)) (add-zero (at + 9 + 6 * values))

pub value_more : (octets : List ℕ) (records v k m n r : ℕ) → k < 16
    → m ≡ max n (record_number 1 octets (records + 8 * k) v)
    → max n (records_number 1 octets v (16 - k) (records + 8 * k)) ≡ r
    → max m (records_number 1 octets v (16 - (k + 1)) (records + 8 * (k + 1))) ≡ r
unfolding records_number
value_more octets records v k m n r below is so_far =
    let more : 16 - k ≡ suc (16 - (k + 1)) = omega arith in
    let next : records + 8 * (k + 1) ≡ records + 8 * k + (7 + 1) = omega arith in
    let here : records_number 1 octets v (16 - k) (records + 8 * k)
    ≡ max (record_number 1 octets (records + 8 * k) v) (records_number 1 octets v (16 - (k + 1))
    (records + 8 * k + (7 + 1))) =
    ap (λ n. records_number 1 octets v n (records + 8 * k)) more in
    let there : records_number 1 octets v (16 - (k + 1)) (records + 8 * (k + 1))
    ≡ records_number 1 octets v (16 - (k + 1)) (records + 8 * k + (7 + 1)) =
    ap (records_number 1 octets v (16 - (k + 1))) next in
    omega (arith, is, so_far, here, there)

pub value_end : (octets : List ℕ) (place v n m r : ℕ) → m ≡ 0 → max n (records_number 1 octets v m place) ≡ r → n ≡ r
unfolding records_number
value_end octets place v n m r none is =
    let zero : records_number 1 octets v m place ≡ 0 =
    ap (λ m. records_number 1 octets v m place) none in omega (arith, zero, is)
