-- What stands behind a gate that is open: over a record, and over a bank.
use Rattle.std.proofs.Common.{◌≡◌, ℕ, zero, suc, ◌+◌, ◌*◌, ◌/◌, ◌%◌, ◌-◌, ◌^◌, ◌<◌, ◌≤◌, max, Bool, false, cond, List, [], ◌∷◌, ◌++◌, length, Option, Some, None, replicate, refl, sym, ap, subst, ◌∙◌, inl, inr, arith, add-zero, zero-add, length-append}
use Rattle.std.specs.Prelude.{slice_index, nat_le, ◌==◌, ◌&&◌}
use Rattle.std.proofs.lemmas.Grind.{common_steps}
use Rattle.std.proofs.lemmas.List.{length-replicate}
use Rattle.std.proofs.lemmas.Bool.{cases_order}
use Rattle.knx_base.specs.Number.{number_at, octets_of}
use Rattle.knx_base.proofs.NumberLemmas.{number_at_same, length-octets_of, number_at-octets_of}
use Rattle.nvm_model.specs.Gate.{is_open, HasBody}
use Rattle.seq_store.specs.Ring.{index_at, index_octets, six_at, generation_at, generation_octets, record_number, records_number, bank_number, records_place, bank_size, bank_value, numbers_octets, bank_body, record_body}
use Rattle.seq_store.proofs.Same.{records_size, sixteen, index_same, generation_same}

-- an index that fits its octets
unfoldable pub Indexes : ℕ → ℕ → Type 0
Indexes zero n = n ≡ 0
Indexes (suc width) n = Indexes width (n / 256)

pub length-index_octets : (width n : ℕ) → length (index_octets width n) ≡ width
length-index_octets zero n = refl
length-index_octets (suc width) n = simp length-append (omega (arith, length-index_octets width (n / 256)))

index_of : (width : ℕ) (xs : List ℕ) (i n : ℕ) → Indexes width n
    → ((k : ℕ) → k < width → slice_index xs (i + k) ≡ slice_index (index_octets width n) k)
    → index_at width xs i ≡ n
unfolding Indexes
index_of zero xs i n fits same = sym fits
index_of (suc width) xs i n fits same =
    let size : length (index_octets width (n / 256)) ≡ width = length-index_octets width (n / 256) in
    let high : index_at width xs i ≡ n / 256 =
    index_of width xs i (n / 256) fits (λ k h. same k (omega (arith, h)) ∙ grind (arith, common_steps, size, h)) in
    let low : slice_index xs (i + width) ≡ n % 256 = same width (omega arith) ∙ grind (arith, common_steps, size) in
    omega (arith, high, low)

pub length-record_body : (width v n : ℕ) → length (record_body width v n) ≡ 6 + width
length-record_body width v n = simp length-append (omega (arith, length-index_octets width v, length-octets_of n))

pub record_index : (width place v n : ℕ) (c : List ℕ) → Indexes width v → HasBody place (record_body width v n) c
    → index_at width c (place + 1) ≡ v
record_index width place v n c fits has =
    let size : length (index_octets width v) ≡ width = length-index_octets width v in
    index_of width c (place + 1) v fits
    (λ k h. has.each k (omega (arith, h, length-record_body width v n))
    ∙ grind (arith, common_steps, size, length-octets_of n, h))

pub record_six : (width place v n : ℕ) (c : List ℕ) → n < 2 ^ 48 → HasBody place (record_body width v n) c
    → six_at c (place + 1 + width) ≡ n
record_six width place v n c fits has =
    let size : length (index_octets width v) ≡ width = length-index_octets width v in
    let each : (k : ℕ) → k < 6 → slice_index c (place + 1 + width + k) ≡ slice_index (octets_of n) (0 + k) = λ k h.
    let moved : place + 1 + width + k ≡ place + 1 + (width + k) = omega arith in
    let there : slice_index (record_body width v n) (width + k) ≡ slice_index (octets_of n) (0 + k) =
    grind (arith, common_steps, size, length-octets_of n, h) in
    ap (slice_index c) moved ∙ has.each (width + k) (omega (arith, h, length-record_body width v n)) ∙ there in
    let number : number_at c (place + 1 + width) ≡ n =
    number_at_same c (octets_of n) (place + 1 + width) 0 each ∙ number_at-octets_of n fits in
    omega (arith, number, fits)

pub length-generation_octets : (g : ℕ) → length (generation_octets g) ≡ 8
unfolding generation_octets
length-generation_octets g = ap (λ n. suc (suc n)) (length-octets_of g)

pub length-numbers_octets : (number : ℕ → ℕ) (v : ℕ) → length (numbers_octets number v) ≡ 6 * v
unfolding numbers_octets
length-numbers_octets number zero = refl
length-numbers_octets number (suc v) =
    simp length-append (omega (arith, length-numbers_octets number v, length-octets_of (number v)))

pub length-bank_body : (width values g : ℕ) (number : ℕ → ℕ)
    → 1 + length (bank_body width values g number) ≡ bank_size width values
unfolding bank_body
length-bank_body width values g number =
    simp length-append (omega (
      arith,
      length-generation_octets g,
      length-numbers_octets number values,
      length-replicate {A = ℕ} (16 * (7 + width)) 0,
    ))

generation_of : (g : ℕ) → g < 2 ^ 64 → generation_at (generation_octets g) 0 ≡ g
unfolding generation_octets number_at octets_of
generation_of g fits = omega arith

numbers_octets_at : (number : ℕ → ℕ) (values v k : ℕ) → v < values → k < 6
    → slice_index (numbers_octets number values) (6 * v + k) ≡ slice_index (octets_of (number v)) k
unfolding numbers_octets
numbers_octets_at number zero v k below h = absurd (omega (arith, below))
numbers_octets_at number (suc u) v k below h =
    let size : length (numbers_octets number u) ≡ 6 * u = length-numbers_octets number u in
    elim (cases_order v u) [
      | inl same ↦
          let last : slice_index (numbers_octets number u ++ octets_of (number u)) (6 * u + k)
          ≡ slice_index (octets_of (number u)) k =
          grind (arith, common_steps, size, length-octets_of (number u), h) in
          rw same last
      | inr rest ↦ elim rest [
        | inl less ↦
            let front : slice_index (numbers_octets number u ++ octets_of (number u)) (6 * v + k)
            ≡ slice_index (numbers_octets number u) (6 * v + k) =
            grind (arith, common_steps, size, length-octets_of (number u), h, less) in
            front ∙ numbers_octets_at number u v k less h
        | inr more ↦ absurd (omega (arith, below, more))
      ]
    ]

-- octets that are zero have no record
no_record : (width : ℕ) (c : List ℕ) (place v : ℕ) → slice_index c place ≡ 0 → record_number width c place v ≡ 0
no_record width c place v is =
    ap (λ o. cond (o == 0xA5 && index_at width c (place + 1) == v) (six_at c (place + 1 + width)) 0) is

no_records : (width : ℕ) (c : List ℕ) (v n from : ℕ) → ((k : ℕ) → k < records_size width n
    → slice_index c (from + k) ≡ 0) → records_number width c v n from ≡ 0
unfolding records_size records_number
no_records width c v zero from zeros = refl
no_records width c v (suc n) from zeros =
    let head : record_number width c from v ≡ 0 = no_record width c from v (simp add-zero at (zeros 0 (omega arith))) in
    let rest : records_number width c v n (from + (7 + width)) ≡ 0 =
    no_records width c v n (from + (7 + width))
    (λ k h. let moved : from + (7 + width) + k ≡ from + (7 + width + k) = omega arith in ap (slice_index c) moved
    ∙ zeros (7 + width + k) (omega (arith, h))) in
    omega (arith, head, rest)

zero_at : (n k : ℕ) → k < n → slice_index (replicate n 0) k ≡ 0
zero_at n k h = grind (arith, common_steps)

module _ (width values at g : ℕ) (number : ℕ → ℕ) (c : List ℕ) (fits : (v : ℕ) → v < values → number v < 2 ^ 48)
    (has : HasBody at (bank_body width values g number) c) where
  pub body_generation : g < 2 ^ 64 → generation_at c (at + 1) ≡ g
  unfolding bank_body
  body_generation small =
      let eight : length (generation_octets g) ≡ 8 = length-generation_octets g in
      let numbers : length (numbers_octets number values) ≡ 6 * values = length-numbers_octets number values in
      let zeros : length (replicate {A = ℕ} (16 * (7 + width)) 0) ≡ 16 * (7 + width) =
      length-replicate {A = ℕ} (16 * (7 + width)) 0 in
      generation_same c (generation_octets g) (at + 1) 0
      (λ k h. has.each k (omega (arith, h, length-bank_body width values g number))
      ∙ (let front : slice_index (generation_octets g ++ numbers_octets number values ++ replicate (16 * (7 + width)) 0)
      k ≡ slice_index (generation_octets g) (0 + k) =
      grind (arith, common_steps, eight, numbers, zeros, h) in front))
      ∙ generation_of g small

  pub body_number : (v : ℕ) → v < values → bank_number c at v ≡ number v
  unfolding bank_body
  body_number v below =
      let eight : length (generation_octets g) ≡ 8 = length-generation_octets g in
      let numbers : length (numbers_octets number values) ≡ 6 * values = length-numbers_octets number values in
      let zeros : length (replicate {A = ℕ} (16 * (7 + width)) 0) ≡ 16 * (7 + width) =
      length-replicate {A = ℕ} (16 * (7 + width)) 0 in
      let each : (k : ℕ) → k < 6 → slice_index c (at + 9 + 6 * v + k) ≡ slice_index (octets_of (number v)) (0 + k) =
      λ k h.
      let moved : at + 9 + 6 * v + k ≡ at + 1 + (8 + (6 * v + k)) = omega arith in
      let inner : slice_index (generation_octets g ++ numbers_octets number values ++ replicate (16 * (7 + width)) 0)
      (8 + (6 * v + k))
      ≡ slice_index (numbers_octets number values) (6 * v + k) =
      grind (arith, common_steps, eight, numbers, zeros, h, below) in
      ap (slice_index c) moved ∙ has.each (8 + (6 * v + k)) (omega
      (arith, h, below, length-bank_body width values g number)) ∙ inner
      ∙ numbers_octets_at number values v k below h ∙ simp zero-add refl in
      let same : number_at c (at + 9 + 6 * v) ≡ number v = number_at_same c (octets_of (number v)) (at + 9 + 6 * v) 0
      each ∙ number_at-octets_of (number v) (fits v below) in
      omega (arith, same, fits v below)

  pub body_value : (v : ℕ) → v < values → bank_value width values c at v ≡ number v
  unfolding bank_body bank_value
  body_value v below =
      let eight : length (generation_octets g) ≡ 8 = length-generation_octets g in
      let numbers : length (numbers_octets number values) ≡ 6 * values = length-numbers_octets number values in
      let zeros : length (replicate {A = ℕ} (16 * (7 + width)) 0) ≡ 16 * (7 + width) =
      length-replicate {A = ℕ} (16 * (7 + width)) 0 in
      let none : records_number width c v 16 (records_place values at) ≡ 0 =
      no_records width c v 16 (records_place values at) (λ k h.
      let moved : records_place values at + k ≡ at + 1 + (8 + 6 * values + k) = omega arith in
      let short : k < 16 * (7 + width) = omega (arith, h, sixteen width) in
      let inner : slice_index (generation_octets g ++ numbers_octets number values ++ replicate (16 * (7 + width)) 0)
      (8 + 6 * values + k)
      ≡ slice_index (replicate (16 * (7 + width)) 0) k = grind (arith, common_steps, eight, numbers, zeros, short) in
      ap (slice_index c) moved ∙ has.each (8 + 6 * values + k)
      (omega (arith, short, length-bank_body width values g number)) ∙ inner
      ∙ zero_at (16 * (7 + width)) k short) in
      omega (arith, body_number v below, none)
