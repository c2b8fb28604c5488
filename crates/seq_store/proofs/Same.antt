-- Equal octets make equal banks, for two lists and two places.
use Rattle.std.proofs.Common.{◌≡◌, ℕ, zero, suc, ◌+◌, ◌*◌, ◌%◌, ◌^◌, ◌<◌, ◌≤◌, max, Bool, cond, List, Option, Some, None, refl, sym, ap, ◌∙◌, arith, add-zero, add_assoc}
use Rattle.std.specs.Prelude.{slice_index, nat_le, ◌==◌, ◌&&◌}
use Rattle.knx_base.specs.Number.{number_at}
use Rattle.knx_base.proofs.NumberLemmas.{number_at_same}
use Rattle.nvm_model.specs.Gate.{is_open}
use Rattle.seq_store.specs.Ring.{index_at, six_at, generation_at, record_number, records_number, bank_number, numbers_sum, records_place, bank_size, bank_value, open_generation}

-- the octets of so many records
unfoldable pub records_size : ℕ → ℕ → ℕ
records_size width zero = 0
records_size width (suc n) = 7 + width + records_size width n

pub sixteen : (width : ℕ) → records_size width 16 ≡ 16 * (7 + width)
unfolding records_size
sixteen width = omega arith

pub index_same : (width : ℕ) (xs ys : List ℕ) (i j : ℕ) → ((k : ℕ) → k < width
    → slice_index xs (i + k) ≡ slice_index ys (j + k))
    → index_at width xs i ≡ index_at width ys j
index_same zero xs ys i j same = refl
index_same (suc width) xs ys i j same =
    ap (λ n. n * 256 + slice_index xs (i + width)) (index_same width xs ys i j (λ k h. same k (omega (arith, h))))
    ∙ ap (λ o. index_at width ys j * 256 + o) (same width (omega arith))

pub six_same : (xs ys : List ℕ) (i j : ℕ) → ((k : ℕ) → k < 6 → slice_index xs (i + k) ≡ slice_index ys (j + k))
    → six_at xs i ≡ six_at ys j
six_same xs ys i j same = ap (λ n. n % 2 ^ 48) (number_at_same xs ys i j same)

head_same : (xs ys : List ℕ) (i j n : ℕ) → 0 < n → ((k : ℕ) → k < n → slice_index xs (i + k) ≡ slice_index ys (j + k))
    → slice_index xs i ≡ slice_index ys j
head_same xs ys i j n some same = simp add-zero at (same 0 some)

-- octets from so many places on
behind : (xs ys : List ℕ) (i j m i' j' k : ℕ) → i' ≡ i + m → j' ≡ j + m
    → slice_index xs (i + (m + k)) ≡ slice_index ys (j + (m + k))
    → slice_index xs (i' + k) ≡ slice_index ys (j' + k)
behind xs ys i j m i' j' k first second same =
    let one : i' + k ≡ i + (m + k) = omega (arith, first) in
    let two : j' + k ≡ j + (m + k) = omega (arith, second) in
    ap (slice_index xs) one ∙ same ∙ ap (slice_index ys) (sym two)

pub generation_same : (xs ys : List ℕ) (i j : ℕ) → ((k : ℕ) → k < 8 → slice_index xs (i + k) ≡ slice_index ys (j + k))
    → generation_at xs i ≡ generation_at ys j
generation_same xs ys i j same =
    ap (λ o. o * 2 ^ 56 + slice_index xs (i + 1) * 2 ^ 48 + number_at xs (i + 2))
    (head_same xs ys i j 8 (omega arith) same)
    ∙ ap (λ o. slice_index ys j * 2 ^ 56 + o * 2 ^ 48 + number_at xs (i + 2)) (same 1 (omega arith))
    ∙ ap (λ n. slice_index ys j * 2 ^ 56 + slice_index ys (j + 1) * 2 ^ 48 + n)
    (number_at_same xs ys (i + 2) (j + 2) (λ k h. behind xs ys i j 2 (i + 2) (j + 2) k refl refl
    (same (2 + k) (omega (arith, h)))))

gates_same : (xs ys : List ℕ) (i j n : ℕ) → 0 < n → ((k : ℕ) → k < n → slice_index xs (i + k) ≡ slice_index ys (j + k))
    → is_open xs i ≡ is_open ys j
gates_same xs ys i j n some same = ap (λ octet. octet == 0xA5) (head_same xs ys i j n some same)

module _ (width : ℕ) (xs ys : List ℕ) (v : ℕ) where
  pub record_same : (i j : ℕ) → ((k : ℕ) → k < 7 + width → slice_index xs (i + k) ≡ slice_index ys (j + k))
      → record_number width xs i v ≡ record_number width ys j v
  record_same i j same =
      let gates : is_open xs i ≡ is_open ys j = gates_same xs ys i j (7 + width) (omega arith) same in
      let indexes : index_at width xs (i + 1) ≡ index_at width ys (j + 1) =
      index_same width xs ys (i + 1) (j + 1) (λ k h. behind xs ys i j 1 (i + 1) (j + 1) k refl refl
      (same (1 + k) (omega (arith, h)))) in
      let numbers : six_at xs (i + 1 + width) ≡ six_at ys (j + 1 + width) =
      six_same xs ys (i + 1 + width) (j + 1 + width)
      (λ k h. behind xs ys i j (1 + width) (i + 1 + width) (j + 1 + width) k (omega arith) (omega arith)
      (same (1 + width + k) (omega (arith, h)))) in
      ap (λ b. cond (b && index_at width xs (i + 1) == v) (six_at xs (i + 1 + width)) 0) gates
      ∙ ap (λ n. cond (is_open ys j && n == v) (six_at xs (i + 1 + width)) 0) indexes
      ∙ ap (λ n. cond (is_open ys j && index_at width ys (j + 1) == v) n 0) numbers

  pub records_same : (n i j : ℕ) → ((k : ℕ) → k < records_size width n
      → slice_index xs (i + k) ≡ slice_index ys (j + k))
      → records_number width xs v n i ≡ records_number width ys v n j
  unfolding records_size records_number
  records_same zero i j same = refl
  records_same (suc n) i j same =
      ap (λ m. max m (records_number width xs v n (i + (7 + width))))
      (record_same i j (λ k h. same k (omega (arith, h))))
      ∙ ap (λ m. max (record_number width ys j v) m)
      (records_same n (i + (7 + width)) (j + (7 + width))
      (λ k h. behind xs ys i j (7 + width) (i + (7 + width)) (j + (7 + width)) k refl refl
      (same (7 + width + k) (omega (arith, h)))))

pub bank_number_same : (xs ys : List ℕ) (i j v : ℕ) → ((k : ℕ) → k < 6
    → slice_index xs (i + (9 + 6 * v + k)) ≡ slice_index ys (j + (9 + 6 * v + k)))
    → bank_number xs i v ≡ bank_number ys j v
bank_number_same xs ys i j v same =
    six_same xs ys (i + 9 + 6 * v) (j + 9 + 6 * v)
    (λ k h. behind xs ys i j (9 + 6 * v) (i + 9 + 6 * v) (j + 9 + 6 * v) k (omega arith) (omega arith) (same k h))

pub sum_same : (xs ys : List ℕ) (i j values : ℕ) → ((k : ℕ) → k < 9 + 6 * values
    → slice_index xs (i + k) ≡ slice_index ys (j + k))
    → numbers_sum xs i values ≡ numbers_sum ys j values
unfolding numbers_sum
sum_same xs ys i j zero same = refl
sum_same xs ys i j (suc v) same =
    ap (λ n. n + bank_number xs i v) (sum_same xs ys i j v (λ k h. same k (omega (arith, h))))
    ∙ ap (λ n. numbers_sum ys j v + n) (bank_number_same xs ys i j v (λ k h. same (9 + 6 * v + k) (omega (arith, h))))

-- Gate, generation and numbers alone make a bank open.
pub open_head_same : (values : ℕ) (xs ys : List ℕ) (i j : ℕ)
    → ((k : ℕ) → k < 9 + 6 * values → slice_index xs (i + k) ≡ slice_index ys (j + k))
    → open_generation values xs i ≡ open_generation values ys j
unfolding open_generation
open_head_same values xs ys i j same =
    let gates : is_open xs i ≡ is_open ys j = gates_same xs ys i j (9 + 6 * values) (omega arith) same in
    let generations : generation_at xs (i + 1) ≡ generation_at ys (j + 1) =
    generation_same xs ys (i + 1) (j + 1) (λ k h. behind xs ys i j 1 (i + 1) (j + 1) k refl refl
    (same (1 + k) (omega (arith, h)))) in
    let sums : numbers_sum xs i values ≡ numbers_sum ys j values = sum_same xs ys i j values same in
    ap (λ b. cond (b && nat_le (generation_at xs (i + 1)) (numbers_sum xs i values)) (Some (generation_at xs (i + 1)))
    None) gates
    ∙ ap (λ g. cond (is_open ys j && nat_le g (numbers_sum xs i values)) (Some g) None) generations
    ∙ ap (λ s. cond (is_open ys j && nat_le (generation_at ys (j + 1)) s) (Some (generation_at ys (j + 1))) None) sums

pub open_same : (width values : ℕ) (xs ys : List ℕ) (i j : ℕ)
    → ((k : ℕ) → k < bank_size width values → slice_index xs (i + k) ≡ slice_index ys (j + k))
    → open_generation values xs i ≡ open_generation values ys j
open_same width values xs ys i j same = open_head_same values xs ys i j (λ k h. same k (omega (arith, h)))

pub bank_value_same : (width values : ℕ) (xs ys : List ℕ) (i j v : ℕ) → v < values
    → ((k : ℕ) → k < bank_size width values → slice_index xs (i + k) ≡ slice_index ys (j + k))
    → bank_value width values xs i v ≡ bank_value width values ys j v
unfolding bank_value
bank_value_same width values xs ys i j v below same =
    ap (λ n. max n (records_number width xs v 16 (records_place values i)))
    (bank_number_same xs ys i j v (λ k h. same (9 + 6 * v + k) (omega (arith, h, below))))
    ∙ ap (λ n. max (bank_number ys j v) n)
    (records_same width xs ys v 16 (records_place values i) (records_place values j)
    (λ k h. behind xs ys i j (9 + 6 * values) (records_place values i) (records_place values j) k (omega arith)
    (omega arith)
    (same (9 + 6 * values + k) (omega (arith, h, sixteen width)))))
