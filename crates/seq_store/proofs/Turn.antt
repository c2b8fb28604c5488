-- A change of banks, at each moment of its writes.
use Rattle.std.proofs.Common.{◌≡◌, ◌≢◌, ◌⊎◌, ℕ, zero, suc, ◌+◌, ◌*◌, ◌^◌, ◌<◌, ◌≤◌, Bool, true, false, cond, List, length, Option, Some, None, refl, sym, ap, ◌∙◌, inl, inr, arith, add-zero, leb-true}
use Rattle.std.specs.Prelude.{slice_index, nat_le, ◌==◌, ◌&&◌}
use Rattle.std.proofs.lemmas.Bool.{cases_order, eqb-true, eqb-false, le-leb}
use Rattle.nvm_model.specs.Gate.{is_open, HasBody, IsAsBefore, IsGatedMoment}
use Rattle.seq_store.specs.Ring.{generation_at, bank_number, numbers_sum, bank_size, bank_value, open_generation, bank_body, replaced}
use Rattle.seq_store.proofs.Same.{open_same}
use Rattle.seq_store.proofs.Bodies.{body_generation, body_number, body_value, length-bank_body}
use Rattle.seq_store.proofs.Sums.{sum_below, sum_bound, value_fits, number_upto}

-- a bank that is open, with its generation
pub record IsOpenBank (values : ℕ) (image : List ℕ) (at g : ℕ) : Type 0 where
  pub gate : is_open image at ≡ true
  pub generation : generation_at image (at + 1) ≡ g
  pub enough : g ≤ numbers_sum image at values

opened_by : (values : ℕ) (image : List ℕ) (at g : ℕ) (t s : Bool) → is_open image at ≡ t
    → nat_le (generation_at image (at + 1)) (numbers_sum image at values) ≡ s
    → cond (t && s) (Some (generation_at image (at + 1))) None ≡ Some g → IsOpenBank values image at g
opened_by values image at g true true gate enough is =
    let same : generation_at image (at + 1) ≡ g = cc is in
    record {
      gate = gate;
      generation = same;
      enough = omega (arith, same, leb-true (generation_at image (at + 1)) (numbers_sum image at values) enough);
    }
opened_by values image at g true false gate enough is = absurd cc
opened_by values image at g false s gate enough is = absurd cc

pub opened : (values : ℕ) (image : List ℕ) (at g : ℕ) → open_generation values image at ≡ Some g
    → IsOpenBank values image at g
unfolding open_generation
opened values image at g is =
    opened_by values image at g (is_open image at) (nat_le (generation_at image (at + 1)) (numbers_sum image at values))
    refl refl is

pub opens : (values : ℕ) (image : List ℕ) (at g : ℕ) → is_open image at ≡ true → generation_at image (at + 1) ≡ g
    → g ≤ numbers_sum image at values
    → open_generation values image at ≡ Some g
unfolding open_generation
opens values image at g gate generation enough =
    ap (λ b. cond (b && nat_le (generation_at image (at + 1)) (numbers_sum image at values))
    (Some (generation_at image (at + 1))) None) gate
    ∙ ap (λ g. cond (nat_le g (numbers_sum image at values)) (Some g) None) generation
    ∙ ap (λ b. cond b (Some g) None) (le-leb g (numbers_sum image at values) enough)

pub shuts : (values : ℕ) (image : List ℕ) (at : ℕ) → is_open image at ≡ false → open_generation values image at ≡ None
unfolding open_generation
shuts values image at gate =
    ap (λ b. cond (b && nat_le (generation_at image (at + 1)) (numbers_sum image at values))
    (Some (generation_at image (at + 1))) None) gate

test_by : (w v : ℕ) (t : Bool) → (w == v) ≡ t → w ≡ v → t ≡ true
test_by w v true test same = refl
test_by w v false test same = absurd (eqb-false w v test same)

test_not : (w v : ℕ) (t : Bool) → (w == v) ≡ t → w ≢ v → t ≡ false
test_not w v true test other = absurd (other (eqb-true w v test))
test_not w v false test other = refl

module _ (width values : ℕ) (a : List ℕ) (at v n : ℕ) where
  pub replaced_here : replaced width values a at v n v ≡ n
  replaced_here = ap (λ b. cond b n (bank_value width values a at v)) (test_by v v (v == v) refl refl)

  pub replaced_other : (w : ℕ) → w ≢ v → replaced width values a at v n w ≡ bank_value width values a at w
  replaced_other w other = ap (λ b. cond b n (bank_value width values a at w)) (test_not w v (w == v) refl other)

  replaced_by : (w : ℕ) (t : Bool) → n < 2 ^ 48 → cond t n (bank_value width values a at w) < 2 ^ 48
  replaced_by w true fits = fits
  replaced_by w false fits = value_fits width values a at w

  pub replaced_fits : n < 2 ^ 48 → (w : ℕ) → replaced width values a at v n w < 2 ^ 48
  replaced_fits fits w = replaced_by w (w == v) fits

-- the current bank, and the other one
module _ (width values : ℕ) (a : List ℕ) (at other v n : ℕ) (few : values ≤ 2 ^ 15) (in_range : v < values)
    (fits : n < 2 ^ 48)
    (above : bank_value width values a at v < n) (old_open : IsOpenBank values a at (generation_at a (at + 1))) where
  number : ℕ → ℕ
  number w = replaced width values a at v n w

  body : List ℕ
  body = bank_body width values (generation_at a (at + 1) + 1) (replaced width values a at v n)

  pub small : generation_at a (at + 1) + 1 < 2 ^ 64
  small = omega (arith, old_open.enough, sum_bound a at values)

  module _ (c : List ℕ) (gate : is_open c other ≡ true) (has : HasBody other
      (bank_body width values (generation_at a (at + 1) + 1) (replaced width values a at v n)) c) where
    each_number : (w : ℕ) → w < values → bank_number c other w ≡ replaced width values a at v n w
    each_number w below = body_number width values other (generation_at a (at + 1) + 1) (replaced width values a at v n)
        c (λ w _. replaced_fits width values a at v n fits w) has w below

    here_less : bank_number a at v < bank_number c other v
    here_less = omega (
      arith,
      number_upto width values a at v,
      above,
      each_number v in_range,
      replaced_here width values
          a at v n,
    )

    each_upto : (w : ℕ) → w < values → bank_number a at w ≤ bank_number c other w
    each_upto w below = elim (cases_order w v) [
      | inl same ↦ rw same (omega (arith, here_less))
      | inr rest ↦
          let apart : w ≢ v = λ same. elim rest [
            | inl less ↦ absurd (omega (arith, less, same))
            | inr more ↦ absurd
                (omega (arith, more, same))
          ] in
          omega (
            arith,
            number_upto width values a at w,
            each_number w below,
            replaced_other width values a at v n w
                apart,
          )
    ]

    -- The raise is strict, so the sum grows by at least 1, as the generation does.
    enough : generation_at a (at + 1) + 1 ≤ numbers_sum c other values
    enough = omega (arith, old_open.enough, sum_below a c at other values v in_range each_upto here_less)

    pub turned_open : open_generation values c other ≡ Some (generation_at a (at + 1) + 1)
    turned_open =
        opens values c other (generation_at a (at + 1) + 1) gate
        (body_generation width values other (generation_at a (at + 1) + 1) (replaced width values a at v n) c
        (λ w _. replaced_fits width values a at v n fits w) has small) enough

    pub turned_value : (w : ℕ) → w < values → bank_value width values c other w ≡ replaced width values a at v n w
    turned_value w below = body_value width values other (generation_at a (at + 1) + 1) (replaced width values a at v n)
        c (λ w _. replaced_fits width values a at v n fits w) has w below

-- a bank whose gate was open and is, over what it was
pub gate_same : (a c : List ℕ) (gate : ℕ) → is_open a gate ≡ true → is_open c gate ≡ true
    → slice_index c gate ≡ slice_index a gate
gate_same a c gate old new = eqb-true (slice_index c gate) 0xA5 new ∙ sym (eqb-true (slice_index a gate) 0xA5 old)

pub as_before : (width values : ℕ) (a c : List ℕ) (other n : ℕ) → bank_size width values ≤ 1 + n
    → IsAsBefore other n a c → is_open c other ≡ true
    → open_generation values c other ≡ open_generation values a other
as_before width values a c other n inside kept gate = open_same width values c a other other each where
  each : (k : ℕ) → k < bank_size width values → slice_index c (other + k) ≡ slice_index a (other + k)
  each zero h = simp add-zero (gate_same a c other kept.was_open gate)
  each (suc k) h =
      let moved : other + suc k ≡ other + 1 + k = omega arith in
      ap (slice_index c) moved ∙ kept.each k (omega (arith, h, inside)) ∙ ap (slice_index a) (sym moved)

-- At each moment the other bank is not open, or is as it was, or is open over the whole new body.
pub turn_moment : (width values : ℕ) (a c : List ℕ) (other g : ℕ) (number : ℕ → ℕ)
    → IsGatedMoment other (bank_body width values g number) a c
    → (open_generation values c other ≡ None) ⊎ ((open_generation values c other ≡ open_generation values a other)
    ⊎ ((is_open c other ≡ true) × HasBody other (bank_body width values g number) c))
turn_moment width values a c other g number moment = by_gate (is_open c other) refl where
  by_gate : (t : Bool) → is_open c other ≡ t
      → (open_generation values c other ≡ None) ⊎ ((open_generation values c other ≡ open_generation values a other)
      ⊎ ((is_open c other ≡ true) × HasBody other (bank_body width values g number) c))
  by_gate false gate = inl (shuts values c other gate)
  by_gate true gate = elim moment.behind [
    | inl shut ↦ absurd (cc (gate, shut))
    | inr rest ↦ elim rest [
      | inl kept ↦ inr (inl (as_before width values a c other (length (bank_body width values g number))
          (omega (arith, length-bank_body width values g number)) kept gate))
      | inr has ↦ inr (inr (gate, has))
    ]
  ]
