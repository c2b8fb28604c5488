-- The first record that is not open, and the greatest number of the records with that one changed.
use Rattle.std.proofs.Common.{◌≡◌, ◌≢◌, ◌⊎◌, ℕ, zero, suc, ◌+◌, ◌*◌, ◌<◌, ◌≤◌, max, Bool, true, false, cond, List, Option, Some, None, refl, sym, ap, subst, ◌∙◌, inl, inr, arith}
use Rattle.std.specs.Prelude.{slice_index, ◌==◌, ◌&&◌}
use Rattle.std.proofs.lemmas.Bool.{eqb-true, eqb-false}
use Rattle.nvm_model.specs.Gate.{is_open}
use Rattle.nvm_model.specs.Write.{Torn}
use Rattle.seq_store.specs.Ring.{index_at, six_at, record_number, records_number, first_shut}
use Rattle.seq_store.proofs.Same.{records_size, record_same, records_same}

-- A record at this place, among so many from another one on, is the first that is not open.
pub record FirstShut (width : ℕ) (a : List ℕ) (n from place : ℕ) : Type 0 where
  pub behind : from ≤ place
  pub inside : place + (7 + width) ≤ from + records_size width n
  pub shut : is_open a place ≡ false

shut_by : (t : Bool) (width : ℕ) (a : List ℕ) (n from place : ℕ) → is_open a from ≡ t
    → (first_shut width a n (from + (7 + width)) ≡ Some place → FirstShut width a n (from + (7 + width)) place)
    → cond t (first_shut width a n (from + (7 + width))) (Some from) ≡ Some place → FirstShut width a (suc n) from place
unfolding records_size
shut_by true width a n from place test again is =
    let rest = again is in record {
      behind = omega (arith, rest.behind);
      inside = omega (arith, rest.inside);
      shut = rest.shut;
    }
shut_by false width a n from place test again is =
    let here : from ≡ place = cc (is) in record {
      behind = omega (arith, here);
      inside = omega (arith, here);
      shut = subst (λ k. is_open a k ≡ false) here test;
    }

pub first_shut_at : (width : ℕ) (a : List ℕ) (n from place : ℕ) → first_shut width a n from ≡ Some place
    → FirstShut width a n from place
unfolding first_shut
first_shut_at width a zero from place is = absurd cc
first_shut_at width a (suc n) from place is =
    shut_by (is_open a from) width a n from place refl (first_shut_at width a n (from + (7 + width)) place) is

module _ (width : ℕ) (a c : List ℕ) (place : ℕ) (torn : Torn place (7 + width) a c) (v : ℕ) where
  -- records of which none is that one
  outside : (n from : ℕ) → (from + records_size width n ≤ place) ⊎ (place + (7 + width) ≤ from)
      → records_number width c v n from ≡ records_number width a v n from
  outside n from (inl before) = records_same width c a v n from from (λ k h. torn.before (from + k) (omega arith))
  outside n from (inr behind) = records_same width c a v n from from (λ k h. torn.after (from + k) (omega arith))

  -- records of which one is that one, which is not open in the old octets, and has this number in the new ones
  changed_by : (m n from : ℕ) → record_number width a place v ≡ 0 → record_number width c place v ≡ m
      → (first_shut width a n (from + (7 + width)) ≡ Some place
      → records_number width c v n (from + (7 + width)) ≡ max m (records_number width a v n (from + (7 + width))))
      → (t : Bool) → is_open a from ≡ t → cond t (first_shut width a n (from + (7 + width))) (Some from) ≡ Some place
      → records_number width c v (suc n) from ≡ max m (records_number width a v (suc n) from)
  unfolding records_number
  changed_by m n from was now again true test is =
      let range = first_shut_at width a n (from + (7 + width)) place is in
      let head : record_number width c from v ≡ record_number width a from v =
      record_same width c a v from from (λ k h. torn.before (from + k) (omega (arith, range.behind))) in
      omega (arith, head, again is)
  changed_by m n from was now again false test is =
      let here : place ≡ from = cc (is) in
      let old : record_number width a from v ≡ 0 = ap (λ k. record_number width a k v) (sym here) ∙ was in
      let new : record_number width c from v ≡ m = ap (λ k. record_number width c k v) (sym here) ∙ now in
      omega (arith, old, new, outside n (from + (7 + width)) (inr (omega (arith, here))))

  pub one_changed : (m : ℕ) → record_number width a place v ≡ 0 → record_number width c place v ≡ m → (n from : ℕ)
      → first_shut width a n from ≡ Some place
      → records_number width c v n from ≡ max m (records_number width a v n from)
  unfolding first_shut
  one_changed m was now zero from is = absurd cc
  one_changed m was now (suc n) from is =
      changed_by m n from was now (one_changed m was now n (from + (7 + width))) (is_open a from) refl is

-- a record whose gate is not open, and one whose gate is
pub shut_number : (width : ℕ) (c : List ℕ) (place w : ℕ) → is_open c place ≡ false → record_number width c place w ≡ 0
shut_number width c place w shut =
    ap (λ b. cond (b && index_at width c (place + 1) == w) (six_at c (place + 1 + width)) 0) shut

test_of : (n v : ℕ) (t : Bool) → (n == v) ≡ t → n ≡ v → t ≡ true
test_of n v true test same = refl
test_of n v false test same = absurd (eqb-false n v test same)

test_not : (n v : ℕ) (t : Bool) → (n == v) ≡ t → n ≢ v → t ≡ false
test_not n v true test other = absurd (other (eqb-true n v test))
test_not n v false test other = refl

pub open_number : (width : ℕ) (c : List ℕ) (place v n : ℕ) → is_open c place ≡ true → index_at width c (place + 1) ≡ v
    → six_at c (place + 1 + width) ≡ n
    → record_number width c place v ≡ n
open_number width c place v n gate index number =
    ap (λ b. cond (b && index_at width c (place + 1) == v) (six_at c (place + 1 + width)) 0) gate
    ∙ ap (λ b. cond b (six_at c (place + 1 + width)) 0) (test_of (index_at width c (place + 1)) v
    (index_at width c (place + 1) == v) refl index)
    ∙ number

pub other_number : (width : ℕ) (c : List ℕ) (place v w : ℕ) → is_open c place ≡ true → index_at width c (place + 1) ≡ v
    → w ≢ v → record_number width c place w ≡ 0
other_number width c place v w gate index other =
    ap (λ b. cond (b && index_at width c (place + 1) == w) (six_at c (place + 1 + width)) 0) gate
    ∙ ap (λ b. cond b (six_at c (place + 1 + width)) 0)
    (test_not (index_at width c (place + 1)) w (index_at width c (place + 1) == w) refl
    (λ same. other (sym same ∙ index)))
