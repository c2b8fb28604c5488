-- Attributes that are put in order by their names are the same attributes.
use Rattle.std.proofs.Common.{◌≡◌, ℕ, zero, suc, Bool, true, false, cond, List, [], ◌∷◌, ◌++◌, fold, Ordering, arith, refl, sym, ap, subst, ◌∙◌, nat_cmp, append-nil}
use Rattle.std.specs.Ordering.{match_ordering, is_eq}
use Rattle.std.specs.declared.cmp.Ordering.TheVariants.{Less, Equal, Greater}
use Rattle.std.specs.List.{AllByRecursion, filter}
use Rattle.std.specs.List.Sorted.{IsPermutation}
use Rattle.std.specs.BTreeMap.{insert_entry}
use Rattle.std.specs.Cmp.Lexicographic.{slice_cmp}
use Rattle.std.proofs.lemmas.List.Elements.{recursion_from_All}
use Rattle.std.proofs.lemmas.List.Sorted.{IsPermutation-refl, IsPermutation-sym, IsPermutation-cons, IsPermutation-trans, IsPermutation-middle, IsPermutation-append_left}
use Rattle.std.proofs.lemmas.Map.Text.{is_eq-slice_cmp}
use Rattle.std.proofs.lemmas.Slice.Eq.{bytes_eq-Decides}
use Rattle.tag_text.specs.Names.{DifferInName}
use Rattle.keyring_reader.specs.Signed.{is_signed, placed, by_name}
use Rattle.keyring_reader.proofs.OrderLemmas.{all_of_one}

abbrev Pair : Type 0
Pair = List ℕ × List ℕ

-- none has the name
abbrev NoneNamed : List ℕ → List Pair → Type 0
NoneNamed name pairs = AllByRecursion (λ (pair : Pair). pair.0 ≡ name → ⊥) pairs

-- none has the name of one of the others
abbrev NoneShared : List Pair → List Pair → Type 0
NoneShared pairs others = AllByRecursion (λ (other : Pair). NoneNamed other.0 pairs) others

-- no name stands twice
abbrev AreOnce : List Pair → Type 0
AreOnce [] = Unit {0}
AreOnce (pair ∷ pairs) = NoneNamed pair.0 pairs × AreOnce pairs

same_by_order : (a b : List ℕ) → slice_cmp nat_cmp a b ≡ Equal → a ≡ b
same_by_order a b is = (bytes_eq-Decides a b).0 (sym (is_eq-slice_cmp a b) ∙ ap is_eq is)

placed_at : (order : Ordering) (pair : Pair) (pairs later : List Pair) (name value : List ℕ)
    → slice_cmp nat_cmp name pair.0 ≡ order
    → (pair.0 ≡ name → ⊥) → IsPermutation ((name, value) ∷ pairs) later
    → IsPermutation ((name, value) ∷ pair ∷ pairs) (match_ordering order ((name, value) ∷ pair ∷ pairs)
    ((pair.0, value) ∷ pairs) (pair ∷ later))
placed_at Less pair pairs later name value is differs more = IsPermutation-refl ((name, value) ∷ pair ∷ pairs)
placed_at Equal pair pairs later name value is differs more = absurd (differs (sym (same_by_order name pair.0 is)))
placed_at Greater pair pairs later name value is differs more =
    IsPermutation-trans ((name, value) ∷ pair ∷ pairs) (pair ∷ (name, value) ∷ pairs) (pair ∷ later)
    (IsPermutation-sym (pair ∷ (name, value) ∷ pairs) ((name, value) ∷ pair ∷ pairs)
    (IsPermutation-middle (pair ∷ []) (name, value) pairs))
    (IsPermutation-cons pair ((name, value) ∷ pairs) later more)

-- one more attribute, of another name
one_more : (pairs : List Pair) (name value : List ℕ) → NoneNamed name pairs
    → IsPermutation ((name, value) ∷ pairs) (insert_entry (slice_cmp nat_cmp) pairs name value)
one_more [] name value none = IsPermutation-refl ((name, value) ∷ [])
one_more (pair ∷ pairs) name value none =
    placed_at (slice_cmp nat_cmp name pair.0) pair pairs (insert_entry (slice_cmp nat_cmp) pairs name value) name value
    refl none.0 (one_more pairs name value none.1)

none_more : (other : List ℕ) (pairs : List Pair) (name value : List ℕ) → (name ≡ other → ⊥) → NoneNamed other pairs
    → NoneNamed other (insert_entry (slice_cmp nat_cmp) pairs name value)
none_more other [] name value differs none = (differs, tt)
none_more other (pair ∷ pairs) name value differs none =
    all_of_one (λ (pair : Pair). pair.0 ≡ other → ⊥) (slice_cmp nat_cmp name pair.0) ((name, value) ∷ pair ∷ pairs)
    ((pair.0, value) ∷ pairs)
    (pair ∷ insert_entry (slice_cmp nat_cmp) pairs name value) (differs, none) none
    (none.0, none_more other pairs name value differs none.1)

shared_more : (pairs others : List Pair) (name value : List ℕ) → NoneNamed name others → NoneShared pairs others
    → NoneShared (insert_entry (slice_cmp nat_cmp) pairs name value) others
shared_more pairs [] name value differ none = tt
shared_more pairs (other ∷ others) name value differ none = (
  none_more other.0 pairs name value (λ same. differ.0 (sym same)) none.0,
  shared_more pairs others name value
      differ.1 none.1,
)

all_placed : (pairs others : List Pair) → AreOnce others → NoneShared pairs others
    → IsPermutation (pairs ++ others) (fold placed pairs others)
all_placed pairs [] once none =
    subst (λ (all : List Pair). IsPermutation all pairs) (sym (append-nil pairs)) (IsPermutation-refl pairs)
all_placed pairs (other ∷ others) once none =
    let next : List Pair = placed pairs other in
    IsPermutation-trans (pairs ++ other ∷ others) (next ++ others) (fold placed next others)
    (IsPermutation-trans (pairs ++ other ∷ others) (other ∷ (pairs ++ others)) (next ++ others)
    (IsPermutation-middle pairs other others)
    (IsPermutation-append_left others (other ∷ pairs) next (one_more pairs other.0 other.1 none.0)))
    (all_placed next others once.1 (shared_more pairs others other.0 other.1 once.0 none.1))

none_at_first : (others : List Pair) → NoneShared [] others
none_at_first [] = tt
none_at_first (other ∷ others) = (tt, none_at_first others)

-- of the attributes that are signed too no name stands twice
none_of_kept : (name : List ℕ) (first : Pair) (kept : List Pair) (b : Bool) → (first.0 ≡ name → ⊥) → NoneNamed name kept
    → NoneNamed name (cond b (first ∷ kept) kept)
none_of_kept name first kept true differs none = (differs, none)
none_of_kept name first kept false differs none = none

none_kept : (name : List ℕ) (pairs : List Pair) → NoneNamed name pairs → NoneNamed name (filter is_signed pairs)
none_kept name [] none = tt
none_kept name (pair ∷ pairs) none =
    none_of_kept name pair (filter is_signed pairs) (is_signed pair) none.0 (none_kept name pairs none.1)

once_of_kept : (first : Pair) (kept : List Pair) (b : Bool) → NoneNamed first.0 kept → AreOnce kept
    → AreOnce (cond b (first ∷ kept) kept)
once_of_kept first kept true none once = (none, once)
once_of_kept first kept false none once = once

once_kept : (pairs : List Pair) → AreOnce pairs → AreOnce (filter is_signed pairs)
once_kept [] once = tt
once_kept (pair ∷ pairs) once =
    once_of_kept pair (filter is_signed pairs) (is_signed pair) (none_kept pair.0 pairs once.0) (once_kept pairs once.1)

are_once : (pairs : List Pair) → DifferInName pairs → AreOnce pairs
are_once [] differ = tt
are_once (pair ∷ pairs) differ = (
  recursion_from_All (λ (other : Pair). other.0 ≡ pair.0 → ⊥) pairs
      (λ k d within same. differ zero (suc k) d (omega arith) (omega (arith, within)) (sym same)),
  are_once pairs (λ i j d before within. differ (suc i) (suc j) d (omega (arith, before)) (omega (arith, within))),
)

pub same_attributes : (attributes : List Pair) → DifferInName attributes
    → IsPermutation (filter is_signed attributes) (by_name (filter is_signed attributes))
unfolding by_name
same_attributes attributes differ =
    all_placed [] (filter is_signed attributes) (once_kept attributes (are_once attributes differ))
    (none_at_first (filter is_signed attributes))
