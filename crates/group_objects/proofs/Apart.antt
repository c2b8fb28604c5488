-- What it says of rows that none of them is of a group that stood before, and what, that one is.
use Rattle.std.proofs.Common.{◌≡◌, ℕ, ◌<◌, Bool, true, false, List, [], ◌∷◌, ◌++◌, length, take, Some, None, unwrap_or, slice_get, slice_index_or, cond, refl, sym, ap, subst, ◌∙◌, ⊎_elim, append_assoc, append-nil, arith}
use Rattle.std.specs.List.{list_any}
use Rattle.std.proofs.lemmas.Bool.{true≢false, cases_Bool}
use Rattle.std.proofs.lemmas.List.Folds.{list_any_at}
use Rattle.std.proofs.lemmas.List.Quantifiers.{all_pairs_push}
use Rattle.group_objects.specs.declared.row.ObjectRow.{ObjectRow}
use Rattle.group_objects.specs.Objects.{NoneTwice, IsFirstTwice, first_twice, is_of}

never_true : (b : Bool) → (b ≡ true → ⊥) → b ≡ false
never_true b never = ⊎_elim (λ is. absurd (never is)) (λ is. is) (cases_Bool b)

none_passes : {A : Type 0} (p : A → Bool) (xs : List A) (k : ℕ) (d : A) → k < length xs → list_any p xs ≡ false
    → p (slice_index_or xs k d) ≡ false
none_passes p xs k d within none =
    never_true (p (slice_index_or xs k d)) (λ passes. true≢false (sym (list_any_at p xs k d within passes) ∙ none))

one_more : (before : List ObjectRow) (row : ObjectRow) → list_any (is_of row.group) before ≡ false → NoneTwice before
    → NoneTwice (before ++ row ∷ [])
one_more before row new apart =
    all_pairs_push (λ earlier later. is_of later.group earlier ≡ false) before row apart
    (λ k d within. none_passes (is_of row.group) before k d within new)

-- ---- none is

module _ (before rows : List ObjectRow) (row : ObjectRow) (apart : NoneTwice before) where
  goes_on : (b : Bool) → list_any (is_of row.group) before ≡ b
      → (NoneTwice (before ++ row ∷ []) → first_twice (before ++ row ∷ []) rows ≡ None
      → NoneTwice ((before ++ row ∷ []) ++ rows))
      → cond b (Some (length before)) (first_twice (before ++ row ∷ []) rows) ≡ None → NoneTwice (before ++ row ∷ rows)
  goes_on true again later none = absurd cc
  goes_on false new later none =
      subst NoneTwice (append_assoc before (row ∷ []) rows) (later (one_more before row new apart) none)

none_after : (before rows : List ObjectRow) → NoneTwice before → first_twice before rows ≡ None
    → NoneTwice (before ++ rows)
none_after before [] apart none = subst NoneTwice (sym (append-nil before)) apart
none_after before (row ∷ rows) apart none =
    goes_on before rows row apart (list_any (is_of row.group) before) refl (none_after (before ++ row ∷ []) rows) none

pub none_twice : (rows : List ObjectRow) → first_twice [] rows ≡ None → NoneTwice rows
none_twice rows none = none_after [] rows (λ i j d below within. absurd (omega (arith, within))) none

-- ---- one is

get_after : {A : Type 0} (before rows : List A) (row : A) → slice_get (before ++ row ∷ rows) (length before) ≡ Some row
get_after [] rows row = refl
get_after (x ∷ before) rows row = get_after before rows row

take_before : {A : Type 0} (before rows : List A) → take (length before) (before ++ rows) ≡ before
take_before [] rows = refl
take_before (x ∷ before) rows = ap (λ xs. x ∷ xs) (take_before before rows)

module _ (before rows : List ObjectRow) (row : ObjectRow) (apart : NoneTwice before) where
  is_here : list_any (is_of row.group) before ≡ true → IsFirstTwice (before ++ row ∷ rows) (length before)
  is_here again = record {
    row = row;
    there = get_after before rows row;
    again = ap (list_any (is_of row.group)) (take_before before (row ∷ rows)) ∙ again;
    none_before = subst NoneTwice (sym (take_before before (row ∷ rows))) apart;
  }

  here_or_later : (place : ℕ) (b : Bool) → list_any (is_of row.group) before ≡ b
      → (NoneTwice (before ++ row ∷ []) → first_twice (before ++ row ∷ []) rows ≡ Some place
      → IsFirstTwice ((before ++ row ∷ []) ++ rows) place)
      → cond b (Some (length before)) (first_twice (before ++ row ∷ []) rows) ≡ Some place
      → IsFirstTwice (before ++ row ∷ rows) place
  here_or_later place true again later found =
      subst (IsFirstTwice (before ++ row ∷ rows)) (ap (λ found. unwrap_or found 0) found) (is_here again)
  here_or_later place false new later found =
      subst (λ all. IsFirstTwice all place) (append_assoc before (row ∷ []) rows)
      (later (one_more before row new apart) found)

first_after : (before rows : List ObjectRow) (place : ℕ) → NoneTwice before → first_twice before rows ≡ Some place
    → IsFirstTwice (before ++ rows) place
first_after before [] place apart found = absurd cc
first_after before (row ∷ rows) place apart found =
    here_or_later before rows row apart place (list_any (is_of row.group) before) refl
    (first_after (before ++ row ∷ []) rows place) found

pub is_first_twice : (rows : List ObjectRow) (place : ℕ) → first_twice [] rows ≡ Some place → IsFirstTwice rows place
is_first_twice rows place found = first_after [] rows place (λ i j d below within. absurd (omega (arith, within))) found
