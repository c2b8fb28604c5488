-- The element that a search finds stands at the place that it finds.
use Rattle.std.proofs.Common.{◌≡◌, ℕ, Bool, true, false, List, length, Option, Some, None, Ok, Err, cond, refl, ap, unwrap_or, ◌∙◌}
use Rattle.std.specs.Prelude.{find, position, slice_get, MatchOption, nat_lt}
use Rattle.std.specs.Option.{ok_or}
use Rattle.std.specs.List.{position_or_len}
use Rattle.std.proofs.lemmas.Bool.{ltb-false}
use Rattle.std.proofs.lemmas.Option.{slice_get_past}
use Rattle.std.proofs.lemmas.List.Folds.{find_at}

abbrev pub FoundAt : {A : Type 0} → List A → Option A → Option ℕ → Type 0
FoundAt xs found place = MatchOption place (found ≡ None) (λ i. found ≡ slice_get xs i)

found_in : {A : Type 0} (xs : List A) (found : Option A) (k : ℕ) (b : Bool) → (b ≡ false → slice_get xs k ≡ None)
    → found ≡ slice_get xs k → FoundAt xs found (cond b (Some k) None)
found_in xs found k true past is = is
found_in xs found k false past is = is ∙ past refl

pub found_at : {A : Type 0} (p : A → Bool) (xs : List A) → FoundAt xs (find p xs) (position p xs)
found_at p xs =
    found_in xs (find p xs) (position_or_len p xs) (nat_lt (position_or_len p xs) (length xs))
    (λ b. slice_get_past xs (position_or_len p xs) (ltb-false (position_or_len p xs) (length xs) b)) (find_at p xs)

some_place : {A : Type 0} (xs : List A) (found : Option A) (at : Option ℕ) (place : ℕ) → at ≡ Some place
    → FoundAt xs found at → found ≡ slice_get xs place
some_place xs found None place is known = absurd cc
some_place xs found (Some i) place is known = known ∙ ap (λ o. slice_get xs (unwrap_or o 0)) is

no_place : {A : Type 0} (xs : List A) (found : Option A) (at : Option ℕ) → at ≡ None → FoundAt xs found at
    → found ≡ None
no_place xs found None is known = known
no_place xs found (Some i) is known = absurd cc

pub found_there : {A E : Type 0} (why : E) (p : A → Bool) (xs : List A) (place : ℕ) (x : A) → position p xs ≡ Some place
    → slice_get xs place ≡ Some x → ok_or (find p xs) why ≡ Ok x
found_there why p xs place x at there =
    ap (λ found. ok_or found why) (some_place xs (find p xs) (position p xs) place at (found_at p xs) ∙ there)

pub found_nowhere : {A E : Type 0} (why : E) (p : A → Bool) (xs : List A) → position p xs ≡ None
    → ok_or (find p xs) why ≡ Err why
found_nowhere why p xs at = ap (λ found. ok_or found why) (no_place xs (find p xs) (position p xs) at (found_at p xs))
