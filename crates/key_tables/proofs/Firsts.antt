-- A list that is judged in two parts.
use Rattle.std.proofs.Common.{◌≡◌, List, [], ◌∷◌, ◌++◌, Option, Some, None, refl, sym, ap, ◌∙◌, append_assoc, append-nil}
use Rattle.std.specs.Option.{option_or}
use Rattle.key_tables.specs.First.{first_of}

or_assoc : {T : Type 0} (a b c : Option T) → option_or a (option_or b c) ≡ option_or (option_or a b) c
or_assoc None b c = refl
or_assoc (Some x) b c = refl

pub first_of-append : {A B : Type 0} (test : List A → A → Option B) (before xs ys : List A)
    → first_of test before (xs ++ ys) ≡ option_or (first_of test before xs) (first_of test (before ++ xs) ys)
first_of-append test before [] ys = ap (λ earlier. first_of test earlier ys) (sym (append-nil before))
first_of-append test before (x ∷ xs) ys =
    ap (λ later. option_or (test before x) later) (first_of-append test (before ++ x ∷ []) xs ys)
    ∙ ap (λ earlier. option_or (test before x) (option_or (first_of test (before ++ x ∷ []) xs)
    (first_of test earlier ys)))
    (append_assoc before (x ∷ []) xs)
    ∙ or_assoc (test before x) (first_of test (before ++ x ∷ []) xs) (first_of test (before ++ x ∷ xs) ys)

-- where the first part is all right, the answer is the second part's
pub first_after : {A B : Type 0} (test : List A → A → Option B) (before xs ys : List A) → first_of test before xs ≡ None
    → first_of test before (xs ++ ys) ≡ first_of test (before ++ xs) ys
first_after test before xs ys none =
    first_of-append test before xs ys ∙ ap (λ earlier. option_or earlier (first_of test (before ++ xs) ys)) none
