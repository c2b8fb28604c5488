-- Statement: the first element of a list that a test refuses, where it is judged by the elements before it.
use Rattle.std.specs.Prelude.{List, [], ◌∷◌, ◌++◌, Option, None}
use Rattle.std.specs.Option.{option_or}

-- the first answer that the test gives to the elements of a list, which come after others
abbrev pub first_of : {A B : Type 0} → (List A → A → Option B) → List A → List A → Option B
first_of test before [] = None
first_of test before (x ∷ xs) = option_or (test before x) (first_of test (before ++ x ∷ []) xs)
