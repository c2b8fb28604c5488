-- A refusal that is one of several is as each of them is.
use Rattle.std.proofs.Common.{List, [], ◌∷◌, ◌++◌, Bool, true, false, cond, Option, Some, None, IfSome}
use Rattle.std.specs.Option.{option_or, option_map}
use Rattle.key_tables.specs.First.{first_of}

pub either : {B : Type 0} (P : B → Type 0) (here later : Option B) → IfSome here P → IfSome later P
    → IfSome (option_or here later) P
either P None later first second = second
either P (Some found) later first second = first

-- a first refusal is one that the test gives
pub first_is : {A B : Type 0} (P : B → Type 0) (test : List A → A → Option B)
    → ((before : List A) (x : A) → IfSome (test before x) P) → (before xs : List A)
    → IfSome (first_of test before xs) P
first_is P test each before [] = tt
first_is P test each before (x ∷ xs) =
    either P (test before x) (first_of test (before ++ x ∷ []) xs) (each before x)
    (first_is P test each (before ++ x ∷ []) xs)

-- what holds of two answers holds of the one that is chosen
pub chosen : {A : Type 0} (P : A → Type 0) (here : Bool) (x y : A) → P x → P y → P (cond here x y)
chosen P true x y first second = first
chosen P false x y first second = second

-- a fault that is told by another
pub mapped : {A B : Type 0} (P : A → Type 0) (Q : B → Type 0) (tell : A → B) (found : Option A)
    → ((x : A) → P x → Q (tell x)) → IfSome found P → IfSome (option_map tell found) Q
mapped P Q tell None told is = tt
mapped P Q tell (Some x) told is = told x is
