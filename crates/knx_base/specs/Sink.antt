-- Statement: what a sink of octets takes, where it tells its octets.
use Rattle.std.specs.Prelude.{◌≡◌, ℕ, ◌<◌, ◌≤◌, List, ◌++◌, length, take, Option, Result, MatchResult}
use Rattle.std.specs.Io.KnownBytes.{append_known}

-- the text begins with these octets
abbrev pub IsPrefixOf : List ℕ → List ℕ → Type 0
IsPrefixOf front text = (rest : List ℕ) × (front ++ rest ≡ text)

-- one call takes at least one octet and at most all, from the front; a call that fails takes none
abbrev pub TakesPiece : {E : Type 0} → Option (List ℕ) → Option (List ℕ) → Result ℕ E → List ℕ → Type 0
TakesPiece old new result bytes =
    MatchResult result
    (λ n. (0 < n) × (n ≤ length bytes) × (new ≡ append_known old (take n bytes)))
    (λ _. new ≡ old)

-- some prefix of the text was appended
abbrev pub AppendsPrefix : Option (List ℕ) → Option (List ℕ) → List ℕ → Type 0
AppendsPrefix old new text = (front : List ℕ) × IsPrefixOf front text × (new ≡ append_known old front)

-- the whole text was appended, or, where the call fails, a prefix of it
abbrev pub Prints : {T E : Type 0} → Option (List ℕ) → Option (List ℕ) → Result T E → List ℕ → Type 0
Prints old new result text =
    MatchResult result (λ _. new ≡ append_known old text) (λ _. AppendsPrefix old new text)
