-- Texts that are appended to a sink in pieces.
use Rattle.std.proofs.Common.{◌≡◌, ℕ, ◌-◌, List, [], ◌++◌, length, take, drop, Option, Some, None, Result, Ok, Err, refl, sym, ap, ◌∙◌, append_assoc, append-nil, take-append-drop}
use Rattle.std.specs.Result.{IsErr}
use Rattle.std.specs.Io.KnownBytes.{append_known}
use Rattle.std.proofs.lemmas.List.{take_rest}
use Rattle.knx_base.specs.Sink.{AppendsPrefix, Prints}

-- nothing was appended
pub append_known-nil : (known : Option (List ℕ)) → append_known known [] ≡ known
append_known-nil None = refl
append_known-nil (Some xs) = ap Some (append-nil xs)

-- two texts were appended, one after the other
pub append_known-append : (known : Option (List ℕ)) (front back : List ℕ)
    → append_known (append_known known front) back ≡ append_known known (front ++ back)
append_known-append None front back = refl
append_known-append (Some xs) front back = ap Some (append_assoc xs front back)

-- after one more piece the texts so far and what is left are still the whole text
pub one_piece : (start before after : Option (List ℕ)) (text rest front : List ℕ) (n : ℕ) → front ++ rest ≡ text
    → before ≡ append_known start front → after ≡ append_known before (take n rest)
    → (more : List ℕ) × (more ++ take (length rest - n) (drop n rest) ≡ text) × (after ≡ append_known start more)
one_piece start before after text rest front n whole so_far taken = (
  front ++ take n rest,
  append_assoc front (take n rest) (take (length rest - n) (drop n rest))
      ∙ ap (λ back. front ++ (take n rest ++ back)) (take_rest rest n)
      ∙ ap (λ both. front ++ both) (take-append-drop n rest)
      ∙ whole,
  taken ∙ ap (λ known. append_known known (take n rest)) so_far ∙ append_known-append start front (take n rest),
)

-- a text was printed whole and another after it
pub prints_then : {T E : Type 0} (old mid new : Option (List ℕ)) (result : Result T E) (front back : List ℕ)
    → mid ≡ append_known old front → Prints mid new result back → Prints old new result (front ++ back)
prints_then old mid new (Ok x) front back before printed =
    printed ∙ ap (λ known. append_known known back) before ∙ append_known-append old front back
prints_then old mid new (Err e) front back before printed =
    let begun = printed.0 in (
      front ++ begun,
      (printed.1.0, append_assoc front begun printed.1.0 ∙ ap (λ both. front ++ both) printed.1.1),
      printed.2 ∙ ap (λ known. append_known known begun) before ∙ append_known-append old front begun,
    )

-- a text was printed in part, and what was to come after it not at all
pub prints_no_more : {T E : Type 0} (old new : Option (List ℕ)) (result : Result T E) (front back : List ℕ)
    → IsErr result → AppendsPrefix old new front → Prints old new result (front ++ back)
prints_no_more old new (Ok x) front back failed begun = absurd cc
prints_no_more old new (Err e) front back failed begun = (
  begun.0,
  (begun.1.0 ++ back, sym (append_assoc begun.0 begun.1.0 back) ∙ ap (λ both. both ++ back) begun.1.1),
  begun.2,
)
