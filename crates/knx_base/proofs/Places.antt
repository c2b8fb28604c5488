-- Texts that are put one behind the other.
use Rattle.std.proofs.Common.{◌≡◌, ℕ, ◌+◌, ◌-◌, ◌≤◌, List, drop, sym, ap, ◌∙◌, arith}
use Rattle.std.proofs.lemmas.List.{drop-drop}

-- What is unchanged from a place on is unchanged from a later place on.
pub later_rest : {A : Type 0} (n m : ℕ) (old new : List A) → n ≤ m → drop n new ≡ drop n old → drop m new ≡ drop m old
later_rest n m old new later same =
    let place : n + (m - n) ≡ m = omega arith in
    ap (λ (k : ℕ). drop k new) (sym place) ∙ sym (drop-drop (m - n) n new) ∙ ap (drop (m - n)) same
    ∙ drop-drop (m - n) n old ∙ ap (λ (k : ℕ). drop k old) place
