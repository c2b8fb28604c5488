-- The rows of additional information, and the first that does not fit.
use Rattle.std.proofs.Common.{◌≡◌, ℕ, zero, suc, ◌+◌, ◌<◌, ◌≤◌, cond, ltb, List, [], ◌∷◌, length, get_or, drop, Option, Some, None, refl, sym, ap, ◌∙◌, arith}
use Rattle.std.proofs.lemmas.Bool.{le-ltb, lt-ltb}
use Rattle.std.proofs.lemmas.List.{length-drop}
use Rattle.cemi_frames.specs.Faults.{misfit}
use Rattle.cemi_frames.specs.Reading.{IsMisfit, FitsRow}

-- As many rows as there are octets are enough.
pub misfit-enough : (n m place : ℕ) (info : List ℕ) → length info ≤ n → length info ≤ m
    → misfit n place info ≡ misfit m place info
unfolding misfit
misfit-enough zero zero place info n_enough m_enough = refl
misfit-enough zero (suc m) place [] n_enough m_enough = refl
misfit-enough zero (suc m) place (kind ∷ info) n_enough m_enough = absurd (omega arith)
misfit-enough (suc n) zero place [] n_enough m_enough = refl
misfit-enough (suc n) zero place (kind ∷ info) n_enough m_enough = absurd (omega arith)
misfit-enough (suc n) (suc m) place [] n_enough m_enough = refl
misfit-enough (suc n) (suc m) place (kind ∷ []) n_enough m_enough = refl
misfit-enough (suc n) (suc m) place (kind ∷ size ∷ rest) n_enough m_enough =
    ap (λ (o : Option ℕ). cond (ltb (length rest) size) (Some place) o)
    (misfit-enough n m (place + 2 + size) (drop size rest) (omega (arith, length-drop size rest))
    (omega (arith, length-drop size rest)))

pub IsMisfit-short : (info : List ℕ) → 0 < length info → length info < get_or info 1 0 + 2 → IsMisfit info
unfolding misfit
IsMisfit-short [] some short place = absurd (omega arith)
IsMisfit-short (kind ∷ []) some short place = refl
IsMisfit-short (kind ∷ size ∷ rest) some short place = rw (lt-ltb (length rest) size (omega arith)) refl

pub FitsRow-long : (info : List ℕ) → 2 ≤ length info → get_or info 1 0 + 2 ≤ length info
    → FitsRow info (get_or info 1 0 + 2)
unfolding misfit
FitsRow-long [] two long = absurd (omega arith)
FitsRow-long (kind ∷ []) two long = absurd (omega arith)
FitsRow-long (kind ∷ size ∷ rest) two long = record { not_empty = omega arith; within = long; goes_on = goes_on }
  where
    later : drop (size + 2) (kind ∷ size ∷ rest) ≡ drop size rest
    later =
        let two_more : size + 2 ≡ suc (suc size) = omega arith in ap (λ (k : ℕ). drop k (kind ∷ size ∷ rest)) two_more

    goes_on : (place : ℕ) → misfit (length (kind ∷ size ∷ rest)) place (kind ∷ size ∷ rest)
        ≡ misfit (length (drop (size + 2) (kind ∷ size ∷ rest))) (place + (size + 2))
        (drop (size + 2) (kind ∷ size ∷ rest))
    goes_on place =
        let step : misfit (length (kind ∷ size ∷ rest)) place (kind ∷ size ∷ rest)
        ≡ misfit (suc (length rest)) (place + 2 + size) (drop size rest) =
        rw (le-ltb (length rest) size (omega arith)) refl in
        let next : place + 2 + size ≡ place + (size + 2) = omega arith in
        step
        ∙ misfit-enough (suc (length rest)) (length (drop size rest)) (place + 2 + size) (drop size rest)
        (omega (arith, length-drop size rest)) (omega arith)
        ∙ ap (λ (p : ℕ). misfit (length (drop size rest)) p (drop size rest)) next
        ∙ ap (λ (info : List ℕ). misfit (length info) (place + (size + 2)) info) (sym later)

pub misfit-no_rows : (rows place : ℕ) (info : List ℕ) → rows ≡ 0 → misfit rows place info ≡ None
unfolding misfit
misfit-no_rows zero place info none = refl
misfit-no_rows (suc rows) place info none = absurd (omega arith)
