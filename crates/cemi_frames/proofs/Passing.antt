-- Where no refusal applies, each test was passed.
use Rattle.std.proofs.Common.{◌≡◌, ℕ, Bool, true, false, cond, eqb, List, [], ◌∷◌, ◌++◌, Option, Some, None, refl}
use Rattle.std.proofs.lemmas.Bool.{eqb-true}
use Rattle.cemi_frames.specs.declared.frame.NotFrame.{NotFrame}
use Rattle.cemi_frames.specs.Faults.{Refusal, first_of, opposite, differ}

pub passed : (b : Bool) (fault : NotFrame) (rest : Option NotFrame) → cond b (Some fault) rest ≡ None → (b ≡ false)
    × (rest ≡ None)
passed true fault rest none = absurd cc
passed false fault rest none = (refl, none)

pub first_of-none : (front back : List Refusal) → first_of (front ++ back) ≡ None → (first_of front ≡ None)
    × (first_of back ≡ None)
first_of-none [] back none = (refl, none)
first_of-none (refusal ∷ front) back none = by refusal.applies refusal.fault (first_of-none front back) none
  where
    by : (b : Bool) (f : NotFrame) → (first_of (front ++ back) ≡ None → (first_of front ≡ None)
        × (first_of back ≡ None)) → cond b (Some f) (first_of (front ++ back)) ≡ None
        → (cond b (Some f) (first_of front) ≡ None) × (first_of back ≡ None)
    by true f later e = absurd cc
    by false f later e = later e

pub opposite-false : (b : Bool) → opposite b ≡ false → b ≡ true
opposite-false true e = refl
opposite-false false e = absurd cc

pub differ-false : (a b : ℕ) → differ a b ≡ false → a ≡ b
differ-false a b same = eqb-true a b (opposite-false (eqb a b) same)
