-- Numbers that are sent to as many numbers, no two to the same, leave none out.
use Rattle.std.proofs.Common.{◌≡◌, ℕ, zero, suc, ◌==◌, ◌<◌, ◌≤◌, ◌⊎◌, inl, inr, Bool, true, false, cond, refl, sym, ◌∙◌, arith}
use Rattle.std.proofs.lemmas.Bool.{eqb-true, eqb-false}

abbrev pub Into : (ℕ → ℕ) → ℕ → ℕ → Type 0
Into f n m = (i : ℕ) → i < n → f i < m

abbrev pub OneToOne : (ℕ → ℕ) → ℕ → Type 0
OneToOne f n = (i j : ℕ) → i < n → j < n → f i ≡ f j → i ≡ j

-- y in the place of m
abbrev instead : ℕ → ℕ → ℕ → ℕ
instead m y x = cond (x == m) y x

abbrev IsInstead : ℕ → ℕ → ℕ → ℕ → Type 0
IsInstead m y x r = ((x ≡ m) × (r ≡ y)) ⊎ ((x ≡ m → ⊥) × (r ≡ x))

by_test : (m y x : ℕ) (t : Bool) → (x == m) ≡ t → IsInstead m y x (cond t y x)
by_test m y x true is = inl (eqb-true x m is, refl)
by_test m y x false is = inr (eqb-false x m is, refl)

is_instead : (m y x : ℕ) → IsInstead m y x (instead m y x)
is_instead m y x = by_test m y x (x == m) refl

into_less : (f : ℕ → ℕ) (n m : ℕ) → Into f (suc n) (suc m) → OneToOne f (suc n) → Into (λ i. instead m (f n) (f i)) n m
into_less f n m into one i below =
    let here : f i < suc m = into i (omega arith) in
    let last : f n < suc m = into n (omega arith) in
    let differs : f i ≡ f n → ⊥ = λ is. let same = one i n (omega arith) (omega arith) is in omega arith in
    elim (is_instead m (f n) (f i)) [ inl w ↦ omega (arith, w.0, w.1) | inr w ↦ omega (arith, w.0, w.1) ]

one_less : (f : ℕ → ℕ) (n m : ℕ) → OneToOne f (suc n) → OneToOne (λ i. instead m (f n) (f i)) n
one_less f n m one i j first second is =
    elim (is_instead m (f n) (f i)) [
      | inl v ↦ elim (is_instead m (f n) (f j)) [
        | inl w ↦ one i j (omega arith) (omega arith) (v.0 ∙ sym w.0)
        | inr w ↦ let same = one n j (omega arith) (omega arith) (sym v.1 ∙ is ∙ w.1) in absurd (omega arith)
      ]
      | inr v ↦ elim (is_instead m (f n) (f j)) [
        | inl w ↦ let same = one i n (omega arith) (omega arith) (sym v.1 ∙ is ∙ w.1) in absurd (omega arith)
        | inr w ↦ one i j (omega arith) (omega arith) (sym v.1 ∙ is ∙ w.1)
      ]
    ]

no_more : (n m : ℕ) (f : ℕ → ℕ) → Into f n m → OneToOne f n → n ≤ m
no_more zero m f into one = omega arith
no_more (suc n) zero f into one = absurd (omega (arith, into n (omega arith)))
no_more (suc n) (suc m) f into one =
    omega (arith, no_more n m (λ i. instead m (f n) (f i)) (into_less f n m into one) (one_less f n m one))

-- what f sends the numbers to, and a number after them
abbrev with_one : ℕ → ℕ → (ℕ → ℕ) → ℕ → ℕ
with_one n number f i = cond (i == n) number (f i)

abbrev IsWith : ℕ → ℕ → (ℕ → ℕ) → ℕ → ℕ → Type 0
IsWith n number f i r = ((i ≡ n) × (r ≡ number)) ⊎ ((i ≡ n → ⊥) × (r ≡ f i))

with_test : (n number : ℕ) (f : ℕ → ℕ) (i : ℕ) (t : Bool) → (i == n) ≡ t → IsWith n number f i (cond t number (f i))
with_test n number f i true is = inl (eqb-true i n is, refl)
with_test n number f i false is = inr (eqb-false i n is, refl)

is_with : (n number : ℕ) (f : ℕ → ℕ) (i : ℕ) → IsWith n number f i (with_one n number f i)
is_with n number f i = with_test n number f i (i == n) refl

-- no number below is left out
pub none_missed : (n number : ℕ) (f : ℕ → ℕ) → Into f n n → OneToOne f n → number < n
    → ((i : ℕ) → i < n → f i ≡ number → ⊥) → ⊥
none_missed n number f into one below missed =
    let longer : Into (with_one n number f) (suc n) n =
    λ i less. elim (is_with n number f i) [
      | inl w ↦ omega (arith, w.1, below)
      | inr w ↦ let small = into i (omega (arith, less, w.0)) in omega (arith, w.1, small)
    ] in
    let still : OneToOne (with_one n number f) (suc n) =
    λ i j first second is. elim (is_with n number f i) [
      | inl v ↦ elim (is_with n number f j) [
        | inl w ↦ v.0 ∙ sym w.0
        | inr w ↦ absurd (missed j (omega (arith, second, w.0)) (sym w.1 ∙ sym is ∙ v.1))
      ]
      | inr v ↦ elim (is_with n number f j) [
        | inl w ↦ absurd (missed i (omega (arith, first, v.0)) (sym v.1 ∙ is ∙ w.1))
        | inr w ↦ one i j (omega (arith, first, v.0)) (omega (arith, second, w.0)) (sym v.1 ∙ is ∙ w.1)
      ]
    ] in
    omega (arith, no_more (suc n) n (with_one n number f) longer still)
