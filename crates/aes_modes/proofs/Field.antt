-- Sums of octets are a group, and products are linear.
use Rattle.std.proofs.Common.{◌≡◌, ℕ, zero, suc, ◌+◌, ◌*◌, ◌%◌, ◌^◌, ◌<◌, refl, sym, ap, ◌∙◌, inl, inr, arith}
use Rattle.std.proofs.lemmas.Nat.{xor_comm}
use Rattle.std.proofs.lemmas.Nat.Bits.{bit_at_xor, bit_at-lt}
use Rattle.std.proofs.lemmas.Bool.{cases_eq}
use lib.Bits.{xor_assoc, xor_self, xor_zero_l, xor_zero_r}
use Rattle.aes_modes.specs.Octet.{◌⊕◌, coefficient, product_below, remainder, times}

-- ---- sums

-- (a + b) + (c + d) is (a + c) + (b + d)
pub ⊕_interchange : (a b c d : ℕ) → (a ⊕ b) ⊕ (c ⊕ d) ≡ (a ⊕ c) ⊕ (b ⊕ d)
⊕_interchange a b c d =
    xor_assoc a b (c ⊕ d)
    ∙ ap (λ x. a ⊕ x) (sym (xor_assoc b c d) ∙ ap (λ x. x ⊕ d) (xor_comm b c) ∙ xor_assoc c b d)
    ∙ sym (xor_assoc a c (b ⊕ d))

-- a number that is added twice is gone
pub ⊕_twice : (a b : ℕ) → (a ⊕ b) ⊕ b ≡ a
⊕_twice a b = xor_assoc a b b ∙ ap (λ x. a ⊕ x) (xor_self b) ∙ xor_zero_r a

pub ⊕_cancel : (a b k : ℕ) → a ⊕ k ≡ b ⊕ k → a ≡ b
⊕_cancel a b k e = sym (⊕_twice a k) ∙ ap (λ x. x ⊕ k) e ∙ ⊕_twice b k

-- ---- products

scaled00 : (m : ℕ) → m * ((0 + 0) % 2) ≡ m * 0 ⊕ m * 0
scaled00 m = let e : m * 0 ≡ 0 = omega arith in rw e refl

scaled01 : (m : ℕ) → m * ((0 + 1) % 2) ≡ m * 0 ⊕ m * 1
scaled01 m = let e : m * 0 ≡ 0 = omega arith in rw e (sym (xor_zero_l (m * 1)))

scaled10 : (m : ℕ) → m * ((1 + 0) % 2) ≡ m * 1 ⊕ m * 0
scaled10 m = let e : m * 0 ≡ 0 = omega arith in rw e (sym (xor_zero_r (m * 1)))

scaled11 : (m : ℕ) → m * ((1 + 1) % 2) ≡ m * 1 ⊕ m * 1
scaled11 m = let e : m * 0 ≡ 0 = omega arith in e ∙ sym (xor_self (m * 1))

scaled : (m x y : ℕ) → x < 2 → y < 2 → m * ((x + y) % 2) ≡ m * x ⊕ m * y
scaled m x y lx ly = elim (cases_eq x 0) [
  | inl x0 ↦ elim (cases_eq y 0) [
    | inl y0 ↦ rw (x0, y0) (scaled00 m)
    | inr y1 ↦ let e : y ≡ 1 = omega arith in rw (x0, e) (scaled01 m)
  ]
  | inr x1 ↦ elim (cases_eq y 0) [
    | inl y0 ↦ let e : x ≡ 1 = omega arith in rw (e, y0) (scaled10 m)
    | inr y1 ↦ let ex : x ≡ 1 = omega arith in let ey : y ≡ 1 = omega arith in rw (ex, ey) (scaled11 m)
  ]
]

coefficient-⊕ : (m a b i : ℕ) → m * coefficient (a ⊕ b) i ≡ m * coefficient a i ⊕ m * coefficient b i
coefficient-⊕ m a b i =
    ap (λ x. m * x) (bit_at_xor a b i) ∙ scaled m (coefficient a i) (coefficient b i) (bit_at-lt a i) (bit_at-lt b i)

product_below-⊕ : (w a b n : ℕ) → product_below w (a ⊕ b) n ≡ product_below w a n ⊕ product_below w b n
unfolding product_below
product_below-⊕ w a b zero = refl
product_below-⊕ w a b (suc n) =
    (λ i. product_below-⊕ w a b n i ⊕ coefficient-⊕ (w * 2 ^ n) a b n i)
    ∙ ⊕_interchange (product_below w a n) (product_below w b n) (w * 2 ^ n * coefficient a n)
    (w * 2 ^ n * coefficient b n)

remainder-⊕ : (p q n : ℕ) → remainder (p ⊕ q) n ≡ remainder p n ⊕ remainder q n
unfolding remainder
remainder-⊕ p q zero = refl
remainder-⊕ p q (suc n) =
    let m = 0x11b * 2 ^ n in
    ap (λ x. remainder x n) (
    ap (λ x. (p ⊕ q) ⊕ x) (coefficient-⊕ m p q (8 + n))
    ∙ ⊕_interchange p q (m * coefficient p (8 + n)) (m * coefficient q (8 + n))
    )
    ∙ remainder-⊕ (p ⊕ m * coefficient p (8 + n)) (q ⊕ m * coefficient q (8 + n)) n

pub times-⊕ : (w a b : ℕ) → times w (a ⊕ b) ≡ times w a ⊕ times w b
unfolding times
times-⊕ w a b =
    ap (λ x. remainder x 7) (product_below-⊕ w a b 8) ∙ remainder-⊕ (product_below w a 8) (product_below w b 8) 7

-- ---- products of columns

-- row r of the product of the matrix f and the column a, b, c, d
abbrev pub product_of : (ℕ → ℕ → ℕ) → ℕ → ℕ → ℕ → ℕ → ℕ → ℕ
product_of f r a b c d = times (f r 0) a ⊕ times (f r 1) b ⊕ times (f r 2) c ⊕ times (f r 3) d

times-⊕4 : (w a b c d : ℕ) → times w (a ⊕ b ⊕ c ⊕ d) ≡ times w a ⊕ times w b ⊕ times w c ⊕ times w d
times-⊕4 w a b c d =
    times-⊕ w (a ⊕ b ⊕ c) d
    ∙ ap (λ x. x ⊕ times w d) (times-⊕ w (a ⊕ b) c ∙ ap (λ x. x ⊕ times w c) (times-⊕ w a b))

⊕4_interchange : (a b c d a' b' c' d' : ℕ)
    → (a ⊕ b ⊕ c ⊕ d) ⊕ (a' ⊕ b' ⊕ c' ⊕ d') ≡ (a ⊕ a') ⊕ (b ⊕ b') ⊕ (c ⊕ c') ⊕ (d ⊕ d')
⊕4_interchange a b c d a' b' c' d' =
    ⊕_interchange (a ⊕ b ⊕ c) d (a' ⊕ b' ⊕ c') d'
    ∙ ap (λ x. x ⊕ (d ⊕ d')) (⊕_interchange (a ⊕ b) c (a' ⊕ b') c' ∙ ap (λ x. x ⊕ (c ⊕ c')) (⊕_interchange a b a' b'))

-- row r, column j of the product of the matrix f and a matrix, whose entry i, j takes the octet x to
-- g i x
abbrev pub entry_of : (ℕ → ℕ → ℕ) → (ℕ → ℕ → ℕ) → ℕ → ℕ → ℕ
entry_of f g r x = product_of f r (g 0 x) (g 1 x) (g 2 x) (g 3 x)

-- a product of sums, one part of the column after the other: the part j takes its octet to row i by
-- g j i
pub product_of-sums : (f : ℕ → ℕ → ℕ) (ga gb gc gd : ℕ → ℕ → ℕ) (r a b c d : ℕ)
    → product_of f r (ga 0 a ⊕ gb 0 b ⊕ gc 0 c ⊕ gd 0 d) (ga 1 a ⊕ gb 1 b ⊕ gc 1 c ⊕ gd 1 d)
    (ga 2 a ⊕ gb 2 b ⊕ gc 2 c ⊕ gd 2 d) (ga 3 a ⊕ gb 3 b ⊕ gc 3 c ⊕ gd 3 d)
    ≡ entry_of f ga r a ⊕ entry_of f gb r b ⊕ entry_of f gc r c ⊕ entry_of f gd r d
product_of-sums f ga gb gc gd r a b c d =
    let row : (i : ℕ) → times (f r i) (ga i a ⊕ gb i b ⊕ gc i c ⊕ gd i d)
    ≡ times (f r i) (ga i a) ⊕ times (f r i) (gb i b) ⊕ times (f r i) (gc i c) ⊕ times (f r i) (gd i d) =
    λ i. times-⊕4 (f r i) (ga i a) (gb i b) (gc i c) (gd i d) in
    let t : (ℕ → ℕ → ℕ) → ℕ → ℕ → ℕ = λ g i x. times (f r i) (g i x) in
    (λ k. row 0 k ⊕ row 1 k ⊕ row 2 k ⊕ row 3 k)
    ∙ ap (λ x. x ⊕ (t ga 2 a ⊕ t gb 2 b ⊕ t gc 2 c ⊕ t gd 2 d) ⊕ (t ga 3 a ⊕ t gb 3 b ⊕ t gc 3 c ⊕ t gd 3 d))
    (⊕4_interchange (t ga 0 a) (t gb 0 b) (t gc 0 c) (t gd 0 d) (t ga 1 a) (t gb 1 b) (t gc 1 c) (t gd 1 d))
    ∙ ap (λ x. x ⊕ (t ga 3 a ⊕ t gb 3 b ⊕ t gc 3 c ⊕ t gd 3 d))
    (⊕4_interchange (t ga 0 a ⊕ t ga 1 a) (t gb 0 b ⊕ t gb 1 b) (t gc 0 c ⊕ t gc 1 c) (t gd 0 d ⊕ t gd 1 d) (t ga 2 a)
    (t gb 2 b) (t gc 2 c) (t gd 2 d))
    ∙ ⊕4_interchange (t ga 0 a ⊕ t ga 1 a ⊕ t ga 2 a) (t gb 0 b ⊕ t gb 1 b ⊕ t gb 2 b) (t gc 0 c ⊕ t gc 1 c ⊕ t gc 2 c)
    (t gd 0 d ⊕ t gd 1 d ⊕ t gd 2 d)
    (t ga 3 a) (t gb 3 b) (t gc 3 c) (t gd 3 d)
