-- Statement: octets as elements of the finite field of FIPS 197 (section 4), and the substitution of an octet
-- (section 5.1.1). An octet is a number below 256 whose bit i is the coefficient of x^i, and the sum of two octets is
-- their XOR.
use Rattle.std.specs.Prelude.{ℕ, zero, suc, ◌+◌, ◌*◌, ◌/◌, ◌%◌, ◌^◌, ◌==◌, if◌then◌else◌, bit_xor}

-- the sum of two polynomials over two elements (4.1)
infixl 60 ◌⊕◌
abbrev pub ◌⊕◌ : ℕ → ℕ → ℕ
◌⊕◌ = bit_xor

-- the coefficient of x^i
abbrev pub coefficient : ℕ → ℕ → ℕ
coefficient a i = a / 2 ^ i % 2

-- the product of a and the terms of b below x^n
unfoldable pub product_below : ℕ → ℕ → ℕ → ℕ
product_below a b zero = 0
product_below a b (suc n) = product_below a b n ⊕ a * 2 ^ n * coefficient b n

-- what a polynomial below x^(8 + n) leaves modulo x^8 + x^4 + x^3 + x + 1
unfoldable pub remainder : ℕ → ℕ → ℕ
remainder p zero = p
remainder p (suc n) = remainder (p ⊕ 0x11b * 2 ^ n * coefficient p (8 + n)) n

-- the product of two octets (4.2)
unfoldable pub times : ℕ → ℕ → ℕ
times a b = remainder (product_below a b 8) 7

-- the octet below n whose product with x is 1, or 0 where there is none
unfoldable pub inverse_below : ℕ → ℕ → ℕ
inverse_below x zero = 0
inverse_below x (suc y) = if times x y == 1 then y else inverse_below x y

-- the multiplicative inverse of an octet, where 0 goes to 0
unfoldable pub inverse : ℕ → ℕ
inverse x = inverse_below x 256

-- bit i of the affine map of an octet
abbrev pub affine_bit : ℕ → ℕ → ℕ
affine_bit b i = (coefficient b i + coefficient b ((i + 4) % 8) + coefficient b ((i + 5) % 8)
    + coefficient b ((i + 6) % 8) + coefficient b ((i + 7) % 8) + coefficient 0x63 i) % 2

-- the number of the bits f 0, .., f (n - 1)
unfoldable pub number_below : (ℕ → ℕ) → ℕ → ℕ
number_below f zero = 0
number_below f (suc n) = number_below f n + f n * 2 ^ n

-- the affine map of an octet
unfoldable pub affine : ℕ → ℕ
affine b = number_below (affine_bit b) 8

-- the substitution of an octet: the affine map of its inverse
unfoldable pub sub_byte : ℕ → ℕ
sub_byte x = affine (inverse x)
