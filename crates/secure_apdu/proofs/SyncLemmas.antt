-- The XOR of two lists of octets.
use Rattle.std.proofs.Common.{◌≡◌, ℕ, List, [], ◌∷◌, length, get_or, refl, sym, ap, ◌∙◌, arith}
use Rattle.std.specs.Prelude.{bit_xor}
use Rattle.std.proofs.lemmas.Slice.Eq.{text_from_reads}
use lib.Bits.{xor_assoc, xor_self, xor_zero_l}
use Rattle.secure_apdu.specs.Sync.{xor_octets}

-- six octets by their places
pub six_octets : (s : List ℕ) → length s ≡ 6
    → s ≡ get_or s 0 0 ∷ get_or s 1 0 ∷ get_or s 2 0 ∷ get_or s 3 0 ∷ get_or s 4 0 ∷ get_or s 5 0 ∷ []
six_octets s six = text_from_reads s _ six (refl, (refl, (refl, (refl, (refl, (refl, tt))))))

pub xor_octets-six : (c n : List ℕ) → length c ≡ 6 → length n ≡ 6
    → bit_xor (get_or c 0 0) (get_or n 0 0) ∷ bit_xor (get_or c 1 0) (get_or n 1 0)
    ∷ bit_xor (get_or c 2 0) (get_or n 2 0)
    ∷ bit_xor (get_or c 3 0) (get_or n 3 0) ∷ bit_xor (get_or c 4 0) (get_or n 4 0)
    ∷ bit_xor (get_or c 5 0) (get_or n 5 0) ∷ []
    ≡ xor_octets c n
xor_octets-six c n six_c six_n = λ i. xor_octets (sym (six_octets c six_c) i) (sym (six_octets n six_n) i)

-- the XOR with the same octets twice gives the octets back
pub xor_octets-twice : (c n : List ℕ) → length c ≡ length n → xor_octets c (xor_octets c n) ≡ n
xor_octets-twice [] [] same = refl
xor_octets-twice [] (y ∷ ys) same = absurd (omega (arith, same))
xor_octets-twice (x ∷ xs) [] same = absurd (omega (arith, same))
xor_octets-twice (x ∷ xs) (y ∷ ys) same =
    let head : bit_xor x (bit_xor x y) ≡ y =
    sym (xor_assoc x x y) ∙ ap (λ (z : ℕ). bit_xor z y) (xor_self x) ∙ xor_zero_l y in
    λ i. head i ∷ xor_octets-twice xs ys (omega (arith, same)) i
