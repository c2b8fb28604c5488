-- The octets of a word: of the sum of two, of four octets put together, and of a next round key.
use Rattle.std.proofs.Common.{◌≡◌, ℕ, ◌+◌, ◌-◌, ◌*◌, ◌/◌, ◌%◌, ◌^◌, ◌<◌, List, [], ◌∷◌, bit_or, length, slice_index, refl, sym, ap, ◌∙◌, arith}
use Rattle.std.proofs.lemmas.Nat.{xor_shr, xor_mod}
use lib.Bits.{or_shifted}
use Rattle.std.proofs.lemmas.List.FromFn.{fill_by_all}
use Rattle.std.specs.Int.{w32, from_be_bytes, rotate_left}
use Rattle.aes_modes.specs.Octet.{◌⊕◌}
use Rattle.aes_modes.specs.Cipher.{entry, square, IsBlock, xor_blocks}
use Rattle.aes_modes.specs.Words.{octet_of, block_of, column_of, columns_of}

remainder-lt : (n : ℕ) → n % 2 ^ 8 < 256
remainder-lt n = omega arith

pub octet_of-lt : (word r : ℕ) → octet_of word r < 256
octet_of-lt word r = remainder-lt (word / 2 ^ (24 - 8 * r))

-- ---- sums

pub octet_of-⊕ : (a b r : ℕ) → octet_of (a ⊕ b) r ≡ octet_of a r ⊕ octet_of b r
octet_of-⊕ a b r =
    ap (λ x. x % 2 ^ 8) (xor_shr a b (24 - 8 * r)) ∙ xor_mod (a / 2 ^ (24 - 8 * r)) (b / 2 ^ (24 - 8 * r)) 8

pub octet_of-⊕4 : (a b c d r : ℕ) → octet_of (a ⊕ b ⊕ c ⊕ d) r
    ≡ octet_of a r ⊕ octet_of b r ⊕ octet_of c r ⊕ octet_of d r
octet_of-⊕4 a b c d r =
    octet_of-⊕ (a ⊕ b ⊕ c) d r
    ∙ ap (λ x. x ⊕ octet_of d r) (octet_of-⊕ (a ⊕ b) c r ∙ ap (λ x. x ⊕ octet_of c r) (octet_of-⊕ a b r))

-- the sum of two blocks of words
pub block_of-⊕ : (s k : List ℕ)
    → block_of ((slice_index s 0 ⊕ slice_index k 0) ∷ (slice_index s 1 ⊕ slice_index k 1)
    ∷ (slice_index s 2 ⊕ slice_index k 2) ∷ (slice_index s 3 ⊕ slice_index k 3) ∷ [])
    ≡ xor_blocks (block_of s) (block_of k)
unfolding xor_blocks
block_of-⊕ s k = λ i.
    octet_of-⊕ (slice_index s 0) (slice_index k 0) 0 i ∷ octet_of-⊕ (slice_index s 0) (slice_index k 0) 1 i
    ∷ octet_of-⊕ (slice_index s 0) (slice_index k 0) 2 i ∷ octet_of-⊕ (slice_index s 0) (slice_index k 0) 3 i
    ∷ octet_of-⊕ (slice_index s 1) (slice_index k 1) 0 i ∷ octet_of-⊕ (slice_index s 1) (slice_index k 1) 1 i
    ∷ octet_of-⊕ (slice_index s 1) (slice_index k 1) 2 i ∷ octet_of-⊕ (slice_index s 1) (slice_index k 1) 3 i
    ∷ octet_of-⊕ (slice_index s 2) (slice_index k 2) 0 i ∷ octet_of-⊕ (slice_index s 2) (slice_index k 2) 1 i
    ∷ octet_of-⊕ (slice_index s 2) (slice_index k 2) 2 i ∷ octet_of-⊕ (slice_index s 2) (slice_index k 2) 3 i
    ∷ octet_of-⊕ (slice_index s 3) (slice_index k 3) 0 i ∷ octet_of-⊕ (slice_index s 3) (slice_index k 3) 1 i
    ∷ octet_of-⊕ (slice_index s 3) (slice_index k 3) 2 i ∷ octet_of-⊕ (slice_index s 3) (slice_index k 3) 3 i ∷ []

-- ---- octets put together

pub octet_of-from_be_bytes : (word a b c d : ℕ) → a < 256 → b < 256 → c < 256 → d < 256
    → word ≡ from_be_bytes w32 (a ∷ b ∷ c ∷ d ∷ [])
    → (octet_of word 0 ≡ a) × (octet_of word 1 ≡ b) × (octet_of word 2 ≡ c) × (octet_of word 3 ≡ d)
octet_of-from_be_bytes word a b c d la lb lc ld e = (omega arith, omega arith, omega arith, omega arith)

-- a list of 16 numbers is the square of its entries
pub square_entry : (b : List ℕ) → length b ≡ 16 → b ≡ square (entry b)
square_entry b long = fill_by_all (λ i. slice_index b i) b 16 0 long (λ k lt. refl)

-- the words of a block give back its octets
pub block_of-columns_of : (b : List ℕ) → IsBlock b → block_of (columns_of b) ≡ b
block_of-columns_of b h =
    let at : (c : ℕ) → (octet_of (column_of b c) 0 ≡ entry b 0 c) × (octet_of (column_of b c) 1 ≡ entry b 1 c)
    × (octet_of (column_of b c) 2 ≡ entry b 2 c) × (octet_of (column_of b c) 3 ≡ entry b 3 c) =
    λ c. octet_of-from_be_bytes (column_of b c) (entry b 0 c) (entry b 1 c) (entry b 2 c) (entry b 3 c)
    (h.octets (0 + 4 * c)) (h.octets (1 + 4 * c)) (h.octets (2 + 4 * c)) (h.octets (3 + 4 * c)) refl in
    let octets : block_of (columns_of b) ≡ square (entry b) = λ i.
    (at 0).0 i ∷ (at 0).1 i ∷ (at 0).2 i ∷ (at 0).3 i
    ∷ (at 1).0 i ∷ (at 1).1 i ∷ (at 1).2 i ∷ (at 1).3 i
    ∷ (at 2).0 i ∷ (at 2).1 i ∷ (at 2).2 i ∷ (at 2).3 i
    ∷ (at 3).0 i ∷ (at 3).1 i ∷ (at 3).2 i ∷ (at 3).3 i ∷ [] in
    octets ∙ sym (square_entry b h.length)

word_of_octets : (word : ℕ) → word < 2 ^ 32 → word ≡ from_be_bytes w32
    (octet_of word 0 ∷ octet_of word 1 ∷ octet_of word 2 ∷ octet_of word 3 ∷ [])
word_of_octets word lt = omega arith

-- the octets of four words give back the words
pub columns_of-block_of : (a b c d : ℕ) → a < 2 ^ 32 → b < 2 ^ 32 → c < 2 ^ 32 → d < 2 ^ 32
    → a ∷ b ∷ c ∷ d ∷ [] ≡ columns_of (block_of (a ∷ b ∷ c ∷ d ∷ []))
columns_of-block_of a b c d la lb lc ld =
    λ i. word_of_octets a la i ∷ word_of_octets b lb i ∷ word_of_octets c lc i ∷ word_of_octets d ld i ∷ []

-- ---- the next round key

turned-sum : (word : ℕ) → word < 2 ^ 32 → rotate_left w32 word 8 ≡ word % 2 ^ 24 * 2 ^ 8 + word / 2 ^ 24
turned-sum word fits =
    let low : word * 2 ^ 8 % 2 ^ 32 ≡ word % 2 ^ 24 * 2 ^ 8 = omega arith in
    ap (λ x. bit_or x (word / 2 ^ 24)) low ∙ or_shifted (word % 2 ^ 24) 8 (word / 2 ^ 24) (omega arith)

-- a column that is turned by one row
pub octet_of-turned : (word turned : ℕ) → word < 2 ^ 32 → turned ≡ rotate_left w32 word 8
    → (octet_of turned 0 ≡ octet_of word 1) × (octet_of turned 1 ≡ octet_of word 2)
    × (octet_of turned 2 ≡ octet_of word 3) × (octet_of turned 3 ≡ octet_of word 0)
octet_of-turned word turned fits e =
    let sum : turned ≡ word % 2 ^ 24 * 2 ^ 8 + word / 2 ^ 24 = e ∙ turned-sum word fits in
    (omega (arith, sum), omega (arith, sum), omega (arith, sum), omega (arith, sum))

-- a round constant is in row 0
pub octet_of-constant : (constant word : ℕ) → constant < 256 → word ≡ constant
    → (octet_of (word * 2 ^ 24 % 2 ^ 32) 0 ≡ constant) × (octet_of (word * 2 ^ 24 % 2 ^ 32) 1 ≡ 0)
    × (octet_of (word * 2 ^ 24 % 2 ^ 32) 2 ≡ 0) × (octet_of (word * 2 ^ 24 % 2 ^ 32) 3 ≡ 0)
octet_of-constant constant word lt e = (omega arith, omega arith, omega arith, omega arith)

-- row r of four columns, of which each has the one before it added
pub octet_of-columns : (k : List ℕ) (added r first : ℕ) → octet_of added r ≡ first
    → (octet_of (slice_index k 0 ⊕ added) r ≡ octet_of (slice_index k 0) r ⊕ first)
    × (octet_of (slice_index k 1 ⊕ (slice_index k 0 ⊕ added)) r
    ≡ octet_of (slice_index k 1) r ⊕ (octet_of (slice_index k 0) r ⊕ first))
    × (octet_of (slice_index k 2 ⊕ (slice_index k 1 ⊕ (slice_index k 0 ⊕ added))) r
    ≡ octet_of (slice_index k 2) r ⊕ (octet_of (slice_index k 1) r ⊕ (octet_of (slice_index k 0) r ⊕ first)))
    × (octet_of (slice_index k 3 ⊕ (slice_index k 2 ⊕ (slice_index k 1 ⊕ (slice_index k 0 ⊕ added)))) r
    ≡ octet_of (slice_index k 3) r ⊕ (octet_of (slice_index k 2) r ⊕
    (octet_of (slice_index k 1) r ⊕ (octet_of (slice_index k 0) r ⊕ first))))
octet_of-columns k added r first e =
    let next : (c x y : ℕ) → octet_of x r ≡ y → octet_of (slice_index k c ⊕ x) r ≡ octet_of (slice_index k c) r ⊕ y =
    λ c x y h. octet_of-⊕ (slice_index k c) x r ∙ ap (λ z. octet_of (slice_index k c) r ⊕ z) h in
    let e0 = next 0 added first e in
    let e1 = next 1 _ _ e0 in
    let e2 = next 2 _ _ e1 in
    (e0, e1, e2, next 3 _ _ e2)
