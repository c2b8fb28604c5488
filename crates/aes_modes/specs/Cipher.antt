-- Statement: AES-128 (FIPS 197). A block, a state or a round key is a list of 16 octets in the standard's order: the
-- octet in row r and column c of the square is at place r + 4 c (3.4).
use Rattle.std.specs.Prelude.{◌≡◌, ℕ, zero, suc, ◌+◌, ◌-◌, ◌*◌, ◌%◌, ◌<◌, ◌==◌, if◌then◌else◌, List, [], ◌∷◌, length, slice_index}
use Rattle.aes_modes.specs.Octet.{◌⊕◌, times, sub_byte}

-- the octet in row r and column c
abbrev pub entry : List ℕ → ℕ → ℕ → ℕ
entry s r c = slice_index s (r + 4 * c)

-- the block whose octet in row r and column c is f r c
abbrev pub square : (ℕ → ℕ → ℕ) → List ℕ
square f = f 0 0 ∷ f 1 0 ∷ f 2 0 ∷ f 3 0 ∷ f 0 1 ∷ f 1 1 ∷ f 2 1 ∷ f 3 1
    ∷ f 0 2 ∷ f 1 2 ∷ f 2 2 ∷ f 3 2 ∷ f 0 3 ∷ f 1 3 ∷ f 2 3 ∷ f 3 3 ∷ []

-- each number of the list is an octet
abbrev pub AreOctets : List ℕ → Type 0
AreOctets b = (i : ℕ) → slice_index b i < 256

-- sixteen octets
pub record IsBlock (b : List ℕ) : Type 0 where
  pub length : length b ≡ 16
  pub octets : AreOctets b

-- the XOR of two blocks; AddRoundKey, where one is a round key (5.1.4)
unfoldable pub xor_blocks : List ℕ → List ℕ → List ℕ
xor_blocks a b = square (λ r c. entry a r c ⊕ entry b r c)

-- SubBytes (5.1.1)
unfoldable pub sub_bytes : List ℕ → List ℕ
sub_bytes s = square (λ r c. sub_byte (entry s r c))

-- ShiftRows: row r moves r places to the left (5.1.2)
unfoldable pub shift_rows : List ℕ → List ℕ
shift_rows s = square (λ r c. entry s r ((c + r) % 4))

-- the factor of row j of a column in row r of its product: each row has the octets 2, 3, 1, 1, and
-- begins one place further to the right than the row above (5.1.3)
abbrev pub factor : ℕ → ℕ → ℕ
factor r j = slice_index (2 ∷ 3 ∷ 1 ∷ 1 ∷ []) ((j + 4 - r) % 4)

-- row r of the product of the column a, b, c, d
abbrev pub mixed : ℕ → ℕ → ℕ → ℕ → ℕ → ℕ
mixed r a b c d = times (factor r 0) a ⊕ times (factor r 1) b ⊕ times (factor r 2) c ⊕ times (factor r 3) d

-- MixColumns (5.1.3)
unfoldable pub mix_columns : List ℕ → List ℕ
mix_columns s = square (λ r c. mixed r (entry s 0 c) (entry s 1 c) (entry s 2 c) (entry s 3 c))

-- one of the first nine rounds (5.1)
unfoldable pub round : List ℕ → List ℕ → List ℕ
round s k = xor_blocks (mix_columns (shift_rows (sub_bytes s))) k

-- the tenth round, without MixColumns (5.1)
unfoldable pub last_round : List ℕ → List ℕ → List ℕ
last_round s k = xor_blocks (shift_rows (sub_bytes s)) k

-- the octet of the round constant of round key n + 1: x^n (5.2)
unfoldable pub round_constant : ℕ → ℕ
round_constant zero = 1
round_constant (suc n) = times 2 (round_constant n)

-- row r, column c of the round key after the round key k: each column is the XOR of the same column
-- of k and of the column before it, which for the first column is the last one of k, rotated by a
-- row, substituted, and with the round constant added in row 0 (5.2)
unfoldable pub next_entry : List ℕ → ℕ → ℕ → ℕ → ℕ
next_entry k constant r zero =
    entry k r 0 ⊕ (sub_byte (entry k ((r + 1) % 4) 3) ⊕ (if r == 0 then constant else 0))
next_entry k constant r (suc c) = entry k r (suc c) ⊕ next_entry k constant r c

-- round key n of the key expansion: the key itself is round key 0 (5.2)
unfoldable pub key_expansion : List ℕ → ℕ → List ℕ
key_expansion k zero = k
key_expansion k (suc n) = square (next_entry (key_expansion k n) (round_constant n))

-- the state after n of the first nine rounds on the block b
unfoldable pub rounds : List ℕ → List ℕ → ℕ → List ℕ
rounds k b zero = xor_blocks b (key_expansion k 0)
rounds k b (suc n) = round (rounds k b n) (key_expansion k (suc n))

-- AES-128: the cipher of the block b under the key k (5.1)
unfoldable pub cipher : List ℕ → List ℕ → List ℕ
cipher k b = last_round (rounds k b 9) (key_expansion k 10)
