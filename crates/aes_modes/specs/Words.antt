-- Plumbing: a block as four words, one for each column, with row 0 in the highest octet.
use Rattle.std.specs.Prelude.{ℕ, ◌-◌, ◌*◌, ◌/◌, ◌%◌, ◌^◌, List, [], ◌∷◌, slice_index, map}
use Rattle.std.specs.Int.{w32, from_be_bytes}
use Rattle.std.specs.List.{range_with_len}
use Rattle.aes_modes.specs.Cipher.{entry, square, key_expansion}

-- row r of a column
abbrev pub octet_of : ℕ → ℕ → ℕ
octet_of word r = word / 2 ^ (24 - 8 * r) % 2 ^ 8

-- the block of four columns
abbrev pub block_of : List ℕ → List ℕ
block_of words = square (λ r c. octet_of (slice_index words c) r)

-- the word of column c of a block
abbrev pub column_of : List ℕ → ℕ → ℕ
column_of b c = from_be_bytes w32 (entry b 0 c ∷ entry b 1 c ∷ entry b 2 c ∷ entry b 3 c ∷ [])

-- the four columns of a block
abbrev pub columns_of : List ℕ → List ℕ
columns_of b = column_of b 0 ∷ column_of b 1 ∷ column_of b 2 ∷ column_of b 3 ∷ []

-- the columns of the eleven round keys of a key
unfoldable pub schedule_of : List ℕ → List (List ℕ)
schedule_of k = map (λ n. columns_of (key_expansion k n)) (range_with_len 0 11)
