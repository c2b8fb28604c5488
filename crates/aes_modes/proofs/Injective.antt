-- No two blocks have the same cipher: each step of a round is injective on blocks of octets.
use Rattle.std.proofs.Common.{◌≡◌, ℕ, zero, suc, ◌+◌, ◌*◌, ◌%◌, ◌<◌, ◌≤◌, List, [], ◌∷◌, length, slice_index, sym, ap, ◌∙◌, arith, lit<}
use Rattle.std.proofs.lemmas.Nat.{xor_of_8}
use Rattle.aes_modes.specs.Octet.{sub_byte}
use Rattle.aes_modes.specs.Cipher.{entry, square, IsBlock, sub_bytes, shift_rows, mixed, mix_columns, round, last_round, key_expansion, rounds}
use Rattle.aes_modes.proofs.Octets.{square_entry}
use Rattle.aes_modes.proofs.Field.{product_of}
use Rattle.aes_modes.proofs.Computed.{sub_byte-lt, sub_byte_injective, times-lt, unfactor, row_of, row_of-0, row_of-1, row_of-2, row_of-3, unmixed}
use Rattle.aes_modes.proofs.Squares.{IsBlock_square, IsBlock_xor_blocks, IsBlock_key_expansion, xor_blocks_cancel}

-- ---- each step gives octets

IsBlock_sub_bytes : (s : List ℕ) → IsBlock s → IsBlock (sub_bytes s)
unfolding sub_bytes
IsBlock_sub_bytes s h =
    IsBlock_square (λ r c. sub_byte (entry s r c)) (λ r c _ _. sub_byte-lt (entry s r c) (h.octets (r + 4 * c)))

IsBlock_shift_rows : (s : List ℕ) → IsBlock s → IsBlock (shift_rows s)
unfolding shift_rows
IsBlock_shift_rows s h = IsBlock_square (λ r c. entry s r ((c + r) % 4)) (λ r c _ _. h.octets (r + 4 * ((c + r) % 4)))

mixed-lt : (r a b c d : ℕ) → r < 4 → a < 256 → b < 256 → c < 256 → d < 256 → mixed r a b c d < 256
mixed-lt r a b c d row la lb lc ld =
    xor_of_8 _ _
    (xor_of_8 _ _ (xor_of_8 _ _ (times-lt r 0 a row (lit< tt) la) (times-lt r 1 b row (lit< tt) lb))
    (times-lt r 2 c row (lit< tt) lc))
    (times-lt r 3 d row (lit< tt) ld)

IsBlock_mix_columns : (s : List ℕ) → IsBlock s → IsBlock (mix_columns s)
unfolding mix_columns
IsBlock_mix_columns s h =
    IsBlock_square (λ r c. mixed r (entry s 0 c) (entry s 1 c) (entry s 2 c) (entry s 3 c))
    (λ r c row _. mixed-lt r (entry s 0 c) (entry s 1 c) (entry s 2 c) (entry s 3 c) row
    (h.octets (0 + 4 * c)) (h.octets (1 + 4 * c)) (h.octets (2 + 4 * c)) (h.octets (3 + 4 * c)))

IsBlock_shifted : (s : List ℕ) → IsBlock s → IsBlock (shift_rows (sub_bytes s))
IsBlock_shifted s h = IsBlock_shift_rows (sub_bytes s) (IsBlock_sub_bytes s h)

pub IsBlock_rounds : (k b : List ℕ) → IsBlock k → IsBlock b → (n : ℕ) → n ≤ 9 → IsBlock (rounds k b n)
unfolding rounds round
IsBlock_rounds k b hk hb zero le =
    IsBlock_xor_blocks b (key_expansion k 0) hb (IsBlock_key_expansion k hk 0 (omega arith))
IsBlock_rounds k b hk hb (suc n) le =
    let s = rounds k b n in
    IsBlock_xor_blocks (mix_columns (shift_rows (sub_bytes s))) (key_expansion k (suc n))
    (IsBlock_mix_columns (shift_rows (sub_bytes s)) (IsBlock_shifted s (IsBlock_rounds k b hk hb n (omega arith))))
    (IsBlock_key_expansion k hk (suc n) (omega arith))

-- ---- each step is injective

-- two blocks with the same entries
square_injective : (s t : List ℕ) → length s ≡ 16 → length t ≡ 16 → square (entry s) ≡ square (entry t) → s ≡ t
square_injective s t ls lt e = square_entry s ls ∙ e ∙ sym (square_entry t lt)

-- a column comes back from its product
mixed_injective : (a b c d a' b' c' d' : ℕ) → a < 256 → b < 256 → c < 256 → d < 256 → a' < 256 → b' < 256 → c' < 256
    → d' < 256
    → mixed 0 a b c d ≡ mixed 0 a' b' c' d' → mixed 1 a b c d ≡ mixed 1 a' b' c' d'
    → mixed 2 a b c d ≡ mixed 2 a' b' c' d' → mixed 3 a b c d ≡ mixed 3 a' b' c' d'
    → (a ≡ a') × (b ≡ b') × (c ≡ c') × (d ≡ d')
mixed_injective a b c d a' b' c' d' la lb lc ld la' lb' lc' ld' e0 e1 e2 e3 =
    let row : (r : ℕ) → r < 4 → row_of r a b c d ≡ row_of r a' b' c' d' =
    λ r lt. sym (unmixed r a b c d lt la lb lc ld) ∙ (λ i. product_of unfactor r (e0 i) (e1 i) (e2 i) (e3 i))
    ∙ unmixed r a' b' c' d' lt la' lb' lc' ld' in (
      sym (row_of-0 a b c d) ∙ row 0 (lit< tt) ∙ row_of-0 a' b' c' d',
      sym (row_of-1 a b c d) ∙ row 1 (lit< tt) ∙ row_of-1 a' b' c' d',
      sym (row_of-2 a b c d) ∙ row 2 (lit< tt) ∙ row_of-2 a' b' c' d',
      sym (row_of-3 a b c d) ∙ row 3 (lit< tt) ∙ row_of-3 a' b' c' d',
    )

mix_columns_injective : (s t : List ℕ) → IsBlock s → IsBlock t → mix_columns s ≡ mix_columns t → s ≡ t
unfolding mix_columns
mix_columns_injective s t hs ht e =
    let at : (i : ℕ) → slice_index (mix_columns s) i ≡ slice_index (mix_columns t) i =
    λ i. ap (λ (b : List ℕ). slice_index b i) e in
    let column : (c : ℕ)
    → mixed 0 (entry s 0 c) (entry s 1 c) (entry s 2 c) (entry s 3 c)
    ≡ mixed 0 (entry t 0 c) (entry t 1 c) (entry t 2 c) (entry t 3 c)
    → mixed 1 (entry s 0 c) (entry s 1 c) (entry s 2 c) (entry s 3 c)
    ≡ mixed 1 (entry t 0 c) (entry t 1 c) (entry t 2 c) (entry t 3 c)
    → mixed 2 (entry s 0 c) (entry s 1 c) (entry s 2 c) (entry s 3 c)
    ≡ mixed 2 (entry t 0 c) (entry t 1 c) (entry t 2 c) (entry t 3 c)
    → mixed 3 (entry s 0 c) (entry s 1 c) (entry s 2 c) (entry s 3 c)
    ≡ mixed 3 (entry t 0 c) (entry t 1 c) (entry t 2 c) (entry t 3 c)
    → (entry s 0 c ≡ entry t 0 c) × (entry s 1 c ≡ entry t 1 c) × (entry s 2 c ≡ entry t 2 c)
    × (entry s 3 c ≡ entry t 3 c) =
    λ c. mixed_injective (entry s 0 c) (entry s 1 c) (entry s 2 c) (entry s 3 c) (entry t 0 c) (entry t 1 c)
    (entry t 2 c) (entry t 3 c)
    (hs.octets (0 + 4 * c)) (hs.octets (1 + 4 * c)) (hs.octets (2 + 4 * c)) (hs.octets (3 + 4 * c))
    (ht.octets (0 + 4 * c)) (ht.octets (1 + 4 * c)) (ht.octets (2 + 4 * c)) (ht.octets (3 + 4 * c)) in
    let column0 = column 0 (at 0) (at 1) (at 2) (at 3) in
    let column1 = column 1 (at 4) (at 5) (at 6) (at 7) in
    let column2 = column 2 (at 8) (at 9) (at 10) (at 11) in
    let column3 = column 3 (at 12) (at 13) (at 14) (at 15) in
    square_injective s t hs.length ht.length (λ i.
    column0.0 i ∷ column0.1 i ∷ column0.2 i ∷ column0.3 i
    ∷ column1.0 i ∷ column1.1 i ∷ column1.2 i ∷ column1.3 i
    ∷ column2.0 i ∷ column2.1 i ∷ column2.2 i ∷ column2.3 i
    ∷ column3.0 i ∷ column3.1 i ∷ column3.2 i ∷ column3.3 i ∷ [])

shift_rows_injective : (s t : List ℕ) → IsBlock s → IsBlock t → shift_rows s ≡ shift_rows t → s ≡ t
unfolding shift_rows
shift_rows_injective s t hs ht e =
    let at : (i : ℕ) → slice_index (shift_rows s) i ≡ slice_index (shift_rows t) i =
    λ i. ap (λ (b : List ℕ). slice_index b i) e in
    square_injective s t hs.length ht.length (λ i.
    at 0 i ∷ at 13 i ∷ at 10 i ∷ at 7 i
    ∷ at 4 i ∷ at 1 i ∷ at 14 i ∷ at 11 i
    ∷ at 8 i ∷ at 5 i ∷ at 2 i ∷ at 15 i
    ∷ at 12 i ∷ at 9 i ∷ at 6 i ∷ at 3 i ∷ [])

sub_bytes_injective : (s t : List ℕ) → IsBlock s → IsBlock t → sub_bytes s ≡ sub_bytes t → s ≡ t
unfolding sub_bytes
sub_bytes_injective s t hs ht e =
    let at : (i : ℕ) → sub_byte (slice_index s i) ≡ sub_byte (slice_index t i) → slice_index s i ≡ slice_index t i =
    λ i. sub_byte_injective (slice_index s i) (slice_index t i) (hs.octets i) (ht.octets i) in
    let image : (i : ℕ) → slice_index (sub_bytes s) i ≡ slice_index (sub_bytes t) i =
    λ i. ap (λ (b : List ℕ). slice_index b i) e in
    square_injective s t hs.length ht.length (λ i.
    at 0 (image 0) i ∷ at 1 (image 1) i ∷ at 2 (image 2) i ∷ at 3 (image 3) i
    ∷ at 4 (image 4) i ∷ at 5 (image 5) i ∷ at 6 (image 6) i ∷ at 7 (image 7) i
    ∷ at 8 (image 8) i ∷ at 9 (image 9) i ∷ at 10 (image 10) i ∷ at 11 (image 11) i
    ∷ at 12 (image 12) i ∷ at 13 (image 13) i ∷ at 14 (image 14) i ∷ at 15 (image 15) i ∷ [])

shifted_injective : (s t : List ℕ) → IsBlock s → IsBlock t → shift_rows (sub_bytes s) ≡ shift_rows (sub_bytes t) → s ≡ t
shifted_injective s t hs ht e =
    sub_bytes_injective s t hs ht
    (shift_rows_injective (sub_bytes s) (sub_bytes t) (IsBlock_sub_bytes s hs) (IsBlock_sub_bytes t ht) e)

pub last_round_injective : (s t k : List ℕ) → IsBlock s → IsBlock t → last_round s k ≡ last_round t k → s ≡ t
unfolding last_round
last_round_injective s t k hs ht e =
    shifted_injective s t hs ht
    (xor_blocks_cancel (shift_rows (sub_bytes s)) (shift_rows (sub_bytes t)) k (IsBlock_shifted s hs).length
    (IsBlock_shifted t ht).length e)

pub round_injective : (s t k : List ℕ) → IsBlock s → IsBlock t → round s k ≡ round t k → s ≡ t
unfolding round
round_injective s t k hs ht e =
    let u = shift_rows (sub_bytes s) in
    let v = shift_rows (sub_bytes t) in
    let hu = IsBlock_shifted s hs in
    let hv = IsBlock_shifted t ht in
    shifted_injective s t hs ht
    (mix_columns_injective u v hu hv
    (xor_blocks_cancel (mix_columns u) (mix_columns v) k (IsBlock_mix_columns u hu).length
    (IsBlock_mix_columns v hv).length e))
