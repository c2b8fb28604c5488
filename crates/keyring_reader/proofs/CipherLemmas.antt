-- The CBC of one block is a block, and no two blocks have the same.
use Rattle.std.proofs.Common.{◌≡◌, ℕ, zero, suc, ◌+◌, ◌*◌, ◌/◌, ◌%◌, ◌≤◌, ◌<◌, List, length, slice_index, sym, ap, subst, ◌∙◌, arith}
use Rattle.aes_modes.specs.Octet.{sub_byte}
use Rattle.aes_modes.specs.Cipher.{entry, IsBlock, xor_blocks, sub_bytes, shift_rows, last_round, key_expansion, rounds, cipher}
use Rattle.aes_modes.specs.Modes.{block_at, chained, cbc_of}
use Rattle.aes_modes.proofs.Computed.{sub_byte-lt}
use Rattle.aes_modes.proofs.Squares.{IsBlock_square, IsBlock_xor_blocks, IsBlock_key_expansion, xor_blocks_cancel, same_blocks}
use Rattle.aes_modes.proofs.Injective.{IsBlock_rounds, round_injective, last_round_injective}
use Rattle.aes_modes.proofs.Chaining.{block_at-at, length-block_at, length-cipher, chained_next, length-cbc_of, cbc_of-at}

-- ---- the cipher of a block

IsBlock_last : (s k : List ℕ) → IsBlock s → IsBlock k → IsBlock (last_round s k)
unfolding last_round shift_rows sub_bytes
IsBlock_last s k is is_key =
    let substituted : IsBlock (sub_bytes s) =
    IsBlock_square (λ r c. sub_byte (entry s r c)) (λ r c _ _. sub_byte-lt (entry s r c) (is.octets (r + 4 * c))) in
    IsBlock_xor_blocks (shift_rows (sub_bytes s)) k
    (IsBlock_square (λ r c. entry (sub_bytes s) r ((c + r) % 4))
    (λ r c _ _. substituted.octets (r + 4 * ((c + r) % 4))))
    is_key

IsBlock_cipher : (k b : List ℕ) → IsBlock k → IsBlock b → IsBlock (cipher k b)
unfolding cipher
IsBlock_cipher k b is_key is =
    IsBlock_last (rounds k b 9) (key_expansion k 10) (IsBlock_rounds k b is_key is 9 (omega arith))
    (IsBlock_key_expansion k is_key 10 (omega arith))

rounds_once : (k a b : List ℕ) → IsBlock k → IsBlock a → IsBlock b → (n : ℕ) → n ≤ 9
    → rounds k a n ≡ rounds k b n → a ≡ b
unfolding rounds
rounds_once k a b is_key first second zero few is =
    xor_blocks_cancel a b (key_expansion k 0) first.length second.length is
rounds_once k a b is_key first second (suc n) few is =
    rounds_once k a b is_key first second n (omega (arith, few))
    (round_injective (rounds k a n) (rounds k b n) (key_expansion k (suc n))
    (IsBlock_rounds k a is_key first n (omega (arith, few)))
    (IsBlock_rounds k b is_key second n (omega (arith, few))) is)

cipher_once : (k a b : List ℕ) → IsBlock k → IsBlock a → IsBlock b → cipher k a ≡ cipher k b → a ≡ b
unfolding cipher
cipher_once k a b is_key first second is =
    rounds_once k a b is_key first second 9 (omega arith)
    (last_round_injective (rounds k a 9) (rounds k b 9) (key_expansion k 10)
    (IsBlock_rounds k a is_key first 9 (omega arith)) (IsBlock_rounds k b is_key second 9 (omega arith)) is)

-- ---- the CBC of a block

own_block : (b : List ℕ) → IsBlock b → block_at b 0 ≡ b
own_block b is =
    same_blocks (block_at b 0) b (length-block_at b 0) is.length
    (λ i less. block_at-at b 0 i less ∙ (let place : 16 * 0 + i ≡ i = omega arith in ap (slice_index b) place))

first_chained : (k v b : List ℕ) → IsBlock b → chained k v b 1 ≡ cipher k (xor_blocks b v)
unfolding chained
first_chained k v b is = chained_next k v b 0 ∙ ap (λ (own : List ℕ). cipher k (xor_blocks own v)) (own_block b is)

at_place : (k v b : List ℕ) (i : ℕ) → i < 16
    → slice_index (chained k v b (i / 16 + 1)) (i % 16) ≡ slice_index (chained k v b 1) i
at_place k v b i less =
    let block : i / 16 + 1 ≡ 1 = omega (arith, less) in
    let place : i % 16 ≡ i = omega (arith, less) in
    λ j. slice_index (chained k v b (block j)) (place j)

cbc_is : (k v b : List ℕ) → IsBlock b → cbc_of k v b ≡ cipher k (xor_blocks b v)
cbc_is k v b is =
    let long : length b ≡ 16 = is.length in
    same_blocks (cbc_of k v b) (cipher k (xor_blocks b v)) (length-cbc_of k v b ∙ long)
    (length-cipher k (xor_blocks b v))
    (λ i less. cbc_of-at k v b i (omega (arith, less, long)) ∙ at_place k v b i less
    ∙ ap (λ (c : List ℕ). slice_index c i) (first_chained k v b is))

pub cbc_block : (k v b : List ℕ) → IsBlock k → IsBlock v → IsBlock b → IsBlock (cbc_of k v b)
cbc_block k v b is_key is_vector is =
    subst IsBlock (sym (cbc_is k v b is))
    (IsBlock_cipher k (xor_blocks b v) is_key (IsBlock_xor_blocks b v is is_vector))

pub cbc_once : (k v a b : List ℕ) → IsBlock k → IsBlock v → IsBlock a → IsBlock b → cbc_of k v a ≡ cbc_of k v b → a ≡ b
cbc_once k v a b is_key is_vector first second is =
    xor_blocks_cancel a b v first.length second.length
    (cipher_once k (xor_blocks a v) (xor_blocks b v) is_key (IsBlock_xor_blocks a v first is_vector)
    (IsBlock_xor_blocks b v second is_vector) (sym (cbc_is k v a first) ∙ is ∙ cbc_is k v b second))
