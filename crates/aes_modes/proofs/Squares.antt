-- Blocks: their octets, sums of blocks, and the round keys.
use Rattle.std.proofs.Common.{◌≡◌, ℕ, zero, suc, ◌+◌, ◌*◌, ◌%◌, ◌<◌, ◌≤◌, ◌==◌, if◌then◌else◌, Bool, true, false, List, [], ◌∷◌, length, slice_index, slice_index_or, refl, sym, ap, ◌∙◌, arith, lit<}
use Rattle.std.proofs.lemmas.Nat.{xor_comm, xor_of_8}
use Rattle.std.proofs.lemmas.List.FromFn.{get_or-map-range_with_len}
use Rattle.std.proofs.lemmas.Grind.{same_number_lists}
use Rattle.aes_modes.proofs.Field.{⊕_twice}
use Rattle.aes_modes.specs.Octet.{◌⊕◌}
use Rattle.aes_modes.specs.Cipher.{entry, square, IsBlock, xor_blocks, round_constant, next_entry, key_expansion}
use Rattle.aes_modes.specs.Words.{octet_of, block_of, columns_of, schedule_of}
use Rattle.aes_modes.proofs.Octets.{octet_of-lt, block_of-columns_of}
use Rattle.aes_modes.proofs.Computed.{sub_byte-lt, round_constant-lt}

-- each number is an octet
record AllFit (s : List ℕ) : Type 0 where
  octets : (i : ℕ) → slice_index s i < 256

fits_cons : {x : ℕ} {xs : List ℕ} → x < 256 → AllFit xs → AllFit (x ∷ xs)
fits_cons {x} {xs} head tail = record {
  octets = λ i. elim i as (λ j. slice_index (x ∷ xs) j < 256) [
    | zero ↦ head
    | suc j ↦ tail.octets j
  ];
}

fits_nil : AllFit []
fits_nil = record { octets = λ i. lit< tt }

pub IsBlock_square : (f : ℕ → ℕ → ℕ) → ((r c : ℕ) → r < 4 → c < 4 → f r c < 256) → IsBlock (square f)
IsBlock_square f h =
    let fit : AllFit (square f) =
    fits_cons (h 0 0 (lit< tt) (lit< tt)) (fits_cons (h 1 0 (lit< tt) (lit< tt))
    (fits_cons (h 2 0 (lit< tt) (lit< tt)) (fits_cons (h 3 0 (lit< tt) (lit< tt)) (
    fits_cons (h 0 1 (lit< tt) (lit< tt)) (fits_cons (h 1 1 (lit< tt) (lit< tt))
    (fits_cons (h 2 1 (lit< tt) (lit< tt)) (fits_cons (h 3 1 (lit< tt) (lit< tt)) (
    fits_cons (h 0 2 (lit< tt) (lit< tt)) (fits_cons (h 1 2 (lit< tt) (lit< tt))
    (fits_cons (h 2 2 (lit< tt) (lit< tt)) (fits_cons (h 3 2 (lit< tt) (lit< tt)) (
    fits_cons (h 0 3 (lit< tt) (lit< tt)) (fits_cons (h 1 3 (lit< tt) (lit< tt))
    (fits_cons (h 2 3 (lit< tt) (lit< tt)) (fits_cons (h 3 3 (lit< tt) (lit< tt)) (
    fits_nil)))))))))))))))) in
    record { length = refl; octets = fit.octets }

pub IsBlock_block_of : (s : List ℕ) → IsBlock (block_of s)
IsBlock_block_of s = IsBlock_square (λ r c. octet_of (slice_index s c) r) (λ r c _ _. octet_of-lt (slice_index s c) r)

-- ---- the round keys

constant-lt : (b : Bool) (x : ℕ) → x < 256 → (if b then x else 0) < 256
constant-lt true x h = h
constant-lt false x h = lit< tt

next_entry-lt : (k : List ℕ) (constant r : ℕ) → IsBlock k → constant < 256 → (c : ℕ) → next_entry k constant r c < 256
unfolding next_entry
next_entry-lt k constant r h lt zero =
    xor_of_8 _ _ (h.octets (r + 4 * 0))
    (xor_of_8 _ _ (sub_byte-lt _ (h.octets ((r + 1) % 4 + 4 * 3))) (constant-lt (r == 0) constant lt))
next_entry-lt k constant r h lt (suc c) = xor_of_8 _ _ (h.octets (r + 4 * suc c)) (next_entry-lt k constant r h lt c)

pub IsBlock_key_expansion : (k : List ℕ) → IsBlock k → (n : ℕ) → n ≤ 10 → IsBlock (key_expansion k n)
unfolding key_expansion
IsBlock_key_expansion k h zero le = h
IsBlock_key_expansion k h (suc n) le =
    IsBlock_square (next_entry (key_expansion k n) (round_constant n))
    (λ r c _ _. next_entry-lt (key_expansion k n) (round_constant n) r (IsBlock_key_expansion k h n (omega arith))
    (round_constant-lt n (omega arith)) c)

-- a key's words are those of its round keys
pub round_key_at : (words : List (List ℕ)) (k : List ℕ) → words ≡ schedule_of (block_of (slice_index_or words 0 []))
    → block_of (slice_index_or words 0 []) ≡ k → (n : ℕ) → n ≤ 10
    → block_of (slice_index_or words n []) ≡ key_expansion k n
unfolding schedule_of
round_key_at words k whole first n le =
    let key = block_of (slice_index_or words 0 []) in
    let at : slice_index_or words n [] ≡ columns_of (key_expansion key n) =
    ap (λ (ws : List (List ℕ)). slice_index_or ws n []) whole
    ∙ get_or-map-range_with_len (λ m. columns_of (key_expansion key m)) 0 11 n n [] (omega arith) (omega arith) in
    ap block_of at
    ∙ block_of-columns_of (key_expansion key n) (IsBlock_key_expansion key
    (IsBlock_block_of (slice_index_or words 0 [])) n le)
    ∙ ap (λ (b : List ℕ). key_expansion b n) first

-- ---- sums of blocks

pub xor_blocks-at : (a b : List ℕ) (i : ℕ) → i < 16 → slice_index (xor_blocks a b) i ≡ slice_index a i ⊕ slice_index b i
unfolding xor_blocks
xor_blocks-at a b i lt = get_or-map-range_with_len (λ j. slice_index a j ⊕ slice_index b j) 0 16 i i 0 lt (omega arith)

pub length-xor_blocks : (a b : List ℕ) → length (xor_blocks a b) ≡ 16
unfolding xor_blocks
length-xor_blocks a b = refl

-- two lists of 16 numbers with the same numbers at each place
pub same_blocks : (a b : List ℕ) → length a ≡ 16 → length b ≡ 16
    → ((i : ℕ) → i < 16 → slice_index a i ≡ slice_index b i) → a ≡ b
same_blocks a b la lb h = same_number_lists a b (la ∙ sym lb) (λ i lt. h i (omega arith))

pub xor_blocks_comm : (a b : List ℕ) → xor_blocks a b ≡ xor_blocks b a
xor_blocks_comm a b =
    same_blocks (xor_blocks a b) (xor_blocks b a) (length-xor_blocks a b) (length-xor_blocks b a)
    (λ i lt. xor_blocks-at a b i lt ∙ xor_comm (slice_index a i) (slice_index b i) ∙ sym (xor_blocks-at b a i lt))

pub xor_blocks_twice : (a b : List ℕ) → length a ≡ 16 → xor_blocks (xor_blocks a b) b ≡ a
xor_blocks_twice a b la =
    same_blocks (xor_blocks (xor_blocks a b) b) a (length-xor_blocks (xor_blocks a b) b) la
    (λ i lt. xor_blocks-at (xor_blocks a b) b i lt ∙ ap (λ x. x ⊕ slice_index b i) (xor_blocks-at a b i lt)
    ∙ ⊕_twice (slice_index a i) (slice_index b i))

pub xor_blocks_cancel : (a b k : List ℕ) → length a ≡ 16 → length b ≡ 16 → xor_blocks a k ≡ xor_blocks b k → a ≡ b
xor_blocks_cancel a b k la lb e =
    sym (xor_blocks_twice a k la) ∙ ap (λ x. xor_blocks x k) e ∙ xor_blocks_twice b k lb

pub IsBlock_xor_blocks : (a b : List ℕ) → IsBlock a → IsBlock b → IsBlock (xor_blocks a b)
unfolding xor_blocks
IsBlock_xor_blocks a b ha hb =
    IsBlock_square (λ r c. entry a r c ⊕ entry b r c) (λ r c _ _. xor_of_8 _ _ (ha.octets (r + 4 * c))
    (hb.octets (r + 4 * c)))
