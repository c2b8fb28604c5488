-- Blocks of a list of octets, and the chain of cipher blocks over them.
use Rattle.std.proofs.Common.{◌≡◌, ℕ, zero, suc, ◌+◌, ◌-◌, ◌*◌, ◌/◌, ◌%◌, ◌<◌, ◌≤◌, ◌≢◌, List, [], ◌∷◌, ◌++◌, length, take, drop, replicate, slice_index, slice_set, refl, sym, ap, ◌∙◌, inl, inr, arith, length-append, length-drop, length-take-le}
use Rattle.std.proofs.lemmas.List.{get_or_past, get_or-set_same, get_or-set_other, length-set, get_or_append_left, get_or_push, get_or-append_right, get_or-take, get_or-drop, take-take, take-append-drop, take_rest, append_assoc, length-replicate, get_or-replicate}
use Rattle.std.proofs.lemmas.List.FromFn.{get_or-map-range_with_len, length-map-range_with_len}
use Rattle.std.proofs.lemmas.Slice.{between_is}
use Rattle.std.proofs.lemmas.Bool.{cases_lt, cases_eq}
use lib.Bits.{xor_zero_l, xor_comm}
use Rattle.aes_modes.specs.Octet.{◌⊕◌}
use Rattle.aes_modes.specs.Cipher.{AreOctets, IsBlock, xor_blocks, last_round, cipher}
use Rattle.aes_modes.specs.Modes.{block_at, chained, cbc_of, zero_block, padded, mac_of, MacState, WasFed}
use Rattle.aes_modes.proofs.Squares.{IsBlock_square, xor_blocks-at, length-xor_blocks, xor_blocks_comm, same_blocks}

-- ---- blocks

pub block_at-at : (p : List ℕ) (n i : ℕ) → i < 16 → slice_index (block_at p n) i ≡ slice_index p (16 * n + i)
unfolding block_at
block_at-at p n i lt = get_or-map-range_with_len (λ j. slice_index p (16 * n + j)) 0 16 i i 0 lt (omega arith)

pub length-block_at : (p : List ℕ) (n : ℕ) → length (block_at p n) ≡ 16
unfolding block_at
length-block_at p n = refl

pub IsBlock_block_at : (p : List ℕ) (n : ℕ) → AreOctets p → IsBlock (block_at p n)
unfolding block_at
IsBlock_block_at p n h =
    IsBlock_square (λ r c. slice_index p (16 * n + (r + 4 * c))) (λ r c _ _. h (16 * n + (r + 4 * c)))

-- block n of two lists that are the same there
pub block_at_same : (p q : List ℕ) (n : ℕ) → ((i : ℕ) → i < 16
    → slice_index p (16 * n + i) ≡ slice_index q (16 * n + i)) → block_at p n ≡ block_at q n
block_at_same p q n h =
    same_blocks (block_at p n) (block_at q n) (length-block_at p n) (length-block_at q n)
    (λ i lt. block_at-at p n i lt ∙ h i lt ∙ sym (block_at-at q n i lt))

pub length-cipher : (k b : List ℕ) → length (cipher k b) ≡ 16
unfolding cipher last_round xor_blocks
length-cipher k b = refl

-- a block that only zeros are added to
pub xor_blocks_zeros : (a b : List ℕ) → length b ≡ 16 → ((i : ℕ) → i < 16 → slice_index a i ≡ 0) → xor_blocks a b ≡ b
xor_blocks_zeros a b lb h =
    same_blocks (xor_blocks a b) b (length-xor_blocks a b) lb
    (λ i lt. xor_blocks-at a b i lt ∙ ap (λ x. x ⊕ slice_index b i) (h i lt) ∙ xor_zero_l (slice_index b i))

-- ---- the chain

-- n blocks of the chain read 16 n octets
pub chained_same : (k iv p q : List ℕ) (n : ℕ) → ((i : ℕ) → i < 16 * n → slice_index p i ≡ slice_index q i)
    → chained k iv p n ≡ chained k iv q n
unfolding chained
chained_same k iv p q zero h = refl
chained_same k iv p q (suc n) h =
    let block : block_at p n ≡ block_at q n = block_at_same p q n (λ i lt. h (16 * n + i) (omega arith)) in
    let before : chained k iv p n ≡ chained k iv q n = chained_same k iv p q n (λ i lt. h i (omega arith)) in
    λ i. cipher k (xor_blocks (block i) (before i))

pub chained_next : (k iv p : List ℕ) (n : ℕ) → chained k iv p (n + 1)
    ≡ cipher k (xor_blocks (block_at p n) (chained k iv p n))
unfolding chained
chained_next k iv p n = let e : n + 1 ≡ suc n = omega arith in ap (chained k iv p) e

pub length-chained : (k iv p : List ℕ) (n : ℕ) → length iv ≡ 16 → length (chained k iv p n) ≡ 16
unfolding chained
length-chained k iv p zero h = h
length-chained k iv p (suc n) h = length-cipher k (xor_blocks (block_at p n) (chained k iv p n))

-- ---- CBC

pub length-cbc_of : (k iv p : List ℕ) → length (cbc_of k iv p) ≡ length p
unfolding cbc_of
length-cbc_of k iv p = length-map-range_with_len (λ j. slice_index (chained k iv p (j / 16 + 1)) (j % 16)) 0 (length p)

pub cbc_of-at : (k iv p : List ℕ) (i : ℕ) → i < length p
    → slice_index (cbc_of k iv p) i ≡ slice_index (chained k iv p (i / 16 + 1)) (i % 16)
unfolding cbc_of
cbc_of-at k iv p i lt = get_or-map-range_with_len (λ j. slice_index (chained k iv p (j / 16 + 1)) (j % 16)) 0 (length p)
    i i 0 lt (omega arith)

-- ---- CBC-MAC

zeros-at : (n i : ℕ) → slice_index (replicate n 0) i ≡ 0
zeros-at n i = elim (cases_lt i n) [
  | inl within ↦ get_or-replicate n i 0 0 within
  | inr past ↦ get_or_past (replicate n 0) i 0 (let long : length (replicate {A = ℕ} n 0)
      ≡ n = length-replicate {A = ℕ} n 0 in omega arith)
]

push-other : (m : List ℕ) (x i : ℕ) → i ≢ length m → slice_index (m ++ x ∷ []) i ≡ slice_index m i
push-other m x i other = elim (cases_lt i (length m)) [
  | inl within ↦ get_or_append_left m (x ∷ []) 0 i within
  | inr past ↦
      get_or_past (m ++ x ∷ []) i 0 (omega (arith, length-append m (x ∷ [])))
      ∙ sym (get_or_past m i 0 past)
]

-- zeros at the end of a list are what a read past its end gives
pub padded-at : (m : List ℕ) (i : ℕ) → slice_index (padded m) i ≡ slice_index m i
unfolding padded
padded-at m i =
    let zeros = (16 - length m % 16) % 16 in
    elim (cases_lt i (length m)) [
      | inl in_m ↦ get_or_append_left m (replicate zeros 0) 0 i in_m
      | inr past ↦
          get_or-append_right m (replicate zeros 0) (length m) i 0 refl past
          ∙ zeros-at zeros (i - length m)
          ∙ sym (get_or_past m i 0 past)
    ]

length-padded : (m : List ℕ) → length (padded m) ≡ length m + (16 - length m % 16) % 16
unfolding padded
length-padded m =
    length-append m (replicate ((16 - length m % 16) % 16) 0)
    ∙ ap (λ n. length m + n) (length-replicate ((16 - length m % 16) % 16) 0)

-- a MAC is the last block of the chain over the octets alone
pub mac_of-chained : (k m : List ℕ) (n : ℕ) → n ≡ (length m + (16 - length m % 16) % 16) / 16
    → mac_of k m ≡ chained k zero_block m n
unfolding mac_of
mac_of-chained k m n e =
    ap (λ (x : ℕ). chained k zero_block (padded m) (x / 16)) (length-padded m)
    ∙ chained_same k zero_block (padded m) m ((length m + (16 - length m % 16) % 16) / 16) (λ i lt. padded-at m i)
    ∙ ap (chained k zero_block m) (sym e)

-- the chain does not see what is put after its blocks
chained-append : (k m p : List ℕ) (n : ℕ) → 16 * n ≤ length m
    → chained k zero_block (m ++ p) n ≡ chained k zero_block m n
chained-append k m p n le = chained_same k zero_block (m ++ p) m n (λ i lt. get_or_append_left m p 0 i (omega arith))

-- after whole blocks nothing was added to the last cipher block
pub between_blocks : (k m : List ℕ) (n : ℕ) → length m ≡ 16 * n
    → xor_blocks (block_at m n) (chained k zero_block m n) ≡ chained k zero_block m n
between_blocks k m n e =
    xor_blocks_zeros (block_at m n) (chained k zero_block m n) (length-chained k zero_block m n refl)
    (λ i lt. block_at-at m n i lt ∙ get_or_past m (16 * n + i) 0 (omega arith))

-- the block with one more octet added
block_more : (b m c : List ℕ) (n u x : ℕ) → u < 16 → length b ≡ 16 → length m ≡ 16 * n + u
    → b ≡ xor_blocks (block_at m n) c
    → slice_set b u (slice_index b u ⊕ x) ≡ xor_blocks (block_at (m ++ x ∷ []) n) c
block_more b m c n u x lt lb lm e =
    let old : (i : ℕ) → i < 16 → slice_index b i ≡ slice_index m (16 * n + i) ⊕ slice_index c i =
    λ i h. ap (λ (l : List ℕ). slice_index l i) e ∙ xor_blocks-at (block_at m n) c i h
    ∙ ap (λ y. y ⊕ slice_index c i) (block_at-at m n i h) in
    let new : (i : ℕ) → i < 16 → slice_index (xor_blocks (block_at (m ++ x ∷ []) n) c) i
    ≡ slice_index (m ++ x ∷ []) (16 * n + i) ⊕ slice_index c i =
    λ i h. xor_blocks-at (block_at (m ++ x ∷ []) n) c i h ∙ ap (λ y. y ⊕ slice_index c i)
    (block_at-at (m ++ x ∷ []) n i h) in
    same_blocks (slice_set b u (slice_index b u ⊕ x)) (xor_blocks (block_at (m ++ x ∷ []) n) c)
    (length-set b u (slice_index b u ⊕ x) ∙ lb) (length-xor_blocks (block_at (m ++ x ∷ []) n) c)
    (λ i h. elim (cases_eq i u) [
      | inl same ↦ rw same (
          get_or-set_same b u (slice_index b u ⊕ x) 0 (omega arith)
          ∙ ap (λ y. y ⊕ x) (old u lt ∙ ap (λ y. y ⊕ slice_index c u) (get_or_past m (16 * n + u) 0 (omega arith))
          ∙ xor_zero_l (slice_index c u))
          ∙ xor_comm (slice_index c u) x
          ∙ ap (λ y. y ⊕ slice_index c u) (sym (get_or_push m x 0 (16 * n + u) lm))
          ∙ sym (new u lt)
          )
      | inr other ↦
          get_or-set_other b u i (slice_index b u ⊕ x) 0 other
          ∙ old i h
          ∙ ap (λ y. y ⊕ slice_index c i) (sym (push-other m x (16 * n + i) (omega arith)))
          ∙ sym (new i h)
    ])

-- one more octet, within a block
pub WasFed_octet : (s : MacState) (m : List ℕ) (x : ℕ) → WasFed s m → length s.block ≡ 16 → s.used + 1 < 16
    → WasFed (record {
      key = s.key;
      block = slice_set s.block s.used (slice_index s.block s.used ⊕ x);
      used = s.used + 1;
    }) (m ++ x ∷ [])
WasFed_octet s m x h lb lt =
    let k = s.key in
    let n = length m / 16 in
    let longer : length (m ++ x ∷ []) ≡ length m + 1 = length-append m (x ∷ []) in
    let used = h.used in
    let next : length (m ++ x ∷ []) / 16 ≡ n = omega arith in
    record {
      used = omega arith;
      block =
          block_more s.block m (chained k zero_block m n) n s.used x (omega arith) lb (omega arith) h.block
          ∙ ap (xor_blocks (block_at (m ++ x ∷ []) n)) (sym (chained-append k m (x ∷ []) n (omega arith)))
          ∙ ap (λ (q : ℕ). xor_blocks (block_at (m ++ x ∷ []) q) (chained k zero_block (m ++ x ∷ []) q)) (sym next);
    }

-- one more octet, at the end of a block
pub WasFed_last_octet : (s : MacState) (m : List ℕ) (x : ℕ) → WasFed s m → length s.block ≡ 16 → s.used + 1 ≡ 16
    → WasFed (record {
      key = s.key;
      block = cipher s.key (slice_set s.block s.used (slice_index s.block s.used ⊕ x));
      used = 0;
    }) (m ++ x ∷ [])
WasFed_last_octet s m x h lb lt =
    let k = s.key in
    let n = length m / 16 in
    let longer : length (m ++ x ∷ []) ≡ length m + 1 = length-append m (x ∷ []) in
    let used = h.used in
    let next : length (m ++ x ∷ []) / 16 ≡ n + 1 = omega arith in
    let block : cipher k (slice_set s.block s.used (slice_index s.block s.used ⊕ x))
    ≡ chained k zero_block (m ++ x ∷ []) (n + 1) =
    ap (cipher k)
    (block_more s.block m (chained k zero_block m n) n s.used x (omega arith) lb (omega arith) h.block
    ∙ ap (xor_blocks (block_at (m ++ x ∷ []) n)) (sym (chained-append k m (x ∷ []) n (omega arith))))
    ∙ sym (chained_next k zero_block (m ++ x ∷ []) n) in
    record {
      used = omega arith;
      block =
          block
          ∙ sym (between_blocks k (m ++ x ∷ []) (n + 1) (omega arith))
          ∙ ap (λ (q : ℕ). xor_blocks (block_at (m ++ x ∷ []) q) (chained k zero_block (m ++ x ∷ []) q)) (sym next);
    }

-- one more block
pub WasFed_block : (s : MacState) (m p : List ℕ) → WasFed s m → length p ≡ 16 → s.used ≡ 0
    → WasFed (record { key = s.key; block = cipher s.key (xor_blocks s.block p); used = 0 }) (m ++ p)
WasFed_block s m p h lp none =
    let k = s.key in
    let n = length m / 16 in
    let longer : length (m ++ p) ≡ length m + length p = length-append m p in
    let used = h.used in
    let next : length (m ++ p) / 16 ≡ n + 1 = omega arith in
    let last : s.block ≡ chained k zero_block (m ++ p) n =
    h.block ∙ between_blocks k m n (omega arith) ∙ sym (chained-append k m p n (omega arith)) in
    let piece : p ≡ block_at (m ++ p) n =
    same_blocks p (block_at (m ++ p) n) lp (length-block_at (m ++ p) n)
    (λ i lt. sym (block_at-at (m ++ p) n i lt ∙ get_or-append_right m p (length m) (16 * n + i) 0 refl (omega arith)
    ∙ ap (slice_index p) (let e : 16 * n + i - length m ≡ i = omega arith in e))) in
    let block : cipher k (xor_blocks s.block p) ≡ chained k zero_block (m ++ p) (n + 1) =
    (λ i. cipher k (xor_blocks (last i) (piece i)))
    ∙ ap (cipher k) (xor_blocks_comm (chained k zero_block (m ++ p) n) (block_at (m ++ p) n))
    ∙ sym (chained_next k zero_block (m ++ p) n) in
    record {
      used = omega arith;
      block =
          block
          ∙ sym (between_blocks k (m ++ p) (n + 1) (omega arith))
          ∙ ap (λ (q : ℕ). xor_blocks (block_at (m ++ p) q) (chained k zero_block (m ++ p) q)) (sym next);
    }

-- the end within a block
pub WasFed-mac_within : (s : MacState) (m : List ℕ) → WasFed s m → 0 < s.used → cipher s.key s.block ≡ mac_of s.key m
WasFed-mac_within s m h some =
    let k = s.key in
    let n = length m / 16 in
    let used = h.used in
    ap (cipher k) h.block ∙ sym (chained_next k zero_block m n) ∙ sym (mac_of-chained k m (n + 1) (omega arith))

-- the end between blocks
pub WasFed-mac_between : (s : MacState) (m : List ℕ) → WasFed s m → s.used ≡ 0 → s.block ≡ mac_of s.key m
WasFed-mac_between s m h none =
    let k = s.key in
    let n = length m / 16 in
    let used = h.used in
    h.block ∙ between_blocks k m n (omega arith) ∙ sym (mac_of-chained k m n (omega arith))

pub mac_of-nil : (k : List ℕ) → mac_of k [] ≡ zero_block
unfolding mac_of padded chained
mac_of-nil k = refl

pub length-mac_of : (k m : List ℕ) → length (mac_of k m) ≡ 16
unfolding mac_of
length-mac_of k m = length-chained k zero_block (padded m) (length (padded m) / 16) refl

-- ---- cuts of a list

-- a list that is cut at two places
pub append-cuts : (m p : List ℕ) (i j : ℕ) → i ≤ j → ((m ++ take i p) ++ take (j - i) (drop i p))
    ++ take (length p - j) (drop j p) ≡ m ++ p
append-cuts m p i j le =
    let front : take i p ++ take (j - i) (drop i p) ≡ take j p =
    (λ k. sym (take-take i j p le) k ++ between_is p i j k) ∙ take-append-drop i (take j p) in
    ap (λ (l : List ℕ). l ++ take (length p - j) (drop j p))
    (append_assoc m (take i p) (take (j - i) (drop i p)) ∙ ap (λ (l : List ℕ). m ++ l) front)
    ∙ append_assoc m (take j p) (take (length p - j) (drop j p))
    ∙ ap (λ (l : List ℕ). m ++ (take j p ++ l)) (take_rest p j)
    ∙ ap (λ (l : List ℕ). m ++ l) (take-append-drop j p)

-- one block more of a list
pub take-block : (p : List ℕ) (n : ℕ) → 16 * n + 16 ≤ length p → take (16 * (n + 1)) p ≡ take (16 * n) p ++ block_at p n
take-block p n le =
    let front : take (16 * n) p ++ take (16 * n + 16 - 16 * n) (drop (16 * n) p) ≡ take (16 * n + 16) p =
    (λ k. sym (take-take (16 * n) (16 * n + 16) p (omega arith)) k ++ between_is p (16 * n) (16 * n + 16) k)
    ∙ take-append-drop (16 * n) (take (16 * n + 16) p) in
    let end : 16 * (n + 1) ≡ 16 * n + 16 = omega arith in
    let long : length (take (16 * n + 16 - 16 * n) (drop (16 * n) p)) ≡ 16 =
    length-take-le (16 * n + 16 - 16 * n) (drop (16 * n) p) (omega (arith, length-drop (16 * n) p))
    ∙ (let e : 16 * n + 16 - 16 * n ≡ 16 = omega arith in e) in
    ap (λ (i : ℕ). take i p) end
    ∙ sym front
    ∙ ap (λ (l : List ℕ). take (16 * n) p ++ l) (
    same_blocks (take (16 * n + 16 - 16 * n) (drop (16 * n) p)) (block_at p n) long (length-block_at p n)
    (λ i lt. get_or-take (16 * n + 16 - 16 * n) (drop (16 * n) p) i 0 (omega arith) ∙ get_or-drop (16 * n) p i 0
    ∙ sym (block_at-at p n i lt))
    )

-- octet i of the cipher block after n
pub chained-at : (k iv p : List ℕ) (n i : ℕ) → i < 16
    → slice_index (chained k iv p ((16 * n + i) / 16 + 1)) ((16 * n + i) % 16) ≡ slice_index (chained k iv p (n + 1)) i
chained-at k iv p n i lt =
    let block : (16 * n + i) / 16 ≡ n = omega arith in
    let place : (16 * n + i) % 16 ≡ i = omega arith in
    λ j. slice_index (chained k iv p (block j + 1)) (place j)
