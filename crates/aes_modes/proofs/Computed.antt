-- What a check computes of the tables, for each octet.
use Rattle.std.proofs.Common.{◌≡◌, ℕ, zero, suc, ◌+◌, ◌<◌, ◌==◌, nat_lt, Bool, true, ◌&&◌, if◌then◌else◌, ◌-◌, ◌%◌, List, [], ◌∷◌, slice_index, refl, sym, ap, ◌∙◌, arith, inl, inr}
use Rattle.std.proofs.lemmas.Bool.{and_parts, cases_lt, eqb-true, ltb-true}
use Rattle.aes_modes.specs.Octet.{◌⊕◌, product_below, remainder, times, inverse_below, inverse, number_below, affine, sub_byte}
use Rattle.aes_modes.specs.Cipher.{factor, mixed, round_constant}
use Rattle.aes_modes.specs.Words.{octet_of}
use Rattle.aes_modes.proofs.Octets.{octet_of-lt, octet_of-⊕4}
use Rattle.aes_modes.specs.declared.tables.TheConstants.{ROUND_CONSTANTS, SUBSTITUTED, RESTORED, MIXED0, MIXED1, MIXED2, MIXED3, UNMIXED0, UNMIXED1, UNMIXED2, UNMIXED3}
use Rattle.aes_modes.proofs.Field.{product_of, entry_of, product_of-sums}
use lib.Bits.{xor_zero_l, xor_zero_r}

-- p holds of each number below n
abbrev all_below : (ℕ → Bool) → ℕ → Bool
all_below p zero = true
all_below p (suc n) = p n && all_below p n

all_below_at : (p : ℕ → Bool) (n k : ℕ) → all_below p n ≡ true → k < n → p k ≡ true
all_below_at p zero k h lt = absurd (omega arith)
all_below_at p (suc n) k h lt =
    let parts = and_parts (p n) (all_below p n) h in
    elim (cases_lt k n) [
      | inl below ↦ all_below_at p n k parts.1 below
      | inr top ↦
          let e : k ≡ n = omega arith in
          rw e parts.0
    ]

-- ---- the substitution

abbrev substitutes : ℕ → Bool
substitutes x = (slice_index SUBSTITUTED x == sub_byte x) && nat_lt (slice_index SUBSTITUTED x) 256

substitutes_all : all_below substitutes 256 ≡ true
unfolding product_below remainder times inverse_below inverse number_below affine sub_byte
substitutes_all = refl

substitutes_parts : (x : ℕ) → x < 256 → (slice_index SUBSTITUTED x ≡ sub_byte x) × (slice_index SUBSTITUTED x < 256)
substitutes_parts x lt =
    let parts = and_parts (slice_index SUBSTITUTED x == sub_byte x) (nat_lt (slice_index SUBSTITUTED x) 256)
    (all_below_at substitutes 256 x substitutes_all lt) in
    (eqb-true (slice_index SUBSTITUTED x) (sub_byte x) parts.0, ltb-true (slice_index SUBSTITUTED x) 256 parts.1)

pub substituted : (x : ℕ) → x < 256 → slice_index SUBSTITUTED x ≡ sub_byte x
substituted x lt = (substitutes_parts x lt).0

pub sub_byte-lt : (x : ℕ) → x < 256 → sub_byte x < 256
sub_byte-lt x lt = rw (substituted x lt) at (substitutes_parts x lt).1

-- ---- the product of a column

-- the table t has, for the octet x in row j, row r of its product
abbrev mixes : List ℕ → ℕ → ℕ → ℕ → Bool
mixes t j r x = octet_of (slice_index t x) r == times (factor r j) (slice_index SUBSTITUTED x)

abbrev mixes_rows : List ℕ → ℕ → ℕ → Bool
mixes_rows t j r = all_below (mixes t j r) 256

abbrev mixes_all : List ℕ → ℕ → Bool
mixes_all t j = all_below (mixes_rows t j) 4

mixed_by : (t : List ℕ) (j r x : ℕ) → mixes_all t j ≡ true → r < 4 → x < 256
    → octet_of (slice_index t x) r ≡ times (factor r j) (sub_byte x)
mixed_by t j r x h row lt =
    eqb-true (octet_of (slice_index t x) r) (times (factor r j) (slice_index SUBSTITUTED x))
    (all_below_at (mixes t j r) 256 x (all_below_at (mixes_rows t j) 4 r h row) lt)
    ∙ ap (times (factor r j)) (substituted x lt)

mixes0 : mixes_all MIXED0 0 ≡ true
unfolding product_below remainder times
mixes0 = refl

mixes1 : mixes_all MIXED1 1 ≡ true
unfolding product_below remainder times
mixes1 = refl

mixes2 : mixes_all MIXED2 2 ≡ true
unfolding product_below remainder times
mixes2 = refl

mixes3 : mixes_all MIXED3 3 ≡ true
unfolding product_below remainder times
mixes3 = refl

-- one look-up in each table gives the product of a substituted column
pub mixed_octet : (r w0 w1 w2 w3 a b c d : ℕ) → r < 4
    → w0 ≡ slice_index MIXED0 (octet_of a 0) → w1 ≡ slice_index MIXED1 (octet_of b 1)
    → w2 ≡ slice_index MIXED2 (octet_of c 2) → w3 ≡ slice_index MIXED3 (octet_of d 3)
    → octet_of (w0 ⊕ w1 ⊕ w2 ⊕ w3) r
    ≡ mixed r (sub_byte (octet_of a 0)) (sub_byte (octet_of b 1)) (sub_byte (octet_of c 2)) (sub_byte (octet_of d 3))
mixed_octet r w0 w1 w2 w3 a b c d row e0 e1 e2 e3 =
    let f0 : octet_of w0 r ≡ times (factor r 0) (sub_byte (octet_of a 0)) =
    rw e0 (mixed_by MIXED0 0 r (octet_of a 0) mixes0 row (octet_of-lt a 0)) in
    let f1 : octet_of w1 r ≡ times (factor r 1) (sub_byte (octet_of b 1)) =
    rw e1 (mixed_by MIXED1 1 r (octet_of b 1) mixes1 row (octet_of-lt b 1)) in
    let f2 : octet_of w2 r ≡ times (factor r 2) (sub_byte (octet_of c 2)) =
    rw e2 (mixed_by MIXED2 2 r (octet_of c 2) mixes2 row (octet_of-lt c 2)) in
    let f3 : octet_of w3 r ≡ times (factor r 3) (sub_byte (octet_of d 3)) =
    rw e3 (mixed_by MIXED3 3 r (octet_of d 3) mixes3 row (octet_of-lt d 3)) in
    octet_of-⊕4 w0 w1 w2 w3 r ∙ (λ i. f0 i ⊕ f1 i ⊕ f2 i ⊕ f3 i)

-- ---- the round constants

abbrev is_round_constant : ℕ → Bool
is_round_constant n = (slice_index ROUND_CONSTANTS n == round_constant n) && nat_lt (slice_index ROUND_CONSTANTS n) 256

is_round_constant_all : all_below is_round_constant 10 ≡ true
unfolding product_below remainder times round_constant
is_round_constant_all = refl

round_constant_parts : (n : ℕ) → n < 10 → (slice_index ROUND_CONSTANTS n ≡ round_constant n)
    × (slice_index ROUND_CONSTANTS n < 256)
round_constant_parts n lt =
    let parts = and_parts (slice_index ROUND_CONSTANTS n == round_constant n)
    (nat_lt (slice_index ROUND_CONSTANTS n) 256) (all_below_at is_round_constant 10 n is_round_constant_all lt) in (
      eqb-true (slice_index ROUND_CONSTANTS n) (round_constant n) parts.0,
      ltb-true (slice_index ROUND_CONSTANTS n) 256
          parts.1,
    )

pub round_constant_at : (n : ℕ) → n < 10 → slice_index ROUND_CONSTANTS n ≡ round_constant n
round_constant_at n lt = (round_constant_parts n lt).0

pub round_constant-lt : (n : ℕ) → n < 10 → round_constant n < 256
round_constant-lt n lt = rw (round_constant_at n lt) at (round_constant_parts n lt).1

-- ---- the substitution turned back

-- the octet comes back from its substitution, and the substitution from the octet that is restored
abbrev restores : ℕ → Bool
restores x =
    (slice_index RESTORED (slice_index SUBSTITUTED x) == x)
    && ((slice_index SUBSTITUTED (slice_index RESTORED x) == x) && nat_lt (slice_index RESTORED x) 256)

restores_all : all_below restores 256 ≡ true
restores_all = refl

restores_parts : (x : ℕ) → x < 256
    → (slice_index RESTORED (slice_index SUBSTITUTED x) ≡ x)
    × ((slice_index SUBSTITUTED (slice_index RESTORED x) ≡ x) × (slice_index RESTORED x < 256))
restores_parts x lt =
    let there = slice_index RESTORED (slice_index SUBSTITUTED x) == x in
    let back = slice_index SUBSTITUTED (slice_index RESTORED x) == x in
    let parts =
    and_parts there (back && nat_lt (slice_index RESTORED x) 256) (all_below_at restores 256 x restores_all lt) in
    let rest = and_parts back (nat_lt (slice_index RESTORED x) 256) parts.1 in
    (eqb-true _ x parts.0, (eqb-true _ x rest.0, ltb-true (slice_index RESTORED x) 256 rest.1))

pub restored : (x : ℕ) → x < 256 → sub_byte (slice_index RESTORED x) ≡ x
restored x lt =
    let parts = (restores_parts x lt).1 in
    sym (substituted (slice_index RESTORED x) parts.1) ∙ parts.0

pub restored-lt : (x : ℕ) → x < 256 → slice_index RESTORED x < 256
restored-lt x lt = (restores_parts x lt).1.1

pub sub_byte_injective : (x y : ℕ) → x < 256 → y < 256 → sub_byte x ≡ sub_byte y → x ≡ y
sub_byte_injective x y lx ly e =
    sym (restores_parts x lx).0
    ∙ ap (slice_index RESTORED) (substituted x lx ∙ e ∙ sym (substituted y ly))
    ∙ (restores_parts y ly).0

-- ---- the product of a column turned back

-- the matrix that undoes the one of MixColumns
abbrev pub unfactor : ℕ → ℕ → ℕ
unfactor r j = slice_index (14 ∷ 11 ∷ 13 ∷ 9 ∷ []) ((j + 4 - r) % 4)

-- the matrix f and one whose column j takes octets to row i by g i are each other's inverse, in row r
abbrev undoes : (ℕ → ℕ → ℕ) → (ℕ → ℕ → ℕ) → ℕ → ℕ → ℕ → Bool
undoes f g j r x = entry_of f g r x == (if r == j then x else 0)

abbrev undoes_rows : (ℕ → ℕ → ℕ) → (ℕ → ℕ → ℕ) → ℕ → ℕ → Bool
undoes_rows f g j r = all_below (undoes f g j r) 256

abbrev undoes_all : (ℕ → ℕ → ℕ) → (ℕ → ℕ → ℕ) → ℕ → Bool
undoes_all f g j = all_below (undoes_rows f g j) 4

undone_by : (f g : ℕ → ℕ → ℕ) (j r x : ℕ) → undoes_all f g j ≡ true → r < 4 → x < 256
    → entry_of f g r x ≡ (if r == j then x else 0)
undone_by f g j r x h row lt =
    eqb-true (entry_of f g r x) (if r == j then x else 0) (all_below_at (undoes f g j r) 256 x
    (all_below_at (undoes_rows f g j) 4 r h row) lt)

-- row r of the column a, b, c, d
abbrev pub row_of : ℕ → ℕ → ℕ → ℕ → ℕ → ℕ
row_of r a b c d =
    (if r == 0 then a else 0) ⊕ (if r == 1 then b else 0) ⊕ (if r == 2 then c else 0) ⊕ (if r == 3 then d else 0)

undone : (f ga gb gc gd : ℕ → ℕ → ℕ) (r a b c d : ℕ)
    → undoes_all f ga 0 ≡ true → undoes_all f gb 1 ≡ true → undoes_all f gc 2 ≡ true → undoes_all f gd 3 ≡ true
    → r < 4 → a < 256 → b < 256 → c < 256 → d < 256
    → product_of f r (ga 0 a ⊕ gb 0 b ⊕ gc 0 c ⊕ gd 0 d) (ga 1 a ⊕ gb 1 b ⊕ gc 1 c ⊕ gd 1 d)
    (ga 2 a ⊕ gb 2 b ⊕ gc 2 c ⊕ gd 2 d) (ga 3 a ⊕ gb 3 b ⊕ gc 3 c ⊕ gd 3 d)
    ≡ row_of r a b c d
undone f ga gb gc gd r a b c d ha hb hc hd row la lb lc ld =
    product_of-sums f ga gb gc gd r a b c d
    ∙ (λ i. undone_by f ga 0 r a ha row la i ⊕ undone_by f gb 1 r b hb row lb i ⊕ undone_by f gc 2 r c hc row lc i ⊕
    undone_by f gd 3 r d hd row ld i)

-- ---- by tables: the product of the columns that they give is the octet in its row

abbrev unmixing : List ℕ → ℕ → ℕ → ℕ
unmixing t i x = octet_of (slice_index t x) i

unmixes0 : undoes_all factor (unmixing UNMIXED0) 0 ≡ true
unfolding product_below remainder times
unmixes0 = refl

unmixes1 : undoes_all factor (unmixing UNMIXED1) 1 ≡ true
unfolding product_below remainder times
unmixes1 = refl

unmixes2 : undoes_all factor (unmixing UNMIXED2) 2 ≡ true
unfolding product_below remainder times
unmixes2 = refl

unmixes3 : undoes_all factor (unmixing UNMIXED3) 3 ≡ true
unfolding product_below remainder times
unmixes3 = refl

-- the column of one look-up in each table, for the column word: its product is that column
pub unmixed_octet : (r w0 w1 w2 w3 word : ℕ) → r < 4
    → w0 ≡ slice_index UNMIXED0 (octet_of word 0) → w1 ≡ slice_index UNMIXED1 (octet_of word 1)
    → w2 ≡ slice_index UNMIXED2 (octet_of word 2) → w3 ≡ slice_index UNMIXED3 (octet_of word 3)
    → let u = w0 ⊕ w1 ⊕ w2 ⊕ w3 in
    mixed r (octet_of u 0) (octet_of u 1) (octet_of u 2) (octet_of u 3)
    ≡ row_of r (octet_of word 0) (octet_of word 1) (octet_of word 2) (octet_of word 3)
unmixed_octet r w0 w1 w2 w3 word row e0 e1 e2 e3 =
    let at : (i : ℕ) → octet_of (w0 ⊕ w1 ⊕ w2 ⊕ w3) i
    ≡ unmixing UNMIXED0 i (octet_of word 0) ⊕ unmixing UNMIXED1 i (octet_of word 1)
    ⊕ unmixing UNMIXED2 i (octet_of word 2) ⊕ unmixing UNMIXED3 i (octet_of word 3) =
    λ i. octet_of-⊕4 w0 w1 w2 w3 i ∙ (λ k. octet_of (e0 k) i ⊕ octet_of (e1 k) i ⊕ octet_of (e2 k) i ⊕ octet_of (e3 k)
    i) in
    (λ k. mixed r (at 0 k) (at 1 k) (at 2 k) (at 3 k))
    ∙ undone factor (unmixing UNMIXED0) (unmixing UNMIXED1) (unmixing UNMIXED2) (unmixing UNMIXED3) r
    (octet_of word 0) (octet_of word 1) (octet_of word 2) (octet_of word 3) unmixes0 unmixes1 unmixes2 unmixes3 row
    (octet_of-lt word 0) (octet_of-lt word 1) (octet_of-lt word 2) (octet_of-lt word 3)

-- ---- by the matrix: a column comes back from its product

abbrev mixing : ℕ → ℕ → ℕ → ℕ
mixing j i x = times (factor i j) x

undoes0 : undoes_all unfactor (mixing 0) 0 ≡ true
unfolding product_below remainder times
undoes0 = refl

undoes1 : undoes_all unfactor (mixing 1) 1 ≡ true
unfolding product_below remainder times
undoes1 = refl

undoes2 : undoes_all unfactor (mixing 2) 2 ≡ true
unfolding product_below remainder times
undoes2 = refl

undoes3 : undoes_all unfactor (mixing 3) 3 ≡ true
unfolding product_below remainder times
undoes3 = refl

pub unmixed : (r a b c d : ℕ) → r < 4 → a < 256 → b < 256 → c < 256 → d < 256
    → product_of unfactor r (mixed 0 a b c d) (mixed 1 a b c d) (mixed 2 a b c d) (mixed 3 a b c d) ≡ row_of r a b c d
unmixed r a b c d row la lb lc ld =
    undone unfactor (mixing 0) (mixing 1) (mixing 2) (mixing 3) r a b c d undoes0 undoes1 undoes2 undoes3 row la lb lc
    ld

pub row_of-0 : (a b c d : ℕ) → row_of 0 a b c d ≡ a
row_of-0 a b c d = xor_zero_r ((a ⊕ 0) ⊕ 0) ∙ xor_zero_r (a ⊕ 0) ∙ xor_zero_r a

pub row_of-1 : (a b c d : ℕ) → row_of 1 a b c d ≡ b
row_of-1 a b c d = xor_zero_r ((0 ⊕ b) ⊕ 0) ∙ xor_zero_r (0 ⊕ b) ∙ xor_zero_l b

pub row_of-2 : (a b c d : ℕ) → row_of 2 a b c d ≡ c
row_of-2 a b c d = xor_zero_r ((0 ⊕ 0) ⊕ c) ∙ xor_zero_l c

pub row_of-3 : (a b c d : ℕ) → row_of 3 a b c d ≡ d
row_of-3 a b c d = xor_zero_l d

-- ---- products are octets

abbrev is_octet : ℕ → ℕ → Bool
is_octet w x = nat_lt (times w x) 256

abbrev are_octets : ℕ → ℕ → Bool
are_octets r j = all_below (is_octet (factor r j)) 256

abbrev are_octets_rows : ℕ → Bool
are_octets_rows r = all_below (are_octets r) 4

are_octets_all : all_below are_octets_rows 4 ≡ true
unfolding product_below remainder times
are_octets_all = refl

pub times-lt : (r j x : ℕ) → r < 4 → j < 4 → x < 256 → times (factor r j) x < 256
times-lt r j x row column lt =
    ltb-true (times (factor r j) x) 256
    (all_below_at (is_octet (factor r j)) 256 x (all_below_at (are_octets r) 4 j
    (all_below_at are_octets_rows 4 r are_octets_all row) column) lt)
