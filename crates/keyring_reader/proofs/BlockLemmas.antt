-- The search for a block finds the one that passes.
use Rattle.std.proofs.Common.{◌≡◌, ℕ, zero, suc, ◌+◌, ◌*◌, ◌/◌, ◌%◌, ◌^◌, ◌<◌, ◌⊎◌, inl, inr, Bool, true, false, List, [], ◌∷◌, length, Option, Some, None, refl, sym, ap, subst, ◌∙◌, arith}
use Rattle.std.proofs.Math.Nat.{pow-succ'}
use Rattle.std.specs.Option.{option_or, is_some}
use Rattle.std.specs.Str.{bytes_eq}
use Rattle.std.proofs.lemmas.Bool.{cases_lt}
use Rattle.std.proofs.lemmas.Slice.Eq.{bytes_eq-Decides}
use Rattle.aes_modes.specs.Cipher.{AreOctets, IsBlock}
use Rattle.keyring_reader.proofs.PigeonLemmas.{none_missed}
use Rattle.keyring_reader.specs.Blocks.{octets_of, block_of, where_true, first_below, first_block}

-- the number of a list of octets
number_of : List ℕ → ℕ
number_of [] = 0
number_of (x ∷ xs) = x + 256 * number_of xs

more_digits : (x n most more : ℕ) → x < 256 → n < most → more ≡ 256 * most → x + 256 * n < more
more_digits x n most more first rest is = omega (arith, first, rest, is)

number_of-lt : (xs : List ℕ) → AreOctets xs → number_of xs < 256 ^ length xs
unfolding number_of
number_of-lt [] octets = omega arith
number_of-lt (x ∷ xs) octets =
    more_digits x (number_of xs) (256 ^ length xs) (256 ^ length (x ∷ xs)) (octets 0)
    (number_of-lt xs (λ i. octets (suc i))) (pow-succ' 256 (length xs))

octets_of-number : (xs : List ℕ) → AreOctets xs → octets_of (length xs) (number_of xs) ≡ xs
unfolding number_of octets_of
octets_of-number [] octets = refl
octets_of-number (x ∷ xs) octets =
    let first : x < 256 = octets 0 in
    let low : (x + 256 * number_of xs) % 256 ≡ x = omega (arith, first) in
    let high : (x + 256 * number_of xs) / 256 ≡ number_of xs = omega (arith, first) in
    ap (λ (o : ℕ). o ∷ octets_of (length xs) ((x + 256 * number_of xs) / 256)) low
    ∙ ap (λ (n : ℕ). x ∷ octets_of (length xs) n) high
    ∙ ap (λ (rest : List ℕ). x ∷ rest) (octets_of-number xs (λ i. octets (suc i)))

block_of-number : (b : List ℕ) → IsBlock b → block_of (number_of b) ≡ b
block_of-number b is = ap (λ (count : ℕ). octets_of count (number_of b)) (sym is.length) ∙ octets_of-number b is.octets

number_of_block : (b : List ℕ) → IsBlock b → number_of b < 256 ^ 16
number_of_block b is = subst (λ (count : ℕ). number_of b < 256 ^ count) is.length (number_of-lt b is.octets)

none_below : (test : List ℕ → Bool) (n : ℕ) → ((k : ℕ) → k < n → test (block_of k) ≡ false) → first_below test n ≡ None
unfolding first_below
none_below test zero fails = refl
none_below test (suc n) fails =
    ap (λ (before : Option (List ℕ)). option_or before (where_true (test (block_of n)) (block_of n)))
    (none_below test n (λ k below. fails k (omega (arith, below))))
    ∙ ap (λ (b : Bool). where_true b (block_of n)) (fails n (omega arith))

-- each block that passes is this one
abbrev IsOnly : (List ℕ → Bool) → ℕ → List ℕ → Type 0
IsOnly test n b = (k : ℕ) → k < n → test (block_of k) ≡ true → block_of k ≡ b

here : (test : Bool) (block b : List ℕ) → (test ≡ true → block ≡ b) → (where_true test block ≡ None)
    ⊎ (where_true test block ≡ Some b)
here true block b only = inr (ap (λ (x : List ℕ). Some x) (only refl))
here false block b only = inl refl

joined : (before after : Option (List ℕ)) (b : List ℕ) → (before ≡ None) ⊎ (before ≡ Some b) → (after ≡ None)
    ⊎ (after ≡ Some b)
    → (option_or before after ≡ None) ⊎ (option_or before after ≡ Some b)
joined before after b (inr is) later = inr (ap (λ (o : Option (List ℕ)). option_or o after) is)
joined before after b (inl none) (inl is) = inl (ap (λ (o : Option (List ℕ)). option_or o after) none ∙ is)
joined before after b (inl none) (inr is) = inr (ap (λ (o : Option (List ℕ)). option_or o after) none ∙ is)

only_below : (test : List ℕ → Bool) (n : ℕ) (b : List ℕ) → IsOnly test n b → (first_below test n ≡ None)
    ⊎ (first_below test n ≡ Some b)
unfolding first_below
only_below test zero b only = inl refl
only_below test (suc n) b only =
    joined (first_below test n) (where_true (test (block_of n)) (block_of n)) b
    (only_below test n b (λ k below. only k (omega (arith, below))))
    (here (test (block_of n)) (block_of n) b (only n (omega arith)))

last_found : (before : Option (List ℕ)) (test : Bool) (block b : List ℕ) → (before ≡ None) ⊎ (before ≡ Some b)
    → test ≡ true → block ≡ b
    → option_or before (where_true test block) ≡ Some b
last_found before test block b (inr is) passes same =
    ap (λ (o : Option (List ℕ)). option_or o (where_true test block)) is
last_found before test block b (inl none) passes same =
    ap (λ (o : Option (List ℕ)). option_or o (where_true test block)) none
    ∙ ap (λ (t : Bool). where_true t block) passes ∙ ap (λ (x : List ℕ). Some x) same

found_below : (test : List ℕ → Bool) (n m : ℕ) (b : List ℕ) → m < n → test (block_of m) ≡ true → IsOnly test n b
    → first_below test n ≡ Some b
unfolding first_below
found_below test zero m b below passes only = absurd (omega (arith, below))
found_below test (suc n) m b below passes only = elim (cases_lt m n) [
  | inl less ↦
      ap (λ (before : Option (List ℕ)). option_or before (where_true (test (block_of n)) (block_of n)))
      (found_below test n m b less passes (λ k small. only k (omega (arith, small))))
  | inr last ↦
      let same : m ≡ n = omega (arith, below, last) in
      let passes_n : test (block_of n) ≡ true = ap (λ (k : ℕ). test (block_of k)) (sym same) ∙ passes in
      last_found (first_below test n) (test (block_of n)) (block_of n) b
      (only_below test n b (λ k small. only k (omega (arith, small)))) passes_n (only n (omega arith) passes_n)
]

block_of-octets : (count n : ℕ) → AreOctets (octets_of count n)
unfolding octets_of
block_of-octets zero n i = omega arith
block_of-octets (suc count) n zero = omega arith
block_of-octets (suc count) n (suc i) = block_of-octets count (n / 256) i

block_of-length : (count n : ℕ) → length (octets_of count n) ≡ count
unfolding octets_of
block_of-length zero n = refl
block_of-length (suc count) n = ap (λ (k : ℕ). suc k) (block_of-length count (n / 256))

is_block : (n : ℕ) → IsBlock (block_of n)
is_block n = record { length = block_of-length 16 n; octets = block_of-octets 16 n }

-- the one block that passes is found
pub found_block : (test : List ℕ → Bool) (b : List ℕ) → IsBlock b → test b ≡ true
    → ((other : List ℕ) → IsBlock other → test other ≡ true → other ≡ b) → first_block test ≡ Some b
unfolding first_block
found_block test b is passes only =
    found_below test (256 ^ 16) (number_of b) b (number_of_block b is) (ap test (block_of-number b is) ∙ passes)
    (λ k below. only (block_of k) (is_block k))

-- where no block passes, none is found
pub no_block : (test : List ℕ → Bool) → ((b : List ℕ) → IsBlock b → test b ≡ false) → first_block test ≡ None
unfolding first_block
no_block test fails = none_below test (256 ^ 16) (λ k below. fails (block_of k) (is_block k))

last_passes : (before : Option (List ℕ)) (test : Bool) (block b : List ℕ)
    → option_or before (where_true test block) ≡ Some b
    → (before ≡ Some b) ⊎ ((test ≡ true) × (block ≡ b))
last_passes (Some x) test block b is = inl is
last_passes None true block b is = inr (refl, cc)
last_passes None false block b is = cc

below_passes : (test : List ℕ → Bool) (n : ℕ) (b : List ℕ) → first_below test n ≡ Some b → test b ≡ true
unfolding first_below
below_passes test zero b is = cc
below_passes test (suc n) b is = elim (last_passes (first_below test n) (test (block_of n)) (block_of n) b is) [
  | inl before ↦ below_passes test n b before
  | inr here ↦ ap test (sym here.1) ∙ here.0
]

-- the block that is found passes
pub found_passes : (test : List ℕ → Bool) (b : List ℕ) → first_block test ≡ Some b → test b ≡ true
unfolding first_block
found_passes test b is = below_passes test (256 ^ 16) b is

-- what is found is a block
below_block : (test : List ℕ → Bool) (n : ℕ) (b : List ℕ) → first_below test n ≡ Some b → IsBlock b
unfolding first_below
below_block test zero b is = absurd cc
below_block test (suc n) b is = elim (last_passes (first_below test n) (test (block_of n)) (block_of n) b is) [
  | inl before ↦ below_block test n b before
  | inr here ↦ subst IsBlock here.1 (is_block n)
]

pub found_is_block : (test : List ℕ → Bool) (b : List ℕ) → first_block test ≡ Some b → IsBlock b
unfolding first_block
found_is_block test b is = below_block test (256 ^ 16) b is

-- ---- one of the blocks is found, where each is what a block is sent to

number_of-octets : (count n : ℕ) → n < 256 ^ count → number_of (octets_of count n) ≡ n
unfolding number_of octets_of
number_of-octets zero n below = omega (arith, below)
number_of-octets (suc count) n below =
    let high : n / 256 < 256 ^ count = omega (arith, below, pow-succ' 256 count) in
    ap (λ (rest : ℕ). n % 256 + 256 * rest) (number_of-octets count (n / 256) high) ∙ omega arith

neither : (before : Option (List ℕ)) (test : Bool) (block : List ℕ) → option_or before (where_true test block) ≡ None
    → (before ≡ None) × (test ≡ false)
neither (Some x) test block none = absurd cc
neither None true block none = absurd cc
neither None false block none = (refl, refl)

all_fail : (test : List ℕ → Bool) (n : ℕ) → first_below test n ≡ None → (k : ℕ) → k < n → test (block_of k) ≡ false
unfolding first_below
all_fail test zero none k below = absurd (omega (arith, below))
all_fail test (suc n) none k below =
    let parts = neither (first_below test n) (test (block_of n)) (block_of n) none in
    elim (cases_lt k n) [
      | inl less ↦ all_fail test n parts.0 k less
      | inr last ↦
          let same : k ≡ n = omega (arith, below, last) in
          ap (λ (i : ℕ). test (block_of i)) same ∙ parts.1
    ]

-- what sends blocks to blocks, and no two to the same
pub record Permutes (f : List ℕ → List ℕ) : Type 0 where
  pub block : (b : List ℕ) → IsBlock b → IsBlock (f b)
  pub once : (a b : List ℕ) → IsBlock a → IsBlock b → f a ≡ f b → a ≡ b

same_number : (a b : List ℕ) → IsBlock a → IsBlock b → number_of a ≡ number_of b → a ≡ b
same_number a b first second is =
    sym (block_of-number a first) ∙ ap block_of is ∙ block_of-number b second

never_none : (f : List ℕ → List ℕ) (target : List ℕ) → Permutes f → IsBlock target
    → first_block (λ b. bytes_eq (f b) target) ≡ None → ⊥
unfolding first_block
never_none f target permutes is none =
    none_missed (256 ^ 16) (number_of target) (λ n. number_of (f (block_of n)))
    (λ n below. number_of_block (f (block_of n)) (permutes.block (block_of n) (is_block n)))
    (λ m n first second same.
    sym (number_of-octets 16 m first)
    ∙ ap number_of (permutes.once (block_of m) (block_of n) (is_block m) (is_block n)
    (same_number (f (block_of m)) (f (block_of n)) (permutes.block (block_of m) (is_block m))
    (permutes.block (block_of n) (is_block n)) same))
    ∙ number_of-octets 16 n second)
    (number_of_block target is)
    (λ n below same.
    let passes : bytes_eq (f (block_of n)) target ≡ true =
    (bytes_eq-Decides (f (block_of n)) target).1
    (same_number (f (block_of n)) target (permutes.block (block_of n) (is_block n)) is same) in
    let fails : bytes_eq (f (block_of n)) target ≡ false =
    all_fail (λ b. bytes_eq (f b) target) (256 ^ 16) none n below in
    absurd cc)

there : (found : Option (List ℕ)) → (found ≡ None → ⊥) → is_some found ≡ true
there None never = absurd (never refl)
there (Some b) never = refl

pub always_found : (f : List ℕ → List ℕ) (target : List ℕ) → Permutes f → IsBlock target
    → is_some (first_block (λ b. bytes_eq (f b) target)) ≡ true
always_found f target permutes is =
    there (first_block (λ b. bytes_eq (f b) target)) (never_none f target permutes is)
