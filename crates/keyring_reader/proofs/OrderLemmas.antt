-- What is put into its place among others in order leaves them in order, and is there.
use Rattle.std.proofs.Common.{◌≡◌, ◌==◌, ℕ, Bool, true, false, ◌||◌, List, [], ◌∷◌, map, fold, Ordering, refl, sym, ap, subst, ◌∙◌, nat_cmp}
use Rattle.std.specs.Cmp.{IsTotalOrder}
use Rattle.std.specs.Ordering.{match_ordering, ordering_reverse}
use Rattle.std.specs.declared.cmp.Ordering.TheVariants.{Less, Equal, Greater}
use Rattle.std.specs.List.{AllByRecursion, list_any}
use Rattle.std.specs.List.Sorted.{IsStrictlySortedBy}
use Rattle.std.specs.BTreeMap.{insert_entry}
use Rattle.std.specs.BTreeSet.{insert_key}
use Rattle.std.specs.Cmp.Lexicographic.{slice_cmp}
use Rattle.std.proofs.lemmas.Cmp.{nat_cmp_total, nat_list_cmp_total, on_total}
use Rattle.std.proofs.lemmas.Map.Lookups.{exact_unsigned}
use Rattle.keyring_reader.specs.Roles.{ascending}
use Rattle.keyring_reader.specs.Signed.{placed, by_name}
use Rattle.keyring_reader.proofs.ListedLemmas.{or_false}

pub all_of_one : {K : Type 0} (P : K → Type 0) (order : Ordering) (a b c : List K) → AllByRecursion P a
    → AllByRecursion P b → AllByRecursion P c
    → AllByRecursion P (match_ordering order a b c)
all_of_one P Less a b c in_a in_b in_c = in_a
all_of_one P Equal a b c in_a in_b in_c = in_b
all_of_one P Greater a b c in_a in_b in_c = in_c

all_put : {K : Type 0} (R : K → K → Ordering) (P : K → Type 0) (k : K) (ks : List K) → P k → AllByRecursion P ks
    → AllByRecursion P (insert_key R ks k)
all_put R P k [] here all = (here, tt)
all_put R P k (x ∷ xs) here all =
    all_of_one P (R k x) (k ∷ x ∷ xs) (x ∷ xs) (x ∷ insert_key R xs k) (here, all) all
    (all.0, all_put R P k xs here all.1)

all_above : {K : Type 0} {R : K → K → Ordering} (o : IsTotalOrder R) (k x : K) (xs : List K) → R k x ≡ Less
    → AllByRecursion (λ y. R x y ≡ Less) xs
    → AllByRecursion (λ y. R k y ≡ Less) xs
all_above o k x [] below all = tt
all_above o k x (y ∷ xs) below all = (o.trans k x y below all.0, all_above o k x xs below all.1)

sorted_at : {K : Type 0} {R : K → K → Ordering} (o : IsTotalOrder R) (order : Ordering) (k x : K) (xs : List K)
    → R k x ≡ order → IsStrictlySortedBy R (x ∷ xs)
    → IsStrictlySortedBy R (insert_key R xs k) → IsStrictlySortedBy R
    (match_ordering order (k ∷ x ∷ xs) (x ∷ xs) (x ∷ insert_key R xs k))
unfolding IsStrictlySortedBy
sorted_at o Less k x xs is sorted later = ((is, all_above o k x xs is sorted.0), sorted)
sorted_at o Equal k x xs is sorted later = sorted
sorted_at {K} {R} o Greater k x xs is sorted later =
    (all_put R (λ y. R x y ≡ Less) k xs (o.antisymm x k ∙ ap ordering_reverse is) sorted.0, later)

sorted_put : {K : Type 0} {R : K → K → Ordering} (o : IsTotalOrder R) (k : K) (ks : List K) → IsStrictlySortedBy R ks
    → IsStrictlySortedBy R (insert_key R ks k)
unfolding IsStrictlySortedBy
sorted_put o k [] sorted = (tt, tt)
sorted_put {K} {R} o k (x ∷ xs) sorted = sorted_at o (R k x) k x xs refl sorted (sorted_put o k xs sorted.1)

sorted_all : {K : Type 0} {R : K → K → Ordering} (o : IsTotalOrder R) (ks xs : List K) → IsStrictlySortedBy R ks
    → IsStrictlySortedBy R (fold (insert_key R) ks xs)
sorted_all o ks [] sorted = sorted
sorted_all {K} {R} o ks (x ∷ xs) sorted = sorted_all o (insert_key R ks x) xs (sorted_put o x ks sorted)

pub ascends : {A : Type 0} (number : A → ℕ) (xs : List A)
    → IsStrictlySortedBy (λ a b. nat_cmp (number a) (number b)) (ascending number xs)
unfolding ascending IsStrictlySortedBy
ascends number xs = sorted_all (on_total number nat_cmp_total) [] xs tt

either_first : (x k rest : Bool) → (x || (k || rest)) ≡ (k || (x || rest))
either_first true true rest = refl
either_first true false rest = refl
either_first false true rest = refl
either_first false false rest = refl

twice_or : (k rest : Bool) → (k || rest) ≡ (k || (k || rest))
twice_or true rest = refl
twice_or false rest = refl

there_at : {A : Type 0} (number : A → ℕ) (n : ℕ) (order : Ordering) (k x : A) (xs later : List A)
    → nat_cmp (number k) (number x) ≡ order
    → list_any (λ y. number y == n) later ≡ ((number k == n) || list_any (λ y. number y == n) xs)
    → list_any (λ y. number y == n) (match_ordering order (k ∷ x ∷ xs) (x ∷ xs) (x ∷ later))
    ≡ ((number k == n) || list_any (λ y. number y == n) (x ∷ xs))
there_at number n Less k x xs later is there = refl
there_at number n Equal k x xs later is there =
    let same : number k ≡ number x = exact_unsigned (number k) (number x) is in
    twice_or (number x == n) (list_any (λ y. number y == n) xs)
    ∙ ap (λ (m : ℕ). (m == n) || ((number x == n) || list_any (λ y. number y == n) xs)) (sym same)
there_at number n Greater k x xs later is there =
    ap (λ (rest : Bool). (number x == n) || rest) there
    ∙ either_first (number x == n) (number k == n) (list_any (λ y. number y == n) xs)

there_put : {A : Type 0} (number : A → ℕ) (n : ℕ) (k : A) (ks : List A)
    → list_any (λ y. number y == n) (insert_key (λ a b. nat_cmp (number a) (number b)) ks k)
    ≡ ((number k == n) || list_any (λ y. number y == n) ks)
there_put number n k [] = refl
there_put number n k (x ∷ xs) =
    there_at number n (nat_cmp (number k) (number x)) k x xs (insert_key (λ a b. nat_cmp (number a) (number b)) xs k)
    refl (there_put number n k xs)

or_assoc : (a b c : Bool) → (a || (b || c)) ≡ ((b || a) || c)
or_assoc true true c = refl
or_assoc true false c = refl
or_assoc false true c = refl
or_assoc false false c = refl

there_all : {A : Type 0} (number : A → ℕ) (n : ℕ) (ks xs : List A)
    → list_any (λ y. number y == n) (fold (insert_key (λ a b. nat_cmp (number a) (number b))) ks xs)
    ≡ (list_any (λ y. number y == n) ks || list_any (λ y. number y == n) xs)
there_all number n ks [] = sym (or_false (list_any (λ y. number y == n) ks))
there_all number n ks (x ∷ xs) =
    there_all number n (insert_key (λ a b. nat_cmp (number a) (number b)) ks x) xs
    ∙ ap (λ (b : Bool). b || list_any (λ y. number y == n) xs) (there_put number n x ks)
    ∙ sym (or_assoc (list_any (λ y. number y == n) ks) (number x == n) (list_any (λ y. number y == n) xs))

pub stays : {A : Type 0} (number : A → ℕ) (n : ℕ) (xs : List A)
    → list_any (λ y. number y == n) (ascending number xs) ≡ list_any (λ y. number y == n) xs
unfolding ascending
stays number n xs = there_all number n [] xs

-- ---- attributes by their names

abbrev Pair : Type 0
Pair = List ℕ × List ℕ

names_of_one : (order : Ordering) (a b c : List Pair)
    → map (λ (p : Pair). p.0) (match_ordering order a b c) ≡ match_ordering order (map (λ (p : Pair). p.0) a)
    (map (λ (p : Pair). p.0) b) (map (λ (p : Pair). p.0) c)
names_of_one Less a b c = refl
names_of_one Equal a b c = refl
names_of_one Greater a b c = refl

names_put : (pairs : List Pair) (name value : List ℕ)
    → map (λ (p : Pair). p.0) (insert_entry (slice_cmp nat_cmp) pairs name value)
    ≡ insert_key (slice_cmp nat_cmp) (map (λ (p : Pair). p.0) pairs) name
names_put [] name value = refl
names_put (pair ∷ pairs) name value =
    names_of_one (slice_cmp nat_cmp name pair.0) ((name, value) ∷ pair ∷ pairs) ((pair.0, value) ∷ pairs)
    (pair ∷ insert_entry (slice_cmp nat_cmp) pairs name value)
    ∙ ap (λ (rest : List (List ℕ)). match_ordering (slice_cmp nat_cmp name pair.0)
    (name ∷ pair.0 ∷ map (λ (p : Pair). p.0) pairs) (pair.0 ∷ map (λ (p : Pair). p.0) pairs) (pair.0 ∷ rest))
    (names_put pairs name value)

names_all : (ordered attributes : List Pair) → IsStrictlySortedBy (slice_cmp nat_cmp) (map (λ (p : Pair). p.0) ordered)
    → IsStrictlySortedBy (slice_cmp nat_cmp) (map (λ (p : Pair). p.0) (fold placed ordered attributes))
names_all ordered [] sorted = sorted
names_all ordered (attribute ∷ attributes) sorted =
    names_all (placed ordered attribute) attributes
    (subst (λ (names : List (List ℕ)). IsStrictlySortedBy (slice_cmp nat_cmp) names)
    (sym (names_put ordered attribute.0 attribute.1))
    (sorted_put nat_list_cmp_total attribute.0 (map (λ (p : Pair). p.0) ordered) sorted))

pub names_ascend : (attributes : List Pair) → IsStrictlySortedBy (slice_cmp nat_cmp)
    (map (λ (p : Pair). p.0) (by_name attributes))
unfolding by_name IsStrictlySortedBy
names_ascend attributes = names_all [] attributes tt
