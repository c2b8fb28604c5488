-- The rows of one kind, sorted by what they are found by, ascend: no two of them are found by the same.
use Prim.Native.Nat.{zero, suc}
use Rattle.std.proofs.Common.{◌≡◌, ℕ, ◌<◌, ◌+◌, false, Ordering, Less, Equal, Greater, arith, List, [], ◌∷◌, length, Option, Some, None, refl, sym, ap, subst, ◌∙◌, slice_index_or, slice_get, option_map}
use Rattle.std.specs.List.{All, AllByRecursion, IsDistinct, filter_map, cons_option}
use Rattle.std.specs.List.Sorted.{IsPermutation, IsSortedByKey, IsStrictlySortedBy}
use Rattle.std.specs.Map.{keys_of}
use Rattle.std.specs.Ordering.{is_lt, is_eq, ordering_reverse}
use Rattle.std.proofs.Math.ListN.{get_or-map}
use Rattle.std.proofs.lemmas.List.{length-map}
use Rattle.std.proofs.lemmas.List.Sorted.{IsPermutation-map}
use Rattle.std.proofs.lemmas.Map.Keys.{IsDistinct-cons, IsDistinct-IsPermutation, apart_from_distinct, sorted_from_all_adjacent}
use Rattle.std.proofs.lemmas.Option.{slice_get_read}
use Rattle.key_tables.specs.declared.types.Channel.TheVariants as channel
use Rattle.key_tables.specs.declared.types.Row.{Row}
use Rattle.key_tables.specs.declared.types.Row.TheVariants as row
use Rattle.key_tables.specs.declared.types.RowKey.{RowKey}
use Rattle.key_tables.specs.declared.types.RowKey.TheVariants as under
use Rattle.key_tables.specs.declared.types.RowValue.{RowValue}
use Rattle.key_tables.specs.contracts.types.RowKeyOrd.TheImpl.{cmp-value}
use Rattle.key_tables.specs.Build.{repeats, AreApart, NoneTwice}
use Rattle.key_tables.specs.Index.{same_key, key_cmp, row_key_of, key_entry, role_entry, key_entries, role_entries, AreInOrder}
use Rattle.key_tables.proofs.KeyOrder.{cmp_is, order_is, total, same_is_equal, same_turned}

-- a row repeats another where both are found by the same
pub repeats_is : (this other : Row) → repeats this other ≡ same_key (row_key_of this) (row_key_of other)
repeats_is (row.Group _ _ _) (row.Group _ _ _) = refl
repeats_is (row.Group _ _ _) (row.Tool _ _) = refl
repeats_is (row.Group _ _ _) (row.Role _ _ _) = refl
repeats_is (row.Tool _ _) (row.Group _ _ _) = refl
repeats_is (row.Tool _ _) (row.Tool _ _) = refl
repeats_is (row.Tool _ _) (row.Role _ _ _) = refl
repeats_is (row.Role _ _ _) (row.Group _ _ _) = refl
repeats_is (row.Role _ _ _) (row.Tool _ _) = refl
repeats_is (row.Role _ _ _) (row.Role _ _ _) = refl

abbrev Entry : Type 0
Entry = RowKey × RowValue

-- the rows that have an entry stand under what they are found by
abbrev IsNamed : (Row → Option Entry) → Type 0
IsNamed entry = (this : Row) (e : Entry) → entry this ≡ Some e → e.0 ≡ row_key_of this

abbrev first_key : RowKey → Option Entry → RowKey
first_key key None = key
first_key key (Some e) = e.0

pub key_named : IsNamed key_entry
key_named (row.Group address key level) e is = ap (first_key (under.Key (channel.Group address))) (sym is)
key_named (row.Tool device key) e is = ap (first_key (under.Key (channel.Tool device))) (sym is)
key_named (row.Role c sender role) e is = absurd cc

pub role_named : IsNamed role_entry
role_named (row.Group address key level) e is = absurd cc
role_named (row.Tool device key) e is = absurd cc
role_named (row.Role c sender role) e is = ap (first_key (under.Role c sender)) (sym is)

-- ---- no two are found by the same

one_apart : (entry : Row → Option Entry) (key : RowKey) (other : Row) (o : Option Entry) (rest : List Entry)
    → ((f : Entry) → o ≡ Some f → same_key key f.0 ≡ false)
    → AllByRecursion (λ k. same_key key k ≡ false) (keys_of rest)
    → AllByRecursion (λ k. same_key key k ≡ false) (keys_of (cons_option o rest))
one_apart entry key other None rest here there = there
one_apart entry key other (Some f) rest here there = (here f refl, there)

all_apart : (entry : Row → Option Entry) → IsNamed entry → (this : Row) (rest : List Row) → All (AreApart this) rest
    → AllByRecursion (λ k. same_key (row_key_of this) k ≡ false) (keys_of (filter_map entry rest))
all_apart entry named this [] apart = tt
all_apart entry named this (other ∷ rest) apart =
    let first : AreApart this other = apart zero other (omega arith) in
    one_apart entry (row_key_of this) other (entry other) (filter_map entry rest)
    (λ f is. ap (same_key (row_key_of this)) (named other f is) ∙ sym (repeats_is this other) ∙ first.0)
    (all_apart entry named this rest (λ k d within. apart (suc k) d (omega arith)))

one_distinct : (entry : Row → Option Entry) (this : Row) (o : Option Entry) (rest : List Entry)
    → ((e : Entry) → o ≡ Some e → e.0 ≡ row_key_of this)
    → AllByRecursion (λ k. same_key (row_key_of this) k ≡ false) (keys_of rest) → IsDistinct same_key (keys_of rest)
    → IsDistinct same_key (keys_of (cons_option o rest))
one_distinct entry this None rest named apart distinct = distinct
one_distinct entry this (Some e) rest named apart distinct =
    IsDistinct-cons same_key e.0 (keys_of rest)
    (subst (λ key. AllByRecursion (λ k. same_key key k ≡ false) (keys_of rest)) (sym (named e refl)) apart) distinct

pub entries_distinct : (entry : Row → Option Entry) → IsNamed entry → (rows : List Row) → NoneTwice rows
    → IsDistinct same_key (keys_of (filter_map entry rows))
unfolding IsDistinct
entries_distinct entry named [] once = tt
entries_distinct entry named (this ∷ rows) once =
    one_distinct entry this (entry this) (filter_map entry rows) (named this)
    (all_apart entry named this rows (λ k d within. once zero (suc k) d (omega arith) (omega arith)))
    (entries_distinct entry named rows (λ i j d before within. once (suc i) (suc j) d (omega arith) (omega arith)))

-- ---- sorted, they ascend

is_below : (o : Ordering) → is_lt (ordering_reverse o) ≡ false → is_eq o ≡ false → o ≡ Less
is_below Less not_above apart = refl
is_below Equal not_above apart = absurd cc
is_below Greater not_above apart = absurd cc

next_below : (a b : RowKey) → is_lt (key_cmp b a) ≡ false → same_key a b ≡ false → key_cmp a b ≡ Less
next_below a b not_above apart =
    is_below (key_cmp a b) (ap is_lt (sym (total.antisymm b a)) ∙ not_above) (same_is_equal a b ∙ apart)

sorted_ascend : (sorted : List Entry) → IsSortedByKey (λ e. e.0) key_cmp sorted → IsDistinct same_key (keys_of sorted)
    → IsStrictlySortedBy key_cmp (keys_of sorted)
unfolding IsStrictlySortedBy
sorted_ascend [] ascend distinct = tt
sorted_ascend (e ∷ rest) ascend distinct =
    sorted_from_all_adjacent total (keys_of (e ∷ rest)) e.0 (λ k within.
    let all = e ∷ rest in
    next_below (slice_index_or (keys_of all) k e.0) (slice_index_or (keys_of all) (k + 1) e.0)
    (subst (λ b. is_lt (key_cmp b (slice_index_or (keys_of all) k e.0)) ≡ false)
    (sym (get_or-map (λ x. x.0) all (k + 1) e))
    (subst (λ a. is_lt (key_cmp (slice_index_or all (k + 1) e).0 a) ≡ false) (sym (get_or-map (λ x. x.0) all k e))
    (ascend k e (omega arith) (omega (arith, within, length-map all (λ x. x.0))))))
    (apart_from_distinct same_key (keys_of all) k (k + 1) e.0 distinct (omega arith) within))

pub keys_distinct : (rows : List Row) → NoneTwice rows → IsDistinct same_key (keys_of (key_entries rows))
keys_distinct rows once = entries_distinct key_entry key_named rows once

pub roles_distinct : (rows : List Row) → NoneTwice rows → IsDistinct same_key (keys_of (role_entries rows))
roles_distinct rows once = entries_distinct role_entry role_named rows once

pub sorted_in_order : (entries sorted : List Entry) → IsDistinct same_key (keys_of entries)
    → IsPermutation entries sorted → IsSortedByKey (λ e. e.0) cmp-value.it sorted
    → AreInOrder entries sorted
sorted_in_order entries sorted distinct moved ascend = record {
  moved = moved;
  ascend = sorted_ascend sorted (subst (λ order. IsSortedByKey (λ e. e.0) order sorted) order_is ascend)
      (IsDistinct-IsPermutation same_key same_turned (keys_of entries) (keys_of sorted)
      (IsPermutation-map (λ e. e.0) entries sorted moved) distinct);
}

-- ---- one of them is compared

pub compared_at : (index : List Entry) (place : ℕ) (wanted : RowKey) (e : Entry) (result : Ordering)
    → place < length index → e ≡ slice_index_or index place e → result ≡ cmp-value.it e.0 wanted
    → option_map (λ e. key_cmp e.0 wanted) (slice_get index place) ≡ Some result
compared_at index place wanted e result within at is =
    ap (option_map (λ e. key_cmp e.0 wanted)) (slice_get_read index (length index) place e refl within at)
    ∙ ap Some (sym (cmp_is e.0 wanted) ∙ sym is)
