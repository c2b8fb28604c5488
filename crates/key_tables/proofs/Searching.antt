-- A search that halves what is left: where the row is, and how many comparisons it takes.
use Prim.Native.Nat.{zero, suc}
use Rattle.std.proofs.Common.{◌≡◌, ℕ, ◌<◌, ◌≤◌, ◌+◌, ◌*◌, ◌^◌, ◌⊎◌, inl, inr, Bool, true, false, Ordering, Less, Equal, Greater, arith, List, [], ◌∷◌, length, Option, Some, None, refl, sym, ap, subst, ◌∙◌, slice_index_or, slice_get, option_map, cond, nat_lt}
use Rattle.std.specs.List.Sorted.{IsStrictlySortedBy}
use Rattle.std.specs.Map.{keys_of, lookup}
use Rattle.std.specs.Ordering.{is_eq, ordering_reverse}
use Rattle.std.proofs.Math.ListN.{get_or-map}
use Rattle.std.proofs.Math.Nat.{eq-or-lt_of_le, two-pow-succ}
use Rattle.std.proofs.lemmas.Bool.Decides.{nat_tests}
use Rattle.std.proofs.lemmas.List.{length-map}
use Rattle.std.proofs.lemmas.Map.Keys.{Less-from_sorted}
use Rattle.std.proofs.lemmas.Nat.{mul-le}
use Rattle.std.proofs.lemmas.Option.{slice_get-get_or, same_Some}
use Rattle.key_tables.specs.declared.types.RowKey.{RowKey}
use Rattle.key_tables.specs.declared.types.RowValue.{RowValue}
use Rattle.key_tables.specs.Index.{same_key, key_cmp, AddsSteps}
use Rattle.key_tables.specs.Seen.{StandsAt}
use Rattle.key_tables.proofs.KeyOrder.{total, same_is_equal, same_turned, equal_is}

abbrev Entry : Type 0
Entry = RowKey × RowValue

-- ---- steps

doubled : (p m : ℕ) → (p + p) * m ≡ p * (m + m)
doubled p m = grind arith

-- so many comparisons were taken, and each halved what was left of the rows
pub record Halves (rows left before now : ℕ) : Type 0 where
  pub taken : ℕ
  pub now_is : now ≡ before + taken
  pub halved : 2 ^ taken * left ≤ rows
  pub bound : 2 ^ taken ≤ 2 * rows + 1

pub no_steps : (rows before : ℕ) → Halves rows rows before before
no_steps rows before = record {
  taken = 0;
  now_is = omega arith;
  halved = omega arith;
  bound = omega arith;
}

double : (taken : ℕ) → 2 ^ (taken + 1) ≡ 2 ^ taken + 2 ^ taken
double taken = ap (λ n. 2 ^ n) (omega arith) ∙ two-pow-succ taken

-- one comparison more, where something was left, and at most half of it is left after
pub one_step : (rows left later before now new : ℕ) → Halves rows left before now → 0 < left → later + later ≤ left
    → new ≡ now + 1 → Halves rows later before new
one_step rows left later before now new halves some half step =
    let power = 2 ^ halves.taken in
    let fewer : power * (later + later) ≤ power * left = mul-le power (later + later) power left (omega arith) half in
    let one : power * 1 ≤ power * left = mul-le power 1 power left (omega arith) (omega (arith, some)) in
    record {
      taken = halves.taken + 1;
      now_is = omega (arith, step, halves.now_is);
      halved = subst (λ p. p * later ≤ rows) (sym (double halves.taken))
          (subst (λ n. n ≤ rows) (sym (doubled power later)) (omega (arith, fewer, halves.halved)));
      bound = subst (λ p. p ≤ 2 * rows + 1) (sym (double halves.taken)) (omega (arith, one, halves.halved));
    }

pub as_steps : (rows left before now : ℕ) → Halves rows left before now → AddsSteps 1 rows before now
as_steps rows left before now halves = record {
  each = halves.taken;
  few = halves.bound;
  later = omega (arith, halves.now_is);
  most = omega (arith, halves.now_is);
}

-- the most that one of two searches took
more_of : (rows a b : ℕ) → 2 ^ a ≤ 2 * rows + 1 → 2 ^ b ≤ 2 * rows + 1
    → (each : ℕ) × (2 ^ each ≤ 2 * rows + 1) × (a ≤ each) × (b ≤ each)
more_of rows a b first second = by_test (nat_lt a b) refl
  where
    by_test : (less : Bool) → nat_lt a b ≡ less
        → (each : ℕ) × (2 ^ each ≤ 2 * rows + 1) × (a ≤ each) × (b ≤ each)
    by_test true is = (b, second, grind (arith, nat_tests, is), omega arith)
    by_test false is = (a, first, omega arith, grind (arith, nat_tests, is))

pub two_searches : (rows before now later : ℕ) → AddsSteps 1 rows before now → AddsSteps 1 rows now later
    → AddsSteps 2 rows before later
two_searches rows before now later first second =
    let more = more_of rows first.each second.each first.few second.few in
    record {
      each = more.0;
      few = more.1;
      later = omega (arith, first.later, second.later);
      most = omega (arith, first.most, second.most, more.2, more.3);
    }

pub one_of_two : (rows before now : ℕ) → AddsSteps 1 rows before now → AddsSteps 2 rows before now
one_of_two rows before now one = record {
  each = one.each;
  few = one.few;
  later = one.later;
  most = omega (arith, one.most);
}

-- ---- places

-- the row can only be among those that are left
pub record IsLeft (index : List Entry) (wanted : RowKey) (low high : ℕ) : Type 0 where
  pub ordered : low ≤ high
  pub within : high ≤ length index
  pub ascend : IsStrictlySortedBy key_cmp (keys_of index)
  pub below : (k : ℕ) (d : Entry) → k < low → key_cmp (slice_index_or index k d).0 wanted ≡ Less
  pub above : (k : ℕ) (d : Entry) → high ≤ k → k < length index
      → key_cmp (slice_index_or index k d).0 wanted ≡ Greater

pub all_left : (index : List Entry) (wanted : RowKey) (high : ℕ) → IsStrictlySortedBy key_cmp (keys_of index)
    → high ≡ length index
    → IsLeft index wanted 0 high
all_left index wanted high ascend is = record {
  ordered = omega arith;
  within = omega (arith, is);
  ascend = ascend;
  below = λ k d before. absurd (omega (arith, before));
  above = λ k d after before. absurd (omega (arith, is, after, before));
}

-- what a comparison told of the row at a place
told : (index : List Entry) (place : ℕ) (d : Entry) (wanted : RowKey) (result : Ordering) → place < length index
    → option_map (λ e. key_cmp e.0 wanted) (slice_get index place) ≡ Some result
    → key_cmp (slice_index_or index place d).0 wanted ≡ result
told index place d wanted result within is =
    same_Some (key_cmp (slice_index_or index place d).0 wanted) result
    (ap (option_map (λ e. key_cmp e.0 wanted)) (sym (slice_get-get_or index place d within)) ∙ is)

keys_below : (index : List Entry) (i j : ℕ) (d : Entry) → IsStrictlySortedBy key_cmp (keys_of index) → i < j
    → j < length index
    → key_cmp (slice_index_or index i d).0 (slice_index_or index j d).0 ≡ Less
keys_below index i j d ascend before within =
    subst (λ b. key_cmp (slice_index_or index i d).0 b ≡ Less) (get_or-map (λ e. e.0) index j d)
    (subst (λ a. key_cmp a (slice_index_or (keys_of index) j d.0) ≡ Less) (get_or-map (λ e. e.0) index i d)
    (Less-from_sorted key_cmp (keys_of index) i j d.0 ascend before
    (omega (arith, within, length-map index (λ e. e.0)))))

-- before a row that comes before the wanted one all do
before_it : (index : List Entry) (wanted : RowKey) (k place : ℕ) (d : Entry)
    → IsStrictlySortedBy key_cmp (keys_of index)
    → place < length index → key_cmp (slice_index_or index place d).0 wanted ≡ Less → k < place + 1
    → key_cmp (slice_index_or index k d).0 wanted ≡ Less
before_it index wanted k place d ascend within less before = by_place (eq-or-lt_of_le (omega (arith, before)))
  where
    by_place : (k ≡ place) ⊎ (k < place) → key_cmp (slice_index_or index k d).0 wanted ≡ Less
    by_place (inr earlier) =
        total.trans (slice_index_or index k d).0 (slice_index_or index place d).0 wanted
        (keys_below index k place d ascend earlier within) less
    by_place (inl same) = subst (λ i. key_cmp (slice_index_or index i d).0 wanted ≡ Less) (sym same) less

turned : (a b : RowKey) (o : Ordering) → key_cmp a b ≡ o → key_cmp b a ≡ ordering_reverse o
turned a b o is = total.antisymm b a ∙ ap ordering_reverse is

after_it : (index : List Entry) (wanted : RowKey) (k place : ℕ) (d : Entry)
    → IsStrictlySortedBy key_cmp (keys_of index)
    → k < length index → key_cmp (slice_index_or index place d).0 wanted ≡ Greater → place ≤ k
    → key_cmp (slice_index_or index k d).0 wanted ≡ Greater
after_it index wanted k place d ascend within greater after = by_place (eq-or-lt_of_le after)
  where
    by_place : (place ≡ k) ⊎ (place < k) → key_cmp (slice_index_or index k d).0 wanted ≡ Greater
    by_place (inr later) =
        turned wanted (slice_index_or index k d).0 Less
        (total.trans wanted (slice_index_or index place d).0 (slice_index_or index k d).0
        (turned (slice_index_or index place d).0 wanted Greater greater)
        (keys_below index place k d ascend later within))
    by_place (inl same) = subst (λ i. key_cmp (slice_index_or index i d).0 wanted ≡ Greater) same greater

pub upper_left : (index : List Entry) (wanted : RowKey) (low high place : ℕ) → IsLeft index wanted low high
    → low ≤ place → place < high
    → option_map (λ e. key_cmp e.0 wanted) (slice_get index place) ≡ Some Less
    → IsLeft index wanted (place + 1) high
upper_left index wanted low high place left from to less =
    let inside : place < length index = omega (arith, to, left.within) in
    record {
      ordered = omega (arith, to);
      within = left.within;
      ascend = left.ascend;
      below = λ k d before. before_it index wanted k place d left.ascend inside
          (told index place d wanted Less inside less) before;
      above = left.above;
    }

pub lower_left : (index : List Entry) (wanted : RowKey) (low high place : ℕ) → IsLeft index wanted low high
    → low ≤ place → place < high
    → option_map (λ e. key_cmp e.0 wanted) (slice_get index place) ≡ Some Greater
    → IsLeft index wanted low place
lower_left index wanted low high place left from to greater =
    let inside : place < length index = omega (arith, to, left.within) in
    record {
      ordered = from;
      within = omega (arith, inside);
      ascend = left.ascend;
      below = left.below;
      above = λ k d after before. after_it index wanted k place d left.ascend before
          (told index place d wanted Greater inside greater) after;
    }

-- ---- ends

pub stands : (index : List Entry) (wanted : RowKey) (low high place : ℕ) → IsLeft index wanted low high
    → place < length index
    → option_map (λ e. key_cmp e.0 wanted) (slice_get index place) ≡ Some Equal
    → StandsAt index wanted place
stands index wanted low high place left within is = record {
  within = within;
  is = found (slice_get index place) is;
  ascend = left.ascend;
}
  where
    found : (o : Option Entry) → option_map (λ e. key_cmp e.0 wanted) o ≡ Some Equal
        → option_map (λ e. e.0) o ≡ Some wanted
    found None is = absurd cc
    found (Some e) is = ap Some (equal_is e.0 wanted (same_Some (key_cmp e.0 wanted) Equal is))

pub none_found : (test : RowKey → Bool) (es : List Entry)
    → ((k : ℕ) (d : Entry) → k < length es → test (slice_index_or es k d).0 ≡ false)
    → lookup test es ≡ None
none_found test [] none = refl
none_found test (e ∷ es) none =
    ap (λ b. cond b (Some e.1) (lookup test es)) (none zero e (omega arith))
    ∙ none_found test es (λ k d within. none (suc k) d (omega (arith, within)))

other : (key wanted : RowKey) (o : Ordering) → key_cmp key wanted ≡ o → is_eq o ≡ false → same_key wanted key ≡ false
other key wanted o is apart = same_turned wanted key ∙ sym (same_is_equal key wanted) ∙ ap is_eq is ∙ apart

pub nowhere : (index : List Entry) (wanted : RowKey) (low high : ℕ) → IsLeft index wanted low high → high ≤ low
    → lookup (same_key wanted) index ≡ None
nowhere index wanted low high left empty =
    none_found (same_key wanted) index (λ k d within. at k d within (nat_lt k low) refl)
  where
    at : (k : ℕ) (d : Entry) → k < length index → (b : Bool) → nat_lt k low ≡ b
        → same_key wanted (slice_index_or index k d).0 ≡ false
    at k d within true is =
        other (slice_index_or index k d).0 wanted Less (left.below k d (grind (arith, nat_tests, is))) refl
    at k d within false is =
        other (slice_index_or index k d).0 wanted Greater (left.above k d (grind (arith, nat_tests, is, empty)) within)
        refl
