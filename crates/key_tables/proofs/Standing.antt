-- Lists in which no row says again what another says, and of which there are few.
use Prim.Native.Nat.{zero, suc}
use Rattle.std.proofs.Common.{◌≡◌, ◌≢◌, ℕ, ◌<◌, ◌&&◌, Bool, true, false, cond, not, List, [], ◌∷◌, ◌++◌, length, Option, Some, None, refl, sym, subst, ◌∙◌, arith, append_assoc, slice_index_or, length-append}
use Rattle.std.specs.List.{All, AllPairs, filter, list_any}
use Rattle.std.specs.Option.{option_or}
use Rattle.std.proofs.Math.Seq.{get_or-append_seam}
use Rattle.std.proofs.lemmas.Bool.{eq-eqb, leb-false}
use Rattle.std.proofs.lemmas.List.{get_or_append_left}
use Rattle.std.proofs.lemmas.List.Elements.{All-append, All-tail, filter_passes}
use Rattle.std.proofs.lemmas.List.Folds.{list_any_at, list_any_none}
use Rattle.std.proofs.lemmas.List.Kept.{AllPairs-cons, AllPairs-filter}
use Rattle.std.proofs.lemmas.List.Quantifiers.{all_pairs_push}
use Rattle.knx_base.specs.declared.address.IndAddr.{IndAddr}
use Rattle.key_tables.specs.declared.types.Channel.{Channel}
use Rattle.key_tables.specs.declared.types.Channel.TheVariants as channel
use Rattle.key_tables.specs.declared.types.Row.{Row}
use Rattle.key_tables.specs.declared.types.Row.TheVariants as row
use Rattle.key_tables.specs.declared.faults.BuildFault.{BuildFault}
use Rattle.key_tables.specs.declared.faults.BuildFault.TheVariants.{Twice, TooMany}
use Rattle.key_tables.specs.Rows.{same_channel, same_sender}
use Rattle.key_tables.specs.Build.{repeats, displaces, is_repeated, is_full, is_key, is_role, is_kept, most_keys, most_roles, row_fault, first_fault, build_fault, merged, AreApart, NoneTwice, IsFault}
use Rattle.key_tables.proofs.Merging.{none_stronger}
use Rattle.key_tables.proofs.Unique.{both_true, key_repeats, role_repeats, stands_alone}

-- ---- rows that are apart

channel_itself : (c : Channel) → same_channel c c ≡ true
channel_itself (channel.Group address) = eq-eqb address.0 address.0 refl
channel_itself (channel.Tool device) = eq-eqb device.0 device.0 refl

sender_itself : (sender : Option IndAddr) → same_sender sender sender ≡ true
sender_itself None = refl
sender_itself (Some device) = eq-eqb device.0 device.0 refl

both_hold : (a b : Bool) → a ≡ true → b ≡ true → (a && b) ≡ true
both_hold true b first second = second
both_hold false b first second = absurd cc

-- a row that another repeats repeats it
repeats_back : (this other : Row) → repeats other this ≡ true → repeats this other ≡ true
repeats_back this (row.Group address key level) h =
    sym (key_repeats (channel.Group address) this (row.Group address key level) h)
    ∙ channel_itself (channel.Group address)
repeats_back this (row.Tool device key) h =
    sym (key_repeats (channel.Tool device) this (row.Tool device key) h) ∙ channel_itself (channel.Tool device)
repeats_back this (row.Role c sender role) h =
    sym (role_repeats c sender this (row.Role c sender role) h)
    ∙ both_hold (same_channel c c) (same_sender sender sender) (channel_itself c) (sender_itself sender)

unless_true : (a b : Bool) → (a ≡ true → b ≡ true) → b ≡ false → a ≡ false
unless_true true b stronger h = let also = stronger refl in absurd cc
unless_true false b stronger h = refl

apart : (this other : Row) → repeats this other ≡ false → AreApart other this
apart this other h = (unless_true (repeats other this) (repeats this other) (repeats_back this other) h, h)

none_passes : (p : Row → Bool) (rows : List Row) → list_any p rows ≡ false → All (λ other. p other ≡ false) rows
none_passes p rows none k d within =
    unless_true (p (slice_index_or rows k d)) (list_any p rows) (list_any_at p rows k d within) none

-- ---- one row more

pub one_more_once : (rows : List Row) (row : Row) → NoneTwice rows → row_fault rows row ≡ None
    → NoneTwice (rows ++ row ∷ [])
one_more_once rows row once stands =
    all_pairs_push AreApart rows row once
    (λ k d within. apart row (slice_index_or rows k d) (none_passes (repeats row) rows (stands_alone rows row stands) k
    d within))

pub room_for_key : (rows : List Row) (row : Row) → is_key row ≡ true → is_full rows row ≡ false
    → length (filter is_key rows) < most_keys
room_for_key rows (row.Group _ _ _) kind room = leb-false most_keys (length (filter is_key rows)) room
room_for_key rows (row.Tool _ _) kind room = leb-false most_keys (length (filter is_key rows)) room
room_for_key rows (row.Role _ _ _) kind room = absurd cc

pub room_for_role : (rows : List Row) (row : Row) → is_key row ≡ false → is_full rows row ≡ false
    → length (filter is_role rows) < most_roles
room_for_role rows (row.Group _ _ _) kind room = absurd cc
room_for_role rows (row.Tool _ _) kind room = absurd cc
room_for_role rows (row.Role _ _ _) kind room = leb-false most_roles (length (filter is_role rows)) room

-- ---- merged lists

pairs_append : (R : Row → Row → Type 0) (xs ys : List Row) → AllPairs R xs → AllPairs R ys → All (λ x. All (R x) ys) xs
    → AllPairs R (xs ++ ys)
pairs_append R [] ys first second across = second
pairs_append R (x ∷ xs) ys first second across =
    AllPairs-cons R x (xs ++ ys)
    (All-append (R x) xs ys (λ k d within. first zero (suc k) d (omega arith) (omega arith))
    (across zero x (omega arith)))
    (pairs_append R xs ys (λ i j d before within. first (suc i) (suc j) d (omega arith) (omega arith)) second
    (All-tail (λ y. All (R y) ys) x xs across))

repeats_displaces : (this other : Row) → repeats this other ≡ true → displaces this other ≡ true
repeats_displaces (row.Group _ _ _) other h = h
repeats_displaces (row.Tool _ _) other h = h
repeats_displaces (row.Role c sender _) other h = (both_true _ _ h).0

is_not : (b : Bool) → not b ≡ true → b ≡ false
is_not true h = absurd cc
is_not false h = refl

-- a row that is kept under a list repeats none of it
kept_apart : (over : List Row) (this : Row) → is_kept over this ≡ true → All (λ other. AreApart other this) over
kept_apart over this kept k d within =
    apart this (slice_index_or over k d)
    (none_passes (repeats this) over
    (none_stronger (repeats this) (displaces this) (repeats_displaces this) over
    (is_not (list_any (displaces this) over) kept)) k d within)

pub merged_once : (over under : List Row) → NoneTwice over → NoneTwice under → NoneTwice (merged over under)
unfolding merged
merged_once over under once_over once_under =
    let kept = filter (is_kept over) under in
    pairs_append AreApart over kept once_over (AllPairs-filter AreApart (is_kept over) under once_under)
    (λ k d within. λ j e there.
    kept_apart over (slice_index_or kept j e) (filter_passes (is_kept over) under j e there) k d within)

-- ---- no row is the second of its kind

not_repeated : (before later : List Row) (this : Row) → NoneTwice (before ++ this ∷ later)
    → is_repeated before this ≡ false
not_repeated before later this once = list_any_none (repeats this) before (λ k d within.
    let all = before ++ this ∷ later in
    let both : AreApart (slice_index_or all k d) (slice_index_or all (length before) d) =
    once k (length before) d within (omega (arith, length-append before (this ∷ later)))
    in
    subst (λ other. repeats this other ≡ false) (get_or_append_left before (this ∷ later) d k within)
    (subst (λ row. repeats row (slice_index_or all k d) ≡ false) (get_or-append_seam before this later d) both.1))

other_fault : (repeated full : Bool) (twice place : ℕ) (later : Option BuildFault) → repeated ≡ false
    → (later ≡ Some (Twice twice) → ⊥)
    → option_or (cond repeated (Some (Twice place)) (cond full (Some (TooMany place)) None)) later ≡ Some (Twice twice)
    → ⊥
other_fault true full twice place later first never found = absurd cc
other_fault false true twice place later first never found = absurd cc
other_fault false false twice place later first never found = never found

no_first_twice : (before rows : List Row) (twice : ℕ) → NoneTwice (before ++ rows)
    → first_fault before rows ≡ Some (Twice twice) → ⊥
unfolding row_fault
no_first_twice before [] twice once found = absurd cc
no_first_twice before (this ∷ rows) twice once found =
    other_fault (is_repeated before this) (is_full before this) twice (length before)
    (first_fault (before ++ this ∷ []) rows)
    (not_repeated before rows this once)
    (no_first_twice (before ++ this ∷ []) rows twice (subst NoneTwice (sym (append_assoc before (this ∷ []) rows))
    once))
    found

-- where neither list says anything twice, merging them has another fault
pub merged_never_twice : (over under : List Row) (fault : BuildFault) → IsFault fault (build_fault (merged over under))
    → NoneTwice over → NoneTwice under → (twice : ℕ) → fault ≢ Twice twice
unfolding build_fault
merged_never_twice over under fault told once_over once_under twice is =
    no_first_twice [] (merged over under) twice (merged_once over under once_over once_under)
    (subst (λ f. IsFault f (first_fault [] (merged over under))) is told)
