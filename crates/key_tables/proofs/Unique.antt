-- Of one channel there is one key, and of one sender on it one role: no row says again what one before it says.
use Prim.Native.Nat.{zero, suc}
use Rattle.std.proofs.Common.{◌≡◌, ℕ, ◌<◌, ◌&&◌, ◌||◌, Bool, true, false, cond, List, [], ◌∷◌, ◌++◌, length, Option, Some, None, find, refl, sym, ap, subst, ◌∙◌, arith, slice_index_or}
use Rattle.std.specs.List.{list_any}
use Rattle.std.specs.Option.{option_or, option_and_then, is_some}
use Rattle.std.proofs.lemmas.List.Folds.{list_any-append}
use Rattle.std.proofs.lemmas.Bool.Decides.{Decides-eqb}
use Rattle.knx_base.specs.declared.address.IndAddr.{IndAddr}
use Rattle.key_tables.specs.declared.types.Channel.{Channel}
use Rattle.key_tables.specs.declared.types.Channel.TheVariants as channel
use Rattle.key_tables.specs.declared.types.Row.{Row}
use Rattle.key_tables.specs.declared.types.Row.TheVariants as row
use Rattle.key_tables.specs.declared.faults.BuildFault.{BuildFault}
use Rattle.key_tables.specs.Rows.{same_channel, same_sender, is_key_row, is_role_row, row_key, row_level, row_role, has_key, has_role, EachSays, key_of, level_of, named_role}
use Rattle.key_tables.specs.Build.{repeats, is_repeated, is_full, row_fault, first_fault, build_fault}

-- ---- where there is an answer

step_found : {A : Type 0} (b any : Bool) (this : Row) (later : Option Row) (f : Row → Option A)
    → (b ≡ true → is_some (f this) ≡ true) → is_some (option_and_then f later) ≡ any
    → is_some (option_and_then f (cond b (Some this) later)) ≡ (b || any)
step_found true any this later f here h = here refl
step_found false any this later f here h = h

pub found_where : {A : Type 0} (p : Row → Bool) (f : Row → Option A)
    (each : (row : Row) → p row ≡ true → is_some (f row) ≡ true)
    (rows : List Row) → is_some (option_and_then f (find p rows)) ≡ list_any p rows
found_where p f each [] = refl
found_where p f each (this ∷ rows) = step_found (p this) _ this _ f (each this) (found_where p f each rows)

pub key_row_has_key : (channel : Channel) (row : Row) → is_key_row channel row ≡ true → is_some (row_key row) ≡ true
key_row_has_key channel (row.Group _ _ _) h = refl
key_row_has_key channel (row.Tool _ _) h = refl
key_row_has_key channel (row.Role _ _ _) h = absurd cc

pub key_row_has_level : (channel : Channel) (row : Row) → is_key_row channel row ≡ true → is_some (row_level row) ≡ true
key_row_has_level channel (row.Group _ _ _) h = refl
key_row_has_level channel (row.Tool _ _) h = refl
key_row_has_level channel (row.Role _ _ _) h = absurd cc

pub role_row_has_role : (channel : Channel) (sender : Option IndAddr) (row : Row)
    → is_role_row channel sender row ≡ true
    → is_some (row_role row) ≡ true
role_row_has_role channel sender (row.Group _ _ _) h = absurd cc
role_row_has_role channel sender (row.Tool _ _) h = absurd cc
role_row_has_role channel sender (row.Role _ _ _) h = refl

pub key_where : (rows : List Row) (channel : Channel) → is_some (key_of rows channel) ≡ has_key rows channel
unfolding key_of
key_where rows channel = found_where (is_key_row channel) row_key (key_row_has_key channel) rows

pub level_where : (rows : List Row) (channel : Channel) → is_some (level_of rows channel) ≡ has_key rows channel
unfolding level_of
level_where rows channel = found_where (is_key_row channel) row_level (key_row_has_level channel) rows

pub named_where : (rows : List Row) (channel : Channel) (sender : Option IndAddr)
    → is_some (named_role rows channel sender) ≡ has_role rows channel sender
unfolding named_role
named_where rows channel sender =
    found_where (is_role_row channel sender) row_role (role_row_has_role channel sender) rows

-- ---- there is one such row

pub same_is : (a b : Channel) → same_channel a b ≡ true → a ≡ b
same_is (channel.Group a) (channel.Group b) h = ap (λ n. channel.Group (record { 0 = n })) ((Decides-eqb a.0 b.0).0 h)
same_is (channel.Tool a) (channel.Tool b) h = ap (λ n. channel.Tool (record { 0 = n })) ((Decides-eqb a.0 b.0).0 h)
same_is (channel.Group a) (channel.Tool b) h = absurd cc
same_is (channel.Tool a) (channel.Group b) h = absurd cc

pub sender_is : (a b : Option IndAddr) → same_sender a b ≡ true → a ≡ b
sender_is None None h = refl
sender_is (Some a) (Some b) h = ap (λ n. Some (record { 0 = n })) ((Decides-eqb a.0 b.0).0 h)
sender_is None (Some b) h = absurd cc
sender_is (Some a) None h = absurd cc

pub both_true : (a b : Bool) → (a && b) ≡ true → (a ≡ true) × (b ≡ true)
both_true true b h = (refl, h)
both_true false b h = absurd cc

pub key_repeats : (wanted : Channel) (this other : Row) → is_key_row wanted this ≡ true
    → is_key_row wanted other ≡ repeats this other
key_repeats wanted (row.Group address _ _) other h =
    ap (λ c. is_key_row c other) (same_is wanted (channel.Group address) h)
key_repeats wanted (row.Tool device _) other h = ap (λ c. is_key_row c other) (same_is wanted (channel.Tool device) h)
key_repeats wanted (row.Role _ _ _) other h = absurd cc

pub role_repeats : (channel : Channel) (sender : Option IndAddr) (this other : Row)
    → is_role_row channel sender this ≡ true
    → is_role_row channel sender other ≡ repeats this other
role_repeats channel sender (row.Group _ _ _) other h = absurd cc
role_repeats channel sender (row.Tool _ _) other h = absurd cc
role_repeats channel sender (row.Role other_channel other_sender _) other h =
    let both = both_true (same_channel channel other_channel) (same_sender sender other_sender) h in
    ap (λ c. is_role_row c sender other) (same_is channel other_channel both.0)
    ∙ ap (λ s. is_role_row other_channel s other) (sender_is sender other_sender both.1)

no_first : {A : Type 0} (a b : Option A) → option_or a b ≡ None → (a ≡ None) × (b ≡ None)
no_first None b h = (refl, h)
no_first (Some x) b h = absurd cc

no_part : (a b : Bool) → (a || b) ≡ false → (a ≡ false) × (b ≡ false)
no_part true b h = absurd cc
no_part false b h = (refl, h)

no_fault : (repeated full : Bool) (twice many : Option BuildFault) → is_some twice ≡ true
    → cond repeated twice (cond full many None) ≡ None → repeated ≡ false
no_fault true full (Some fault) many some h = absurd cc
no_fault true full None many some h = absurd cc
no_fault false full twice many some h = refl

pub stands_alone : (before : List Row) (this : Row) → row_fault before this ≡ None → is_repeated before this ≡ false
unfolding row_fault
stands_alone before this h = no_fault (is_repeated before this) (is_full before this) _ _ refl h

-- a row of the list repeats none that stood before the list
not_before : (before rows : List Row) (this : Row) (k : ℕ) → first_fault before rows ≡ None → k < length rows
    → slice_index_or rows k this ≡ this → list_any (repeats this) before ≡ false
not_before before [] this k stand within at = absurd (omega arith)
not_before before (first ∷ rows) this zero stand within at =
    subst (λ r. list_any (repeats r) before ≡ false) at
    (stands_alone before first (no_first (row_fault before first) _ stand).0)
not_before before (first ∷ rows) this (suc k) stand within at =
    let later =
    not_before (before ++ first ∷ []) rows this k (no_first (row_fault before first) _ stand).1 (omega arith) at in
    (no_part (list_any (repeats this) before) _ (sym (list_any-append (repeats this) before (first ∷ [])) ∙ later)).0

one_row : (p : Row → Bool) (before rows : List Row) (this : Row) (k : ℕ)
    → ((other : Row) → p other ≡ repeats this other)
    → p this ≡ true → first_fault before rows ≡ None → k < length rows → slice_index_or rows k this ≡ this
    → find p rows ≡ Some this
one_row p before [] this k tells passes stand within at = absurd (omega arith)
one_row p before (first ∷ rows) this zero tells passes stand within at =
    ap (λ b. cond b (Some first) (find p rows)) (ap p at ∙ passes) ∙ ap Some at
one_row p before (first ∷ rows) this (suc k) tells passes stand within at =
    let stand_later = (no_first (row_fault before first) _ stand).1 in
    let apart = not_before (before ++ first ∷ []) rows this k stand_later (omega arith) at in
    let first_apart = (no_part (repeats this first) false
    (no_part (list_any (repeats this) before) _ (sym (list_any-append (repeats this) before (first ∷ []))
    ∙ apart)).1).0 in
    ap (λ b. cond b (Some first) (find p rows)) (tells first ∙ first_apart)
    ∙ one_row p (before ++ first ∷ []) rows this k tells passes stand_later (omega arith) at

such_row : {A : Type 0} (p : Row → Bool) (says : Row → Option A) (rows : List Row)
    → ((this other : Row) → p this ≡ true → p other ≡ repeats this other) → build_fault rows ≡ None
    → EachSays rows p says (option_and_then says (find p rows))
unfolding build_fault
such_row p says rows tells stand row there passes =
    ap (option_and_then says) (one_row p [] rows row there.0 (λ other. tells row other passes) passes stand there.1
    there.2)

pub each_key : (rows : List Row) (channel : Channel) → build_fault rows ≡ None
    → EachSays rows (is_key_row channel) row_key (key_of rows channel)
unfolding key_of
each_key rows channel stand = such_row (is_key_row channel) row_key rows (key_repeats channel) stand

pub each_level : (rows : List Row) (channel : Channel) → build_fault rows ≡ None
    → EachSays rows (is_key_row channel) row_level (level_of rows channel)
unfolding level_of
each_level rows channel stand = such_row (is_key_row channel) row_level rows (key_repeats channel) stand

pub each_role : (rows : List Row) (channel : Channel) (sender : Option IndAddr) → build_fault rows ≡ None
    → EachSays rows (is_role_row channel sender) row_role (named_role rows channel sender)
unfolding named_role
each_role rows channel sender stand =
    such_row (is_role_row channel sender) row_role rows (role_repeats channel sender) stand
