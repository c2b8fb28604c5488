-- What a merged list says of a channel, by what the two lists say.
use Rattle.std.proofs.Common.{◌≡◌, Bool, true, false, cond, not, if◌then◌else◌, List, [], ◌∷◌, ◌||◌, Option, Some, None, find, refl, sym, ap, ◌∙◌}
use Rattle.std.specs.List.{filter, list_any}
use Rattle.std.specs.Option.{option_or, option_and_then, is_some}
use Rattle.std.proofs.lemmas.List.Folds.{find-append}
use Rattle.knx_base.specs.declared.address.IndAddr.{IndAddr}
use Rattle.key_tables.specs.declared.types.Channel.{Channel}
use Rattle.key_tables.specs.declared.types.Channel.TheVariants as channel
use Rattle.key_tables.specs.declared.types.Row.{Row}
use Rattle.key_tables.specs.declared.types.Row.TheVariants as row
use Rattle.key_tables.specs.Rows.{same_channel, same_sender, is_channel, is_key_row, is_role_row, role_channel, row_key, row_level, row_role, device_role, key_of, level_of, named_role, role_of}
use Rattle.key_tables.specs.Build.{displaces, is_kept, has_roles, merged, KeysMerge, LevelsMerge, RolesMerge, LookUpsMerge}
use Rattle.key_tables.proofs.Unique.{found_where, key_row_has_key, key_row_has_level, same_is, both_true}

-- ---- options

some_or : {A : Type 0} (a b c : Option A) → is_some a ≡ true → option_or a b ≡ option_or a c
some_or (Some x) b c h = refl
some_or None b c h = absurd cc

or_none : {A : Type 0} (a : Option A) → option_or a None ≡ a
or_none (Some x) = refl
or_none None = refl

some_first : {A : Type 0} (a b : Option A) → is_some a ≡ true → a ≡ option_or a b
some_first (Some x) b h = refl
some_first None b h = absurd cc

no_some : {A : Type 0} (a : Option A) → is_some a ≡ false → a ≡ None
no_some (Some x) h = absurd cc
no_some None h = refl

or_then : {A : Type 0} (says : Row → Option A) (first later : Option Row)
    → is_some (option_and_then says first) ≡ is_some first
    → option_and_then says (option_or first later) ≡ option_or (option_and_then says first) (option_and_then says later)
or_then says (Some row) later h = some_first (says row) (option_and_then says later) h
or_then says None later h = refl

-- ---- searches

find_step : (b any : Bool) (this : Row) (later : Option Row) → is_some later ≡ any
    → is_some (cond b (Some this) later) ≡ (b || any)
find_step true any this later h = refl
find_step false any this later h = h

find_where : (p : Row → Bool) (rows : List Row) → is_some (find p rows) ≡ list_any p rows
find_where p [] = refl
find_where p (this ∷ rows) = find_step (p this) _ this _ (find_where p rows)

any_same : (p q : Row → Bool) → ((row : Row) → p row ≡ q row) → (rows : List Row) → list_any p rows ≡ list_any q rows
any_same p q same [] = refl
any_same p q same (this ∷ rows) =
    ap (λ b. b || list_any p rows) (same this) ∙ ap (λ any. q this || any) (any_same p q same rows)

weaker_step : (b c any_b any_c : Bool) → (b ≡ true → c ≡ true) → (any_c ≡ false → any_b ≡ false) → (c || any_c) ≡ false
    → (b || any_b) ≡ false
weaker_step true c any_b any_c h later e = let c_true = h refl in absurd cc
weaker_step false true any_b any_c h later e = absurd cc
weaker_step false false any_b any_c h later e = later e

pub none_stronger : (p q : Row → Bool) → ((row : Row) → p row ≡ true → q row ≡ true) → (rows : List Row)
    → list_any q rows ≡ false → list_any p rows ≡ false
none_stronger p q h [] e = refl
none_stronger p q h (this ∷ rows) e = weaker_step (p this) (q this) _ _ (h this) (none_stronger p q h rows) e

kept_step : (p : Row → Bool) (this : Row) (ys zs : List Row) (b c : Bool) → p this ≡ b → (b ≡ true → c ≡ true)
    → find p ys ≡ find p zs → find p (cond c (this ∷ ys) ys) ≡ cond b (Some this) (find p zs)
kept_step p this ys zs true true e h later = ap (λ b. cond b (Some this) (find p ys)) e
kept_step p this ys zs true false e h later = let no = h refl in absurd cc
kept_step p this ys zs false true e h later = ap (λ b. cond b (Some this) (find p ys)) e ∙ later
kept_step p this ys zs false false e h later = later

find_kept : (p q : Row → Bool) → ((row : Row) → p row ≡ true → q row ≡ true) → (rows : List Row)
    → find p (filter q rows) ≡ find p rows
find_kept p q h [] = refl
find_kept p q h (this ∷ rows) =
    kept_step p this (filter q rows) rows (p this) (q this) refl (h this) (find_kept p q h rows)

dropped_step : (p : Row → Bool) (this : Row) (ys : List Row) (b c : Bool) → p this ≡ b → (b ≡ true → c ≡ false)
    → find p ys ≡ None → find p (cond c (this ∷ ys) ys) ≡ None
dropped_step p this ys true true e h later = let no = h refl in absurd cc
dropped_step p this ys false true e h later = ap (λ b. cond b (Some this) (find p ys)) e ∙ later
dropped_step p this ys b false e h later = later

find_dropped : (p q : Row → Bool) → ((row : Row) → p row ≡ true → q row ≡ false) → (rows : List Row)
    → find p (filter q rows) ≡ None
find_dropped p q h [] = refl
find_dropped p q h (this ∷ rows) =
    dropped_step p this (filter q rows) (p this) (q this) refl (h this) (find_dropped p q h rows)

-- ---- which rows are displaced

key_displaces : (wanted : Channel) (this other : Row) → is_key_row wanted this ≡ true
    → is_key_row wanted other ≡ displaces this other
key_displaces wanted (row.Group address _ _) other h =
    ap (λ c. is_key_row c other) (same_is wanted (channel.Group address) h)
key_displaces wanted (row.Tool device _) other h = ap (λ c. is_key_row c other) (same_is wanted (channel.Tool device) h)
key_displaces wanted (row.Role _ _ _) other h = absurd cc

on_channel : (wanted : Channel) (sender : Option IndAddr) (this : Row) → is_role_row wanted sender this ≡ true
    → is_channel wanted (role_channel this) ≡ true
on_channel wanted sender (row.Group _ _ _) h = absurd cc
on_channel wanted sender (row.Tool _ _) h = absurd cc
on_channel wanted sender (row.Role other named _) h =
    (both_true (same_channel wanted other) (same_sender sender named) h).0

role_displaces : (wanted : Channel) (this other : Row) → is_channel wanted (role_channel this) ≡ true
    → is_channel wanted (role_channel other) ≡ displaces this other
role_displaces wanted (row.Group _ _ _) other h = absurd cc
role_displaces wanted (row.Tool _ _) other h = absurd cc
role_displaces wanted (row.Role own _ _) other h = ap (λ c. is_channel c (role_channel other)) (same_is wanted own h)

-- ---- keys and levels

key_part : {A : Type 0} (says : Row → Option A) (wanted : Channel) (over under : List Row)
    → ((row : Row) → is_key_row wanted row ≡ true → is_some (says row) ≡ true)
    → option_and_then says (find (is_key_row wanted) (merged over under))
    ≡ option_or (option_and_then says (find (is_key_row wanted) over))
    (option_and_then says (find (is_key_row wanted) under))
unfolding merged
key_part {A} says wanted over under each =
    ap (option_and_then says) (find-append p over (filter (is_kept over) under))
    ∙ or_then says (find p over) (find p (filter (is_kept over) under))
    (found_where p says each over ∙ sym (find_where p over))
    ∙ by (list_any p over) refl
  where
    p : Row → Bool
    p = is_key_row wanted

    by : (b : Bool) → list_any p over ≡ b
        → option_or (option_and_then says (find p over)) (option_and_then says (find p (filter (is_kept over) under)))
        ≡ option_or (option_and_then says (find p over)) (option_and_then says (find p under))
    by true e = some_or _ _ _ (found_where p says each over ∙ e)
    by false e =
        ap (λ row. option_or (option_and_then says (find p over)) (option_and_then says row))
        (find_kept p (is_kept over)
        (λ row h. ap not (sym (any_same p (displaces row) (λ other. key_displaces wanted row other h) over) ∙ e)) under)

pub keys_merge : (over under : List Row) → KeysMerge over under
unfolding key_of
keys_merge over under channel = key_part row_key channel over under (key_row_has_key channel)

pub levels_merge : (over under : List Row) → LevelsMerge over under
unfolding level_of
levels_merge over under channel = key_part row_level channel over under (key_row_has_level channel)

-- ---- roles

named_part : (wanted : Channel) (sender : Option IndAddr) (over under : List Row)
    → named_role (merged over under) wanted sender ≡ named_role (if has_roles over wanted then over else under) wanted
    sender
unfolding merged named_role
named_part wanted sender over under =
    ap (option_and_then row_role) (find-append p over (filter (is_kept over) under) ∙ by (has_roles over wanted) refl)
  where
    p : Row → Bool
    p = is_role_row wanted sender

    on : Row → Bool
    on row = is_channel wanted (role_channel row)

    by : (b : Bool) → has_roles over wanted ≡ b
        → option_or (find p over) (find p (filter (is_kept over) under)) ≡ find p (if b then over else under)
    by true e =
        ap (option_or (find p over))
        (find_dropped p (is_kept over)
        (λ row h. ap not (sym (any_same on (displaces row)
        (λ other. role_displaces wanted row other (on_channel wanted sender row h)) over) ∙ e)) under)
        ∙ or_none (find p over)
    by false e =
        ap (λ row. option_or row (find p (filter (is_kept over) under)))
        (no_some (find p over) (find_where p over ∙ none_stronger p on (on_channel wanted sender) over e))
        ∙ find_kept p (is_kept over)
        (λ row h. ap not (sym (any_same on (displaces row)
        (λ other. role_displaces wanted row other (on_channel wanted sender row h)) over) ∙ e)) under

pub roles_merge : (over under : List Row) → RolesMerge over under
unfolding role_of
roles_merge over under channel sender =
    ap (λ own. option_or own (option_or (named_role (merged over under) channel None) (device_role channel sender)))
    (named_part channel (Some sender) over under)
    ∙ ap (λ any. option_or (named_role (if has_roles over channel then over else under) channel (Some sender))
    (option_or any (device_role channel sender)))
    (named_part channel None over under)

pub look_ups_merge : (over under : List Row) → LookUpsMerge over under
look_ups_merge over under = record {
  keys = keys_merge over under;
  levels = levels_merge over under;
  roles = roles_merge over under;
}
