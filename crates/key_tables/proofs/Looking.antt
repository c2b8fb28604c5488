-- What an index says of a key is what a search in the list of rows says.
use Prim.Native.Nat.{zero, suc}
use Rattle.std.proofs.Common.{◌≡◌, ℕ, ◌||◌, Bool, true, false, cond, List, [], ◌∷◌, length, Option, Some, None, find, refl, sym, ap, subst, ◌∙◌, slice_get, option_map}
use Rattle.std.specs.List.{All, IsDistinct, Contains, filter, cons_option}
use Rattle.std.specs.List.Sorted.{IsPermutation, IsStrictlySortedBy}
use Rattle.std.specs.Map.{keys_of, lookup}
use Rattle.std.specs.Option.{option_and_then, option_or, is_some}
use Rattle.std.proofs.lemmas.List.Elements.{All-cons, All-nil, All-head, All-tail}
use Rattle.std.proofs.lemmas.List.Sorted.{IsPermutation-sym, IsPermutation-map, Contains-permutation, All-permutation, length_permutation}
use Rattle.std.proofs.lemmas.Map.Keys.{IsDistinct-from_sorted, IsDistinct-IsPermutation}
use Rattle.std.proofs.lemmas.Map.Views.{Contains-from_lookup, lookup-from_Contains}
use Rattle.std.proofs.lemmas.Option.{slice_get_within, get_or_from_slice_get, same_Some}
use Rattle.knx_base.specs.declared.address.IndAddr.{IndAddr}
use Rattle.key_tables.specs.declared.types.Channel.{Channel}
use Rattle.key_tables.specs.declared.types.Channel.TheVariants as channel
use Rattle.key_tables.specs.declared.types.Level.{Level}
use Rattle.key_tables.specs.declared.types.Role.{Role}
use Rattle.key_tables.specs.declared.types.Role.TheVariants.{Observe}
use Rattle.key_tables.specs.declared.types.Row.{Row}
use Rattle.key_tables.specs.declared.types.Row.TheVariants as row
use Rattle.key_tables.specs.declared.types.RowKey.{RowKey}
use Rattle.key_tables.specs.declared.types.RowKey.TheVariants as under
use Rattle.key_tables.specs.declared.types.RowValue.{RowValue}
use Rattle.key_tables.specs.declared.types.RowValue.TheVariants as value
use Rattle.key_tables.specs.Build.{is_key, is_role}
use Rattle.key_tables.specs.Index.{same_key, key_cmp, value_key, value_level, value_role, key_entry, role_entry, key_entries, role_entries, expanded_of, AreInOrder, AreIndexed, AddsSteps}
use Rattle.key_tables.specs.Rows.{same_channel, is_key_row, is_role_row, row_key, row_level, row_role, is_own, has_key, has_role, EachSays, key_of, level_of, named_role, role_of, device_role}
use Rattle.key_tables.specs.Seen.{StandsAt, key_in, level_in, role_in}
use Rattle.key_tables.proofs.Unique.{key_where, level_where, each_key, each_level}
use Rattle.key_tables.proofs.RoleLaws.{role_where, own_says, any_says, device_says}
use Rattle.key_tables.proofs.KeyOrder.{equivalence, same_is_equal, same_turned, same_key-is}

abbrev Entry : Type 0
Entry = RowKey × RowValue

-- ---- what stands under a key, wherever it stands

index_distinct : (index : List Entry) → IsStrictlySortedBy key_cmp (keys_of index)
    → IsDistinct same_key (keys_of index)
index_distinct index ascend =
    subst (λ same. IsDistinct same (keys_of index)) (λ i a b. same_is_equal a b i)
    (IsDistinct-from_sorted key_cmp (keys_of index) ascend)

pub says_same : (entries index : List Entry) (key : RowKey) → AreInOrder entries index
    → lookup (same_key key) index ≡ lookup (same_key key) entries
says_same entries index key order = by_found (lookup (same_key key) entries) refl (lookup (same_key key) index) refl
  where
    distinct : IsDistinct same_key (keys_of index)
    distinct = index_distinct index order.ascend

    back : IsPermutation index entries
    back = IsPermutation-sym entries index order.moved

    first_distinct : IsDistinct same_key (keys_of entries)
    first_distinct =
        IsDistinct-IsPermutation same_key same_turned (keys_of index) (keys_of entries)
        (IsPermutation-map (λ e. e.0) index entries back) distinct

    there : (v : RowValue) → lookup (same_key key) entries ≡ Some v → lookup (same_key key) index ≡ Some v
    there v is =
        lookup-from_Contains equivalence key v index distinct
        (Contains-permutation entries index (key, v) order.moved (Contains-from_lookup same_key-is key v entries is))

    here : (v : RowValue) → lookup (same_key key) index ≡ Some v → lookup (same_key key) entries ≡ Some v
    here v is =
        lookup-from_Contains equivalence key v entries first_distinct
        (Contains-permutation index entries (key, v) back (Contains-from_lookup same_key-is key v index is))

    by_found : (first : Option RowValue) → lookup (same_key key) entries ≡ first → (second : Option RowValue)
        → lookup (same_key key) index ≡ second
        → lookup (same_key key) index ≡ lookup (same_key key) entries
    by_found (Some v) is second other = there v is ∙ sym is
    by_found None is (Some v) other = other ∙ sym (here v other)
    by_found None is None other = other ∙ sym is

-- what stands at the place where the row under a key stands
pub says_at : (index : List Entry) (key : RowKey) (place : ℕ) (v : RowValue)
    → StandsAt index key place → option_map (λ e. e.1) (slice_get index place) ≡ Some v
    → lookup (same_key key) index ≡ Some v
says_at index key place v stands is = by_entry (slice_get index place) refl stands.is is
  where
    by_entry : (o : Option Entry) → slice_get index place ≡ o → option_map (λ e. e.0) o ≡ Some key
        → option_map (λ e. e.1) o ≡ Some v
        → lookup (same_key key) index ≡ Some v
    by_entry None at first second = absurd cc
    by_entry (Some e) at first second =
        lookup-from_Contains equivalence key v index (index_distinct index stands.ascend)
        (subst (λ k. Contains index (k, v)) (same_Some e.0 key first)
        (subst (λ w. Contains index (e.0, w)) (same_Some e.1 v second)
        (place, slice_get_within index place e at, get_or_from_slice_get index place e e at)))

-- ---- key rows

found : {A : Type 0} (b : Bool) (f : RowValue → Option A) (g : Row → Option A) (v : RowValue) (this : Row)
    (later : Option RowValue) (rows : Option Row)
    → f v ≡ g this → option_and_then f later ≡ option_and_then g rows
    → option_and_then f (cond b (Some v) later) ≡ option_and_then g (cond b (Some this) rows)
found true f g v this later rows same rest = same
found false f g v this later rows same rest = rest

key_searched : {A : Type 0} (f : RowValue → Option A) (g : Row → Option A)
    → ((this : Row) (e : Entry) → key_entry this ≡ Some e → f e.1 ≡ g this) → (rows : List Row) (wanted : Channel)
    → option_and_then f (lookup (same_key (under.Key wanted)) (key_entries rows))
    ≡ option_and_then g (find (is_key_row wanted) rows)
key_searched f g same [] wanted = refl
key_searched f g same (row.Group address key level ∷ rows) wanted =
    found (same_channel wanted (channel.Group address)) f g (value.Key key (Some level)) (row.Group address key level)
    _ _ (same (row.Group address key level) _ refl) (key_searched f g same rows wanted)
key_searched f g same (row.Tool device key ∷ rows) wanted =
    found (same_channel wanted (channel.Tool device)) f g (value.Key key None) (row.Tool device key) _ _
    (same (row.Tool device key) _ refl) (key_searched f g same rows wanted)
key_searched f g same (row.Role channel sender role ∷ rows) wanted = key_searched f g same rows wanted

abbrev entry_key : Option Entry → Option (List ℕ)
entry_key o = option_and_then (λ e. value_key e.1) o

abbrev entry_level : Option Entry → Option Level
entry_level o = option_and_then (λ e. value_level e.1) o

abbrev entry_role : Option Entry → Option Role
entry_role o = option_and_then (λ e. value_role e.1) o

same_octets : (this : Row) (e : Entry) → key_entry this ≡ Some e → value_key e.1 ≡ row_key this
same_octets (row.Group address key level) e is = ap entry_key (sym is)
same_octets (row.Tool device key) e is = ap entry_key (sym is)
same_octets (row.Role channel sender role) e is = absurd cc

same_level : (this : Row) (e : Entry) → key_entry this ≡ Some e → value_level e.1 ≡ row_level this
same_level (row.Group address key level) e is = ap entry_level (sym is)
same_level (row.Tool device key) e is = ap entry_level (sym is)
same_level (row.Role channel sender role) e is = absurd cc

pub key_says : (rows : List Row) (index : List Entry) (wanted : Channel) → AreInOrder (key_entries rows) index
    → option_and_then value_key (lookup (same_key (under.Key wanted)) index) ≡ key_of rows wanted
unfolding key_of
key_says rows index wanted order =
    ap (option_and_then value_key) (says_same (key_entries rows) index (under.Key wanted) order)
    ∙ key_searched value_key row_key same_octets rows wanted

pub level_says : (rows : List Row) (index : List Entry) (wanted : Channel) → AreInOrder (key_entries rows) index
    → option_and_then value_level (lookup (same_key (under.Key wanted)) index) ≡ level_of rows wanted
unfolding level_of
level_says rows index wanted order =
    ap (option_and_then value_level) (says_same (key_entries rows) index (under.Key wanted) order)
    ∙ key_searched value_level row_level same_level rows wanted

-- ---- role rows

same_role : (this : Row) (e : Entry) → role_entry this ≡ Some e → value_role e.1 ≡ row_role this
same_role (row.Group address key level) e is = absurd cc
same_role (row.Tool device key) e is = absurd cc
same_role (row.Role channel sender role) e is = ap entry_role (sym is)

role_searched : (rows : List Row) (wanted : Channel) (sender : Option IndAddr)
    → option_and_then value_role (lookup (same_key (under.Role wanted sender)) (role_entries rows))
    ≡ option_and_then row_role (find (is_role_row wanted sender) rows)
role_searched [] wanted sender = refl
role_searched (row.Group address key level ∷ rows) wanted sender = role_searched rows wanted sender
role_searched (row.Tool device key ∷ rows) wanted sender = role_searched rows wanted sender
role_searched (row.Role channel from role ∷ rows) wanted sender =
    found (is_role_row wanted sender (row.Role channel from role)) value_role row_role (value.Role role)
    (row.Role channel from role) _ _ refl (role_searched rows wanted sender)

pub role_says : (rows : List Row) (index : List Entry) (wanted : Channel) (sender : Option IndAddr)
    → AreInOrder (role_entries rows) index
    → option_and_then value_role (lookup (same_key (under.Role wanted sender)) index) ≡ named_role rows wanted sender
unfolding named_role
role_says rows index wanted sender order =
    ap (option_and_then value_role) (says_same (role_entries rows) index (under.Role wanted sender) order)
    ∙ role_searched rows wanted sender

pub all_roles_say : (rows : List Row) (index : List Entry) (wanted : Channel) (sender : IndAddr)
    → AreInOrder (role_entries rows) index
    → role_in index wanted sender ≡ role_of rows wanted sender
unfolding role_of
all_roles_say rows index wanted sender order i =
    option_or (role_says rows index wanted (Some sender) order i)
    (option_or (role_says rows index wanted None order i) (device_role wanted sender))

-- ---- the answers of tables

pub record KeyAnswer (rows : List Row) (wanted : Channel) (answer : Option (List ℕ)) : Type 0 where
  pub key : answer ≡ key_of rows wanted
  pub there : is_some answer ≡ has_key rows wanted
  pub each : EachSays rows (is_key_row wanted) row_key answer

pub key_answer : {rows : List Row} {keys roles : List Entry} {expanded : List (List ℕ)} (wanted : Channel)
    (answer : Option (List ℕ))
    → AreIndexed rows keys roles expanded → answer ≡ key_in keys wanted → KeyAnswer rows wanted answer
key_answer {rows} {keys} wanted answer kept is =
    let key = is ∙ key_says rows keys wanted kept.keys_are in
    subst (KeyAnswer rows wanted) (sym key) (record {
      key = refl;
      there = key_where rows wanted;
      each = each_key rows wanted kept.stand;
    })

pub record LevelAnswer (rows : List Row) (wanted : Channel) (answer : Option Level) : Type 0 where
  pub level : answer ≡ level_of rows wanted
  pub there : is_some answer ≡ has_key rows wanted
  pub each : EachSays rows (is_key_row wanted) row_level answer

pub level_answer : {rows : List Row} {keys roles : List Entry} {expanded : List (List ℕ)} (wanted : Channel)
    (answer : Option Level)
    → AreIndexed rows keys roles expanded → answer ≡ level_in keys wanted → LevelAnswer rows wanted answer
level_answer {rows} {keys} wanted answer kept is =
    let level = is ∙ level_says rows keys wanted kept.keys_are in
    subst (LevelAnswer rows wanted) (sym level) (record {
      level = refl;
      there = level_where rows wanted;
      each = each_level rows wanted kept.stand;
    })

pub record RoleAnswer (rows : List Row) (wanted : Channel) (sender : IndAddr) (answer : Option Role) : Type 0 where
  pub role : answer ≡ role_of rows wanted sender
  pub there : is_some answer
      ≡ (has_role rows wanted (Some sender) || has_role rows wanted None || is_own wanted sender)
  pub own : EachSays rows (is_role_row wanted (Some sender)) row_role answer
  pub any : has_role rows wanted (Some sender) ≡ false → EachSays rows (is_role_row wanted None) row_role answer
  pub device : has_role rows wanted (Some sender) ≡ false → has_role rows wanted None ≡ false
      → is_own wanted sender ≡ true
      → answer ≡ Some Observe

pub role_answer : {rows : List Row} {keys roles : List Entry} {expanded : List (List ℕ)} (wanted : Channel)
    (sender : IndAddr) (answer : Option Role)
    → AreIndexed rows keys roles expanded → answer ≡ role_in roles wanted sender
    → RoleAnswer rows wanted sender answer
role_answer {rows} {roles = roles} wanted sender answer kept is =
    let role = is ∙ all_roles_say rows roles wanted sender kept.roles_are in
    subst (RoleAnswer rows wanted sender) (sym role) (record {
      role = refl;
      there = role_where rows wanted sender;
      own = own_says rows wanted sender kept.stand;
      any = any_says rows wanted sender kept.stand;
      device = device_says rows wanted sender;
    })

-- ---- how many there are

keys_counted : (rows : List Row) → length (key_entries rows) ≡ length (filter is_key rows)
keys_counted [] = refl
keys_counted (row.Group _ _ _ ∷ rows) = ap suc (keys_counted rows)
keys_counted (row.Tool _ _ ∷ rows) = ap suc (keys_counted rows)
keys_counted (row.Role _ _ _ ∷ rows) = keys_counted rows

roles_counted : (rows : List Row) → length (role_entries rows) ≡ length (filter is_role rows)
roles_counted [] = refl
roles_counted (row.Group _ _ _ ∷ rows) = roles_counted rows
roles_counted (row.Tool _ _ ∷ rows) = roles_counted rows
roles_counted (row.Role _ _ _ ∷ rows) = ap suc (roles_counted rows)

pub key_steps : (rows : List Row) (index : List Entry) (before now : ℕ) → AreInOrder (key_entries rows) index
    → AddsSteps 1 (length index) before now → AddsSteps 1 (length (filter is_key rows)) before now
key_steps rows index before now order steps =
    subst (λ n. AddsSteps 1 n before now)
    (length_permutation (key_entries rows) index order.moved ∙ keys_counted rows) steps

pub role_steps : (rows : List Row) (index : List Entry) (before now : ℕ) → AreInOrder (role_entries rows) index
    → AddsSteps 2 (length index) before now → AddsSteps 2 (length (filter is_role rows)) before now
role_steps rows index before now order steps =
    subst (λ n. AddsSteps 2 n before now)
    (length_permutation (role_entries rows) index order.moved ∙ roles_counted rows) steps

-- ---- expanded keys

abbrev IsKeyEntry : Entry → Type 0
IsKeyEntry e = is_some (value_key e.1) ≡ true

abbrev octets_of : Entry → Option (List ℕ)
octets_of e = value_key e.1

all_keys : (rows : List Row) → All IsKeyEntry (key_entries rows)
all_keys [] = All-nil IsKeyEntry
all_keys (row.Group address key level ∷ rows) = All-cons IsKeyEntry _ (key_entries rows) refl (all_keys rows)
all_keys (row.Tool device key ∷ rows) = All-cons IsKeyEntry _ (key_entries rows) refl (all_keys rows)
all_keys (row.Role channel sender role ∷ rows) = all_keys rows

expanded_next : (es : List Entry) (o : Option (List ℕ)) (place : ℕ) → is_some o ≡ true
    → slice_get (expanded_of es) place ≡ option_and_then octets_of (slice_get es place)
    → slice_get (cons_option o (expanded_of es)) (suc place) ≡ option_and_then octets_of (slice_get es place)
expanded_next es None place some is = absurd cc
expanded_next es (Some key) place some is = is

expanded_first : (es : List Entry) (o : Option (List ℕ)) → is_some o ≡ true
    → slice_get (cons_option o (expanded_of es)) zero ≡ o
expanded_first es None some = absurd cc
expanded_first es (Some key) some = refl

expanded_at : (es : List Entry) → All IsKeyEntry es → (place : ℕ)
    → slice_get (expanded_of es) place ≡ option_and_then octets_of (slice_get es place)
expanded_at [] all place = refl
expanded_at (e ∷ es) all zero = expanded_first es (value_key e.1) (All-head IsKeyEntry e es all)
expanded_at (e ∷ es) all (suc place) =
    expanded_next es (value_key e.1) place (All-head IsKeyEntry e es all)
    (expanded_at es (All-tail IsKeyEntry e es all) place)

-- the expanded key at the place of its row
pub expanded_says : (rows : List Row) (index : List Entry) (expanded : List (List ℕ)) (wanted : Channel) (place : ℕ)
    → AreInOrder (key_entries rows) index → expanded ≡ expanded_of index → StandsAt index (under.Key wanted) place
    → slice_get expanded place ≡ key_of rows wanted
expanded_says rows index expanded wanted place order are stands =
    ap (λ keys. slice_get keys place) are
    ∙ expanded_at index (All-permutation IsKeyEntry (key_entries rows) index order.moved (all_keys rows)) place
    ∙ by_entry (slice_get index place) refl
    ∙ key_says rows index wanted order
  where
    by_entry : (o : Option Entry) → slice_get index place ≡ o
        → option_and_then octets_of o ≡ option_and_then value_key (lookup (same_key (under.Key wanted)) index)
    by_entry None at =
        let never : None ≡ Some (under.Key wanted) = sym (ap (option_map (λ e. e.0)) at) ∙ stands.is in absurd cc
    by_entry (Some e) at =
        ap (option_and_then value_key) (sym (says_at index (under.Key wanted) place e.1 stands
        (ap (option_map (λ e. e.1)) at)))
