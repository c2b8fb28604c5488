-- No two rows of a keyring say the same.
use Rattle.std.proofs.Common.{◌≡◌, ◌==◌, ◌&&◌, ℕ, Bool, true, false, cond, ◌||◌, List, [], ◌∷◌, ◌++◌, map, flat_map, Option, Some, None, Result, Ok, Err, refl, sym, ap, subst, ◌∙◌, arith}
use Rattle.std.specs.List.{AllByRecursion}
use Rattle.std.specs.List.Sorted.{IsStrictlySortedBy}
use Rattle.std.specs.Ordering.{nat_cmp, is_eq}
use Rattle.std.specs.declared.cmp.Ordering.TheVariants.{Less}
use Rattle.std.proofs.lemmas.List.Elements.{All-from_recursion}
use Rattle.std.proofs.lemmas.List.Kept.{AllPairs-cons}
use Rattle.knx_base.specs.declared.address.GroupAddr.{GroupAddr}
use Rattle.knx_base.specs.declared.address.IndAddr.{IndAddr}
use Rattle.tag_text.specs.declared.tag.Tag.{Tag}
use Rattle.key_tables.specs.declared.types.Channel.{Channel}
use Rattle.key_tables.specs.declared.types.Channel.TheVariants as channel
use Rattle.key_tables.specs.declared.types.Level.TheVariants.{Auth}
use Rattle.key_tables.specs.declared.types.Row.{Row}
use Rattle.key_tables.specs.declared.types.Row.TheVariants as row
use Rattle.key_tables.specs.Rows.{same_sender, is_key_row, has_key}
use Rattle.key_tables.specs.Build.{is_key, AreApart, NoneTwice}
use Rattle.keyring_reader.specs.declared.fault.KeyringFault.{KeyringFault}
use Rattle.keyring_reader.specs.declared.fault.KeyringFault.TheVariants as fault
use Rattle.keyring_reader.specs.declared.keys.Wrapping.{Wrapping}
use Rattle.keyring_reader.specs.declared.said.Listing.{Listing}
use Rattle.keyring_reader.specs.declared.said.Said.{Said}
use Rattle.keyring_reader.specs.declared.said.Said.TheVariants.{Nothing, GroupKey, ToolKey, Lists}
use Rattle.keyring_reader.specs.Chain.{◌>>=◌}
use Rattle.keyring_reader.specs.Elements.{Element, elements_in}
use Rattle.keyring_reader.specs.Contents.{Contents, contents_of}
use Rattle.keyring_reader.specs.Saying.{says, taken, with_key, with_element, contents_from}
use Rattle.keyring_reader.specs.Roles.{ascending, groups_of, devices_of, is_listed, senders_to, commands, roles_by, group_roles, device_role, rows_of, by_group, by_device}
use Rattle.keyring_reader.proofs.HoldingLemmas.{eqb-comm}
use Rattle.keyring_reader.proofs.ListedLemmas.{is_eq-nat_cmp}
use Rattle.keyring_reader.proofs.JudgedLemmas.{in_turn}
use Rattle.keyring_reader.proofs.OrderLemmas.{ascends}

-- ---- each of a list, and each two of it

each_so : {A : Type 0} (P Q : A → Type 0) (xs : List A) → ((x : A) → P x → Q x) → AllByRecursion P xs
    → AllByRecursion Q xs
each_so P Q [] so all = tt
each_so P Q (x ∷ xs) so all = (so x all.0, each_so P Q xs so all.1)

each_append : {A : Type 0} (P : A → Type 0) (xs ys : List A) → AllByRecursion P xs → AllByRecursion P ys
    → AllByRecursion P (xs ++ ys)
each_append P [] ys first second = second
each_append P (x ∷ xs) ys first second = (first.0, each_append P xs ys first.1 second)

-- neither of a row and a later one repeats the other
abbrev Once : List Row → Type 0
Once [] = Unit {0}
Once (this ∷ rows) = AllByRecursion (AreApart this) rows × Once rows

once_append : (xs ys : List Row) → Once xs → Once ys → AllByRecursion (λ x. AllByRecursion (AreApart x) ys) xs
    → Once (xs ++ ys)
once_append [] ys first second between = second
once_append (x ∷ xs) ys first second between =
    (each_append (AreApart x) xs ys first.0 between.0, once_append xs ys first.1 second between.1)

-- each of the first rows is apart from each of the second
across : (P Q : Row → Type 0) (xs ys : List Row) → ((x y : Row) → P x → Q y → AreApart x y) → AllByRecursion P xs
    → AllByRecursion Q ys
    → AllByRecursion (λ x. AllByRecursion (AreApart x) ys) xs
across P Q xs ys apart first second =
    each_so P _ xs (λ x such. each_so Q (AreApart x) ys (λ y other. apart x y such other) second) first

none_twice : (rows : List Row) → Once rows → NoneTwice rows
none_twice [] once = λ i j d before within. absurd (omega arith)
none_twice (this ∷ rows) once =
    AllPairs-cons AreApart this rows (All-from_recursion (AreApart this) rows once.0) (none_twice rows once.1)

-- ---- key rows

abbrev IsKey : Row → Type 0
IsKey this = is_key this ≡ true

-- they are key rows, none of a channel that an earlier one is of
record AreKeys (rows : List Row) : Type 0 where
  keys : AllByRecursion IsKey rows
  once : Once rows

neither : (a b : Bool) → (a || b) ≡ false → (a ≡ false) × (b ≡ false)
neither true b none = absurd cc
neither false b none = (refl, none)

group_apart : (this : Row) (group : GroupAddr) (key : List ℕ) → is_key_row (channel.Group group) this ≡ false
    → AreApart this (row.Group group key Auth)
group_apart (row.Group address other level) group key none = (eqb-comm address.0 group.0 ∙ none, none)
group_apart (row.Tool device other) group key none = (refl, refl)
group_apart (row.Role on sender role) group key none = (refl, refl)

device_apart : (this : Row) (device : IndAddr) (key : List ℕ) → is_key_row (channel.Tool device) this ≡ false
    → AreApart this (row.Tool device key)
device_apart (row.Group address other level) device key none = (refl, refl)
device_apart (row.Tool earlier other) device key none = (eqb-comm earlier.0 device.0 ∙ none, none)
device_apart (row.Role on sender role) device key none = (refl, refl)

-- none of the rows is of the channel, and what is of it is apart from any that is not
new_apart : (on : Channel) (new : Row) (apart : (this : Row) → is_key_row on this ≡ false → AreApart this new)
    (rows : List Row)
    → has_key rows on ≡ false → AllByRecursion (λ this. AllByRecursion (AreApart this) (new ∷ [])) rows
new_apart on new apart [] none = tt
new_apart on new apart (this ∷ rows) none =
    let parts = neither (is_key_row on this) (has_key rows on) none in
    ((apart this parts.0, tt), new_apart on new apart rows parts.1)

one_key : (on : Channel) (new : Row) (apart : (this : Row) → is_key_row on this ≡ false → AreApart this new)
    (rows : List Row)
    → IsKey new → has_key rows on ≡ false → AreKeys rows → AreKeys (rows ++ new ∷ [])
one_key on new apart rows key none are = record {
  keys = each_append IsKey rows (new ∷ []) are.keys (key, tt);
  once = once_append rows (new ∷ []) are.once (tt, tt) (new_apart on new apart rows none);
}

-- ---- the contents

ok_is : {A : Type 0} (x y : A) (found : Result A KeyringFault) → found ≡ Ok x → found ≡ Ok y → x ≡ y
ok_is x y found is also = cc

not_refused : {A : Type 0} (here : Bool) (why : KeyringFault) (x y : A) → cond here (Err why) (Ok x) ≡ Ok y
    → (here ≡ false) × (x ≡ y)
not_refused true why x y is = absurd cc
not_refused false why x y is = (refl, ok_is x y (Ok x) refl is)

both_right : {A B : Type 0} (found : Result A KeyringFault) (next : A → Result B KeyringFault) (y : B)
    → (found >>= next) ≡ Ok y
    → (x : A) × (found ≡ Ok x) × (next x ≡ Ok y)
both_right (Ok x) next y is = (x, refl, is)
both_right (Err why) next y is = absurd cc

abbrev HasKeys : Contents → Type 0
HasKeys contents = AreKeys contents.rows

with_one : (now new : Contents) (place : ℕ) (on : Channel) (this : Row)
    (apart : (other : Row) → is_key_row on other ≡ false → AreApart other this)
    → IsKey this → HasKeys now → with_key now place on this ≡ Ok new → HasKeys new
with_one now new place on this apart key are is =
    let grown : Contents = record { rows = now.rows ++ this ∷ []; listings = now.listings } in
    let went = not_refused (has_key now.rows on) (fault.Twice place) grown new is in
    subst HasKeys went.1 (one_key on this apart now.rows key went.0 are)

said_keys : (now new : Contents) (place : ℕ) (said : Said) → HasKeys now → taken now place said ≡ Ok new → HasKeys new
said_keys now new place Nothing are is = subst HasKeys (ok_is now new (Ok now) refl is) are
said_keys now new place (GroupKey group key) are is =
    with_one now new place (channel.Group group) (row.Group group key Auth)
    (λ other none. group_apart other group key none) refl are is
said_keys now new place (ToolKey device key) are is =
    with_one now new place (channel.Tool device) (row.Tool device key)
    (λ other none. device_apart other device key none) refl are is
said_keys now new place (Lists listing) are is =
    let grown : Contents = record { rows = now.rows; listings = now.listings ++ listing ∷ [] } in
    subst HasKeys (ok_is grown new (Ok grown) refl is) are

keys_from : (under : Wrapping) (now all : Contents) (elements : List Element) → HasKeys now
    → contents_from under now elements ≡ Ok all → HasKeys all
keys_from under now all [] are is = subst HasKeys (ok_is now all (Ok now) refl is) are
keys_from under now all (element ∷ elements) are is =
    let went = both_right (with_element under now element) (λ next. contents_from under next elements) all is in
    let told =
    both_right (says under element.kind element.attributes element.place) (taken now element.place) went.0 went.1 in
    keys_from under went.0 all elements (said_keys now went.0 element.place told.0 are told.2) went.2

keys_of : (under : Wrapping) (tags : List Tag) (all : Contents) → contents_of under tags ≡ Ok all → HasKeys all
keys_of under tags all is =
    keys_from under (record { rows = []; listings = [] }) all (elements_in [] tags) (record { keys = tt; once = tt })
    (in_turn under tags ∙ is)

-- ---- role rows

not_same : (a b : ℕ) → nat_cmp a b ≡ Less → (a == b) ≡ false
not_same a b below = sym (is_eq-nat_cmp a b) ∙ ap is_eq below

not_back : (a b : ℕ) → nat_cmp a b ≡ Less → (b == a) ≡ false
not_back a b below = eqb-comm b a ∙ not_same a b below

first_not : (a b : Bool) → a ≡ false → (a && b) ≡ false
first_not true b none = absurd cc
first_not false b none = refl

second_not : (a b : Bool) → b ≡ false → (a && b) ≡ false
second_not true b none = none
second_not false b none = refl

-- a role on a group whose number is such
abbrev IsOnGroup : (ℕ → Type 0) → Row → Type 0
IsOnGroup P (row.Role (channel.Group group) _ _) = P group.0
IsOnGroup P _ = ⊥

abbrev IsOnDevice : Row → Type 0
IsOnDevice (row.Role (channel.Tool device) _ _) = Unit {0}
IsOnDevice _ = ⊥

-- each role that a group gives is on that group
all_command : (P : ℕ → Type 0) (group : GroupAddr) (senders : List IndAddr) → P group.0
    → AllByRecursion (IsOnGroup P) (map (commands group) senders)
all_command P group [] such = tt
all_command P group (sender ∷ senders) such = (such, all_command P group senders such)

all_on : (P : ℕ → Type 0) (group : GroupAddr) (senders : Option (List IndAddr)) → P group.0
    → AllByRecursion (IsOnGroup P) (roles_by group senders)
all_on P group None such = (such, tt)
all_on P group (Some senders) such = all_command P group senders such

all_on_groups : (P : ℕ → Type 0) (listings : List Listing) (groups : List GroupAddr)
    → AllByRecursion (λ group. P group.0) groups
    → AllByRecursion (IsOnGroup P) (flat_map (group_roles listings) groups)
all_on_groups P listings [] such = tt
all_on_groups P listings (group ∷ groups) such =
    each_append (IsOnGroup P) (group_roles listings group) (flat_map (group_roles listings) groups)
    (all_on P group _ such.0) (all_on_groups P listings groups such.1)

-- ---- the roles on one group

commands_apart : (group : GroupAddr) (sender : IndAddr) (senders : List IndAddr)
    → AllByRecursion (λ later. by_device sender later ≡ Less) senders
    → AllByRecursion (AreApart (commands group sender)) (map (commands group) senders)
commands_apart group sender [] below = tt
commands_apart group sender (later ∷ senders) below = (
  (
    second_not (group.0 == group.0) (sender.0 == later.0) (not_same sender.0 later.0 below.0),
    second_not (group.0 == group.0) (later.0 == sender.0) (not_back sender.0 later.0 below.0),
  ),
  commands_apart group sender senders below.1,
)

commands_once : (group : GroupAddr) (senders : List IndAddr) → IsStrictlySortedBy by_device senders
    → Once (map (commands group) senders)
unfolding IsStrictlySortedBy
commands_once group [] sorted = tt
commands_once group (sender ∷ senders) sorted =
    (commands_apart group sender senders sorted.0, commands_once group senders sorted.1)

roles_once : (here : Bool) (group : GroupAddr) (senders : List IndAddr)
    → Once (roles_by group (cond here (Some (ascending (λ (device : IndAddr). device.0) senders)) None))
roles_once true group senders = commands_once group _ (ascends (λ (device : IndAddr). device.0) senders)
roles_once false group senders = (tt, tt)

-- ---- the roles on all groups

groups_apart : (number : ℕ) (this other : Row) → IsOnGroup (λ own. own ≡ number) this
    → IsOnGroup (λ own. nat_cmp number own ≡ Less) other
    → AreApart this other
groups_apart number (row.Role (channel.Group a) s _) (row.Role (channel.Group b) t _) is below =
    let less : nat_cmp a.0 b.0 ≡ Less = ap (λ own. nat_cmp own b.0) is ∙ below in (
      first_not (a.0 == b.0) (same_sender s t) (not_same a.0 b.0 less),
      first_not (b.0 == a.0) (same_sender t s)
          (not_back a.0 b.0 less),
    )
groups_apart number (row.Role (channel.Group a) s _) (row.Role (channel.Tool b) t _) is below = absurd below
groups_apart number (row.Role (channel.Group a) s _) (row.Group _ _ _) is below = absurd below
groups_apart number (row.Role (channel.Group a) s _) (row.Tool _ _) is below = absurd below
groups_apart number (row.Role (channel.Tool a) s _) other is below = absurd is
groups_apart number (row.Group _ _ _) other is below = absurd is
groups_apart number (row.Tool _ _) other is below = absurd is

groups_once : (listings : List Listing) (groups : List GroupAddr) → IsStrictlySortedBy by_group groups
    → Once (flat_map (group_roles listings) groups)
unfolding IsStrictlySortedBy
groups_once listings [] sorted = tt
groups_once listings (group ∷ groups) sorted =
    let own = group_roles listings group in
    let later = flat_map (group_roles listings) groups in
    once_append own later (roles_once (is_listed listings group) group (senders_to listings group))
    (groups_once listings groups sorted.1)
    (across (IsOnGroup (λ number. number ≡ group.0)) (IsOnGroup (λ number. nat_cmp group.0 number ≡ Less)) own later
    (groups_apart group.0)
    (all_on (λ number. number ≡ group.0) group _ refl) (all_on_groups (λ number. nat_cmp group.0 number ≡ Less) listings
    groups sorted.0))

-- ---- the roles on devices

all_on_devices : (devices : List IndAddr) → AllByRecursion IsOnDevice (map device_role devices)
all_on_devices [] = tt
all_on_devices (device ∷ devices) = (tt, all_on_devices devices)

devices_apart : (device : IndAddr) (devices : List IndAddr)
    → AllByRecursion (λ later. by_device device later ≡ Less) devices
    → AllByRecursion (AreApart (device_role device)) (map device_role devices)
devices_apart device [] below = tt
devices_apart device (later ∷ devices) below = (
  (
    first_not (device.0 == later.0) true (not_same device.0 later.0 below.0),
    first_not (later.0 == device.0) true
        (not_back device.0 later.0 below.0),
  ),
  devices_apart device devices below.1,
)

devices_once : (devices : List IndAddr) → IsStrictlySortedBy by_device devices → Once (map device_role devices)
unfolding IsStrictlySortedBy
devices_once [] sorted = tt
devices_once (device ∷ devices) sorted = (devices_apart device devices sorted.0, devices_once devices sorted.1)

-- ---- all rows

-- whatever its number
abbrev Any : ℕ → Type 0
Any number = Unit {0}

group_device : (this other : Row) → IsOnGroup Any this → IsOnDevice other → AreApart this other
group_device (row.Role (channel.Group _) _ _) (row.Role (channel.Tool _) _ _) on device = (refl, refl)
group_device (row.Role (channel.Group _) _ _) (row.Role (channel.Group _) _ _) on device = absurd device
group_device (row.Role (channel.Group _) _ _) (row.Group _ _ _) on device = absurd device
group_device (row.Role (channel.Group _) _ _) (row.Tool _ _) on device = absurd device
group_device (row.Role (channel.Tool _) _ _) other on device = absurd on
group_device (row.Group _ _ _) other on device = absurd on
group_device (row.Tool _ _) other on device = absurd on

abbrev IsRole : Row → Type 0
IsRole this = is_key this ≡ false

group_is_role : (this : Row) → IsOnGroup Any this → IsRole this
group_is_role (row.Role _ _ _) on = refl
group_is_role (row.Group _ _ _) on = absurd on
group_is_role (row.Tool _ _) on = absurd on

device_is_role : (this : Row) → IsOnDevice this → IsRole this
device_is_role (row.Role _ _ _) on = refl
device_is_role (row.Group _ _ _) on = absurd on
device_is_role (row.Tool _ _) on = absurd on

key_role : (this other : Row) → IsKey this → IsRole other → AreApart this other
key_role (row.Group _ _ _) (row.Role _ _ _) key role = (refl, refl)
key_role (row.Tool _ _) (row.Role _ _ _) key role = (refl, refl)
key_role (row.Role _ _ _) other key role = absurd cc
key_role this (row.Group _ _ _) key role = absurd cc
key_role this (row.Tool _ _) key role = absurd cc

any_group : (groups : List GroupAddr) → AllByRecursion (λ (group : GroupAddr). Any group.0) groups
any_group [] = tt
any_group (group ∷ groups) = (tt, any_group groups)

-- of key rows, roles on groups, and roles on devices
parts_once : (keys groups devices : List Row) → AreKeys keys → Once groups → Once devices
    → AllByRecursion (IsOnGroup Any) groups
    → AllByRecursion IsOnDevice devices → Once (keys ++ groups ++ devices)
parts_once keys groups devices are groups_are devices_are on_groups on_devices =
    let group_roles_are = each_so (IsOnGroup Any) IsRole groups group_is_role on_groups in
    let device_roles_are = each_so IsOnDevice IsRole devices device_is_role on_devices in
    once_append (keys ++ groups) devices
    (once_append keys groups are.once groups_are (across IsKey IsRole keys groups key_role are.keys group_roles_are))
    devices_are
    (each_append (λ this. AllByRecursion (AreApart this) devices) keys groups
    (across IsKey IsRole keys devices key_role are.keys device_roles_are)
    (across (IsOnGroup Any) IsOnDevice groups devices group_device on_groups on_devices))

pub rows_once : (under : Wrapping) (tags : List Tag) (contents : Contents) (rows : List Row)
    → contents_of under tags ≡ Ok contents → rows ≡ rows_of contents
    → NoneTwice rows
unfolding rows_of
rows_once under tags contents rows found is =
    let groups = groups_of contents.rows in
    let devices = devices_of contents.rows in
    subst NoneTwice (sym is)
    (none_twice (rows_of contents)
    (parts_once contents.rows (flat_map (group_roles contents.listings) groups) (map device_role devices)
    (keys_of under tags contents found)
    (groups_once contents.listings groups (ascends (λ (group : GroupAddr). group.0) _))
    (devices_once devices (ascends (λ (device : IndAddr). device.0) _))
    (all_on_groups Any contents.listings groups (any_group groups)) (all_on_devices devices)))
