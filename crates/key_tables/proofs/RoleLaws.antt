-- The role of a sender: whose row it is, where rows say nothing twice.
use Rattle.std.proofs.Common.{◌≡◌, ◌||◌, Bool, true, false, if◌then◌else◌, List, Option, Some, None, refl, ap, ◌∙◌}
use Rattle.std.specs.Option.{option_or, is_some}
use Rattle.knx_base.specs.declared.address.IndAddr.{IndAddr}
use Rattle.key_tables.specs.declared.types.Channel.{Channel}
use Rattle.key_tables.specs.declared.types.Role.{Role}
use Rattle.key_tables.specs.declared.types.Role.TheVariants.{Observe}
use Rattle.key_tables.specs.declared.types.Row.{Row}
use Rattle.key_tables.specs.Build.{build_fault}
use Rattle.key_tables.specs.Rows.{is_role_row, row_role, is_own, device_role, has_role, EachSays, named_role, role_of}
use Rattle.key_tables.proofs.Unique.{named_where, each_role, role_row_has_role}

some_of : {A : Type 0} (a b c : Option A)
    → is_some (option_or a (option_or b c)) ≡ (is_some a || is_some b || is_some c)
some_of (Some x) b c = refl
some_of None (Some y) c = refl
some_of None None c = refl

device_where : (channel : Channel) (sender : IndAddr) → is_some (device_role channel sender) ≡ is_own channel sender
device_where channel sender = by_test (is_own channel sender)
  where
    by_test : (b : Bool) → is_some (if b then Some Observe else None) ≡ b
    by_test true = refl
    by_test false = refl

pub role_where : (rows : List Row) (channel : Channel) (sender : IndAddr)
    → is_some (role_of rows channel sender)
    ≡ (has_role rows channel (Some sender) || has_role rows channel None || is_own channel sender)
unfolding role_of
role_where rows channel sender =
    some_of (named_role rows channel (Some sender)) (named_role rows channel None) (device_role channel sender)
    ∙ (λ i. named_where rows channel (Some sender) i || named_where rows channel None i
    || device_where channel sender i)

first_stays : {A : Type 0} (a b : Option A) → is_some a ≡ true → option_or a b ≡ a
first_stays (Some x) b some = refl
first_stays None b some = absurd cc

is_none : {A : Type 0} (a : Option A) → is_some a ≡ false → a ≡ None
is_none None none = refl
is_none (Some x) none = absurd cc

-- the row's role, and nothing after it
its_row : (rows : List Row) (channel : Channel) (sender : Option IndAddr) (other : Option Role)
    → build_fault rows ≡ None
    → EachSays rows (is_role_row channel sender) row_role (option_or (named_role rows channel sender) other)
its_row rows channel sender other stand row there is =
    ap (λ role. option_or role other) (each_role rows channel sender stand row there is)
    ∙ first_stays (row_role row) other (role_row_has_role channel sender row is)

pub own_says : (rows : List Row) (channel : Channel) (sender : IndAddr) → build_fault rows ≡ None
    → EachSays rows (is_role_row channel (Some sender)) row_role (role_of rows channel sender)
unfolding role_of
own_says rows channel sender stand = its_row rows channel (Some sender) _ stand

no_row : (rows : List Row) (channel : Channel) (sender : Option IndAddr) → has_role rows channel sender ≡ false
    → named_role rows channel sender ≡ None
no_row rows channel sender none = is_none (named_role rows channel sender) (named_where rows channel sender ∙ none)

pub any_says : (rows : List Row) (channel : Channel) (sender : IndAddr) → build_fault rows ≡ None
    → has_role rows channel (Some sender) ≡ false
    → EachSays rows (is_role_row channel None) row_role (role_of rows channel sender)
unfolding role_of
any_says rows channel sender stand none row there is =
    ap (λ role. option_or role (option_or (named_role rows channel None) (device_role channel sender)))
    (no_row rows channel (Some sender) none)
    ∙ its_row rows channel None (device_role channel sender) stand row there is

pub device_says : (rows : List Row) (channel : Channel) (sender : IndAddr) → has_role rows channel (Some sender) ≡ false
    → has_role rows channel None ≡ false → is_own channel sender ≡ true → role_of rows channel sender ≡ Some Observe
unfolding role_of
device_says rows channel sender none no_any own =
    (λ i. option_or (no_row rows channel (Some sender) none i)
    (option_or (no_row rows channel None no_any i) (device_role channel sender)))
    ∙ ap (λ b. if b then Some Observe else None) own
