-- A sender that may send to a node has a lane there.
use Rattle.std.proofs.Common.{◌≡◌, ℕ, ◌&&◌, ◌||◌, ◌⊎◌, inl, inr, Bool, true, false, List, [], ◌∷◌, Option, Some, None, refl, sym, ap, subst, ◌∙◌, arith}
use Rattle.std.specs.Prelude.{◌==◌, if◌then◌else◌}
use Rattle.std.specs.Option.{option_or, is_some}
use Rattle.std.specs.List.{list_any}
use Rattle.std.proofs.lemmas.Bool.{false≢true, or_parts, or_right, eqb-true, eq-eqb}
use Rattle.std.proofs.lemmas.Bool.Decides.{nat_tests}
use Rattle.knx_base.specs.declared.address.GroupAddr.{GroupAddr}
use Rattle.knx_base.specs.declared.address.IndAddr.{IndAddr}
use Rattle.key_tables.specs.declared.types.Channel.{Channel}
use Rattle.key_tables.specs.declared.types.Channel.TheVariants as channel
use Rattle.key_tables.specs.declared.types.Lane.TheVariants as lane
use Rattle.key_tables.specs.declared.types.Role.{Role}
use Rattle.key_tables.specs.declared.types.Role.TheVariants.{Observe}
use Rattle.key_tables.specs.declared.types.Row.{Row}
use Rattle.key_tables.specs.declared.types.Row.TheVariants as row
use Rattle.key_tables.specs.Rows.{is_channel, is_role_row, key_of, has_key, has_role, named_role, role_of, is_own, device_role, where_keyed, keyed, channel_of, lane_of, receiver_may}
use Rattle.key_tables.specs.Lanes.{is_any, is_lane_of, is_group_of, SendersHaveLanes}
use Rattle.key_tables.proofs.Unique.{key_where, named_where}
use Rattle.key_tables.proofs.NamedLanes.{lanes_are}

eq_turned : (a b : ℕ) → (a == b) ≡ (b == a)
eq_turned a b = grind (arith, nat_tests)

or_none : (a : Bool) → (a || false) ≡ a
or_none true = refl
or_none false = refl

module _ (rows : List Row) (named : list_any is_any rows ≡ false) where
  -- ---- roles, where each row names its sender

  not_any : (c : Channel) (row : Row) → is_any row ≡ false → is_role_row c None row ≡ false
  not_any c (row.Group _ _ _) h = refl
  not_any c (row.Tool _ _) h = refl
  not_any c (row.Role other None _) h = absurd (false≢true (sym h))
  not_any c (row.Role other (Some _) _) h = and_none (is_channel c (Some other))
    where
      and_none : (a : Bool) → (a && false) ≡ false
      and_none true = refl
      and_none false = refl

  none_any : (c : Channel) (all : List Row) → list_any is_any all ≡ false → has_role all c None ≡ false
  none_any c [] h = refl
  none_any c (row ∷ all) h =
      let both = or_parts (is_any row) (list_any is_any all) h in
      λ i. not_any c row both.0 i || none_any c all both.1 i

  no_any_role : (c : Channel) → is_some (named_role rows c None) ≡ false
  no_any_role c = named_where rows c None ∙ none_any c rows named

  by_name : (c : Channel) (source : IndAddr) (own common device : Option Role) → is_some common ≡ false
      → is_some (option_or own (option_or common device)) ≡ (is_some own || is_some device)
  by_name c source (Some role) common device none = refl
  by_name c source None None device none = refl
  by_name c source None (Some role) device none = absurd (false≢true (sym none))

  where_own : (own : Bool) (role : Role) → is_some (if own then Some role else None) ≡ own
  where_own true role = refl
  where_own false role = refl

  -- a sender has a role by its own row, or it is the device
  pub role_named : (c : Channel) (source : IndAddr) → is_some (role_of rows c source)
      ≡ (has_role rows c (Some source) || is_own c source)
  unfolding role_of
  role_named c source =
      by_name c source (named_role rows c (Some source)) (named_role rows c None) (device_role c source) (no_any_role c)
      ∙ (λ i. named_where rows c (Some source) i || where_own (is_own c source) Observe i)

  -- ---- the channel of a telegram

  one_key : (key : Option (List ℕ)) (c channel : Channel) → where_keyed c key ≡ Some channel → c ≡ channel
  one_key None c channel is = absurd cc
  one_key (Some key) c channel is = cc

  -- of two channels the first, where it has a key, and else the second, which has one
  two_keys : (first second : Option (List ℕ)) (c other channel : Channel)
      → option_or (where_keyed c first) (where_keyed other second) ≡ Some channel
      → ((is_some first ≡ true) × (c ≡ channel)) ⊎ ((is_some first ≡ false) × (is_some second ≡ true)
      × (other ≡ channel))
  two_keys (Some key) second c other channel is = inl (refl, cc)
  two_keys None (Some key) c other channel is = inr (refl, refl, cc)
  two_keys None None c other channel is = absurd cc

  -- ---- lanes of groups

  among : (p : GroupAddr → Bool) (groups : List GroupAddr) (group : GroupAddr) → is_group_of groups group ≡ true
      → p group ≡ true → list_any p groups ≡ true
  among p [] group there passes = absurd (false≢true there)
  among p (other ∷ groups) group there passes =
      step (other.0 == group.0) refl there (λ later. among p groups group later passes)
    where
      step : (same : Bool) → (other.0 == group.0) ≡ same → (same || is_group_of groups group) ≡ true
          → (is_group_of groups group ≡ true → list_any p groups ≡ true) → (p other || list_any p groups) ≡ true
      step true is here later =
          let this : other ≡ group = ap (λ n. record { 0 = n }) (eqb-true other.0 group.0 is) in
          ap (λ b. b || list_any p groups) (ap p this ∙ passes)
      step false is here later = or_right (p other) (list_any p groups) (later here)

  of_group : (node : IndAddr) (groups : List GroupAddr) (source : IndAddr) (group : GroupAddr) (c : Channel)
      → is_group_of groups group ≡ true
      → keyed rows (channel.Group group) ≡ Some c → is_some (role_of rows c source) ≡ true
      → is_lane_of rows node groups (lane_of c source) ≡ true
  of_group node groups source group c there is role =
      let this = one_key (key_of rows (channel.Group group)) (channel.Group group) c is in
      subst (λ c. is_some (role_of rows c source) ≡ true → is_lane_of rows node groups (lane_of c source) ≡ true) this
      (λ has. among (λ g. has_role rows (channel.Group g) (Some source)) groups group there
      (or_parts_true (has_role rows (channel.Group group) (Some source))
      (sym (role_named (channel.Group group) source) ∙ has))) role
    where
      or_parts_true : (a : Bool) → (a || false) ≡ true → a ≡ true
      or_parts_true true h = refl
      or_parts_true false h = h

  -- ---- lanes of devices

  either_true : (a b : Bool) → (a || b) ≡ true → (b || a) ≡ true
  either_true true true h = refl
  either_true true false h = refl
  either_true false true h = refl
  either_true false false h = h

  own_way : (node source : IndAddr) (groups : List GroupAddr) (keyed : Bool) → has_key rows (channel.Tool node) ≡ keyed
      → keyed ≡ true
      → is_some (role_of rows (channel.Tool node) source) ≡ true
      → is_lane_of rows node groups (lane.Tool node source) ≡ true
  own_way node source groups keyed is there role =
      ap (λ b. if b then (node.0 == node.0 && (source.0 == node.0 || has_role rows (channel.Tool node) (Some source)))
      else (source.0 == node.0 && (has_key rows (channel.Tool node) && has_role rows (channel.Tool node) (Some node))))
      (is ∙ there)
      ∙ ap (λ b. b && (source.0 == node.0 || has_role rows (channel.Tool node) (Some source)))
      (eq-eqb node.0 node.0 refl)
      ∙ turned
    where
      turned : (source.0 == node.0 || has_role rows (channel.Tool node) (Some source)) ≡ true
      turned =
          ap (λ b. b || has_role rows (channel.Tool node) (Some source)) (eq_turned source.0 node.0)
          ∙ either_true (has_role rows (channel.Tool node) (Some source)) (node.0 == source.0)
          (sym (role_named (channel.Tool node) source) ∙ role)

  not_own : (node source : IndAddr) → has_key rows (channel.Tool node) ≡ false
      → has_key rows (channel.Tool source) ≡ true → (own : Bool)
      → (source.0 == node.0) ≡ own → own ≡ false
  not_own node source none key true same =
      let this : source ≡ node = ap (λ n. record { 0 = n }) (eqb-true source.0 node.0 same) in
      absurd (false≢true (sym none ∙ ap (λ a. has_key rows (channel.Tool a)) (sym this) ∙ key))
  not_own node source none key false same = refl

  device_way : (node source : IndAddr) (groups : List GroupAddr) → has_key rows (channel.Tool node) ≡ false
      → has_key rows (channel.Tool source) ≡ true
      → receiver_may rows node.0 (channel.Tool source) ≡ true → is_lane_of rows node groups (lane.Tool source source)
      ≡ true
  device_way node source groups none key may =
      ap (λ b. if b then (source.0 == node.0 && (source.0 == node.0 || has_role rows (channel.Tool node) (Some source)))
      else (source.0 == source.0 && (has_key rows (channel.Tool source)
      && has_role rows (channel.Tool source) (Some node)))) none
      ∙ (λ i. eq-eqb source.0 source.0 refl i && (key i && named_there i))
    where
      named_there : has_role rows (channel.Tool source) (Some node) ≡ true
      named_there =
          sym (or_none (has_role rows (channel.Tool source) (Some node)))
          ∙ ap (λ b. has_role rows (channel.Tool source) (Some node) || b)
          (sym (not_own node source none key (source.0 == node.0) refl))
          ∙ sym (role_named (channel.Tool source) node)
          ∙ ap (λ b. b || is_some (role_of rows (channel.Tool source) node))
          (sym (key_where rows (channel.Tool node) ∙ none))
          ∙ may

  of_device : (node : IndAddr) (groups : List GroupAddr) (source : IndAddr) (c : Channel)
      → option_or (keyed rows (channel.Tool node)) (keyed rows (channel.Tool source)) ≡ Some c
      → is_some (role_of rows c source) ≡ true
      → receiver_may rows node.0 c ≡ true → is_lane_of rows node groups (lane_of c source) ≡ true
  of_device node groups source c is role may =
      elim (two_keys (key_of rows (channel.Tool node)) (key_of rows (channel.Tool source)) (channel.Tool node)
      (channel.Tool source) c is) [
        | inl first ↦ subst (λ c. is_some (role_of rows c source) ≡ true
            → is_lane_of rows node groups (lane_of c source) ≡ true) first.1
            (own_way node source groups true (sym (key_where rows (channel.Tool node)) ∙ first.0) refl) role
        | inr second ↦ subst (λ c. receiver_may rows node.0 c ≡ true
            → is_lane_of rows node groups (lane_of c source) ≡ true) second.2
            (device_way node source groups (sym (key_where rows (channel.Tool node)) ∙ second.0)
            (sym (key_where rows (channel.Tool source)) ∙ second.1)) may
      ]

  -- ---- all

  pub lane_there : (node : IndAddr) (groups : List GroupAddr) → SendersHaveLanes rows node groups
  unfolding channel_of
  lane_there node groups true false source destination c to is role may =
      (lanes_are rows node groups).members (lane_of c source) ∙ of_group node groups source (record { 0 = destination })
      c to is role
  lane_there node groups false true source destination c to is role may =
      let on_node : (option_or (keyed rows (channel.Tool node)) (keyed rows (channel.Tool source)) ≡ Some c)
      × (receiver_may rows node.0 c ≡ true) =
      subst (λ n. (option_or (keyed rows (channel.Tool (record { 0 = n }))) (keyed rows (channel.Tool source)) ≡ Some c)
      × (receiver_may rows n c ≡ true))
      (eqb-true destination node.0 to) (is, may) in
      (lanes_are rows node groups).members (lane_of c source) ∙ of_device node groups source c on_node.0 role on_node.1
  lane_there node groups true true source destination c to is role may = absurd cc
  lane_there node groups false false source destination c to is role may = absurd cc
