-- The lanes that rows name are those that the rules give a node.
use Rattle.std.proofs.Common.{◌≡◌, ◌&&◌, ◌||◌, Bool, true, false, List, [], ◌∷◌, ◌++◌, Option, Some, None, refl, sym, ap, subst, ◌∙◌}
use Rattle.std.specs.Prelude.{◌==◌, if◌then◌else◌}
use Rattle.std.specs.List.{list_any, filter_map, cons_option}
use Rattle.std.proofs.lemmas.Bool.{and_right}
use Rattle.std.proofs.lemmas.Bool.Decides.{Decides-eqb}
use Rattle.std.proofs.lemmas.List.Folds.{list_any-append}
use Rattle.knx_base.specs.declared.address.GroupAddr.{GroupAddr}
use Rattle.knx_base.specs.declared.address.IndAddr.{IndAddr}
use Rattle.key_tables.specs.declared.types.Channel.TheVariants as channel
use Rattle.key_tables.specs.declared.types.Lane.{Lane}
use Rattle.key_tables.specs.declared.types.Lane.TheVariants as lane
use Rattle.key_tables.specs.declared.types.Row.{Row}
use Rattle.key_tables.specs.declared.types.Row.TheVariants as row
use Rattle.key_tables.specs.Rows.{is_role_row, has_key, has_role}
use Rattle.key_tables.specs.Lanes.{same_lane, has_lane, is_lane_of, is_group_of, group_lane, own_lane, device_lane, tool_lanes, named_lanes, lanes_of, AreLanesOf, AreTheOnly}
use Rattle.key_tables.proofs.LaneOrder.{none_twice, one_list, order_ascends, order_has}

-- ---- tests of lists

no_one : {A : Type 0} (xs : List A) → list_any (λ _. false) xs ≡ false
no_one [] = refl
no_one (x ∷ xs) = no_one xs

regrouped : (a b c d : Bool) → ((a || b) || (c || d)) ≡ ((a || c) || (b || d))
regrouped true b c d = refl
regrouped false true true d = refl
regrouped false true false d = refl
regrouped false false c d = refl

either : {A : Type 0} (p q : A → Bool) (xs : List A) → list_any (λ x. p x || q x) xs ≡ (list_any p xs || list_any q xs)
either p q [] = refl
either p q (x ∷ xs) =
    ap (λ b. (p x || q x) || b) (either p q xs) ∙ regrouped (p x) (q x) (list_any p xs) (list_any q xs)

swapped : {A B : Type 0} (p : A → B → Bool) (xs : List A) (ys : List B)
    → list_any (λ x. list_any (p x) ys) xs ≡ list_any (λ y. list_any (λ x. p x y) xs) ys
swapped p [] ys = sym (no_one ys)
swapped p (x ∷ xs) ys =
    ap (λ b. list_any (p x) ys || b) (swapped p xs ys) ∙ sym (either (p x) (λ y. list_any (λ x. p x y) xs) ys)

taken_out : (a b c : Bool) → ((a && c) || (b && c)) ≡ ((a || b) && c)
taken_out true true true = refl
taken_out true true false = refl
taken_out true false true = refl
taken_out true false false = refl
taken_out false b c = refl

and_all : {A : Type 0} (p : A → Bool) (b : Bool) (xs : List A) → list_any (λ x. p x && b) xs ≡ (list_any p xs && b)
and_all p b [] = refl
and_all p b (x ∷ xs) = ap (λ c. (p x && b) || c) (and_all p b xs) ∙ taken_out (p x) (list_any p xs) b

or_none : (a : Bool) → (a || false) ≡ a
or_none true = refl
or_none false = refl

and_none : (a : Bool) → (a && false) ≡ false
and_none a = and_right a false refl

and_turned : (a b : Bool) → (a && b) ≡ (b && a)
and_turned true true = refl
and_turned true false = refl
and_turned false b = sym (and_none b)

and_moved : (a b c : Bool) → (a && (b && c)) ≡ ((a && c) && b)
and_moved true b c = and_turned b c
and_moved false b c = refl

-- ---- what a row adds

-- it is this lane that a row names
abbrev is_it : Lane → Option Lane → Bool
is_it asked None = false
is_it asked (Some lane) = same_lane asked lane

one_more : (asked : Lane) (named : Option Lane) (lanes : List Lane)
    → has_lane (cons_option named lanes) asked ≡ (is_it asked named || has_lane lanes asked)
one_more asked None lanes = refl
one_more asked (Some lane) lanes = refl

by_rows : (asked : Lane) (f : Row → Option Lane) (says : Row → Bool) → ((row : Row) → is_it asked (f row) ≡ says row)
    → (rows : List Row) → has_lane (filter_map f rows) asked ≡ list_any says rows
by_rows asked f says each [] = refl
by_rows asked f says each (row ∷ rows) =
    one_more asked (f row) (filter_map f rows) ∙ (λ i. each row i || by_rows asked f says each rows i)

where_so : (asked : Lane) (b : Bool) (lane : Lane) → is_it asked (if b then Some lane else None)
    ≡ (b && same_lane asked lane)
where_so asked true lane = refl
where_so asked false lane = refl

-- ---- senders to groups

run_by_row : (groups : List GroupAddr) (sender : IndAddr) (row : Row)
    → is_it (lane.Run sender) (group_lane groups row) ≡ list_any
    (λ group. is_role_row (channel.Group group) (Some sender) row) groups
run_by_row groups sender (row.Group _ _ _) = sym (no_one groups)
run_by_row groups sender (row.Tool _ _) = sym (no_one groups)
run_by_row groups sender (row.Role (channel.Tool device) other _) = sym (no_one groups)
run_by_row groups sender (row.Role (channel.Group group) None _) =
    sym (and_all (λ other. other.0 == group.0) false groups ∙ and_none (is_group_of groups group))
run_by_row groups sender (row.Role (channel.Group group) (Some other) _) =
    where_so (lane.Run sender) (is_group_of groups group) (lane.Run other)
    ∙ sym (and_all (λ other. other.0 == group.0) (sender.0 == other.0) groups)

runs : (rows : List Row) (groups : List GroupAddr) (sender : IndAddr)
    → has_lane (filter_map (group_lane groups) rows) (lane.Run sender)
    ≡ list_any (λ group. has_role rows (channel.Group group) (Some sender)) groups
runs rows groups sender =
    by_rows (lane.Run sender) (group_lane groups) (λ row. list_any
    (λ group. is_role_row (channel.Group group) (Some sender) row) groups)
    (run_by_row groups sender) rows
    ∙ swapped (λ row group. is_role_row (channel.Group group) (Some sender) row) rows groups

no_tool : (groups : List GroupAddr) (device sender : IndAddr) (row : Row)
    → is_it (lane.Tool device sender) (group_lane groups row) ≡ false
no_tool groups device sender (row.Group _ _ _) = refl
no_tool groups device sender (row.Tool _ _) = refl
no_tool groups device sender (row.Role (channel.Tool _) _ _) = refl
no_tool groups device sender (row.Role (channel.Group _) None _) = refl
no_tool groups device sender (row.Role (channel.Group group) (Some other) _) =
    where_so (lane.Tool device sender) (is_group_of groups group) (lane.Run other) ∙ and_none (is_group_of groups group)

-- ---- senders on the node's channel

own_by_row : (node device sender : IndAddr) (row : Row)
    → is_it (lane.Tool device sender) (own_lane node row) ≡ (is_role_row (channel.Tool node) (Some sender) row
    && device.0 == node.0)
own_by_row node device sender (row.Group _ _ _) = refl
own_by_row node device sender (row.Tool _ _) = refl
own_by_row node device sender (row.Role (channel.Group _) _ _) = refl
own_by_row node device sender (row.Role (channel.Tool other) None _) =
    sym (ap (λ b. b && device.0 == node.0) (and_none (node.0 == other.0)))
own_by_row node device sender (row.Role (channel.Tool other) (Some from) _) =
    where_so (lane.Tool device sender) (node.0 == other.0) (lane.Tool node from)
    ∙ and_moved (node.0 == other.0) (device.0 == node.0) (sender.0 == from.0)

no_run_of_own : (node sender : IndAddr) (row : Row) → is_it (lane.Run sender) (own_lane node row) ≡ false
no_run_of_own node sender (row.Group _ _ _) = refl
no_run_of_own node sender (row.Tool _ _) = refl
no_run_of_own node sender (row.Role (channel.Group _) _ _) = refl
no_run_of_own node sender (row.Role (channel.Tool _) None _) = refl
no_run_of_own node sender (row.Role (channel.Tool other) (Some from) _) =
    where_so (lane.Run sender) (node.0 == other.0) (lane.Tool node from) ∙ and_none (node.0 == other.0)

or_own : (role device own : Bool) → ((role && device) || ((device && own) || false)) ≡ (device && (own || role))
or_own true true true = refl
or_own true true false = refl
or_own true false own = refl
or_own false true true = refl
or_own false true false = refl
or_own false false own = refl

own_lanes : (rows : List Row) (node device sender : IndAddr)
    → has_lane (filter_map (own_lane node) rows ++ lane.Tool node node ∷ []) (lane.Tool device sender)
    ≡ (device.0 == node.0 && (sender.0 == node.0 || has_role rows (channel.Tool node) (Some sender)))
own_lanes rows node device sender =
    list_any-append (same_lane (lane.Tool device sender)) (filter_map (own_lane node) rows) (lane.Tool node node ∷ [])
    ∙ ap (λ b. b || ((device.0 == node.0 && sender.0 == node.0) || false))
    (by_rows (lane.Tool device sender) (own_lane node) (λ row. is_role_row (channel.Tool node) (Some sender) row
    && device.0 == node.0)
    (own_by_row node device sender) rows
    ∙ and_all (is_role_row (channel.Tool node) (Some sender)) (device.0 == node.0) rows)
    ∙ or_own (has_role rows (channel.Tool node) (Some sender)) (device.0 == node.0) (sender.0 == node.0)

no_runs_own : (rows : List Row) (node sender : IndAddr) → has_lane
    (filter_map (own_lane node) rows ++ lane.Tool node node ∷ []) (lane.Run sender) ≡ false
no_runs_own rows node sender =
    list_any-append (same_lane (lane.Run sender)) (filter_map (own_lane node) rows) (lane.Tool node node ∷ [])
    ∙ ap (λ b. b || false) (by_rows (lane.Run sender) (own_lane node) (λ _. false) (no_run_of_own node sender) rows
    ∙ no_one rows)

-- ---- devices on whose channel the node has a role

-- of the row's device, or of another
abbrev IsDevice : List Row → IndAddr → IndAddr → Bool → IndAddr → IndAddr → Type 0
IsDevice all device sender named other from =
    ((named && has_key all (channel.Tool other)) && (device.0 == other.0 && sender.0 == other.0))
    ≡ ((device.0 == other.0 && named) && (sender.0 == device.0 && has_key all (channel.Tool device)))

the_device : (all : List Row) (device sender : IndAddr) (named : Bool)
    → ((named && has_key all (channel.Tool device)) && (true && sender.0 == device.0))
    ≡ ((true && named) && (sender.0 == device.0 && has_key all (channel.Tool device)))
the_device all device sender true = and_turned (has_key all (channel.Tool device)) (sender.0 == device.0)
the_device all device sender false = refl

this_device : (all : List Row) (device sender other : IndAddr) (named same : Bool) → (device.0 == other.0) ≡ same
    → ((named && has_key all (channel.Tool other)) && (same && sender.0 == other.0))
    ≡ ((same && named) && (sender.0 == device.0 && has_key all (channel.Tool device)))
this_device all device sender other named false is = and_none (named && has_key all (channel.Tool other))
this_device all device sender other named true is =
    let equal = ap (λ n. let addr : IndAddr = record { 0 = n } in addr) ((Decides-eqb device.0 other.0).0 is) in
    subst (λ (o : IndAddr). ((named && has_key all (channel.Tool o)) && (true && sender.0 == o.0))
    ≡ ((true && named) && (sender.0 == device.0 && has_key all (channel.Tool device)))) equal
    (the_device all device sender named)

device_by_row : (all : List Row) (node device sender : IndAddr) (row : Row)
    → is_it (lane.Tool device sender) (device_lane all node row)
    ≡ (is_role_row (channel.Tool device) (Some node) row && (sender.0 == device.0 && has_key all (channel.Tool device)))
device_by_row all node device sender (row.Group _ _ _) = refl
device_by_row all node device sender (row.Tool _ _) = refl
device_by_row all node device sender (row.Role (channel.Group _) _ _) = refl
device_by_row all node device sender (row.Role (channel.Tool other) None _) =
    sym (ap (λ b. b && (sender.0 == device.0 && has_key all (channel.Tool device))) (and_none (device.0 == other.0)))
device_by_row all node device sender (row.Role (channel.Tool other) (Some from) _) =
    where_so (lane.Tool device sender) (node.0 == from.0 && has_key all (channel.Tool other)) (lane.Tool other other)
    ∙ this_device all device sender other (node.0 == from.0) (device.0 == other.0) refl

no_run_of_device : (all : List Row) (node sender : IndAddr) (row : Row)
    → is_it (lane.Run sender) (device_lane all node row) ≡ false
no_run_of_device all node sender (row.Group _ _ _) = refl
no_run_of_device all node sender (row.Tool _ _) = refl
no_run_of_device all node sender (row.Role (channel.Group _) _ _) = refl
no_run_of_device all node sender (row.Role (channel.Tool _) None _) = refl
no_run_of_device all node sender (row.Role (channel.Tool other) (Some from) _) =
    where_so (lane.Run sender) (node.0 == from.0 && has_key all (channel.Tool other)) (lane.Tool other other)
    ∙ and_none (node.0 == from.0 && has_key all (channel.Tool other))

and_last : (role same key : Bool) → (role && (same && key)) ≡ (same && (key && role))
and_last true true key = and_turned true key
and_last true false key = refl
and_last false true key = sym (and_none key)
and_last false false key = refl

device_lanes : (rows : List Row) (node device sender : IndAddr)
    → has_lane (filter_map (device_lane rows node) rows) (lane.Tool device sender)
    ≡ (sender.0 == device.0 && (has_key rows (channel.Tool device) && has_role rows (channel.Tool device) (Some node)))
device_lanes rows node device sender =
    by_rows (lane.Tool device sender) (device_lane rows node)
    (λ row. is_role_row (channel.Tool device) (Some node) row
    && (sender.0 == device.0 && has_key rows (channel.Tool device)))
    (device_by_row rows node device sender) rows
    ∙ and_all (is_role_row (channel.Tool device) (Some node))
    (sender.0 == device.0 && has_key rows (channel.Tool device)) rows
    ∙ and_last (has_role rows (channel.Tool device) (Some node)) (sender.0 == device.0)
    (has_key rows (channel.Tool device))

-- ---- all

one_way : (keyed : Bool) (own others : List Lane) (asked : Lane) (this that : Bool) → has_lane own asked ≡ this
    → has_lane others asked ≡ that
    → has_lane (if keyed then own else others) asked ≡ (if keyed then this else that)
one_way true own others asked this that here there = here
one_way false own others asked this that here there = there

neither_way : (keyed : Bool) → (if keyed then false else false) ≡ false
neither_way true = refl
neither_way false = refl

pub named_has : (rows : List Row) (node : IndAddr) (groups : List GroupAddr) (asked : Lane)
    → has_lane (named_lanes rows node groups) asked ≡ is_lane_of rows node groups asked
named_has rows node groups (lane.Run sender) =
    let of_tools =
    one_way (has_key rows (channel.Tool node)) _ _ (lane.Run sender) false false (no_runs_own rows node sender)
    (by_rows (lane.Run sender) (device_lane rows node) (λ _. false) (no_run_of_device rows node sender) rows
    ∙ no_one rows)
    ∙ neither_way (has_key rows (channel.Tool node)) in
    list_any-append (same_lane (lane.Run sender)) (filter_map (group_lane groups) rows) (tool_lanes rows node)
    ∙ (λ i. runs rows groups sender i || of_tools i) ∙ or_none _
named_has rows node groups (lane.Tool device sender) =
    list_any-append (same_lane (lane.Tool device sender)) (filter_map (group_lane groups) rows) (tool_lanes rows node)
    ∙ ap (λ b. b || has_lane (tool_lanes rows node) (lane.Tool device sender))
    (by_rows (lane.Tool device sender) (group_lane groups) (λ _. false) (no_tool groups device sender) rows
    ∙ no_one rows)
    ∙ one_way (has_key rows (channel.Tool node)) _ _ (lane.Tool device sender) _ _ (own_lanes rows node device sender)
    (device_lanes rows node device sender)

pub lanes_are : (rows : List Row) (node : IndAddr) (groups : List GroupAddr)
    → AreLanesOf rows node groups (lanes_of rows node groups)
unfolding lanes_of
lanes_are rows node groups = record {
  members = λ asked. order_has (named_lanes rows node groups) asked ∙ named_has rows node groups asked;
  ascend = order_ascends (named_lanes rows node groups);
  once = none_twice (lanes_of rows node groups) (order_ascends (named_lanes rows node groups));
}

pub only_lanes : (rows : List Row) (node : IndAddr) (groups : List GroupAddr)
    → AreTheOnly rows node groups (lanes_of rows node groups)
only_lanes rows node groups others are =
    let these = lanes_are rows node groups in
    one_list others (lanes_of rows node groups) are.ascend these.ascend
    (λ asked. are.members asked ∙ sym (these.members asked))
