-- One more listing of a group.
use Rattle.std.proofs.Common.{◌≡◌, ◌==◌, ℕ, Bool, true, false, cond, ◌||◌, List, [], ◌∷◌, ◌++◌, fold, flat_map, Option, Some, None, refl, sym, ap, ◌∙◌, append-nil, inl, inr, nat_lt, arith}
use Rattle.std.specs.List.{filter}
use Rattle.std.specs.Option.{option_map, unwrap_or}
use Rattle.std.specs.Ordering.{nat_cmp, is_eq}
use Rattle.std.specs.BTreeMap.{BTreeMap}
use Rattle.std.specs.BTreeMap as tree
use Rattle.std.specs.BTreeSet.{BTreeSet, insert_key, keys}
use Rattle.std.specs.declared.cmp.Ordering.TheVariants.{Less, Equal, Greater}
use Rattle.std.proofs.lemmas.Bool.{cases_Bool, eqb-true, ltb-true}
use Rattle.std.proofs.lemmas.Grind.{flat_map-append, fold-append}
use Rattle.std.proofs.lemmas.List.Elements.{filter-append}
use Rattle.std.proofs.lemmas.List.Folds.{list_any-append}
use Rattle.knx_base.specs.declared.address.GroupAddr.{GroupAddr}
use Rattle.knx_base.specs.declared.address.IndAddr.{IndAddr}
use Rattle.keyring_reader.specs.declared.said.Listing.{Listing}
use Rattle.keyring_reader.specs.Roles.{ascending, lists, is_listed, senders_to, listed_senders, by_group, by_device}
use Rattle.keyring_reader.specs.Holding.{AreListed}

pub or_false : (b : Bool) → (b || false) ≡ b
or_false true = refl
or_false false = refl

or_true : (b : Bool) → (b || true) ≡ true
or_true true = refl
or_true false = refl

one_listing : (here : Bool) (listing : Listing) → flat_map (λ (l : Listing). l.senders) (cond here (listing ∷ []) [])
    ≡ cond here listing.senders []
one_listing true listing = append-nil listing.senders
one_listing false listing = refl

senders_more : (listings : List Listing) (listing : Listing) (group : GroupAddr)
    → senders_to (listings ++ listing ∷ []) group ≡ senders_to listings group
    ++ cond (lists group listing) listing.senders []
senders_more listings listing group =
    ap (flat_map (λ (l : Listing). l.senders)) (filter-append (lists group) listings (listing ∷ []))
    ∙ flat_map-append (λ (l : Listing). l.senders) (filter (lists group) listings) (filter (lists group) (listing ∷ []))
    ∙ ap (λ (more : List IndAddr). senders_to listings group ++ more) (one_listing (lists group listing) listing)

abbrev in_order : List IndAddr → List IndAddr
in_order devices = ascending (λ (device : IndAddr). device.0) devices

-- a listing of another group
other_listed : (listings : List Listing) (listing : Listing) (group : GroupAddr) → lists group listing ≡ false
    → listed_senders (listings ++ listing ∷ []) group ≡ listed_senders listings group
other_listed listings listing group other =
    ap (λ (b : Bool). cond b (Some (in_order (senders_to (listings ++ listing ∷ []) group))) None)
    (list_any-append (lists group) listings (listing ∷ []) ∙ ap (λ (b : Bool). is_listed listings group || (b || false))
    other
    ∙ or_false (is_listed listings group))
    ∙ ap (λ (devices : List IndAddr). cond (is_listed listings group) (Some (in_order devices)) None)
    (senders_more listings listing group ∙ ap (λ (b : Bool). senders_to listings group ++ cond b listing.senders [])
    other
    ∙ append-nil (senders_to listings group))

none_here : (here rest : Bool) → (here || rest) ≡ false → (here ≡ false) × (rest ≡ false)
none_here true rest none = cc
none_here false rest none = (refl, none)

no_senders : (listings : List Listing) (group : GroupAddr) → is_listed listings group ≡ false
    → senders_to listings group ≡ []
no_senders [] group none = refl
no_senders (listing ∷ listings) group none =
    let parts = none_here (lists group listing) (is_listed listings group) none in
    ap (λ (b : Bool). flat_map (λ (l : Listing). l.senders) (cond b (listing ∷ filter (lists group) listings)
    (filter (lists group) listings))) parts.0
    ∙ no_senders listings group parts.1

so_far : (here : Bool) (listings : List Listing) (group : GroupAddr) → is_listed listings group ≡ here
    → unwrap_or (cond here (Some (in_order (senders_to listings group))) None) [] ≡ in_order (senders_to listings group)
unfolding ascending
so_far true listings group is = refl
so_far false listings group is = sym (ap in_order (no_senders listings group is))

-- a listing of this group
same_listed : (listings : List Listing) (listing : Listing) (group : GroupAddr) → lists group listing ≡ true
    → listed_senders (listings ++ listing ∷ []) group ≡ Some
    (fold (insert_key by_device) (unwrap_or (listed_senders listings group) []) listing.senders)
unfolding ascending
same_listed listings listing group same =
    ap (λ (b : Bool). cond b (Some (in_order (senders_to (listings ++ listing ∷ []) group))) None)
    (list_any-append (lists group) listings (listing ∷ []) ∙ ap (λ (b : Bool). is_listed listings group || (b || false))
    same
    ∙ or_true (is_listed listings group))
    ∙ ap (λ (devices : List IndAddr). Some (in_order devices))
    (senders_more listings listing group ∙ ap (λ (b : Bool). senders_to listings group ++ cond b listing.senders [])
    same)
    ∙ ap (λ (devices : List IndAddr). Some devices) (fold-append (insert_key by_device) [] (senders_to listings group)
    listing.senders)
    ∙ ap (λ (devices : List IndAddr). Some (fold (insert_key by_device) devices listing.senders))
    (sym (so_far (is_listed listings group) listings group refl))

same_group : (a b : GroupAddr) → (a.0 == b.0) ≡ true → a ≡ b
same_group a b is = ap (λ (n : ℕ). record { 0 = n }) (eqb-true a.0 b.0 is)

tests_agree : (less same : Bool) (a b : ℕ) → nat_lt a b ≡ less → (a == b) ≡ same
    → is_eq (cond less Less (cond same Equal Greater)) ≡ same
tests_agree true true a b below is = absurd (omega (arith, ltb-true a b below, eqb-true a b is))
tests_agree true false a b below is = refl
tests_agree false true a b below is = refl
tests_agree false false a b below is = refl

pub is_eq-nat_cmp : (a b : ℕ) → is_eq (nat_cmp a b) ≡ (a == b)
is_eq-nat_cmp a b = tests_agree (nat_lt a b) (a == b) a b refl refl

-- what the map has at the group, with a set in its place
new_at : (here : Bool) (set : BTreeSet IndAddr) (old new : Option (BTreeSet IndAddr))
    → new ≡ cond here (Some set) (cond here None old) → new ≡ cond here (Some set) old
new_at true set old new is = is
new_at false set old new is = is

pub more_listed : (old removed new : BTreeMap GroupAddr (BTreeSet IndAddr)) (listings : List Listing)
    (listing : Listing) (set grown : BTreeSet IndAddr)
    → AreListed old listings → set.keys ≡ unwrap_or (option_map keys (tree.get by_group old listing.group)) []
    → grown.keys ≡ fold (insert_key by_device) set.keys listing.senders
    → ((group : GroupAddr) → tree.get by_group removed group
    ≡ cond (is_eq (by_group listing.group group)) None (tree.get by_group old group))
    → ((group : GroupAddr) → tree.get by_group new group ≡ cond (is_eq (by_group listing.group group)) (Some grown)
    (tree.get by_group removed group))
    → AreListed new (listings ++ listing ∷ [])
more_listed old removed new listings listing set grown are set_is grown_is removes puts = λ group.
    let now : tree.get by_group new group ≡ cond (is_eq (by_group listing.group group)) (Some grown)
    (tree.get by_group old group) =
    new_at (is_eq (by_group listing.group group)) grown (tree.get by_group old group) (tree.get by_group new group)
    (puts group ∙ ap (λ (o : Option (BTreeSet IndAddr)). cond (is_eq (by_group listing.group group)) (Some grown) o)
    (removes group)) in
    let here : is_eq (by_group listing.group group) ≡ lists group listing = is_eq-nat_cmp listing.group.0 group.0 in
    elim (cases_Bool (lists group listing)) [
      | inl same ↦
          ap (λ (o : Option (BTreeSet IndAddr)). option_map keys o)
          (now ∙ ap (λ (b : Bool). cond b (Some grown) (tree.get by_group old group)) (here ∙ same))
          ∙ ap (λ (devices : List IndAddr). Some devices)
          (grown_is
          ∙ ap (λ (devices : List IndAddr). fold (insert_key by_device) devices listing.senders)
          (set_is ∙ ap (λ (o : Option (List IndAddr)). unwrap_or o []) (are listing.group)
          ∙ ap (λ (g : GroupAddr). unwrap_or (listed_senders listings g) []) (same_group listing.group group same)))
          ∙ sym (same_listed listings listing group same)
      | inr other ↦
          ap (λ (o : Option (BTreeSet IndAddr)). option_map keys o)
          (now ∙ ap (λ (b : Bool). cond b (Some grown) (tree.get by_group old group)) (here ∙ other))
          ∙ are group
          ∙ sym (other_listed listings listing group other)
    ]
