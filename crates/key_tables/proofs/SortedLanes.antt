-- Lanes that were sorted and of which each is left once ascend, and are the same lanes.
use Rattle.std.proofs.Common.{◌≡◌, Bool, true, false, Ordering, List, refl, sym, ap, subst, ◌∙◌}
use Rattle.std.specs.Cmp.{IsEquivalence}
use Rattle.std.specs.List.{dedup, Any}
use Rattle.std.specs.List.Sorted.{IsStrictlySortedBy, IsSorted, IsPermutation}
use Rattle.std.proofs.lemmas.List.Folds.{Any-from_list_any, list_any-from_Any}
use Rattle.std.proofs.lemmas.List.Kept.{Any-dedup, Contains-from_dedup, IsStrictlySortedBy-dedup}
use Rattle.std.proofs.lemmas.List.Sorted.{list_any-IsPermutation}
use Rattle.knx_base.specs.declared.address.GroupAddr.{GroupAddr}
use Rattle.knx_base.specs.declared.address.IndAddr.{IndAddr}
use Rattle.key_tables.specs.declared.types.Lane.{Lane}
use Rattle.key_tables.specs.declared.types.Row.{Row}
use Rattle.key_tables.specs.Lanes.{same_lane, has_lane, lane_cmp, named_lanes, lanes_of}
use Rattle.key_tables.proofs.LaneOrder.{total, same_is_equal, same_lane-is, same_itself, HaveSame, one_list, order_ascends, order_has}

both_ways : (a b : Bool) → (a ≡ true → b ≡ true) → (b ≡ true → a ≡ true) → a ≡ b
both_ways true b here there = sym (here refl)
both_ways false true here there = there refl
both_ways false false here there = refl

turned : (a b : Lane) → same_lane a b ≡ true → same_lane b a ≡ true
turned a b same = subst (λ l. same_lane b l ≡ true) (sym (same_lane-is a b same)) (same_itself b)

equivalence : IsEquivalence same_lane
equivalence = record {
  refl = same_itself;
  symm = λ a b. both_ways (same_lane a b) (same_lane b a) (turned a b) (turned b a);
  congr = λ a b c same. ap (λ l. same_lane l c) (same_lane-is a b same);
}

once_same : (lanes : List Lane) → HaveSame (dedup same_lane lanes) lanes
once_same lanes asked = both_ways (has_lane (dedup same_lane lanes) asked) (has_lane lanes asked) was still
  where
    was : has_lane (dedup same_lane lanes) asked ≡ true → has_lane lanes asked ≡ true
    was has =
        let any = Any-from_list_any (same_lane asked) (dedup same_lane lanes) has in
        let there = Contains-from_dedup same_lane lanes any.1 (any.0, any.2, any.3) in
        list_any-from_Any (same_lane asked) lanes (there.0, any.1, there.1, there.2, any.4)

    still : has_lane lanes asked ≡ true → has_lane (dedup same_lane lanes) asked ≡ true
    still has =
        let any = Any-from_list_any (same_lane asked) lanes has in
        let is = sym (same_lane-is asked any.1 any.4) in
        list_any-from_Any (same_lane asked) (dedup same_lane lanes)
        (subst (λ l. Any (λ y. same_lane l y ≡ true) (dedup same_lane lanes)) is
        (Any-dedup equivalence lanes any.1 (any.0, any.2, any.3)))

pub record AreSorted (given sorted : List Lane) : Type 0 where
  pub ascend : IsStrictlySortedBy lane_cmp sorted
  pub same : HaveSame sorted given

pub sorted_once : (same : Lane → Lane → Bool) (cmp : Lane → Lane → Ordering) → ((a b : Lane) → same a b ≡ same_lane a b)
    → ((a b : Lane) → cmp a b ≡ lane_cmp a b) → (given sorted once : List Lane) → IsPermutation given sorted
    → IsSorted cmp sorted
    → once ≡ dedup same sorted → AreSorted given once
sorted_once same cmp same_is cmp_is given sorted once moved ascend is =
    let cmps : cmp ≡ lane_cmp = λ i a b. cmp_is a b i in
    let sames : same ≡ same_lane = λ i a b. same_is a b i in
    let in_turn = subst (λ c. IsSorted c sorted) cmps ascend in
    let these = is ∙ ap (λ s. dedup s sorted) sames in
    subst (AreSorted given) (sym these) (record {
      ascend = IsStrictlySortedBy-dedup total (λ a b. sym (same_is_equal a b)) sorted in_turn;
      same = λ asked. once_same sorted asked ∙ sym (list_any-IsPermutation (same_lane asked) given sorted moved);
    })

pub are_lanes_of : (rows : List Row) (node : IndAddr) (groups : List GroupAddr) (given once : List Lane)
    → given ≡ named_lanes rows node groups → AreSorted given once → once ≡ lanes_of rows node groups
unfolding lanes_of
are_lanes_of rows node groups given once named sorted =
    one_list once (lanes_of rows node groups) sorted.ascend (order_ascends (named_lanes rows node groups))
    (λ asked. sorted.same asked ∙ ap (λ lanes. has_lane lanes asked) named
    ∙ sym (order_has (named_lanes rows node groups) asked))
