-- Lanes in their order: the order of the type is the one of the rules, and two lists that ascend with the same lanes
-- are one.
use Prim.Native.Nat.{suc}
use Rattle.std.proofs.Common.{◌≡◌, ℕ, ◌<◌, ◌&&◌, ◌||◌, Bool, true, false, cond, nat_lt, Ordering, Less, Equal, Greater, arith, List, [], ◌∷◌, length, Option, Some, None, ◌+◌, refl, sym, ap, subst, ◌∙◌, slice_index_or}
use Rattle.std.specs.Prelude.{◌==◌, not, slice_get, position}
use Rattle.std.specs.Option.{is_some, IfSome}
use Rattle.std.specs.Cmp.{IsTotalOrder}
use Rattle.std.specs.List.{list_any, position_or_len, AllByRecursion, AllPairs}
use Rattle.std.specs.List.Sorted.{IsStrictlySortedBy}
use Rattle.std.specs.Ordering.{nat_cmp, ordering_then, ordering_reverse, match_ordering, is_eq}
use Rattle.std.proofs.lemmas.Bool.{false≢true}
use Rattle.std.proofs.lemmas.Bool.Decides.{Decides-eqb, nat_tests}
use Rattle.std.proofs.lemmas.List.Quantifiers.{position-Some}
use Rattle.std.proofs.lemmas.Option.{slice_get_read}
use Rattle.std.proofs.lemmas.Map.Keys.{Less-from_sorted}
use Rattle.key_tables.specs.declared.types.Lane.{Lane}
use Rattle.key_tables.specs.declared.types.Lane.TheVariants as lane
use Rattle.key_tables.specs.contracts.types.LaneOrd.TheImpl.{cmp-value}
use Rattle.key_tables.specs.contracts.types.LaneOrd.TheImpl.Laws.{total-law}
use Rattle.key_tables.specs.contracts.types.LanePartialEq.TheImpl.{eq-value}
use Rattle.key_tables.specs.Lanes.{same_lane, has_lane, lane_cmp, with_lane, in_order}
use Rattle.key_tables.proofs.Unique.{both_true}

-- ---- one order and one equality

pub cmp_is : (a b : Lane) → cmp-value.it a b ≡ lane_cmp a b
cmp_is (lane.Run a) (lane.Run b) = refl
cmp_is (lane.Run _) (lane.Tool _ _) = refl
cmp_is (lane.Tool _ _) (lane.Run _) = refl
cmp_is (lane.Tool a s) (lane.Tool b t) = refl

-- the equality of the type
pub same_is : (a b : Lane) → eq-value.it a b ≡ same_lane a b
same_is (lane.Run a) (lane.Run b) = refl
same_is (lane.Run _) (lane.Tool _ _) = refl
same_is (lane.Tool _ _) (lane.Run _) = refl
same_is (lane.Tool a s) (lane.Tool b t) = refl

pub total : IsTotalOrder lane_cmp
total = record {
  antisymm = λ x y. sym (cmp_is x y) ∙ total-law.antisymm x y ∙ ap ordering_reverse (cmp_is y x);
  trans = λ x y z below then. sym (cmp_is x z) ∙ total-law.trans x y z (cmp_is x y ∙ below) (cmp_is y z ∙ then);
  congr = λ x y z equal. sym (cmp_is x z) ∙ total-law.congr x y z (cmp_is x y ∙ equal) ∙ cmp_is y z;
}

equal_where : (less equal : Bool) → (less ≡ true → equal ≡ false)
    → is_eq (cond less Less (cond equal Equal Greater)) ≡ equal
equal_where true equal apart = sym (apart refl)
equal_where false true apart = refl
equal_where false false apart = refl

pub numbers_equal : (a b : ℕ) → is_eq (nat_cmp a b) ≡ (a == b)
numbers_equal a b = equal_where (nat_lt a b) (a == b) (λ less. grind (arith, nat_tests, less))

pub then_equal : (first second : Ordering) → is_eq (ordering_then first second) ≡ (is_eq first && is_eq second)
then_equal Less second = refl
then_equal Equal second = refl
then_equal Greater second = refl

-- lanes are the same where neither comes before the other
pub same_is_equal : (a b : Lane) → is_eq (lane_cmp a b) ≡ same_lane a b
same_is_equal (lane.Run a) (lane.Run b) = numbers_equal a.0 b.0
same_is_equal (lane.Run _) (lane.Tool _ _) = refl
same_is_equal (lane.Tool _ _) (lane.Run _) = refl
same_is_equal (lane.Tool a s) (lane.Tool b t) =
    then_equal (nat_cmp a.0 b.0) (nat_cmp s.0 t.0) ∙ (λ i. numbers_equal a.0 b.0 i && numbers_equal s.0 t.0 i)

pub lanes_equal : (a b : Lane) → is_eq (cmp-value.it a b) ≡ same_lane a b
lanes_equal a b = ap is_eq (cmp_is a b) ∙ same_is_equal a b

pub same_lane-is : (a b : Lane) → same_lane a b ≡ true → a ≡ b
same_lane-is (lane.Run a) (lane.Run b) same = ap (λ n. lane.Run (record { 0 = n })) ((Decides-eqb a.0 b.0).0 same)
same_lane-is (lane.Run _) (lane.Tool _ _) same = absurd cc
same_lane-is (lane.Tool _ _) (lane.Run _) same = absurd cc
same_lane-is (lane.Tool a s) (lane.Tool b t) same =
    let both = both_true (a.0 == b.0) (s.0 == t.0) same in
    λ i. lane.Tool (record { 0 = (Decides-eqb a.0 b.0).0 both.0 i }) (record { 0 = (Decides-eqb s.0 t.0).0 both.1 i })

equal_is : (a b : Lane) → lane_cmp a b ≡ Equal → a ≡ b
equal_is a b equal = same_lane-is a b (sym (same_is_equal a b) ∙ ap is_eq equal)

pub is_itself : (o : Ordering) → o ≡ ordering_reverse o → o ≡ Equal
is_itself Less back = absurd cc
is_itself Equal back = refl
is_itself Greater back = absurd cc

pub same_itself : (a : Lane) → same_lane a a ≡ true
same_itself a = sym (same_is_equal a a) ∙ ap is_eq (is_itself (lane_cmp a a) (total.antisymm a a))

-- of two lanes that differ in order
apart : (a b : Lane) → lane_cmp a b ≡ Less → same_lane a b ≡ false
apart a b below = sym (same_is_equal a b) ∙ ap is_eq below

-- the other way round
flipped : (a b : Lane) (o : Ordering) → lane_cmp a b ≡ o → lane_cmp b a ≡ ordering_reverse o
flipped a b o is = total.antisymm b a ∙ ap ordering_reverse is

pub none_twice : (lanes : List Lane) → IsStrictlySortedBy lane_cmp lanes
    → AllPairs (λ lane other. same_lane lane other ≡ false) lanes
none_twice lanes ascend i j d before within =
    apart (slice_index_or lanes i d) (slice_index_or lanes j d)
    (Less-from_sorted lane_cmp lanes i j d ascend before within)

-- ---- lists that ascend with the same lanes

abbrev IsAfter : Lane → List Lane → Type 0
IsAfter lane lanes = AllByRecursion (λ later. lane_cmp lane later ≡ Less) lanes

after_first : (lane other : Lane) (lanes : List Lane) → lane_cmp lane other ≡ Less → IsAfter other lanes
    → IsAfter lane lanes
after_first lane other [] below after = tt
after_first lane other (this ∷ lanes) below after =
    (total.trans lane other this below after.0, after_first lane other lanes below after.1)

not_after : (lane : Lane) (lanes : List Lane) → IsAfter lane lanes → has_lane lanes lane ≡ false
not_after lane [] after = refl
not_after lane (this ∷ lanes) after = (λ i. apart lane this after.0 i || not_after lane lanes after.1 i)

not_in : (lane other : Lane) (lanes : List Lane) → lane_cmp lane other ≡ Less → IsAfter other lanes
    → has_lane (other ∷ lanes) lane ≡ false
not_in lane other lanes below after =
    (λ i. apart lane other below i || not_after lane lanes (after_first lane other lanes below after) i)

-- the first of a list is in it
first_there : (lane : Lane) (lanes : List Lane) → has_lane (lane ∷ lanes) lane ≡ true
first_there lane lanes = ap (λ b. b || has_lane lanes lane) (same_itself lane)

abbrev pub HaveSame : List Lane → List Lane → Type 0
HaveSame lanes others = (lane : Lane) → has_lane lanes lane ≡ has_lane others lane

-- what is first here is not before what is first there
not_less : (a b : Lane) (others lanes : List Lane) → IsAfter b lanes → has_lane (a ∷ others) a ≡ has_lane (b ∷ lanes) a
    → lane_cmp a b ≡ Less → ⊥
not_less a b others lanes after same below =
    false≢true (sym (not_in a b lanes below after) ∙ sym same ∙ first_there a others)

rest_of : (same rest others : Bool) → (same ≡ true → rest ≡ false) → (same ≡ true → others ≡ false)
    → (same || rest) ≡ (same || others) → rest ≡ others
rest_of true rest others here there is = here refl ∙ sym (there refl)
rest_of false rest others here there is = is

-- where the first lanes are one, the rests have the same lanes
rests_same : (first : Lane) (lanes others : List Lane) → IsAfter first lanes → IsAfter first others
    → HaveSame (first ∷ lanes) (first ∷ others) → HaveSame lanes others
rests_same first lanes others after then same lane =
    rest_of (same_lane lane first) (has_lane lanes lane) (has_lane others lane)
    (λ is. ap (has_lane lanes) (same_lane-is lane first is) ∙ not_after first lanes after)
    (λ is. ap (has_lane others) (same_lane-is lane first is) ∙ not_after first others then)
    (same lane)

firsts_are : (a first : Lane) (lanes others : List Lane) → IsAfter a lanes → IsAfter first others
    → HaveSame (a ∷ lanes) (first ∷ others)
    → (HaveSame lanes others → lanes ≡ others) → a ≡ first → a ∷ lanes ≡ first ∷ others
firsts_are a first lanes others after then same rest is =
    let have = subst (λ l. HaveSame (l ∷ lanes) (first ∷ others)) is same in
    let before = subst (λ l. IsAfter l lanes) is after in
    λ i. is i ∷ rest (rests_same first lanes others before then have) i

by_order : (a b : Lane) (lanes others : List Lane) → IsAfter a lanes → IsAfter b others
    → HaveSame (a ∷ lanes) (b ∷ others)
    → (HaveSame lanes others → lanes ≡ others) → (o : Ordering) → lane_cmp a b ≡ o → a ∷ lanes ≡ b ∷ others
by_order a b lanes others after then same rest Less below = absurd (not_less a b lanes others then (same a) below)
by_order a b lanes others after then same rest Greater above =
    absurd (not_less b a others lanes after (sym (same b)) (flipped a b Greater above))
by_order a b lanes others after then same rest Equal equal =
    firsts_are a b lanes others after then same rest (equal_is a b equal)

pub one_list : (lanes others : List Lane) → IsStrictlySortedBy lane_cmp lanes → IsStrictlySortedBy lane_cmp others
    → HaveSame lanes others → lanes ≡ others
unfolding IsStrictlySortedBy
one_list [] [] ascend then same = refl
one_list [] (b ∷ others) ascend then same = absurd (false≢true (same b ∙ first_there b others))
one_list (a ∷ lanes) [] ascend then same = absurd (false≢true (sym (same a) ∙ first_there a lanes))
one_list (a ∷ lanes) (b ∷ others) ascend then same =
    by_order a b lanes others ascend.0 then.0 same (one_list lanes others ascend.1 then.1) (lane_cmp a b) refl

-- ---- putting lanes in order

which : (P : List Lane → Type 0) (o : Ordering) (before among after : List Lane) → (o ≡ Less → P before)
    → (o ≡ Equal → P among) → (o ≡ Greater → P after)
    → P (match_ordering o before among after)
which P Less before among after first second third = first refl
which P Equal before among after first second third = second refl
which P Greater before among after first second third = third refl

with_after : (bound lane : Lane) (lanes : List Lane) → lane_cmp bound lane ≡ Less → IsAfter bound lanes
    → IsAfter bound (with_lane lane lanes)
with_after bound lane [] below after = (below, tt)
with_after bound lane (other ∷ lanes) below after =
    which (IsAfter bound) (lane_cmp lane other) (lane ∷ other ∷ lanes) (other ∷ lanes) (other ∷ with_lane lane lanes)
    (λ _. (below, after)) (λ _. after) (λ _. (after.0, with_after bound lane lanes below after.1))

with_ascends : (lane : Lane) (lanes : List Lane) → IsStrictlySortedBy lane_cmp lanes
    → IsStrictlySortedBy lane_cmp (with_lane lane lanes)
unfolding IsStrictlySortedBy
with_ascends lane [] ascend = (tt, tt)
with_ascends lane (other ∷ lanes) ascend =
    which (IsStrictlySortedBy lane_cmp) (lane_cmp lane other) (lane ∷ other ∷ lanes) (other ∷ lanes)
    (other ∷ with_lane lane lanes)
    (λ below. ((below, after_first lane other lanes below ascend.0), ascend)) (λ _. ascend)
    (λ above. (
      with_after other lane lanes (flipped lane other Greater above) ascend.0,
      with_ascends lane lanes
          ascend.1,
    ))

pub order_ascends : (lanes : List Lane) → IsStrictlySortedBy lane_cmp (in_order lanes)
unfolding IsStrictlySortedBy
order_ascends [] = tt
order_ascends (lane ∷ lanes) = with_ascends lane (in_order lanes) (order_ascends lanes)

twice_is_once : (a b : Bool) → (a || b) ≡ (a || (a || b))
twice_is_once true b = refl
twice_is_once false b = refl

in_turn : (a b c : Bool) → (b || (a || c)) ≡ (a || (b || c))
in_turn true true c = refl
in_turn true false c = refl
in_turn false true c = refl
in_turn false false c = refl

with_has : (lane : Lane) (lanes : List Lane) (asked : Lane)
    → has_lane (with_lane lane lanes) asked ≡ has_lane (lane ∷ lanes) asked
with_has lane [] asked = refl
with_has lane (other ∷ lanes) asked =
    which (λ all. has_lane all asked ≡ has_lane (lane ∷ other ∷ lanes) asked) (lane_cmp lane other)
    (lane ∷ other ∷ lanes) (other ∷ lanes)
    (other ∷ with_lane lane lanes) (λ _. refl)
    (λ equal. twice_is_once (same_lane asked other) (has_lane lanes asked)
    ∙ ap (λ l. same_lane asked l || has_lane (other ∷ lanes) asked) (sym (equal_is lane other equal)))
    (λ _. ap (λ b. same_lane asked other || b) (with_has lane lanes asked)
    ∙ in_turn (same_lane asked lane) (same_lane asked other) (has_lane lanes asked))

pub order_has : (lanes : List Lane) (asked : Lane) → has_lane (in_order lanes) asked ≡ has_lane lanes asked
order_has [] asked = refl
order_has (lane ∷ lanes) asked =
    with_has lane (in_order lanes) asked ∙ ap (λ b. same_lane asked lane || b) (order_has lanes asked)

-- ---- places

found_where : (p : Lane → Bool) (this rest : Bool) (place : ℕ) (lanes : List Lane) → nat_lt place (length lanes) ≡ rest
    → nat_lt (cond (not this) (1 + place) 0) (suc (length lanes)) ≡ (this || rest)
found_where p true rest place lanes is = grind (arith, nat_tests)
found_where p false rest place lanes is = grind (arith, nat_tests, is)

some_where : {A : Type 0} (b : Bool) (x : A) → is_some (cond b (Some x) None) ≡ b
some_where true x = refl
some_where false x = refl

found : (p : Lane → Bool) (lanes : List Lane) → nat_lt (position_or_len p lanes) (length lanes) ≡ list_any p lanes
found p [] = refl
found p (lane ∷ lanes) = found_where p (p lane) (list_any p lanes) (position_or_len p lanes) lanes (found p lanes)

pub place_there : (lanes : List Lane) (lane : Lane) (place : Option ℕ) → place ≡ position (same_lane lane) lanes
    → is_some place ≡ has_lane lanes lane
place_there lanes lane place is =
    ap is_some is ∙ some_where (nat_lt (position_or_len (same_lane lane) lanes) (length lanes))
    (position_or_len (same_lane lane) lanes)
    ∙ found (same_lane lane) lanes

pub place_within : (lanes : List Lane) (lane : Lane) (place : Option ℕ) → place ≡ position (same_lane lane) lanes
    → IfSome place (λ i. i < length lanes)
place_within lanes lane None is = tt
place_within lanes lane (Some i) is = (position-Some (same_lane lane) lanes i lane (sym is)).0

pub place_at : (lanes : List Lane) (lane : Lane) (place : Option ℕ) → place ≡ position (same_lane lane) lanes
    → IfSome place (λ i. slice_get lanes i ≡ Some lane)
place_at lanes lane None is = tt
place_at lanes lane (Some i) is =
    let at = position-Some (same_lane lane) lanes i lane (sym is) in
    slice_get_read lanes (length lanes) i lane refl at.0 (same_lane-is lane (slice_index_or lanes i lane) at.1)
