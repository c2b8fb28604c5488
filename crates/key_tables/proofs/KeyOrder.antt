-- Keys in their order: the order of the type is the one of the rules, and keys are the same where neither comes before
-- the other.
use Rattle.std.proofs.Common.{◌≡◌, ◌&&◌, Bool, true, false, Equal, Option, Some, None, refl, sym, ap, ◌∙◌}
use Rattle.std.specs.Cmp.{IsTotalOrder, IsEquivalence}
use Rattle.std.specs.Ordering.{ordering_then, ordering_reverse, is_eq}
use Rattle.knx_base.specs.declared.address.IndAddr.{IndAddr}
use Rattle.key_tables.specs.declared.types.Channel.{Channel}
use Rattle.key_tables.specs.declared.types.Channel.TheVariants as channel
use Rattle.key_tables.specs.declared.types.RowKey.{RowKey}
use Rattle.key_tables.specs.declared.types.RowKey.TheVariants as under
use Rattle.key_tables.specs.contracts.types.RowKeyOrd.TheImpl.{cmp-value}
use Rattle.key_tables.specs.contracts.types.RowKeyOrd.TheImpl.Laws.{total-law}
use Rattle.key_tables.specs.Rows.{same_channel, same_sender}
use Rattle.key_tables.specs.Index.{same_key, channel_cmp, sender_cmp, key_cmp}
use Rattle.key_tables.proofs.LaneOrder.{numbers_equal, then_equal, is_itself}
use Rattle.key_tables.proofs.Unique.{both_true, same_is, sender_is}

then_cmp : (a b : Channel) (from other : Option IndAddr)
    → cmp-value.it (under.Role a from) (under.Role b other) ≡ ordering_then (channel_cmp a b) (sender_cmp from other)
then_cmp (channel.Group a) (channel.Group b) None None = refl
then_cmp (channel.Group a) (channel.Group b) None (Some t) = refl
then_cmp (channel.Group a) (channel.Group b) (Some s) None = refl
then_cmp (channel.Group a) (channel.Group b) (Some s) (Some t) = refl
then_cmp (channel.Group a) (channel.Tool b) from other = refl
then_cmp (channel.Tool a) (channel.Group b) from other = refl
then_cmp (channel.Tool a) (channel.Tool b) None None = refl
then_cmp (channel.Tool a) (channel.Tool b) None (Some t) = refl
then_cmp (channel.Tool a) (channel.Tool b) (Some s) None = refl
then_cmp (channel.Tool a) (channel.Tool b) (Some s) (Some t) = refl

-- the order of the type
pub cmp_is : (a b : RowKey) → cmp-value.it a b ≡ key_cmp a b
cmp_is (under.Key (channel.Group a)) (under.Key (channel.Group b)) = refl
cmp_is (under.Key (channel.Group a)) (under.Key (channel.Tool b)) = refl
cmp_is (under.Key (channel.Tool a)) (under.Key (channel.Group b)) = refl
cmp_is (under.Key (channel.Tool a)) (under.Key (channel.Tool b)) = refl
cmp_is (under.Key _) (under.Role _ _) = refl
cmp_is (under.Role _ _) (under.Key _) = refl
cmp_is (under.Role a from) (under.Role b other) = then_cmp a b from other

pub order_is : cmp-value.it ≡ key_cmp
order_is i a b = cmp_is a b i

pub total : IsTotalOrder key_cmp
total = record {
  antisymm = λ x y. sym (cmp_is x y) ∙ total-law.antisymm x y ∙ ap ordering_reverse (cmp_is y x);
  trans = λ x y z below then. sym (cmp_is x z) ∙ total-law.trans x y z (cmp_is x y ∙ below) (cmp_is y z ∙ then);
  congr = λ x y z equal. sym (cmp_is x z) ∙ total-law.congr x y z (cmp_is x y ∙ equal) ∙ cmp_is y z;
}

channels_equal : (a b : Channel) → is_eq (channel_cmp a b) ≡ same_channel a b
channels_equal (channel.Group a) (channel.Group b) = numbers_equal a.0 b.0
channels_equal (channel.Group _) (channel.Tool _) = refl
channels_equal (channel.Tool _) (channel.Group _) = refl
channels_equal (channel.Tool a) (channel.Tool b) = numbers_equal a.0 b.0

senders_equal : (a b : Option IndAddr) → is_eq (sender_cmp a b) ≡ same_sender a b
senders_equal None None = refl
senders_equal None (Some _) = refl
senders_equal (Some _) None = refl
senders_equal (Some a) (Some b) = numbers_equal a.0 b.0

-- keys are the same where neither comes before the other
pub same_is_equal : (a b : RowKey) → is_eq (key_cmp a b) ≡ same_key a b
same_is_equal (under.Key a) (under.Key b) = channels_equal a b
same_is_equal (under.Key _) (under.Role _ _) = refl
same_is_equal (under.Role _ _) (under.Key _) = refl
same_is_equal (under.Role a from) (under.Role b other) =
    then_equal (channel_cmp a b) (sender_cmp from other)
    ∙ (λ i. channels_equal a b i && senders_equal from other i)

pub same_key-is : (a b : RowKey) → same_key a b ≡ true → a ≡ b
same_key-is (under.Key a) (under.Key b) same = ap under.Key (same_is a b same)
same_key-is (under.Key _) (under.Role _ _) same = absurd cc
same_key-is (under.Role _ _) (under.Key _) same = absurd cc
same_key-is (under.Role a from) (under.Role b other) same =
    let both = both_true (same_channel a b) (same_sender from other) same in
    λ i. under.Role (same_is a b both.0 i) (sender_is from other both.1 i)

pub equal_is : (a b : RowKey) → key_cmp a b ≡ Equal → a ≡ b
equal_is a b equal = same_key-is a b (sym (same_is_equal a b) ∙ ap is_eq equal)

pub same_itself : (a : RowKey) → same_key a a ≡ true
same_itself a = sym (same_is_equal a a) ∙ ap is_eq (is_itself (key_cmp a a) (total.antisymm a a))

pub both_ways : (a b : Bool) → (a ≡ true → b ≡ true) → (b ≡ true → a ≡ true) → a ≡ b
both_ways true b here there = sym (here refl)
both_ways false true here there = there refl
both_ways false false here there = refl

turned : (a b : RowKey) → same_key a b ≡ true → same_key b a ≡ true
turned a b same = ap (λ k. same_key b k) (same_key-is a b same) ∙ same_itself b

pub same_turned : (a b : RowKey) → same_key a b ≡ same_key b a
same_turned a b = both_ways (same_key a b) (same_key b a) (turned a b) (turned b a)

pub equivalence : IsEquivalence same_key
equivalence = record {
  refl = same_itself;
  symm = same_turned;
  congr = λ a b c same. ap (λ k. same_key k c) (same_key-is a b same);
}
