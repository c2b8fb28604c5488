-- A set of keys holds what was put into it, and a list of rows with one row more has one key more.
use Rattle.std.proofs.Common.{◌≡◌, ℕ, ◌<◌, ◌+◌, ◌*◌, arith, ◌&&◌, ◌||◌, length, take, slice_index_or, Bool, true, false, cond, not, Option, Some, None, List, [], ◌∷◌, ◌++◌, refl, sym, ap, subst, ◌∙◌, BTreeSet}
use Rattle.std.specs.Prelude.{◌==◌}
use Rattle.std.specs.Ordering.{is_eq, nat_cmp}
use Rattle.std.specs.List.{list_any}
use Rattle.std.specs.BTreeSet.{contains}
use Rattle.std.specs.BTreeMap.{is_at}
use Rattle.std.proofs.lemmas.Bool.Decides.{nat_tests}
use Rattle.std.proofs.lemmas.List.{take_more}
use Rattle.std.proofs.lemmas.List.Folds.{list_any-append}
use Rattle.knx_base.specs.declared.address.IndAddr.{IndAddr}
use Rattle.key_tables.specs.declared.key_set.Mark.{Mark}
use Rattle.key_tables.specs.declared.types.Channel.{Channel}
use Rattle.key_tables.specs.declared.types.Channel.TheVariants as channel
use Rattle.key_tables.specs.declared.types.Row.{Row}
use Rattle.key_tables.specs.declared.types.Row.TheVariants as row
use Rattle.key_tables.specs.declared.types.RowKey.{RowKey}
use Rattle.key_tables.specs.declared.types.RowKey.TheVariants as under
use Rattle.key_tables.specs.declared.faults.BuildFault.TheVariants.{Twice, TooMany}
use Rattle.key_tables.specs.contracts.key_set.MarkOrd.TheImpl.{cmp-value}
use Rattle.key_tables.specs.Build.{displaces, is_full, is_kept, is_repeated, row_fault}
use Rattle.key_tables.specs.Index.{same_key, row_key_of, subject_of}
use Rattle.key_tables.specs.Rows.{same_channel, same_sender}
use Rattle.key_tables.specs.Seen.{channel_number, sender_number, mark_of, same_mark, holds, Gains, Loses, HasThose, is_left}
use Rattle.key_tables.proofs.KeyOrder.{both_ways, same_turned}
use Rattle.key_tables.proofs.LaneOrder.{numbers_equal, then_equal}
use Rattle.key_tables.proofs.Indexing.{repeats_is}

-- ---- two numbers for a key

moved : (a b k : ℕ) → (a + k == b + k) ≡ (a == b)
moved a b k = both_ways (a + k == b + k) (a == b) (λ is. grind (arith, nat_tests, is)) (λ is. grind (arith, nat_tests, is))

scaled : (a b : ℕ) → (a * 4 == b * 4) ≡ (a == b)
scaled a b = both_ways (a * 4 == b * 4) (a == b) (λ is. grind (arith, nat_tests, is)) (λ is. grind (arith, nat_tests, is))

channels_same : (a b : Channel) → (channel_number a == channel_number b) ≡ same_channel a b
channels_same (channel.Group a) (channel.Group b) = scaled a.0 b.0
channels_same (channel.Group a) (channel.Tool b) = grind (arith, nat_tests)
channels_same (channel.Tool a) (channel.Group b) = grind (arith, nat_tests)
channels_same (channel.Tool a) (channel.Tool b) = moved (a.0 * 4) (b.0 * 4) 1 ∙ scaled a.0 b.0

key_before : (a b : Channel) → (channel_number a == channel_number b + 2) ≡ false
key_before (channel.Group a) (channel.Group b) = grind (arith, nat_tests)
key_before (channel.Group a) (channel.Tool b) = grind (arith, nat_tests)
key_before (channel.Tool a) (channel.Group b) = grind (arith, nat_tests)
key_before (channel.Tool a) (channel.Tool b) = grind (arith, nat_tests)

role_before : (a b : Channel) → (channel_number a + 2 == channel_number b) ≡ false
role_before (channel.Group a) (channel.Group b) = grind (arith, nat_tests)
role_before (channel.Group a) (channel.Tool b) = grind (arith, nat_tests)
role_before (channel.Tool a) (channel.Group b) = grind (arith, nat_tests)
role_before (channel.Tool a) (channel.Tool b) = grind (arith, nat_tests)

senders_same : (a b : Option IndAddr) → (sender_number a == sender_number b) ≡ same_sender a b
senders_same None None = refl
senders_same None (Some b) = grind (arith, nat_tests)
senders_same (Some a) None = grind (arith, nat_tests)
senders_same (Some a) (Some b) = moved a.0 b.0 1

only_first : (a : Bool) → (a && true) ≡ a
only_first true = refl
only_first false = refl

-- two keys have the same numbers just where they are the same
marks_same : (a b : RowKey) → same_mark (mark_of a) (mark_of b) ≡ same_key a b
marks_same (under.Key a) (under.Key b) = only_first (channel_number a == channel_number b) ∙ channels_same a b
marks_same (under.Key a) (under.Role b other) = λ i. key_before a b i && (0 == sender_number other)
marks_same (under.Role a from) (under.Key b) = λ i. role_before a b i && (sender_number from == 0)
marks_same (under.Role a from) (under.Role b other) = λ i.
    (moved (channel_number a) (channel_number b) 2 ∙ channels_same a b) i && senders_same from other i

found : (a b : Mark) → is_eq (cmp-value.it a b) ≡ same_mark a b
found a b =
    then_equal (nat_cmp a.channel b.channel) (nat_cmp a.sender b.sender)
    ∙ (λ i. numbers_equal a.channel b.channel i && numbers_equal a.sender b.sender i)

at_is : (key other : RowKey) (mark : Mark) → mark ≡ mark_of key
    → is_at (cmp-value.it mark) (mark_of other) ≡ same_key other key
at_is key other mark is =
    (λ i. is_at (cmp-value.it (is i)) (mark_of other))
    ∙ found (mark_of key) (mark_of other) ∙ marks_same key other ∙ same_turned key other

-- ---- the set

holds_is : (set : BTreeSet Mark) (key : RowKey) → contains cmp-value.it set (mark_of key) ≡ holds set.keys key
holds_is set key i = list_any (λ other. found (mark_of key) other i) set.keys

either : (a b : Bool) → cond a true b ≡ (a || b)
either true b = refl
either false b = refl

pub one_more : (key : RowKey) (mark : Mark) (before now : BTreeSet Mark) → mark ≡ mark_of key
    → ((other : Mark) → contains cmp-value.it now other
    ≡ cond (is_at (cmp-value.it mark) other) true (contains cmp-value.it before other))
    → Gains key before.keys now.keys
one_more key mark before now is updates other =
    sym (holds_is now other) ∙ updates (mark_of other)
    ∙ (λ i. cond (at_is key other mark is i) true (holds_is before other i))
    ∙ either (same_key other key) (holds before.keys other)

neither : (a b : Bool) → cond a false b ≡ (not a && b)
neither true b = refl
neither false b = refl

pub one_less : (key : RowKey) (mark : Mark) (before now : BTreeSet Mark) → mark ≡ mark_of key
    → ((other : Mark) → contains cmp-value.it now other
    ≡ cond (is_at (cmp-value.it mark) other) false (contains cmp-value.it before other))
    → Loses key before.keys now.keys
one_less key mark before now is updates other =
    sym (holds_is now other) ∙ updates (mark_of other)
    ∙ (λ i. cond (at_is key other mark is i) false (holds_is before other i))
    ∙ neither (same_key other key) (holds before.keys other)

-- ---- beside a list of rows

-- a row repeats one before it where the set holds what it is found by
pub held_is : (rows : List Row) (seen : List Mark) (this : Row) → HasThose row_key_of rows seen
    → holds seen (row_key_of this) ≡ is_repeated rows this
held_is rows seen this those =
    those (row_key_of this) ∙ sym (λ i. list_any (λ other. repeats_is this other i) rows)

-- a row whose key is new may stand where there is room
pub may_stand : (rows : List Row) (seen : List Mark) (this : Row) → HasThose row_key_of rows seen
    → holds seen (row_key_of this) ≡ false → is_full rows this ≡ false
    → row_fault rows this ≡ None
unfolding row_fault
may_stand rows seen this those absent room i =
    cond ((sym (held_is rows seen this those) ∙ absent) i) (Some (Twice (length rows)))
    (cond (room i) (Some (TooMany (length rows))) None)

one_last : (a b : Bool) → (a || b) ≡ (b || (a || false))
one_last true true = refl
one_last true false = refl
one_last false true = refl
one_last false false = refl

pub more_held : (key_of : Row → RowKey) (rows now : List Row) (row : Row) (before new : List Mark)
    → now ≡ rows ++ row ∷ [] → HasThose key_of rows before → Gains (key_of row) before new → HasThose key_of now new
more_held key_of rows now row before new are held gains key =
    gains key
    ∙ ap (λ b. same_key key (key_of row) || b) (held key)
    ∙ one_last (same_key key (key_of row)) (list_any (λ r. same_key key (key_of r)) rows)
    ∙ sym (list_any-append (λ r. same_key key (key_of r)) rows (row ∷ []))
    ∙ ap (list_any (λ r. same_key key (key_of r))) (sym are)

pub next_held : (key_of : Row → RowKey) (rows : List Row) (i : ℕ) (d : Row) (key : RowKey) (before new : List Mark)
    → i < length rows → key ≡ key_of (slice_index_or rows i d)
    → HasThose key_of (take i rows) before → Gains key before new
    → HasThose key_of (take (i + 1) rows) new
next_held key_of rows i d key before new within is held gains =
    more_held key_of (take i rows) (take (i + 1) rows) (slice_index_or rows i d) before new
    (take_more rows i d within) held (subst (λ k. Gains k before new) is gains)

displaces_is : (this over : Row) → displaces this over ≡ same_key (subject_of this) (subject_of over)
displaces_is (row.Group _ _ _) (row.Group _ _ _) = refl
displaces_is (row.Group _ _ _) (row.Tool _ _) = refl
displaces_is (row.Group _ _ _) (row.Role _ _ _) = refl
displaces_is (row.Tool _ _) (row.Group _ _ _) = refl
displaces_is (row.Tool _ _) (row.Tool _ _) = refl
displaces_is (row.Tool _ _) (row.Role _ _ _) = refl
displaces_is (row.Role _ _ _) (row.Group _ _ _) = refl
displaces_is (row.Role _ _ _) (row.Tool _ _) = refl
displaces_is (row.Role a _ _) (row.Role b _ _) = sym (only_first (same_channel a b))

-- what a list of rows does not displace is what says nothing of what they do
pub left_is : (over : List Row) (said : List Mark) → HasThose subject_of over said → is_left said ≡ is_kept over
left_is over said those i row =
    not ((those (subject_of row) ∙ sym (λ j. list_any (λ other. displaces_is row other j) over)) i)
