-- Nothing of what is made is refused, so that only memory can be wanting.
use Rattle.std.proofs.Common.{◌≡◌, ℕ, zero, suc, ◌+◌, ◌*◌, ◌<◌, ◌≤◌, false, true, Bool, List, [], ◌∷◌, ◌++◌, length, take, Option, Some, None, Ok, Err, refl, sym, ap, subst, ◌∙◌, arith, append_assoc, append-nil, slice_index_or}
use Rattle.std.specs.Prelude.{Result, if◌then◌else◌, nat_le}
use Rattle.std.specs.List.{list_any}
use Rattle.std.proofs.lemmas.Bool.{lt-leb}
use Rattle.std.specs.Option.{option_or, option_map}
use Rattle.key_tables.specs.declared.types.Row.{Row}
use Rattle.key_tables.specs.Build.{row_fault, first_fault}
use Rattle.key_tables.specs.Lanes.{lanes_of}
use Rattle.group_objects.specs.Objects.{most_rows}
use Rattle.knx_base.specs.declared.cause.Cause.TheVariants as cause
use Rattle.script_text.specs.Made.{made_rows}
use Rattle.script_text.specs.Script.{ScriptState, most_events, most_nodes}
use Rattle.script_text.specs.Said.{Before, IsRefusal, crowded, is_again, is_same_object, is_start, objects_at, refusal_of_row, standing, twice_or_many}
use Rattle.script_text.specs.Lists.{added, first_object, installed, lists, made_line, nothing_said, second_object, AreInstalled, HasNode, HasRows, IsDrawn, IsWithEvents, NodeStands}
use Rattle.script_text.specs.Text.{IsTextFault, ended, script_in, unless_crowded}
use Rattle.script_text.specs.declared.event.Event.{Event}
use Rattle.script_text.specs.declared.fault.Refusal.{Refusal}
use Rattle.script_text.specs.declared.fault.Refusal.TheVariants as refusal
use Rattle.script_text.specs.declared.fault.ScriptFault.{ScriptFault}
use Rattle.script_text.specs.declared.fault.ScriptFault.TheVariants as fault
use Rattle.script_text.specs.declared.said.NodeLine.{NodeLine}
use Rattle.script_text.specs.declared.said.ObjectLine.{ObjectLine}
use Rattle.script_text.specs.declared.said.Said.TheVariants as said

pub only_memory : (why : Refusal) (found : Option Refusal) → IsRefusal why found → found ≡ None
    → why ≡ refusal.NoMemory
only_memory (refusal.Cause cause) found is none = absurd cc
only_memory refusal.Order found is none = absurd cc
only_memory refusal.Twice found is none = absurd cc
only_memory refusal.TooMany found is none = absurd cc
only_memory (refusal.Lanes line) found is none = absurd cc
only_memory refusal.NoMemory found is none = refl

-- ---- rows

neither : {A : Type 0} (a b : Option A) → option_or a b ≡ None → (a ≡ None) × (b ≡ None)
neither None b none = (refl, none)
neither (Some x) b none = absurd cc

-- Where a whole list may stand each of its rows may stand after those before it.
row_stands : (before rows : List Row) (index : ℕ) (d : Row) → first_fault before rows ≡ None → index < length rows
    → row_fault (before ++ take index rows) (slice_index_or rows index d) ≡ None
row_stands before [] index d stand within = absurd (omega (arith, within))
row_stands before (row ∷ rows) zero d stand within =
    subst (λ earlier. row_fault earlier row ≡ None) (sym (append-nil before))
    (neither (row_fault before row) (first_fault (before ++ row ∷ []) rows) stand).0
row_stands before (row ∷ rows) (suc index) d stand within =
    subst (λ earlier. row_fault earlier (slice_index_or rows index d) ≡ None)
    (append_assoc before (row ∷ []) (take index rows))
    (row_stands (before ++ row ∷ []) rows index d
    (neither (row_fault before row) (first_fault (before ++ row ∷ []) rows) stand).1
    (omega (arith, within)))

pub row_refused : (old now : Before) (rows : List Row) (index : ℕ) (d : Row) (why : Refusal)
    → first_fault old.rows rows ≡ None → index < length rows → HasRows old (take index rows) now
    → IsRefusal why (standing now (said.Row (slice_index_or rows index d))) → why ≡ refusal.NoMemory
row_refused old now rows index d why stand within has is =
    only_memory why (standing now (said.Row (slice_index_or rows index d))) is
    (ap (λ (b : Before). standing b (said.Row (slice_index_or rows index d))) has
    ∙ ap (option_map refusal_of_row) (row_stands old.rows rows index d stand within))

all_stand : first_fault [] made_rows ≡ None
unfolding row_fault
all_stand = refl

pub rows_stand : (first b : Before) (rows : List Row) → first ≡ nothing_said → b ≡ added first said.Head
    → rows ≡ made_rows → first_fault b.rows rows ≡ None
rows_stand first b rows none head made =
    ap (λ (b : Before). first_fault b.rows rows) (head ∙ ap (λ b. added b said.Head) none)
    ∙ ap (first_fault []) made ∙ all_stand

-- ---- nodes

abbrev by_nodes : NodeLine → List NodeLine → Option Refusal
by_nodes line nodes = twice_or_many (list_any (is_again line) nodes) (nat_le most_nodes (length nodes))

abbrev by_objects : ObjectLine → List ObjectLine → Option Refusal
by_objects object objects =
    twice_or_many (list_any (is_same_object object) objects)
    (nat_le most_rows (length (objects_at object.node objects)))

stands_at : (node : ℕ) (b : Before) → AreInstalled node b
    → by_nodes (made_line node) (take node installed.nodes) ≡ None
    → by_objects (first_object node) (take (2 * node) installed.objects) ≡ None
    → by_objects (second_object node) (take (2 * node) installed.objects ++ first_object node ∷ []) ≡ None
    → NodeStands b node
stands_at node b are line first second = record {
  line = ap (by_nodes (made_line node)) are.nodes_are ∙ line;
  first = ap (by_objects (first_object node)) are.objects_are ∙ first;
  second = ap (λ objects. by_objects (second_object node) (objects ++ first_object node ∷ [])) are.objects_are
      ∙ second;
}

pub node_stands : (b : Before) (node : ℕ) → AreInstalled node b → node < 4 → NodeStands b node
node_stands b zero are below = stands_at 0 b are refl refl refl
node_stands b (suc zero) are below = stands_at 1 b are refl refl refl
node_stands b (suc (suc zero)) are below = stands_at 2 b are refl refl refl
node_stands b (suc (suc (suc zero))) are below = stands_at 3 b are refl refl refl
node_stands b (suc (suc (suc (suc node)))) are below = absurd (omega (arith, below))

module _ (b : Before) (node : ℕ) (line : NodeLine) (are : AreInstalled node b) (below : node < 4)
    (made : line ≡ made_line node) where
  pub line_stands : standing b (said.Node line) ≡ None
  line_stands = ap (λ line. standing b (said.Node line)) made ∙ (node_stands b node are below).line

  module _ (now : Before) (first : ObjectLine) (is_first : first ≡ first_object node)
      (added_line : now ≡ added b (said.Node line)) where
    now_is : now ≡ added b (said.Node (made_line node))
    now_is = added_line ∙ ap (λ line. added b (said.Node line)) made

    pub first_stands : standing now (said.Object first) ≡ None
    first_stands =
        ap (λ b. standing b (said.Object first)) now_is
        ∙ ap (λ object. standing (added b (said.Node (made_line node))) (said.Object object)) is_first
        ∙ (node_stands b node are below).first

    module _ (later : Before) (second : ObjectLine) (is_second : second ≡ second_object node)
        (added_first : later ≡ added now (said.Object first)) where
      later_is : later ≡ added (added b (said.Node (made_line node))) (said.Object (first_object node))
      later_is =
          added_first ∙ ap (λ b. added b (said.Object first)) now_is
          ∙ ap (λ object. added (added b (said.Node (made_line node))) (said.Object object)) is_first

      pub second_stands : standing later (said.Object second) ≡ None
      second_stands =
          ap (λ b. standing b (said.Object second)) later_is
          ∙ ap (λ object. standing (added (added b (said.Node (made_line node))) (said.Object (first_object node)))
          (said.Object object)) is_second
          ∙ (node_stands b node are below).second

      pub has_node : (new : Before) → new ≡ added later (said.Object second) → HasNode b node new
      has_node new added_second =
          added_second ∙ ap (λ b. added b (said.Object second)) later_is
          ∙ ap (λ object. added (added (added b (said.Node (made_line node))) (said.Object (first_object node)))
          (said.Object object)) is_second

installed_at : (node : ℕ) (old new : Before) → AreInstalled node old → HasNode old node new
    → take node installed.nodes ++ made_line node ∷ [] ≡ take (node + 1) installed.nodes
    → (take (2 * node) installed.objects ++ first_object node ∷ []) ++ second_object node ∷ []
    ≡ take (2 * (node + 1)) installed.objects
    → AreInstalled (node + 1) new
installed_at node old new are has nodes objects = record {
  nodes_are = ap (λ (b : Before). b.nodes) has ∙ ap (λ nodes. nodes ++ made_line node ∷ []) are.nodes_are ∙ nodes;
  objects_are = ap (λ (b : Before). b.objects) has
      ∙ ap (λ objects. (objects ++ first_object node ∷ []) ++ second_object node ∷ []) are.objects_are ∙ objects;
}

pub one_more_installed : (old new : Before) (node : ℕ) → AreInstalled node old → node < 4 → HasNode old node new
    → AreInstalled (node + 1) new
one_more_installed old new zero are below has = installed_at 0 old new are has refl refl
one_more_installed old new (suc zero) are below has = installed_at 1 old new are has refl refl
one_more_installed old new (suc (suc zero)) are below has = installed_at 2 old new are has refl refl
one_more_installed old new (suc (suc (suc zero))) are below has = installed_at 3 old new are has refl refl
one_more_installed old new (suc (suc (suc (suc node)))) are below has = absurd (omega (arith, below))

-- ---- events

few : (past : List Event) (index count : ℕ) → length past ≡ index → index < count → count ≤ most_events
    → nat_le most_events (length past) ≡ false
few past index count many below most = lt-leb most_events (length past) (omega (arith, many, below, most))

pub event_refused : (old now : Before) (number count index state sends : ℕ) (event : Event) (why : Refusal)
    → old.events ≡ [] → count ≤ most_events → index < count → IsDrawn old now number count index state sends
    → IsRefusal why (standing now (said.Event event)) → why ≡ refusal.NoMemory
event_refused old now number count index state sends event why none most below drawn is =
    only_memory why (standing now (said.Event event)) is
    (ap (λ events. twice_or_many false (nat_le most_events (length events)))
    (drawn.with_past.events_are ∙ ap (λ events. events ++ drawn.past) none)
    ∙ ap (twice_or_many false) (few drawn.past index count drawn.many below most))

-- ---- the script

none_crowded : crowded installed ≡ None
unfolding lanes_of
none_crowded = refl

ends : (b : Before) → is_start b.stage ≡ false → crowded b ≡ None → ended b ≡ Ok (script_in b)
ends b begun none =
    ap (λ start. if start then Err (fault.Line 1 cause.Words) else unless_crowded (crowded b) (script_in b)) begun
    ∙ ap (λ node. unless_crowded node (script_in b)) none

told_memory : (why : ScriptFault) (script : ScriptState) → IsTextFault why (Ok script) → why ≡ fault.NoMemory
told_memory (fault.Line number cause) script is = absurd cc
told_memory (fault.Order number) script is = absurd cc
told_memory (fault.Twice number) script is = absurd cc
told_memory (fault.TooMany number) script is = absurd cc
told_memory fault.NoMemory script is = refl

pub script_refused : (b : Before) (events : List Event) (why : ScriptFault) → IsWithEvents installed events b
    → IsTextFault why (ended b) → why ≡ fault.NoMemory
script_refused b events why with is =
    let none : crowded b ≡ None =
    ap (λ rows. crowded (lists b.stage rows b.nodes b.objects b.marks b.events)) with.rows_are
    ∙ ap (λ nodes. crowded (lists b.stage installed.rows nodes b.objects b.marks b.events)) with.nodes_are
    ∙ ap (λ objects. crowded (lists b.stage installed.rows installed.nodes objects b.marks b.events)) with.objects_are
    ∙ none_crowded in
    told_memory why (script_in b) (subst (IsTextFault why) (ends b (with.begun refl) none) is)
