-- What was said keeps the rules of a script, where no node has too many lanes.
use Rattle.std.proofs.Common.{◌≡◌, ℕ, ◌<◌, ◌≤◌, ◌^◌, Bool, true, false, List, [], ◌∷◌, length, map, find, Option, Some, None, slice_index_or, cond, refl, sym, ap, subst, ◌∙◌, arith}
use Rattle.std.specs.Prelude.{◌==◌, ◌||◌, nat_lt, IfSome}
use Rattle.std.specs.List.{filter_map, All, AllPairs}
use Rattle.std.proofs.lemmas.Bool.{ltb-false, eq-eqb, true≢false}
use Rattle.std.proofs.lemmas.List.{length-map, get_or-map}
use Rattle.std.proofs.lemmas.List.Elements.{All-nil, All-cons, All-head, All-tail, All-map}
use Rattle.knx_base.specs.declared.address.IndAddr.{IndAddr}
use Rattle.key_tables.specs.declared.types.Lane.{Lane}
use Rattle.group_objects.specs.declared.row.ObjectRow.{ObjectRow}
use Rattle.script_text.specs.Parts.{same_name}
use Rattle.script_text.specs.Script.{IsEvent, IsNode, IsScript, AreTwoNodes, most_lanes}
use Rattle.script_text.specs.Said.{Before, object_at, objects_at, lanes_at, is_crowded, is_again, crowded}
use Rattle.script_text.specs.Lists.{IsNodeLine, Stand}
use Rattle.script_text.specs.Text.{mark_in, number_of_mark, is_mark_of, node_row}
use Rattle.script_text.specs.declared.node_row.NodeRow.{NodeRow}
use Rattle.script_text.specs.declared.said.NodeLine.{NodeLine}
use Rattle.script_text.specs.declared.said.ObjectLine.{ObjectLine}
use Rattle.script_text.specs.declared.said.MarkLine.{MarkLine}

-- ---- searches

module _ {A : Type 0} (p : A → Bool) (x : A) (xs : List A) where
  not_here : (b : Bool) → p x ≡ b → (find p xs ≡ None → All (λ y. p y ≡ false) xs)
      → cond b (Some x) (find p xs) ≡ None → All (λ y. p y ≡ false) (x ∷ xs)
  not_here true is later none = absurd cc
  not_here false is later none = All-cons (λ y. p y ≡ false) x xs is (later none)

none_found : {A : Type 0} (p : A → Bool) (xs : List A) → find p xs ≡ None → All (λ y. p y ≡ false) xs
none_found p [] none = All-nil (λ y. p y ≡ false)
none_found p (x ∷ xs) none = not_here p x xs (p x) refl (none_found p xs) none

module _ {A : Type 0} (P : A → Type 0) (p : A → Bool) (x : A) (xs : List A) where
  found_here : (b : Bool) → P x → IfSome (find p xs) P → IfSome (cond b (Some x) (find p xs)) P
  found_here true here later = here
  found_here false here later = later

all_found : {A : Type 0} (P : A → Type 0) (p : A → Bool) (xs : List A) → All P xs → IfSome (find p xs) P
all_found P p [] all = tt
all_found P p (x ∷ xs) all = found_here P p x xs (p x) (All-head P x xs all) (all_found P p xs (All-tail P x xs all))

-- ---- a node's objects and marks

abbrev HasGroup : ObjectRow → Type 0
HasGroup object = 0 < object.group.0

module _ (node : IndAddr) (line : ObjectLine) (lines : List ObjectLine) where
  own_group : (b : Bool) → line.node.0 == node.0 ≡ b → HasGroup line.row → All HasGroup (objects_at node lines)
      → All HasGroup (objects_at node (line ∷ lines))
  own_group true is here later =
      let all = All-cons HasGroup line.row (objects_at node lines) here later in rw (is) all
  own_group false is here later = rw (is) later

groups_at : (node : IndAddr) (lines : List ObjectLine) → All (λ line. HasGroup line.row) lines
    → All HasGroup (objects_at node lines)
groups_at node [] all = All-nil HasGroup
groups_at node (line ∷ lines) all =
    own_group node line lines (line.node.0 == node.0) refl (All-head (λ line. HasGroup line.row) line lines all)
    (groups_at node lines (All-tail (λ line. HasGroup line.row) line lines all))

abbrev Fits : ℕ → Type 0
Fits number = number < 2 ^ 48

number_fits : (found : Option MarkLine) → IfSome found (λ mark. Fits mark.number) → Fits (number_of_mark found)
number_fits None fits = omega arith
number_fits (Some mark) fits = fits

marks_fit : (marks : List MarkLine) (node : IndAddr) (lanes : List Lane) → All (λ mark. Fits mark.number) marks
    → All Fits (map (mark_in marks node) lanes)
marks_fit marks node lanes all =
    All-map Fits (mark_in marks node) lanes
    (λ k d within. number_fits (find (is_mark_of node _) marks)
    (all_found (λ mark. Fits mark.number) (is_mark_of node _) marks all))

-- ---- the nodes

module _ (before : Before) (stand : Stand before) (few : crowded before ≡ None) where
  is_node : (node : NodeLine) → IsNodeLine node → is_crowded before node ≡ false
      → IsNode before.rows (node_row before node)
  is_node node is short = record {
    name = is.name;
    address = is.address;
    address_fits = is.address_fits;
    next_some = is.next_some;
    next_fits = is.next_fits;
    groups = groups_at node.address before.objects stand.groups;
    objects = stand.objects_stand node.address;
    lanes = ltb-false most_lanes (length (lanes_at before node)) short;
    marks = length-map (lanes_at before node) (mark_in before.marks node.address);
    marks_fit = marks_fit before.marks node.address (lanes_at before node) stand.marks_fit;
  }

  all_nodes : All (IsNode before.rows) (map (node_row before) before.nodes)
  all_nodes = All-map (IsNode before.rows) (node_row before) before.nodes
      (λ k d within. is_node _ (stand.nodes_are k d within) (none_found (is_crowded before) before.nodes few k d
      within))

-- ---- no two of one name or one address

same_self : (name : List ℕ) → same_name name name ≡ true
same_self [] = refl
same_self (octet ∷ name) = rw (eq-eqb octet octet refl, same_self name) refl

neither : (a b : Bool) → a || b ≡ false → (a ≡ false) × (b ≡ false)
neither true b none = absurd cc
neither false b none = (refl, none)

other_name : (name other : List ℕ) → same_name other name ≡ false → name ≡ other → ⊥
other_name name other apart same = true≢false (sym (same_self other) ∙ ap (same_name other) (sym same) ∙ apart)

other_number : (n m : ℕ) → m == n ≡ false → n ≡ m → ⊥
other_number n m apart same = true≢false (sym (eq-eqb m n (sym same)) ∙ apart)

are_two : (before : Before) (node other : NodeLine) → is_again other node ≡ false
    → AreTwoNodes (node_row before node) (node_row before other)
are_two before node other apart =
    let parts = neither (same_name other.name node.name) (other.address.0 == node.address.0) apart in
    record {
      names = other_name node.name other.name parts.0;
      addresses = other_number node.address.0 other.address.0 parts.1;
    }

two_nodes : (before : Before) (nodes : List NodeLine) → AllPairs (λ node later. is_again later node ≡ false) nodes
    → AllPairs AreTwoNodes (map (node_row before) nodes)
two_nodes before [] apart i j d below within = absurd (omega (arith, within))
two_nodes before (node ∷ nodes) apart i j d below within =
    let all = node ∷ nodes in
    let inside : j < length all = omega (arith, within, length-map all (node_row before)) in
    let first = get_or-map (node_row before) all i node d (omega (arith, below, inside)) in
    let second = get_or-map (node_row before) all j node d inside in
    subst (λ row. AreTwoNodes row (slice_index_or (map (node_row before) all) j d)) (sym first)
    (subst (λ row. AreTwoNodes (node_row before (slice_index_or all i node)) row) (sym second)
    (are_two before (slice_index_or all i node) (slice_index_or all j node) (apart i j node below inside)))

pub is_script : (before : Before) → Stand before → crowded before ≡ None
    → IsScript before.rows (map (node_row before) before.nodes) before.events
is_script before stand few = record {
  named = stand.named;
  stand = stand.stand;
  nodes_stand = all_nodes before stand few;
  nodes_once = two_nodes before before.nodes stand.nodes_once;
  nodes_few = subst (λ n. n ≤ 32) (sym (length-map before.nodes (node_row before))) stand.nodes_few;
  events_stand =
      subst (λ n. All (IsEvent n) before.events) (sym (length-map before.nodes (node_row before))) stand.events_stand;
  events_few = stand.events_few;
}

-- the same of the nodes that are built
pub whole : (inside before : Before) (rows : List NodeRow) → inside ≡ before → Stand inside → crowded before ≡ None
    → rows ≡ map (node_row before) before.nodes → IsScript inside.rows rows inside.events
whole inside before rows view stand few built =
    let short : crowded inside ≡ None = subst (λ (b : Before). crowded b ≡ None) (sym view) few in
    let nodes : rows ≡ map (node_row inside) inside.nodes =
    subst (λ (b : Before). rows ≡ map (node_row b) b.nodes) (sym view) built in
    subst (λ rows. IsScript inside.rows rows inside.events) (sym nodes) (is_script inside stand short)
