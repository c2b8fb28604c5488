-- What stands still stands when a line is added.
use Rattle.std.proofs.Common.{◌≡◌, ℕ, ◌<◌, ◌≤◌, Bool, true, false, List, [], ◌∷◌, ◌++◌, length, Option, Some, None, cond, refl, sym, ap, subst, ◌∙◌, append_assoc, append-nil, arith}
use Rattle.std.specs.Prelude.{option_map, nat_lt, nat_le, ◌&&◌, ◌==◌, if◌then◌else◌}
use Rattle.std.specs.List.{list_any, filter_map}
use Rattle.std.proofs.lemmas.Bool.{leb-false, le-ltb, eqb-true}
use Rattle.std.proofs.lemmas.List.{length-append}
use Rattle.std.proofs.lemmas.List.Elements.{filter_map-append}
use Rattle.std.proofs.lemmas.List.Folds.{list_any-append}
use Rattle.std.specs.Option.{option_or}
use Rattle.knx_base.specs.declared.address.IndAddr.{IndAddr}
use Rattle.key_tables.specs.declared.types.Row.{Row}
use Rattle.key_tables.specs.First.{first_of}
use Rattle.key_tables.specs.Build.{build_fault, row_fault}
use Rattle.key_tables.specs.Lanes.{is_any}
use Rattle.group_objects.specs.declared.row.ObjectRow.{ObjectRow}
use Rattle.group_objects.specs.declared.objects.ObjectsFault.TheVariants as fault
use Rattle.group_objects.specs.Objects.{first_twice, is_of, objects_fault, most_rows}
use Rattle.script_text.specs.Said.{object_at, objects_at, is_same_object, twice_or_many}
use Rattle.script_text.specs.declared.fault.Refusal.TheVariants as refusal
use Rattle.script_text.specs.declared.said.ObjectLine.{ObjectLine}

-- ---- a row more

module _ (before rows : List ObjectRow) (row new : ObjectRow) where
  goes_on : (b : Bool)
      → (first_twice (before ++ row ∷ []) rows ≡ None → list_any (is_of new.group) ((before ++ row ∷ []) ++ rows)
      ≡ false
      → first_twice (before ++ row ∷ []) (rows ++ new ∷ []) ≡ None)
      → cond b (Some (length before)) (first_twice (before ++ row ∷ []) rows) ≡ None
      → list_any (is_of new.group) (before ++ row ∷ rows) ≡ false
      → cond b (Some (length before)) (first_twice (before ++ row ∷ []) (rows ++ new ∷ [])) ≡ None
  goes_on true later none apart = absurd cc
  goes_on false later none apart =
      later none (ap (list_any (is_of new.group)) (append_assoc before (row ∷ []) rows) ∙ apart)

still_apart : (before rows : List ObjectRow) (new : ObjectRow) → first_twice before rows ≡ None
    → list_any (is_of new.group) (before ++ rows) ≡ false → first_twice before (rows ++ new ∷ []) ≡ None
still_apart before [] new none apart =
    let here : list_any (is_of new.group) before ≡ false =
    ap (list_any (is_of new.group)) (sym (append-nil before)) ∙ apart in
    rw (here) refl
still_apart before (row ∷ rows) new none apart =
    goes_on before rows row new (list_any (is_of row.group) before) (still_apart (before ++ row ∷ []) rows new) none
    apart

none_twice : (b : Bool) (found : Option ℕ) → cond b (Some fault.TooMany) (option_map fault.Twice found) ≡ None
    → found ≡ None
none_twice true found none = absurd cc
none_twice false None none = refl
none_twice false (Some place) none = absurd cc

one_more : (rows : List ObjectRow) (new : ObjectRow) → objects_fault rows ≡ None
    → list_any (is_of new.group) rows ≡ false → nat_le most_rows (length rows) ≡ false
    → objects_fault (rows ++ new ∷ []) ≡ None
one_more rows new none apart few =
    let below = leb-false most_rows (length rows) few in
    let size = length-append rows (new ∷ []) in
    let fits : nat_lt most_rows (length (rows ++ new ∷ [])) ≡ false =
    le-ltb most_rows (length (rows ++ new ∷ [])) (omega (arith, below, size)) in
    rw (fits, still_apart [] rows new (none_twice (nat_lt most_rows (length rows)) (first_twice [] rows) none) apart)
    refl

-- ---- an object more

abbrev is_at : IndAddr → ObjectRow → ObjectLine → Bool
is_at node row line = line.node.0 == node.0 && line.row.group.0 == row.group.0

module _ (node : IndAddr) (row : ObjectRow) (line : ObjectLine) (lines : List ObjectLine) where
  here_too : (b : Bool) (found : Option ObjectRow) → line.node.0 == node.0 ≡ b
      → list_any (is_of row.group) (objects_at node lines) ≡ list_any (is_at node row) lines
      → list_any (is_of row.group) (objects_at node (line ∷ lines)) ≡ list_any (is_at node row) (line ∷ lines)
  here_too true found is rest = rw (is, rest) refl
  here_too false found is rest = rw (is, rest) refl

group_at : (node : IndAddr) (row : ObjectRow) (lines : List ObjectLine)
    → list_any (is_of row.group) (objects_at node lines) ≡ list_any (is_at node row) lines
group_at node row [] = refl
group_at node row (line ∷ lines) =
    here_too node row line lines (line.node.0 == node.0) None refl (group_at node row lines)

module _ (lines : List ObjectLine) (line : ObjectLine) (stand : (node : IndAddr)
    → objects_fault (objects_at node lines) ≡ None)
    (apart : list_any (is_same_object line) lines ≡ false) (few : nat_le most_rows (length (objects_at line.node lines))
    ≡ false) where
  own_stand : objects_fault (objects_at line.node lines ++ line.row ∷ []) ≡ None
  own_stand =
      one_more (objects_at line.node lines) line.row (stand line.node) (group_at line.node line.row lines ∙ apart) few

  stands_at : (node : IndAddr) (b : Bool) → line.node.0 == node.0 ≡ b
      → objects_fault (objects_at node lines ++ objects_at node (line ∷ [])) ≡ None
  stands_at node true is =
      let same : line.node.0 ≡ node.0 = eqb-true line.node.0 node.0 is in
      let own : objects_fault (objects_at node lines ++ line.row ∷ []) ≡ None =
      subst (λ n. objects_fault (objects_at (record { 0 = n }) lines ++ line.row ∷ []) ≡ None) same own_stand in
      rw (is) own
  stands_at node false is = let own = stand node in rw (is, append-nil (objects_at node lines)) own

pub objects_still_stand : (lines : List ObjectLine) (line : ObjectLine)
    → ((node : IndAddr) → objects_fault (objects_at node lines) ≡ None)
    → list_any (is_same_object line) lines ≡ false → nat_le most_rows (length (objects_at line.node lines)) ≡ false
    → (node : IndAddr) → objects_fault (objects_at node (lines ++ line ∷ [])) ≡ None
objects_still_stand lines line stand apart few node =
    ap objects_fault (filter_map-append (object_at node) lines (line ∷ []))
    ∙ stands_at lines line stand apart few node (line.node.0 == node.0) refl

-- ---- a row of a tables file more

module _ {A B : Type 0} (test : List A → A → Option B) where
  both : (first : Option B) (later now : Option B) → option_or first later ≡ None → (later ≡ None → now ≡ None)
      → option_or first now ≡ None
  both None later now none goes = goes none
  both (Some b) later now none goes = absurd cc

  none_more : (before xs : List A) (x : A) → first_of test before xs ≡ None → test (before ++ xs) x ≡ None
      → first_of test before (xs ++ x ∷ []) ≡ None
  none_more before [] x none new =
      let here : test before x ≡ None = ap (λ xs. test xs x) (sym (append-nil before)) ∙ new in rw (here) refl
  none_more before (y ∷ ys) x none new =
      both (test before y) (first_of test (before ++ y ∷ []) ys) (first_of test (before ++ y ∷ []) (ys ++ x ∷ [])) none
      (λ later. none_more (before ++ y ∷ []) ys x later (ap (λ xs. test xs x) (append_assoc before (y ∷ []) ys) ∙ new))

pub none_stand : build_fault [] ≡ None
unfolding build_fault
none_stand = refl

rows_stand : (rows : List Row) (row : Row) → build_fault rows ≡ None → row_fault rows row ≡ None
    → build_fault (rows ++ row ∷ []) ≡ None
unfolding build_fault
rows_stand rows row stand new = none_more row_fault [] rows row stand new

pub rows_still_stand : (rows now : List Row) (row : Row) → now ≡ rows ++ row ∷ [] → build_fault rows ≡ None
    → row_fault rows row ≡ None → build_fault now ≡ None
rows_still_stand rows now row is stand new = ap build_fault is ∙ rows_stand rows row stand new

pub rows_still_named : (rows now : List Row) (row : Row) → now ≡ rows ++ row ∷ [] → list_any is_any rows ≡ false
    → is_any row ≡ false → list_any is_any now ≡ false
rows_still_named rows now row is named new =
    let both : list_any is_any (rows ++ row ∷ []) ≡ false =
    list_any-append is_any rows (row ∷ []) ∙ rw (named, new) refl in
    ap (list_any is_any) is ∙ both
