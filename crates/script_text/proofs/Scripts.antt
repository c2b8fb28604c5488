-- Reading line after line: what is left of the text.
use Rattle.std.proofs.Common.{◌≡◌, ℕ, ◌+◌, List, [], ◌∷◌, ◌++◌, Option, Some, None, Ok, Err, refl, sym, ap, subst, ◌∙◌, append-nil}
use Rattle.std.specs.Prelude.{Result}
use Rattle.std.specs.Option.{option_to_list}
use Rattle.std.specs.List.{filter_map}
use Rattle.std.specs.Str.Lines.{lines}
use Rattle.std.proofs.lemmas.List.Elements.{filter_map-append}
use Rattle.text_lines.specs.Lines.{LinesState}
use Rattle.key_tables.specs.declared.types.Lane.{Lane}
use Rattle.script_text.specs.Said.{Before, stage_of}
use Rattle.script_text.specs.Lists.{lists, nothing_said, added, added_if, IsKnown, IsLineFault, TakesSaid}
use Rattle.script_text.specs.Reading.{◌>>=◌, at_line, line_said}
use Rattle.script_text.specs.Script.{ScriptState}
use Rattle.script_text.proofs.Known.{none_known}
use Rattle.script_text.specs.Text.{row_in, node_in, object_in, mark_line_in, event_in, last_stage, before_of, ended, script_after, script_of, IsTextFault}
use Rattle.script_text.specs.declared.fault.Refusal.{Refusal}
use Rattle.script_text.specs.declared.fault.ScriptFault.{ScriptFault}
use Rattle.script_text.specs.declared.fault.ScriptFault.TheVariants as fault
use Rattle.script_text.specs.declared.said.Said.{Said}
use Rattle.script_text.specs.declared.said.Said.TheVariants as said
use Rattle.script_text.specs.declared.said.Stage.{Stage}
use Rattle.script_text.specs.declared.said.Stage.TheVariants.{Start}

-- ---- a line more

last_is : (stage : Stage) (before : List Said) (line : Said) → last_stage stage (before ++ line ∷ []) ≡ stage_of line
last_is stage [] line = refl
last_is stage (first ∷ before) line = last_is (stage_of first) before line

parts : (before : List Said) (line : Said) → before_of (before ++ line ∷ []) ≡ lists (stage_of line)
    (filter_map row_in before ++ filter_map row_in (line ∷ []))
    (filter_map node_in before ++ filter_map node_in (line ∷ []))
    (filter_map object_in before ++ filter_map object_in (line ∷ []))
    (filter_map mark_line_in before ++ filter_map mark_line_in (line ∷ []))
    (filter_map event_in before ++ filter_map event_in (line ∷ []))
parts before line =
    rw (
      last_is Start before line,
      filter_map-append row_in before (line ∷ []),
      filter_map-append node_in before (line ∷ []),
      filter_map-append object_in before (line ∷ []),
      filter_map-append mark_line_in before (line ∷ []),
      filter_map-append event_in before (line ∷ []),
    ) refl

module _ (before : List Said) where
  rows_nil : filter_map row_in before ++ [] ≡ filter_map row_in before
  rows_nil = append-nil (filter_map row_in before)

  nodes_nil : filter_map node_in before ++ [] ≡ filter_map node_in before
  nodes_nil = append-nil (filter_map node_in before)

  objects_nil : filter_map object_in before ++ [] ≡ filter_map object_in before
  objects_nil = append-nil (filter_map object_in before)

  marks_nil : filter_map mark_line_in before ++ [] ≡ filter_map mark_line_in before
  marks_nil = append-nil (filter_map mark_line_in before)

  events_nil : filter_map event_in before ++ [] ≡ filter_map event_in before
  events_nil = append-nil (filter_map event_in before)

one_more : (before : List Said) (line : Said) → added (before_of before) line ≡ before_of (before ++ line ∷ [])
one_more before said.Head = sym (parts before said.Head ∙ rw (
  rows_nil before,
  nodes_nil before,
  objects_nil before,
  marks_nil before,
  events_nil before,
) refl)
one_more before (said.Row row) = sym (parts before (said.Row row)
    ∙ rw (nodes_nil before, objects_nil before, marks_nil before, events_nil before) refl)
one_more before (said.Node node) = sym (parts before (said.Node node)
    ∙ rw (rows_nil before, objects_nil before, marks_nil before, events_nil before) refl)
one_more before (said.Object object) = sym (parts before (said.Object object)
    ∙ rw (rows_nil before, nodes_nil before, marks_nil before, events_nil before) refl)
one_more before (said.Mark mark) = sym (parts before (said.Mark mark)
    ∙ rw (rows_nil before, nodes_nil before, objects_nil before, events_nil before) refl)
one_more before (said.Event event) = sym (parts before (said.Event event)
    ∙ rw (rows_nil before, nodes_nil before, objects_nil before, marks_nil before) refl)

more : (before : List Said) (says : Option Said) → added_if (before_of before) says
    ≡ before_of (before ++ option_to_list says)
more before None = ap before_of (sym (append-nil before))
more before (Some line) = one_more before line

-- ---- what is left

pub record HasRead (text : List ℕ) (b : Before) (given : ℕ) (left : List (List ℕ)) : Type 0 where
  pub before : List Said
  pub is : b ≡ before_of before
  pub goes_on : script_of text ≡ script_after before given left

opened : (text : List ℕ) → script_of text ≡ script_after [] 0 (lines text)
unfolding script_of
opened text = refl

pub begun : (text : List ℕ) → HasRead text nothing_said 0 (lines text)
begun text = record { before = []; is = refl; goes_on = opened text }

module _ (text : List ℕ) (b : Before) (given number : ℕ) (line : List ℕ) (left after : List (List ℕ))
    (read : HasRead text b given left) (comes : left ≡ line ∷ after) (counted : number ≡ given + 1) where
  rest_of : Result (Option Said) ScriptFault → Result ScriptState ScriptFault
  rest_of found = found >>= λ says. script_after (read.before ++ option_to_list says) (given + 1) after

  moved : line_said (before_of read.before) (given + 1) line ≡ line_said b number line
  moved = sym (ap (λ b. line_said b number line) read.is ∙ ap (λ n. line_said (before_of read.before) n line) counted)

  by_line : script_of text ≡ rest_of (at_line (given + 1) (line_said b number line))
  unfolding rest_of
  by_line =
      read.goes_on ∙ ap (script_after read.before given) comes ∙ ap (λ found. rest_of (at_line (given + 1) found)) moved

  pub line_taken : (new : Before) → TakesSaid b (line_said b number line) new → HasRead text new (given + 1) after
  unfolding rest_of
  line_taken new takes = record {
    before = read.before ++ option_to_list takes.0;
    is = takes.2 ∙ ap (λ b. added_if b takes.0) read.is ∙ more read.before takes.0;
    goes_on = by_line ∙ ap (λ found. rest_of (at_line (given + 1) found)) takes.1;
  }

  refused : (fault : ScriptFault) → at_line number (line_said b number line) ≡ Err fault → script_of text ≡ Err fault
  unfolding rest_of
  refused fault is = by_line ∙ ap (λ n. rest_of (at_line n (line_said b number line))) (sym counted) ∙ ap rest_of is

  pub line_refused : (why : ScriptFault) → IsLineFault why (at_line number (line_said b number line))
      → IsTextFault why (script_of text)
  line_refused fault.NoMemory is = tt
  line_refused (fault.Line at cause) is = refused (fault.Line at cause) is
  line_refused (fault.Order at) is = refused (fault.Order at) is
  line_refused (fault.Twice at) is = refused (fault.Twice at) is
  line_refused (fault.TooMany at) is = refused (fault.TooMany at) is

pub all_read : (text : List ℕ) (b : Before) (given : ℕ) (left : List (List ℕ)) → HasRead text b given left → left ≡ []
    → script_of text ≡ ended b
all_read text b given left read none = read.goes_on ∙ ap (script_after read.before given) none ∙ ap ended (sym read.is)

-- the reader of lines knows what those before the next say
pub record IsReadUpTo (text : List ℕ) (b : Before) (lanes : List (List Lane)) (left : LinesState) : Type 0 where
  pub read : HasRead text b left.given left.left
  pub known : IsKnown b lanes

pub begins : (text : List ℕ) (b : Before) (lanes : List (List Lane)) (left : LinesState) → b ≡ nothing_said → lanes ≡ []
    → left ≡ record { given = 0; left = lines text } → IsReadUpTo text b lanes left
begins text b lanes left nothing none all = record {
  read = subst (λ (left : LinesState). HasRead text b left.given left.left) (sym all)
      (subst (λ b. HasRead text b 0 (lines text)) (sym nothing) (begun text));
  known = subst (IsKnown b) (sym none) (none_known b);
}
