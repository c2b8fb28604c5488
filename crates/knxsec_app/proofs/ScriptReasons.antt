-- No script is refused for want of memory. A line's own refusal, whose type other crates cannot name, is spoken of by the
-- fault that it is told as.
use Rattle.std.proofs.Common.{◌≡◌, ◌≢◌, refl, arith, ℕ, ◌+◌, List, [], ◌∷◌, ◌++◌, Bool, true, false, Option, Some, None, IfSome, Result, Ok, Err, IfErr, if◌then◌else◌, subst}
use Rattle.std.specs.Option.{option_map, option_to_list}
use Rattle.std.specs.Str.Lines.{lines}
use Rattle.knx_base.specs.declared.cause.Cause.{Cause}
use Rattle.text_lines.specs.Lines.{line_of}
use Rattle.key_tables.specs.declared.faults.BuildFault.{BuildFault}
use Rattle.key_tables.specs.declared.faults.BuildFault.TheVariants as build
use Rattle.key_tables.specs.declared.types.Row.{Row}
use Rattle.key_tables.specs.Build.{row_fault}
use Rattle.script_text.specs.Script.{ScriptState}
use Rattle.script_text.specs.Said.{Before, is_start, crowded, refusal_of_row, standing, fault_at}
use Rattle.script_text.specs.Reading.{◌>>=◌, caused, in_order, not_crowded, head_said, head_again, named, row_said, role_said, group_said, tool_said, node_said, object_said, mark_said, three_settled, one_settled, set_said, send_said, tool_send_said, ask_said, deliver_said, lose_said, inject_said, off_said, on_said, cut_said, fault_said, event_said, late_said, kind_said, after_head, words_said, stands, said_in, line_said, at_line}
use Rattle.script_text.specs.Text.{before_of, unless_crowded, ended, script_in, script_after, script_of}
use Rattle.script_text.specs.declared.fault.ScriptFault.{ScriptFault}
use Rattle.script_text.specs.declared.fault.ScriptFault.TheVariants as fault
use Rattle.knxsec_app.proofs.Firsts.{chosen}
use Rattle.knxsec_app.proofs.TablesReasons.{IsOfRow, row_fault_is}

-- a script is refused for what it says
abbrev IsOfText : ScriptFault → Type 0
IsOfText fault.NoMemory = ⊥
IsOfText _ = Unit {0}

abbrev IsTold : {A : Type 0} → Result A ScriptFault → Type 0
IsTold found = IfErr found IsOfText

abbrev is_memory : Option ScriptFault → Bool
is_memory (Some fault.NoMemory) = true
is_memory _ = false

of_text : (found : Option ScriptFault) → is_memory found ≡ false → IfSome found IsOfText
of_text None is = tt
of_text (Some (fault.Line number cause)) is = tt
of_text (Some (fault.Order number)) is = tt
of_text (Some (fault.Twice number)) is = tt
of_text (Some (fault.TooMany number)) is = tt
of_text (Some fault.NoMemory) is = absurd cc

-- an answer that follows on another is refused as one of the two is
follows : {A B : Type 0} (found : Result A ScriptFault) (next : A → Result B ScriptFault) → IsTold found
    → ((x : A) → IsTold (next x)) → IsTold (found >>= next)
follows (Ok x) next first later = later x
follows (Err why) next first later = first

-- ---- a line of this number

module _ (number : ℕ) where
  after : {A B : Type 0} (found : Result A _) (next : A → Result B _) → IsTold (at_line number found)
      → ((x : A) → IsTold (at_line number (next x))) → IsTold (at_line number (found >>= next))
  after (Ok x) next first later = later x
  after (Err why) next first later = first

  caused_so : {A B : Type 0} (found : Result A Cause) (next : A → Result B _)
      → ((x : A) → IsTold (at_line number (next x))) → IsTold (at_line number (caused found >>= next))
  caused_so (Ok x) next later = later x
  caused_so (Err why) next later = tt

  either_right : {A : Type 0} (here : Bool) (x y : Result A _) → IsTold (at_line number x)
      → IsTold (at_line number y) → IsTold (at_line number (if here then x else y))
  either_right true x y first second = first
  either_right false x y first second = second

  -- ---- what a line is read after

  order_so : (before : Before) (stage : _) → IsTold (at_line number (in_order before stage))
  order_so before stage = search either_right

  not_crowded_so : (found : Option _) → IsTold (at_line number (not_crowded found))
  not_crowded_so None = tt
  not_crowded_so (Some node) = tt

  -- ---- the head, and rows

  head_so : (words : List (List ℕ)) → IsTold (at_line number (head_said words))
  head_so [] = tt
  head_so (kind ∷ []) = tt
  head_so (kind ∷ version ∷ []) = search either_right
  head_so (kind ∷ version ∷ more ∷ words) = tt

  again_so : (words : List (List ℕ)) → IsTold (at_line number (head_again words))
  again_so words = search caused_so

  named_so : (row : Row) → IsTold (at_line number (named row))
  named_so row = search either_right

  row_so : (before : Before) (any : Bool) (words : List (List ℕ)) → IsTold (at_line number (row_said before any words))
  row_so before any words = search (caused_so, after, order_so, named_so)

  role_so : (before : Before) (kind : List ℕ) (words : List (List ℕ))
      → IsTold (at_line number (role_said before kind words))
  role_so before kind words = search (caused_so, row_so)

  group_so : (before : Before) (kind : List ℕ) (words : List (List ℕ))
      → IsTold (at_line number (group_said before kind words))
  group_so before kind words = search (caused_so, row_so)

  tool_so : (before : Before) (kind : List ℕ) (words : List (List ℕ))
      → IsTold (at_line number (tool_said before kind words))
  tool_so before kind words = search (caused_so, row_so)

  -- ---- nodes, objects and marks

  node_so : (before : Before) (words : List (List ℕ)) → IsTold (at_line number (node_said before number words))
  node_so before words = search (caused_so, after, order_so)

  object_so : (before : Before) (words : List (List ℕ)) → IsTold (at_line number (object_said before words))
  object_so before words = search (caused_so, after, order_so) depth 16

  -- what is said where no node has too many lanes
  module _ (before : Before) (settled : Result (Unit {0}) _) (few : IsTold (at_line number settled)) where
    mark_so : (words : List (List ℕ)) → IsTold (at_line number (mark_said before settled words))
    mark_so words = search (caused_so, after, order_so, few) depth 16

    three_so : (words : List (List ℕ)) → IsTold (at_line number (three_settled settled words))
    three_so words = search (caused_so, after, few)

    one_so : (words : List (List ℕ)) → IsTold (at_line number (one_settled settled words))
    one_so words = search (caused_so, after, few)

    set_so : (words : List (List ℕ)) → IsTold (at_line number (set_said before settled words))
    set_so words = search (caused_so, after, three_so)

    send_so : (words : List (List ℕ)) → IsTold (at_line number (send_said before settled words))
    send_so words = search (caused_so, after, three_so)

    tool_send_so : (words : List (List ℕ)) → IsTold (at_line number (tool_send_said before settled words))
    tool_send_so words = search (caused_so, after, three_so)

    ask_so : (words : List (List ℕ)) → IsTold (at_line number (ask_said before settled words))
    ask_so words = search (caused_so, after, three_so)

    deliver_so : (words : List (List ℕ)) → IsTold (at_line number (deliver_said before settled words))
    deliver_so words = search (caused_so, after, few)

    lose_so : (words : List (List ℕ)) → IsTold (at_line number (lose_said settled words))
    lose_so words = search (caused_so, after, one_so)

    inject_so : (words : List (List ℕ)) → IsTold (at_line number (inject_said settled words))
    inject_so words = search (caused_so, after, one_so)

    off_so : (words : List (List ℕ)) → IsTold (at_line number (off_said before settled words))
    off_so words = search (caused_so, after, one_so)

    on_so : (words : List (List ℕ)) → IsTold (at_line number (on_said before settled words))
    on_so words = search (caused_so, after, one_so)

    cut_so : (words : List (List ℕ)) → IsTold (at_line number (cut_said before settled words))
    cut_so words = search (caused_so, after, three_so)

    fault_so : (words : List (List ℕ)) → IsTold (at_line number (fault_said before settled words))
    fault_so words = search (caused_so, after, three_so)

    event_so : (kind : List ℕ) (words : List (List ℕ)) → IsTold (at_line number (event_said before settled kind words))
    event_so kind words =
        search (
          either_right,
          set_so,
          send_so,
          tool_send_so,
          ask_so,
          deliver_so,
          lose_so,
          inject_so,
          off_so,
          on_so,
          cut_so,
          fault_so,
        ) depth 16

    late_so : (kind : List ℕ) (words : List (List ℕ)) → IsTold (at_line number (late_said before settled kind words))
    late_so kind words = search (either_right, after, mark_so, event_so)

  -- ---- a line

  kind_so : (before : Before) (kind : List ℕ) (words : List (List ℕ))
      → IsTold (at_line number (kind_said before number kind words))
  unfolding kind_said
  kind_so before kind words =
      search (either_right, again_so, group_so, tool_so, role_so, node_so, object_so, late_so, not_crowded_so) depth 16

  after_so : (before : Before) (words : List (List ℕ)) → IsTold (at_line number (after_head before number words))
  after_so before [] = tt
  after_so before (kind ∷ words) = kind_so before kind words

  words_so : (before : Before) (words : List (List ℕ)) → IsTold (at_line number (words_said before number words))
  words_so before words = search (either_right, head_so, after_so)

  row_stands : (found : Option BuildFault) → IfSome found IsOfRow
      → is_memory (option_map (fault_at number) (option_map refusal_of_row found)) ≡ false
  row_stands None is = refl
  row_stands (Some (build.Twice place)) is = refl
  row_stands (Some (build.TooMany place)) is = refl
  row_stands (Some build.NoMemory) is = elim is [ ]

  row_so_far : (rows : List Row) (row : Row)
      → is_memory (option_map (fault_at number) (option_map refusal_of_row (row_fault rows row))) ≡ false
  row_so_far rows row = row_stands (row_fault rows row) (row_fault_is rows row)

  standing_is : (before : Before) (says : _) → is_memory (option_map (fault_at number) (standing before says)) ≡ false
  standing_is before says = grind (arith, row_so_far)

  standing_so : (before : Before) (says : _) → IfSome (option_map (fault_at number) (standing before says)) IsOfText
  standing_so before says = of_text (option_map (fault_at number) (standing before says)) (standing_is before says)

  stands_so : (found : Option _) (says : _) → IfSome (option_map (fault_at number) found) IsOfText
      → IsTold (at_line number (stands found says))
  stands_so None says is = tt
  stands_so (Some why) says is = is

  said_so : (before : Before) (found : Option (List (List ℕ))) → IsTold (at_line number (said_in before number found))
  said_so before None = tt
  said_so before (Some words) =
      after (words_said before number words) _ (words_so before words)
      (λ says. stands_so (standing before says) says (standing_so before says))

  line_so : (before : Before) (line : List ℕ) → IsTold (at_line number (line_said before number line))
  unfolding line_said
  line_so before line = caused_so (line_of line) (said_in before number) (said_so before)

-- ---- the whole text

few_so : (found : Option _) (script : ScriptState) → IsTold (unless_crowded found script)
few_so None script = tt
few_so (Some node) script = tt

ended_so : (before : Before) → IsTold (ended before)
ended_so before =
    chosen (λ (found : Result ScriptState ScriptFault). IsTold found) (is_start before.stage) _ _ tt
    (few_so (crowded before) (script_in before))

lines_so : (before : List _) (count : ℕ) (left : List (List ℕ)) → IsTold (script_after before count left)
lines_so before count [] = ended_so (before_of before)
lines_so before count (line ∷ more) =
    follows (at_line (count + 1) (line_said (before_of before) (count + 1) line)) _
    (line_so (count + 1) (before_of before) line)
    (λ says. lines_so (before ++ option_to_list says) (count + 1) more)

pub no_memory : (text : List ℕ) → script_of text ≢ Err fault.NoMemory
unfolding script_of
no_memory text same =
    subst (λ (found : Result ScriptState ScriptFault). IsTold found) same (lines_so [] 0 (lines text))
