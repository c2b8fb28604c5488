-- Statement: what a text of types says: each line the type of one group.
use Rattle.std.specs.Prelude.{◌≡◌, ℕ, ◌+◌, ◌==◌, nat_le, if◌then◌else◌, Bool, false, List, [], ◌∷◌, length, codes, find, Option, Some, None, Result, Ok, Err}
use Rattle.std.specs.Option.{option_map, ok_or}
use Rattle.std.specs.List.{filter_map, list_any, AllPairs}
use Rattle.std.specs.Str.Lines.{lines}
use Rattle.knx_base.specs.declared.address.GroupAddr.{GroupAddr}
use Rattle.knx_base.specs.declared.cause.Cause.{Cause}
use Rattle.knx_base.specs.declared.cause.Cause.TheVariants as cause
use Rattle.text_lines.specs.Lines.{line_of}
use Rattle.key_tables.specs.First.{first_of}
use Rattle.key_tables.specs.Text.{is_word, group_named, two_words, ◌>>=◌}
use Rattle.datapoints.specs.declared.dpt.Dpt.{Dpt}
use Rattle.datapoints.specs.declared.types.TypesFault.{TypesFault}
use Rattle.datapoints.specs.declared.types.TypesFault.TheVariants.{Line, Twice, TooMany, NoMemory}
use Rattle.datapoints.specs.Names.{type_named}

-- ---- rows, each a group and its type

abbrev pub is_of : GroupAddr → GroupAddr × Dpt → Bool
is_of group row = row.0.0 == group.0

-- the type of the row of this group
abbrev pub dpt_of : List (GroupAddr × Dpt) → GroupAddr → Option Dpt
dpt_of rows group = option_map (λ row. row.1) (find (is_of group) rows)

-- no group has two rows
abbrev pub NoneTwice : List (GroupAddr × Dpt) → Type 0
NoneTwice rows = AllPairs (λ row later. is_of later.0 row ≡ false) rows

abbrev pub most_rows : ℕ
most_rows = 4096

-- why the row may not stand right after these, by the number of its line
abbrev pub row_fault : ℕ → List (GroupAddr × Dpt) → GroupAddr × Dpt → Option TypesFault
row_fault number before row =
    if list_any (is_of row.0) before then Some (Twice number)
    else if nat_le most_rows (length before) then Some (TooMany number)
    else None

-- ---- lines, whose first refused word is the cause

abbrev pub dpt_named : List ℕ → Result Dpt Cause
dpt_named text = ok_or (type_named text) cause.Value

-- `GROUP TYPE`
abbrev pub type_row : List (List ℕ) → Result (GroupAddr × Dpt) Cause
type_row words = do
  two ← two_words words
  group ← group_named two.0
  dpt ← dpt_named two.1
  Ok (group, dpt)

abbrev pub row_of : List (List ℕ) → Result (GroupAddr × Dpt) Cause
row_of [] = Err cause.Words
row_of (kind ∷ words) = if is_word (codes "type") kind then type_row words else Err cause.Words

abbrev pub row_in : Option (List (List ℕ)) → Result (Option (GroupAddr × Dpt)) Cause
row_in None = Ok None
row_in (Some words) = do
  row ← row_of words
  Ok (Some row)

-- what a line says: nothing, a row, or the cause why it is refused
unfoldable pub line_says : List ℕ → Result (Option (GroupAddr × Dpt)) Cause
line_says line = do
  words ← line_of line
  row_in words

-- ---- the whole text

abbrev pub row_said : Result (Option (GroupAddr × Dpt)) Cause → Option (GroupAddr × Dpt)
row_said (Ok row) = row
row_said (Err _) = None

-- the rows that lines say
abbrev pub rows_of : List (List ℕ) → List (GroupAddr × Dpt)
rows_of lines = filter_map (λ line. row_said (line_says line)) lines

-- why the line of this number, which says this after these rows, is refused
abbrev pub refusal : ℕ → List (GroupAddr × Dpt) → Result (Option (GroupAddr × Dpt)) Cause → Option TypesFault
refusal number rows (Err why) = Some (Line number why)
refusal number rows (Ok None) = None
refusal number rows (Ok (Some row)) = row_fault number rows row

-- it is this fault that the line has, or memory was wanting
abbrev pub IsRefusal : TypesFault → Option TypesFault → Type 0
IsRefusal NoMemory found = Unit {0}
IsRefusal fault found = found ≡ Some fault

-- why a line is refused right after these lines
unfoldable pub line_fault : List (List ℕ) → List ℕ → Option TypesFault
line_fault before line = refusal (length before + 1) (rows_of before) (line_says line)

abbrev pub unless : Option TypesFault → List (GroupAddr × Dpt) → Result (List (GroupAddr × Dpt)) TypesFault
unless None rows = Ok rows
unless (Some fault) rows = Err fault

-- the rows of a text, or the fault of its first refused line
unfoldable pub types_of : List ℕ → Result (List (GroupAddr × Dpt)) TypesFault
types_of text = unless (first_of line_fault [] (lines text)) (rows_of (lines text))

-- it is this fault that the text has, or memory was wanting
abbrev pub IsTextFault : TypesFault → Result (List (GroupAddr × Dpt)) TypesFault → Type 0
IsTextFault NoMemory found = Unit {0}
IsTextFault fault found = found ≡ Err fault
