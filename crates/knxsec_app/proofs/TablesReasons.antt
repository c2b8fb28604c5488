-- No text of tables is refused for want of memory, and no two rows of one say the same.
use Rattle.std.proofs.Common.{◌≡◌, ◌≢◌, ℕ, ◌+◌, List, [], length, Option, Some, None, IfSome, Result, Ok, Err, subst}
use Rattle.std.specs.Str.Lines.{lines}
use Rattle.knx_base.specs.declared.cause.Cause.{Cause}
use Rattle.key_tables.specs.declared.types.Row.{Row}
use Rattle.key_tables.specs.declared.faults.BuildFault.{BuildFault}
use Rattle.key_tables.specs.declared.faults.BuildFault.TheVariants as build
use Rattle.key_tables.specs.declared.faults.TablesFault.{TablesFault}
use Rattle.key_tables.specs.declared.faults.TablesFault.TheVariants.{NoMemory}
use Rattle.key_tables.specs.First.{first_of}
use Rattle.key_tables.specs.Build.{is_repeated, is_full, row_fault}
use Rattle.key_tables.specs.Text.{line_says, rows_of, at_line, refusal, line_fault, tables_of, unless}
use Rattle.knxsec_app.proofs.Firsts.{first_is, chosen, mapped}

-- a row is refused for what it is
abbrev pub IsOfRow : BuildFault → Type 0
IsOfRow build.NoMemory = ⊥
IsOfRow _ = Unit {0}

pub row_fault_is : (before : List Row) (row : Row) → IfSome (row_fault before row) IsOfRow
unfolding row_fault
row_fault_is before row =
    chosen (λ found. IfSome found IsOfRow) (is_repeated before row) _ _ tt
    (chosen (λ found. IfSome found IsOfRow) (is_full before row) _ _ tt tt)

-- and so is a text
abbrev IsOfText : TablesFault → Type 0
IsOfText NoMemory = ⊥
IsOfText _ = Unit {0}

told_is : (number : ℕ) (fault : BuildFault) → IsOfRow fault → IsOfText (at_line number fault)
told_is number (build.Twice place) is = tt
told_is number (build.TooMany place) is = tt
told_is number build.NoMemory is = is

refusal_is : (number : ℕ) (rows : List Row) (said : Result (Option Row) Cause)
    → IfSome (refusal number rows said) IsOfText
refusal_is number rows (Err why) = tt
refusal_is number rows (Ok None) = tt
refusal_is number rows (Ok (Some row)) =
    mapped IsOfRow IsOfText (at_line number) (row_fault rows row) (told_is number) (row_fault_is rows row)

line_fault_is : (before : List (List ℕ)) (line : List ℕ) → IfSome (line_fault before line) IsOfText
unfolding line_fault
line_fault_is before line = refusal_is (length before + 1) (rows_of before) (line_says line)

never_told : (found : Option TablesFault) (rows : List Row) → IfSome found IsOfText → unless found rows ≢ Err NoMemory
never_told None rows is same = absurd cc
never_told (Some fault) rows is same = let one : fault ≡ NoMemory = cc in subst IsOfText one is

pub no_memory : (text : List ℕ) → tables_of text ≢ Err NoMemory
unfolding tables_of
no_memory text =
    never_told (first_of line_fault [] (lines text)) (rows_of (lines text))
    (first_is IsOfText line_fault line_fault_is [] (lines text))
