-- No text of types is refused for want of memory.
use Rattle.std.proofs.Common.{◌≡◌, ◌≢◌, ℕ, ◌+◌, nat_le, List, [], length, Option, Some, None, IfSome, Result, Ok, Err, subst}
use Rattle.std.specs.List.{list_any}
use Rattle.std.specs.Str.Lines.{lines}
use Rattle.knx_base.specs.declared.address.GroupAddr.{GroupAddr}
use Rattle.knx_base.specs.declared.cause.Cause.{Cause}
use Rattle.key_tables.specs.First.{first_of}
use Rattle.datapoints.specs.declared.dpt.Dpt.{Dpt}
use Rattle.datapoints.specs.declared.types.TypesFault.{TypesFault}
use Rattle.datapoints.specs.declared.types.TypesFault.TheVariants.{Twice, TooMany, NoMemory}
use Rattle.datapoints.specs.Types.{is_of, most_rows, line_says, rows_of, refusal, row_fault, line_fault, types_of, unless}
use Rattle.knxsec_app.proofs.Firsts.{first_is, chosen}

abbrev IsOfText : TypesFault → Type 0
IsOfText NoMemory = ⊥
IsOfText _ = Unit {0}

row_fault_is : (number : ℕ) (rows : List (GroupAddr × Dpt)) (row : GroupAddr × Dpt)
    → IfSome (row_fault number rows row) IsOfText
row_fault_is number rows row =
    chosen (λ found. IfSome found IsOfText) (list_any (is_of row.0) rows) (Some (Twice number)) _ tt
    (chosen (λ found. IfSome found IsOfText) (nat_le most_rows (length rows)) (Some (TooMany number)) None tt tt)

refusal_is : (number : ℕ) (rows : List (GroupAddr × Dpt)) (said : Result (Option (GroupAddr × Dpt)) Cause)
    → IfSome (refusal number rows said) IsOfText
refusal_is number rows (Err why) = tt
refusal_is number rows (Ok None) = tt
refusal_is number rows (Ok (Some row)) = row_fault_is number rows row

line_fault_is : (before : List (List ℕ)) (line : List ℕ) → IfSome (line_fault before line) IsOfText
unfolding line_fault
line_fault_is before line = refusal_is (length before + 1) (rows_of before) (line_says line)

never_told : (found : Option TypesFault) (rows : List (GroupAddr × Dpt)) → IfSome found IsOfText
    → unless found rows ≢ Err NoMemory
never_told None rows is same = absurd cc
never_told (Some fault) rows is same = let one : fault ≡ NoMemory = cc in subst IsOfText one is

pub no_memory : (text : List ℕ) → types_of text ≢ Err NoMemory
unfolding types_of
no_memory text =
    never_told (first_of line_fault [] (lines text)) (rows_of (lines text))
    (first_is IsOfText line_fault line_fault_is [] (lines text))
