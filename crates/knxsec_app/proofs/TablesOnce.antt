-- No two rows of a text of tables say the same.
use Rattle.std.proofs.Common.{◌≡◌, ℕ, ◌+◌, List, [], ◌∷◌, ◌++◌, length, Option, Some, None, Result, Ok, Err, refl, sym, subst, append_assoc, append-nil, arith}
use Rattle.std.specs.Option.{option_or, option_map}
use Rattle.std.specs.List.{filter_map}
use Rattle.std.specs.Str.Lines.{lines}
use Rattle.std.proofs.lemmas.List.Elements.{filter_map-append}
use Rattle.knx_base.specs.declared.cause.Cause.{Cause}
use Rattle.key_tables.specs.declared.types.Row.{Row}
use Rattle.key_tables.specs.declared.faults.BuildFault.{BuildFault}
use Rattle.key_tables.specs.declared.faults.TablesFault.{TablesFault}
use Rattle.key_tables.specs.First.{first_of}
use Rattle.key_tables.specs.Build.{row_fault, NoneTwice}
use Rattle.key_tables.specs.Text.{line_says, row_said, rows_of, at_line, refusal, line_fault, tables_of, unless}
use Rattle.key_tables.proofs.Standing.{one_more_once}

neither : {A : Type 0} (a b : Option A) → option_or a b ≡ None → (a ≡ None) × (b ≡ None)
neither None b none = (refl, none)
neither (Some x) b none = absurd cc

no_fault : (number : ℕ) (found : Option BuildFault) → option_map (at_line number) found ≡ None → found ≡ None
no_fault number None none = refl
no_fault number (Some why) none = absurd cc

said_once : (number : ℕ) (rows : List Row) (said : Result (Option Row) Cause) → NoneTwice rows
    → refusal number rows said ≡ None → NoneTwice (rows ++ filter_map (λ o. o) (row_said said ∷ []))
said_once number rows (Err why) once right = absurd cc
said_once number rows (Ok None) once right = subst NoneTwice (sym (append-nil rows)) once
said_once number rows (Ok (Some row)) once right =
    one_more_once rows row once (no_fault number (row_fault rows row) right)

lines_once : (before later : List (List ℕ)) → NoneTwice (rows_of before) → first_of line_fault before later ≡ None
    → NoneTwice (rows_of (before ++ later))
unfolding line_fault
lines_once before [] once right = subst (λ done. NoneTwice (rows_of done)) (sym (append-nil before)) once
lines_once before (line ∷ later) once right =
    let both = neither (line_fault before line) (first_of line_fault (before ++ line ∷ []) later) right in
    let more = subst NoneTwice (sym (filter_map-append (λ l. row_said (line_says l)) before (line ∷ [])))
    (said_once (length before + 1) (rows_of before) (line_says line) once both.0) in
    subst (λ done. NoneTwice (rows_of done)) (append_assoc before (line ∷ []) later)
    (lines_once (before ++ line ∷ []) later more both.1)

where_right : (found : Option TablesFault) (all rows : List Row) → unless found all ≡ Ok rows
    → (found ≡ None) × (all ≡ rows)
where_right None all rows is = (refl, cc)
where_right (Some why) all rows is = absurd cc

none_yet : NoneTwice (rows_of [])
none_yet i j d before within = absurd (omega arith)

pub tables_once : (text : List ℕ) (rows : List Row) → tables_of text ≡ Ok rows → NoneTwice rows
unfolding tables_of
tables_once text rows is =
    let right = where_right (first_of line_fault [] (lines text)) (rows_of (lines text)) rows is in
    subst NoneTwice right.1 (lines_once [] (lines text) none_yet right.0)
