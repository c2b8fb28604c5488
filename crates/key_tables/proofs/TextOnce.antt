-- The rows of a text that is tables stand once each.
use Rattle.std.proofs.Common.{◌≡◌, ℕ, ◌+◌, List, [], ◌∷◌, ◌++◌, length, Option, Some, None, Result, Ok, Err, refl, sym, subst, append_assoc, append-nil, arith}
use Rattle.std.specs.Option.{option_or, option_map, option_to_list}
use Rattle.std.specs.Str.Lines.{lines}
use Rattle.knx_base.specs.declared.cause.Cause.{Cause}
use Rattle.key_tables.specs.declared.types.Row.{Row}
use Rattle.key_tables.specs.declared.faults.BuildFault.{BuildFault}
use Rattle.key_tables.specs.declared.faults.TablesFault.{TablesFault}
use Rattle.key_tables.specs.First.{first_of}
use Rattle.key_tables.specs.Build.{row_fault, NoneTwice}
use Rattle.key_tables.specs.Text.{line_says, row_said, rows_of, at_line, refusal, line_fault, tables_of, unless, SaysNothingTwice}
use Rattle.key_tables.proofs.Standing.{one_more_once}
use Rattle.key_tables.proofs.TextLemmas.{one_more_line}

neither : {A : Type 0} (a b : Option A) → option_or a b ≡ None → (a ≡ None) × (b ≡ None)
neither None b h = (refl, h)
neither (Some x) b h = absurd cc

no_fault : (number : ℕ) (fault : Option BuildFault) → option_map (at_line number) fault ≡ None → fault ≡ None
no_fault number None h = refl
no_fault number (Some fault) h = absurd cc

said_once : (number : ℕ) (rows : List Row) (said : Result (Option Row) Cause) → NoneTwice rows
    → refusal number rows said ≡ None
    → NoneTwice (rows ++ option_to_list (row_said said))
said_once number rows (Err why) once right = absurd cc
said_once number rows (Ok None) once right = subst NoneTwice (sym (append-nil rows)) once
said_once number rows (Ok (Some row)) once right =
    one_more_once rows row once (no_fault number (row_fault rows row) right)

lines_once : (before later : List (List ℕ)) → NoneTwice (rows_of before) → first_of line_fault before later ≡ None
    → NoneTwice (rows_of (before ++ later))
unfolding line_fault
lines_once before [] once right = subst (λ done. NoneTwice (rows_of done)) (sym (append-nil before)) once
lines_once before (line ∷ later) once right =
    let both = neither (line_fault before line) (first_of line_fault (before ++ line ∷ []) later) right in
    let more = subst NoneTwice (sym (one_more_line before line))
    (said_once (length before + 1) (rows_of before) (line_says line) once both.0) in
    subst (λ done. NoneTwice (rows_of done)) (append_assoc before (line ∷ []) later)
    (lines_once (before ++ line ∷ []) later more both.1)

where_right : (fault : Option TablesFault) (all rows : List Row) → unless fault all ≡ Ok rows → (fault ≡ None)
    × (all ≡ rows)
where_right None all rows is = (refl, cc)
where_right (Some fault) all rows is = absurd cc

none_yet : NoneTwice (rows_of [])
none_yet i j d before within = absurd (omega arith)

pub says_once : (text : List ℕ) → SaysNothingTwice text
unfolding tables_of
says_once text rows is =
    let right = where_right (first_of line_fault [] (lines text)) (rows_of (lines text)) rows is in
    subst NoneTwice right.1 (lines_once [] (lines text) none_yet right.0)
