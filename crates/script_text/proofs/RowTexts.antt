-- A line with these words says their row.
use Rattle.std.proofs.Common.{◌≡◌, ℕ, Bool, true, false, List, ◌∷◌, Option, Some, None, Ok, Err, refl, ap, ◌∙◌}
use Rattle.std.specs.Prelude.{Result}
use Rattle.knx_base.specs.declared.cause.Cause.{Cause}
use Rattle.knx_base.specs.declared.cause.Cause.TheVariants as cause
use Rattle.key_tables.specs.declared.types.Row.{Row}
use Rattle.script_text.specs.Said.{Before}
use Rattle.script_text.specs.Reading.{◌>>=◌, caused, in_order, named, role_after, row_said}
use Rattle.script_text.specs.Lists.{as_row, role_after_in, row_read}
use Rattle.script_text.specs.declared.fault.Refusal.{Refusal}
use Rattle.script_text.specs.declared.said.Said.{Said}
use Rattle.script_text.specs.declared.said.Stage.TheVariants.{Rows}
use Rattle.text_lines.specs.Lines.{line_of}
use Rattle.key_tables.specs.Text.{line_says, row_in, row_of}

pub line_row : (line : List ℕ) (words : List (List ℕ)) → line_of line ≡ Ok (Some words)
    → line_says line ≡ row_in (Some words)
unfolding line_says
line_row line words is = rw (is) refl

abbrev some_row : Result Row Cause → Result (Option Row) Cause
some_row row = Rattle.key_tables.specs.Text.◌>>=◌ row (λ row. Ok (Some row))

same_row : (any : Bool) (row : Result Row Cause)
    → (caused (role_after_in any (some_row row)) >>= as_row) ≡ (caused (role_after any row) >>= named)
same_row true (Ok row) = refl
same_row false (Ok row) = refl
same_row true (Err cause.Role) = refl
same_row true (Err cause.Words) = refl
same_row true (Err cause.Address) = refl
same_row true (Err cause.Key) = refl
same_row true (Err cause.Level) = refl
same_row true (Err cause.Any) = refl
same_row true (Err cause.Name) = refl
same_row true (Err cause.Lane) = refl
same_row true (Err cause.Number) = refl
same_row true (Err cause.Flags) = refl
same_row true (Err cause.Size) = refl
same_row true (Err cause.Value) = refl
same_row true (Err cause.Service) = refl
same_row true (Err cause.Digits) = refl
same_row true (Err cause.Long) = refl
same_row false (Err why) = refl

-- the row is the one that a tables file has from the line
pub row_from : (before : Before) (any : Bool) (line : List ℕ) (words : List (List ℕ)) → line_of line ≡ Ok (Some words)
    → row_read before any (line_says line) ≡ row_said before any words
row_from before any line words is =
    ap (row_read before any) (line_row line words is)
    ∙ ap (λ (said : Result Said Refusal). in_order before Rows >>= λ _. said) (same_row any (row_of words))
