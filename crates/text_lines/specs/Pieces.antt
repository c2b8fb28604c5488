-- Plumbing: a line that is taken from the octets that are held, piece after piece.
use Rattle.std.specs.Prelude.{◌≡◌, ℕ, ◌<◌, ◌≤◌, ◌==◌, false, List, [], ◌∷◌, ◌++◌, length, Option, Some, None}
use Rattle.std.specs.List.{All}
use Rattle.std.specs.Str.Lines.{lines}
use Rattle.text_lines.specs.Lines.{most_octets}
use Rattle.text_lines.specs.Reading.{BeginsLong}
use Rattle.text_lines.specs.declared.text_line.LineRead.{LineRead}
use Rattle.text_lines.specs.declared.text_line.LineRead.TheVariants.{End, Whole, Long}

-- octets without a line feed
abbrev pub IsOneLine : List ℕ → Type 0
IsOneLine octets = All (λ octet. (octet == 10) ≡ false) octets

-- The held octets were added to the front of a line that goes on; or they have its end, whatever comes after them; or
-- the line is too long.
abbrev pub TakesPiece : List ℕ → List ℕ → List ℕ → List ℕ → Option LineRead → Type 0
TakesPiece front held line kept None = (line ≡ front ++ held) × (length line ≤ 1025) × (kept ≡ []) × IsOneLine line
TakesPiece front held line kept (Some End) = ⊥
TakesPiece front held line kept (Some Whole) = (length kept < length held) × (length line ≤ most_octets)
    × ((more : List ℕ) → lines (front ++ (held ++ more)) ≡ line ∷ lines (kept ++ more))
TakesPiece front held line kept (Some Long) = (length kept < length held)
    × ((more : List ℕ) → BeginsLong (lines (front ++ (held ++ more))))
