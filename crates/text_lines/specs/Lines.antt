-- Statement: texts of lines, as tables, lists of frames and scripts are. A line ends with a line feed, or a carriage
-- return and a line feed, and the last may end with the text: `lines` of std says which lines a text has.
use Rattle.std.specs.Prelude.{◌≡◌, ℕ, ◌<◌, ◌≤◌, ◌⊎◌, ◌++◌, ◌==◌, ◌||◌, ◌&&◌, nat_le, nat_lt, Bool, true, false, if◌then◌else◌, List, [], ◌∷◌, length, slice_index, Option, Some, None, Result, Ok, Err}
use Rattle.std.specs.List.{filter, list_all, slice_split}
use Rattle.knx_base.specs.declared.cause.Cause.{Cause}
use Rattle.knx_base.specs.declared.cause.Cause.TheVariants as cause

-- the most octets that a line may have, without its end
abbrev pub most_octets : ℕ
most_octets = 1024

-- a space or a tab
abbrev pub is_blank : ℕ → Bool
is_blank octet = octet == 32 || octet == 9

-- printable ASCII, the space among it, or a tab
abbrev pub is_text : ℕ → Bool
is_text octet = octet == 9 || nat_le 32 octet && nat_le octet 126

-- a part between blanks is a word where it has an octet
abbrev pub is_word : List ℕ → Bool
is_word [] = false
is_word (octet ∷ octets) = true

-- the words of a line: what stands between blanks
abbrev pub words_of : List ℕ → List (List ℕ)
words_of line = filter is_word (slice_split is_blank line)

-- there is no word, or the first begins with `#`
abbrev pub is_comment : List (List ℕ) → Bool
is_comment [] = true
is_comment (word ∷ words) = slice_index word 0 == 35

-- blanks alone, or blanks and then a `#` and anything
pub record IsSkipped (line : List ℕ) : Type 0 where
  pub blanks : List ℕ
  pub rest : List ℕ
  pub whole : line ≡ blanks ++ rest
  pub are_blank : list_all is_blank blanks ≡ true
  pub comment : (rest ≡ []) ⊎ (slice_index rest 0 ≡ 35)

-- What a line says, by the answer: it is too long; else it says nothing; else it has an octet that no line may have;
-- else its words.
abbrev pub Says : List ℕ → Result (Option (List (List ℕ))) Cause → Type 0
Says line (Err cause.Long) = most_octets < length line
Says line (Ok None) = (length line ≤ most_octets) × IsSkipped line
Says line (Err cause.Words) = (length line ≤ most_octets) × (IsSkipped line → ⊥) × (list_all is_text line ≡ false)
Says line (Ok (Some words)) =
    (length line ≤ most_octets) × (IsSkipped line → ⊥) × (list_all is_text line ≡ true) × (words ≡ words_of line)
Says line (Err fault) = ⊥

-- the one such answer
abbrev pub line_of : List ℕ → Result (Option (List (List ℕ))) Cause
line_of line =
    if nat_lt most_octets (length line) then Err cause.Long
    else if is_comment (words_of line) then Ok None
    else if list_all is_text line then Ok (Some (words_of line))
    else Err cause.Words

-- the lines of a text that are still to be given, and how many were given
pub record LinesState : Type 0 where
  pub given : ℕ
  pub left : List (List ℕ)
