-- Statement: decimals in texts: one or more digits 0 to 9, no sign, no leading zero but in 0 itself.
use Rattle.std.specs.Prelude.{◌≡◌, ℕ, List, Option, Some, None, nat_eq, nat_le, if◌then◌else◌}
use Rattle.std.specs.Fmt.{decimal}
use Rattle.std.specs.Str.Parse.{digits_value}
use Rattle.std.specs.Cmp.Lexicographic.{pointwise}

-- The text is what is written for the number.
abbrev pub IsDecimal : List ℕ → ℕ → Type 0
IsDecimal text n = text ≡ decimal n

-- the number whose decimal the text is, if it is one
unfoldable pub decimal_number : List ℕ → Option ℕ
decimal_number text =
    if pointwise nat_eq (decimal (digits_value 10 text)) text then Some (digits_value 10 text) else None

abbrev pub at_most : ℕ → Option ℕ → Option ℕ
at_most most None = None
at_most most (Some n) = if nat_le n most then Some n else None

-- the same up to a limit
unfoldable pub decimal_up_to : ℕ → List ℕ → Option ℕ
decimal_up_to most text = at_most most (decimal_number text)
