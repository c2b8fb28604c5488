-- Statement: the classes of octets, and the parts of a text that stand at its front.
use Rattle.std.specs.Prelude.{◌≡◌, ℕ, ◌==◌, nat_lt, ◌&&◌, ◌||◌, Bool, false, if◌then◌else◌, List, [], ◌∷◌, length, take_while, drop, nat_eq, Option, Some, None}
use Rattle.std.specs.List.{starts_with, list_any, before_first, after_first}

-- space, tab, CR or LF
abbrev pub is_blank : ℕ → Bool
is_blank octet = octet == 32 || octet == 9 || octet == 13 || octet == 10

-- an ASCII digit
abbrev pub is_digit : ℕ → Bool
is_digit octet = nat_lt 47 octet && nat_lt octet 58

-- an ASCII letter, `_`, `:`, or a part of a character past ASCII
abbrev pub is_name_start : ℕ → Bool
is_name_start octet =
    (nat_lt 64 octet && nat_lt octet 91) || (nat_lt 96 octet && nat_lt octet 123) || octet == 95 || octet == 58
    || nat_lt 127 octet

-- what may follow in a name: also a digit, `-` or `.`
abbrev pub is_name_octet : ℕ → Bool
is_name_octet octet = is_name_start octet || is_digit octet || octet == 45 || octet == 46

abbrev pub is_octet : ℕ → ℕ → Bool
is_octet octet other = other == octet

-- what stands before the first occurrence of the octet, and what follows it
unfoldable pub cut_at : ℕ → List ℕ → Option (List ℕ × List ℕ)
cut_at octet text =
    if list_any (is_octet octet) text then Some (before_first (is_octet octet) text, after_first (is_octet octet) text)
    else None

-- what follows the elements from the front on that pass the test
abbrev pub drop_while : (ℕ → Bool) → List ℕ → List ℕ
drop_while test text = drop (length (take_while test text)) text

-- what follows the blanks at the front
unfoldable pub after_blanks : List ℕ → List ℕ
after_blanks text = drop_while is_blank text

-- what follows the mark, where the text begins with it
unfoldable pub after_mark : List ℕ → List ℕ → Option (List ℕ)
after_mark mark text = if starts_with nat_eq text mark then Some (drop (length mark) text) else None

-- what follows the first occurrence of the mark
unfoldable pub after_first_mark : List ℕ → List ℕ → Option (List ℕ)
after_first_mark mark [] = None
after_first_mark mark (octet ∷ text) =
    if starts_with nat_eq (octet ∷ text) mark then Some (drop (length mark) (octet ∷ text))
    else after_first_mark mark text

abbrev pub begins_name : List ℕ → Bool
begins_name [] = false
begins_name (octet ∷ text) = is_name_start octet

-- the name at the front, as long as it goes, and what follows
unfoldable pub name_at : List ℕ → Option (List ℕ × List ℕ)
name_at text = if begins_name text then Some (take_while is_name_octet text, drop_while is_name_octet text) else None

-- the text begins with no octet that passes the test
abbrev pub BeginsOther : (ℕ → Bool) → List ℕ → Type 0
BeginsOther test [] = Unit {0}
BeginsOther test (octet ∷ text) = test octet ≡ false
