-- Statement: the value of an attribute: its references resolved, each line end and tab a space.
use Rattle.std.specs.Prelude.{ℕ, ◌+◌, ◌*◌, ◌==◌, nat_lt, ◌&&◌, ◌||◌, Bool, if◌then◌else◌, List, [], ◌∷◌, ◌++◌, length, drop, nat_eq, codes, encode_utf8, fold, Option, Some, None}
use Rattle.std.specs.Option.{option_map, option_and_then}
use Rattle.std.specs.List.{starts_with, list_all, list_any, slice_split}
use Rattle.std.specs.Char.{digit_value}
use Rattle.std.specs.Str.{bytes_eq}
use Rattle.tag_text.specs.Octets.{is_octet, cut_at}

-- tab, LF or CR
abbrev pub is_break : ℕ → Bool
is_break octet = octet == 9 || octet == 10 || octet == 13

-- a break becomes a space
abbrev pub space_for : ℕ → ℕ
space_for octet = if is_break octet then 32 else octet

-- each break becomes a space, CR with LF one
abbrev pub spaced : List ℕ → List ℕ
spaced [] = []
spaced (octet ∷ []) = space_for octet ∷ []
spaced (octet ∷ next ∷ text) =
    if octet == 13 && next == 10 then spaced (next ∷ text) else space_for octet ∷ spaced (next ∷ text)

-- the number that these digits write, if they are digits of the base and there is one
abbrev pub number_of : ℕ → List ℕ → Option ℕ
number_of base [] = None
number_of base (digit ∷ digits) =
    if list_all (λ octet. nat_lt (digit_value octet) base) (digit ∷ digits)
    then Some (fold (λ number octet. number * base + digit_value octet) 0 (digit ∷ digits))
    else None

-- a Unicode scalar value other than 0
abbrev pub is_character : ℕ → Bool
is_character code = nat_lt 0 code && (nat_lt code 0xD800 || (nat_lt 0xDFFF code && nat_lt code 0x11_0000))

-- the character with this number
abbrev pub character_of : Option ℕ → Option ℕ
character_of number = option_and_then (λ code. if is_character code then Some code else None) number

-- the character that a reference names, by what stands between `&` and `;`
unfoldable pub reference_of : List ℕ → Option ℕ
reference_of name =
    if bytes_eq name (codes "lt") then Some 60
    else if bytes_eq name (codes "gt") then Some 62
    else if bytes_eq name (codes "amp") then Some 38
    else if bytes_eq name (codes "quot") then Some 34
    else if bytes_eq name (codes "apos") then Some 39
    else if starts_with nat_eq name (codes "#x") then character_of (number_of 16 (drop 2 name))
    else if starts_with nat_eq name (codes "#") then character_of (number_of 10 (drop 1 name))
    else None

abbrev pub with_front : List ℕ → Option (List ℕ) → Option (List ℕ)
with_front front value = option_map (λ rest. front ++ rest) value

-- the character of the reference that a `&` began, up to its `;`, and what follows
unfoldable pub reference_at : List ℕ → Option (ℕ × List ℕ)
reference_at part =
    option_and_then (λ parts. option_map (λ code. (code, parts.1)) (reference_of parts.0)) (cut_at 59 part)

-- the value of the parts that each begin after a `&`
abbrev pub value_after : List (List ℕ) → Option (List ℕ)
value_after [] = Some []
value_after (part ∷ parts) =
    option_and_then (λ reference. with_front (encode_utf8 reference.0 ++ spaced reference.1) (value_after parts))
    (reference_at part)

-- the value of the parts between `&` and `&`
abbrev pub value_of_parts : List (List ℕ) → Option (List ℕ)
value_of_parts [] = None
value_of_parts (front ∷ parts) = with_front (spaced front) (value_after parts)

-- the value that is written so
unfoldable pub value_of : List ℕ → Option (List ℕ)
value_of raw = value_of_parts (slice_split (is_octet 38) raw)

-- `"` or `'`
abbrev pub is_quote : ℕ → Bool
is_quote octet = octet == 34 || octet == 39

-- what stands in the quotes at the front, and what follows; no `<` stands in quotes
unfoldable pub quoted_at : List ℕ → Option (List ℕ × List ℕ)
quoted_at [] = None
quoted_at (quote ∷ text) =
    if is_quote quote
    then option_and_then (λ parts. if list_any (is_octet 60) parts.0 then None else Some parts) (cut_at quote text)
    else None

-- the value in quotes at the front, and what follows
unfoldable pub value_at : List ℕ → Option (List ℕ × List ℕ)
value_at text = option_and_then (λ quoted. option_map (λ value. (value, quoted.1)) (value_of quoted.0)) (quoted_at text)

-- the parts of a value that are left, each of which began after a `&`
abbrev pub parts_left : Option (List ℕ) → List (List ℕ)
parts_left None = []
parts_left (Some rest) = slice_split (is_octet 38) rest

-- more octets than any later part has
abbrev pub octets_left : Option (List ℕ) → ℕ
octets_left None = 0
octets_left (Some rest) = length rest + 1
