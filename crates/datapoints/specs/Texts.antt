-- The text of a value as a function of its octets, and the octets of a text as a search. This is statement: that the
-- function says the same as the relation is proved.
use Rattle.std.specs.Prelude.{◌≡◌, ℕ, zero, suc, ◌+◌, ◌*◌, ◌/◌, ◌%◌, ◌^◌, ◌==◌, ◌&&◌, not, nat_le, nat_eq, if◌then◌else◌, Bool, false, List, [], ◌∷◌, map, find, codes, slice_index, Option, Some, None, ◌↔◌, pos}
use Rattle.std.specs.Int.{from_be_bytes, w8, w16, w32}
use Rattle.std.specs.Fmt.{decimal}
use Rattle.std.specs.List.{list_all, flat_map, range_with_len, take_while}
use Rattle.std.specs.Cmp.Lexicographic.{pointwise}
use Rattle.jiff.specs.Words.{days_in_month}
use Rattle.datapoints.specs.declared.dpt.Dpt.{Dpt}
use Rattle.datapoints.specs.declared.dpt.Dpt.TheVariants.{Switch, Scaling, U8, U16, U32, I8, I16, I32, Hundredths, Time, Date, Text14}
use Rattle.datapoints.specs.Values.{HasValue, scaling_text, signed_text, float_text, clock_text, century_of, day_text, is_printable, filled, quoted}

-- ---- the text of octets

-- the text, where the octets are a value
abbrev pub text_if : Bool → List ℕ → Option (List ℕ)
text_if valid text = if valid then Some text else None

abbrev pub switch_of : ℕ → Option (List ℕ)
switch_of bits = if bits == 0 then Some (codes "off") else text_if (bits == 1) (codes "on")

-- every number but one is a value
abbrev pub float_of : ℕ → Option (List ℕ)
float_of number = text_if (not (number == 0x7fff)) (float_text number)

abbrev pub clock_of : ℕ → ℕ → ℕ → Option (List ℕ)
clock_of first minute second =
    text_if (nat_le (first % 32) 23 && nat_le minute 59 && nat_le second 59)
    (clock_text (first / 32) (first % 32) minute second)

-- the calendar has this day
abbrev pub is_civil_date : ℕ → ℕ → ℕ → Bool
is_civil_date year month day =
    nat_le 1 month && nat_le month 12 && nat_le 1 day && nat_le day (days_in_month (pos year) month)

abbrev pub date_of : ℕ → ℕ → ℕ → Option (List ℕ)
date_of day month year =
    text_if (nat_le year 99 && is_civil_date (century_of year * 100 + year) month day) (day_text year month day)

-- the octets before the first zero
abbrev pub before_zero : List ℕ → List ℕ
before_zero octets = take_while (λ octet. not (octet == 0)) octets

abbrev pub characters_of : List ℕ → Option (List ℕ)
characters_of octets =
    text_if (list_all is_printable (before_zero octets) && pointwise nat_eq octets (filled (before_zero octets)))
    (quoted (before_zero octets))

-- the text of octets, which are as many as a value of the type has
unfoldable pub text_of : Dpt → List ℕ → Option (List ℕ)
text_of Switch octets = switch_of (slice_index octets 0)
text_of Scaling octets = Some (scaling_text (from_be_bytes w8 octets))
text_of U8 octets = Some (decimal (from_be_bytes w8 octets))
text_of U16 octets = Some (decimal (from_be_bytes w16 octets))
text_of U32 octets = Some (decimal (from_be_bytes w32 octets))
text_of I8 octets = Some (signed_text (2 ^ 7) (from_be_bytes w8 octets))
text_of I16 octets = Some (signed_text (2 ^ 15) (from_be_bytes w16 octets))
text_of I32 octets = Some (signed_text (2 ^ 31) (from_be_bytes w32 octets))
text_of Hundredths octets = float_of (from_be_bytes w16 octets)
text_of Time octets = clock_of (slice_index octets 0) (slice_index octets 1) (slice_index octets 2)
text_of Date octets = date_of (slice_index octets 0) (slice_index octets 1) (slice_index octets 2)
text_of Text14 octets = characters_of octets

-- the function gives the text of the octets, exactly where they have one
abbrev pub SaysText : Dpt → List ℕ → Type 0
SaysText dpt octets = (text : List ℕ) → HasValue dpt octets text ↔ (text_of dpt octets ≡ Some text)

-- ---- the octets of a text

-- how many octets a value of the type has
abbrev pub value_size : Dpt → ℕ
value_size Switch = 1
value_size Scaling = 1
value_size U8 = 1
value_size U16 = 2
value_size U32 = 4
value_size I8 = 1
value_size I16 = 2
value_size I32 = 4
value_size Hundredths = 2
value_size Time = 3
value_size Date = 3
value_size Text14 = 14

-- these lists, each with the octet in front
abbrev pub with_front : List (List ℕ) → ℕ → List (List ℕ)
with_front lists octet = map (λ list. octet ∷ list) lists

-- all lists of so many octets, ascending
unfoldable pub all_octets : ℕ → List (List ℕ)
all_octets zero = [] ∷ []
all_octets (suc n) = flat_map (with_front (all_octets n)) (range_with_len 0 256)

abbrev pub is_text : List ℕ → Option (List ℕ) → Bool
is_text text None = false
is_text text (Some found) = pointwise nat_eq found text

-- The first octets, ascending, of which this is the text. Of a number's forms with exponents the least is the first.
unfoldable pub octets_with : Dpt → List ℕ → Option (List ℕ)
octets_with dpt text = find (λ octets. is_text text (text_of dpt octets)) (all_octets (value_size dpt))
