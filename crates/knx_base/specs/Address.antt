-- Statement: addresses as text: an individual address is `area.line.device`; a group address is `main/middle/sub`,
-- `main/sub` or one decimal, and is written with three parts.
use Rattle.std.specs.Prelude.{◌≡◌, ℕ, ◌+◌, ◌*◌, ◌/◌, ◌%◌, ◌≤◌, ◌⊎◌, List, [], ◌∷◌, ◌++◌, Option, Some, None, ◌==◌, if◌then◌else◌}
use Rattle.std.specs.Fmt.{decimal}
use Rattle.knx_base.specs.Decimal.{IsDecimal, decimal_up_to}

-- three decimals with a separator between them
unfoldable pub parts_text : ℕ → ℕ → ℕ → ℕ → List ℕ
parts_text separator first second third = decimal first ++ separator ∷ (decimal second ++ separator ∷ decimal third)

-- ---- the forms

pub record IndividualParts (text : List ℕ) (value area line device : ℕ) : Type 0 where
  pub area_bound : area ≤ 15
  pub line_bound : line ≤ 15
  pub device_bound : device ≤ 255
  pub spelled : text ≡ parts_text 46 area line device
  pub value_is : value ≡ area * 4096 + line * 256 + device

-- The text is an individual address of this value.
abbrev pub IsIndividual : List ℕ → ℕ → Type 0
IsIndividual text value = (area : ℕ) × (line : ℕ) × (device : ℕ) × IndividualParts text value area line device

pub record ThreeParts (text : List ℕ) (value main middle sub : ℕ) : Type 0 where
  pub main_bound : main ≤ 31
  pub middle_bound : middle ≤ 7
  pub sub_bound : sub ≤ 255
  pub spelled : text ≡ parts_text 47 main middle sub
  pub value_is : value ≡ main * 2048 + middle * 256 + sub

pub record TwoParts (text : List ℕ) (value main sub : ℕ) : Type 0 where
  pub main_bound : main ≤ 31
  pub sub_bound : sub ≤ 2047
  pub spelled : text ≡ decimal main ++ 47 ∷ decimal sub
  pub value_is : value ≡ main * 2048 + sub

-- The text is a group address of this value, in one of its three forms.
abbrev pub IsGroup : List ℕ → ℕ → Type 0
IsGroup text value =
    ((main : ℕ) × (middle : ℕ) × (sub : ℕ) × ThreeParts text value main middle sub)
    ⊎ (((main : ℕ) × (sub : ℕ) × TwoParts text value main sub) ⊎ ((value ≤ 65535) × IsDecimal text value))

-- ---- the value of a text, by its pieces

abbrev pub onto_first : ℕ → List (List ℕ) → List (List ℕ)
onto_first octet [] = (octet ∷ []) ∷ []
onto_first octet (piece ∷ pieces) = (octet ∷ piece) ∷ pieces

-- the pieces of a text between separators
abbrev pub pieces_of : ℕ → List ℕ → List (List ℕ)
pieces_of separator [] = [] ∷ []
pieces_of separator (octet ∷ text) =
    if octet == separator then [] ∷ pieces_of separator text else onto_first octet (pieces_of separator text)

abbrev pub individual_value : Option ℕ → Option ℕ → Option ℕ → Option ℕ
individual_value (Some area) (Some line) (Some device) = Some (area * 4096 + line * 256 + device)
individual_value _ _ _ = None

abbrev pub individual_parts : List (List ℕ) → Option ℕ
individual_parts (area ∷ line ∷ device ∷ []) =
    individual_value (decimal_up_to 15 area) (decimal_up_to 15 line) (decimal_up_to 255 device)
individual_parts _ = None

-- the individual address that the text is
unfoldable pub individual_of : List ℕ → Option ℕ
individual_of text = individual_parts (pieces_of 46 text)

abbrev pub three_level_value : Option ℕ → Option ℕ → Option ℕ → Option ℕ
three_level_value (Some main) (Some middle) (Some sub) = Some (main * 2048 + middle * 256 + sub)
three_level_value _ _ _ = None

abbrev pub two_level_value : Option ℕ → Option ℕ → Option ℕ
two_level_value (Some main) (Some sub) = Some (main * 2048 + sub)
two_level_value _ _ = None

abbrev pub group_parts : List (List ℕ) → Option ℕ
group_parts (value ∷ []) = decimal_up_to 65535 value
group_parts (main ∷ sub ∷ []) = two_level_value (decimal_up_to 31 main) (decimal_up_to 2047 sub)
group_parts (main ∷ middle ∷ sub ∷ []) =
    three_level_value (decimal_up_to 31 main) (decimal_up_to 7 middle) (decimal_up_to 255 sub)
group_parts _ = None

-- the group address that the text is
unfoldable pub group_of : List ℕ → Option ℕ
group_of text = group_parts (pieces_of 47 text)

-- ---- the text of a value

abbrev pub individual_text : ℕ → List ℕ
individual_text value = parts_text 46 (value / 4096) (value / 256 % 16) (value % 256)

abbrev pub group_text : ℕ → List ℕ
group_text value = parts_text 47 (value / 2048) (value / 256 % 8) (value % 256)
