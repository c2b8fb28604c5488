-- Statement: the datapoint types of this profile by their numbers in the KNX specification (chapter 3/7/2).
use Rattle.std.specs.Prelude.{◌≡◌, ◌≢◌, ℕ, nat_eq, if◌then◌else◌, Bool, List, codes, Option, Some, None, MatchOption}
use Rattle.std.specs.Cmp.Lexicographic.{pointwise}
use Rattle.datapoints.specs.declared.dpt.Dpt.{Dpt}
use Rattle.datapoints.specs.declared.dpt.Dpt.TheVariants.{Switch, Scaling, U8, U16, U32, I8, I16, I32, Hundredths, Time, Date, Text14}

abbrev pub type_name : Dpt → List ℕ
type_name Switch = codes "1.001"
type_name Scaling = codes "5.001"
type_name U8 = codes "5.010"
type_name U16 = codes "7.001"
type_name U32 = codes "12.001"
type_name I8 = codes "6.010"
type_name I16 = codes "8.001"
type_name I32 = codes "13.001"
type_name Hundredths = codes "9.001"
type_name Time = codes "10.001"
type_name Date = codes "11.001"
type_name Text14 = codes "16.000"

-- the text is this type's name, or no type's
abbrev pub IsTypeNamed : List ℕ → Option Dpt → Type 0
IsTypeNamed text found = MatchOption found ((dpt : Dpt) → text ≢ type_name dpt) (λ dpt. text ≡ type_name dpt)

abbrev pub is_name : Dpt → List ℕ → Bool
is_name dpt text = pointwise nat_eq text (type_name dpt)

-- the type of this name
unfoldable pub type_named : List ℕ → Option Dpt
type_named text =
    if is_name Switch text then Some Switch
    else if is_name Scaling text then Some Scaling
    else if is_name U8 text then Some U8
    else if is_name U16 text then Some U16
    else if is_name U32 text then Some U32
    else if is_name I8 text then Some I8
    else if is_name I16 text then Some I16
    else if is_name I32 text then Some I32
    else if is_name Hundredths text then Some Hundredths
    else if is_name Time text then Some Time
    else if is_name Date text then Some Date
    else if is_name Text14 text then Some Text14
    else None
