-- Statement: application PDUs of group services that carry a value: the low six bits of the second octet, where the
-- type is of bits, or the octets after the first two.
use Rattle.std.specs.Prelude.{◌≡◌, ◌≢◌, ℕ, ◌+◌, ◌%◌, List, [], ◌∷◌, length, drop, slice_index, Option}
use Rattle.std.specs.Option.{option_map}
use Rattle.plain_apdu.specs.Apdu.{apdu_of}
use Rattle.datapoints.specs.declared.dpt.Dpt.{Dpt}
use Rattle.datapoints.specs.declared.dpt.Dpt.TheVariants.{Switch, Scaling, U8, U16, U32, I8, I16, I32, Hundredths, Time, Date, Text14}
use Rattle.datapoints.specs.declared.decoding.BadValue.{BadValue}
use Rattle.datapoints.specs.declared.decoding.BadValue.TheVariants.{Size, Range}
use Rattle.datapoints.specs.Values.{HasValue, HasNoText, IsLeastForm}
use Rattle.datapoints.specs.Texts.{octets_with}

-- how many octets an APDU with such a value has
abbrev pub apdu_size : Dpt → ℕ
apdu_size Switch = 2
apdu_size Scaling = 3
apdu_size U8 = 3
apdu_size U16 = 4
apdu_size U32 = 6
apdu_size I8 = 3
apdu_size I16 = 4
apdu_size I32 = 6
apdu_size Hundredths = 4
apdu_size Time = 5
apdu_size Date = 5
apdu_size Text14 = 16

-- the octets of the value in an APDU
abbrev pub value_in : Dpt → List ℕ → List ℕ
value_in Switch apdu = slice_index apdu 1 % 64 ∷ []
value_in _ apdu = drop 2 apdu

-- the APDU of a service, by its ten bits, that carries these octets
abbrev pub apdu_with : Dpt → ℕ → List ℕ → List ℕ
apdu_with Switch bits octets = apdu_of (bits + slice_index octets 0) []
apdu_with _ bits octets = apdu_of bits octets

-- the APDU has as many octets as the type wants, and they carry the value of this text
abbrev pub Carries : Dpt → List ℕ → List ℕ → Type 0
Carries dpt apdu text = (length apdu ≡ apdu_size dpt) × HasValue dpt (value_in dpt apdu) text

-- The APDU has another number of octets than the type wants; or it has as many, and they carry no value.
abbrev pub IsBadValue : Dpt → List ℕ → BadValue → Type 0
IsBadValue dpt apdu (Size found wanted) = (found ≡ length apdu) × (wanted ≡ apdu_size dpt) × (found ≢ wanted)
IsBadValue dpt apdu Range = (length apdu ≡ apdu_size dpt) × HasNoText dpt (value_in dpt apdu)

-- octets that a text was encoded as: they have the text, and where there are several such octets, the least exponent
pub record IsEncoded (dpt : Dpt) (text octets : List ℕ) : Type 0 where
  pub value : HasValue dpt octets text
  pub least : dpt ≡ Hundredths → IsLeastForm octets text

-- an APDU of a service that carries a text's value
pub record IsWritten (dpt : Dpt) (text : List ℕ) (bits : ℕ) (apdu : List ℕ) : Type 0 where
  pub octets : List ℕ
  pub encoded : IsEncoded dpt text octets
  pub apdu_is : apdu ≡ apdu_with dpt bits octets

-- the APDU of a service that carries the value of a text, if there is one
unfoldable pub apdu_for : Dpt → List ℕ → ℕ → Option (List ℕ)
apdu_for dpt text bits = option_map (apdu_with dpt bits) (octets_with dpt text)
