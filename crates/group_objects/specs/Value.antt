-- Values of group objects, and what an application PDU holds of one. This is statement.
use Rattle.std.specs.Prelude.{◌≡◌, ℕ, ◌+◌, ◌%◌, ◌<◌, ◌≤◌, ◌==◌, ◌&&◌, List, [], ◌∷◌, length, slice_index, drop, if◌then◌else◌, Bool, true, false, Result, Ok, Err}
use Rattle.std.specs.Bool.{beq}
use Rattle.plain_apdu.specs.declared.object.BadObject.{BadObject}
use Rattle.plain_apdu.specs.declared.object.BadObject.TheVariants as bad

-- six bits, or octets
pub record ObjectValue : Type 0 where
  pub is_bits : Bool
  pub octets : List ℕ

abbrev pub bits_value : ℕ → ObjectValue
bits_value bits = record { is_bits = true; octets = bits ∷ [] }

abbrev pub octets_value : List ℕ → ObjectValue
octets_value octets = record { is_bits = false; octets = octets }

-- six bits are one octet below 64, and octets are 1 to 14
pub record IsValue (value : ObjectValue) : Type 0 where
  pub some : 0 < length value.octets
  pub fits : length value.octets ≤ 14
  pub one : value.is_bits ≡ true → length value.octets ≡ 1
  pub six : value.is_bits ≡ true → slice_index value.octets 0 < 64

-- the same kind, and as many octets
abbrev pub same_form : ObjectValue → ObjectValue → Bool
same_form a b = beq a.is_bits b.is_bits && length a.octets == length b.octets

-- the number of octets of an application PDU that carries a value of this form
abbrev pub apdu_size : ObjectValue → ℕ
apdu_size value = if value.is_bits then 2 else length value.octets + 2

-- the low six bits of the second octet, or what stands after the two
abbrev pub value_in : Bool → List ℕ → ObjectValue
value_in true apdu = bits_value (slice_index apdu 1 % 64)
value_in false apdu = octets_value (drop 2 apdu)

-- the value of this form that an application PDU of its size has
abbrev pub sized_value : ObjectValue → List ℕ → Result ObjectValue BadObject
sized_value form apdu =
    if length apdu == apdu_size form then Ok (value_in form.is_bits apdu)
    else Err (bad.Size (length apdu) (apdu_size form))
