-- What the words of a script's lines say, each for itself. This is statement.
use Rattle.std.specs.Prelude.{◌≡◌, ℕ, ◌/◌, ◌^◌, ◌==◌, ◌&&◌, ◌||◌, not, nat_eq, nat_le, if◌then◌else◌, Bool, true, false, List, [], ◌∷◌, length, drop, codes, Option, Some, None, Result, Ok, Err}
use Rattle.std.specs.Option.{ok_or}
use Rattle.std.specs.Result.{result_ok}
use Rattle.std.specs.List.{list_all, list_any, starts_with, before_first, after_first}
use Rattle.hex.specs.Hex.{decode_sized}
use Rattle.knx_base.specs.declared.address.IndAddr.{IndAddr}
use Rattle.knx_base.specs.declared.cause.Cause.{Cause}
use Rattle.knx_base.specs.declared.cause.Cause.TheVariants as cause
use Rattle.knx_base.specs.Address.{individual_of}
use Rattle.knx_base.specs.Decimal.{decimal_up_to}
use Rattle.key_tables.specs.declared.types.Lane.{Lane}
use Rattle.key_tables.specs.declared.types.Lane.TheVariants as lane
use Rattle.key_tables.specs.Text.{is_word, ◌>>=◌, device_named}
use Rattle.group_objects.specs.declared.row.Flags.{Flags}
use Rattle.group_objects.specs.declared.service.SendService.{SendService}
use Rattle.group_objects.specs.declared.service.SendService.TheVariants as service
use Rattle.group_objects.specs.Value.{ObjectValue, bits_value, octets_value}
use Rattle.script_text.specs.Parts.{is_name}

-- ---- numbers and octets

abbrev pub number_at : ℕ → Option ℕ → Result ℕ Cause
number_at least None = Err cause.Number
number_at least (Some n) = if nat_le least n then Ok n else Err cause.Number

-- a decimal in a range
abbrev pub number_named : ℕ → ℕ → List ℕ → Result ℕ Cause
number_named least most text = number_at least (decimal_up_to most text)

-- hexadecimal digits, two for each octet, of so many octets at the least and at the most
abbrev pub octets_named : ℕ → ℕ → List ℕ → Result (List ℕ) Cause
octets_named least most text =
    if nat_le least (length text / 2) && nat_le (length text / 2) most
    then ok_or (result_ok (decode_sized text (length text / 2))) cause.Value
    else Err cause.Value

-- two digits
abbrev pub octet_in : List ℕ → Result ℕ Cause
octet_in (octet ∷ []) = Ok octet
octet_in _ = Err cause.Value

abbrev pub octet_named : List ℕ → Result ℕ Cause
octet_named text = ok_or (result_ok (decode_sized text 1)) cause.Value >>= octet_in

-- ---- nodes

-- an address of a device that is not 0
abbrev pub some_device : IndAddr → Result IndAddr Cause
some_device address = if address.0 == 0 then Err cause.Address else Ok address

abbrev pub address_named : List ℕ → Result IndAddr Cause
address_named text = device_named text >>= some_device

-- a name that a node may have
abbrev pub name_named : List ℕ → Result (List ℕ) Cause
name_named text = if is_name text then Ok text else Err cause.Name

-- ---- lanes

abbrev pub sender_at : Option ℕ → Result IndAddr Cause
sender_at None = Err cause.Lane
sender_at (Some value) = Ok (record { 0 = value })

-- a device in a lane
abbrev pub lane_device : List ℕ → Result IndAddr Cause
lane_device text = sender_at (individual_of text)

-- `SENDER`
abbrev pub run_lane : List ℕ → Result Lane Cause
run_lane text = do
  sender ← lane_device text
  Ok (lane.Run sender)

abbrev pub is_colon : ℕ → Bool
is_colon octet = octet == 58

-- `DEVICE:SENDER`
abbrev pub tool_lane : List ℕ → Result Lane Cause
tool_lane text = do
  device ← lane_device (before_first is_colon text)
  sender ← lane_device (after_first is_colon text)
  Ok (lane.Tool device sender)

-- `run:SENDER` or `tool:DEVICE:SENDER`
abbrev pub lane_named : List ℕ → Result Lane Cause
lane_named text =
    if starts_with nat_eq text (codes "run:") then run_lane (drop 4 text)
    else if starts_with nat_eq text (codes "tool:") then tool_lane (drop 5 text)
    else Err cause.Lane

-- ---- objects

abbrev pub is_flag : ℕ → Bool
is_flag octet = octet == 114 || octet == 119 || octet == 117 || octet == 116

abbrev pub has_octet : ℕ → List ℕ → Bool
has_octet octet text = list_any (λ other. other == octet) text

-- no octet stands twice
abbrev pub is_distinct : List ℕ → Bool
is_distinct [] = true
is_distinct (octet ∷ text) = not (has_octet octet text) && is_distinct text

abbrev pub flags_in : List ℕ → Flags
flags_in text = record {
  reads = has_octet 114 text;
  writes = has_octet 119 text;
  updates = has_octet 117 text;
  transmits = has_octet 116 text;
}

-- `-`, or some of the letters r, w, u and t, each once
abbrev pub flags_named : List ℕ → Result Flags Cause
flags_named text =
    if is_word (codes "-") text then Ok (flags_in [])
    else if list_all is_flag text && is_distinct text then Ok (flags_in text)
    else Err cause.Flags

abbrev pub bits_at : ℕ → Result ObjectValue Cause
bits_at octet = if nat_le octet 63 then Ok (bits_value octet) else Err cause.Value

-- two digits up to 3f
abbrev pub bits_named : List ℕ → Result ObjectValue Cause
bits_named text = octet_named text >>= bits_at

-- octets, so many at the least and at the most
abbrev pub octets_value_named : ℕ → ℕ → List ℕ → Result ObjectValue Cause
octets_value_named least most text = do
  octets ← octets_named least most text
  Ok (octets_value octets)

abbrev pub size_at : Option ℕ → Result ℕ Cause
size_at None = Err cause.Size
size_at (Some size) = if size == 0 then Err cause.Size else Ok size

-- the number of octets, 1 to 14, or 0 for `bits`
abbrev pub size_named : List ℕ → Result ℕ Cause
size_named text = if is_word (codes "bits") text then Ok 0 else size_at (decimal_up_to 14 text)

-- the value of an object of this size
abbrev pub value_sized : ℕ → List ℕ → Result ObjectValue Cause
value_sized size text = if size == 0 then bits_named text else octets_value_named size size text

-- ---- events

-- `bits:` and two digits up to 3f, or 1 to 14 octets
abbrev pub value_named : List ℕ → Result ObjectValue Cause
value_named text =
    if starts_with nat_eq text (codes "bits:") then bits_named (drop 5 text) else octets_value_named 1 14 text

abbrev pub service_named : List ℕ → Result SendService Cause
service_named text =
    if is_word (codes "read") text then Ok service.Read
    else if is_word (codes "write") text then Ok service.Write
    else if is_word (codes "response") text then Ok service.Response
    else Err cause.Service
