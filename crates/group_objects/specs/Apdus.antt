-- Statement: application PDUs that carry a value of a group object (ISO/IEC 14543-3-1, the services of group values).
use Rattle.std.specs.Prelude.{◌≡◌, ℕ, ◌+◌, List, [], slice_index, if◌then◌else◌, Bool, true, false, Ok}
use Rattle.plain_apdu.specs.declared.service.Service.{Service}
use Rattle.plain_apdu.specs.Service as services
use Rattle.plain_apdu.specs.Apdu.{Inner, inner_of, apdu_of, apci_of}
use Rattle.group_objects.specs.declared.service.SendService.{SendService}
use Rattle.group_objects.specs.declared.service.SendService.TheVariants as send
use Rattle.group_objects.specs.Value.{ObjectValue, bits_value, octets_value}

-- the service that the ten bits name
abbrev pub service_in : List ℕ → Service
service_in apdu = services.service_of (apci_of (slice_index apdu 0) (slice_index apdu 1))

-- ---- a value and the PDU that carries it

-- what a PDU says of a value of either kind: the six bits beside the service, or the octets after it
abbrev pub value_said : Bool → Inner → ObjectValue
value_said true said = bits_value said.low
value_said false said = octets_value said.content

-- The PDU is of this service and says this value, and nothing stands after six bits.
pub record Carries (service : Service) (value : ObjectValue) (apdu : List ℕ) : Type 0 where
  pub said : Inner
  pub reads : inner_of apdu ≡ Ok said
  pub service_is : said.service ≡ service
  pub value_is : value_said value.is_bits said ≡ value
  pub alone : value.is_bits ≡ true → said.content ≡ []

-- ---- what is sent

-- the value under the code of its service
abbrev pub carrying : ℕ → ObjectValue → List ℕ
carrying code value =
    if value.is_bits then apdu_of (code + slice_index value.octets 0) [] else apdu_of code value.octets

-- the PDU of a service for an object of this value; a read has none
abbrev pub service_apdu : SendService → ObjectValue → List ℕ
service_apdu send.Read value = apdu_of 0x000 []
service_apdu send.Write value = carrying 0x080 value
service_apdu send.Response value = carrying 0x040 value
