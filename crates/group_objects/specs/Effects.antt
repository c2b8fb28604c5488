-- What an application PDU does to a group object. This is statement.
use Rattle.std.specs.Prelude.{◌≡◌, ℕ, ◌<◌, ◌≤◌, ◌⊎◌, List, length, slice_index, Bool, true, false, Result, Ok, Err, IfOk}
use Rattle.plain_apdu.specs.declared.object.BadObject.{BadObject}
use Rattle.plain_apdu.specs.declared.object.BadObject.TheVariants as bad
use Rattle.plain_apdu.specs.declared.service.Service.{Service}
use Rattle.plain_apdu.specs.declared.service.Service.TheVariants.{GroupValueRead, GroupValueResponse, GroupValueWrite}
use Rattle.group_objects.specs.declared.row.Flags.{Flags}
use Rattle.group_objects.specs.declared.row.ObjectRow.{ObjectRow}
use Rattle.group_objects.specs.declared.row.Effect.{Effect}
use Rattle.group_objects.specs.declared.row.Effect.TheVariants as effect
use Rattle.group_objects.specs.declared.service.SendService.{SendService}
use Rattle.group_objects.specs.declared.service.SendService.TheVariants as send
use Rattle.group_objects.specs.Value.{ObjectValue, same_form, sized_value}
use Rattle.group_objects.specs.Apdus.{Carries, service_in}

-- a read needs the flag reads, a write writes, and a response updates; no flag is for another service
abbrev pub is_allowed : Flags → Service → Bool
is_allowed flags GroupValueRead = flags.reads
is_allowed flags GroupValueWrite = flags.writes
is_allowed flags GroupValueResponse = flags.updates
is_allowed flags _ = false

abbrev pub with_value : (ObjectValue → Effect) → Result ObjectValue BadObject → Result Effect BadObject
with_value act (Ok value) = Ok (act value)
with_value act (Err fault) = Err fault

-- what a service that is allowed does
abbrev pub effect_of : Service → ObjectValue → List ℕ → Result Effect BadObject
effect_of GroupValueWrite form apdu = with_value effect.Write (sized_value form apdu)
effect_of GroupValueResponse form apdu = with_value effect.Response (sized_value form apdu)
effect_of _ form apdu = Ok effect.Read

abbrev pub if_allowed : Bool → Result Effect BadObject → Result Effect BadObject
if_allowed true answer = answer
if_allowed false answer = Err bad.Flag

-- the effect of a PDU on an object, or why it has none
abbrev pub accepted : ObjectRow → List ℕ → Result Effect BadObject
accepted row apdu =
    let service = service_in apdu in
    if_allowed (is_allowed row.flags service) (effect_of service row.value apdu)

-- ---- the promises

-- a value that is written has the form of the object's
abbrev pub KeepsForm : ObjectValue → Effect → Type 0
KeepsForm form effect.Read = Unit {0}
KeepsForm form (effect.Write value) = same_form value form ≡ true
KeepsForm form (effect.Response value) = same_form value form ≡ true

-- two octets or more, with zero upper bits, and one of the three services of group values
pub record IsGroupApdu (apdu : List ℕ) : Type 0 where
  pub two : 2 ≤ length apdu
  pub most : length apdu ≤ 242
  pub upper : slice_index apdu 0 < 4
  pub group : (service_in apdu ≡ GroupValueRead) ⊎ (service_in apdu ≡ GroupValueWrite)
      ⊎ (service_in apdu ≡ GroupValueResponse)

-- the PDU asks for this effect: a read is of the service, and a value that is written is the one that the PDU carries
abbrev pub AsksFor : List ℕ → Effect → Type 0
AsksFor apdu effect.Read = service_in apdu ≡ GroupValueRead
AsksFor apdu (effect.Write value) = Carries GroupValueWrite value apdu
AsksFor apdu (effect.Response value) = Carries GroupValueResponse value apdu

-- What is done is what the PDU asks for; and what it asks for is done where the flag allows its service and a value has
-- the object's form.
pub record IsExact (row : ObjectRow) (apdu : List ℕ) (answer : Result Effect BadObject) : Type 0 where
  pub is_asked : IfOk answer (λ act. AsksFor apdu act)
  pub is_done : (act : Effect) → AsksFor apdu act → KeepsForm row.value act
      → is_allowed row.flags (service_in apdu) ≡ true → answer ≡ Ok act

abbrev pub service_sent : SendService → Service
service_sent send.Read = GroupValueRead
service_sent send.Write = GroupValueWrite
service_sent send.Response = GroupValueResponse

-- what another device's object does with it
abbrev pub effect_sent : SendService → ObjectValue → Effect
effect_sent send.Read value = effect.Read
effect_sent send.Write value = effect.Write value
effect_sent send.Response value = effect.Response value

-- What is sent for a value asks for its effect, and each object of that form that allows the service has that effect
-- of it.
pub record ReadsBack (service : SendService) (value : ObjectValue) (apdu : List ℕ) : Type 0 where
  pub asks : AsksFor apdu (effect_sent service value)
  pub is_done : (row : ObjectRow) → same_form value row.value ≡ true
      → is_allowed row.flags (service_sent service) ≡ true → accepted row apdu ≡ Ok (effect_sent service value)
