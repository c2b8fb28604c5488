-- Statement: the checks of a telegram, each by itself, and the verdict as the reason of the first that fails.
use Rattle.std.specs.Prelude.{◌≡◌, ℕ, ◌==◌, ◌&&◌, not, List, [], ◌∷◌, ◌++◌, length, slice_index, nat_lt, if◌then◌else◌, Bool, true, false, Option, Some, None, IsSome, option_map, unwrap_or}
use Rattle.std.specs.Option.{is_some}
use Rattle.knx_base.specs.declared.address.IndAddr.{IndAddr}
use Rattle.cemi_frames.specs.Frames.{Telegram}
use Rattle.knx_ccm.specs.declared.opening.CodeDiffers.{CodeDiffers}
use Rattle.knx_ccm.specs.Sealing.{opened, said_apdu, said_code, computed_code}
use Rattle.plain_apdu.specs.declared.service.Service.{Service}
use Rattle.plain_apdu.specs.declared.service.Service.TheVariants.{GroupValueRead, GroupValueResponse, GroupValueWrite, MemoryRead, MemoryResponse, MemoryWrite, DeviceDescriptorRead, DeviceDescriptorResponse, Restart, RestartOther, PropertyValueRead, PropertyValueResponse, PropertyValueWrite}
use Rattle.plain_apdu.specs.Service as services
use Rattle.plain_apdu.specs.Tpci.{tpci_of}
use Rattle.secure_apdu.specs.Secure.{carries_data, has_secure_service, bad_secure, algorithm_of}
use Rattle.secure_apdu.specs.Sync.{sync_values}
use Rattle.key_tables.specs.declared.types.Channel.{Channel}
use Rattle.key_tables.specs.declared.types.Channel.TheVariants as channel
use Rattle.key_tables.specs.declared.types.Lane.{Lane}
use Rattle.key_tables.specs.declared.types.Level.{Level}
use Rattle.key_tables.specs.declared.types.Level.TheVariants.{Auth, Conf}
use Rattle.key_tables.specs.declared.types.Role.{Role}
use Rattle.key_tables.specs.declared.types.Role.TheVariants.{Observe, Command, Manage}
use Rattle.key_tables.specs.declared.types.Row.{Row}
use Rattle.key_tables.specs.Rows.{key_of, level_of, role_of, receiver_may, lane_of, is_enough}
use Rattle.judge_rules.specs.declared.verdict.Verdict.{Verdict}
use Rattle.judge_rules.specs.declared.verdict.Verdict.TheVariants as verdict
use Rattle.judge_rules.specs.declared.verdict.BadService.TheVariants as bad
use Rattle.judge_rules.specs.Parts.{is_group, source_of, field_in, sync_service, body_in, number_in, head_in, channel_in, bits_in, service_in}

-- ---- before the code is looked at

abbrev pub check_control : Telegram → Option Verdict
check_control t =
    if carries_data (tpci_of (slice_index t.content 0)) then None else Some (verdict.Control (slice_index t.content 0))

abbrev pub plain_service : List ℕ → Option Service
plain_service content = if nat_lt (length content) 2 then None else Some (service_in content)

abbrev pub check_plain : Telegram → Option Verdict
check_plain t = if has_secure_service t.content then None else Some (verdict.Plain (plain_service t.content))

abbrev pub check_secure : Telegram → Option Verdict
check_secure t = option_map verdict.BadSecure (bad_secure t.content (is_group t))

abbrev pub check_key : List Row → Telegram → Option Verdict
check_key rows t = if is_some (channel_in rows t) then None else Some verdict.NoKey

-- an answer of a synchronisation, and no challenge is open
abbrev pub check_pending : Option (List ℕ) → Telegram → Option Verdict
check_pending asked t = if sync_service t == 3 then (if is_some asked then None else Some verdict.NoPending) else None

-- ---- the code and what it covers, under a number

-- the APDU on the wire, under a key
abbrev pub apdu_in : List ℕ → ℕ → Telegram → List ℕ
apdu_in key number t = said_apdu key (head_in number t) (body_in t)

abbrev pub codes_in : List ℕ → ℕ → Telegram → CodeDiffers
codes_in key number t = record {
  said = said_code key (head_in number t) (body_in t);
  computed = computed_code key (head_in number t) (body_in t);
}

abbrev pub unless_opened : Option (List ℕ) → CodeDiffers → Option Verdict
unless_opened (Some apdu) codes = None
unless_opened None codes = Some (verdict.BadCode codes)

abbrev pub check_code : List ℕ → ℕ → Telegram → Option Verdict
check_code key number t = unless_opened (opened key (head_in number t) (body_in t)) (codes_in key number t)

-- the first number of an answer's payload is the one that it was sealed under
abbrev pub check_payload : ℕ → Telegram → List ℕ → Option Verdict
check_payload number t apdu =
    if sync_service t == 3
    then (if (sync_values apdu).0 == number then None else Some (verdict.BadPayload (sync_values apdu).0 number))
    else None

abbrev pub check_sender : List Row → Channel → Telegram → Option Verdict
check_sender rows c t =
    if is_some (role_of rows c (source_of t)) && receiver_may rows t.destination c then None else Some verdict.Sender

-- ---- of data alone

abbrev pub check_stale : ℕ → ℕ → Option Verdict
check_stale mark number = if nat_lt mark number then None else Some (verdict.Stale mark number)

abbrev pub is_conf : Option Level → Bool
is_conf (Some Conf) = true
is_conf (Some Auth) = false
is_conf None = false

abbrev pub check_level : List Row → Channel → ℕ → Option Verdict
check_level rows c field = if is_conf (level_of rows c) && algorithm_of field == 0 then Some verdict.Level else None

abbrev pub is_response : Service → Bool
is_response GroupValueResponse = true
is_response MemoryResponse = true
is_response DeviceDescriptorResponse = true
is_response PropertyValueResponse = true
is_response _ = false

abbrev pub is_group_write : Service → Bool
is_group_write GroupValueWrite = true
is_group_write _ = false

-- to write a group's value needs Command, to manage a device Manage
abbrev pub needed_role : Channel → Service → Role
needed_role (channel.Group _) service = if is_group_write service then Command else Observe
needed_role (channel.Tool _) service = if is_response service then Observe else Manage

abbrev pub unless_enough : Role → Option Role → Option Verdict
unless_enough needs None = None
unless_enough needs (Some has) = if is_enough has needs then None else Some (verdict.Role needs has)

abbrev pub check_role : List Row → Channel → IndAddr → Service → Option Verdict
check_role rows c source service = unless_enough (needed_role c service) (role_of rows c source)

abbrev pub is_group_service : Service → Bool
is_group_service GroupValueRead = true
is_group_service GroupValueResponse = true
is_group_service GroupValueWrite = true
is_group_service _ = false

abbrev pub is_tool_service : Service → Bool
is_tool_service MemoryRead = true
is_tool_service MemoryResponse = true
is_tool_service MemoryWrite = true
is_tool_service DeviceDescriptorRead = true
is_tool_service DeviceDescriptorResponse = true
is_tool_service Restart = true
is_tool_service RestartOther = true
is_tool_service PropertyValueRead = true
is_tool_service PropertyValueResponse = true
is_tool_service PropertyValueWrite = true
is_tool_service _ = false

abbrev pub is_service_on : Channel → Service → Bool
is_service_on (channel.Group _) service = is_group_service service
is_service_on (channel.Tool _) service = is_tool_service service

abbrev pub check_upper : ℕ → Option Verdict
check_upper octet = if nat_lt 3 octet then Some (verdict.Service (bad.UpperBits octet)) else None

abbrev pub check_service : Channel → ℕ → Option Verdict
check_service c bits =
    if is_service_on c (services.service_of bits) then None else Some (verdict.Service (bad.Code bits))

-- ---- the verdict

-- the first that fails
abbrev pub first_failing : List (Option Verdict) → Option Verdict
first_failing [] = None
first_failing (None ∷ checks) = first_failing checks
first_failing (Some failed ∷ checks) = Some failed

-- after these a frame has the parts of a secure one
abbrev pub secure_checks : Telegram → List (Option Verdict)
secure_checks t = check_control t ∷ check_plain t ∷ check_secure t ∷ []

-- after these it has a lane
abbrev pub lane_checks : List Row → Telegram → List (Option Verdict)
lane_checks rows t = secure_checks t ++ check_key rows t ∷ []

-- where a receiver keeps the number of a telegram; one that fails a check before it has a channel has no lane
unfoldable pub lane_in : List Row → Telegram → Option Lane
lane_in rows t = if is_some (first_failing (lane_checks rows t)) then None
    else option_map (λ c. lane_of c (source_of t)) (channel_in rows t)

abbrev pub entry_checks : List Row → Option (List ℕ) → Telegram → List (Option Verdict)
entry_checks rows asked t = lane_checks rows t ++ check_pending asked t ∷ []

-- of an APDU that was opened
abbrev pub opened_checks : List Row → ℕ → Channel → Telegram → List ℕ → List (Option Verdict)
opened_checks rows number c t apdu = check_payload number t apdu ∷ check_sender rows c t ∷ []

abbrev pub key_on : List Row → Channel → List ℕ
key_on rows c = unwrap_or (key_of rows c) []

-- after these a number may be kept
abbrev pub code_checks : List Row → ℕ → Channel → Telegram → List (Option Verdict)
code_checks rows number c t =
    check_code (key_on rows c) number t ∷ opened_checks rows number c t (apdu_in (key_on rows c) number t)

abbrev pub data_checks : List Row → ℕ → ℕ → Channel → Telegram → List ℕ → List (Option Verdict)
data_checks rows mark number c t apdu =
    check_stale mark number ∷ check_level rows c (field_in t) ∷ check_role rows c (source_of t) (service_in apdu)
    ∷ check_upper (slice_index apdu 0) ∷ check_service c (bits_in apdu) ∷ []

abbrev pub last_checks : List Row → ℕ → ℕ → Channel → Telegram → List ℕ → List (Option Verdict)
last_checks rows mark number c t apdu = if sync_service t == 0 then data_checks rows mark number c t apdu else []

-- where no check fails
abbrev pub good_verdict : ℕ → Telegram → List ℕ → Verdict
good_verdict number t apdu =
    if sync_service t == 0 then verdict.Accepted number (service_in apdu)
    else if sync_service t == 2 then verdict.SyncAsk number apdu
    else verdict.SyncAnswer number (sync_values apdu).1

abbrev pub verdict_or : Verdict → Option Verdict → Verdict
verdict_or good None = good
verdict_or good (Some failed) = failed

-- the verdict on a telegram of this channel, under this number
abbrev pub verdict_on : List Row → ℕ → ℕ → Channel → Telegram → Verdict
verdict_on rows mark number c t =
    verdict_or (good_verdict number t (apdu_in (key_on rows c) number t))
    (first_failing (code_checks rows number c t ++ last_checks rows mark number c t (apdu_in (key_on rows c) number t)))

abbrev pub on_channel : {A : Type 0} → A → Option Channel → (Channel → A) → A
on_channel other None P = other
on_channel other (Some c) P = P c

-- the verdict under the rows of an installation, the mark of the telegram's lane, and the challenge that is open or
-- none
unfoldable pub verdict_of : List Row → ℕ → Option (List ℕ) → Telegram → Verdict
verdict_of rows mark asked t =
    verdict_or (on_channel verdict.NoKey (channel_in rows t) (λ c. verdict_on rows mark (number_in asked t) c t))
    (first_failing (entry_checks rows asked t))

abbrev pub is_ask : Verdict → Bool
is_ask (verdict.SyncAsk _ _) = true
is_ask _ = false

-- one of the three where no check fails
abbrev pub is_good : Verdict → Bool
is_good (verdict.Accepted _ _) = true
is_good (verdict.SyncAsk _ _) = true
is_good (verdict.SyncAnswer _ _) = true
is_good _ = false

-- A telegram has a channel, with a key, whose sender may send there and whose receiver is on it; and a lane of that
-- channel.
pub record IsEntitled (rows : List Row) (t : Telegram) : Type 0 where
  pub channel : Channel
  pub channel_is : channel_in rows t ≡ Some channel
  pub keyed : IsSome (key_of rows channel)
  pub may_send : IsSome (role_of rows channel (source_of t))
  pub may_receive : receiver_may rows t.destination channel ≡ true
  pub lane_is : lane_in rows t ≡ Some (lane_of channel (source_of t))

-- ---- what is kept

abbrev pub Kept : Type 0
Kept = Option (Lane × ℕ)

-- of a telegram of this channel whose code is right and whose sender may send: data or an answer, above the mark
abbrev pub kept_of : ℕ → ℕ → Channel → Telegram → Kept
kept_of mark number c t =
    if sync_service t == 2 then None else if nat_lt mark number then Some (lane_of c (source_of t), number) else None

abbrev pub kept_on : List Row → ℕ → ℕ → Channel → Telegram → Kept
kept_on rows mark number c t =
    if is_some (first_failing (code_checks rows number c t)) then None else kept_of mark number c t

unfoldable pub kept_by : List Row → ℕ → Option (List ℕ) → Telegram → Kept
kept_by rows mark asked t =
    if is_some (first_failing (entry_checks rows asked t)) then None
    else on_channel None (channel_in rows t) (λ c. kept_on rows mark (number_in asked t) c t)

-- the APDU that a telegram opens to, and no octets where it doesn't
abbrev pub opened_on : List Row → ℕ → Channel → Telegram → List ℕ
opened_on rows number c t = unwrap_or (opened (key_on rows c) (head_in number t) (body_in t)) []

unfoldable pub opened_by : List Row → Option (List ℕ) → Telegram → List ℕ
opened_by rows asked t =
    if is_some (first_failing (entry_checks rows asked t)) then []
    else on_channel [] (channel_in rows t) (λ c. opened_on rows (number_in asked t) c t)

-- ---- alarms

-- the destination is a group with a key
abbrev pub is_keyed_group : List Row → Telegram → Bool
is_keyed_group rows t = is_group t && is_some (key_of rows (channel.Group (record { 0 = t.destination })))

-- A frame that the link layer repeats has the number of the mark, and is none.
abbrev pub is_alarm : List Row → Telegram → Verdict → Bool
is_alarm rows t (verdict.BadSecure _) = true
is_alarm rows t (verdict.BadCode _) = true
is_alarm rows t (verdict.BadPayload _ _) = true
is_alarm rows t verdict.Sender = true
is_alarm rows t verdict.Level = true
is_alarm rows t (verdict.Role _ _) = true
is_alarm rows t (verdict.Stale kept got) = not (t.repeated && got == kept)
is_alarm rows t (verdict.Plain _) = is_keyed_group rows t
is_alarm rows t _ = false
