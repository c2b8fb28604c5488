-- Statement: what a node sends by itself, and the setting of a value.
use Rattle.std.specs.Prelude.{ℕ, ◌^◌, ◌==◌, if◌then◌else◌, List, slice_get, Bool, true, false, Option, Some, None, Result, Ok, Err}
use Rattle.knx_base.specs.declared.address.IndAddr.{IndAddr}
use Rattle.knx_base.specs.declared.address.GroupAddr.{GroupAddr}
use Rattle.key_tables.specs.declared.types.Channel.{Channel}
use Rattle.key_tables.specs.declared.types.Channel.TheVariants as channel
use Rattle.key_tables.specs.Rows.{key_of, level_of, channel_of}
use Rattle.judge_rules.specs.Checks.{is_conf}
use Rattle.secure_apdu.specs.declared.sealing.SendHead.{SendHead}
use Rattle.secure_apdu.specs.SealedFrame.{sealed_frame}
use Rattle.seq_store.specs.Runs.{draw_raises}
use Rattle.group_objects.specs.declared.row.ObjectRow.{ObjectRow}
use Rattle.group_objects.specs.declared.service.SendService.{SendService}
use Rattle.group_objects.specs.declared.objects.SetFault.{SetFault}
use Rattle.group_objects.specs.Value.{ObjectValue}
use Rattle.group_objects.specs.Apdus.{service_apdu}
use Rattle.group_objects.specs.Objects.{set_refusal}
use Rattle.sync_service.specs.Frames.{ask_frame}
use Rattle.sync_service.specs.declared.pending.OpenChallenge.{OpenChallenge}
use Rattle.node_core.specs.declared.fault.SendFault.{SendFault}
use Rattle.node_core.specs.declared.fault.SendFault.TheVariants as fault
use Rattle.node_core.specs.Standing.{ConfigState, Standing, drawn, with_value}
use Rattle.node_core.specs.Transition.{Transition, quiet}

-- ---- drawing a number

-- The next number is drawn, and the frame that is sealed under it is handed out.
abbrev pub sealing : (ℕ → List ℕ) → Standing → Transition (Result ℕ SendFault)
sealing frame s =
    record {
      outcome = Ok s.next;
      raises = draw_raises s.numbers.reserved s.next;
      frame = Some (frame s.next);
      after = drawn s;
    }

-- unless all numbers are drawn
abbrev pub drawing : (ℕ → List ℕ) → Standing → Transition (Result ℕ SendFault)
drawing frame s =
    if s.next == 2 ^ 48 then quiet s (Err fault.Exhausted) else sealing frame s

abbrev pub under_key : Option (List ℕ) → (List ℕ → ℕ → List ℕ) → Standing → Transition (Result ℕ SendFault)
under_key None frame s = quiet s (Err fault.NoKey)
under_key (Some key) frame s = drawing (frame key) s

-- a frame by key and number, under the key of a channel
abbrev pub on_channel : ConfigState → Standing → Option Channel → (List ℕ → ℕ → List ℕ)
    → Transition (Result ℕ SendFault)
on_channel c s None frame = quiet s (Err fault.NoKey)
on_channel c s (Some channel) frame = under_key (key_of c.rows channel) frame s

-- data to a group or to a device
abbrev pub data_head : IndAddr → ℕ → Bool → ℕ → ℕ → SendHead
data_head source destination group field number =
    record { source = source; destination = destination; group = group; number = number; shown = number; field = field }

-- ---- to a group

-- encrypted where the group asks for it
abbrev pub data_field : Bool → ℕ
data_field true = 0x10
data_field false = 0x00

abbrev pub group_field : ConfigState → GroupAddr → ℕ
group_field c group = data_field (is_conf (level_of c.rows (channel.Group group)))

abbrev pub group_transition : ConfigState → Standing → GroupAddr → List ℕ → Transition (Result ℕ SendFault)
group_transition c s group apdu =
    on_channel c s (Some (channel.Group group))
    (λ key number. sealed_frame key (data_head c.address group.0 true (group_field c group) number) apdu)

abbrev pub object_transition : ConfigState → Standing → Option ObjectRow → Option ObjectValue → SendService
    → Transition (Result ℕ SendFault)
object_transition c s (Some row) (Some value) service =
    if row.flags.transmits then group_transition c s row.group (service_apdu service value)
    else quiet s (Err fault.Flag)
object_transition c s _ _ service = quiet s (Err fault.NoObject)

-- a telegram of this service for an object
abbrev pub send_transition : ConfigState → Standing → ℕ → SendService → Transition (Result ℕ SendFault)
send_transition c s object service =
    object_transition c s (slice_get c.objects object) (slice_get s.values object) service

-- ---- to a device

-- the channel of a telegram to a device: that device's, or else the node's own
abbrev pub device_channel : ConfigState → IndAddr → Option Channel
device_channel c to = channel_of c.rows false true c.address to.0

-- with tool access, and encrypted
abbrev pub tool_field : ℕ
tool_field = 0x90

-- an APDU for a device
abbrev pub tool_transition : ConfigState → Standing → IndAddr → List ℕ → Transition (Result ℕ SendFault)
tool_transition c s to apdu =
    on_channel c s (device_channel c to)
    (λ key number. sealed_frame key (data_head c.address to.0 false tool_field number) apdu)

abbrev pub with_pending : Result ℕ SendFault → OpenChallenge → Standing → Standing
with_pending (Ok _) challenge s = record s { pending = Some challenge }
with_pending (Err _) challenge s = s

-- a request of a synchronisation; its challenge is the one that is open then
abbrev pub ask_transition : ConfigState → Standing → IndAddr → List ℕ → Transition (Result ℕ SendFault)
ask_transition c s to challenge =
    let asked = on_channel c s (device_channel c to) (λ key number. ask_frame key c.address to number challenge) in
    record asked { after = with_pending asked.outcome (record { peer = to; challenge = challenge }) asked.after }

-- ---- values

abbrev pub set_unless : Option SetFault → Standing → Standing → Transition (Option SetFault)
set_unless None s after = quiet after None
set_unless (Some fault) s after = quiet s (Some fault)

-- an object gets this value, unless that is refused
abbrev pub set_transition : Standing → ℕ → ObjectValue → Transition (Option SetFault)
set_transition s object value = set_unless (set_refusal (slice_get s.values object) value) s (with_value object value s)
