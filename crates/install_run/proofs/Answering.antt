-- No transition of a node says that it stopped, and a synchronisation tells the number that is counted: by its cases.
use Rattle.std.proofs.Common.{◌≡◌, ℕ, List, length, Bool, true, false, Option, Some, None, Result, Ok, Err, refl}
use Rattle.std.specs.Prelude.{◌==◌, ◌^◌, slice_get, if◌then◌else◌}
use Rattle.knx_base.specs.declared.address.IndAddr.{IndAddr}
use Rattle.knx_base.specs.declared.address.GroupAddr.{GroupAddr}
use Rattle.cemi_frames.specs.Frames.{Telegram}
use Rattle.cemi_frames.specs.Faults.{frame_fault}
use Rattle.cemi_frames.specs.Reading.{frame_at}
use Rattle.cemi_frames.specs.declared.frame.NotFrame.{NotFrame}
use Rattle.plain_apdu.specs.declared.object.BadObject.{BadObject}
use Rattle.plain_apdu.specs.declared.service.Service.{Service}
use Rattle.key_tables.specs.declared.types.Channel.{Channel}
use Rattle.key_tables.specs.declared.types.Channel.TheVariants as channel
use Rattle.key_tables.specs.declared.types.Lane.{Lane}
use Rattle.key_tables.specs.Rows.{key_of}
use Rattle.judge_rules.specs.declared.verdict.Verdict.{Verdict}
use Rattle.judge_rules.specs.declared.verdict.Verdict.TheVariants as verdict
use Rattle.judge_rules.specs.Parts.{source_of}
use Rattle.judge_rules.specs.Checks.{lane_in, verdict_of, kept_by, opened_by}
use Rattle.secure_apdu.specs.SealedFrame.{sealed_frame}
use Rattle.group_objects.specs.declared.row.ObjectRow.{ObjectRow}
use Rattle.group_objects.specs.declared.row.Effect.{Effect}
use Rattle.group_objects.specs.declared.row.Effect.TheVariants as effect
use Rattle.group_objects.specs.declared.service.SendService.{SendService}
use Rattle.group_objects.specs.declared.objects.SetFault.{SetFault}
use Rattle.group_objects.specs.declared.objects.SetFault.TheVariants as refused
use Rattle.group_objects.specs.Value.{ObjectValue}
use Rattle.group_objects.specs.Apdus.{service_apdu}
use Rattle.group_objects.specs.Effects.{accepted}
use Rattle.sync_service.specs.Frames.{ask_frame}
use Rattle.sync_service.specs.Open.{asked_of}
use Rattle.node_core.specs.declared.fault.SendFault.{SendFault}
use Rattle.node_core.specs.declared.fault.SendFault.TheVariants as fault
use Rattle.node_core.specs.declared.outcome.Addressee.{Addressee}
use Rattle.node_core.specs.declared.outcome.Addressee.TheVariants.{Device, Object}
use Rattle.node_core.specs.declared.outcome.Outcome.{Outcome}
use Rattle.node_core.specs.Standing.{ConfigState, Standing, raised, with_value, place_in, mark_at}
use Rattle.node_core.specs.Transition.{Transition, quiet}
use Rattle.node_core.specs.Sending.{sealing, under_key, on_channel, data_head, group_field, tool_field, group_transition, object_transition, device_channel, send_transition, tool_transition, ask_transition, set_unless}
use Rattle.node_core.specs.Receiving.{addressee, kept_raises, reply_transition, effect_transition, row_transition, act_transition, verdict_transition, telegram_transition, addressed_transition, frame_transition, receive_transition}
use Rattle.step_text.specs.declared.outcome.StepOutcome.{StepOutcome}
use Rattle.step_text.specs.declared.outcome.StepOutcome.TheVariants as outcome
use Rattle.script_text.specs.declared.event.Event.{Event}
use Rattle.script_text.specs.declared.event.Event.TheVariants as event
use Rattle.group_objects.specs.Objects.{set_refusal}
use Rattle.install_run.specs.Calls.{deliver_call, call_of}
use Rattle.install_run.specs.Following.{next_counted}
use Rattle.install_run.specs.Histories.{next_after}
use Rattle.install_run.specs.Machine.{TelegramAt, telegram_in, heard}
use Rattle.install_run.specs.Legal.{ToldNode, call_tells}
use Rattle.install_run.specs.Synchronising.{is_stop}
use Rattle.install_run.specs.Turn.{set_told, send_told, receive_told}

pub goes_on : (said : StepOutcome) (call : Transition StepOutcome) (s : Standing) (t : ToldNode) → is_stop said ≡ false
    → call_tells said call s t ≡ record t { standing = Some call.after }
goes_on outcome.Cut call s t goes = absurd cc
goes_on outcome.Fault call s t goes = absurd cc
goes_on outcome.Down call s t goes = absurd cc
goes_on said call s t goes = refl

-- It says no stop, and where it tells a next number that is the one that is counted.
abbrev GoesOn : StepOutcome → Standing → Type 0
GoesOn said s = (is_stop said ≡ false) × (next_counted s.next said ≡ next_after s.next said)

abbrev pub is_off : Event → Bool
is_off (event.Off node) = true
is_off e = false

-- ---- sending

abbrev SendsOn : ℕ → Standing → Transition (Result ℕ SendFault) → Type 0
SendsOn count s t = GoesOn (send_told count t.outcome) s

drawing_on : (none_left : Bool) (count : ℕ) (frame : ℕ → List ℕ) (s : Standing)
    → SendsOn count s (if none_left then quiet s (Err fault.Exhausted) else sealing frame s)
drawing_on true count frame s = (refl, refl)
drawing_on false count frame s = (refl, refl)

key_on : (count : ℕ) (key : Option (List ℕ)) (frame : List ℕ → ℕ → List ℕ) (s : Standing)
    → SendsOn count s (under_key key frame s)
key_on count None frame s = (refl, refl)
key_on count (Some key) frame s = drawing_on (s.next == 2 ^ 48) count (frame key) s

channel_on : (count : ℕ) (c : ConfigState) (s : Standing) (found : Option Channel) (frame : List ℕ → ℕ → List ℕ)
    → SendsOn count s (on_channel c s found frame)
channel_on count c s None frame = (refl, refl)
channel_on count c s (Some found) frame = key_on count (key_of c.rows found) frame s

flag_on : (transmits : Bool) (count : ℕ) (c : ConfigState) (s : Standing) (group : GroupAddr) (apdu : List ℕ)
    → SendsOn count s (if transmits then group_transition c s group apdu else quiet s (Err fault.Flag))
flag_on true count c s group apdu =
    channel_on count c s (Some (channel.Group group))
    (λ key number. sealed_frame key (data_head c.address group.0 true (group_field c group) number) apdu)
flag_on false count c s group apdu = (refl, refl)

object_on : (count : ℕ) (c : ConfigState) (s : Standing) (row : Option ObjectRow) (value : Option ObjectValue)
    (service : SendService) → SendsOn count s (object_transition c s row value service)
object_on count c s (Some row) (Some value) service =
    flag_on row.flags.transmits count c s row.group (service_apdu service value)
object_on count c s (Some row) None service = (refl, refl)
object_on count c s None value service = (refl, refl)

pub send_on : (count : ℕ) (c : ConfigState) (s : Standing) (object : ℕ) (service : SendService)
    → SendsOn count s (send_transition c s object service)
send_on count c s object service =
    object_on count c s (slice_get c.objects object) (slice_get s.values object) service

pub tool_on : (count : ℕ) (c : ConfigState) (s : Standing) (to : IndAddr) (apdu : List ℕ)
    → SendsOn count s (tool_transition c s to apdu)
tool_on count c s to apdu =
    channel_on count c s (device_channel c to)
    (λ key number. sealed_frame key (data_head c.address to.0 false tool_field number) apdu)

pub ask_on : (count : ℕ) (c : ConfigState) (s : Standing) (to : IndAddr) (challenge : List ℕ)
    → SendsOn count s (ask_transition c s to challenge)
ask_on count c s to challenge =
    channel_on count c s (device_channel c to) (λ key number. ask_frame key c.address to number challenge)

pub set_on : (refusal : Option SetFault) (s after : Standing)
    → GoesOn (set_told (set_unless refusal s after).outcome) s
set_on None s after = (refl, refl)
set_on (Some refused.NoObject) s after = (refl, refl)
set_on (Some refused.Size) s after = (refl, refl)

-- ---- receiving

module _ (count : ℕ) where
  abbrev TakesOn : Standing → Transition Outcome → Type 0
  TakesOn s t = GoesOn (receive_told count t.outcome) s

  reply_on : (c : ConfigState) (s : Standing) (number : ℕ) (lane : Lane) (object : ℕ) (group : GroupAddr)
      (value : Option ObjectValue) → TakesOn s (reply_transition c s number lane object group value)
  reply_on c s number lane object group (Some value) = (refl, refl)
  reply_on c s number lane object group None = (refl, refl)

  effect_on : (c : ConfigState) (s : Standing) (number : ℕ) (lane : Lane) (object : ℕ) (row : ObjectRow)
      (does : Result Effect BadObject) → TakesOn s (effect_transition c s number lane object row does)
  effect_on c s number lane object row (Err bad) = (refl, refl)
  effect_on c s number lane object row (Ok effect.Read) =
      reply_on c s number lane object row.group (slice_get s.values object)
  effect_on c s number lane object row (Ok (effect.Write value)) = (refl, refl)
  effect_on c s number lane object row (Ok (effect.Response value)) = (refl, refl)

  row_on : (c : ConfigState) (s : Standing) (number : ℕ) (lane : Lane) (object : ℕ) (apdu : List ℕ)
      (row : Option ObjectRow) → TakesOn s (row_transition c s number lane object apdu row)
  row_on c s number lane object apdu (Some row) = effect_on c s number lane object row (accepted row apdu)
  row_on c s number lane object apdu None = (refl, refl)

  act_on : (c : ConfigState) (s : Standing) (to : Addressee) (lane : Lane) (number : ℕ) (service : Service)
      (apdu : List ℕ) → TakesOn s (act_transition c s to lane number service apdu)
  act_on c s Device lane number service apdu = (refl, refl)
  act_on c s (Object object) lane number service apdu =
      row_on c s number lane object apdu (slice_get c.objects object)

  verdict_on : (c : ConfigState) (s : Standing) (source : IndAddr) (to : Addressee) (lane : Lane) (apdu : List ℕ)
      (said : Verdict) → TakesOn s (verdict_transition c s source to lane apdu said)
  verdict_on c s source to lane apdu (verdict.Accepted number service) = act_on c s to lane number service apdu
  verdict_on c s source to lane apdu (verdict.SyncAsk number challenge) = (refl, refl)
  verdict_on c s source to lane apdu (verdict.SyncAnswer number kept) = (refl, refl)
  verdict_on c s source to lane apdu said = (refl, refl)

  telegram_on : (c : ConfigState) (s : Standing) (t : Telegram) (to : Addressee) (lane : Option Lane)
      → TakesOn s (telegram_transition c s t to lane)
  telegram_on c s t to None = (refl, refl)
  telegram_on c s t to (Some lane) =
      let mark = mark_at s.numbers.marks (place_in c lane) in
      let asked = asked_of s.pending (source_of t) in
      let raises = kept_raises (place_in c lane) (kept_by c.rows mark asked t) in
      verdict_on c (raised raises s) (source_of t) to lane (opened_by c.rows asked t) (verdict_of c.rows mark asked t)

  addressed_on : (c : ConfigState) (s : Standing) (t : Telegram) (to : Option Addressee)
      → TakesOn s (addressed_transition c s t to)
  addressed_on c s t None = (refl, refl)
  addressed_on c s t (Some to) = telegram_on c s t to (lane_in c.rows t)

  frame_on : (c : ConfigState) (s : Standing) (f : Option NotFrame) (t : Telegram)
      → TakesOn s (frame_transition c s f t)
  frame_on c s (Some f) t = (refl, refl)
  frame_on c s None t = addressed_on c s t (addressee c t)

  pub receive_on : (c : ConfigState) (s : Standing) (octets : List ℕ) → TakesOn s (receive_transition c s octets)
  receive_on c s octets = frame_on c s (frame_fault octets) (frame_at octets)

-- ---- each event

deliver_on : (count : ℕ) (c : ConfigState) (s : Standing) (octets : Option (List ℕ))
    → GoesOn (deliver_call count c s octets).outcome s
deliver_on count c s None = (refl, refl)
deliver_on count c s (Some octets) = receive_on count c s octets

pub call_on : (e : Event) (air : List TelegramAt) (c : ConfigState) (s : Standing)
    → (is_off e ≡ false → is_stop (call_of e air c s).outcome ≡ false)
    × (next_counted s.next (call_of e air c s).outcome ≡ next_after s.next (call_of e air c s).outcome)
call_on (event.Set node object value) air c s =
    let on = set_on (set_refusal (slice_get s.values object) value) s (with_value object value s) in
    (λ is. on.0, on.1)
call_on (event.Send node object service) air c s =
    let on = send_on (length air) c s object service in (λ is. on.0, on.1)
call_on (event.ToolSend node to apdu) air c s = let on = tool_on (length air) c s to apdu in (λ is. on.0, on.1)
call_on (event.Ask node to challenge) air c s =
    let on = ask_on (length air) c s to challenge in (λ is. on.0, on.1)
call_on (event.Deliver telegram node) air c s =
    let on = deliver_on (length air) c s (heard (telegram_in air telegram)) in (λ is. on.0, on.1)
call_on (event.Lose telegram) air c s = (λ is. refl, refl)
call_on (event.Inject octets) air c s = (λ is. refl, refl)
call_on (event.Off node) air c s = (λ is. absurd cc, refl)
call_on (event.On node) air c s = (λ is. refl, refl)
call_on (event.Cut node write torn) air c s = (λ is. refl, refl)
call_on (event.Fault node write torn) air c s = (λ is. refl, refl)
