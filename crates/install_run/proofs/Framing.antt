-- What a node puts on the air is sealed under its address and its next number: by the cases of its transitions.
use Rattle.std.proofs.Common.{◌≡◌, ℕ, List, [], Bool, true, false, Option, Some, None, Result, Ok, Err, refl, sym, ◌∙◌}
use Rattle.std.specs.Prelude.{◌==◌, ◌^◌, length, slice_get, if◌then◌else◌}
use Rattle.std.proofs.lemmas.Bool.{false≢true}
use Rattle.knx_base.specs.declared.address.IndAddr.{IndAddr}
use Rattle.knx_base.specs.declared.address.GroupAddr.{GroupAddr}
use Rattle.cemi_frames.specs.Frames.{Telegram}
use Rattle.cemi_frames.specs.Faults.{frame_fault}
use Rattle.cemi_frames.specs.Reading.{frame_at}
use Rattle.cemi_frames.specs.declared.frame.NotFrame.{NotFrame}
use Rattle.plain_apdu.specs.declared.object.BadObject.{BadObject}
use Rattle.plain_apdu.specs.declared.service.Service.{Service}
use Rattle.key_tables.specs.declared.types.Channel.{Channel}
use Rattle.key_tables.specs.declared.types.Channel.TheVariants as channel
use Rattle.key_tables.specs.declared.types.Lane.{Lane}
use Rattle.key_tables.specs.Rows.{key_of}
use Rattle.judge_rules.specs.declared.verdict.Verdict.{Verdict}
use Rattle.judge_rules.specs.declared.verdict.Verdict.TheVariants as verdict
use Rattle.judge_rules.specs.Parts.{source_of}
use Rattle.judge_rules.specs.Checks.{lane_in, verdict_of, kept_by, opened_by}
use Rattle.nvm_model.specs.Plan.{Struck}
use Rattle.nvm_model.specs.declared.fault.NvmFault.{NvmFault}
use Rattle.nvm_model.specs.declared.fault.NvmFault.TheVariants as nvm
use Rattle.secure_apdu.specs.SealedFrame.{sealed_frame}
use Rattle.secure_apdu.specs.declared.sealing.SendHead.{SendHead}
use Rattle.group_objects.specs.declared.row.ObjectRow.{ObjectRow}
use Rattle.group_objects.specs.declared.row.Effect.{Effect}
use Rattle.group_objects.specs.declared.row.Effect.TheVariants as effect
use Rattle.group_objects.specs.declared.service.SendService.{SendService}
use Rattle.group_objects.specs.declared.service.SendService.TheVariants as service
use Rattle.group_objects.specs.declared.objects.SetFault.{SetFault}
use Rattle.group_objects.specs.declared.objects.SetFault.TheVariants as refused
use Rattle.group_objects.specs.Value.{ObjectValue}
use Rattle.group_objects.specs.Apdus.{service_apdu}
use Rattle.group_objects.specs.Effects.{accepted}
use Rattle.group_objects.specs.Objects.{set_refusal}
use Rattle.sync_service.specs.Frames.{ask_head, ask_frame, answer_head, answer_payload, answer_frame}
use Rattle.sync_service.specs.Open.{asked_of}
use Rattle.node_core.specs.declared.fault.SendFault.{SendFault}
use Rattle.node_core.specs.declared.fault.SendFault.TheVariants as fault
use Rattle.node_core.specs.declared.outcome.Act.TheVariants as act
use Rattle.node_core.specs.declared.outcome.Addressee.{Addressee}
use Rattle.node_core.specs.declared.outcome.Addressee.TheVariants.{Device, Object}
use Rattle.node_core.specs.declared.outcome.Outcome.{Outcome}
use Rattle.node_core.specs.declared.outcome.Outcome.TheVariants as received
use Rattle.node_core.specs.Node.{handed}
use Rattle.node_core.specs.Standing.{ConfigState, Standing, raised, with_value, place_in, mark_at}
use Rattle.node_core.specs.Transition.{Transition, quiet}
use Rattle.node_core.specs.Sending.{sealing, under_key, on_channel, data_head, group_field, tool_field, group_transition, object_transition, device_channel, send_transition, tool_transition, ask_transition, set_transition, set_unless}
use Rattle.node_core.specs.Receiving.{addressee, kept_raises, number_sent, reply_transition, effect_transition, row_transition, act_transition, mark_told, verdict_transition, telegram_transition, addressed_transition, frame_transition, receive_transition}
use Rattle.script_text.specs.declared.event.Event.{Event}
use Rattle.script_text.specs.declared.event.Event.TheVariants as event
use Rattle.step_text.specs.declared.outcome.StepOutcome.{StepOutcome}
use Rattle.install_run.specs.Turn.{NodeAt, Turn, struck_by, turn_by, call_turn, set_told, send_told, receive_told, receive_turn, off_turn, on_turn}
use Rattle.install_run.specs.Machine.{TelegramAt, has_telegram, telegram_in, heard}
use Rattle.install_run.specs.Sealed.{next_of}
use Rattle.install_run.proofs.Steps.{node_turn}

-- a frame from this address under this number, whatever number it shows
pub record IsFrameFrom (source : IndAddr) (number : ℕ) (octets : List ℕ) : Type 0 where
  pub key : List ℕ
  pub head : SendHead
  pub apdu : List ℕ
  pub source_is : head.source ≡ source
  pub number_is : head.number ≡ number
  pub octets_are : octets ≡ sealed_frame key head apdu

-- where it says that a telegram was sent, that is a frame from there under this number
abbrev pub SealsAs : StepOutcome → Option (List ℕ) → IndAddr → ℕ → Type 0
SealsAs said frame source number = has_telegram said ≡ true → IsFrameFrom source number (handed frame [])

silent : (said : StepOutcome) (frame : Option (List ℕ)) (source : IndAddr) (number : ℕ) → has_telegram said ≡ false
    → SealsAs said frame source number
silent said frame source number none is = elim (false≢true (sym none ∙ is)) [ ]

-- ---- sending

-- no failed call says that a telegram was sent
abbrev TellsNone : (Result ℕ SendFault → StepOutcome) → Type 0
TellsNone told = (f : SendFault) → has_telegram (told (Err f)) ≡ false

module _ (told : Result ℕ SendFault → StepOutcome) (none : TellsNone told) (c : ConfigState) (s : Standing) where
  abbrev Sends : Transition (Result ℕ SendFault) → Type 0
  Sends t = SealsAs (told t.outcome) t.frame c.address s.next

  fails : (f : SendFault) → Sends (quiet s (Err f))
  fails f = silent (told (Err f)) None c.address s.next (none f)

  drawing_seals : (none_left : Bool) (frame : ℕ → List ℕ) → IsFrameFrom c.address s.next (frame s.next)
      → Sends (if none_left then quiet s (Err fault.Exhausted) else sealing frame s)
  drawing_seals true frame is = fails fault.Exhausted
  drawing_seals false frame is = λ sends. is

  key_seals : (key : Option (List ℕ)) (frame : List ℕ → ℕ → List ℕ)
      → ((key : List ℕ) → IsFrameFrom c.address s.next (frame key s.next)) → Sends (under_key key frame s)
  key_seals None frame is = fails fault.NoKey
  key_seals (Some key) frame is = drawing_seals (s.next == 2 ^ 48) (frame key) (is key)

  channel_seals : (found : Option Channel) (frame : List ℕ → ℕ → List ℕ)
      → ((key : List ℕ) → IsFrameFrom c.address s.next (frame key s.next)) → Sends (on_channel c s found frame)
  channel_seals None frame is = fails fault.NoKey
  channel_seals (Some found) frame is = key_seals (key_of c.rows found) frame is

  data_seals : (found : Option Channel) (to : ℕ) (group : Bool) (field : ℕ) (apdu : List ℕ)
      → Sends (on_channel c s found
      (λ key number. sealed_frame key (data_head c.address to group field number) apdu))
  data_seals found to group field apdu =
      channel_seals found (λ key number. sealed_frame key (data_head c.address to group field number) apdu)
      (λ key. record {
        key = key;
        head = data_head c.address to group field s.next;
        apdu = apdu;
        source_is = refl;
        number_is = refl;
        octets_are = refl;
      })

  group_seals : (group : GroupAddr) (apdu : List ℕ) → Sends (group_transition c s group apdu)
  group_seals group apdu = data_seals (Some (channel.Group group)) group.0 true (group_field c group) apdu

  flag_seals : (transmits : Bool) (group : GroupAddr) (apdu : List ℕ)
      → Sends (if transmits then group_transition c s group apdu else quiet s (Err fault.Flag))
  flag_seals true group apdu = group_seals group apdu
  flag_seals false group apdu = fails fault.Flag

  object_seals : (row : Option ObjectRow) (value : Option ObjectValue) (service : SendService)
      → Sends (object_transition c s row value service)
  object_seals (Some row) (Some value) service =
      flag_seals row.flags.transmits row.group (service_apdu service value)
  object_seals (Some row) None service = fails fault.NoObject
  object_seals None value service = fails fault.NoObject

  ask_seals : (to : IndAddr) (challenge : List ℕ) → Sends (ask_transition c s to challenge)
  ask_seals to challenge =
      channel_seals (device_channel c to) (λ key number. ask_frame key c.address to number challenge)
      (λ key. record {
        key = key;
        head = ask_head c.address to s.next;
        apdu = challenge;
        source_is = refl;
        number_is = refl;
        octets_are = refl;
      })

  -- It shows the challenge XOR its number, and is sealed under its number.
  answer_seals : (to : IndAddr) (challenge : List ℕ) (kept : ℕ)
      → Sends (on_channel c s (device_channel c to)
      (λ key number. answer_frame key c.address to number challenge kept))
  answer_seals to challenge kept =
      channel_seals (device_channel c to) (λ key number. answer_frame key c.address to number challenge kept)
      (λ key. record {
        key = key;
        head = answer_head c.address to s.next challenge;
        apdu = answer_payload s.next kept;
        source_is = refl;
        number_is = refl;
        octets_are = refl;
      })

send_none : (count : ℕ) → TellsNone (send_told count)
send_none count fault.NoObject = refl
send_none count fault.Flag = refl
send_none count fault.NoKey = refl
send_none count fault.Exhausted = refl
send_none count (fault.Memory nvm.Cut) = refl
send_none count (fault.Memory nvm.Failed) = refl

set_seals : (refusal : Option SetFault) (c : ConfigState) (s after : Standing)
    → (let t = set_unless refusal s after in SealsAs (set_told t.outcome) t.frame c.address s.next)
set_seals None c s after = λ is. absurd cc
set_seals (Some refused.NoObject) c s after = λ is. absurd cc
set_seals (Some refused.Size) c s after = λ is. absurd cc

-- ---- receiving

module _ (count : ℕ) (c : ConfigState) where
  abbrev Takes : Standing → Transition Outcome → Type 0
  Takes s t = SealsAs (receive_told count t.outcome) t.frame c.address s.next

  reply_seals : (s : Standing) (number : ℕ) (lane : Lane) (object : ℕ) (group : GroupAddr)
      (value : Option ObjectValue) → Takes s (reply_transition c s number lane object group value)
  reply_seals s number lane object group (Some value) =
      group_seals (λ sent. receive_told count (received.Acted number lane (act.Read object (number_sent sent))))
      (λ f. refl) c s group (service_apdu service.Response value)
  reply_seals s number lane object group None = λ is. absurd cc

  effect_seals : (s : Standing) (number : ℕ) (lane : Lane) (object : ℕ) (row : ObjectRow)
      (does : Result Effect BadObject) → Takes s (effect_transition c s number lane object row does)
  effect_seals s number lane object row (Err bad) = λ is. absurd cc
  effect_seals s number lane object row (Ok effect.Read) =
      reply_seals s number lane object row.group (slice_get s.values object)
  effect_seals s number lane object row (Ok (effect.Write value)) = λ is. absurd cc
  effect_seals s number lane object row (Ok (effect.Response value)) = λ is. absurd cc

  row_seals : (s : Standing) (number : ℕ) (lane : Lane) (object : ℕ) (apdu : List ℕ) (row : Option ObjectRow)
      → Takes s (row_transition c s number lane object apdu row)
  row_seals s number lane object apdu (Some row) = effect_seals s number lane object row (accepted row apdu)
  row_seals s number lane object apdu None = λ is. absurd cc

  act_seals : (s : Standing) (to : Addressee) (lane : Lane) (number : ℕ) (service : Service) (apdu : List ℕ)
      → Takes s (act_transition c s to lane number service apdu)
  act_seals s Device lane number service apdu = λ is. absurd cc
  act_seals s (Object object) lane number service apdu =
      row_seals s number lane object apdu (slice_get c.objects object)

  verdict_seals : (s : Standing) (source : IndAddr) (to : Addressee) (lane : Lane) (apdu : List ℕ) (said : Verdict)
      → Takes s (verdict_transition c s source to lane apdu said)
  verdict_seals s source to lane apdu (verdict.Accepted number service) = act_seals s to lane number service apdu
  verdict_seals s source to lane apdu (verdict.SyncAsk number challenge) =
      answer_seals (λ sent. receive_told count (received.Answered challenge (number_sent sent))) (λ f. refl) c s source
      challenge (mark_told c s source lane)
  verdict_seals s source to lane apdu (verdict.SyncAnswer number kept) = λ is. absurd cc
  verdict_seals s source to lane apdu said = λ is. absurd cc

  telegram_seals : (s : Standing) (t : Telegram) (to : Addressee) (lane : Option Lane)
      → Takes s (telegram_transition c s t to lane)
  telegram_seals s t to None = λ is. absurd cc
  telegram_seals s t to (Some lane) =
      let mark = mark_at s.numbers.marks (place_in c lane) in
      let asked = asked_of s.pending (source_of t) in
      let raises = kept_raises (place_in c lane) (kept_by c.rows mark asked t) in
      verdict_seals (raised raises s) (source_of t) to lane (opened_by c.rows asked t) (verdict_of c.rows mark asked t)

  addressed_seals : (s : Standing) (t : Telegram) (to : Option Addressee) → Takes s (addressed_transition c s t to)
  addressed_seals s t None = λ is. absurd cc
  addressed_seals s t (Some to) = telegram_seals s t to (lane_in c.rows t)

  frame_seals : (s : Standing) (f : Option NotFrame) (t : Telegram) → Takes s (frame_transition c s f t)
  frame_seals s (Some f) t = λ is. absurd cc
  frame_seals s None t = addressed_seals s t (addressee c t)

  receive_seals : (s : Standing) (octets : List ℕ) → Takes s (receive_transition c s octets)
  receive_seals s octets = frame_seals s (frame_fault octets) (frame_at octets)

-- ---- turns

abbrev pub TurnSeals : NodeAt → Option Standing → Turn → Type 0
TurnSeals n standing turn = SealsAs turn.outcome turn.sent n.config.address (next_of standing)

called : {A : Type 0} (n : NodeAt) (s : Standing) (t : Transition A) (told : A → StepOutcome)
    (answer : Option NvmFault) (struck : Struck) → SealsAs (told t.outcome) t.frame n.config.address s.next
    → TurnSeals n (Some s) (turn_by answer struck t told n)
called n s t told None struck seals = seals
called n s t told (Some nvm.Cut) struck seals = λ is. absurd cc
called n s t told (Some nvm.Failed) struck seals = λ is. absurd cc

by_call : {A : Type 0} (n : NodeAt) (call : Standing → Transition A) (told : A → StepOutcome)
    (standing : Option Standing)
    → ((s : Standing) → SealsAs (told (call s).outcome) (call s).frame n.config.address s.next)
    → TurnSeals n standing (call_turn call told n standing)
by_call n call told None seals = λ is. absurd cc
by_call n call told (Some s) seals =
    called n s (call s) told (struck_by (call s) s n).answer (struck_by (call s) s n) (seals s)

delivered : (count : ℕ) (n : NodeAt) (octets : Option (List ℕ)) (standing : Option Standing)
    → TurnSeals n standing (receive_turn count octets n standing)
delivered count n octets None = λ is. absurd cc
delivered count n None (Some s) = λ is. absurd cc
delivered count n (Some octets) (Some s) =
    by_call n (λ s. receive_transition n.config s octets) (receive_told count) (Some s)
    (λ s. receive_seals count n.config s octets)

off_seals : (n : NodeAt) (standing : Option Standing) → TurnSeals n standing (off_turn n standing)
off_seals n None = λ is. absurd cc
off_seals n (Some s) = λ is. absurd cc

on_seals : (n : NodeAt) (standing : Option Standing) → TurnSeals n standing (on_turn n standing)
on_seals n None = λ is. absurd cc
on_seals n (Some s) = λ is. absurd cc

pub turn_seals : (e : Event) (air : List TelegramAt) (n : NodeAt) (standing : Option Standing)
    → TurnSeals n standing (node_turn e air n standing)
turn_seals (event.Set node object value) air n standing =
    by_call n (λ s. set_transition s object value) set_told standing
    (λ s. set_seals (set_refusal (slice_get s.values object) value) n.config s (with_value object value s))
turn_seals (event.Send node object service) air n standing =
    by_call n (λ s. send_transition n.config s object service) (send_told (length air)) standing
    (λ s. object_seals (send_told (length air)) (send_none (length air)) n.config s (slice_get n.config.objects object)
    (slice_get s.values object) service)
turn_seals (event.ToolSend node to apdu) air n standing =
    by_call n (λ s. tool_transition n.config s to apdu) (send_told (length air)) standing
    (λ s. data_seals (send_told (length air)) (send_none (length air)) n.config s (device_channel n.config to) to.0
    false tool_field apdu)
turn_seals (event.Ask node to challenge) air n standing =
    by_call n (λ s. ask_transition n.config s to challenge) (send_told (length air)) standing
    (λ s. ask_seals (send_told (length air)) (send_none (length air)) n.config s to challenge)
turn_seals (event.Deliver telegram node) air n standing =
    delivered (length air) n (heard (telegram_in air telegram)) standing
turn_seals (event.Lose telegram) air n standing = λ is. absurd cc
turn_seals (event.Inject octets) air n standing = λ is. absurd cc
turn_seals (event.Off node) air n standing = off_seals n standing
turn_seals (event.On node) air n standing = on_seals n standing
turn_seals (event.Cut node write torn) air n standing = λ is. absurd cc
turn_seals (event.Fault node write torn) air n standing = λ is. absurd cc
