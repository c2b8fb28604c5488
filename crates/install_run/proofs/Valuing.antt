-- The values of a node change exactly by its journal: by the cases of a transition.
use Rattle.std.proofs.Common.{◌≡◌, inl, inr, ℕ, ◌+◌, ◌<◌, List, [], ◌∷◌, length, Bool, true, false, Option, Some, None, Result, Ok, Err, refl, sym, ap, ◌∙◌, subst, arith}
use Rattle.std.specs.Prelude.{◌^◌, ◌==◌, slice_get, if◌then◌else◌}
use Rattle.std.proofs.lemmas.Option.{none-some}
use Rattle.knx_base.specs.declared.address.IndAddr.{IndAddr}
use Rattle.knx_base.specs.declared.address.GroupAddr.{GroupAddr}
use Rattle.cemi_frames.specs.Frames.{Telegram}
use Rattle.cemi_frames.specs.Faults.{frame_fault}
use Rattle.cemi_frames.specs.Reading.{frame_at}
use Rattle.cemi_frames.specs.declared.frame.NotFrame.{NotFrame}
use Rattle.plain_apdu.specs.declared.object.BadObject.{BadObject}
use Rattle.plain_apdu.specs.declared.service.Service.{Service}
use Rattle.key_tables.specs.declared.types.Channel.{Channel}
use Rattle.key_tables.specs.declared.types.Channel.TheVariants as channel
use Rattle.key_tables.specs.declared.types.Lane.{Lane}
use Rattle.key_tables.specs.declared.types.Row.{Row}
use Rattle.key_tables.specs.Rows.{key_of}
use Rattle.judge_rules.specs.declared.verdict.Verdict.{Verdict}
use Rattle.judge_rules.specs.declared.verdict.Verdict.TheVariants as verdict
use Rattle.judge_rules.specs.Parts.{source_of}
use Rattle.judge_rules.specs.Checks.{lane_in, verdict_of, kept_by, opened_by}
use Rattle.nvm_model.specs.declared.fault.NvmFault.TheVariants as nvm
use Rattle.secure_apdu.specs.SealedFrame.{sealed_frame}
use Rattle.seq_store.specs.Runs.{numbers_in}
use Rattle.group_objects.specs.declared.row.ObjectRow.{ObjectRow}
use Rattle.group_objects.specs.declared.row.Effect.{Effect}
use Rattle.group_objects.specs.declared.row.Effect.TheVariants as effect
use Rattle.group_objects.specs.declared.service.SendService.{SendService}
use Rattle.group_objects.specs.declared.service.SendService.TheVariants as service
use Rattle.group_objects.specs.declared.objects.SetFault.{SetFault}
use Rattle.group_objects.specs.declared.objects.SetFault.TheVariants as refused
use Rattle.group_objects.specs.Value.{ObjectValue}
use Rattle.group_objects.specs.Apdus.{service_apdu}
use Rattle.group_objects.specs.Effects.{accepted}
use Rattle.group_objects.specs.Objects.{set_refusal, first_values}
use Rattle.sync_service.specs.Frames.{ask_frame, answer_frame}
use Rattle.sync_service.specs.Open.{asked_of}
use Rattle.sync_service.specs.declared.pending.OpenChallenge.{OpenChallenge}
use Rattle.node_core.specs.declared.fault.SendFault.{SendFault}
use Rattle.node_core.specs.declared.fault.SendFault.TheVariants as fault
use Rattle.node_core.specs.declared.outcome.Addressee.{Addressee}
use Rattle.node_core.specs.declared.outcome.Addressee.TheVariants.{Device, Object}
use Rattle.node_core.specs.declared.outcome.Outcome.{Outcome}
use Rattle.node_core.specs.Config.{configured}
use Rattle.node_core.specs.Standing.{ConfigState, Standing, raised, with_value, place_in, mark_at, started}
use Rattle.node_core.specs.Transition.{Transition, quiet}
use Rattle.node_core.specs.Sending.{sealing, under_key, on_channel, data_head, group_field, tool_field, group_transition, object_transition, device_channel, send_transition, tool_transition, with_pending, ask_transition, set_unless}
use Rattle.node_core.specs.Receiving.{addressee, kept_raises, reply_transition, effect_transition, row_transition, act_transition, mark_told, verdict_transition, lane_transition, telegram_transition, addressed_transition, frame_transition}
use Rattle.script_text.specs.declared.event.Event.{Event}
use Rattle.script_text.specs.declared.event.Event.TheVariants as event
use Rattle.script_text.specs.declared.node_row.NodeRow.{NodeRow}
use Rattle.step_text.specs.declared.outcome.Step.{Step}
use Rattle.step_text.specs.declared.outcome.StepOutcome.{StepOutcome}
use Rattle.step_text.specs.declared.outcome.StepOutcome.TheVariants as outcome
use Rattle.install_run.specs.Turn.{NodeAt, set_told, send_told, receive_told}
use Rattle.install_run.specs.Machine.{TelegramAt, WorldAt, telegram_in, heard, node_in}
use Rattle.install_run.specs.Runs.{place_of, is_at, entries_of, after, step_of, world_after, history_of}
use Rattle.install_run.specs.Calls.{deliver_call, call_of}
use Rattle.install_run.specs.First.{first_numbers, first_node, first_world}
use Rattle.install_run.specs.Origin.{events_of, IsRunOf}
use Rattle.install_run.specs.Values.{with_entries, values_after, values_by, ObjectsByJournal}
use Rattle.install_run.proofs.Sounding.{some_same}
use Rattle.install_run.proofs.Steps.{StepsTo, IsSteppedAt, stepped_at, stays_at, same_size, is_its_place}
use Rattle.install_run.proofs.Rising.{IsFirstAt, first_at}

-- ---- sending changes no value

drawing_values : (none_left : Bool) (frame : ℕ → List ℕ) (s : Standing)
    → (let t : Transition (Result ℕ SendFault) = if none_left then quiet s (Err fault.Exhausted) else sealing frame s in
    t.after.values ≡ s.values)
drawing_values true frame s = refl
drawing_values false frame s = refl

key_values : (key : Option (List ℕ)) (frame : List ℕ → ℕ → List ℕ) (s : Standing)
    → (under_key key frame s).after.values ≡ s.values
key_values None frame s = refl
key_values (Some key) frame s = drawing_values (s.next == 2 ^ 48) (frame key) s

channel_values : (c : ConfigState) (s : Standing) (found : Option Channel) (frame : List ℕ → ℕ → List ℕ)
    → (on_channel c s found frame).after.values ≡ s.values
channel_values c s None frame = refl
channel_values c s (Some found) frame = key_values (key_of c.rows found) frame s

group_values : (c : ConfigState) (s : Standing) (group : GroupAddr) (apdu : List ℕ)
    → (group_transition c s group apdu).after.values ≡ s.values
group_values c s group apdu =
    channel_values c s (Some (channel.Group group))
    (λ key number. sealed_frame key (data_head c.address group.0 true (group_field c group) number) apdu)

flag_values : (transmits : Bool) (c : ConfigState) (s : Standing) (group : GroupAddr) (apdu : List ℕ)
    → (let t : Transition (Result ℕ SendFault) =
    if transmits then group_transition c s group apdu else quiet s (Err fault.Flag) in t.after.values ≡ s.values)
flag_values true c s group apdu = group_values c s group apdu
flag_values false c s group apdu = refl

object_values : (c : ConfigState) (s : Standing) (row : Option ObjectRow) (value : Option ObjectValue)
    (service : SendService) → (object_transition c s row value service).after.values ≡ s.values
object_values c s (Some row) (Some value) service =
    flag_values row.flags.transmits c s row.group (service_apdu service value)
object_values c s (Some row) None service = refl
object_values c s None value service = refl

pending_values : (sent : Result ℕ SendFault) (challenge : OpenChallenge) (s : Standing)
    → (with_pending sent challenge s).values ≡ s.values
pending_values (Ok _) challenge s = refl
pending_values (Err _) challenge s = refl

ask_values : (c : ConfigState) (s : Standing) (to : IndAddr) (challenge : List ℕ)
    → (ask_transition c s to challenge).after.values ≡ s.values
ask_values c s to challenge =
    let frame : List ℕ → ℕ → List ℕ = λ key number. ask_frame key c.address to number challenge in
    let asked = on_channel c s (device_channel c to) frame in
    pending_values asked.outcome (record { peer = to; challenge = challenge }) asked.after
    ∙ channel_values c s (device_channel c to) frame

-- an event that adds no entry, told as a sending is
sent_values : (first : List ObjectValue) (e : Event) (count : ℕ) (sent : Result ℕ SendFault) (values : List ObjectValue)
    → ((said : StepOutcome) → entries_of e said ≡ []) → values_after first e (send_told count sent) values ≡ values
sent_values first e count (Ok number) values none =
    ap (λ es. with_entries es values) (none (outcome.Air (count + 1) (Some number)))
sent_values first e count (Err fault.NoObject) values none =
    ap (λ es. with_entries es values) (none outcome.NoObject)
sent_values first e count (Err fault.Flag) values none = ap (λ es. with_entries es values) (none outcome.Flag)
sent_values first e count (Err fault.NoKey) values none = ap (λ es. with_entries es values) (none outcome.NoKey)
sent_values first e count (Err fault.Exhausted) values none =
    ap (λ es. with_entries es values) (none outcome.Exhausted)
sent_values first e count (Err (fault.Memory nvm.Cut)) values none =
    ap (λ es. with_entries es values) (none outcome.Cut)
sent_values first e count (Err (fault.Memory nvm.Failed)) values none =
    ap (λ es. with_entries es values) (none outcome.Fault)

-- ---- what a call makes of the values

abbrev Changes : List ObjectValue → Event → StepOutcome → Standing → Standing → Type 0
Changes first e said new s = new.values ≡ values_after first e said s.values

set_changes : (first : List ObjectValue) (node object : ℕ) (value : ObjectValue) (refusal : Option SetFault)
    (s : Standing)
    → (let t = set_unless refusal s (with_value object value s) in
    Changes first (event.Set node object value) (set_told t.outcome) t.after s)
set_changes first node object value None s = refl
set_changes first node object value (Some refused.NoObject) s = refl
set_changes first node object value (Some refused.Size) s = refl

module _ (first : List ObjectValue) (telegram node count : ℕ) where
  abbrev ByIts : Transition Outcome → Standing → Type 0
  ByIts t s = Changes first (event.Deliver telegram node) (receive_told count t.outcome) t.after s

  reply_changes : (c : ConfigState) (s : Standing) (number : ℕ) (lane : Lane) (object : ℕ) (group : GroupAddr)
      (value : Option ObjectValue) → ByIts (reply_transition c s number lane object group value) s
  reply_changes c s number lane object group (Some value) =
      group_values c s group (service_apdu service.Response value)
  reply_changes c s number lane object group None = refl

  effect_changes : (c : ConfigState) (s : Standing) (number : ℕ) (lane : Lane) (object : ℕ) (row : ObjectRow)
      (does : Result Effect BadObject) → ByIts (effect_transition c s number lane object row does) s
  effect_changes c s number lane object row (Err bad) = refl
  effect_changes c s number lane object row (Ok effect.Read) =
      reply_changes c s number lane object row.group (slice_get s.values object)
  effect_changes c s number lane object row (Ok (effect.Write value)) = refl
  effect_changes c s number lane object row (Ok (effect.Response value)) = refl

  row_changes : (c : ConfigState) (s : Standing) (number : ℕ) (lane : Lane) (object : ℕ) (apdu : List ℕ)
      (row : Option ObjectRow) → ByIts (row_transition c s number lane object apdu row) s
  row_changes c s number lane object apdu (Some row) = effect_changes c s number lane object row (accepted row apdu)
  row_changes c s number lane object apdu None = refl

  act_changes : (c : ConfigState) (s : Standing) (to : Addressee) (lane : Lane) (number : ℕ) (service : Service)
      (apdu : List ℕ) → ByIts (act_transition c s to lane number service apdu) s
  act_changes c s Device lane number service apdu = refl
  act_changes c s (Object object) lane number service apdu =
      row_changes c s number lane object apdu (slice_get c.objects object)

  verdict_changes : (c : ConfigState) (s : Standing) (source : IndAddr) (to : Addressee) (lane : Lane) (apdu : List ℕ)
      (said : Verdict) → ByIts (verdict_transition c s source to lane apdu said) s
  verdict_changes c s source to lane apdu (verdict.Accepted number service) =
      act_changes c s to lane number service apdu
  verdict_changes c s source to lane apdu (verdict.SyncAsk number challenge) =
      channel_values c s (device_channel c source)
      (λ key number. answer_frame key c.address source number challenge (mark_told c s source lane))
  verdict_changes c s source to lane apdu (verdict.SyncAnswer number kept) = refl
  verdict_changes c s source to lane apdu said = refl

  lane_changes : (c : ConfigState) (s : Standing) (to : Addressee) (t : Telegram) (lane : Lane)
      → ByIts (lane_transition c s to t lane) s
  lane_changes c s to t lane =
      let mark = mark_at s.numbers.marks (place_in c lane) in
      let asked = asked_of s.pending (source_of t) in
      let raises = kept_raises (place_in c lane) (kept_by c.rows mark asked t) in
      verdict_changes c (raised raises s) (source_of t) to lane (opened_by c.rows asked t)
      (verdict_of c.rows mark asked t)

  telegram_changes : (c : ConfigState) (s : Standing) (t : Telegram) (to : Addressee) (lane : Option Lane)
      → ByIts (telegram_transition c s t to lane) s
  telegram_changes c s t to None = refl
  telegram_changes c s t to (Some lane) = lane_changes c s to t lane

  addressed_changes : (c : ConfigState) (s : Standing) (t : Telegram) (to : Option Addressee)
      → ByIts (addressed_transition c s t to) s
  addressed_changes c s t None = refl
  addressed_changes c s t (Some to) = telegram_changes c s t to (lane_in c.rows t)

  frame_changes : (c : ConfigState) (s : Standing) (f : Option NotFrame) (t : Telegram)
      → ByIts (frame_transition c s f t) s
  frame_changes c s (Some f) t = refl
  frame_changes c s None t = addressed_changes c s t (addressee c t)

  deliver_changes : (c : ConfigState) (s : Standing) (octets : Option (List ℕ))
      → (let t = deliver_call count c s octets in Changes first (event.Deliver telegram node) t.outcome t.after s)
  deliver_changes c s None = refl
  deliver_changes c s (Some octets) = frame_changes c s (frame_fault octets) (frame_at octets)

call_changes : (first : List ObjectValue) (e : Event) (air : List TelegramAt) (c : ConfigState) (s : Standing)
    → (let t = call_of e air c s in Changes first e t.outcome t.after s)
call_changes first (event.Set node object value) air c s =
    set_changes first node object value (set_refusal (slice_get s.values object) value) s
call_changes first (event.Send node object service) air c s =
    object_values c s (slice_get c.objects object) (slice_get s.values object) service
    ∙ sym (sent_values first (event.Send node object service) (length air) (send_transition c s object service).outcome
    s.values (λ said. refl))
call_changes first (event.ToolSend node to apdu) air c s =
    channel_values c s (device_channel c to)
    (λ key number. sealed_frame key (data_head c.address to.0 false tool_field number) apdu)
    ∙ sym (sent_values first (event.ToolSend node to apdu) (length air) (tool_transition c s to apdu).outcome s.values
    (λ said. refl))
call_changes first (event.Ask node to challenge) air c s =
    ask_values c s to challenge
    ∙ sym (sent_values first (event.Ask node to challenge) (length air) (ask_transition c s to challenge).outcome
    s.values (λ said. refl))
call_changes first (event.Deliver telegram node) air c s =
    deliver_changes first telegram node (length air) c s (heard (telegram_in air telegram))
call_changes first (event.Lose telegram) air c s = refl
call_changes first (event.Inject octets) air c s = refl
call_changes first (event.Off node) air c s = refl
call_changes first (event.On node) air c s = refl
call_changes first (event.Cut node write torn) air c s = refl
call_changes first (event.Fault node write torn) air c s = refl

-- ---- the steps of a run

-- the values of a node that runs
abbrev HasValues : NodeAt → List ObjectValue → Type 0
HasValues n values = (s : Standing) → n.standing ≡ Some s → s.values ≡ values

values_step : (e : Event) (air : List TelegramAt) (n n' : NodeAt) (said : StepOutcome) (values : List ObjectValue)
    → StepsTo e air n said n' → HasValues n values
    → HasValues n' (values_after (first_values n.config.objects) e said values)
values_step e air n n' said values (inl g) has = λ s now.
    let first = first_values n.config.objects in
    let c : Transition StepOutcome = call_of e air n.config g.before in
    ap (λ (s : Standing). s.values) (some_same s c.after (sym now ∙ g.now))
    ∙ call_changes first e air n.config g.before
    ∙ ap (λ vs. values_after first e c.outcome vs) (has g.before g.was)
    ∙ ap (λ said. values_after first e said values) (sym g.outcome_is)
values_step e air n n' said values (inr (inl st)) has = λ s now. elim (none-some s (sym st.now ∙ now)) [ ]
values_step e air n n' said values (inr (inr (inl st))) has = λ s now.
    ap (λ (s : Standing). s.values)
    (some_same s (started n.config (numbers_in (length n.config.lanes) n.octets)) (sym now ∙ st.now))
    ∙ ap (λ said. values_after (first_values n.config.objects) e said values) (sym st.outcome_is)
values_step e air n n' said values (inr (inr (inr st))) has = λ s now. elim (none-some s (sym st.now ∙ now)) [ ]

values_at : (e : Event) (w : WorldAt) (place : ℕ) (objects : List ObjectRow) (values : List ObjectValue) (here : Bool)
    → is_at place (place_of e) ≡ here → place < length w.nodes → (node_in w place).config.objects ≡ objects
    → HasValues (node_in w place) values
    → HasValues (node_in (after e w) place)
    (if here then values_after (first_values objects) e (step_of e w).outcome values else values)
values_at e w place objects values true here below are has =
    let step : IsSteppedAt e w place = stepped_at e w place (is_its_place e place here) below in
    subst (λ os. HasValues (node_in (after e w) place) (values_after (first_values os) e (step_of e w).outcome values))
    are (values_step e w.air (node_in w place) (node_in (after e w) place) (step_of e w).outcome values step.steps has)
values_at e w place objects values false other below are has =
    subst (λ n. HasValues n values) (sym (stays_at e w place other)) has

same_objects : (e : Event) (w : WorldAt) (place : ℕ) (objects : List ObjectRow) (here : Bool)
    → is_at place (place_of e) ≡ here → place < length w.nodes → (node_in w place).config.objects ≡ objects
    → (node_in (after e w) place).config.objects ≡ objects
same_objects e w place objects true here below are =
    ap (λ (c : ConfigState). c.objects) (stepped_at e w place (is_its_place e place here) below).config ∙ are
same_objects e w place objects false other below are =
    ap (λ (n : NodeAt). n.config.objects) (stays_at e w place other) ∙ are

valuing : (events : List Event) (w : WorldAt) (place : ℕ) (objects : List ObjectRow) (values : List ObjectValue)
    → place < length w.nodes → (node_in w place).config.objects ≡ objects → HasValues (node_in w place) values
    → HasValues (node_in (world_after events w) place)
    (values_by place (first_values objects) (history_of events w) values)
valuing [] w place objects values below are has = has
valuing (e ∷ events) w place objects values below are has =
    let here = is_at place (place_of e) in
    let same = same_size e w in
    valuing events (after e w) place objects
    (if here then values_after (first_values objects) e (step_of e w).outcome values else values)
    (omega (arith, below, same)) (same_objects e w place objects here refl below are)
    (values_at e w place objects values here refl below are has)

pub by_journal : (rows : List Row) (nodes : List NodeRow) (w : WorldAt) (history : List Step) (place : ℕ)
    (row : NodeRow) → IsRunOf rows nodes w history → slice_get nodes place ≡ Some row
    → ObjectsByJournal place row w history
by_journal rows nodes w history place row run is = λ s now.
    let at : IsFirstAt rows nodes place row = first_at rows nodes place row run.installation is in
    let first : WorldAt = first_world rows nodes in
    let values : List ObjectValue = first_values row.objects in
    let starts : HasValues (first_node rows row) values = λ s now. ap (λ (s : Standing). s.values)
    (some_same s (started (configured row.address rows row.objects) (first_numbers row)) (sym now)) in
    let ends : HasValues (node_in (world_after (events_of history) first) place)
    (values_by place values (history_of (events_of history) first) values) =
    valuing (events_of history) first place row.objects values at.below
    (ap (λ (n : NodeAt). n.config.objects) at.node_is) (subst (λ n. HasValues n values) (sym at.node_is) starts) in
    ends s (ap (λ (w : WorldAt). (node_in w place).standing) (sym run.world_is) ∙ now)
    ∙ ap (λ h. values_by place values h values) (sym run.history_is)
