-- What the outcomes of a node tell of it: by the steps of a run, for whatever each call makes by its outcome.
use Rattle.std.proofs.Common.{◌≡◌, inl, inr, ℕ, ◌+◌, ◌-◌, ◌<◌, List, [], ◌∷◌, length, Bool, true, false, Option, Some, None, Result, Ok, Err, refl, sym, ap, ◌∙◌, subst, arith}
use Rattle.std.specs.Prelude.{◌==◌, ◌^◌, slice_get, if◌then◌else◌}
use Rattle.std.proofs.lemmas.Option.{none-some}
use Rattle.knx_base.specs.declared.address.IndAddr.{IndAddr}
use Rattle.knx_base.specs.declared.address.GroupAddr.{GroupAddr}
use Rattle.cemi_frames.specs.Frames.{Telegram}
use Rattle.cemi_frames.specs.Faults.{frame_fault}
use Rattle.cemi_frames.specs.Reading.{frame_at}
use Rattle.cemi_frames.specs.declared.frame.NotFrame.{NotFrame}
use Rattle.plain_apdu.specs.declared.object.BadObject.{BadObject}
use Rattle.plain_apdu.specs.declared.service.Service.{Service}
use Rattle.key_tables.specs.declared.types.Channel.{Channel}
use Rattle.key_tables.specs.declared.types.Channel.TheVariants as channel
use Rattle.key_tables.specs.declared.types.Lane.{Lane}
use Rattle.key_tables.specs.declared.types.Row.{Row}
use Rattle.key_tables.specs.Rows.{key_of}
use Rattle.judge_rules.specs.declared.verdict.Verdict.{Verdict}
use Rattle.judge_rules.specs.declared.verdict.Verdict.TheVariants as verdict
use Rattle.judge_rules.specs.Parts.{source_of}
use Rattle.judge_rules.specs.Checks.{lane_in, verdict_of, kept_by, opened_by}
use Rattle.nvm_model.specs.declared.fault.NvmFault.TheVariants as nvm
use Rattle.secure_apdu.specs.SealedFrame.{sealed_frame}
use Rattle.seq_store.specs.Runs.{Numbers, numbers_in}
use Rattle.group_objects.specs.declared.row.ObjectRow.{ObjectRow}
use Rattle.group_objects.specs.declared.row.Effect.{Effect}
use Rattle.group_objects.specs.declared.row.Effect.TheVariants as effect
use Rattle.group_objects.specs.declared.service.SendService.{SendService}
use Rattle.group_objects.specs.declared.service.SendService.TheVariants as service
use Rattle.group_objects.specs.declared.objects.SetFault.{SetFault}
use Rattle.group_objects.specs.declared.objects.SetFault.TheVariants as refused
use Rattle.group_objects.specs.Value.{ObjectValue}
use Rattle.group_objects.specs.Apdus.{service_apdu}
use Rattle.group_objects.specs.Effects.{accepted}
use Rattle.group_objects.specs.Objects.{set_refusal}
use Rattle.sync_service.specs.Frames.{ask_frame, answer_frame}
use Rattle.sync_service.specs.Open.{Pending, asked_of}
use Rattle.node_core.specs.declared.fault.SendFault.{SendFault}
use Rattle.node_core.specs.declared.fault.SendFault.TheVariants as fault
use Rattle.node_core.specs.declared.outcome.Addressee.{Addressee}
use Rattle.node_core.specs.declared.outcome.Addressee.TheVariants.{Device, Object}
use Rattle.node_core.specs.declared.outcome.Outcome.{Outcome}
use Rattle.node_core.specs.Config.{configured}
use Rattle.node_core.specs.Standing.{ConfigState, Standing, raised, with_value, place_in, mark_at, started}
use Rattle.node_core.specs.Transition.{Transition, quiet}
use Rattle.node_core.specs.Sending.{sealing, under_key, on_channel, data_head, group_field, tool_field, group_transition, object_transition, device_channel, send_transition, tool_transition, with_pending, set_unless}
use Rattle.node_core.specs.Receiving.{addressee, kept_raises, reply_transition, effect_transition, row_transition, act_transition, mark_told, verdict_transition, telegram_transition, addressed_transition, frame_transition}
use Rattle.script_text.specs.declared.event.Event.{Event}
use Rattle.script_text.specs.declared.event.Event.TheVariants as event
use Rattle.script_text.specs.declared.node_row.NodeRow.{NodeRow}
use Rattle.step_text.specs.declared.outcome.Step.{Step}
use Rattle.step_text.specs.declared.outcome.StepOutcome.{StepOutcome}
use Rattle.step_text.specs.declared.outcome.StepOutcome.TheVariants as outcome
use Rattle.install_run.specs.Calls.{deliver_call, call_of}
use Rattle.install_run.specs.First.{first_numbers, first_node, first_world}
use Rattle.install_run.specs.Following.{by_steps, Counter, counted, CountsOn, asks, asked_after, AsksOnce}
use Rattle.install_run.specs.Holding.{Stands}
use Rattle.install_run.specs.Machine.{TelegramAt, WorldAt, telegram_in, heard, node_in}
use Rattle.install_run.specs.Origin.{events_of, AreHeld, IsRunOf}
use Rattle.install_run.specs.Runs.{place_of, is_at, after, step_of, world_after, history_of}
use Rattle.install_run.specs.Turn.{NodeAt, set_told, send_told, receive_told}
use Rattle.install_run.proofs.Answering.{call_on}
use Rattle.install_run.proofs.Drawing.{call_draws}
use Rattle.install_run.proofs.Marking.{AllStand, stands_after}
use Rattle.install_run.proofs.Rising.{IsFirstAt, first_at}
use Rattle.install_run.proofs.Sounding.{some_same}
use Rattle.install_run.proofs.Steps.{StepsTo, IsSteppedAt, stepped_at, stays_at, same_size, is_its_place}

-- ---- whatever an outcome tells

-- Each call, and each start, makes of this what its outcome tells.
record IsTold {X : Type 0} (of_it : Standing → X) (later : Event → StepOutcome → X → X) : Type 0 where
  calls : (e : Event) (air : List TelegramAt) (n : NodeAt) (s : Standing) → Stands s n
      → (let t = call_of e air n.config s in of_it t.after ≡ later e t.outcome (of_it s))
  starts : (e : Event) (c : ConfigState) (found : Numbers) (x : X)
      → of_it (started c found) ≡ later e (outcome.On (found.reserved + 1) found.marks) x

module _ {X : Type 0} (of_it : Standing → X) (later : Event → StepOutcome → X → X) (told : IsTold of_it later) where
  abbrev Has : NodeAt → X → Type 0
  Has n x = (s : Standing) → n.standing ≡ Some s → of_it s ≡ x

  has_step : (e : Event) (air : List TelegramAt) (n n' : NodeAt) (said : StepOutcome) (x : X)
      → StepsTo e air n said n' → AllStand n → Has n x → Has n' (later e said x)
  has_step e air n n' said x (inl g) stand has = λ s now.
      let c : Transition StepOutcome = call_of e air n.config g.before in
      ap of_it (some_same s c.after (sym now ∙ g.now)) ∙ told.calls e air n g.before (stand g.before g.was)
      ∙ ap (λ x. later e c.outcome x) (has g.before g.was) ∙ ap (λ said. later e said x) (sym g.outcome_is)
  has_step e air n n' said x (inr (inl st)) stand has = λ s now. elim (none-some s (sym st.now ∙ now)) [ ]
  has_step e air n n' said x (inr (inr (inl st))) stand has = λ s now.
      let found : Numbers = numbers_in (length n.config.lanes) n.octets in
      ap of_it (some_same s (started n.config found) (sym now ∙ st.now)) ∙ told.starts e n.config found x
      ∙ ap (λ said. later e said x) (sym st.outcome_is)
  has_step e air n n' said x (inr (inr (inr st))) stand has = λ s now. elim (none-some s (sym st.now ∙ now)) [ ]

  has_at : (e : Event) (w : WorldAt) (place : ℕ) (x : X) (here : Bool) → is_at place (place_of e) ≡ here
      → place < length w.nodes → AllStand (node_in w place) → Has (node_in w place) x
      → Has (node_in (after e w) place) (if here then later e (step_of e w).outcome x else x)
  has_at e w place x true here below stand has =
      let step : IsSteppedAt e w place = stepped_at e w place (is_its_place e place here) below in
      has_step e w.air (node_in w place) (node_in (after e w) place) (step_of e w).outcome x step.steps stand has
  has_at e w place x false other below stand has = subst (λ n. Has n x) (sym (stays_at e w place other)) has

  has_after : (events : List Event) (w : WorldAt) (place : ℕ) (x : X) → place < length w.nodes → AreHeld events w
      → AllStand (node_in w place) → Has (node_in w place) x
      → Has (node_in (world_after events w) place) (by_steps later place (history_of events w) x)
  has_after [] w place x below held stand has = has
  has_after (e ∷ events) w place x below held stand has =
      let here = is_at place (place_of e) in
      let same = same_size e w in
      has_after events (after e w) place (if here then later e (step_of e w).outcome x else x)
      (omega (arith, below, same)) held.1 (stands_after e w place here refl held.0 stand)
      (has_at e w place x here refl below stand has)

  has_last : (rows : List Row) (nodes : List NodeRow) (w : WorldAt) (history : List Step) (place : ℕ) (row : NodeRow)
      → IsRunOf rows nodes w history → AreHeld (events_of history) (first_world rows nodes)
      → slice_get nodes place ≡ Some row
      → Has (node_in w place) (by_steps later place history
      (of_it (started (configured row.address rows row.objects) (first_numbers row))))
  has_last rows nodes w history place row run held is =
      let at : IsFirstAt rows nodes place row = first_at rows nodes place row run.installation is in
      let first : WorldAt = first_world rows nodes in
      let s : Standing = started (configured row.address rows row.objects) (first_numbers row) in
      let begins : Has (first_node rows row) (of_it s) = λ s' now. ap of_it (some_same s' s (sym now)) in
      let ends : Has (node_in (world_after (events_of history) first) place)
      (by_steps later place (history_of (events_of history) first) (of_it s)) =
      has_after (events_of history) first place (of_it s) at.below held (λ s now. (at.fits.runs s now).stands)
      (subst (λ n. Has n (of_it s)) (sym at.node_is) begins) in
      subst (λ h. Has (node_in w place) (by_steps later place h (of_it s))) (sym run.history_is)
      (subst (λ w. Has (node_in w place) (by_steps later place (history_of (events_of history) first) (of_it s)))
      (sym run.world_is) ends)

-- ---- the next number, and the last reserved one

abbrev counter_of : Standing → Counter
counter_of s = record { reserved = s.numbers.reserved; next = s.next }

counter_told : IsTold counter_of counted
counter_told = record {
  calls = λ e air n s stands.
      let d = call_draws e air n.config s stands.next_fits in
      let next_is = d.next ∙ sym (call_on e air n.config s).1 in
      λ i. record { reserved = d.reserved i; next = next_is i };
  starts = λ e c found x.
      let same : found.reserved ≡ found.reserved + 1 - 1 = omega arith in
      λ i. record { reserved = same i; next = found.reserved + 1 };
}

pub counts_on : (rows : List Row) (nodes : List NodeRow) (w : WorldAt) (history : List Step) (place : ℕ) (row : NodeRow)
    → IsRunOf rows nodes w history → AreHeld (events_of history) (first_world rows nodes)
    → slice_get nodes place ≡ Some row → CountsOn place row w history
counts_on rows nodes w history place row run held is =
    let at : IsFirstAt rows nodes place row = first_at rows nodes place row run.installation is in
    let s : Standing = started (configured row.address rows row.objects) (first_numbers row) in
    let next_is : s.next ≡ row.next = (at.fits.runs s (ap (λ (n : NodeAt). n.standing) at.node_is)).next_is in
    λ s now. has_last counter_of counted counter_told rows nodes w history place row run held is s now
    ∙ ap (λ next. by_steps counted place history (record { reserved = row.next - 1; next = next })) next_is

-- ---- the open challenge

drawing_open : (none_left : Bool) (frame : ℕ → List ℕ) (s : Standing)
    → (let t : Transition (Result ℕ SendFault) = if none_left then quiet s (Err fault.Exhausted) else sealing frame s in
    t.after.pending ≡ s.pending)
drawing_open true frame s = refl
drawing_open false frame s = refl

key_open : (key : Option (List ℕ)) (frame : List ℕ → ℕ → List ℕ) (s : Standing)
    → (under_key key frame s).after.pending ≡ s.pending
key_open None frame s = refl
key_open (Some key) frame s = drawing_open (s.next == 2 ^ 48) (frame key) s

channel_open : (c : ConfigState) (s : Standing) (found : Option Channel) (frame : List ℕ → ℕ → List ℕ)
    → (on_channel c s found frame).after.pending ≡ s.pending
channel_open c s None frame = refl
channel_open c s (Some found) frame = key_open (key_of c.rows found) frame s

group_open : (c : ConfigState) (s : Standing) (group : GroupAddr) (apdu : List ℕ)
    → (group_transition c s group apdu).after.pending ≡ s.pending
group_open c s group apdu =
    channel_open c s (Some (channel.Group group))
    (λ key number. sealed_frame key (data_head c.address group.0 true (group_field c group) number) apdu)

flag_open : (transmits : Bool) (c : ConfigState) (s : Standing) (group : GroupAddr) (apdu : List ℕ)
    → (let t : Transition (Result ℕ SendFault) =
    if transmits then group_transition c s group apdu else quiet s (Err fault.Flag) in t.after.pending ≡ s.pending)
flag_open true c s group apdu = group_open c s group apdu
flag_open false c s group apdu = refl

object_open : (c : ConfigState) (s : Standing) (row : Option ObjectRow) (value : Option ObjectValue)
    (service : SendService) → (object_transition c s row value service).after.pending ≡ s.pending
object_open c s (Some row) (Some value) service =
    flag_open row.flags.transmits c s row.group (service_apdu service value)
object_open c s (Some row) None service = refl
object_open c s None value service = refl

-- an event that asks nothing, told as a sending is
sent_open : (e : Event) (count : ℕ) (sent : Result ℕ SendFault) (pending : Pending) → asks e pending ≡ pending
    → asked_after e (send_told count sent) pending ≡ pending
sent_open e count (Ok number) pending none = none
sent_open e count (Err fault.NoObject) pending none = refl
sent_open e count (Err fault.Flag) pending none = refl
sent_open e count (Err fault.NoKey) pending none = refl
sent_open e count (Err fault.Exhausted) pending none = refl
sent_open e count (Err (fault.Memory nvm.Cut)) pending none = refl
sent_open e count (Err (fault.Memory nvm.Failed)) pending none = refl

ask_opens : (node : ℕ) (to : IndAddr) (challenge : List ℕ) (count : ℕ) (sent : Result ℕ SendFault) (s new : Standing)
    → new.pending ≡ s.pending
    → (with_pending sent (record { peer = to; challenge = challenge }) new).pending
    ≡ asked_after (event.Ask node to challenge) (send_told count sent) s.pending
ask_opens node to challenge count (Ok number) s new same = refl
ask_opens node to challenge count (Err fault.NoObject) s new same = same
ask_opens node to challenge count (Err fault.Flag) s new same = same
ask_opens node to challenge count (Err fault.NoKey) s new same = same
ask_opens node to challenge count (Err fault.Exhausted) s new same = same
ask_opens node to challenge count (Err (fault.Memory nvm.Cut)) s new same = same
ask_opens node to challenge count (Err (fault.Memory nvm.Failed)) s new same = same

set_open : (e : Event) (refusal : Option SetFault) (s after : Standing) → after.pending ≡ s.pending
    → (let t = set_unless refusal s after in t.after.pending ≡ asked_after e (set_told t.outcome) s.pending)
set_open e None s after same = same
set_open e (Some refused.NoObject) s after same = refl
set_open e (Some refused.Size) s after same = refl

module _ (e : Event) (count : ℕ) where
  abbrev Opens : Transition Outcome → Standing → Type 0
  Opens t s = t.after.pending ≡ asked_after e (receive_told count t.outcome) s.pending

  reply_open : (c : ConfigState) (s : Standing) (number : ℕ) (lane : Lane) (object : ℕ) (group : GroupAddr)
      (value : Option ObjectValue) → Opens (reply_transition c s number lane object group value) s
  reply_open c s number lane object group (Some value) = group_open c s group (service_apdu service.Response value)
  reply_open c s number lane object group None = refl

  effect_open : (c : ConfigState) (s : Standing) (number : ℕ) (lane : Lane) (object : ℕ) (row : ObjectRow)
      (does : Result Effect BadObject) → Opens (effect_transition c s number lane object row does) s
  effect_open c s number lane object row (Err bad) = refl
  effect_open c s number lane object row (Ok effect.Read) =
      reply_open c s number lane object row.group (slice_get s.values object)
  effect_open c s number lane object row (Ok (effect.Write value)) = refl
  effect_open c s number lane object row (Ok (effect.Response value)) = refl

  row_open : (c : ConfigState) (s : Standing) (number : ℕ) (lane : Lane) (object : ℕ) (apdu : List ℕ)
      (row : Option ObjectRow) → Opens (row_transition c s number lane object apdu row) s
  row_open c s number lane object apdu (Some row) = effect_open c s number lane object row (accepted row apdu)
  row_open c s number lane object apdu None = refl

  act_open : (c : ConfigState) (s : Standing) (to : Addressee) (lane : Lane) (number : ℕ) (service : Service)
      (apdu : List ℕ) → Opens (act_transition c s to lane number service apdu) s
  act_open c s Device lane number service apdu = refl
  act_open c s (Object object) lane number service apdu =
      row_open c s number lane object apdu (slice_get c.objects object)

  verdict_open : (c : ConfigState) (s : Standing) (source : IndAddr) (to : Addressee) (lane : Lane) (apdu : List ℕ)
      (said : Verdict) → Opens (verdict_transition c s source to lane apdu said) s
  verdict_open c s source to lane apdu (verdict.Accepted number service) = act_open c s to lane number service apdu
  verdict_open c s source to lane apdu (verdict.SyncAsk number challenge) =
      channel_open c s (device_channel c source)
      (λ key number. answer_frame key c.address source number challenge (mark_told c s source lane))
  verdict_open c s source to lane apdu (verdict.SyncAnswer number kept) = refl
  verdict_open c s source to lane apdu said = refl

  telegram_open : (c : ConfigState) (s : Standing) (t : Telegram) (to : Addressee) (lane : Option Lane)
      → Opens (telegram_transition c s t to lane) s
  telegram_open c s t to None = refl
  telegram_open c s t to (Some lane) =
      let mark = mark_at s.numbers.marks (place_in c lane) in
      let asked = asked_of s.pending (source_of t) in
      let raises = kept_raises (place_in c lane) (kept_by c.rows mark asked t) in
      verdict_open c (raised raises s) (source_of t) to lane (opened_by c.rows asked t) (verdict_of c.rows mark asked t)

  addressed_open : (c : ConfigState) (s : Standing) (t : Telegram) (to : Option Addressee)
      → Opens (addressed_transition c s t to) s
  addressed_open c s t None = refl
  addressed_open c s t (Some to) = telegram_open c s t to (lane_in c.rows t)

  frame_open : (c : ConfigState) (s : Standing) (f : Option NotFrame) (t : Telegram)
      → Opens (frame_transition c s f t) s
  frame_open c s (Some f) t = refl
  frame_open c s None t = addressed_open c s t (addressee c t)

  deliver_open : (c : ConfigState) (s : Standing) (octets : Option (List ℕ))
      → (let t = deliver_call count c s octets in t.after.pending ≡ asked_after e t.outcome s.pending)
  deliver_open c s None = refl
  deliver_open c s (Some octets) = frame_open c s (frame_fault octets) (frame_at octets)

call_open : (e : Event) (air : List TelegramAt) (c : ConfigState) (s : Standing)
    → (let t = call_of e air c s in t.after.pending ≡ asked_after e t.outcome s.pending)
call_open (event.Set node object value) air c s =
    set_open (event.Set node object value) (set_refusal (slice_get s.values object) value) s
    (with_value object value s) refl
call_open (event.Send node object service) air c s =
    object_open c s (slice_get c.objects object) (slice_get s.values object) service
    ∙ sym (sent_open (event.Send node object service) (length air) (send_transition c s object service).outcome
    s.pending refl)
call_open (event.ToolSend node to apdu) air c s =
    channel_open c s (device_channel c to)
    (λ key number. sealed_frame key (data_head c.address to.0 false tool_field number) apdu)
    ∙ sym (sent_open (event.ToolSend node to apdu) (length air) (tool_transition c s to apdu).outcome s.pending refl)
call_open (event.Ask node to challenge) air c s =
    let frame : List ℕ → ℕ → List ℕ = λ key number. ask_frame key c.address to number challenge in
    let asked = on_channel c s (device_channel c to) frame in
    ask_opens node to challenge (length air) asked.outcome s asked.after (channel_open c s (device_channel c to) frame)
call_open (event.Deliver telegram node) air c s =
    deliver_open (event.Deliver telegram node) (length air) c s (heard (telegram_in air telegram))
call_open (event.Lose telegram) air c s = refl
call_open (event.Inject octets) air c s = refl
call_open (event.Off node) air c s = refl
call_open (event.On node) air c s = refl
call_open (event.Cut node write torn) air c s = refl
call_open (event.Fault node write torn) air c s = refl

pending_told : IsTold (λ s. s.pending) asked_after
pending_told = record {
  calls = λ e air n s stands. call_open e air n.config s;
  starts = λ e c found x. refl;
}

-- the challenge that a node has open, if it runs
abbrev pub HasOpen : NodeAt → Pending → Type 0
HasOpen n pending = (s : Standing) → n.standing ≡ Some s → s.pending ≡ pending

pub open_after : (e : Event) (w : WorldAt) (place : ℕ) (pending : Pending) → place < length w.nodes
    → AllStand (node_in w place) → HasOpen (node_in w place) pending
    → HasOpen (node_in (after e w) place)
    (if is_at place (place_of e) then asked_after e (step_of e w).outcome pending else pending)
open_after e w place pending below stand has =
    has_at (λ s. s.pending) asked_after pending_told e w place pending (is_at place (place_of e)) refl below stand has

pub asks_once : (rows : List Row) (nodes : List NodeRow) (w : WorldAt) (history : List Step) (place : ℕ) (row : NodeRow)
    → IsRunOf rows nodes w history → AreHeld (events_of history) (first_world rows nodes)
    → slice_get nodes place ≡ Some row → AsksOnce place w history
asks_once rows nodes w history place row run held is =
    has_last (λ s. s.pending) asked_after pending_told rows nodes w history place row run held is
