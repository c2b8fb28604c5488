-- The numbers of a node are the greatest of those of its steps since its last start: by the cases of a transition.
use Rattle.std.proofs.Common.{◌≡◌, inl, inr, ℕ, ◌+◌, ◌<◌, List, [], ◌∷◌, ◌++◌, length, nat_lt, Bool, true, false, Option, Some, None, Result, Ok, Err, refl, sym, ap, ◌∙◌, subst, arith}
use Rattle.std.specs.Prelude.{◌^◌, ◌==◌, ◌&&◌, ◌≢◌, max, slice_get, slice_index, slice_set, if◌then◌else◌, IfSome}
use Rattle.std.proofs.lemmas.Bool.Decides.{nat_tests}
use Rattle.std.proofs.lemmas.List.{get_or-set_same, get_or-set_other}
use Rattle.std.proofs.lemmas.Option.{none-some}
use Rattle.std.proofs.lemmas.List.Quantifiers.{position-Some}
use Rattle.knx_base.specs.declared.address.IndAddr.{IndAddr}
use Rattle.knx_base.specs.declared.address.GroupAddr.{GroupAddr}
use Rattle.cemi_frames.specs.Frames.{Telegram}
use Rattle.cemi_frames.specs.Faults.{frame_fault}
use Rattle.cemi_frames.specs.Reading.{frame_at}
use Rattle.cemi_frames.specs.declared.frame.NotFrame.{NotFrame}
use Rattle.plain_apdu.specs.declared.object.BadObject.{BadObject}
use Rattle.plain_apdu.specs.declared.service.Service.{Service}
use Rattle.key_tables.specs.declared.types.Channel.{Channel}
use Rattle.key_tables.specs.declared.types.Channel.TheVariants as channel
use Rattle.key_tables.specs.declared.types.Lane.{Lane}
use Rattle.key_tables.specs.Lanes.{same_lane}
use Rattle.key_tables.specs.declared.types.Row.{Row}
use Rattle.key_tables.specs.Rows.{key_of}
use Rattle.judge_rules.specs.declared.verdict.Verdict.{Verdict}
use Rattle.judge_rules.specs.declared.verdict.Verdict.TheVariants as verdict
use Rattle.judge_rules.specs.Parts.{source_of}
use Rattle.judge_rules.specs.Checks.{Kept, lane_in, verdict_of, kept_by, opened_by}
use Rattle.judge_rules.proofs.Keeping.{keeps_above}
use Rattle.nvm_model.specs.declared.fault.NvmFault.TheVariants as nvm
use Rattle.secure_apdu.specs.SealedFrame.{sealed_frame}
use Rattle.seq_store.specs.Draws.{reservation_for}
use Rattle.seq_store.specs.Runs.{Numbers, Reserve, after_raises, numbers_in}
use Rattle.group_objects.specs.declared.row.ObjectRow.{ObjectRow}
use Rattle.group_objects.specs.declared.row.Effect.{Effect}
use Rattle.group_objects.specs.declared.row.Effect.TheVariants as effect
use Rattle.group_objects.specs.declared.service.SendService.{SendService}
use Rattle.group_objects.specs.declared.service.SendService.TheVariants as service
use Rattle.group_objects.specs.declared.objects.SetFault.{SetFault}
use Rattle.group_objects.specs.declared.objects.SetFault.TheVariants as refused
use Rattle.group_objects.specs.Value.{ObjectValue}
use Rattle.group_objects.specs.Apdus.{service_apdu}
use Rattle.group_objects.specs.Effects.{accepted}
use Rattle.group_objects.specs.Objects.{set_refusal}
use Rattle.sync_service.specs.Frames.{ask_frame, answer_frame}
use Rattle.sync_service.specs.Open.{asked_of}
use Rattle.sync_service.specs.declared.pending.OpenChallenge.{OpenChallenge}
use Rattle.node_core.specs.declared.fault.SendFault.{SendFault}
use Rattle.node_core.specs.declared.fault.SendFault.TheVariants as fault
use Rattle.node_core.specs.declared.outcome.Addressee.{Addressee}
use Rattle.node_core.specs.declared.outcome.Addressee.TheVariants.{Device, Object}
use Rattle.node_core.specs.Config.{configured}
use Rattle.node_core.specs.Standing.{ConfigState, Standing, raised, with_value, place_in, mark_at, started}
use Rattle.node_core.specs.Transition.{Transition, quiet}
use Rattle.node_core.specs.Sending.{sealing, under_key, on_channel, data_head, group_field, tool_field, group_transition, object_transition, device_channel, send_transition, tool_transition, with_pending, ask_transition, set_unless}
use Rattle.node_core.specs.Receiving.{addressee, kept_raises, reply_transition, effect_transition, row_transition, act_transition, mark_told, verdict_transition, lane_transition, telegram_transition, addressed_transition, frame_transition}
use Rattle.script_text.specs.declared.event.Event.{Event}
use Rattle.script_text.specs.declared.event.Event.TheVariants as event
use Rattle.script_text.specs.declared.node_row.NodeRow.{NodeRow}
use Rattle.step_text.specs.declared.outcome.Step.{Step}
use Rattle.step_text.specs.declared.outcome.StepOutcome.{StepOutcome}
use Rattle.step_text.specs.declared.outcome.StepOutcome.TheVariants as outcome
use Rattle.install_run.specs.Turn.{NodeAt, set_told, send_told, receive_told}
use Rattle.install_run.specs.Machine.{TelegramAt, WorldAt, telegram_in, heard, node_in}
use Rattle.install_run.specs.Runs.{place_of, is_at, after, step_of, world_after}
use Rattle.install_run.specs.Calls.{deliver_call, call_of}
use Rattle.install_run.specs.First.{first_numbers, first_node, first_world}
use Rattle.install_run.specs.Origin.{events_of, IsRunOf}
use Rattle.install_run.specs.Since.{greatest, kept_at, kept_from, kept_for, kept_frame, kept_heard, kept_in, next_told, with_marks, with_next, since, HasNumbersSince}
use Rattle.install_run.specs.Holding.{Stands}
use Rattle.install_run.proofs.Sounding.{some_same}
use Rattle.install_run.proofs.Steps.{StepsTo, IsSteppedAt, stepped_at, stays_at, same_size, is_its_place}
use Rattle.install_run.proofs.Marking.{AllStand, stands_after}
use Rattle.install_run.proofs.Drawing.{Draws, call_draws}
use Rattle.install_run.specs.Histories.{next_after}
use Rattle.install_run.specs.Origin.{AreHeld}
use Rattle.install_run.proofs.Rising.{IsFirstAt, first_at}

-- ---- sending raises no mark

reserve_marks : (draws : Bool) (n : Numbers) (number : ℕ)
    → (after_raises (if draws then Reserve number ∷ [] else []) n).marks ≡ n.marks
reserve_marks true n number = refl
reserve_marks false n number = refl

drawing_marks : (none_left : Bool) (frame : ℕ → List ℕ) (s : Standing)
    → (let t : Transition (Result ℕ SendFault) = if none_left then quiet s (Err fault.Exhausted) else sealing frame s in
    t.after.numbers.marks ≡ s.numbers.marks)
drawing_marks true frame s = refl
drawing_marks false frame s =
    reserve_marks (nat_lt s.numbers.reserved s.next && nat_lt s.next (2 ^ 48)) s.numbers
    (reservation_for s.numbers.reserved s.next)

key_marks : (key : Option (List ℕ)) (frame : List ℕ → ℕ → List ℕ) (s : Standing)
    → (under_key key frame s).after.numbers.marks ≡ s.numbers.marks
key_marks None frame s = refl
key_marks (Some key) frame s = drawing_marks (s.next == 2 ^ 48) (frame key) s

pub channel_marks : (c : ConfigState) (s : Standing) (found : Option Channel) (frame : List ℕ → ℕ → List ℕ)
    → (on_channel c s found frame).after.numbers.marks ≡ s.numbers.marks
channel_marks c s None frame = refl
channel_marks c s (Some found) frame = key_marks (key_of c.rows found) frame s

group_marks : (c : ConfigState) (s : Standing) (group : GroupAddr) (apdu : List ℕ)
    → (group_transition c s group apdu).after.numbers.marks ≡ s.numbers.marks
group_marks c s group apdu =
    channel_marks c s (Some (channel.Group group))
    (λ key number. sealed_frame key (data_head c.address group.0 true (group_field c group) number) apdu)

flag_marks : (transmits : Bool) (c : ConfigState) (s : Standing) (group : GroupAddr) (apdu : List ℕ)
    → (let t : Transition (Result ℕ SendFault) =
    if transmits then group_transition c s group apdu else quiet s (Err fault.Flag) in
    t.after.numbers.marks ≡ s.numbers.marks)
flag_marks true c s group apdu = group_marks c s group apdu
flag_marks false c s group apdu = refl

object_marks : (c : ConfigState) (s : Standing) (row : Option ObjectRow) (value : Option ObjectValue)
    (service : SendService) → (object_transition c s row value service).after.numbers.marks ≡ s.numbers.marks
object_marks c s (Some row) (Some value) service =
    flag_marks row.flags.transmits c s row.group (service_apdu service value)
object_marks c s (Some row) None service = refl
object_marks c s None value service = refl

pending_marks : (sent : Result ℕ SendFault) (challenge : OpenChallenge) (s : Standing)
    → (with_pending sent challenge s).numbers.marks ≡ s.numbers.marks
pending_marks (Ok _) challenge s = refl
pending_marks (Err _) challenge s = refl

ask_marks : (c : ConfigState) (s : Standing) (to : IndAddr) (challenge : List ℕ)
    → (ask_transition c s to challenge).after.numbers.marks ≡ s.numbers.marks
ask_marks c s to challenge =
    let frame : List ℕ → ℕ → List ℕ = λ key number. ask_frame key c.address to number challenge in
    let asked = on_channel c s (device_channel c to) frame in
    pending_marks asked.outcome (record { peer = to; challenge = challenge }) asked.after
    ∙ channel_marks c s (device_channel c to) frame

set_marks : (refusal : Option SetFault) (s : Standing) (object : ℕ) (value : ObjectValue)
    → (set_unless refusal s (with_value object value s)).after.numbers.marks ≡ s.numbers.marks
set_marks None s object value = refl
set_marks (Some f) s object value = refl

-- ---- acting raises none either

reply_marks : (c : ConfigState) (s : Standing) (number : ℕ) (lane : Lane) (object : ℕ) (group : GroupAddr)
    (value : Option ObjectValue)
    → (reply_transition c s number lane object group value).after.numbers.marks ≡ s.numbers.marks
reply_marks c s number lane object group (Some value) = group_marks c s group (service_apdu service.Response value)
reply_marks c s number lane object group None = refl

effect_marks : (c : ConfigState) (s : Standing) (number : ℕ) (lane : Lane) (object : ℕ) (row : ObjectRow)
    (does : Result Effect BadObject)
    → (effect_transition c s number lane object row does).after.numbers.marks ≡ s.numbers.marks
effect_marks c s number lane object row (Err bad) = refl
effect_marks c s number lane object row (Ok effect.Read) =
    reply_marks c s number lane object row.group (slice_get s.values object)
effect_marks c s number lane object row (Ok (effect.Write value)) = refl
effect_marks c s number lane object row (Ok (effect.Response value)) = refl

row_marks : (c : ConfigState) (s : Standing) (number : ℕ) (lane : Lane) (object : ℕ) (apdu : List ℕ)
    (row : Option ObjectRow)
    → (row_transition c s number lane object apdu row).after.numbers.marks ≡ s.numbers.marks
row_marks c s number lane object apdu (Some row) = effect_marks c s number lane object row (accepted row apdu)
row_marks c s number lane object apdu None = refl

act_marks : (c : ConfigState) (s : Standing) (to : Addressee) (lane : Lane) (number : ℕ) (service : Service)
    (apdu : List ℕ) → (act_transition c s to lane number service apdu).after.numbers.marks ≡ s.numbers.marks
act_marks c s Device lane number service apdu = refl
act_marks c s (Object object) lane number service apdu =
    row_marks c s number lane object apdu (slice_get c.objects object)

pub verdict_marks : (c : ConfigState) (s : Standing) (source : IndAddr) (to : Addressee) (lane : Lane) (apdu : List ℕ)
    (said : Verdict) → (verdict_transition c s source to lane apdu said).after.numbers.marks ≡ s.numbers.marks
verdict_marks c s source to lane apdu (verdict.Accepted number service) = act_marks c s to lane number service apdu
verdict_marks c s source to lane apdu (verdict.SyncAsk number challenge) =
    channel_marks c s (device_channel c source)
    (λ key number. answer_frame key c.address source number challenge (mark_told c s source lane))
verdict_marks c s source to lane apdu (verdict.SyncAnswer number kept) = refl
verdict_marks c s source to lane apdu said = refl

-- ---- what is kept raises its mark

-- with these numbers kept on the lane
abbrev Counts : ℕ → List ℕ → List ℕ → List ℕ → Type 0
Counts lane kept old new =
    (numbers : List ℕ) → slice_index old lane ≡ greatest numbers → slice_index new lane ≡ greatest (kept ++ numbers)

none_counts : (lane : ℕ) (old new : List ℕ) → new ≡ old → Counts lane [] old new
none_counts lane old new same = λ numbers is. ap (λ m. slice_index m lane) same ∙ is

mark_counts : (lane place kept : ℕ) (here : Bool) (marks : List ℕ) → (lane == place) ≡ here → place < length marks
    → slice_index marks place < kept
    → Counts lane (if here then kept ∷ [] else []) marks (slice_set marks place kept)
mark_counts lane place kept true marks is below above = λ numbers was.
    let same : lane ≡ place = grind (arith, nat_tests, is) in
    let here : slice_index marks place ≡ greatest numbers = ap (λ l. slice_index marks l) (sym same) ∙ was in
    let now : slice_index (slice_set marks place kept) lane ≡ kept =
    ap (λ l. slice_index (slice_set marks place kept) l) same ∙ get_or-set_same marks place kept 0 below in
    omega (arith, here, now, above)
mark_counts lane place kept false marks is below above = λ numbers was.
    let other : lane ≢ place = λ same. grind (arith, nat_tests, is, same) in
    get_or-set_other marks place lane kept 0 other ∙ was

kept_counts : (lane : ℕ) (place : Option ℕ) (kept : Kept) (n : Numbers)
    → ((k : ℕ) → place ≡ Some k → k < length n.marks) → IfSome kept (λ k. mark_at n.marks place < k.1)
    → Counts lane (kept_at lane place kept) n.marks (after_raises (kept_raises place kept) n).marks
kept_counts lane (Some place) (Some kept) n within above =
    mark_counts lane place kept.1 (lane == place) n.marks refl (within place refl) above
kept_counts lane (Some place) None n within above = none_counts lane n.marks n.marks refl
kept_counts lane None kept n within above = none_counts lane n.marks n.marks refl

module _ (lane : ℕ) (c : ConfigState) (s : Standing) (lanes : length s.numbers.marks ≡ length c.lanes) where
  lane_counts : (to : Addressee) (t : Telegram) (its : Lane)
      → Counts lane (kept_from lane c s t (Some its)) s.numbers.marks
      (lane_transition c s to t its).after.numbers.marks
  lane_counts to t its = λ numbers is.
      let place = place_in c its in
      let mark = mark_at s.numbers.marks place in
      let asked = asked_of s.pending (source_of t) in
      let kept = kept_by c.rows mark asked t in
      let raises = kept_raises place kept in
      ap (λ m. slice_index m lane) (verdict_marks c (raised raises s) (source_of t) to its (opened_by c.rows asked t)
      (verdict_of c.rows mark asked t))
      ∙ kept_counts lane place kept s.numbers
      (λ k at. let found = (position-Some (same_lane its) c.lanes k its at).0 in omega (arith, found, lanes))
      (keeps_above c.rows mark asked t kept refl) numbers is

  telegram_counts : (to : Addressee) (t : Telegram) (its : Option Lane)
      → Counts lane (kept_from lane c s t its) s.numbers.marks
      (telegram_transition c s t to its).after.numbers.marks
  telegram_counts to t None = none_counts lane s.numbers.marks s.numbers.marks refl
  telegram_counts to t (Some its) = lane_counts to t its

  addressed_counts : (t : Telegram) (to : Option Addressee)
      → Counts lane (kept_for lane c s t to) s.numbers.marks (addressed_transition c s t to).after.numbers.marks
  addressed_counts t None = none_counts lane s.numbers.marks s.numbers.marks refl
  addressed_counts t (Some to) = telegram_counts to t (lane_in c.rows t)

  frame_counts : (t : Telegram) (f : Option NotFrame)
      → Counts lane (kept_frame lane c s t f) s.numbers.marks (frame_transition c s f t).after.numbers.marks
  frame_counts t (Some f) = none_counts lane s.numbers.marks s.numbers.marks refl
  frame_counts t None = addressed_counts t (addressee c t)

  deliver_counts : (count : ℕ) (octets : Option (List ℕ))
      → Counts lane (kept_heard lane c s octets) s.numbers.marks
      (deliver_call count c s octets).after.numbers.marks
  deliver_counts count None = none_counts lane s.numbers.marks s.numbers.marks refl
  deliver_counts count (Some octets) = frame_counts (frame_at octets) (frame_fault octets)

  call_counts : (e : Event) (air : List TelegramAt)
      → Counts lane (kept_in lane e air c s) s.numbers.marks (call_of e air c s).after.numbers.marks
  call_counts (event.Set node object value) air =
      none_counts lane s.numbers.marks _ (set_marks (set_refusal (slice_get s.values object) value) s object value)
  call_counts (event.Send node object service) air =
      none_counts lane s.numbers.marks _
      (object_marks c s (slice_get c.objects object) (slice_get s.values object) service)
  call_counts (event.ToolSend node to apdu) air =
      none_counts lane s.numbers.marks _ (channel_marks c s (device_channel c to)
      (λ key number. sealed_frame key (data_head c.address to.0 false tool_field number) apdu))
  call_counts (event.Ask node to challenge) air = none_counts lane s.numbers.marks _ (ask_marks c s to challenge)
  call_counts (event.Deliver telegram node) air = deliver_counts (length air) (heard (telegram_in air telegram))
  call_counts (event.Lose telegram) air = none_counts lane s.numbers.marks s.numbers.marks refl
  call_counts (event.Inject octets) air = none_counts lane s.numbers.marks s.numbers.marks refl
  call_counts (event.Off node) air = none_counts lane s.numbers.marks s.numbers.marks refl
  call_counts (event.On node) air = none_counts lane s.numbers.marks s.numbers.marks refl
  call_counts (event.Cut node write torn) air = none_counts lane s.numbers.marks s.numbers.marks refl
  call_counts (event.Fault node write torn) air = none_counts lane s.numbers.marks s.numbers.marks refl

-- ---- what an outcome tells of the next number

abbrev pub Tells : ℕ → StepOutcome → Type 0
Tells next (outcome.Synced number kept then_next) = then_next ≡ max next (kept + 1)
Tells next (outcome.On first marks) = ⊥
Tells next said = Unit {0}

set_tells : (refusal : Option SetFault) (s : Standing) (object : ℕ) (value : ObjectValue)
    → Tells s.next (set_told (set_unless refusal s (with_value object value s)).outcome)
set_tells None s object value = tt
set_tells (Some refused.NoObject) s object value = tt
set_tells (Some refused.Size) s object value = tt

sent_tells : (next count : ℕ) (sent : Result ℕ SendFault) → Tells next (send_told count sent)
sent_tells next count (Ok number) = tt
sent_tells next count (Err fault.NoObject) = tt
sent_tells next count (Err fault.Flag) = tt
sent_tells next count (Err fault.NoKey) = tt
sent_tells next count (Err fault.Exhausted) = tt
sent_tells next count (Err (fault.Memory nvm.Cut)) = tt
sent_tells next count (Err (fault.Memory nvm.Failed)) = tt

module _ (count : ℕ) where
  reply_tells : (c : ConfigState) (s : Standing) (number : ℕ) (lane : Lane) (object : ℕ) (group : GroupAddr)
      (value : Option ObjectValue)
      → Tells s.next (receive_told count (reply_transition c s number lane object group value).outcome)
  reply_tells c s number lane object group (Some value) = tt
  reply_tells c s number lane object group None = tt

  effect_tells : (c : ConfigState) (s : Standing) (number : ℕ) (lane : Lane) (object : ℕ) (row : ObjectRow)
      (does : Result Effect BadObject)
      → Tells s.next (receive_told count (effect_transition c s number lane object row does).outcome)
  effect_tells c s number lane object row (Err bad) = tt
  effect_tells c s number lane object row (Ok effect.Read) =
      reply_tells c s number lane object row.group (slice_get s.values object)
  effect_tells c s number lane object row (Ok (effect.Write value)) = tt
  effect_tells c s number lane object row (Ok (effect.Response value)) = tt

  row_tells : (c : ConfigState) (s : Standing) (number : ℕ) (lane : Lane) (object : ℕ) (apdu : List ℕ)
      (row : Option ObjectRow)
      → Tells s.next (receive_told count (row_transition c s number lane object apdu row).outcome)
  row_tells c s number lane object apdu (Some row) = effect_tells c s number lane object row (accepted row apdu)
  row_tells c s number lane object apdu None = tt

  act_tells : (c : ConfigState) (s : Standing) (to : Addressee) (lane : Lane) (number : ℕ) (service : Service)
      (apdu : List ℕ) → Tells s.next (receive_told count (act_transition c s to lane number service apdu).outcome)
  act_tells c s Device lane number service apdu = tt
  act_tells c s (Object object) lane number service apdu =
      row_tells c s number lane object apdu (slice_get c.objects object)

  verdict_tells : (c : ConfigState) (s : Standing) (source : IndAddr) (to : Addressee) (lane : Lane) (apdu : List ℕ)
      (said : Verdict)
      → Tells s.next (receive_told count (verdict_transition c s source to lane apdu said).outcome)
  verdict_tells c s source to lane apdu (verdict.Accepted number service) =
      act_tells c s to lane number service apdu
  verdict_tells c s source to lane apdu (verdict.SyncAnswer number kept) = refl
  verdict_tells c s source to lane apdu said = tt

  telegram_tells : (c : ConfigState) (s : Standing) (t : Telegram) (to : Addressee) (lane : Option Lane)
      → Tells s.next (receive_told count (telegram_transition c s t to lane).outcome)
  telegram_tells c s t to None = tt
  telegram_tells c s t to (Some lane) =
      let mark = mark_at s.numbers.marks (place_in c lane) in
      let asked = asked_of s.pending (source_of t) in
      let raises = kept_raises (place_in c lane) (kept_by c.rows mark asked t) in
      verdict_tells c (raised raises s) (source_of t) to lane (opened_by c.rows asked t)
      (verdict_of c.rows mark asked t)

  addressed_tells : (c : ConfigState) (s : Standing) (t : Telegram) (to : Option Addressee)
      → Tells s.next (receive_told count (addressed_transition c s t to).outcome)
  addressed_tells c s t None = tt
  addressed_tells c s t (Some to) = telegram_tells c s t to (lane_in c.rows t)

  frame_tells : (c : ConfigState) (s : Standing) (f : Option NotFrame) (t : Telegram)
      → Tells s.next (receive_told count (frame_transition c s f t).outcome)
  frame_tells c s (Some f) t = tt
  frame_tells c s None t = addressed_tells c s t (addressee c t)

  deliver_tells : (c : ConfigState) (s : Standing) (octets : Option (List ℕ))
      → Tells s.next (deliver_call count c s octets).outcome
  deliver_tells c s None = tt
  deliver_tells c s (Some octets) = frame_tells c s (frame_fault octets) (frame_at octets)

pub call_tells : (e : Event) (air : List TelegramAt) (c : ConfigState) (s : Standing)
    → Tells s.next (call_of e air c s).outcome
call_tells (event.Set node object value) air c s =
    set_tells (set_refusal (slice_get s.values object) value) s object value
call_tells (event.Send node object service) air c s =
    sent_tells s.next (length air) (send_transition c s object service).outcome
call_tells (event.ToolSend node to apdu) air c s =
    sent_tells s.next (length air) (tool_transition c s to apdu).outcome
call_tells (event.Ask node to challenge) air c s =
    sent_tells s.next (length air) (ask_transition c s to challenge).outcome
call_tells (event.Deliver telegram node) air c s =
    deliver_tells (length air) c s (heard (telegram_in air telegram))
call_tells (event.Lose telegram) air c s = tt
call_tells (event.Inject octets) air c s = tt
call_tells (event.Off node) air c s = tt
call_tells (event.On node) air c s = tt
call_tells (event.Cut node write torn) air c s = tt
call_tells (event.Fault node write torn) air c s = tt

drawn_counts : (next : ℕ) (numbers : List ℕ) → next ≡ greatest numbers → next + 1 ≡ max (next + 1) (greatest numbers)
drawn_counts next numbers is = omega (arith, is)

next_counts : (said : StepOutcome) (next : ℕ) (numbers : List ℕ) → Tells next said → next ≡ greatest numbers
    → next_after next said ≡ greatest (next_told next said ++ numbers)
next_counts (outcome.Synced number kept then_next) next numbers tells is = omega (arith, tells, is)
next_counts (outcome.On first marks) next numbers tells is = elim tells [ ]
next_counts (outcome.Air telegram number) next numbers tells is = drawn_counts next numbers is
next_counts (outcome.Acted number lane act (Some telegram)) next numbers tells is = drawn_counts next numbers is
next_counts (outcome.Acted number lane act None) next numbers tells is = is
next_counts (outcome.Answered challenge (Some telegram)) next numbers tells is = drawn_counts next numbers is
next_counts (outcome.Answered challenge None) next numbers tells is = is
next_counts said next numbers tells is = is

-- ---- the steps of a run

abbrev Adds : Type 0
Adds = Event → List TelegramAt → NodeAt → StepOutcome → Option Standing → List ℕ → List ℕ

-- a number of a standing that a step makes the greatest, with those that it adds
record IsFollowed (value : Standing → ℕ) (adds : Adds) : Type 0 where
  goes : (e : Event) (air : List TelegramAt) (n : NodeAt) (s : Standing) (said : StepOutcome) (numbers : List ℕ)
      → Stands s n → said ≡ (call_of e air n.config s).outcome → value s ≡ greatest numbers
      → value (call_of e air n.config s).after ≡ greatest (adds e air n said (Some s) numbers)
  starts : (e : Event) (air : List TelegramAt) (n : NodeAt) (said : StepOutcome) (numbers : List ℕ)
      → value (started n.config (numbers_in (length n.config.lanes) n.octets))
      ≡ greatest (adds e air n said None numbers)

marks_followed : (lane : ℕ) → IsFollowed (λ s. slice_index s.numbers.marks lane) (with_marks lane)
marks_followed lane = record {
  goes = λ e air n s said numbers stands is. call_counts lane n.config s stands.each_lane e air numbers;
  starts = λ e air n said numbers. omega arith;
}

next_followed : IsFollowed (λ s. s.next) with_next
next_followed = record {
  goes = λ e air n s said numbers stands is was.
      let c : Transition StepOutcome = call_of e air n.config s in
      let d : Draws c.outcome c.raises c.after s = call_draws e air n.config s stands.next_fits in
      d.next ∙ next_counts c.outcome s.next numbers (call_tells e air n.config s) was
      ∙ ap (λ said. greatest (next_told s.next said ++ numbers)) (sym is);
  starts = λ e air n said numbers. omega arith;
}

-- where the node runs it is the greatest of these
abbrev Follows : (Standing → ℕ) → NodeAt → List ℕ → Type 0
Follows value n numbers = (s : Standing) → n.standing ≡ Some s → value s ≡ greatest numbers

module _ (value : Standing → ℕ) (adds : Adds) (followed : IsFollowed value adds) where
  follows_step : (e : Event) (air : List TelegramAt) (n n' : NodeAt) (said : StepOutcome) (numbers : List ℕ)
      → StepsTo e air n said n' → AllStand n → Follows value n numbers
      → Follows value n' (adds e air n said n.standing numbers)
  follows_step e air n n' said numbers (inl g) stand follows = λ s now.
      let c : Transition StepOutcome = call_of e air n.config g.before in
      ap value (some_same s c.after (sym now ∙ g.now))
      ∙ subst (λ st. value c.after ≡ greatest (adds e air n said st numbers)) (sym g.was)
      (followed.goes e air n g.before said numbers (stand g.before g.was) g.outcome_is (follows g.before g.was))
  follows_step e air n n' said numbers (inr (inl st)) stand follows = λ s now.
      elim (none-some s (sym st.now ∙ now)) [ ]
  follows_step e air n n' said numbers (inr (inr (inl st))) stand follows = λ s now.
      let first : Standing = started n.config (numbers_in (length n.config.lanes) n.octets) in
      ap value (some_same s first (sym now ∙ st.now))
      ∙ subst (λ before. value first ≡ greatest (adds e air n said before numbers)) (sym st.was)
      (followed.starts e air n said numbers)
  follows_step e air n n' said numbers (inr (inr (inr st))) stand follows = λ s now.
      elim (none-some s (sym st.now ∙ now)) [ ]

  follows_at : (e : Event) (w : WorldAt) (place : ℕ) (numbers : List ℕ) (here : Bool)
      → is_at place (place_of e) ≡ here → place < length w.nodes → AllStand (node_in w place)
      → Follows value (node_in w place) numbers
      → Follows value (node_in (after e w) place)
      (if here then adds e w.air (node_in w place) (step_of e w).outcome (node_in w place).standing numbers
      else numbers)
  follows_at e w place numbers true here below stand follows =
      let step : IsSteppedAt e w place = stepped_at e w place (is_its_place e place here) below in
      follows_step e w.air (node_in w place) (node_in (after e w) place) (step_of e w).outcome numbers step.steps stand
      follows
  follows_at e w place numbers false other below stand follows =
      subst (λ n. Follows value n numbers) (sym (stays_at e w place other)) follows

  following : (events : List Event) (w : WorldAt) (place : ℕ) (numbers : List ℕ) → place < length w.nodes
      → AreHeld events w → AllStand (node_in w place) → Follows value (node_in w place) numbers
      → Follows value (node_in (world_after events w) place) (since adds place events w numbers)
  following [] w place numbers below held stand follows = follows
  following (e ∷ events) w place numbers below held stand follows =
      let here = is_at place (place_of e) in
      let n = node_in w place in
      let same = same_size e w in
      following events (after e w) place
      (if here then adds e w.air n (step_of e w).outcome n.standing numbers else numbers)
      (omega (arith, below, same)) held.1 (stands_after e w place here refl held.0 stand)
      (follows_at e w place numbers here refl below stand follows)

-- ---- from the first world on

module _ (rows : List Row) (nodes : List NodeRow) (w : WorldAt) (history : List Step) (place : ℕ) (row : NodeRow)
    (run : IsRunOf rows nodes w history) (held : AreHeld (events_of history) (first_world rows nodes))
    (is : slice_get nodes place ≡ Some row) where
  follows_all : (value : Standing → ℕ) (adds : Adds) → IsFollowed value adds → (number : ℕ)
      → value (started (configured row.address rows row.objects) (first_numbers row)) ≡ greatest (number ∷ [])
      → Follows value (node_in w place)
      (since adds place (events_of history) (first_world rows nodes) (number ∷ []))
  follows_all value adds followed number first_is =
      let at : IsFirstAt rows nodes place row = first_at rows nodes place row run.installation is in
      let first : WorldAt = first_world rows nodes in
      let starts : Follows value (first_node rows row) (number ∷ []) = λ s now.
      ap value (some_same s (started (configured row.address rows row.objects) (first_numbers row)) (sym now))
      ∙ first_is in
      subst (λ w. Follows value (node_in w place) (since adds place (events_of history) first (number ∷ [])))
      (sym run.world_is)
      (following value adds followed (events_of history) first place (number ∷ []) at.below held
      (λ s now. (at.fits.runs s now).stands) (subst (λ n. Follows value n (number ∷ [])) (sym at.node_is) starts))

  pub numbers_since : HasNumbersSince place row (events_of history) (first_world rows nodes) w
  numbers_since = record {
    marks = λ s lane now.
        follows_all (λ s. slice_index s.numbers.marks lane) (with_marks lane) (marks_followed lane)
        (slice_index row.marks lane) (omega arith) s now;
    next =
        let at : IsFirstAt rows nodes place row = first_at rows nodes place row run.installation is in
        let s : Standing = started (configured row.address rows row.objects) (first_numbers row) in
        let first_next : s.next ≡ row.next =
        (at.fits.runs s (ap (λ (n : NodeAt). n.standing) at.node_is)).next_is in
        λ s now. follows_all (λ s. s.next) with_next next_followed row.next (omega (arith, first_next)) s now;
  }
