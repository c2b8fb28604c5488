-- The reply of a node tells the greater of the requester's marks: by the cases of its transition.
use Rattle.std.proofs.Common.{◌≡◌, inl, inr, ℕ, ◌+◌, ◌<◌, ◌≤◌, List, [], ◌∷◌, length, nat_lt, Bool, true, false, Option, Some, None, Result, Ok, Err, refl, sym, ap, ◌∙◌, subst, arith}
use Rattle.std.specs.Prelude.{◌^◌, ◌==◌, max, slice_get, if◌then◌else◌, IfSome}
use Rattle.std.proofs.lemmas.Bool.Decides.{nat_tests}
use Rattle.std.proofs.lemmas.Option.{none-some}
use Rattle.knx_base.specs.declared.address.GroupAddr.{GroupAddr}
use Rattle.cemi_frames.specs.Faults.{frame_fault}
use Rattle.cemi_frames.specs.Reading.{frame_at}
use Rattle.cemi_frames.specs.declared.frame.NotFrame.{NotFrame}
use Rattle.plain_apdu.specs.declared.object.BadObject.{BadObject}
use Rattle.plain_apdu.specs.declared.service.Service.{Service}
use Rattle.key_tables.specs.declared.types.Channel.{Channel}
use Rattle.key_tables.specs.declared.types.Lane.{Lane}
use Rattle.key_tables.specs.declared.types.Lane.TheVariants as lanes
use Rattle.key_tables.specs.declared.types.Row.{Row}
use Rattle.key_tables.specs.Rows.{key_of}
use Rattle.judge_rules.specs.declared.verdict.Verdict.{Verdict}
use Rattle.judge_rules.specs.declared.verdict.Verdict.TheVariants as verdict
use Rattle.judge_rules.specs.Parts.{source_of}
use Rattle.judge_rules.specs.Checks.{lane_in, verdict_of, kept_by, opened_by}
use Rattle.nvm_model.specs.declared.fault.NvmFault.TheVariants as nvm
use Rattle.group_objects.specs.declared.row.ObjectRow.{ObjectRow}
use Rattle.group_objects.specs.declared.row.Effect.{Effect}
use Rattle.group_objects.specs.declared.row.Effect.TheVariants as effect
use Rattle.group_objects.specs.declared.objects.SetFault.{SetFault}
use Rattle.group_objects.specs.declared.objects.SetFault.TheVariants as refused
use Rattle.group_objects.specs.Value.{ObjectValue}
use Rattle.group_objects.specs.Effects.{accepted}
use Rattle.group_objects.specs.Objects.{set_refusal}
use Rattle.sync_service.specs.Frames.{answer_frame}
use Rattle.sync_service.specs.Open.{asked_of}
use Rattle.node_core.specs.declared.fault.SendFault.{SendFault}
use Rattle.node_core.specs.declared.fault.SendFault.TheVariants as fault
use Rattle.node_core.specs.declared.outcome.Addressee.{Addressee}
use Rattle.node_core.specs.declared.outcome.Addressee.TheVariants.{Device, Object}
use Rattle.node_core.specs.declared.outcome.Outcome.{Outcome}
use Rattle.node_core.specs.declared.outcome.Outcome.TheVariants as received
use Rattle.node_core.specs.Standing.{ConfigState, Standing, raised, with_value, place_in, mark_at}
use Rattle.node_core.specs.Transition.{Transition, quiet}
use Rattle.node_core.specs.Sending.{sealing, under_key, on_channel, device_channel, send_transition, tool_transition, ask_transition, set_unless, set_transition}
use Rattle.node_core.specs.Receiving.{addressee, kept_raises, number_sent, reply_transition, effect_transition, row_transition, act_transition, mark_told, verdict_transition, telegram_transition, addressed_transition, frame_transition}
use Rattle.script_text.specs.declared.event.Event.{Event}
use Rattle.script_text.specs.declared.event.Event.TheVariants as event
use Rattle.step_text.specs.declared.outcome.StepOutcome.{StepOutcome}
use Rattle.step_text.specs.declared.outcome.StepOutcome.TheVariants as outcome
use Rattle.install_run.specs.Turn.{set_told, send_told, receive_told}
use Rattle.install_run.specs.Machine.{TelegramAt, WorldAt, has_telegram, telegram_in, heard, node_in}
use Rattle.install_run.specs.Marks.{marks_by}
use Rattle.install_run.specs.Runs.{after, step_of}
use Rattle.install_run.specs.Calls.{deliver_call, call_of}
use Rattle.install_run.specs.Journals.{mark_on}
use Rattle.install_run.specs.Synchronising.{answered_in, taken_in, PassesAbove, brought, IsReply, RepliesTellMarks}
use Rattle.install_run.proofs.Counting.{channel_marks}
use Rattle.install_run.proofs.Sounding.{some_same}
use Rattle.install_run.proofs.Steps.{StepsTo, IsSteppedAt, stepped_at, same_size, is_its_place}

-- ---- only what is received is answered or taken

pub record IsNone (said : StepOutcome) : Type 0 where
  pub answers : answered_in said ≡ None
  pub takes : taken_in said ≡ None

pub none_set : (refusal : Option SetFault) → IsNone (set_told refusal)
none_set None = record { answers = refl; takes = refl }
none_set (Some refused.NoObject) = record { answers = refl; takes = refl }
none_set (Some refused.Size) = record { answers = refl; takes = refl }

set_said : (refusal : Option SetFault) (s new : Standing) → (set_unless refusal s new).outcome ≡ refusal
set_said None s new = refl
set_said (Some f) s new = refl

pub none_set_by : (s : Standing) (object : ℕ) (value : ObjectValue)
    → IsNone (set_told (set_transition s object value).outcome)
none_set_by s object value =
    let refusal = set_refusal (slice_get s.values object) value in
    subst (λ r. IsNone (set_told r)) (sym (set_said refusal s (with_value object value s))) (none_set refusal)

pub none_sent : (count : ℕ) (sent : Result ℕ SendFault) → IsNone (send_told count sent)
none_sent count (Ok number) = record { answers = refl; takes = refl }
none_sent count (Err fault.NoObject) = record { answers = refl; takes = refl }
none_sent count (Err fault.Flag) = record { answers = refl; takes = refl }
none_sent count (Err fault.NoKey) = record { answers = refl; takes = refl }
none_sent count (Err fault.Exhausted) = record { answers = refl; takes = refl }
none_sent count (Err (fault.Memory nvm.Cut)) = record { answers = refl; takes = refl }
none_sent count (Err (fault.Memory nvm.Failed)) = record { answers = refl; takes = refl }

-- ---- the frame of a reply

-- a frame was sealed under the next number, with the key of this channel
record Seals (rows : List Row) (found : Option Channel) (frame : List ℕ → ℕ → List ℕ) (next : ℕ)
    (sent : Option (List ℕ)) : Type 0 where
  channel : Channel
  channel_is : found ≡ Some channel
  key : List ℕ
  key_is : key_of rows channel ≡ Some key
  is : sent ≡ Some (frame key next)

-- the reply of a transition to a request of this lane, and the marks that it leaves
record Replies (c : ConfigState) (s : Standing) (request : List ℕ) (t : Transition Outcome) (challenge : List ℕ)
    : Type 0 where
  lane : Lane
  lane_is : lane_in c.rows (frame_at request) ≡ Some lane
  channel : Channel
  channel_is : device_channel c (source_of (frame_at request)) ≡ Some channel
  key : List ℕ
  key_is : key_of c.rows channel ≡ Some key
  frame_is : t.frame
      ≡ Some (answer_frame key c.address (source_of (frame_at request)) s.next challenge
      (mark_told c t.after (source_of (frame_at request)) lane))

module _ (count : ℕ) where
  abbrev Says : Outcome → List ℕ × ℕ → Type 0
  Says o answered = answered_in (receive_told count o) ≡ Some answered

  -- it is the answer to this challenge, and its frame is this one
  record SealsOne (sent : Option (List ℕ)) (frame : List ℕ) (challenge : List ℕ) (answered : List ℕ × ℕ)
      : Type 0 where
    is : sent ≡ Some frame
    challenge_is : challenge ≡ answered.0

  drawing_seals : (none_left : Bool) (frame : ℕ → List ℕ) (challenge : List ℕ) (s : Standing)
      (answered : List ℕ × ℕ)
      → (let t : Transition (Result ℕ SendFault) =
      if none_left then quiet s (Err fault.Exhausted) else sealing frame s in
      Says (received.Answered challenge (number_sent t.outcome)) answered
      → SealsOne t.frame (frame s.next) challenge answered)
  drawing_seals true frame challenge s answered is = absurd cc
  drawing_seals false frame challenge s answered is = record {
    is = refl;
    challenge_is = ap (λ (a : List ℕ × ℕ). a.0) (some_same (challenge, count + 1) answered is);
  }

  key_seals : (rows : List Row) (channel : Channel) (key : Option (List ℕ)) (frame : List ℕ → ℕ → List ℕ)
      (challenge : List ℕ) (s : Standing) (answered : List ℕ × ℕ) → key_of rows channel ≡ key
      → (let t = under_key key frame s in
      Says (received.Answered challenge (number_sent t.outcome)) answered
      → Seals rows (Some channel) frame s.next t.frame × (challenge ≡ answered.0))
  key_seals rows channel None frame challenge s answered key_is is = absurd cc
  key_seals rows channel (Some key) frame challenge s answered key_is is =
      let one = drawing_seals (s.next == 2 ^ 48) (frame key) challenge s answered is in (
        record { channel = channel; channel_is = refl; key = key; key_is = key_is; is = one.is },
        one.challenge_is,
      )

  channel_seals : (c : ConfigState) (found : Option Channel) (frame : List ℕ → ℕ → List ℕ) (challenge : List ℕ)
      (s : Standing) (answered : List ℕ × ℕ)
      → (let t = on_channel c s found frame in
      Says (received.Answered challenge (number_sent t.outcome)) answered
      → Seals c.rows found frame s.next t.frame × (challenge ≡ answered.0))
  channel_seals c None frame challenge s answered is = absurd cc
  channel_seals c (Some found) frame challenge s answered is =
      key_seals c.rows found (key_of c.rows found) frame challenge s answered refl is

  -- ---- an act is no answer, and takes none

  reply_none : (c : ConfigState) (s : Standing) (number : ℕ) (lane : Lane) (object : ℕ) (group : GroupAddr)
      (value : Option ObjectValue)
      → IsNone (receive_told count (reply_transition c s number lane object group value).outcome)
  reply_none c s number lane object group (Some value) = record { answers = refl; takes = refl }
  reply_none c s number lane object group None = record { answers = refl; takes = refl }

  effect_none : (c : ConfigState) (s : Standing) (number : ℕ) (lane : Lane) (object : ℕ) (row : ObjectRow)
      (does : Result Effect BadObject)
      → IsNone (receive_told count (effect_transition c s number lane object row does).outcome)
  effect_none c s number lane object row (Err bad) = record { answers = refl; takes = refl }
  effect_none c s number lane object row (Ok effect.Read) =
      reply_none c s number lane object row.group (slice_get s.values object)
  effect_none c s number lane object row (Ok (effect.Write value)) = record { answers = refl; takes = refl }
  effect_none c s number lane object row (Ok (effect.Response value)) = record { answers = refl; takes = refl }

  row_none : (c : ConfigState) (s : Standing) (number : ℕ) (lane : Lane) (object : ℕ) (apdu : List ℕ)
      (row : Option ObjectRow)
      → IsNone (receive_told count (row_transition c s number lane object apdu row).outcome)
  row_none c s number lane object apdu (Some row) = effect_none c s number lane object row (accepted row apdu)
  row_none c s number lane object apdu None = record { answers = refl; takes = refl }

  pub act_none : (c : ConfigState) (s : Standing) (to : Addressee) (lane : Lane) (number : ℕ) (service : Service)
      (apdu : List ℕ) → IsNone (receive_told count (act_transition c s to lane number service apdu).outcome)
  act_none c s Device lane number service apdu = record { answers = refl; takes = refl }
  act_none c s (Object object) lane number service apdu =
      row_none c s number lane object apdu (slice_get c.objects object)

  -- ---- a request

  verdict_replies : (c : ConfigState) (s : Standing) (request : List ℕ) (to : Addressee) (lane : Lane) (apdu : List ℕ)
      (said : Verdict) (answered : List ℕ × ℕ) → lane_in c.rows (frame_at request) ≡ Some lane
      → (let t = verdict_transition c s (source_of (frame_at request)) to lane apdu said in
      Says t.outcome answered → Replies c s request t answered.0)
  verdict_replies c s request to lane apdu (verdict.Accepted number service) answered lane_is is =
      elim (none-some answered (sym (act_none c s to lane number service apdu).answers ∙ is)) [ ]
  verdict_replies c s request to lane apdu (verdict.SyncAsk number challenge) answered lane_is is =
      let source = source_of (frame_at request) in
      let frame : List ℕ → ℕ → List ℕ =
      λ key number. answer_frame key c.address source number challenge (mark_told c s source lane) in
      let found = device_channel c source in
      let seals = channel_seals c found frame challenge s answered is in
      let now : List ℕ = (on_channel c s found frame).after.numbers.marks in
      let same : now ≡ s.numbers.marks = channel_marks c s found frame in
      record {
        lane = lane;
        lane_is = lane_is;
        channel = seals.0.channel;
        channel_is = seals.0.channel_is;
        key = seals.0.key;
        key_is = seals.0.key_is;
        frame_is = seals.0.is
            ∙ (λ i. Some (answer_frame seals.0.key c.address source s.next (seals.1 i)
            (max (mark_at (sym same i) (place_in c (lanes.Run source))) (mark_at (sym same i) (place_in c lane)))));
      }
  verdict_replies c s request to lane apdu said answered lane_is is = absurd cc

  telegram_replies : (c : ConfigState) (s : Standing) (request : List ℕ) (to : Addressee) (lane : Option Lane)
      (answered : List ℕ × ℕ) → lane_in c.rows (frame_at request) ≡ lane
      → (let t = telegram_transition c s (frame_at request) to lane in
      Says t.outcome answered → Replies c s request t answered.0)
  telegram_replies c s request to None answered lane_is is = absurd cc
  telegram_replies c s request to (Some lane) answered lane_is is =
      let t = frame_at request in
      let mark = mark_at s.numbers.marks (place_in c lane) in
      let asked = asked_of s.pending (source_of t) in
      let raises = kept_raises (place_in c lane) (kept_by c.rows mark asked t) in
      let r = verdict_replies c (raised raises s) request to lane (opened_by c.rows asked t)
      (verdict_of c.rows mark asked t) answered lane_is is in
      record {
        lane = r.lane;
        lane_is = r.lane_is;
        channel = r.channel;
        channel_is = r.channel_is;
        key = r.key;
        key_is = r.key_is;
        frame_is = r.frame_is;
      }

  addressed_replies : (c : ConfigState) (s : Standing) (request : List ℕ) (to : Option Addressee)
      (answered : List ℕ × ℕ)
      → (let t = addressed_transition c s (frame_at request) to in
      Says t.outcome answered → Replies c s request t answered.0)
  addressed_replies c s request None answered is = absurd cc
  addressed_replies c s request (Some to) answered is =
      telegram_replies c s request to (lane_in c.rows (frame_at request)) answered refl is

  frame_replies : (c : ConfigState) (s : Standing) (request : List ℕ) (f : Option NotFrame) (answered : List ℕ × ℕ)
      → (let t = frame_transition c s f (frame_at request) in
      Says t.outcome answered → Replies c s request t answered.0)
  frame_replies c s request (Some f) answered is = absurd cc
  frame_replies c s request None answered is =
      addressed_replies c s request (addressee c (frame_at request)) answered is

-- ---- of a call

-- the request that an event brings, and the reply of its call
record CallReplies (brings : Option (List ℕ)) (c : ConfigState) (s : Standing) (call : Transition StepOutcome)
    (challenge : List ℕ) : Type 0 where
  request : List ℕ
  brings_is : brings ≡ Some request
  lane : Lane
  lane_is : lane_in c.rows (frame_at request) ≡ Some lane
  channel : Channel
  channel_is : device_channel c (source_of (frame_at request)) ≡ Some channel
  key : List ℕ
  key_is : key_of c.rows channel ≡ Some key
  frame_is : call.frame
      ≡ Some (answer_frame key c.address (source_of (frame_at request)) s.next challenge
      (mark_told c call.after (source_of (frame_at request)) lane))

deliver_replies : (count : ℕ) (c : ConfigState) (s : Standing) (octets : Option (List ℕ)) (answered : List ℕ × ℕ)
    → answered_in (deliver_call count c s octets).outcome ≡ Some answered
    → CallReplies octets c s (deliver_call count c s octets) answered.0
deliver_replies count c s None answered is = absurd cc
deliver_replies count c s (Some request) answered is =
    let r = frame_replies count c s request (frame_fault request) answered is in
    record {
      request = request;
      brings_is = refl;
      lane = r.lane;
      lane_is = r.lane_is;
      channel = r.channel;
      channel_is = r.channel_is;
      key = r.key;
      key_is = r.key_is;
      frame_is = r.frame_is;
    }

call_replies : (e : Event) (air : List TelegramAt) (c : ConfigState) (s : Standing) (answered : List ℕ × ℕ)
    → answered_in (call_of e air c s).outcome ≡ Some answered
    → CallReplies (brought e air) c s (call_of e air c s) answered.0
call_replies (event.Set node object value) air c s answered is =
    elim (none-some answered (sym (none_set_by s object value).answers ∙ is)) [ ]
call_replies (event.Send node object service) air c s answered is =
    let none = none_sent (length air) (send_transition c s object service).outcome in
    elim (none-some answered (sym none.answers ∙ is)) [ ]
call_replies (event.ToolSend node to apdu) air c s answered is =
    let none = none_sent (length air) (tool_transition c s to apdu).outcome in
    elim (none-some answered (sym none.answers ∙ is)) [ ]
call_replies (event.Ask node to challenge) air c s answered is =
    let none = none_sent (length air) (ask_transition c s to challenge).outcome in
    elim (none-some answered (sym none.answers ∙ is)) [ ]
call_replies (event.Deliver telegram node) air c s answered is =
    deliver_replies (length air) c s (heard (telegram_in air telegram)) answered is
call_replies (event.Lose telegram) air c s answered is = absurd cc
call_replies (event.Inject octets) air c s answered is = absurd cc
call_replies (event.Off node) air c s answered is = absurd cc
call_replies (event.On node) air c s answered is = absurd cc
call_replies (event.Cut node write torn) air c s answered is = absurd cc
call_replies (event.Fault node write torn) air c s answered is = absurd cc

-- ---- what passes

passes_by : (below : Bool) (mark number : ℕ) → nat_lt mark number ≡ below → mark < number
    → (if below then None else Some (verdict.Stale mark number)) ≡ None
passes_by true mark number is under = refl
passes_by false mark number is under = absurd (grind (arith, nat_tests, is, under))

pub passes_above : (kept : ℕ) (w : WorldAt) (place : ℕ) (lane : Lane) → mark_on w place lane ≤ kept
    → PassesAbove kept w place lane
passes_above kept w place lane under = λ later number same above.
    passes_by (nat_lt (mark_on later place lane) number) (mark_on later place lane) number refl
    (omega (arith, under, same, above))

-- ---- of a step

-- what sends no telegram answers nothing
silent_none : (said : StepOutcome) → has_telegram said ≡ false → answered_in said ≡ None
silent_none (outcome.Answered challenge (Some telegram)) sends = absurd cc
silent_none (outcome.Answered challenge None) sends = refl
silent_none said sends = refl

pub reply_step : (e : Event) (w : WorldAt) (place : ℕ) (answered : List ℕ × ℕ) (said : StepOutcome)
    → StepsTo e w.air (node_in w place) said (node_in (after e w) place)
    → (node_in (after e w) place).config ≡ (node_in w place).config → answered_in said ≡ Some answered
    → IsReply e w place answered.0
reply_step e w place answered said (inl g) config is =
    let n = node_in w place in
    let n' = node_in (after e w) place in
    let s = g.before in
    let call = call_of e w.air n.config s in
    let r = call_replies e w.air n.config s answered (sym (ap answered_in g.outcome_is) ∙ is) in
    let source = source_of (frame_at r.request) in
    let mark : (lane : Lane) → mark_on (after e w) place lane
    ≡ mark_at call.after.numbers.marks (place_in n.config lane) =
    λ lane. (λ i. mark_at (marks_by n' (g.now i)) (place_in (config i) lane)) in
    let run = mark (lanes.Run source) in
    let its = mark r.lane in
    let kept = mark_told n.config call.after source r.lane in
    record {
      before = s;
      runs = g.was;
      request = r.request;
      brings = r.brings_is;
      lane = r.lane;
      lane_is = r.lane_is;
      channel = r.channel;
      channel_is = r.channel_is;
      key = r.key;
      key_is = r.key_is;
      kept = kept;
      sends = r.frame_is;
      kept_is = (λ i. max (sym run i) (sym its i));
      for_groups = passes_above kept (after e w) place (lanes.Run source) (omega (arith, run));
      on_lane = passes_above kept (after e w) place r.lane (omega (arith, its));
    }
reply_step e w place answered said (inr (inl st)) config is =
    elim (none-some answered (sym (silent_none said st.silent.sends) ∙ is)) [ ]
reply_step e w place answered said (inr (inr (inl st))) config is =
    elim (none-some answered (sym (ap answered_in st.outcome_is) ∙ is)) [ ]
reply_step e w place answered said (inr (inr (inr st))) config is =
    elim (none-some answered (sym (silent_none said st.silent.sends) ∙ is)) [ ]

pub if_some : {A : Type 0} (P : A → Type 0) (o : Option A) → ((a : A) → o ≡ Some a → P a) → IfSome o P
if_some P None each = tt
if_some P (Some a) each = each a refl

pub replies_tell : (events : List Event) (w : WorldAt) (place : ℕ) → place < length w.nodes
    → RepliesTellMarks place events w
replies_tell [] w place below = tt
replies_tell (e ∷ events) w place below =
    let same = same_size e w in (
      λ here. let step : IsSteppedAt e w place = stepped_at e w place (is_its_place e place here) below in
          if_some (λ answered. IsReply e w place answered.0) (answered_in (step_of e w).outcome)
          (λ answered is. reply_step e w place answered (step_of e w).outcome step.steps step.config is),
      replies_tell events (after e w) place (omega (arith, below, same)),
    )
