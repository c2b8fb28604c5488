-- A taken answer whose number is kept leaves it as the mark of its lane: by the cases of its transition.
use Rattle.std.proofs.Common.{◌≡◌, inl, inr, ℕ, ◌<◌, ◌≤◌, List, [], ◌∷◌, length, Option, Some, None, refl, sym, ap, ◌∙◌, arith}
use Rattle.std.specs.Prelude.{slice_index, slice_set}
use Rattle.std.proofs.lemmas.List.{get_or-set_same}
use Rattle.std.proofs.lemmas.List.Quantifiers.{position-Some}
use Rattle.std.proofs.lemmas.Option.{none-some}
use Rattle.cemi_frames.specs.Faults.{frame_fault}
use Rattle.cemi_frames.specs.Reading.{frame_at}
use Rattle.cemi_frames.specs.declared.frame.NotFrame.{NotFrame}
use Rattle.key_tables.specs.declared.types.Lane.{Lane}
use Rattle.key_tables.specs.Lanes.{same_lane}
use Rattle.judge_rules.specs.Parts.{source_of}
use Rattle.judge_rules.specs.Checks.{Kept, lane_in, verdict_of, kept_by, opened_by}
use Rattle.seq_store.specs.Runs.{Numbers, after_raises}
use Rattle.sync_service.specs.Open.{asked_of}
use Rattle.node_core.specs.declared.outcome.Addressee.{Addressee}
use Rattle.node_core.specs.declared.outcome.Outcome.{Outcome}
use Rattle.node_core.specs.Standing.{ConfigState, Standing, raised, place_in, mark_at}
use Rattle.node_core.specs.Sending.{send_transition, tool_transition, ask_transition}
use Rattle.node_core.specs.Receiving.{addressee, kept_raises, telegram_transition, addressed_transition, frame_transition}
use Rattle.script_text.specs.declared.event.Event.{Event}
use Rattle.script_text.specs.declared.event.Event.TheVariants as event
use Rattle.step_text.specs.declared.outcome.StepOutcome.{StepOutcome}
use Rattle.step_text.specs.declared.outcome.StepOutcome.TheVariants as outcome
use Rattle.install_run.specs.Turn.{receive_told}
use Rattle.install_run.specs.Machine.{TelegramAt, WorldAt, telegram_in, heard, node_in}
use Rattle.install_run.specs.Marks.{marks_by}
use Rattle.install_run.specs.Runs.{place_of, is_at, after, step_of}
use Rattle.install_run.specs.Calls.{deliver_call, call_of}
use Rattle.install_run.specs.Histories.{next_after}
use Rattle.install_run.specs.Journals.{mark_on}
use Rattle.install_run.specs.Origin.{AreHeld}
use Rattle.install_run.specs.Synchronising.{taken_in, brought, IsTaken, TakenPass}
use Rattle.install_run.proofs.Counting.{verdict_marks}
use Rattle.install_run.proofs.Marking.{AllStand, stands_after}
use Rattle.install_run.proofs.Replying.{none_set_by, none_sent, passes_above, if_some}
use Rattle.install_run.proofs.Sounding.{some_same}
use Rattle.install_run.proofs.Steps.{StepsTo, IsSteppedAt, stepped_at, same_size, is_its_place}

-- what is kept of these octets on this lane
abbrev kept_here : ConfigState → Standing → List ℕ → Lane → Kept
kept_here c s octets lane =
    kept_by c.rows (mark_at s.numbers.marks (place_in c lane)) (asked_of s.pending (source_of (frame_at octets)))
    (frame_at octets)

-- The octets have a lane, and these marks are those before with what is kept on it.
record Keeps (c : ConfigState) (s : Standing) (octets : List ℕ) (marks : List ℕ) : Type 0 where
  lane : Lane
  lane_is : lane_in c.rows (frame_at octets) ≡ Some lane
  marks_are : marks ≡ (after_raises (kept_raises (place_in c lane) (kept_here c s octets lane)) s.numbers).marks

module _ (count : ℕ) where
  abbrev Takes : Outcome → ℕ → Type 0
  Takes o number = taken_in (receive_told count o) ≡ Some number

  telegram_keeps : (c : ConfigState) (s : Standing) (octets : List ℕ) (to : Addressee) (lane : Option Lane)
      (number : ℕ) → lane_in c.rows (frame_at octets) ≡ lane
      → (let t = telegram_transition c s (frame_at octets) to lane in
      Takes t.outcome number → Keeps c s octets t.after.numbers.marks)
  telegram_keeps c s octets to None number lane_is is = absurd cc
  telegram_keeps c s octets to (Some lane) number lane_is is =
      let t = frame_at octets in
      let mark = mark_at s.numbers.marks (place_in c lane) in
      let asked = asked_of s.pending (source_of t) in
      let raises = kept_raises (place_in c lane) (kept_here c s octets lane) in
      record {
        lane = lane;
        lane_is = lane_is;
        marks_are = verdict_marks c (raised raises s) (source_of t) to lane (opened_by c.rows asked t)
            (verdict_of c.rows mark asked t);
      }

  addressed_keeps : (c : ConfigState) (s : Standing) (octets : List ℕ) (to : Option Addressee) (number : ℕ)
      → (let t = addressed_transition c s (frame_at octets) to in
      Takes t.outcome number → Keeps c s octets t.after.numbers.marks)
  addressed_keeps c s octets None number is = absurd cc
  addressed_keeps c s octets (Some to) number is =
      telegram_keeps c s octets to (lane_in c.rows (frame_at octets)) number refl is

  frame_keeps : (c : ConfigState) (s : Standing) (octets : List ℕ) (f : Option NotFrame) (number : ℕ)
      → (let t = frame_transition c s f (frame_at octets) in
      Takes t.outcome number → Keeps c s octets t.after.numbers.marks)
  frame_keeps c s octets (Some f) number is = absurd cc
  frame_keeps c s octets None number is = addressed_keeps c s octets (addressee c (frame_at octets)) number is

-- ---- of a call

record CallKeeps (brings : Option (List ℕ)) (c : ConfigState) (s : Standing) (marks : List ℕ) : Type 0 where
  octets : List ℕ
  brings_is : brings ≡ Some octets
  keeps : Keeps c s octets marks

deliver_keeps : (count : ℕ) (c : ConfigState) (s : Standing) (octets : Option (List ℕ)) (number : ℕ)
    → taken_in (deliver_call count c s octets).outcome ≡ Some number
    → CallKeeps octets c s (deliver_call count c s octets).after.numbers.marks
deliver_keeps count c s None number is = absurd cc
deliver_keeps count c s (Some octets) number is = record {
  octets = octets;
  brings_is = refl;
  keeps = frame_keeps count c s octets (frame_fault octets) number is;
}

call_keeps : (e : Event) (air : List TelegramAt) (c : ConfigState) (s : Standing) (number : ℕ)
    → taken_in (call_of e air c s).outcome ≡ Some number
    → CallKeeps (brought e air) c s (call_of e air c s).after.numbers.marks
call_keeps (event.Set node object value) air c s number is =
    elim (none-some number (sym (none_set_by s object value).takes ∙ is)) [ ]
call_keeps (event.Send node object service) air c s number is =
    elim (none-some number (sym (none_sent (length air) (send_transition c s object service).outcome).takes ∙ is)) [ ]
call_keeps (event.ToolSend node to apdu) air c s number is =
    elim (none-some number (sym (none_sent (length air) (tool_transition c s to apdu).outcome).takes ∙ is)) [ ]
call_keeps (event.Ask node to challenge) air c s number is =
    elim (none-some number (sym (none_sent (length air) (ask_transition c s to challenge).outcome).takes ∙ is)) [ ]
call_keeps (event.Deliver telegram node) air c s number is =
    deliver_keeps (length air) c s (heard (telegram_in air telegram)) number is
call_keeps (event.Lose telegram) air c s number is = absurd cc
call_keeps (event.Inject octets) air c s number is = absurd cc
call_keeps (event.Off node) air c s number is = absurd cc
call_keeps (event.On node) air c s number is = absurd cc
call_keeps (event.Cut node write torn) air c s number is = absurd cc
call_keeps (event.Fault node write torn) air c s number is = absurd cc

-- ---- the mark afterwards

kept_under : (place : Option ℕ) (kept : Kept) (n : Numbers) (lane : Lane) (number : ℕ) → kept ≡ Some (lane, number)
    → ((k : ℕ) → place ≡ Some k → k < length n.marks)
    → mark_at (after_raises (kept_raises place kept) n).marks place ≤ number
kept_under None kept n lane number is within = omega arith
kept_under (Some place) None n lane number is within = absurd cc
kept_under (Some place) (Some kept) n lane number is within =
    let here : slice_index (slice_set n.marks place kept.1) place ≡ kept.1 =
    get_or-set_same n.marks place kept.1 0 (within place refl) in
    let same : kept.1 ≡ number = ap (λ (k : Lane × ℕ). k.1) (some_same kept (lane, number) is) in
    omega (arith, here, same)

-- what tells no number takes nothing
silent_none : (said : StepOutcome) → ((next : ℕ) → next_after next said ≡ next) → taken_in said ≡ None
silent_none (outcome.Synced number kept then_next) stays =
    let zero = stays 0 in let one = stays 1 in absurd (omega (arith, zero, one))
silent_none said stays = refl

pub taken_step : (e : Event) (w : WorldAt) (place number : ℕ) (said : StepOutcome)
    → StepsTo e w.air (node_in w place) said (node_in (after e w) place)
    → (node_in (after e w) place).config ≡ (node_in w place).config → AllStand (node_in w place)
    → taken_in said ≡ Some number → IsTaken e w place number
taken_step e w place number said (inl g) config stand is =
    let n = node_in w place in
    let n' = node_in (after e w) place in
    let s = g.before in
    let call = call_of e w.air n.config s in
    let lanes = (stand s g.was).each_lane in
    let r = call_keeps e w.air n.config s number (sym (ap taken_in g.outcome_is) ∙ is) in
    let at = place_in n.config r.keeps.lane in
    let asked = asked_of s.pending (source_of (frame_at r.octets)) in
    let was : mark_on w place r.keeps.lane ≡ mark_at s.numbers.marks at = ap (λ st. mark_at (marks_by n st) at) g.was in
    let now : mark_on (after e w) place r.keeps.lane ≡ mark_at call.after.numbers.marks at =
    (λ i. mark_at (marks_by n' (g.now i)) (place_in (config i) r.keeps.lane)) in
    let then_is : mark_at call.after.numbers.marks at
    ≡ mark_at (after_raises (kept_raises at (kept_here n.config s r.octets r.keeps.lane)) s.numbers).marks at =
    ap (λ m. mark_at m at) r.keeps.marks_are in
    record {
      before = s;
      runs = g.was;
      answer = r.octets;
      brings = r.brings_is;
      lane = r.keeps.lane;
      lane_is = r.keeps.lane_is;
      passes = λ keeps.
          let under = kept_under at (kept_here n.config s r.octets r.keeps.lane) s.numbers r.keeps.lane number
          (ap (λ m. kept_by n.config.rows m asked (frame_at r.octets)) (sym was) ∙ keeps)
          (λ k is. let found = (position-Some (same_lane r.keeps.lane) n.config.lanes k r.keeps.lane is).0 in
          omega (arith, found, lanes)) in
          passes_above number (after e w) place r.keeps.lane (omega (arith, now, then_is, under));
    }
taken_step e w place number said (inr (inl st)) config stand is =
    elim (none-some number (sym (silent_none said st.silent.next) ∙ is)) [ ]
taken_step e w place number said (inr (inr (inl st))) config stand is =
    elim (none-some number (sym (ap taken_in st.outcome_is) ∙ is)) [ ]
taken_step e w place number said (inr (inr (inr st))) config stand is =
    elim (none-some number (sym (silent_none said st.silent.next) ∙ is)) [ ]

pub taken_pass : (events : List Event) (w : WorldAt) (place : ℕ) → place < length w.nodes → AreHeld events w
    → AllStand (node_in w place) → TakenPass place events w
taken_pass [] w place below held stand = tt
taken_pass (e ∷ events) w place below held stand =
    let same = same_size e w in (
      λ here. let step : IsSteppedAt e w place = stepped_at e w place (is_its_place e place here) below in
          if_some (λ number. IsTaken e w place number) (taken_in (step_of e w).outcome)
          (λ number is. taken_step e w place number (step_of e w).outcome step.steps step.config stand is),
      taken_pass events (after e w) place (omega (arith, below, same)) held.1
          (stands_after e w place (is_at place (place_of e)) refl held.0 stand),
    )
