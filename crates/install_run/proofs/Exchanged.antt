-- The numbers of a taken answer are those of the reply: by the cases of both steps, and the way of the octets between.
use Rattle.std.proofs.Common.{◌≡◌, inl, inr, ℕ, suc, ◌+◌, ◌-◌, ◌<◌, List, [], ◌∷◌, ◌++◌, length, Bool, true, false, Option, Some, None, refl, sym, ap, ◌∙◌, subst, arith}
use Rattle.std.specs.Prelude.{◌==◌, ◌^◌, option_map, if◌then◌else◌, IfSome}
use Rattle.std.specs.List.{All}
use Rattle.std.proofs.lemmas.Bool.Decides.{nat_tests}
use Rattle.std.proofs.lemmas.List.{length-map}
use Rattle.std.proofs.lemmas.List.Elements.{All-nil, All-cons}
use Rattle.std.proofs.lemmas.Option.{none-some, slice_get_cases}
use Rattle.knx_base.specs.declared.address.IndAddr.{IndAddr}
use Rattle.cemi_frames.specs.Faults.{frame_fault}
use Rattle.cemi_frames.specs.Frames.{Telegram}
use Rattle.cemi_frames.specs.Reading.{frame_at}
use Rattle.cemi_frames.specs.declared.frame.NotFrame.{NotFrame}
use Rattle.key_tables.specs.declared.types.Lane.{Lane}
use Rattle.key_tables.specs.declared.types.Lane.TheVariants as lanes
use Rattle.key_tables.specs.declared.types.Row.{Row}
use Rattle.key_tables.specs.Rows.{key_of, channel_of}
use Rattle.judge_rules.specs.declared.verdict.Verdict.{Verdict}
use Rattle.judge_rules.specs.declared.verdict.Verdict.TheVariants as verdict
use Rattle.judge_rules.specs.Parts.{is_group, source_of}
use Rattle.judge_rules.specs.Checks.{lane_in, verdict_of, kept_by, opened_by}
use Rattle.sync_service.specs.Frames.{answer_frame}
use Rattle.sync_service.specs.Open.{Pending, asked_of}
use Rattle.sync_service.specs.declared.pending.OpenChallenge.{OpenChallenge}
use Rattle.exchange_law.specs.Exchange.{IsBetween, OrSender, IsUnder}
use Rattle.exchange_law.proofs.Exchanges.{channel_between, are_between}
use Rattle.exchange_law.proofs.Shown.{answer_is_judged}
use Rattle.nvm_model.specs.Plan.{Struck}
use Rattle.nvm_model.specs.declared.fault.NvmFault.{NvmFault}
use Rattle.nvm_model.specs.declared.fault.NvmFault.TheVariants as nvm
use Rattle.seq_store.specs.Draws.{reservation_for}
use Rattle.group_objects.specs.Objects as objects
use Rattle.node_core.specs.declared.outcome.Addressee.{Addressee}
use Rattle.node_core.specs.declared.outcome.Addressee.TheVariants.{Device, Object}
use Rattle.node_core.specs.declared.outcome.Outcome.{Outcome}
use Rattle.node_core.specs.declared.outcome.Outcome.TheVariants as received
use Rattle.node_core.specs.Node.{handed}
use Rattle.node_core.specs.Config.{configured}
use Rattle.node_core.specs.Standing.{ConfigState, Standing, raised, place_in, mark_at, started}
use Rattle.node_core.specs.Receiving.{addressee, kept_raises, verdict_transition, telegram_transition, addressed_transition, frame_transition, receive_transition}
use Rattle.script_text.specs.Parts.{IsChallenge}
use Rattle.script_text.specs.Script.{IsEvent}
use Rattle.script_text.specs.declared.event.Event.{Event}
use Rattle.script_text.specs.declared.event.Event.TheVariants as event
use Rattle.script_text.specs.declared.node_row.NodeRow.{NodeRow}
use Rattle.step_text.specs.declared.outcome.Step.{Step}
use Rattle.step_text.specs.declared.outcome.StepOutcome.{StepOutcome}
use Rattle.step_text.specs.declared.outcome.StepOutcome.TheVariants as outcome
use Rattle.install_run.specs.Turn.{NodeAt, Turn, struck_by, turn_by, receive_told, receive_turn}
use Rattle.install_run.specs.Machine.{WorldAt, put_on_air, telegrams_of, has_telegram, telegram_in, heard, node_in}
use Rattle.install_run.specs.Runs.{place_of, is_at, after, step_of, world_after, history_of}
use Rattle.install_run.specs.Calls.{deliver_call}
use Rattle.install_run.specs.First.{first_numbers, first_node, first_world}
use Rattle.install_run.specs.Following.{asked_after}
use Rattle.install_run.specs.Histories.{Draw, draws, outcomes_of, next_after, reserved_after}
use Rattle.install_run.specs.Journals.{mark_on}
use Rattle.install_run.specs.Origin.{IsInstallation, HoldsAfter, AreHeld, IsRunOf, events_of}
use Rattle.install_run.specs.Sealed.{next_of}
use Rattle.install_run.specs.Synchronising.{answered_in, taken_in, kept_told, AreAbove, PassesAbove, IsReply}
use Rattle.install_run.specs.Exchanged.{Exchange, answering, taking, events_after, events_from, answered, waiting, taken, from_address, to_address, IsExchanged, TellsTheSame, EndsTellTheSame}
use Rattle.install_run.proofs.Fitted.{max_fits, marks_fit}
use Rattle.install_run.proofs.Following.{HasOpen, open_after}
use Rattle.install_run.proofs.Lasting.{HasOctets, put_there, lasts, heard_is}
use Rattle.install_run.proofs.Legality.{in_range}
use Rattle.install_run.proofs.Marking.{AllStand, stands_after}
use Rattle.install_run.proofs.Numbering.{is_next}
use Rattle.install_run.proofs.Replying.{act_none, reply_step}
use Rattle.install_run.proofs.Rising.{GoesOn, goes_on, IsFirstAt, first_at, Rises, rising, all_above}
use Rattle.install_run.proofs.Sealing.{HasDrawn, has_drawn, FitsFrom, Passes, passed}
use Rattle.install_run.proofs.Sounding.{some_same}
use Rattle.install_run.proofs.Steps.{IsSteppedAt, stepped_at, same_size}
use Rattle.install_run.proofs.Synchronised.{RunsAbove, above}
use Rattle.install_run.proofs.Synchronised as synced
use Rattle.install_run.proofs.Taken as of_answer

-- ---- what the responder puts on the air

-- what a request makes of a node that runs: it hands out the frame of its call, and says the number of the telegram
record Sends (count : ℕ) (c : ConfigState) (s : Standing) (request : Option (List ℕ)) (turn : Turn)
    (reply : List ℕ × ℕ) : Type 0 where
  sent_is : turn.sent ≡ (deliver_call count c s request).frame
  telegram_is : reply.1 ≡ suc count

module _ (count : ℕ) where
  said_telegram : (o : Outcome) (reply : List ℕ × ℕ) → answered_in (receive_told count o) ≡ Some reply
      → reply.1 ≡ suc count
  said_telegram (received.Answered challenge (Some number)) reply is =
      let same : count + 1 ≡ reply.1 =
      ap (λ (a : List ℕ × ℕ). a.1) (some_same (challenge, count + 1) reply is) in omega (arith, same)
  said_telegram (received.Answered challenge None) reply is = absurd cc
  said_telegram received.Ignored reply is = absurd cc
  said_telegram (received.Refused verdict) reply is = absurd cc
  said_telegram (received.Acted number lane act) reply is = absurd cc
  said_telegram (received.Synced number kept next) reply is = absurd cc
  said_telegram (received.Stopped nvm.Cut) reply is = absurd cc
  said_telegram (received.Stopped nvm.Failed) reply is = absurd cc

  turned_sends : (n : NodeAt) (s : Standing) (request : List ℕ) (answer : Option NvmFault) (struck : Struck)
      (reply : List ℕ × ℕ)
      → (let turn = turn_by answer struck (receive_transition n.config s request) (receive_told count) n in
      answered_in turn.outcome ≡ Some reply → Sends count n.config s (Some request) turn reply)
  turned_sends n s request None struck reply is = record {
    sent_is = refl;
    telegram_is = said_telegram (receive_transition n.config s request).outcome reply is;
  }
  turned_sends n s request (Some nvm.Cut) struck reply is = absurd cc
  turned_sends n s request (Some nvm.Failed) struck reply is = absurd cc

  delivered_sends : (n : NodeAt) (request : Option (List ℕ)) (standing : Option Standing) (s : Standing)
      (reply : List ℕ × ℕ) → standing ≡ Some s
      → (let turn = receive_turn count request n standing in
      answered_in turn.outcome ≡ Some reply → Sends count n.config s request turn reply)
  delivered_sends n request None s reply runs is = elim (none-some s runs) [ ]
  delivered_sends n None (Some t) s reply runs is = absurd cc
  delivered_sends n (Some request) (Some t) s reply runs is =
      let call = receive_transition n.config t request in
      let struck = struck_by call t n in
      subst (λ s. Sends count n.config s (Some request) (receive_turn count (Some request) n (Some t)) reply)
      (some_same t s runs) (turned_sends n t request struck.answer struck reply is)

-- the frame of a reply
abbrev frame_of : (x : Exchange) → IsReply (answering x) x.first x.responder x.challenge → List ℕ
frame_of x reply =
    answer_frame reply.key (from_address x) (source_of (frame_at reply.request)) reply.before.next x.challenge
    reply.kept

record IsSent (x : Exchange) (reply : IsReply (answering x) x.first x.responder x.challenge) : Type 0 where
  telegram_is : x.telegram ≡ suc (length x.first.air)
  has : HasOctets (answered x).air (length x.first.air) (frame_of x reply)

reply_is_sent : (x : Exchange) (reply : IsReply (answering x) x.first x.responder x.challenge)
    → (step_of (answering x) x.first).outcome ≡ outcome.Answered x.challenge (Some x.telegram) → IsSent x reply
reply_is_sent x reply said =
    let n = node_in x.first x.responder in
    let count = length x.first.air in
    let request = heard (telegram_in x.first.air x.request) in
    let turn = receive_turn count request n n.standing in
    let sends : Sends count n.config reply.before request turn (x.challenge, x.telegram) =
    delivered_sends count n request n.standing reply.before (x.challenge, x.telegram) reply.runs
    (ap answered_in said) in
    let one : has_telegram turn.outcome ≡ true = ap has_telegram said in
    let octets : handed turn.sent [] ≡ frame_of x reply = ap (λ f. handed f []) (sends.sent_is ∙ reply.sends) in
    let air : (answered x).air ≡ x.first.air ++ put_on_air (frame_of x reply) ∷ [] =
    λ i. x.first.air ++ telegrams_of (one i) (octets i) in
    record {
      telegram_is = sends.telegram_is;
      has = subst (λ a. HasOctets a count (frame_of x reply)) (sym air) (put_there x.first.air (frame_of x reply));
    }

-- ---- what the requester takes

-- Octets for a node are judged an answer with these numbers, under some mark.
record TakesAnswer (c : ConfigState) (s : Standing) (octets : List ℕ) (number kept : ℕ) : Type 0 where
  to : Addressee
  is_for : addressee c (frame_at octets) ≡ Some to
  mark : ℕ
  passes : verdict_of c.rows mark (asked_of s.pending (source_of (frame_at octets))) (frame_at octets)
      ≡ verdict.SyncAnswer number kept

record HearsAnswer (hears : Option (List ℕ)) (c : ConfigState) (s : Standing) (number kept : ℕ) : Type 0 where
  octets : List ℕ
  hears_is : hears ≡ Some octets
  takes : TakesAnswer c s octets number kept

module _ (count number kept next : ℕ) where
  abbrev Says : Outcome → Type 0
  Says o = receive_told count o ≡ outcome.Synced number kept next

  verdict_takes : (c : ConfigState) (s : Standing) (source : IndAddr) (to : Addressee) (lane : Lane) (apdu : List ℕ)
      (said : Verdict) → Says (verdict_transition c s source to lane apdu said).outcome
      → said ≡ verdict.SyncAnswer number kept
  verdict_takes c s source to lane apdu (verdict.Accepted own service) is =
      elim (none-some number (sym (act_none count c s to lane own service apdu).takes ∙ ap taken_in is)) [ ]
  verdict_takes c s source to lane apdu (verdict.SyncAsk own challenge) is = absurd cc
  verdict_takes c s source to lane apdu (verdict.SyncAnswer own its) is =
      let own_is : own ≡ number = some_same own number (ap taken_in is) in
      let its_is : its ≡ kept = some_same its kept (ap kept_told is) in
      λ i. verdict.SyncAnswer (own_is i) (its_is i)
  verdict_takes c s source to lane apdu said is = absurd cc

  telegram_takes : (c : ConfigState) (s : Standing) (octets : List ℕ) (to : Addressee) (lane : Option Lane)
      → addressee c (frame_at octets) ≡ Some to → Says (telegram_transition c s (frame_at octets) to lane).outcome
      → TakesAnswer c s octets number kept
  telegram_takes c s octets to None is_for is = absurd cc
  telegram_takes c s octets to (Some lane) is_for is =
      let t : Telegram = frame_at octets in
      let mark = mark_at s.numbers.marks (place_in c lane) in
      let asked = asked_of s.pending (source_of t) in
      let raises = kept_raises (place_in c lane) (kept_by c.rows mark asked t) in
      record {
        to = to;
        is_for = is_for;
        mark = mark;
        passes = verdict_takes c (raised raises s) (source_of t) to lane (opened_by c.rows asked t)
            (verdict_of c.rows mark asked t) is;
      }

  addressed_takes : (c : ConfigState) (s : Standing) (octets : List ℕ) (to : Option Addressee)
      → addressee c (frame_at octets) ≡ to → Says (addressed_transition c s (frame_at octets) to).outcome
      → TakesAnswer c s octets number kept
  addressed_takes c s octets None is_for is = absurd cc
  addressed_takes c s octets (Some to) is_for is =
      telegram_takes c s octets to (lane_in c.rows (frame_at octets)) is_for is

  frame_takes : (c : ConfigState) (s : Standing) (octets : List ℕ) (f : Option NotFrame)
      → Says (frame_transition c s f (frame_at octets)).outcome → TakesAnswer c s octets number kept
  frame_takes c s octets (Some f) is = absurd cc
  frame_takes c s octets None is = addressed_takes c s octets (addressee c (frame_at octets)) refl is

  turned_takes : (n : NodeAt) (s : Standing) (octets : List ℕ) (answer : Option NvmFault) (struck : Struck)
      → (turn_by answer struck (receive_transition n.config s octets) (receive_told count) n).outcome
      ≡ outcome.Synced number kept next
      → TakesAnswer n.config s octets number kept
  turned_takes n s octets None struck is = frame_takes n.config s octets (frame_fault octets) is
  turned_takes n s octets (Some nvm.Cut) struck is = absurd cc
  turned_takes n s octets (Some nvm.Failed) struck is = absurd cc

  hears_answer : (n : NodeAt) (hears : Option (List ℕ)) (standing : Option Standing) (s : Standing)
      → standing ≡ Some s → (receive_turn count hears n standing).outcome ≡ outcome.Synced number kept next
      → HearsAnswer hears n.config s number kept
  hears_answer n hears None s runs is = absurd cc
  hears_answer n None (Some t) s runs is = absurd cc
  hears_answer n (Some octets) (Some t) s runs is =
      let struck = struck_by (receive_transition n.config t octets) t n in
      record {
        octets = octets;
        hears_is = refl;
        takes = subst (λ s. TakesAnswer n.config s octets number kept) (some_same t s runs)
            (turned_takes n t octets struck.answer struck is);
      }

-- ---- one judgement

-- the numbers of an answer
abbrev numbers_in : Verdict → Option (ℕ × ℕ)
numbers_in (verdict.SyncAnswer number kept) = Some (number, kept)
numbers_in _ = None

same_numbers : (said : Verdict) (number kept own its : ℕ) → OrSender (verdict.SyncAnswer own its) said
    → said ≡ verdict.SyncAnswer number kept → ◌≡◌ {A = ℕ × ℕ} (number, kept) (own, its)
same_numbers said number kept own its (inl good) is =
    some_same (number, kept) (own, its) (ap numbers_in (sym is ∙ good))
same_numbers said number kept own its (inr sender) is =
    elim (none-some (number, kept) (ap numbers_in (sym sender ∙ is))) [ ]

by_address : (here : Bool) (destination own : ℕ) (to : Addressee) → (destination == own) ≡ here
    → (if here then Some Device else None) ≡ Some to → destination ≡ own
by_address true destination own to here is = grind (arith, nat_tests, here)
by_address false destination own to here is = absurd cc

-- what is for a node and for no group has its address
is_device : (c : ConfigState) (t : Telegram) (to : Addressee) → is_group t ≡ false → addressee c t ≡ Some to
    → t.destination ≡ c.address.0
is_device c t to device is =
    let plain : addressee c t ≡ (if t.destination == c.address.0 then Some Device else None) =
    λ i. if device i then option_map Object (objects.place_of (record { 0 = t.destination }) c.objects)
    else if t.destination == c.address.0 then Some Device else None in
    by_address (t.destination == c.address.0) t.destination c.address.0 to refl (sym plain ∙ is)

-- ---- the nodes of an installation between two steps

-- the open challenge, if there is one, is six octets
abbrev IsOpen : Pending → Type 0
IsOpen pending = IfSome pending (λ (asked : OpenChallenge). IsChallenge asked.challenge)

still_open : (count : ℕ) (e : Event) (said : StepOutcome) (pending : Pending) → IsEvent count e → IsOpen pending
    → IsOpen (asked_after e said pending)
still_open count (event.Ask node to challenge) (outcome.Air telegram number) pending range is = range.1
still_open count e (outcome.Air telegram number) pending range is = is
still_open count e (outcome.Synced number kept next) pending range is = tt
still_open count e (outcome.On next marks) pending range is = tt
still_open count e said pending range is = is

open_if : (here : Bool) (count : ℕ) (e : Event) (said : StepOutcome) (pending : Pending) → IsEvent count e
    → IsOpen pending → IsOpen (if here then asked_after e said pending else pending)
open_if true count e said pending range is = still_open count e said pending range is
open_if false count e said pending range is = is

asked_if : (same : Bool) (asked challenge : List ℕ) → IsChallenge asked
    → (if same then Some asked else None) ≡ Some challenge → IsChallenge challenge
asked_if true asked challenge is found = subst IsChallenge (some_same asked challenge found) is
asked_if false asked challenge is found = elim (none-some challenge found) [ ]

challenge_asked : (pending : Pending) (source : IndAddr) (challenge : List ℕ) → IsOpen pending
    → asked_of pending source ≡ Some challenge → IsChallenge challenge
challenge_asked None source challenge is found = elim (none-some challenge found) [ ]
challenge_asked (Some last) source challenge is found =
    asked_if (last.peer.0 == source.0) last.challenge challenge is found

record Sits (rows : List Row) (n : NodeAt) : Type 0 where
  rows_are : n.config.rows ≡ rows
  stand : AllStand n
  floor : ℕ
  fits : FitsFrom n floor
  pending : Pending
  pending_is : HasOpen n pending
  is_open : IsOpen pending

abbrev AllSit : List Row → WorldAt → Type 0
AllSit rows w = (place : ℕ) → place < length w.nodes → Sits rows (node_in w place)

-- before these events
record Later (rows : List Row) (count : ℕ) (events : List Event) (w : WorldAt) : Type 0 where
  held : AreHeld events w
  ranges : All (IsEvent count) events
  sit : AllSit rows w

module _ (rows : List Row) (count : ℕ) where
  sits_after : (e : Event) (w : WorldAt) → IsEvent count e → HoldsAfter e w → AllSit rows w → AllSit rows (after e w)
  sits_after e w range held all place below' =
      let same = same_size e w in
      let below : place < length w.nodes = omega (arith, below', same) in
      let at = all place below in
      let p : Passes e w place at.floor = passed e w place at.floor below held at.fits in
      record {
        rows_are = ap (λ (c : ConfigState). c.rows) p.config ∙ at.rows_are;
        stand = stands_after e w place (is_at place (place_of e)) refl held at.stand;
        floor = p.floor';
        fits = p.fits;
        pending = if is_at place (place_of e) then asked_after e (step_of e w).outcome at.pending else at.pending;
        pending_is = open_after e w place at.pending below at.stand at.pending_is;
        is_open = open_if (is_at place (place_of e)) count e (step_of e w).outcome at.pending range at.is_open;
      }

  all_later : (events rest : List Event) (w : WorldAt) → AreHeld (events ++ rest) w
      → All (IsEvent count) (events ++ rest) → AllSit rows w → Later rows count rest (world_after events w)
  all_later [] rest w held ranges sit = record { held = held; ranges = ranges; sit = sit }
  all_later (e ∷ events) rest w held ranges sit =
      all_later events rest (after e w) held.1 (λ i d below. ranges (suc i) d (omega (arith, below)))
      (sits_after e w (ranges 0 e (omega arith)) held.0 sit)

sits_first : (rows : List Row) (nodes : List NodeRow) → IsInstallation rows nodes
    → AllSit rows (first_world rows nodes)
sits_first rows nodes installation place below =
    let same : length (first_world rows nodes).nodes ≡ length nodes = length-map nodes (first_node rows) in
    elim ((slice_get_cases nodes place).1) [
      | inl found ↦
          let row : NodeRow = found.0 in
          let first : IsFirstAt rows nodes place row = first_at rows nodes place row installation found.2 in
          record {
            rows_are = ap (λ (n : NodeAt). n.config.rows) first.node_is;
            stand = λ s now. (first.fits.runs s now).stands;
            floor = 0;
            fits = record { reserved = row.next - 1; next = row.next; fits = first.fits };
            pending = None;
            pending_is = λ s now. ap (λ (s : Standing). s.pending)
                (some_same s (started (configured row.address rows row.objects) (first_numbers row))
                (sym now ∙ ap (λ (n : NodeAt). n.standing) first.node_is));
            is_open = tt;
          }
      | inr past ↦ let past = past.0 in absurd (omega (arith, below, same, past))
    ]

-- ---- what is reserved plays no part in the numbers that are drawn

abbrev draw_if : Bool → ℕ → ℕ → List Draw
draw_if one reserved next =
    if one then record { number = next; reserved = reservation_for reserved next } ∷ [] else []

one_draw : (one : Bool) (number reserved other next : ℕ) (drawn again : List Draw)
    → AreAbove number (draw_if one reserved next ++ drawn) → (AreAbove number drawn → AreAbove number again)
    → AreAbove number (draw_if one other next ++ again)
one_draw true number reserved other next drawn again above rest =
    let first : Draw = record { number = next; reserved = reservation_for reserved next } in
    All-cons (λ (draw : Draw). number < draw.number) (record { number = next; reserved = reservation_for other next })
    again (above 0 first (omega arith))
    (rest (λ j d below. above (suc j) d (omega (arith, below))))
one_draw false number reserved other next drawn again above rest = rest above

any_reserved : (number reserved other next : ℕ) (saids : List StepOutcome) → AreAbove number (draws reserved next saids)
    → AreAbove number (draws other next saids)
any_reserved number reserved other next [] above = All-nil (λ (draw : Draw). number < draw.number)
any_reserved number reserved other next (said ∷ later) above =
    let next' = next_after next said in
    one_draw (has_telegram said) number reserved other next (draws (reserved_after reserved next said) next' later)
    (draws (reserved_after other next said) next' later) above
    (any_reserved number (reserved_after reserved next said) (reserved_after other next said) next' later)

-- ---- both ends

module _ (rows : List Row) (count : ℕ) (x : Exchange) (l : Later rows count (events_from x) x.first)
    (is : IsExchanged x) where
  abbrev n : NodeAt
  n = node_in x.first x.responder

  abbrev n' : NodeAt
  n' = node_in (answered x) x.responder

  abbrev said : StepOutcome
  said = (step_of (answering x) x.first).outcome

  below : x.responder < length x.first.nodes
  below = in_range (answering x) x.first x.responder refl l.held.0

  step : IsSteppedAt (answering x) x.first x.responder
  step = stepped_at (answering x) x.first x.responder refl below

  at : Sits rows n
  at = l.sit x.responder below

  reply : IsReply (answering x) x.first x.responder x.challenge
  reply = reply_step (answering x) x.first x.responder (x.challenge, x.telegram) said step.steps step.config
      (ap answered_in is.answers)

  on : GoesOn said n' at.fits.reserved at.fits.next at.floor
  on = goes_on (answering x) x.first.air n n' said at.fits.reserved at.fits.next at.floor step.steps step.config
      (l.held.0 x.responder refl) at.fits.fits

  drawn : HasDrawn n at.floor on.floor'
  drawn = has_drawn (answering x) x.first.air n n' said at.fits.reserved at.fits.next at.floor on step.steps
      at.fits.fits (ap has_telegram is.answers)

  drawn_is : next_of n.standing ≡ reply.before.next
  drawn_is = ap next_of reply.runs

  number_fits : reply.before.next < 2 ^ 48
  number_fits = let same = drawn_is in let fits = drawn.fits in omega (arith, same, fits)

  mark_fits : (lane : Lane) → mark_on (answered x) x.responder lane < 2 ^ 48
  mark_fits lane = marks_fit n' n'.standing (place_in n'.config lane) refl (l.held.0 x.responder refl).stands

  kept_fits : reply.kept < 2 ^ 48
  kept_fits = subst (λ k. k < 2 ^ 48) (sym reply.kept_is)
      (max_fits (mark_on (answered x) x.responder (lanes.Run (source_of (frame_at reply.request))))
      (mark_on (answered x) x.responder reply.lane) (mark_fits (lanes.Run (source_of (frame_at reply.request))))
      (mark_fits reply.lane))

  -- at the requester
  l' : Later rows count (taking x ∷ x.later) (waiting x)
  l' = all_later rows count x.between (taking x ∷ x.later) (answered x) l.held.1
      (λ i d below. l.ranges (suc i) d (omega (arith, below)))
      (sits_after rows count (answering x) x.first (l.ranges 0 (answering x) (omega arith)) l.held.0 l.sit)

  abbrev m : NodeAt
  m = node_in (waiting x) x.requester

  abbrev m' : NodeAt
  m' = node_in (taken x) x.requester

  abbrev said' : StepOutcome
  said' = (step_of (taking x) (waiting x)).outcome

  below' : x.requester < length (waiting x).nodes
  below' = in_range (taking x) (waiting x) x.requester refl l'.held.0

  step' : IsSteppedAt (taking x) (waiting x) x.requester
  step' = stepped_at (taking x) (waiting x) x.requester refl below'

  at' : Sits rows m
  at' = l'.sit x.requester below'

  abbrev frame : List ℕ
  frame = frame_of x reply

  hears : HearsAnswer (heard (telegram_in (waiting x).air x.telegram)) m.config is.standing x.number x.kept
  hears = hears_answer (length (waiting x).air) x.number x.kept x.next m
      (heard (telegram_in (waiting x).air x.telegram)) m.standing is.standing is.runs is.takes

  sent : IsSent x reply
  sent = reply_is_sent x reply is.answers

  frame_is : hears.octets ≡ frame
  frame_is = heard_is (waiting x).air (length x.first.air) frame hears.octets
      (lasts x.between (answered x) (length x.first.air) frame sent.has)
      (ap (λ t. heard (telegram_in (waiting x).air t)) (sym sent.telegram_is) ∙ hears.hears_is)

  takes_it : TakesAnswer m.config is.standing frame x.number x.kept
  takes_it = subst (λ o. TakesAnswer m.config is.standing o x.number x.kept) frame_is hears.takes

  abbrev source : IndAddr
  source = source_of (frame_at reply.request)

  between : IsBetween (from_address x) source (frame_at frame)
  between = (are_between reply.key (from_address x) source reply.before.next x.challenge reply.kept).answer

  same_rows : m.config.rows ≡ n.config.rows
  same_rows = at'.rows_are ∙ sym at.rows_are

  under : IsUnder m.config.rows reply.key frame
  under = record {
    channel = reply.channel;
    channel_is = channel_between m.config.rows (from_address x) source (frame_at frame) between
        ∙ ap (λ rows. channel_of rows false true (from_address x) source.0) same_rows ∙ reply.channel_is;
    key_is = ap (λ rows. key_of rows reply.channel) same_rows ∙ reply.key_is;
  }

  asked : asked_of is.standing.pending (source_of (frame_at frame)) ≡ Some x.challenge
  asked = ap (asked_of is.standing.pending) between.source_is ∙ is.asked

  challenge_is : IsChallenge x.challenge
  challenge_is = challenge_asked is.standing.pending (from_address x) x.challenge
      (subst IsOpen (sym (at'.pending_is is.standing is.runs)) at'.is_open) is.asked

  judged : OrSender (verdict.SyncAnswer reply.before.next reply.kept)
      (verdict_of m.config.rows takes_it.mark (Some x.challenge) (frame_at frame))
  judged = answer_is_judged reply.key (from_address x) source reply.before.next x.challenge reply.kept number_fits
      kept_fits challenge_is.six challenge_is.octets m.config.rows takes_it.mark under

  both : ◌≡◌ {A = ℕ × ℕ} (x.number, x.kept) (reply.before.next, reply.kept)
  both = same_numbers (verdict_of m.config.rows takes_it.mark (Some x.challenge) (frame_at frame)) x.number x.kept
      reply.before.next reply.kept judged
      (ap (λ asked. verdict_of m.config.rows takes_it.mark asked (frame_at frame)) (sym asked) ∙ takes_it.passes)

  number_is : x.number ≡ reply.before.next
  number_is = ap (λ (told : ℕ × ℕ). told.0) both

  kept_is : x.kept ≡ reply.kept
  kept_is = ap (λ (told : ℕ × ℕ). told.1) both

  requester_is : source ≡ to_address x
  requester_is =
      let same : source.0 ≡ m.config.address.0 =
      sym between.destination_is ∙ is_device m.config (frame_at frame) takes_it.to between.device takes_it.is_for in
      λ i. record { 0 = same i }

  -- ---- what follows

  runs_above : RunsAbove x.kept x.next m'
  runs_above = subst (λ said. IfSome (kept_told said) (λ kept. RunsAbove kept (next_after at'.fits.next said) m'))
      is.takes
      (synced.taken_step (taking x) (waiting x).air m m' said' at'.fits.reserved at'.fits.next at'.floor step'.steps
      at'.stand at'.fits.fits)

  number_next : next_after at.fits.next said ≡ x.number + 1
  number_next =
      let next_is : next_of n.standing ≡ at.fits.next =
      is_next (answering x) x.first.air n n' said at.fits.reserved at.fits.next at.floor step.steps at.fits.fits
      (ap has_telegram is.answers) in
      ap (next_after at.fits.next) is.answers ∙ ap (λ n. n + 1) (sym next_is ∙ drawn_is ∙ sym number_is)

  abbrev later_numbers : List StepOutcome
  later_numbers = outcomes_of x.responder (history_of (events_after x) (answered x))

  all_later_above : AreAbove x.number
      (draws (reserved_after at.fits.reserved at.fits.next said) (next_after at.fits.next said) later_numbers)
  all_later_above =
      let reserved' = reserved_after at.fits.reserved at.fits.next said in
      let next' = next_after at.fits.next said in
      let same = same_size (answering x) x.first in
      let here = below in
      let rises : Rises reserved' next' on.floor' later_numbers =
      rising (events_after x) (answered x) x.responder reserved' next' on.floor' (omega (arith, here, same)) l.held.1
      on.fits in
      let all = all_above on.floor' (draws reserved' next' later_numbers) rises.drawn in
      let is_drawn = drawn_is in
      let is_number = number_is in
      let under = drawn.below in
      λ i d within. let one = all i d within in omega (arith, one, is_drawn, is_number, under)

  tells_the_same : TellsTheSame x
  tells_the_same =
      let same = same_size (taking x) (waiting x) in
      let there = below' in
      record {
        reply = reply;
        same = record { requester_is = requester_is; number_is = number_is; kept_is = kept_is };
        goes_on = λ reserved.
            above x.later (taken x) x.requester x.kept reserved x.next (omega (arith, there, same)) l'.held.1
            (l'.held.0 x.requester refl).stands runs_above;
        for_groups = subst (λ k. PassesAbove k (answered x) x.responder (lanes.Run (to_address x))) (sym kept_is)
            (subst (λ a. PassesAbove reply.kept (answered x) x.responder (lanes.Run a)) requester_is
            reply.for_groups);
        on_lane = subst (λ k. PassesAbove k (answered x) x.responder reply.lane) (sym kept_is) reply.on_lane;
        responder_goes_on = λ reserved.
            any_reserved x.number (reserved_after at.fits.reserved at.fits.next said) reserved (x.number + 1)
            later_numbers
            (subst (λ next. AreAbove x.number
            (draws (reserved_after at.fits.reserved at.fits.next said) next later_numbers)) number_next
            all_later_above);
        back = of_answer.taken_step (taking x) (waiting x) x.requester x.number said' step'.steps step'.config at'.stand
            (ap taken_in is.takes);
      }

pub ends_agree : (rows : List Row) (nodes : List NodeRow) (w : WorldAt) (history : List Step)
    → IsRunOf rows nodes w history → AreHeld (events_of history) (first_world rows nodes)
    → All (IsEvent (length nodes)) (events_of history) → EndsTellTheSame (events_of history) (first_world rows nodes)
ends_agree rows nodes w history run held ranges before x split start is =
    let first : WorldAt = first_world rows nodes in
    let count : ℕ = length nodes in
    let all : AreHeld (before ++ events_from x) first = subst (λ es. AreHeld es first) (sym split) held in
    let l : Later rows count (events_from x) (world_after before first) =
    all_later rows count before (events_from x) first all (subst (All (IsEvent count)) (sym split) ranges)
    (sits_first rows nodes run.installation) in
    tells_the_same rows count x (subst (Later rows count (events_from x)) (sym start) l) is
