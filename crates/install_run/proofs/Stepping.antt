-- What the turn of one place makes of the whole installation, and what a step makes of the history.
use Rattle.std.proofs.Common.{◌≡◌, ◌≢◌, ℕ, ◌+◌, ◌<◌, ◌≤◌, List, [], ◌∷◌, ◌++◌, length, map, get_or, take, Bool, true, false, Option, Some, refl, sym, ap, ◌∙◌, subst, append_assoc, add-one, arith, length-append}
use Rattle.std.specs.Prelude.{◌==◌, set, unwrap_or, if◌then◌else◌}
use Rattle.std.proofs.lemmas.Bool.Decides.{nat_tests}
use Rattle.std.proofs.lemmas.List.{append-nil, length-set, map-set, get_or-map, get_or-set_same, get_or-set_other, get_or_default}
use Rattle.std.proofs.Math.Seq.{take-suc}
use Rattle.std.proofs.Math.ListN.{get_or-map as map-get_or}
use Rattle.key_tables.specs.declared.types.Row.{Row}
use Rattle.script_text.specs.declared.event.Event.{Event}
use Rattle.script_text.specs.declared.event.Event.TheVariants as event
use Rattle.script_text.specs.Script.{IsEvent}
use Rattle.script_text.specs.declared.node_row.NodeRow.{NodeRow}
use Rattle.step_text.specs.declared.outcome.Entry.{Entry}
use Rattle.step_text.specs.declared.outcome.Step.{Step}
use Rattle.step_text.specs.declared.outcome.StepOutcome.{StepOutcome}
use Rattle.install_run.specs.Machine.{TelegramAt, WorldAt, has_telegram, telegrams_of, turn_of, node_in, no_node}
use Rattle.install_run.specs.Runs.{place_of, is_at, entries_of, journal_of, after, step_of, world_after, history_of}
use Rattle.install_run.specs.Counts.{HasStopCause}
use Rattle.install_run.specs.Holding.{IsHeld}
use Rattle.install_run.specs.Taking.{IsTakenIn, IsTakenBy}
use Rattle.install_run.specs.Place.{PlaceAt, no_place, place_in, node_of, counts_of, world_in, entries_at, IsTurned}
use Rattle.install_run.specs.World.{WorldState, world_state, counts_at, IsWorld, IsStepped, HasRun}

-- ---- one place

pub same_place : {a b : ℕ} → Some a ≡ Some b → a ≡ b
same_place is = ap (λ o. unwrap_or o 0) is

-- the journal at a place, where the entries were added to this one's
journal_by : (q place : ℕ) (places : List PlaceAt) (new : PlaceAt) (added : List Entry) (same : Bool)
    → (q == place) ≡ same → place < length places
    → new.journal ≡ (place_in places place).journal ++ added
    → (place_in (set places place new) q).journal ≡ (place_in places q).journal ++ (if same then added else [])
journal_by q place places new added true is in_range noted =
    let here : q ≡ place = grind (arith, nat_tests, is) in
    ap (λ q. (place_in (set places place new) q).journal) here
    ∙ ap (λ (p : PlaceAt). p.journal) (get_or-set_same places place new no_place in_range) ∙ noted
    ∙ ap (λ q. (place_in places q).journal ++ added) (sym here)
journal_by q place places new added false is in_range noted =
    let other : q ≢ place = λ here. grind (arith, nat_tests, is, here) in
    ap (λ (p : PlaceAt). p.journal) (get_or-set_other places place q new no_place other) ∙ sym (append-nil _)

few_more : (sent : Bool) (out : List ℕ) → length (telegrams_of sent out) ≤ 1
few_more true out = omega arith
few_more false out = omega arith

pub node_turned : (e : Event) (places : List PlaceAt) (air air' : List TelegramAt) (place : ℕ) (said : StepOutcome)
    (new : PlaceAt) (out : List ℕ)
    → place < length places → place_of e ≡ Some place → IsTakenBy e air (place_in places place).node said new.node out
    → HasStopCause said (place_in places place).counts new.counts → IsHeld e air (place_in places place).node new.node
    → new.journal ≡ (place_in places place).journal ++ entries_of e said
    → air' ≡ air ++ telegrams_of (has_telegram said) out → IsTurned e places air said (set places place new) air'
node_turned e places air air' place said new out in_range at taken cause held noted sent =
    let w = world_in places air in
    let here : node_in w place ≡ (place_in places place).node =
    get_or-map node_of places place no_place no_node in_range in
    let t : IsTakenIn (turn_of e w) w place said new.node out = taken.in_each w place at here refl in
    record {
      outcome_is = t.outcome_is;
      world_is =
          λ i. record { nodes = (map-set node_of places place new ∙ sym t.nodes_are) i; air = (sent ∙ sym t.air_is) i };
      cause = λ q at_q.
          let q_is : place ≡ q = same_place (sym at ∙ at_q) in
          subst (λ q. HasStopCause said (place_in places q).counts (place_in (set places place new) q).counts) q_is
          (subst (λ (p : PlaceAt). HasStopCause said (place_in places place).counts p.counts)
          (sym (get_or-set_same places place new no_place in_range)) cause);
      held = λ q at_q.
          let q_is : place ≡ q = same_place (sym at ∙ at_q) in
          subst (λ q. IsHeld e air (place_in places q).node (place_in (set places place new) q).node) q_is
          (subst (λ (p : PlaceAt). IsHeld e air (place_in places place).node p.node)
          (sym (get_or-set_same places place new no_place in_range)) held);
      journals = λ q below. journal_by q place places new (entries_of e said) (q == place) refl in_range noted
          ∙ ap (λ (o : Option ℕ). (place_in places q).journal ++ (if is_at q o then entries_of e said else []))
          (sym at);
      size = length-set places place new;
      one_more = let few = few_more (has_telegram said) out in
          rw sent (omega (arith, length-append air (telegrams_of (has_telegram said) out), few));
    }

-- ---- a step

journal-append : (place : ℕ) (steps more : List Step) → journal_of place (steps ++ more) ≡ journal_of place steps
    ++ journal_of place more
journal-append place [] more = refl
journal-append place (s ∷ steps) more =
    let here = (if is_at place (place_of s.event) then entries_of s.event s.outcome else []) in
    ap (λ rest. here ++ rest) (journal-append place steps more)
    ∙ sym (append_assoc here (journal_of place steps) (journal_of place more))

pub stays_world : (e : Event) (places new : List PlaceAt) (air air' : List TelegramAt) (history : List Step)
    (said : StepOutcome)
    → IsWorld places air history → IsTurned e places air said new air'
    → IsWorld new air' (history ++ record { event = e; outcome = said } ∷ [])
stays_world e places new air air' history said before turned =
    let step : Step = record { event = e; outcome = said } in
    record {
      journals = record {
        each = λ place in_range.
            let below : place < length places = omega (arith, in_range, turned.size) in
            turned.journals place below
            ∙ (λ i. before.journals.each place below i ++ sym (append-nil (entries_at place e said)) i)
            ∙ sym (journal-append place history (step ∷ []));
      };
      few = let one_more = turned.one_more in let few = before.few in
          omega (arith, length-append history (step ∷ []), one_more, few);
    }

pub stepped : (rows : List Row) (nodes : List NodeRow) (e : Event) (places new : List PlaceAt)
    (air air' : List TelegramAt) (history : List Step) (said : StepOutcome)
    → IsTurned e places air said new air'
    → IsStepped e (world_state rows nodes places air history)
    (world_state rows nodes new air' (history ++ record { event = e; outcome = said } ∷ []))
stepped rows nodes e places new air air' history said turned = record {
  after_is = turned.world_is;
  noted = λ i. history ++ record { event = e; outcome = turned.outcome_is i } ∷ [];
  cause = λ place at.
      let old_is : counts_at (map counts_of places) place ≡ (place_in places place).counts =
      map-get_or counts_of places place no_place in
      let new_is : counts_at (map counts_of new) place ≡ (place_in new place).counts =
      map-get_or counts_of new place no_place in
      rw (old_is, new_is) (subst (λ said. HasStopCause said (place_in places place).counts (place_in new place).counts)
      turned.outcome_is (turned.cause place at));
}

-- ---- steps in turn

pub after-more : (events : List Event) (e : Event) (w : WorldAt)
    → world_after (events ++ e ∷ []) w ≡ after e (world_after events w)
after-more [] e w = refl
after-more (first ∷ events) e w = after-more events e (after first w)

pub history-more : (events : List Event) (e : Event) (w : WorldAt)
    → history_of (events ++ e ∷ []) w ≡ history_of events w ++ step_of e (world_after events w) ∷ []
history-more [] e w = refl
history-more (first ∷ events) e w = ap (λ rest. step_of first w ∷ rest) (history-more events e (after first w))

pub run_more : (events : List Event) (e : Event) (old mid new : WorldState) → HasRun events old mid
    → IsStepped e mid new → HasRun (events ++ e ∷ []) old new
run_more events e old mid new run step = record {
  after_is = step.after_is ∙ ap (after e) run.after_is ∙ sym (after-more events e old.world);
  noted = step.noted ∙ (λ i. run.noted i ++ step_of e (run.after_is i) ∷ [])
      ∙ append_assoc old.history (history_of events old.world) _
      ∙ ap (λ steps. old.history ++ steps) (sym (history-more events e old.world));
}

-- ---- the node of an event

pub event_in_range : (nodes : ℕ) (e : Event) (place : ℕ) → IsEvent nodes e → place_of e ≡ Some place → place < nodes
event_in_range nodes (event.Set node object value) place is at = subst (λ n. n < nodes) (same_place at) is.0
event_in_range nodes (event.Send node object service) place is at = subst (λ n. n < nodes) (same_place at) is.0
event_in_range nodes (event.ToolSend node to apdu) place is at = subst (λ n. n < nodes) (same_place at) is.0
event_in_range nodes (event.Ask node to challenge) place is at = subst (λ n. n < nodes) (same_place at) is.0
event_in_range nodes (event.Deliver telegram node) place is at = subst (λ n. n < nodes) (same_place at) is.1
event_in_range nodes (event.Lose telegram) place is at = absurd (cc)
event_in_range nodes (event.Inject octets) place is at = absurd (cc)
event_in_range nodes (event.Off node) place is at = subst (λ n. n < nodes) (same_place at) is
event_in_range nodes (event.On node) place is at = subst (λ n. n < nodes) (same_place at) is
event_in_range nodes (event.Cut node write torn) place is at = subst (λ n. n < nodes) (same_place at) is.0
event_in_range nodes (event.Fault node write torn) place is at = subst (λ n. n < nodes) (same_place at) is.0

-- the same of a place that was read with another default
pub at_place : (e : Event) (places : List PlaceAt) (air air' : List TelegramAt) (place : ℕ) (said : StepOutcome)
    (d new : PlaceAt) (out : List ℕ)
    → place < length places → place_of e ≡ Some place → IsTakenBy e air (get_or places place d).node said new.node out
    → HasStopCause said (get_or places place d).counts new.counts → IsHeld e air (get_or places place d).node new.node
    → new.journal ≡ (get_or places place d).journal ++ entries_of e said
    → air' ≡ air ++ telegrams_of (has_telegram said) out → IsTurned e places air said (set places place new) air'
at_place e places air air' place said d new out in_range at taken cause held noted sent =
    let here : get_or places place d ≡ place_in places place = get_or_default places place d no_place in_range in
    node_turned e places air air' place said new out in_range at
    (subst (λ (p : PlaceAt). IsTakenBy e air p.node said new.node out) here taken)
    (subst (λ (p : PlaceAt). HasStopCause said p.counts new.counts) here cause)
    (subst (λ (p : PlaceAt). IsHeld e air p.node new.node) here held)
    (subst (λ (p : PlaceAt). new.journal ≡ p.journal ++ entries_of e said) here noted) sent

-- ---- a step, over what the code has at hand

pub step_is : (rows : List Row) (nodes : List NodeRow) (e : Event) (places seen new back : List PlaceAt)
    (air seen_air air' : List TelegramAt)
    (history seen_history history' : List Step) (said : StepOutcome) (old : WorldState)
    → world_state rows nodes places air history ≡ old
    → seen ≡ places → seen_air ≡ air → seen_history ≡ history → IsTurned e seen seen_air said new air' → back ≡ new
    → history' ≡ seen_history ++ record { event = e; outcome = said } ∷ []
    → IsStepped e old (world_state rows nodes back air' history')
step_is rows nodes e places seen new back air seen_air air' history seen_history history' said old view places_is air_is
    history_is turned back_is noted =
    let first : WorldState = world_state rows nodes seen seen_air seen_history in
    let first_is : first ≡ old = (λ i. world_state rows nodes (places_is i) (air_is i) (history_is i)) ∙ view in
    let last_is : world_state rows nodes new air' (seen_history ++ record { event = e; outcome = said } ∷ [])
    ≡ world_state rows nodes back air' history'
    = (λ i. world_state rows nodes (sym back_is i) air' (sym noted i)) in
    subst (λ w. IsStepped e w (world_state rows nodes back air' history')) first_is
    (subst (λ w. IsStepped e first w) last_is (stepped rows nodes e seen new seen_air air' seen_history said turned))

-- ---- events of a list

pub run_none : (w : WorldState) → HasRun [] w w
run_none w = record { after_is = refl; noted = sym (append-nil w.history) }

pub run_at : (events : List Event) (i : ℕ) (d : Event) (old mid new : WorldState) → i < length events
    → HasRun (take i events) old mid → IsStepped (get_or events i d) mid new → HasRun (take (i + 1) events) old new
run_at events i d old mid new in_range run step =
    let one : take (i + 1) events ≡ take i events ++ get_or events i d ∷ [] =
    ap (λ n. take n events) (add-one i) ∙ take-suc events i d in_range in
    subst (λ events. HasRun events old new) (sym one) (run_more (take i events) (get_or events i d) old mid new run
    step)

pub noted_at : (i count : ℕ) (e : Event) (mid new : WorldState) → length mid.history ≡ count + i → IsStepped e mid new
    → length new.history ≡ count + (i + 1)
noted_at i count e mid new before step =
    let more : length new.history ≡ length mid.history + 1 =
    ap length step.noted ∙ length-append mid.history (step_of e mid.world ∷ []) in
    omega (arith, more, before)
