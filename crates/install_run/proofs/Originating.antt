-- A world comes of its script, and its memories hold their nodes' numbers: at first, and after each step.
use Rattle.std.proofs.Common.{◌≡◌, ℕ, List, [], ◌∷◌, ◌++◌, length, map, sym, ap, ◌∙◌, subst}
use Rattle.std.specs.List.{All}
use Rattle.std.proofs.lemmas.List.{length-map, map-append}
use Rattle.std.proofs.lemmas.List.Elements.{All-nil, All-cons, All-append}
use Rattle.std.proofs.Math.ListN.{get_or-map as map-get_or}
use Rattle.key_tables.specs.declared.types.Row.{Row}
use Rattle.script_text.specs.declared.event.Event.{Event}
use Rattle.script_text.specs.declared.node_row.NodeRow.{NodeRow}
use Rattle.script_text.specs.Script.{IsEvent, IsScript}
use Rattle.step_text.specs.declared.outcome.Step.{Step}
use Rattle.step_text.specs.declared.outcome.StepOutcome.{StepOutcome}
use Rattle.install_run.specs.First.{first_world, first_place}
use Rattle.install_run.specs.Holding.{IsHeld}
use Rattle.install_run.specs.Machine.{TelegramAt, WorldAt, node_in}
use Rattle.install_run.specs.Origin.{IsInstallation, event_in, events_of, HoldsAfter, AreHeld, IsRun}
use Rattle.install_run.specs.Place.{PlaceAt, no_place, place_in, node_of, world_in, IsTurned}
use Rattle.install_run.specs.Runs.{after, step_of, world_after, history_of}
use Rattle.install_run.specs.World.{WorldState, world_state}
use Rattle.install_run.proofs.Beginning.{first_nodes, first_stands}
use Rattle.install_run.proofs.Stepping.{after-more, history-more, stays_world}

-- ---- at first

pub of_script : (rows : List Row) (nodes : List NodeRow) (events : List Event) → IsScript rows nodes events
    → IsInstallation rows nodes
of_script rows nodes events script = record {
  named = script.named;
  stand = script.stand;
  nodes_stand = script.nodes_stand;
  nodes_once = script.nodes_once;
}

pub first_run : (rows : List Row) (nodes : List NodeRow) (places : List PlaceAt) (air : List TelegramAt)
    (history : List Step) → IsInstallation rows nodes
    → places ≡ map (first_place rows) nodes → air ≡ [] → history ≡ [] → IsRun rows nodes places air history
first_run rows nodes places air history installation places_are no_air no_steps =
    let start : world_in places air ≡ first_world rows nodes =
    λ i. record { nodes = (ap (map node_of) places_are ∙ first_nodes rows nodes) i; air = no_air i } in
    record {
      world = first_stands rows nodes places air history places_are no_air no_steps;
      size = ap length places_are ∙ length-map nodes (first_place rows);
      run = record {
        installation = installation;
        world_is = start ∙ ap (λ h. world_after (events_of h) (first_world rows nodes)) (sym no_steps);
        history_is = no_steps ∙ ap (λ h. history_of (events_of h) (first_world rows nodes)) (sym no_steps);
      };
      held = subst (λ h. AreHeld (events_of h) (first_world rows nodes)) (sym no_steps) tt;
      ranges = subst (λ h. All (IsEvent (length nodes)) (events_of h)) (sym no_steps)
          (All-nil (IsEvent (length nodes)));
    }

-- ---- a step

held_more : (events : List Event) (e : Event) (w : WorldAt) → AreHeld events w → HoldsAfter e (world_after events w)
    → AreHeld (events ++ e ∷ []) w
held_more [] e w held here = (here, tt)
held_more (first ∷ events) e w held here = (held.0, held_more events e (after first w) held.1 here)

node_is : (places : List PlaceAt) (air : List TelegramAt) (place : ℕ)
    → node_in (world_in places air) place ≡ (place_in places place).node
node_is places air place = map-get_or node_of places place no_place

holds_here : (e : Event) (places new : List PlaceAt) (air air' : List TelegramAt) (said : StepOutcome)
    → IsTurned e places air said new air' → HoldsAfter e (world_in places air)
holds_here e places new air air' said turned = λ place at.
    let after_is : node_in (after e (world_in places air)) place ≡ (place_in new place).node =
    ap (λ (w : WorldAt). node_in w place) (sym turned.world_is) ∙ node_is new air' place in
    subst (λ n. IsHeld e air n (node_in (after e (world_in places air)) place)) (sym (node_is places air place))
    (subst (λ n. IsHeld e air (place_in places place).node n) (sym after_is) (turned.held place at))

more_events : (history : List Step) (e : Event) (said : StepOutcome)
    → events_of (history ++ record { event = e; outcome = said } ∷ []) ≡ events_of history ++ e ∷ []
more_events history e said = map-append event_in history (record { event = e; outcome = said } ∷ [])

pub run_step : (rows : List Row) (nodes : List NodeRow) (e : Event) (places new : List PlaceAt)
    (air air' : List TelegramAt) (history : List Step) (said : StepOutcome)
    → IsRun rows nodes places air history → IsEvent (length places) e → IsTurned e places air said new air'
    → IsRun rows nodes new air' (history ++ record { event = e; outcome = said } ∷ [])
run_step rows nodes e places new air air' history said before range turned =
    let first : WorldAt = first_world rows nodes in
    let events : List Event = events_of history in
    let step : Step = record { event = e; outcome = said } in
    let all_is : events_of (history ++ step ∷ []) ≡ events ++ e ∷ [] = more_events history e said in
    let now_is : world_in places air ≡ world_after events first = before.run.world_is in
    let said_is : history ++ step ∷ [] ≡ history ++ step_of e (world_in places air) ∷ [] =
    λ i. history ++ record { event = e; outcome = turned.outcome_is i } ∷ [] in
    let told_is : history ++ step_of e (world_in places air) ∷ []
    ≡ history_of events first ++ step_of e (world_after events first) ∷ [] =
    λ i. before.run.history_is i ++ step_of e (now_is i) ∷ [] in
    record {
      world = stays_world e places new air air' history said before.world turned;
      size = turned.size ∙ before.size;
      run = record {
        installation = before.run.installation;
        world_is = turned.world_is ∙ ap (after e) now_is ∙ sym (after-more events e first)
            ∙ ap (λ es. world_after es first) (sym all_is);
        history_is = said_is ∙ told_is ∙ sym (history-more events e first)
            ∙ ap (λ es. history_of es first) (sym all_is);
      };
      held = subst (λ es. AreHeld es first) (sym all_is)
          (held_more events e first before.held
          (subst (HoldsAfter e) now_is (holds_here e places new air air' said turned)));
      ranges = subst (All (IsEvent (length nodes))) (sym all_is)
          (All-append (IsEvent (length nodes)) events (e ∷ []) before.ranges
          (All-cons (IsEvent (length nodes)) e [] (subst (λ count. IsEvent count e) before.size range)
          (All-nil (IsEvent (length nodes)))));
    }

-- an event of a node that the world has is of one of its places
pub of_places : (rows : List Row) (nodes : List NodeRow) (places : List PlaceAt) (air : List TelegramAt)
    (history : List Step) (w : WorldState) (e : Event) → world_state rows nodes places air history ≡ w
    → IsEvent (length w.world.nodes) e → IsEvent (length places) e
of_places rows nodes places air history w e is range =
    subst (λ count. IsEvent count e) (length-map places node_of)
    (subst (λ (w : WorldState). IsEvent (length w.world.nodes) e) (sym is) range)

-- the same over what the code has at hand
pub run_is : (rows : List Row) (nodes : List NodeRow) (e : Event) (places seen new back : List PlaceAt)
    (air seen_air air' : List TelegramAt)
    (history seen_history history' : List Step) (said : StepOutcome)
    → IsRun rows nodes places air history → IsEvent (length places) e → seen ≡ places → seen_air ≡ air
    → seen_history ≡ history → IsTurned e seen seen_air said new air' → back ≡ new
    → history' ≡ seen_history ++ record { event = e; outcome = said } ∷ [] → IsRun rows nodes back air' history'
run_is rows nodes e places seen new back air seen_air air' history seen_history history' said before range places_is
    air_is history_is turned back_is noted =
    let now : IsRun rows nodes seen seen_air seen_history
    = subst (λ h. IsRun rows nodes seen seen_air h) (sym history_is)
    (subst (λ a. IsRun rows nodes seen a history) (sym air_is)
    (subst (λ p. IsRun rows nodes p air history) (sym places_is) before)) in
    subst (λ h. IsRun rows nodes back air' h) (sym noted)
    (subst (λ p. IsRun rows nodes p air' (seen_history ++ record { event = e; outcome = said } ∷ [])) (sym back_is)
    (run_step rows nodes e seen new seen_air air' seen_history said now
    (subst (λ p. IsEvent (length p) e) (sym places_is) range) turned))
