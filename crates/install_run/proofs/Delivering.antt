-- A telegram that passes every check is acted on: by the cases of its transition, and so in each state of a run.
use Rattle.std.proofs.Common.{◌≡◌, ◌⊎◌, inl, inr, ℕ, zero, suc, ◌<◌, List, [], ◌∷◌, length, map, get_or, take, Option, Some, None, Ok, refl, sym, ap, ◌∙◌, subst}
use Rattle.std.specs.Prelude.{slice_get, unwrap_or, option_map, IsSome}
use Rattle.std.proofs.lemmas.Option.{none-some, slice_get_within, slice_get-get_or, slice_get-map, unwrap_or-slice_get}
use Rattle.cemi_frames.specs.Reading.{frame_at}
use Rattle.cemi_frames.specs.Frames.{Telegram}
use Rattle.plain_apdu.specs.declared.service.Service.{Service}
use Rattle.key_tables.specs.declared.types.Lane.{Lane}
use Rattle.judge_rules.specs.Checks.{kept_by, opened_by}
use Rattle.judge_rules.specs.Parts.{source_of}
use Rattle.nvm_model.specs.Plan.{Struck}
use Rattle.nvm_model.specs.declared.fault.NvmFault.{NvmFault}
use Rattle.nvm_model.specs.declared.fault.NvmFault.TheVariants as nvm
use Rattle.group_objects.specs.declared.row.ObjectRow.{ObjectRow}
use Rattle.group_objects.specs.declared.row.Effect.{Effect}
use Rattle.group_objects.specs.declared.row.Effect.TheVariants as effect
use Rattle.group_objects.specs.Value.{ObjectValue}
use Rattle.sync_service.specs.Open.{asked_of}
use Rattle.node_core.specs.declared.outcome.Act.{Act}
use Rattle.node_core.specs.declared.outcome.Addressee.{Addressee}
use Rattle.node_core.specs.declared.outcome.Addressee.TheVariants.{Device, Object}
use Rattle.node_core.specs.declared.outcome.Outcome.{Outcome}
use Rattle.node_core.specs.declared.outcome.Outcome.TheVariants as received
use Rattle.node_core.specs.Receiving.{kept_raises, reply_transition, effect_transition, row_transition, act_transition, verdict_transition, telegram_transition, addressed_transition, frame_transition, receive_transition}
use Rattle.node_core.specs.Standing.{ConfigState, Standing, raised, place_in, mark_at}
use Rattle.node_core.specs.Transition.{Transition}
use Rattle.step_text.specs.declared.outcome.StepOutcome.{StepOutcome}
use Rattle.step_text.specs.declared.outcome.StepOutcome.TheVariants as outcome
use Rattle.install_run.specs.Turn.{NodeAt, struck_by, turn_by, act_told, receive_told, receive_turn}
use Rattle.key_tables.specs.declared.types.Row.{Row}
use Rattle.script_text.specs.declared.event.Event.{Event}
use Rattle.script_text.specs.declared.node_row.NodeRow.{NodeRow}
use Rattle.step_text.specs.declared.outcome.Step.{Step}
use Rattle.install_run.specs.First.{first_world, first_node}
use Rattle.install_run.specs.Machine.{WorldAt, telegram_in, heard, node_in, no_node}
use Rattle.install_run.specs.Origin.{IsInstallation, IsRunOf, AreHeld, events_of}
use Rattle.install_run.specs.Passing.{Takes, PassesChecks}
use Rattle.install_run.specs.Runs.{place_of, is_at, after, world_after}
use Rattle.install_run.specs.Deliverable.{HasValues, IsActedOn, ActsOnDeliverable}
use Rattle.install_run.proofs.Marking.{AllStand, stands_after}
use Rattle.install_run.proofs.Rising.{IsFirstAt, first_at}

-- it is acted on
record Acts (o : Outcome) (number : ℕ) (lane : Lane) : Type 0 where
  act : Act
  is : o ≡ received.Acted number lane act

replied : (c : ConfigState) (s : Standing) (number : ℕ) (lane : Lane) (object : ℕ) (row : ObjectRow)
    (value : Option ObjectValue) → IsSome value
    → Acts (reply_transition c s number lane object row.group value).outcome number lane
replied c s number lane object row None some = absurd cc
replied c s number lane object row (Some value) some = record { act = _; is = refl }

effected : (c : ConfigState) (s : Standing) (number : ℕ) (lane : Lane) (object : ℕ) (row : ObjectRow)
    (does : Effect) → IsSome (slice_get s.values object)
    → Acts (effect_transition c s number lane object row (Ok does)).outcome number lane
effected c s number lane object row effect.Read some =
    replied c s number lane object row (slice_get s.values object) some
effected c s number lane object row (effect.Write value) some = record { act = _; is = refl }
effected c s number lane object row (effect.Response value) some = record { act = _; is = refl }

acted : (c : ConfigState) (s : Standing) (to : Addressee) (lane : Lane) (number : ℕ) (service : Service)
    (apdu : List ℕ) → length s.values ≡ length c.objects → Takes c to apdu
    → Acts (act_transition c s to lane number service apdu).outcome number lane
acted c s Device lane number service apdu has takes = record { act = _; is = refl }
acted c s (Object object) lane number service apdu has takes =
    let inside : object < length c.objects = slice_get_within c.objects object takes.row takes.row_is in
    let value_is : slice_get s.values object ≡ Some (get_or s.values object takes.row.value) =
    slice_get-get_or s.values object takes.row.value (subst (λ n. object < n) (sym has) inside) in
    let e = effected c s number lane object takes.row takes.effect (subst IsSome (sym value_is) refl) in
    record {
      act = e.act;
      is = ap (λ (row : Option ObjectRow). (row_transition c s number lane object apdu row).outcome) takes.row_is
          ∙ ap (λ does. (effect_transition c s number lane object takes.row does).outcome) takes.takes ∙ e.is;
    }

received_acts : (c : ConfigState) (s : Standing) (octets : List ℕ) (number : ℕ) (lane : Lane)
    → length s.values ≡ length c.objects → PassesChecks c s octets number lane
    → Acts (receive_transition c s octets).outcome number lane
received_acts c s octets number lane has d =
    let t : Telegram = frame_at octets in
    let asked = asked_of s.pending (source_of t) in
    let mark = mark_at s.numbers.marks (place_in c lane) in
    let raises = kept_raises (place_in c lane) (kept_by c.rows mark asked t) in
    let a = acted c (raised raises s) d.to lane number d.service (opened_by c.rows asked t) has d.taken in
    record {
      act = a.act;
      is = ap (λ f. (frame_transition c s f t).outcome) d.is_frame
          ∙ ap (λ to. (addressed_transition c s t to).outcome) d.is_for
          ∙ ap (λ lane. (telegram_transition c s t d.to lane).outcome) d.lane_is
          ∙ ap (λ v. (verdict_transition c (raised raises s) (source_of t) d.to lane (opened_by c.rows asked t)
          v).outcome)
          d.passes ∙ a.is;
    }

-- ---- in its step

abbrev ActsOrStops : ℕ → ℕ → ℕ → Lane → StepOutcome → Type 0
ActsOrStops telegram node number lane said =
    IsActedOn telegram node number lane said ⊎ ((said ≡ outcome.Cut) ⊎ (said ≡ outcome.Fault))

told_on : (telegram node count number : ℕ) (lane : Lane) (o : Outcome) → Acts o number lane
    → IsActedOn telegram node number lane (receive_told count o)
told_on telegram node count number lane o acts =
    subst (λ o. IsActedOn telegram node number lane (receive_told count o)) (sym acts.is)
    (record { act = acts.act; reply = act_told count acts.act; said_is = refl; entry_is = refl })

turned_on : (telegram node count number : ℕ) (lane : Lane) (t : Transition Outcome) (answer : Option NvmFault)
    (struck : Struck) (n : NodeAt) → Acts t.outcome number lane
    → ActsOrStops telegram node number lane (turn_by answer struck t (receive_told count) n).outcome
turned_on telegram node count number lane t None struck n acts =
    inl (told_on telegram node count number lane t.outcome acts)
turned_on telegram node count number lane t (Some nvm.Cut) struck n acts = inr (inl refl)
turned_on telegram node count number lane t (Some nvm.Failed) struck n acts = inr (inr refl)

pub acts_on_deliverable : (w : WorldAt) (node : ℕ) → HasValues (node_in w node) → ActsOnDeliverable w node
acts_on_deliverable w node has telegram s octets number lane runs hears d =
    let n : NodeAt = node_in w node in
    let count : ℕ = length w.air in
    let t : Transition Outcome = receive_transition n.config s octets in
    let said_is : (receive_turn count (heard (telegram_in w.air telegram)) n n.standing).outcome
    ≡ (receive_turn count (Some octets) n (Some s)).outcome =
    (λ i. (receive_turn count (hears i) n (runs i)).outcome) in
    subst (ActsOrStops telegram node number lane) (sym said_is)
    (turned_on telegram node count number lane t (struck_by t s n).answer (struck_by t s n) n
    (received_acts n.config s octets number lane (has.each_object s runs) d))

-- ---- in each state of a run

stand_along : (steps : ℕ) (events : List Event) (w : WorldAt) (place : ℕ) → AreHeld events w
    → AllStand (node_in w place) → AllStand (node_in (world_after (take steps events) w) place)
stand_along zero [] w place held stand = stand
stand_along zero (e ∷ events) w place held stand = stand
stand_along (suc steps) [] w place held stand = stand
stand_along (suc steps) (e ∷ events) w place held stand =
    stand_along steps events (after e w) place held.1
    (stands_after e w place (is_at place (place_of e)) refl held.0 stand)

first_stand : (rows : List Row) (nodes : List NodeRow) (place : ℕ) (row : Option NodeRow)
    → IsInstallation rows nodes → slice_get nodes place ≡ row → AllStand (node_in (first_world rows nodes) place)
first_stand rows nodes place (Some row) installation is =
    let at : IsFirstAt rows nodes place row = first_at rows nodes place row installation is in
    λ s now. (at.fits.runs s now).stands
first_stand rows nodes place None installation is = λ s now.
    let none : (node_in (first_world rows nodes) place).standing ≡ None =
    ap (λ (n : NodeAt). n.standing) (sym (unwrap_or-slice_get (map (first_node rows) nodes) place no_node)
    ∙ ap (λ o. unwrap_or o no_node) (slice_get-map (first_node rows) nodes place
    ∙ ap (λ o. option_map (first_node rows) o) is)) in
    elim (none-some s (sym none ∙ now)) [ ]

pub acts_on_all_deliverable : (rows : List Row) (nodes : List NodeRow) (w : WorldAt) (history : List Step)
    (steps node : ℕ) → IsRunOf rows nodes w history → AreHeld (events_of history) (first_world rows nodes)
    → ActsOnDeliverable (world_after (take steps (events_of history)) (first_world rows nodes)) node
acts_on_all_deliverable rows nodes w history steps node run held =
    let stand = stand_along steps (events_of history) (first_world rows nodes) node held
    (first_stand rows nodes node (slice_get nodes node) run.installation refl) in
    acts_on_deliverable (world_after (take steps (events_of history)) (first_world rows nodes)) node
    (record { each_object = λ s now. (stand s now).each_value })
