-- No mark of a node falls: by the steps of a run, over cuts, faults and starts.
use Rattle.std.proofs.Common.{◌≡◌, inl, inr, ℕ, ◌<◌, List, [], ◌∷◌, length, Bool, true, false, Some, refl, sym, ap, ◌∙◌, subst, arith}
use Rattle.std.specs.Prelude.{slice_get}
use Rattle.key_tables.specs.declared.types.Row.{Row}
use Rattle.seq_store.specs.Runs.{numbers_in}
use Rattle.node_core.specs.Standing.{ConfigState, Standing}
use Rattle.node_core.specs.Transition.{Transition}
use Rattle.script_text.specs.declared.event.Event.{Event}
use Rattle.script_text.specs.declared.node_row.NodeRow.{NodeRow}
use Rattle.step_text.specs.declared.outcome.Step.{Step}
use Rattle.step_text.specs.declared.outcome.StepOutcome.{StepOutcome}
use Rattle.install_run.specs.Turn.{NodeAt}
use Rattle.install_run.specs.Machine.{TelegramAt, WorldAt, node_in}
use Rattle.install_run.specs.Runs.{place_of, is_at, after, step_of}
use Rattle.install_run.specs.Calls.{call_of}
use Rattle.install_run.specs.First.{first_world}
use Rattle.install_run.specs.Holding.{Stands, IsHeld, raises_of}
use Rattle.install_run.specs.Histories.{NoneFalls}
use Rattle.install_run.specs.Marks.{marks_by, marks_at, NoMarkFalls}
use Rattle.install_run.specs.Origin.{events_of, HoldsAfter, AreHeld, IsRunOf}
use Rattle.install_run.proofs.Climbing.{Climbs, NumbersUp, up_some}
use Rattle.install_run.proofs.Drawing.{call_draws, same_raises}
use Rattle.install_run.proofs.Steps.{StepsTo, IsSteppedAt, stepped_at, stays_at, same_size, is_its_place}
use Rattle.install_run.proofs.Rising.{IsFirstAt, first_at}

-- its memory restores the numbers of a node that runs
abbrev pub AllStand : NodeAt → Type 0
AllStand n = (s : Standing) → n.standing ≡ Some s → Stands s n

same_none : (marks : List ℕ) → NoneFalls marks marks
same_none marks = λ lane. omega arith

by_both : (old old' new new' : List ℕ) → old' ≡ old → new' ≡ new → NoneFalls old new → NoneFalls old' new'
by_both old old' new new' old_is new_is falls =
    subst (λ m. NoneFalls m new') (sym old_is) (subst (λ m. NoneFalls old m) (sym new_is) falls)

pub marks_step : (e : Event) (air : List TelegramAt) (n n' : NodeAt) (said : StepOutcome) → StepsTo e air n said n'
    → n'.config ≡ n.config → IsHeld e air n n' → AllStand n
    → NoneFalls (marks_by n n.standing) (marks_by n' n'.standing)
marks_step e air n n' said (inl g) config held stand =
    let s = g.before in
    let c : Transition StepOutcome = call_of e air n.config s in
    let d = call_draws e air n.config s (stand s g.was).next_fits in
    by_both s.numbers.marks (marks_by n n.standing) c.after.numbers.marks (marks_by n' n'.standing)
    (ap (marks_by n) g.was) (ap (marks_by n') g.now) d.marks_up
marks_step e air n n' said (inr (inl st)) config held stand =
    let s = st.before in
    let stands : Stands s n = stand s st.was in
    let d = call_draws e air n.config s stands.next_fits in
    let climbs : Climbs (raises_of e air n.config s) s.numbers =
    subst (λ rs. Climbs rs s.numbers) (same_raises e air n.config s) d.climbs in
    let up : NumbersUp s.numbers (numbers_in (length s.numbers.marks) n'.octets) =
    up_some (raises_of e air n.config s) s.numbers n'.octets climbs (held.raised.some s st.was) in
    let lanes : length s.numbers.marks ≡ length n'.config.lanes =
    stands.each_lane ∙ ap (λ (c : ConfigState). length c.lanes) (sym config) in
    by_both s.numbers.marks (marks_by n n.standing) (numbers_in (length n'.config.lanes) n'.octets).marks
    (marks_by n' n'.standing) (ap (marks_by n) st.was) (ap (marks_by n') st.now)
    (subst (λ lanes. NoneFalls s.numbers.marks (numbers_in lanes n'.octets).marks) lanes up.marks)
marks_step e air n n' said (inr (inr (inl st))) config held stand =
    let marks = (numbers_in (length n.config.lanes) n.octets).marks in
    by_both marks (marks_by n n.standing) marks (marks_by n' n'.standing) (ap (marks_by n) st.was)
    (ap (marks_by n') st.now) (same_none marks)
marks_step e air n n' said (inr (inr (inr st))) config held stand =
    let marks = (numbers_in (length n.config.lanes) n.octets).marks in
    by_both marks (marks_by n n.standing) marks (marks_by n' n'.standing) (ap (marks_by n) st.was)
    (ap (marks_by n') st.now
    ∙ (λ i. (numbers_in (length (config i).lanes) (st.octets i)).marks)) (same_none marks)

-- a node whose memory restores its numbers is one after a step, too
pub stands_after : (e : Event) (w : WorldAt) (place : ℕ) (here : Bool) → is_at place (place_of e) ≡ here
    → HoldsAfter e w → AllStand (node_in w place) → AllStand (node_in (after e w) place)
stands_after e w place true here held stand = (held place (is_its_place e place here)).stands
stands_after e w place false other held stand = subst AllStand (sym (stays_at e w place other)) stand

marking_by : (e : Event) (w : WorldAt) (place : ℕ) (here : Bool) → is_at place (place_of e) ≡ here
    → place < length w.nodes → HoldsAfter e w → AllStand (node_in w place)
    → NoneFalls (marks_at w place) (marks_at (after e w) place)
marking_by e w place true here below held stand =
    let at = is_its_place e place here in
    let step : IsSteppedAt e w place = stepped_at e w place at below in
    marks_step e w.air (node_in w place) (node_in (after e w) place) (step_of e w).outcome step.steps step.config
    (held place at) stand
marking_by e w place false other below held stand =
    subst (λ (n : NodeAt). NoneFalls (marks_at w place) (marks_by n n.standing)) (sym (stays_at e w place other))
    (same_none (marks_at w place))

marking : (events : List Event) (w : WorldAt) (place : ℕ) → place < length w.nodes → AreHeld events w
    → AllStand (node_in w place) → NoMarkFalls place events w
marking [] w place below held stand = tt
marking (e ∷ events) w place below held stand =
    let same = same_size e w in (
      marking_by e w place (is_at place (place_of e)) refl below held.0 stand,
      marking events (after e w) place (omega (arith, below, same)) held.1
          (stands_after e w place (is_at place (place_of e)) refl held.0 stand),
    )

pub marks_kept : (rows : List Row) (nodes : List NodeRow) (w : WorldAt) (history : List Step) (place : ℕ)
    (row : NodeRow) → IsRunOf rows nodes w history → AreHeld (events_of history) (first_world rows nodes)
    → slice_get nodes place ≡ Some row → NoMarkFalls place (events_of history) (first_world rows nodes)
marks_kept rows nodes w history place row run held is =
    let at : IsFirstAt rows nodes place row = first_at rows nodes place row run.installation is in
    marking (events_of history) (first_world rows nodes) place at.below held (λ s now. (at.fits.runs s now).stands)
