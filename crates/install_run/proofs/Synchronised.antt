-- What synchronisations make of the numbers of a node: by the steps of a run.
use Rattle.std.proofs.Common.{◌≡◌, inl, inr, ℕ, suc, ◌-◌, ◌<◌, List, [], ◌∷◌, ◌++◌, length, Bool, true, false, Option, Some, None, refl, sym, ap, ◌∙◌, subst, arith}
use Rattle.std.specs.Prelude.{slice_get, if◌then◌else◌, IfSome}
use Rattle.std.specs.List.{All, AllPairs}
use Rattle.std.proofs.lemmas.Option.{none-some}
use Rattle.std.proofs.lemmas.List.Elements.{All-nil, All-cons}
use Rattle.key_tables.specs.declared.types.Row.{Row}
use Rattle.seq_store.specs.Draws.{reservation_for}
use Rattle.node_core.specs.Standing.{Standing}
use Rattle.node_core.specs.Transition.{Transition}
use Rattle.script_text.specs.declared.event.Event.{Event}
use Rattle.script_text.specs.declared.node_row.NodeRow.{NodeRow}
use Rattle.step_text.specs.declared.outcome.Step.{Step}
use Rattle.step_text.specs.declared.outcome.StepOutcome.{StepOutcome}
use Rattle.step_text.specs.declared.outcome.StepOutcome.TheVariants as outcome
use Rattle.install_run.specs.Turn.{NodeAt}
use Rattle.install_run.specs.Machine.{TelegramAt, WorldAt, has_telegram, node_in}
use Rattle.install_run.specs.Runs.{place_of, is_at, after, step_of, history_of}
use Rattle.install_run.specs.Calls.{call_of}
use Rattle.install_run.specs.First.{first_world}
use Rattle.install_run.specs.Histories.{outcomes_of, next_after, reserved_after, Draw, draws}
use Rattle.install_run.specs.Origin.{events_of, HoldsAfter, AreHeld, IsRunOf}
use Rattle.install_run.specs.Synchronising.{is_stop, until_stop, AreAbove, kept_told, GoesOnAboveKept, answered_in, GoesOnAboveAnswers, Synchronises}
use Rattle.install_run.proofs.Counting.{Tells, call_tells}
use Rattle.install_run.proofs.Sounding.{some_same}
use Rattle.install_run.proofs.Drawing.{Draws, call_draws}
use Rattle.install_run.proofs.Marking.{AllStand, stands_after}
use Rattle.install_run.proofs.Steps.{StepsTo, IsSteppedAt, stepped_at, stays_at, same_size, is_its_place}
use Rattle.install_run.proofs.Replying.{replies_tell}
use Rattle.install_run.proofs.Taken.{taken_pass}
use Rattle.install_run.proofs.Rising.{Fits, GoesOn, goes_on, IsFirstAt, first_at, draws_once}

if_then : {A : Type 0} (P Q : A → Type 0) (o : Option A) → ((a : A) → P a → Q a) → IfSome o P → IfSome o Q
if_then P Q None gives is = tt
if_then P Q (Some a) gives is = gives a is

-- ---- above its own answers

pairs_first : {A : Type 0} (R : A → A → Type 0) (x : A) (xs : List A) → AllPairs R (x ∷ xs) → All (R x) xs
pairs_first R x xs pairs = λ j d below. pairs 0 (suc j) d (omega arith) (omega (arith, below))

pairs_rest : {A : Type 0} (R : A → A → Type 0) (x : A) (xs : List A) → AllPairs R (x ∷ xs) → AllPairs R xs
pairs_rest R x xs pairs = λ i j d before below. pairs (suc i) (suc j) d (omega (arith, before)) (omega (arith, below))

abbrev Rise : List Draw → Type 0
Rise drawn = AllPairs (λ (early late : Draw). early.number < late.number) drawn

-- the first is above nothing, and the others are above it
drawn_first : (one : Bool) (reserved next : ℕ) (rest : List Draw)
    → Rise ((if one then record { number = next; reserved = reservation_for reserved next } ∷ [] else []) ++ rest)
    → Rise rest × (one ≡ true → AreAbove next rest)
drawn_first true reserved next rest rise =
    let first : Draw = record { number = next; reserved = reservation_for reserved next } in
    let R : Draw → Draw → Type 0 = λ early late. early.number < late.number in
    (pairs_rest R first rest rise, λ is. pairs_first R first rest rise)
drawn_first false reserved next rest rise = (rise, λ is. absurd cc)

sends_answer : (P : Type 0) (said : StepOutcome) → (has_telegram said ≡ true → P)
    → IfSome (answered_in said) (λ answered. P)
sends_answer P (outcome.Answered challenge (Some telegram)) sends = sends refl
sends_answer P (outcome.Answered challenge None) sends = tt
sends_answer P said sends = tt

above_answers : (reserved next : ℕ) (saids : List StepOutcome) → Rise (draws reserved next saids)
    → GoesOnAboveAnswers reserved next saids
above_answers reserved next [] rise = tt
above_answers reserved next (said ∷ later) rise =
    let reserved' = reserved_after reserved next said in
    let next' = next_after next said in
    let first = drawn_first (has_telegram said) reserved next (draws reserved' next' later) rise in (
      sends_answer (AreAbove next (draws reserved' next' later)) said first.1,
      above_answers reserved' next' later first.0,
    )

-- ---- above what it was told as kept

-- a node that runs, and whose next number is this one and above that
pub record RunsAbove (kept next : ℕ) (n : NodeAt) : Type 0 where
  pub s : Standing
  pub runs : n.standing ≡ Some s
  pub next_is : s.next ≡ next
  pub above : kept < next

draw_above : (kept reserved next : ℕ) (one : Bool) (rest : List Draw) → kept < next → AreAbove kept rest
    → AreAbove kept
    ((if one then record { number = next; reserved = reservation_for reserved next } ∷ [] else []) ++ rest)
draw_above kept reserved next true rest above all =
    All-cons (λ (draw : Draw). kept < draw.number)
    (record { number = next; reserved = reservation_for reserved next }) rest above all
draw_above kept reserved next false rest above all = all

abbrev pub DrawsAbove : ℕ → ℕ → ℕ → List StepOutcome → Type 0
DrawsAbove kept reserved next saids = AreAbove kept (draws reserved next saids)

stop_draws : (kept reserved next : ℕ) (said : StepOutcome) (later : List StepOutcome) → is_stop said ≡ true
    → DrawsAbove kept reserved next (until_stop (said ∷ later))
stop_draws kept reserved next said later stops =
    subst (λ b. DrawsAbove kept reserved next (if b then [] else said ∷ until_stop later)) (sym stops)
    (All-nil (λ (draw : Draw). kept < draw.number))

more_draws : (kept reserved next : ℕ) (said : StepOutcome) (later : List StepOutcome) (stops : Bool) → kept < next
    → DrawsAbove kept (reserved_after reserved next said) (next_after next said) (until_stop later)
    → DrawsAbove kept reserved next (if stops then [] else said ∷ until_stop later)
more_draws kept reserved next said later true above all = All-nil (λ (draw : Draw). kept < draw.number)
more_draws kept reserved next said later false above all =
    draw_above kept reserved next (has_telegram said)
    (draws (reserved_after reserved next said) (next_after next said) (until_stop later)) above all

above_step : (e : Event) (air : List TelegramAt) (n n' : NodeAt) (said : StepOutcome) (kept reserved next : ℕ)
    (later : List StepOutcome) → StepsTo e air n said n' → AllStand n → RunsAbove kept next n
    → ((reserved next : ℕ) → RunsAbove kept next n' → DrawsAbove kept reserved next (until_stop later))
    → DrawsAbove kept reserved next (until_stop (said ∷ later))
above_step e air n n' said kept reserved next later (inl g) stand r again =
    let s = g.before in
    let c : Transition StepOutcome = call_of e air n.config s in
    let d : Draws c.outcome c.raises c.after s = call_draws e air n.config s (stand s g.was).next_fits in
    let same : s.next ≡ next =
    ap (λ (s : Standing). s.next) (some_same s r.s (sym g.was ∙ r.runs)) ∙ r.next_is in
    let next_is : c.after.next ≡ next_after next said =
    d.next ∙ (λ i. next_after (same i) (sym g.outcome_is i)) in
    let up = d.next_up in
    let above = r.above in
    more_draws kept reserved next said later (is_stop said) above
    (again (reserved_after reserved next said) (next_after next said) (record {
      s = c.after;
      runs = g.now;
      next_is = next_is;
      above = omega (arith, up, above, next_is, same);
    }))
above_step e air n n' said kept reserved next later (inr (inl st)) stand r again =
    stop_draws kept reserved next said later st.stops
above_step e air n n' said kept reserved next later (inr (inr (inl st))) stand r again =
    elim (none-some r.s (sym st.was ∙ r.runs)) [ ]
above_step e air n n' said kept reserved next later (inr (inr (inr st))) stand r again =
    elim (none-some r.s (sym st.was ∙ r.runs)) [ ]

above_by : (e : Event) (w : WorldAt) (place kept reserved next : ℕ) (later : List StepOutcome) (here : Bool)
    → is_at place (place_of e) ≡ here → place < length w.nodes → AllStand (node_in w place)
    → RunsAbove kept next (node_in w place)
    → ((reserved next : ℕ) → RunsAbove kept next (node_in (after e w) place)
    → DrawsAbove kept reserved next (until_stop later))
    → DrawsAbove kept reserved next (until_stop (if here then (step_of e w).outcome ∷ later else later))
above_by e w place kept reserved next later true here below stand r again =
    let step : IsSteppedAt e w place = stepped_at e w place (is_its_place e place here) below in
    above_step e w.air (node_in w place) (node_in (after e w) place) (step_of e w).outcome kept reserved next later
    step.steps stand r again
above_by e w place kept reserved next later false other below stand r again =
    again reserved next (subst (RunsAbove kept next) (sym (stays_at e w place other)) r)

pub above : (events : List Event) (w : WorldAt) (place kept reserved next : ℕ) → place < length w.nodes
    → AreHeld events w → AllStand (node_in w place) → RunsAbove kept next (node_in w place)
    → DrawsAbove kept reserved next (until_stop (outcomes_of place (history_of events w)))
above [] w place kept reserved next below held stand r = All-nil (λ (draw : Draw). kept < draw.number)
above (e ∷ events) w place kept reserved next below held stand r =
    let here = is_at place (place_of e) in
    let same = same_size e w in
    above_by e w place kept reserved next (outcomes_of place (history_of events (after e w))) here refl below stand r
    (λ reserved next r. above events (after e w) place kept reserved next (omega (arith, below, same)) held.1
    (stands_after e w place here refl held.0 stand) r)

-- ---- a taken answer

synced_above : (said : StepOutcome) (next : ℕ) → Tells next said
    → IfSome (kept_told said) (λ kept. kept < next_after next said)
synced_above (outcome.Synced number kept then_next) next tells = omega (arith, tells)
synced_above said next tells = tt

silent_told : (P : ℕ → Type 0) (said : StepOutcome) → ((next : ℕ) → next_after next said ≡ next)
    → IfSome (kept_told said) P
silent_told P (outcome.Synced number kept then_next) stays =
    let zero = stays 0 in let one = stays 1 in absurd (omega (arith, zero, one))
silent_told P said stays = tt

pub taken_step : (e : Event) (air : List TelegramAt) (n n' : NodeAt) (said : StepOutcome) (reserved next floor : ℕ)
    → StepsTo e air n said n' → AllStand n → Fits n reserved next floor
    → IfSome (kept_told said) (λ kept. RunsAbove kept (next_after next said) n')
taken_step e air n n' said reserved next floor (inl g) stand fits =
    let s = g.before in
    let c : Transition StepOutcome = call_of e air n.config s in
    let d : Draws c.outcome c.raises c.after s = call_draws e air n.config s (stand s g.was).next_fits in
    let same : s.next ≡ next = (fits.runs s g.was).next_is in
    let tells : Tells next said = subst (λ said. Tells next said) (sym g.outcome_is)
    (subst (λ next. Tells next c.outcome) same (call_tells e air n.config s)) in
    if_then (λ kept. kept < next_after next said) (λ kept. RunsAbove kept (next_after next said) n') (kept_told said)
    (λ kept above. record {
      s = c.after;
      runs = g.now;
      next_is = d.next ∙ (λ i. next_after (same i) (sym g.outcome_is i));
      above = above;
    }) (synced_above said next tells)
taken_step e air n n' said reserved next floor (inr (inl st)) stand fits =
    silent_told (λ kept. RunsAbove kept (next_after next said) n') said st.silent.next
taken_step e air n n' said reserved next floor (inr (inr (inl st))) stand fits =
    subst (λ told. IfSome (kept_told told) (λ kept. RunsAbove kept (next_after next said) n')) (sym st.outcome_is) tt
taken_step e air n n' said reserved next floor (inr (inr (inr st))) stand fits =
    silent_told (λ kept. RunsAbove kept (next_after next said) n') said st.silent.next

taking_by : (e : Event) (events : List Event) (w : WorldAt) (place reserved next floor : ℕ) (here : Bool)
    → is_at place (place_of e) ≡ here → place < length w.nodes → HoldsAfter e w → AreHeld events (after e w)
    → AllStand (node_in w place) → Fits (node_in w place) reserved next floor
    → ((reserved next floor : ℕ) → Fits (node_in (after e w) place) reserved next floor
    → GoesOnAboveKept reserved next (outcomes_of place (history_of events (after e w))))
    → GoesOnAboveKept reserved next (if here then (step_of e w).outcome
    ∷ outcomes_of place (history_of events (after e w)) else outcomes_of place (history_of events (after e w)))
taking_by e events w place reserved next floor true here below held later_held stand fits again =
    let at = is_its_place e place here in
    let n' = node_in (after e w) place in
    let step : IsSteppedAt e w place = stepped_at e w place at below in
    let said = (step_of e w).outcome in
    let same = same_size e w in
    let reserved' = reserved_after reserved next said in
    let next' = next_after next said in
    let later = outcomes_of place (history_of events (after e w)) in
    let on : GoesOn said n' reserved next floor = goes_on e w.air (node_in w place) n' said reserved next floor
    step.steps step.config (held place at) fits in (
      if_then (λ kept. RunsAbove kept next' n') (λ kept. DrawsAbove kept reserved' next' (until_stop later))
          (kept_told said)
          (λ kept r. above events (after e w) place kept reserved' next' (omega (arith, below, same)) later_held
          (held place at).stands r)
          (taken_step e w.air (node_in w place) n' said reserved next floor step.steps stand fits),
      again reserved' next' on.floor' on.fits,
    )
taking_by e events w place reserved next floor false other below held later_held stand fits again =
    again reserved next floor (subst (λ n. Fits n reserved next floor) (sym (stays_at e w place other)) fits)

taking : (events : List Event) (w : WorldAt) (place reserved next floor : ℕ) → place < length w.nodes
    → AreHeld events w → AllStand (node_in w place) → Fits (node_in w place) reserved next floor
    → GoesOnAboveKept reserved next (outcomes_of place (history_of events w))
taking [] w place reserved next floor below held stand fits = tt
taking (e ∷ events) w place reserved next floor below held stand fits =
    let here = is_at place (place_of e) in
    let same = same_size e w in
    taking_by e events w place reserved next floor here refl below held.0 held.1 stand fits
    (λ reserved next floor fits. taking events (after e w) place reserved next floor (omega (arith, below, same)) held.1
    (stands_after e w place here refl held.0 stand) fits)

-- ---- from the first world on

module _ (rows : List Row) (nodes : List NodeRow) (w : WorldAt) (history : List Step) (place : ℕ) (row : NodeRow)
    (run : IsRunOf rows nodes w history) (held : AreHeld (events_of history) (first_world rows nodes))
    (is : slice_get nodes place ≡ Some row) where
  at_first : IsFirstAt rows nodes place row
  at_first = first_at rows nodes place row run.installation is

  stands_first : AllStand (node_in (first_world rows nodes) place)
  stands_first = λ s now. (at_first.fits.runs s now).stands

  pub goes_on_above_kept : GoesOnAboveKept (row.next - 1) row.next (outcomes_of place history)
  goes_on_above_kept =
      subst (λ h. GoesOnAboveKept (row.next - 1) row.next (outcomes_of place h)) (sym run.history_is)
      (taking (events_of history) (first_world rows nodes) place (row.next - 1) row.next 0 at_first.below held
      stands_first at_first.fits)

  pub goes_on_above_answers : GoesOnAboveAnswers (row.next - 1) row.next (outcomes_of place history)
  goes_on_above_answers =
      above_answers (row.next - 1) row.next (outcomes_of place history)
      (draws_once rows nodes w history place row run held is).rise

  pub synchronises : Synchronises place row (events_of history) (first_world rows nodes) history
  synchronises = record {
    takes = goes_on_above_kept;
    answers = goes_on_above_answers;
    replies = replies_tell (events_of history) (first_world rows nodes) place at_first.below;
    taken = taken_pass (events_of history) (first_world rows nodes) place at_first.below held stands_first;
  }
