-- The numbers of the telegrams that a node put on the air are those that its outcomes tell as drawn.
use Rattle.std.proofs.Common.{◌≡◌, inl, inr, ℕ, ◌<◌, List, [], ◌∷◌, ◌++◌, length, Bool, true, false, Option, Some, None, refl, sym, ap, ◌∙◌, subst, arith}
use Rattle.std.specs.Prelude.{◌-◌, ◌==◌, map, slice_get, if◌then◌else◌}
use Rattle.std.proofs.lemmas.Bool.{eq-eqb, false≢true}
use Rattle.key_tables.specs.declared.types.Row.{Row}
use Rattle.seq_store.specs.Draws.{reservation_for}
use Rattle.script_text.specs.declared.event.Event.{Event}
use Rattle.script_text.specs.declared.node_row.NodeRow.{NodeRow}
use Rattle.step_text.specs.declared.outcome.Step.{Step}
use Rattle.step_text.specs.declared.outcome.StepOutcome.{StepOutcome}
use Rattle.install_run.specs.First.{first_world}
use Rattle.install_run.specs.Histories.{Draw, outcomes_of, next_after, reserved_after, draws, drawn_by}
use Rattle.install_run.specs.Machine.{TelegramAt, WorldAt, has_telegram, node_in}
use Rattle.install_run.specs.Origin.{IsRunOf, HoldsAfter, AreHeld, events_of}
use Rattle.install_run.specs.Runs.{place_of, is_at, after, step_of, history_of}
use Rattle.install_run.specs.Sealed.{SealedAt, next_of, sealed_in, all_sealed, numbers_at, number_in}
use Rattle.install_run.specs.Turn.{NodeAt}
use Rattle.install_run.proofs.Rising.{Fits, GoesOn, goes_on, IsFirstAt, first_at}
use Rattle.install_run.proofs.Steps.{StepsTo, IsSteppedAt, stepped_at, stays_at, same_size, is_its_place}

-- Where a telegram was sent, the next number of the node is the one that is told.
pub is_next : (e : Event) (air : List TelegramAt) (n n' : NodeAt) (said : StepOutcome) (reserved next floor : ℕ)
    → StepsTo e air n said n' → Fits n reserved next floor → has_telegram said ≡ true
    → next_of n.standing ≡ next
is_next e air n n' said reserved next floor (inl g) fits sends =
    ap next_of g.was ∙ (fits.runs g.before g.was).next_is
is_next e air n n' said reserved next floor (inr (inl st)) fits sends =
    elim (false≢true (sym st.silent.sends ∙ sends)) [ ]
is_next e air n n' said reserved next floor (inr (inr (inl st))) fits sends =
    elim (false≢true (sym (ap has_telegram st.outcome_is) ∙ sends)) [ ]
is_next e air n n' said reserved next floor (inr (inr (inr st))) fits sends =
    elim (false≢true (sym st.silent.sends ∙ sends)) [ ]

one_number : (sends : Bool) (place number reserved next : ℕ) (octets : List ℕ) (later : List SealedAt)
    (ds : List Draw) → (sends ≡ true → number ≡ next) → numbers_at place later ≡ map number_in ds
    → numbers_at place
    ((if sends then record { place = place; number = number; octets = octets } ∷ [] else []) ++ later)
    ≡ map number_in ((if sends then record { number = next; reserved = reservation_for reserved next } ∷ [] else [])
    ++ ds)
one_number true place number reserved next octets later ds is same =
    ap (λ b. if b then number ∷ numbers_at place later else numbers_at place later) (eq-eqb place place refl)
    ∙ ap (λ n. n ∷ numbers_at place later) (is refl) ∙ ap (λ ns. next ∷ ns) same
one_number false place number reserved next octets later ds is same = same

other_number : (sends : Bool) (place : ℕ) (t : SealedAt) (later : List SealedAt) → (place == t.place) ≡ false
    → numbers_at place ((if sends then t ∷ [] else []) ++ later) ≡ numbers_at place later
other_number true place t later other =
    ap (λ b. if b then t.number ∷ numbers_at place later else numbers_at place later) other
other_number false place t later other = refl

other_numbers : (e : Event) (w : WorldAt) (place : ℕ) (later : List SealedAt) (node : Option ℕ)
    → is_at place node ≡ false → numbers_at place (sealed_in e w node ++ later) ≡ numbers_at place later
other_numbers e w place later None other = refl
other_numbers e w place later (Some q) other =
    other_number (has_telegram (step_of e w).outcome) place _ later other

-- after these events
abbrev AreDrawn : List Event → WorldAt → ℕ → ℕ → ℕ → Type 0
AreDrawn events w place reserved next =
    numbers_at place (all_sealed events w)
    ≡ map number_in (draws reserved next (outcomes_of place (history_of events w)))

one_step : (here : Bool) (e : Event) (events : List Event) (w : WorldAt) (place reserved next floor : ℕ)
    → is_at place (place_of e) ≡ here → place < length w.nodes → HoldsAfter e w
    → Fits (node_in w place) reserved next floor
    → ((reserved next floor : ℕ) → Fits (node_in (after e w) place) reserved next floor
    → AreDrawn events (after e w) place reserved next)
    → numbers_at place (all_sealed (e ∷ events) w)
    ≡ map number_in (draws reserved next (if here then (step_of e w).outcome
    ∷ outcomes_of place (history_of events (after e w)) else outcomes_of place (history_of events (after e w))))
one_step true e events w place reserved next floor here below held fits again =
    let at = is_its_place e place here in
    let n = node_in w place in
    let n' = node_in (after e w) place in
    let said = (step_of e w).outcome in
    let step : IsSteppedAt e w place = stepped_at e w place at below in
    let on : GoesOn said n' reserved next floor =
    goes_on e w.air n n' said reserved next floor step.steps step.config (held place at) fits in
    let later = all_sealed events (after e w) in
    let reserved' = reserved_after reserved next said in
    let next' = next_after next said in
    ap (λ node. numbers_at place (sealed_in e w node ++ later)) at
    ∙ one_number (has_telegram said) place (next_of n.standing) reserved next _ later
    (draws reserved' next' (outcomes_of place (history_of events (after e w))))
    (is_next e w.air n n' said reserved next floor step.steps fits)
    (again reserved' next' on.floor' on.fits)
one_step false e events w place reserved next floor other below held fits again =
    other_numbers e w place (all_sealed events (after e w)) (place_of e) other
    ∙ again reserved next floor (subst (λ n. Fits n reserved next floor) (sym (stays_at e w place other)) fits)

are_drawn : (events : List Event) (w : WorldAt) (place reserved next floor : ℕ) → place < length w.nodes
    → AreHeld events w → Fits (node_in w place) reserved next floor → AreDrawn events w place reserved next
are_drawn [] w place reserved next floor below held fits = refl
are_drawn (e ∷ events) w place reserved next floor below held fits =
    let same = same_size e w in
    one_step (is_at place (place_of e)) e events w place reserved next floor refl below held.0 fits
    (λ reserved next floor fits. are_drawn events (after e w) place reserved next floor (omega (arith, below, same))
    held.1 fits)

pub numbers_are_drawn : (rows : List Row) (nodes : List NodeRow) (w : WorldAt) (history : List Step) (place : ℕ)
    (row : NodeRow) → IsRunOf rows nodes w history → AreHeld (events_of history) (first_world rows nodes)
    → slice_get nodes place ≡ Some row
    → numbers_at place (all_sealed (events_of history) (first_world rows nodes))
    ≡ map number_in (drawn_by place row history)
numbers_are_drawn rows nodes w history place row run held is =
    let first : WorldAt = first_world rows nodes in
    let at : IsFirstAt rows nodes place row = first_at rows nodes place row run.installation is in
    are_drawn (events_of history) first place (row.next - 1) row.next 0 at.below held at.fits
    ∙ ap (λ h. map number_in (draws (row.next - 1) row.next (outcomes_of place h))) (sym run.history_is)
