-- What a node acts on is above the mark of its lane, and so the numbers of its journal rise on each lane.
use Rattle.std.proofs.Common.{◌≡◌, inl, inr, ℕ, ◌+◌, ◌<◌, ◌≤◌, List, [], ◌∷◌, ◌++◌, length, Bool, true, false, Option, Some, None, Result, Ok, Err, refl, sym, ap, ◌∙◌, subst, arith}
use Rattle.std.specs.Prelude.{slice_get, slice_index, slice_set, unwrap_or, if◌then◌else◌, IfSome}
use Rattle.std.specs.List.{All, AllPairs}
use Rattle.std.proofs.lemmas.Option.{none-some}
use Rattle.std.proofs.lemmas.List.{get_or-set_same}
use Rattle.std.proofs.lemmas.List.Elements.{All-nil, All-cons}
use Rattle.std.proofs.lemmas.List.Kept.{AllPairs-cons}
use Rattle.std.proofs.lemmas.List.Quantifiers.{position-Some}
use Rattle.key_tables.specs.declared.types.Lane.{Lane}
use Rattle.key_tables.specs.declared.types.Row.{Row}
use Rattle.key_tables.specs.Lanes.{same_lane}
use Rattle.key_tables.proofs.LaneOrder.{same_lane-is}
use Rattle.nvm_model.specs.declared.fault.NvmFault.TheVariants as nvm
use Rattle.seq_store.specs.Runs.{Numbers, Raise, Mark, after_raise, after_raises}
use Rattle.group_objects.specs.Objects.{set_refusal}
use Rattle.group_objects.specs.declared.objects.SetFault.{SetFault}
use Rattle.group_objects.specs.declared.objects.SetFault.TheVariants as refused
use Rattle.node_core.specs.declared.fault.SendFault.{SendFault}
use Rattle.node_core.specs.declared.fault.SendFault.TheVariants as fault
use Rattle.node_core.specs.declared.outcome.Act.{Act}
use Rattle.node_core.specs.declared.outcome.Outcome.{Outcome}
use Rattle.node_core.specs.declared.outcome.Outcome.TheVariants as received
use Rattle.key_tables.proofs.SendersLanes.{lane_there}
use Rattle.node_core.specs.Config.{groups_of}
use Rattle.node_core.specs.Laws.{IsRaisedFirst, RaisesBeforeActing}
use Rattle.node_core.proofs.Firsts.{raises_first}
use Rattle.node_core.specs.Receiving.{receive_transition}
use Rattle.node_core.specs.Sending.{send_transition, tool_transition, ask_transition, set_unless}
use Rattle.node_core.specs.Standing.{ConfigState, Standing, place_in, mark_at, with_value}
use Rattle.node_core.specs.Transition.{Transition}
use Rattle.group_objects.specs.Value.{ObjectValue}
use Rattle.script_text.specs.declared.node_row.NodeRow.{NodeRow}
use Rattle.script_text.specs.declared.event.Event.{Event}
use Rattle.script_text.specs.declared.event.Event.TheVariants as event
use Rattle.step_text.specs.declared.outcome.Entry.{Entry}
use Rattle.step_text.specs.declared.outcome.Step.{Step}
use Rattle.step_text.specs.declared.outcome.StepOutcome.{StepOutcome}
use Rattle.step_text.specs.declared.outcome.StepOutcome.TheVariants as outcome
use Rattle.install_run.specs.Turn.{NodeAt, set_told, send_told, receive_told}
use Rattle.install_run.specs.Machine.{TelegramAt, WorldAt, telegram_in, heard, node_in}
use Rattle.install_run.specs.Runs.{place_of, is_at, set_entry, telegram_entry, entries_of, journal_of, after, step_of, history_of}
use Rattle.install_run.specs.Calls.{deliver_call, call_of}
use Rattle.install_run.specs.Holding.{Stands}
use Rattle.install_run.specs.Histories.{NoneFalls}
use Rattle.install_run.specs.Marks.{marks_by}
use Rattle.install_run.specs.First.{first_world}
use Rattle.install_run.specs.Journals.{mark_on, acted_in, ExceedsMarks, numbers_on, JournalRises}
use Rattle.install_run.specs.Origin.{events_of, HoldsAfter, AreHeld, IsRunOf}
use Rattle.install_run.proofs.Climbing.{Climbs, up_raises}
use Rattle.install_run.proofs.Drawing.{Draws, call_draws}
use Rattle.install_run.proofs.Steps.{StepsTo, Goes, IsSteppedAt, stepped_at, stays_at, same_size, is_its_place}
use Rattle.install_run.proofs.Marking.{AllStand, marks_step, stands_after}
use Rattle.install_run.proofs.Rising.{IsFirstAt, first_at}

-- ---- only what is received is acted on

no_act_set : (refusal : Option SetFault) → acted_in (set_told refusal) ≡ None
no_act_set None = refl
no_act_set (Some refused.NoObject) = refl
no_act_set (Some refused.Size) = refl

set_says : (refusal : Option SetFault) (s new : Standing) → (set_unless refusal s new).outcome ≡ refusal
set_says None s new = refl
set_says (Some f) s new = refl

no_act_sent : (count : ℕ) (sent : Result ℕ SendFault) → acted_in (send_told count sent) ≡ None
no_act_sent count (Ok number) = refl
no_act_sent count (Err fault.NoObject) = refl
no_act_sent count (Err fault.Flag) = refl
no_act_sent count (Err fault.NoKey) = refl
no_act_sent count (Err fault.Exhausted) = refl
no_act_sent count (Err (fault.Memory nvm.Cut)) = refl
no_act_sent count (Err (fault.Memory nvm.Failed)) = refl

record IsActed (o : Outcome) (acted : ℕ × Lane) : Type 0 where
  act : Act
  is : o ≡ received.Acted acted.0 acted.1 act

told_acted : (count : ℕ) (o : Outcome) (acted : ℕ × Lane) → acted_in (receive_told count o) ≡ Some acted
    → IsActed o acted
told_acted count received.Ignored acted is = absurd cc
told_acted count (received.Refused verdict) acted is = absurd cc
told_acted count (received.Acted number lane act) acted is =
    let same : (number, lane) ≡ acted = ap (λ o. unwrap_or o (number, lane)) is in
    record { act = act; is = λ i. received.Acted (same i).0 (same i).1 act }
told_acted count (received.Answered challenge reply) acted is = absurd cc
told_acted count (received.Synced number kept then_next) acted is = absurd cc
told_acted count (received.Stopped nvm.Cut) acted is = absurd cc
told_acted count (received.Stopped nvm.Failed) acted is = absurd cc

-- the mark of the lane is raised first, to a number above it
record RaisesFirst (c : ConfigState) (s : Standing) (raises : List Raise) (acted : ℕ × Lane) : Type 0 where
  place : ℕ
  place_is : place_in c acted.1 ≡ Some place
  above : slice_index s.numbers.marks place < acted.0
  others : List Raise
  raises_are : raises ≡ Mark place acted.0 ∷ others

delivered_first : (count : ℕ) (c : ConfigState) (s : Standing) (octets : Option (List ℕ)) (acted : ℕ × Lane)
    → RaisesBeforeActing c → acted_in (deliver_call count c s octets).outcome ≡ Some acted
    → RaisesFirst c s (deliver_call count c s octets).raises acted
delivered_first count c s None acted first is = absurd cc
delivered_first count c s (Some octets) acted first is =
    let told = told_acted count (receive_transition c s octets).outcome acted is in
    let r : IsRaisedFirst c s (receive_transition c s octets) acted.1 acted.0 =
    first s octets acted.0 acted.1 told.act told.is in
    record {
      place = r.place;
      place_is = r.place_is;
      above = r.above;
      others = r.others;
      raises_are = r.raises_are;
    }

acts_first : (e : Event) (air : List TelegramAt) (c : ConfigState) (s : Standing) (acted : ℕ × Lane)
    → RaisesBeforeActing c → acted_in (call_of e air c s).outcome ≡ Some acted
    → RaisesFirst c s (call_of e air c s).raises acted
acts_first (event.Set node object value) air c s acted first is =
    let refusal = set_refusal (slice_get s.values object) value in
    elim (none-some acted (sym (ap (λ r. acted_in (set_told r)) (set_says refusal s (with_value object value s))
    ∙ no_act_set refusal) ∙ is)) [ ]
acts_first (event.Send node object service) air c s acted first is =
    elim (none-some acted (sym (no_act_sent (length air) (send_transition c s object service).outcome) ∙ is)) [ ]
acts_first (event.ToolSend node to apdu) air c s acted first is =
    elim (none-some acted (sym (no_act_sent (length air) (tool_transition c s to apdu).outcome) ∙ is)) [ ]
acts_first (event.Ask node to challenge) air c s acted first is =
    elim (none-some acted (sym (no_act_sent (length air) (ask_transition c s to challenge).outcome) ∙ is)) [ ]
acts_first (event.Deliver telegram node) air c s acted first is =
    delivered_first (length air) c s (heard (telegram_in air telegram)) acted first is
acts_first (event.Lose telegram) air c s acted first is = absurd cc
acts_first (event.Inject octets) air c s acted first is = absurd cc
acts_first (event.Off node) air c s acted first is = absurd cc
acts_first (event.On node) air c s acted first is = absurd cc
acts_first (event.Cut node write torn) air c s acted first is = absurd cc
acts_first (event.Fault node write torn) air c s acted first is = absurd cc

-- ---- the mark before, and after

raised_to : (place number : ℕ) (others : List Raise) (n : Numbers) → place < length n.marks
    → Climbs (Mark place number ∷ others) n
    → number ≤ slice_index (after_raises (Mark place number ∷ others) n).marks place
raised_to place number others n below climbs =
    let here : slice_index (slice_set n.marks place number) place ≡ number =
    get_or-set_same n.marks place number 0 below in
    let up = (up_raises others (after_raise (Mark place number) n) climbs.1).marks place in
    omega (arith, here, up)

-- of the lane of what was acted on
record IsAbove (n n' : NodeAt) (acted : ℕ × Lane) : Type 0 where
  before : mark_at (marks_by n n.standing) (place_in n.config acted.1) < acted.0
  now : acted.0 ≤ mark_at (marks_by n' n'.standing) (place_in n'.config acted.1)

goes_above : (e : Event) (air : List TelegramAt) (n n' : NodeAt) (said : StepOutcome) (acted : ℕ × Lane)
    → Goes e air n said n' → n'.config ≡ n.config → AllStand n → RaisesBeforeActing n.config
    → acted_in said ≡ Some acted → IsAbove n n' acted
goes_above e air n n' said acted g config stand first is =
    let s = g.before in
    let c : Transition StepOutcome = call_of e air n.config s in
    let stands : Stands s n = stand s g.was in
    let d : Draws c.outcome c.raises c.after s = call_draws e air n.config s stands.next_fits in
    let r : RaisesFirst n.config s c.raises acted =
    acts_first e air n.config s acted first (sym (ap acted_in g.outcome_is) ∙ is) in
    let found = position-Some (same_lane acted.1) n.config.lanes r.place acted.1 r.place_is in
    let lanes = stands.each_lane in
    let within : r.place < length s.numbers.marks = let below = found.0 in omega (arith, below, lanes) in
    let climbs : Climbs (Mark r.place acted.0 ∷ r.others) s.numbers =
    subst (λ rs. Climbs rs s.numbers) r.raises_are d.climbs in
    let raised : acted.0 ≤ slice_index (after_raises (Mark r.place acted.0 ∷ r.others) s.numbers).marks r.place =
    raised_to r.place acted.0 r.others s.numbers within climbs in
    let numbers_are : c.after.numbers ≡ after_raises (Mark r.place acted.0 ∷ r.others) s.numbers =
    d.numbers ∙ ap (λ rs. after_raises rs s.numbers) r.raises_are in
    let above = r.above in
    record {
      before = subst (λ p. mark_at (marks_by n n.standing) p < acted.0) (sym r.place_is)
          (subst (λ m. slice_index m r.place < acted.0) (sym (ap (marks_by n) g.was)) above);
      now = subst (λ (c : ConfigState). acted.0 ≤ mark_at (marks_by n' n'.standing) (place_in c acted.1)) (sym config)
          (subst (λ p. acted.0 ≤ mark_at (marks_by n' n'.standing) p) (sym r.place_is)
          (subst (λ m. acted.0 ≤ slice_index m r.place) (sym (ap (marks_by n') g.now))
          (subst (λ (m : Numbers). acted.0 ≤ slice_index m.marks r.place) (sym numbers_are) raised)));
    }

steps_above : (e : Event) (air : List TelegramAt) (n n' : NodeAt) (said : StepOutcome) (acted : ℕ × Lane)
    → StepsTo e air n said n' → n'.config ≡ n.config → AllStand n → RaisesBeforeActing n.config
    → acted_in said ≡ Some acted → IsAbove n n' acted
steps_above e air n n' said acted (inl g) config stand first is =
    goes_above e air n n' said acted g config stand first is
steps_above e air n n' said acted (inr (inl st)) config stand first is =
    elim (none-some acted (sym st.acts ∙ is)) [ ]
steps_above e air n n' said acted (inr (inr (inl st))) config stand first is =
    elim (none-some acted (sym (ap acted_in st.outcome_is) ∙ is)) [ ]
steps_above e air n n' said acted (inr (inr (inr st))) config stand first is =
    elim (none-some acted (sym st.acts ∙ is)) [ ]

mark_up : (old new : List ℕ) (place : Option ℕ) → NoneFalls old new → mark_at old place ≤ mark_at new place
mark_up old new None falls = omega arith
mark_up old new (Some place) falls = falls place

-- ---- numbers from a floor on

abbrev pub RisesFrom : ℕ → List ℕ → Type 0
RisesFrom floor [] = Unit {0}
RisesFrom floor (n ∷ ns) = (floor ≤ n) × RisesFrom (n + 1) ns

lower : (floor high : ℕ) (ns : List ℕ) → floor ≤ high → RisesFrom high ns → RisesFrom floor ns
lower floor high [] under rises = tt
lower floor high (n ∷ ns) under rises = let above = rises.0 in (omega (arith, under, above), rises.1)

-- what is acted on stands between two floors
abbrev IsBetween : ℕ → ℕ → Lane → StepOutcome → Type 0
IsBetween floor high lane said =
    (acted : ℕ × Lane) → acted_in said ≡ Some acted → same_lane lane acted.1 ≡ true
    → (floor ≤ acted.0) × (acted.0 + 1 ≤ high)

set_numbers : (lane : Lane) (object : ℕ) (value : ObjectValue) (said : StepOutcome) (rest : List Entry)
    → numbers_on lane (set_entry object value said ++ rest) ≡ numbers_on lane rest
set_numbers lane object value outcome.Set rest = refl
set_numbers lane object value said rest = refl

acted_numbers : (here : Bool) (floor high number : ℕ) (ns : List ℕ) → floor ≤ high
    → (here ≡ true → (floor ≤ number) × (number + 1 ≤ high)) → RisesFrom high ns
    → RisesFrom floor (if here then number ∷ ns else ns)
acted_numbers true floor high number ns under between rises =
    ((between refl).0, lower (number + 1) high ns (between refl).1 rises)
acted_numbers false floor high number ns under between rises = lower floor high ns under rises

telegram_numbers : (floor high telegram : ℕ) (lane : Lane) (said : StepOutcome) (rest : List Entry) → floor ≤ high
    → IsBetween floor high lane said → RisesFrom high (numbers_on lane rest)
    → RisesFrom floor (numbers_on lane (telegram_entry telegram said ++ rest))
telegram_numbers floor high telegram lane (outcome.Acted number its act reply) rest under between rises =
    acted_numbers (same_lane lane its) floor high number (numbers_on lane rest) under
    (λ same. between (number, its) refl same) rises
telegram_numbers floor high telegram lane said rest under between rises =
    lower floor high (numbers_on lane rest) under rises

entry_numbers : (floor high : ℕ) (lane : Lane) (e : Event) (said : StepOutcome) (rest : List Entry) → floor ≤ high
    → IsBetween floor high lane said → RisesFrom high (numbers_on lane rest)
    → RisesFrom floor (numbers_on lane (entries_of e said ++ rest))
entry_numbers floor high lane (event.Set node object value) said rest under between rises =
    subst (RisesFrom floor) (sym (set_numbers lane object value said rest))
    (lower floor high (numbers_on lane rest) under rises)
entry_numbers floor high lane (event.Deliver telegram node) said rest under between rises =
    telegram_numbers floor high telegram lane said rest under between rises
entry_numbers floor high lane e said rest under between rises = lower floor high (numbers_on lane rest) under rises

-- ---- the steps of a run

abbrev lane_mark : NodeAt → Lane → ℕ
lane_mark n lane = mark_at (marks_by n n.standing) (place_in n.config lane)

between_step : (n n' : NodeAt) (said : StepOutcome) (lane : Lane) (floor : ℕ) → floor ≤ lane_mark n lane + 1
    → ((acted : ℕ × Lane) → acted_in said ≡ Some acted → IsAbove n n' acted)
    → IsBetween floor (lane_mark n' lane + 1) lane said
between_step n n' said lane floor under above = λ acted is same.
    let a : IsAbove n n' acted = above acted is in
    let its : acted.1 ≡ lane = sym (same_lane-is lane acted.1 same) in
    let before : lane_mark n lane < acted.0 = subst (λ l. lane_mark n l < acted.0) its a.before in
    let now : acted.0 ≤ lane_mark n' lane = subst (λ l. acted.0 ≤ lane_mark n' l) its a.now in
    (omega (arith, under, before), omega (arith, now))

-- what never changes of the configuration
same_first : (e : Event) (w : WorldAt) (place : ℕ) (here : Bool) → is_at place (place_of e) ≡ here
    → place < length w.nodes → RaisesBeforeActing (node_in w place).config
    → RaisesBeforeActing (node_in (after e w) place).config
same_first e w place true here below first =
    subst RaisesBeforeActing (sym (stepped_at e w place (is_its_place e place here) below).config) first
same_first e w place false other below first =
    subst (λ (n : NodeAt). RaisesBeforeActing n.config) (sym (stays_at e w place other)) first

journal_by : (e : Event) (w : WorldAt) (place : ℕ) (lane : Lane) (floor : ℕ) (later : List Entry) (here : Bool)
    → is_at place (place_of e) ≡ here → place < length w.nodes → HoldsAfter e w → AllStand (node_in w place)
    → RaisesBeforeActing (node_in w place).config → floor ≤ lane_mark (node_in w place) lane + 1
    → ((floor : ℕ) → floor ≤ lane_mark (node_in (after e w) place) lane + 1 → RisesFrom floor (numbers_on lane later))
    → RisesFrom floor (numbers_on lane ((if here then entries_of e (step_of e w).outcome else []) ++ later))
journal_by e w place lane floor later true here below held stand first under again =
    let n = node_in w place in
    let n' = node_in (after e w) place in
    let said = (step_of e w).outcome in
    let at = is_its_place e place here in
    let step : IsSteppedAt e w place = stepped_at e w place at below in
    let falls : NoneFalls (marks_by n n.standing) (marks_by n' n'.standing) =
    marks_step e w.air n n' said step.steps step.config (held place at) stand in
    let up : lane_mark n lane ≤ lane_mark n' lane =
    subst (λ (c : ConfigState). lane_mark n lane ≤ mark_at (marks_by n' n'.standing) (place_in c lane))
    (sym step.config) (mark_up (marks_by n n.standing) (marks_by n' n'.standing) (place_in n.config lane) falls) in
    entry_numbers floor (lane_mark n' lane + 1) lane e said later (omega (arith, under, up))
    (between_step n n' said lane floor under
    (λ acted is. steps_above e w.air n n' said acted step.steps step.config stand first is))
    (again (lane_mark n' lane + 1) (omega arith))
journal_by e w place lane floor later false other below held stand first under again =
    again floor (subst (λ (n : NodeAt). floor ≤ lane_mark n lane + 1) (sym (stays_at e w place other)) under)

journalling : (events : List Event) (w : WorldAt) (place : ℕ) (lane : Lane) (floor : ℕ) → place < length w.nodes
    → AreHeld events w → AllStand (node_in w place) → RaisesBeforeActing (node_in w place).config
    → floor ≤ lane_mark (node_in w place) lane + 1
    → RisesFrom floor (numbers_on lane (journal_of place (history_of events w)))
journalling [] w place lane floor below held stand first under = tt
journalling (e ∷ events) w place lane floor below held stand first under =
    let here = is_at place (place_of e) in
    let same = same_size e w in
    journal_by e w place lane floor (journal_of place (history_of events (after e w))) (is_at place (place_of e)) refl
    below held.0 stand first under
    (λ floor under. journalling events (after e w) place lane floor (omega (arith, below, same)) held.1
    (stands_after e w place here refl held.0 stand) (same_first e w place here refl below first) under)

if_some : {A : Type 0} (P : A → Type 0) (o : Option A) → ((a : A) → o ≡ Some a → P a) → IfSome o P
if_some P None each = tt
if_some P (Some a) each = each a refl

exceeds_now : (e : Event) (w : WorldAt) (place : ℕ) → is_at place (place_of e) ≡ true → place < length w.nodes
    → AllStand (node_in w place) → RaisesBeforeActing (node_in w place).config
    → IfSome (acted_in (step_of e w).outcome) (λ acted. mark_on w place acted.1 < acted.0)
exceeds_now e w place here below stand first =
    let step : IsSteppedAt e w place = stepped_at e w place (is_its_place e place here) below in
    if_some (λ (acted : ℕ × Lane). mark_on w place acted.1 < acted.0) (acted_in (step_of e w).outcome)
    (λ acted acts. (steps_above e w.air (node_in w place) (node_in (after e w) place) (step_of e w).outcome acted
    step.steps step.config stand first acts).before)

exceeding : (events : List Event) (w : WorldAt) (place : ℕ) → place < length w.nodes → AreHeld events w
    → AllStand (node_in w place) → RaisesBeforeActing (node_in w place).config → ExceedsMarks place events w
exceeding [] w place below held stand first = tt
exceeding (e ∷ events) w place below held stand first =
    let here = is_at place (place_of e) in
    let same = same_size e w in (
      λ is. exceeds_now e w place is below stand first,
      exceeding events (after e w) place (omega (arith, below, same)) held.1
          (stands_after e w place here refl held.0 stand) (same_first e w place here refl below first),
    )

-- ---- each pair of numbers

all_from : (floor : ℕ) (ns : List ℕ) → RisesFrom floor ns → All (λ n. floor ≤ n) ns
all_from floor [] rises = All-nil (λ n. floor ≤ n)
all_from floor (n ∷ ns) rises =
    let first = rises.0 in
    All-cons (λ n. floor ≤ n) n ns first
    (all_from floor ns (lower floor (n + 1) ns (omega (arith, first)) rises.1))

pairs_from : (floor : ℕ) (ns : List ℕ) → RisesFrom floor ns → AllPairs (λ early late. early < late) ns
pairs_from floor [] rises = λ i j d before below. absurd (omega (arith, below))
pairs_from floor (n ∷ ns) rises =
    AllPairs-cons (λ early late. early < late) n ns
    (λ i x below. let one = all_from (n + 1) ns rises.1 i x below in omega (arith, one))
    (pairs_from (n + 1) ns rises.1)

-- ---- from the first world on

module _ (rows : List Row) (nodes : List NodeRow) (w : WorldAt) (history : List Step) (place : ℕ) (row : NodeRow)
    (run : IsRunOf rows nodes w history) (held : AreHeld (events_of history) (first_world rows nodes))
    (is : slice_get nodes place ≡ Some row) where
  at_first : IsFirstAt rows nodes place row
  at_first = first_at rows nodes place row run.installation is

  stands_first : AllStand (node_in (first_world rows nodes) place)
  stands_first = λ s now. (at_first.fits.runs s now).stands

  raises_there : RaisesBeforeActing (node_in (first_world rows nodes) place).config
  raises_there =
      subst (λ (n : NodeAt). RaisesBeforeActing n.config) (sym at_first.node_is)
      (raises_first row.address rows row.objects
      (lane_there rows run.installation.named row.address (groups_of row.objects)))

  pub exceeds_marks : ExceedsMarks place (events_of history) (first_world rows nodes)
  exceeds_marks =
      exceeding (events_of history) (first_world rows nodes) place at_first.below held stands_first raises_there

  pub journal_rises : JournalRises place history
  journal_rises lane =
      subst (λ h. AllPairs (λ early late. early < late) (numbers_on lane (journal_of place h))) (sym run.history_is)
      (pairs_from 0 (numbers_on lane (journal_of place (history_of (events_of history) (first_world rows nodes))))
      (journalling (events_of history) (first_world rows nodes) place lane 0 at_first.below held stands_first
      raises_there (omega arith)))
