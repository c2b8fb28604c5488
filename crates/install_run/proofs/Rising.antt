-- The numbers that a node draws rise strictly: by the steps of a run, over cuts, faults and starts.
use Rattle.std.proofs.Common.{◌≡◌, inl, inr, ℕ, ◌+◌, ◌<◌, ◌≤◌, List, [], ◌∷◌, ◌++◌, length, get_or, Bool, true, false, Some, None, refl, sym, ap, ◌∙◌, subst, arith}
use Rattle.std.specs.Prelude.{◌-◌, slice_get, if◌then◌else◌, IfSome}
use Rattle.std.specs.List.{All, AllPairs}
use Rattle.std.proofs.lemmas.Option.{none-some, slice_get_within, get_or_from_slice_get}
use Rattle.std.proofs.lemmas.List.{get_or-map, length-map}
use Rattle.std.proofs.lemmas.List.Elements.{All-nil, All-cons}
use Rattle.std.proofs.lemmas.List.Kept.{AllPairs-cons}
use Rattle.key_tables.specs.declared.types.Row.{Row}
use Rattle.group_objects.specs.declared.row.ObjectRow.{ObjectRow}
use Rattle.seq_store.specs.Draws.{reservation_for}
use Rattle.seq_store.specs.Runs.{Numbers, Raise, numbers_in}
use Rattle.seq_store.proofs.Formatted.{formatted_restores}
use Rattle.node_core.specs.Config.{configured}
use Rattle.node_core.specs.Standing.{ConfigState, Standing, started}
use Rattle.node_core.specs.Transition.{Transition}
use Rattle.script_text.specs.declared.event.Event.{Event}
use Rattle.script_text.specs.declared.node_row.NodeRow.{NodeRow}
use Rattle.script_text.specs.Script.{IsNode}
use Rattle.step_text.specs.declared.outcome.Step.{Step}
use Rattle.step_text.specs.declared.outcome.StepOutcome.{StepOutcome}
use Rattle.step_text.specs.declared.outcome.StepOutcome.TheVariants as outcome
use Rattle.install_run.specs.Turn.{NodeAt}
use Rattle.install_run.specs.Machine.{TelegramAt, WorldAt, has_telegram, node_in, no_node}
use Rattle.install_run.specs.Runs.{place_of, is_at, after, step_of, history_of}
use Rattle.install_run.specs.Calls.{call_of}
use Rattle.install_run.specs.First.{first_numbers, first_node, first_world}
use Rattle.install_run.specs.Holding.{Stands, IsHeld, raises_of}
use Rattle.install_run.specs.Histories.{outcomes_of, next_after, reserved_after, Draw, draw_of, draws, number_said, SayTheNext, drawn_by, DrawsOnce}
use Rattle.install_run.specs.Origin.{events_of, HoldsAfter, AreHeld, IsInstallation, IsRunOf}
use Rattle.install_run.proofs.Climbing.{Climbs, NumbersUp, up_some}
use Rattle.install_run.proofs.Sounding.{some_same}
use Rattle.install_run.proofs.Drawing.{none_said, IsSilent, Draws, call_draws, same_raises, reservation_up}
use Rattle.install_run.proofs.Steps.{StepsTo, Goes, Stops, Starts, Rests, IsSteppedAt, stepped_at, stays_at, same_size, is_its_place}

-- ---- a telegram takes a number

pub record TakesOne (said : StepOutcome) : Type 0 where
  pub next : (next : ℕ) → next_after next said ≡ next + 1
  pub reserved : (reserved next : ℕ) → reserved_after reserved next said ≡ reservation_for reserved next

takes_one : (said : StepOutcome) → has_telegram said ≡ true → TakesOne said
takes_one outcome.Off is = absurd cc
takes_one outcome.NoObject is = absurd cc
takes_one outcome.Size is = absurd cc
takes_one outcome.Set is = absurd cc
takes_one outcome.Flag is = absurd cc
takes_one outcome.NoKey is = absurd cc
takes_one outcome.Exhausted is = absurd cc
takes_one outcome.Cut is = absurd cc
takes_one outcome.Fault is = absurd cc
takes_one (outcome.Air telegram number) is = record { next = λ n. refl; reserved = λ r n. refl }
takes_one outcome.Gone is = absurd cc
takes_one outcome.Lost is = absurd cc
takes_one (outcome.Refused verdict) is = absurd cc
takes_one outcome.Ignored is = absurd cc
takes_one (outcome.Acted number lane act None) is = absurd cc
takes_one (outcome.Acted number lane act (Some telegram)) is = record { next = λ n. refl; reserved = λ r n. refl }
takes_one (outcome.Answered challenge None) is = absurd cc
takes_one (outcome.Answered challenge (Some telegram)) is = record { next = λ n. refl; reserved = λ r n. refl }
takes_one (outcome.Synced number kept then_next) is = absurd cc
takes_one outcome.Down is = absurd cc
takes_one outcome.Running is = absurd cc
takes_one (outcome.On first marks) is = absurd cc
takes_one outcome.Armed is = absurd cc

-- ---- a node between two steps

-- A node that runs has these numbers, and all that it drew is below the floor.
pub record RunsFrom (s : Standing) (n : NodeAt) (reserved next floor : ℕ) : Type 0 where
  pub next_is : s.next ≡ next
  pub reserved_is : s.numbers.reserved ≡ reserved
  pub above : floor ≤ s.next
  pub covered : floor ≤ s.numbers.reserved + 1
  pub stands : Stands s n

pub record Fits (n : NodeAt) (reserved next floor : ℕ) : Type 0 where
  pub runs : (s : Standing) → n.standing ≡ Some s → RunsFrom s n reserved next floor
  pub rests : n.standing ≡ None → floor ≤ (numbers_in (length n.config.lanes) n.octets).reserved + 1

-- ---- the numbers of later steps

abbrev pub DrawnFrom : ℕ → List Draw → Type 0
DrawnFrom floor [] = Unit {0}
DrawnFrom floor (d ∷ ds) = (floor ≤ d.number) × (d.number ≤ d.reserved) × DrawnFrom (d.number + 1) ds

-- a step, and what holds afterwards
pub record GoesOn (said : StepOutcome) (n' : NodeAt) (reserved next floor : ℕ) : Type 0 where
  pub floor' : ℕ
  pub fits : Fits n' (reserved_after reserved next said) (next_after next said) floor'
  pub drawn : (ds : List Draw) → DrawnFrom floor' ds → DrawnFrom floor (draw_of reserved next said ++ ds)
  pub says : IfSome (number_said said) (λ number. number ≡ next)

no_draw : (floor reserved next : ℕ) (said : StepOutcome) (ds : List Draw) → has_telegram said ≡ false
    → DrawnFrom floor ds → DrawnFrom floor (draw_of reserved next said ++ ds)
no_draw floor reserved next said ds none drawn =
    subst (λ b. DrawnFrom floor ((if b then record { number = next; reserved = reservation_for reserved next } ∷ []
    else []) ++ ds)) (sym none) drawn

one_draw : (floor reserved next : ℕ) (said : StepOutcome) (ds : List Draw) → has_telegram said ≡ true → floor ≤ next
    → next ≤ reservation_for reserved next → DrawnFrom (next + 1) ds
    → DrawnFrom floor (draw_of reserved next said ++ ds)
one_draw floor reserved next said ds one above within drawn =
    subst (λ b. DrawnFrom floor ((if b then record { number = next; reserved = reservation_for reserved next } ∷ []
    else []) ++ ds)) (sym one) (above, within, drawn)

-- ---- it goes on

goes_by : (b : Bool) (said : StepOutcome) (raises : List Raise) (new s : Standing) (n n' : NodeAt) (floor : ℕ)
    → has_telegram said ≡ b → Draws said raises new s
    → n'.standing ≡ Some new → ((s : Standing) → n'.standing ≡ Some s → Stands s n') → floor ≤ s.next
    → floor ≤ s.numbers.reserved + 1
    → GoesOn said n' s.numbers.reserved s.next floor
goes_by true said raises new s n n' floor sends d now stands above covered =
    let one = takes_one said sends in
    let within = (reservation_up s.numbers.reserved s.next (d.left sends)).1 in
    let next_is : new.next ≡ s.next + 1 = d.next ∙ one.next s.next in
    let reserved_is : new.numbers.reserved ≡ reservation_for s.numbers.reserved s.next =
    d.reserved ∙ one.reserved s.numbers.reserved s.next in
    record {
      floor' = s.next + 1;
      fits = record {
        runs = λ s' is. subst (λ s'. RunsFrom s' n' (reserved_after s.numbers.reserved s.next said)
            (next_after s.next said) (s.next + 1)) (some_same new s' (sym now ∙ is))
            (record {
              next_is = d.next;
              reserved_is = d.reserved;
              above = omega (arith, next_is);
              covered = omega (arith, reserved_is, within);
              stands = stands new now;
            });
        rests = λ none. elim (none-some new (sym none ∙ now)) [ ];
      };
      drawn = λ ds drawn. one_draw floor s.numbers.reserved s.next said ds sends above within drawn;
      says = d.says;
    }
goes_by false said raises new s n n' floor sends d now stands above covered =
    let next_up = d.next_up in
    let reserved_up = d.reserved_up in
    record {
      floor' = floor;
      fits = record {
        runs = λ s' is. subst (λ s'. RunsFrom s' n' (reserved_after s.numbers.reserved s.next said)
            (next_after s.next said) floor) (some_same new s' (sym now ∙ is))
            (record {
              next_is = d.next;
              reserved_is = d.reserved;
              above = omega (arith, above, next_up);
              covered = omega (arith, covered, reserved_up);
              stands = stands new now;
            });
        rests = λ none. elim (none-some new (sym none ∙ now)) [ ];
      };
      drawn = λ ds drawn. no_draw floor s.numbers.reserved s.next said ds sends drawn;
      says = d.says;
    }

goes : (e : Event) (air : List TelegramAt) (n n' : NodeAt) (said : StepOutcome) (reserved next floor : ℕ)
    → Goes e air n said n' → IsHeld e air n n' → Fits n reserved next floor → GoesOn said n' reserved next floor
goes e air n n' said reserved next floor g held fits =
    let s = g.before in
    let r : RunsFrom s n reserved next floor = fits.runs s g.was in
    let c : Transition StepOutcome = call_of e air n.config s in
    let d : Draws said c.raises c.after s =
    subst (λ o. Draws o c.raises c.after s) (sym g.outcome_is) (call_draws e air n.config s r.stands.next_fits) in
    subst (λ next. GoesOn said n' reserved next floor) r.next_is
    (subst (λ reserved. GoesOn said n' reserved s.next floor) r.reserved_is
    (goes_by (has_telegram said) said c.raises c.after s n n' floor refl d g.now held.stands r.above r.covered))

-- ---- it stops, starts or rests

quiet_fits : (said : StepOutcome) (n' : NodeAt) (reserved next floor : ℕ) → IsSilent said
    → Fits n' (reserved_after reserved next said) (next_after next said) floor → GoesOn said n' reserved next floor
quiet_fits said n' reserved next floor silent fits = record {
  floor' = floor;
  fits = fits;
  drawn = λ ds drawn. no_draw floor reserved next said ds silent.sends drawn;
  says = none_said (number_said said) next silent.says;
}

resting : (n' : NodeAt) (reserved next floor : ℕ) → n'.standing ≡ None
    → floor ≤ (numbers_in (length n'.config.lanes) n'.octets).reserved + 1 → Fits n' reserved next floor
resting n' reserved next floor now above = record {
  runs = λ s is. elim (none-some s (sym now ∙ is)) [ ];
  rests = λ none. above;
}

stops : (e : Event) (air : List TelegramAt) (n n' : NodeAt) (said : StepOutcome) (reserved next floor : ℕ)
    → Stops e air n said n' → IsHeld e air n n' → n'.config ≡ n.config → Fits n reserved next floor
    → GoesOn said n' reserved next floor
stops e air n n' said reserved next floor st held config fits =
    let s = st.before in
    let r : RunsFrom s n reserved next floor = fits.runs s st.was in
    let d = call_draws e air n.config s r.stands.next_fits in
    let climbs : Climbs (raises_of e air n.config s) s.numbers =
    subst (λ rs. Climbs rs s.numbers) (same_raises e air n.config s) d.climbs in
    let up : NumbersUp s.numbers (numbers_in (length s.numbers.marks) n'.octets) =
    up_some (raises_of e air n.config s) s.numbers n'.octets climbs (held.raised.some s st.was) in
    let lanes : length s.numbers.marks ≡ length n'.config.lanes =
    r.stands.each_lane ∙ ap (λ (c : ConfigState). length c.lanes) (sym config) in
    let here : s.numbers.reserved ≤ (numbers_in (length n'.config.lanes) n'.octets).reserved =
    subst (λ lanes. s.numbers.reserved ≤ (numbers_in lanes n'.octets).reserved) lanes up.reserved in
    let covered = r.covered in
    quiet_fits said n' reserved next floor st.silent
    (resting n' (reserved_after reserved next said) (next_after next said) floor st.now
    (omega (arith, covered, here)))

starts : (n n' : NodeAt) (said : StepOutcome) (reserved next floor : ℕ) → Starts n said n'
    → ((s : Standing) → n'.standing ≡ Some s → Stands s n') → Fits n reserved next floor
    → GoesOn said n' reserved next floor
starts n n' said reserved next floor st stands fits =
    let numbers : Numbers = numbers_in (length n.config.lanes) n.octets in
    let s : Standing = started n.config numbers in
    let above : floor ≤ numbers.reserved + 1 = fits.rests st.was in
    subst (λ said. GoesOn said n' reserved next floor) (sym st.outcome_is) (record {
      floor' = floor;
      fits = record {
        runs = λ s' is. subst (λ s'. RunsFrom s' n' ((numbers.reserved + 1) - 1) (numbers.reserved + 1) floor)
            (some_same s s' (sym st.now ∙ is))
            (record {
              next_is = refl;
              reserved_is = omega arith;
              above = above;
              covered = above;
              stands = stands s st.now;
            });
        rests = λ none. elim (none-some s (sym none ∙ st.now)) [ ];
      };
      drawn = λ ds drawn. drawn;
      says = tt;
    })

rests : (n n' : NodeAt) (said : StepOutcome) (reserved next floor : ℕ) → Rests n said n' → n'.config ≡ n.config
    → Fits n reserved next floor → GoesOn said n' reserved next floor
rests n n' said reserved next floor st config fits =
    quiet_fits said n' reserved next floor st.silent
    (resting n' (reserved_after reserved next said) (next_after next said) floor st.now
    (subst (λ octets. floor ≤ (numbers_in (length n'.config.lanes) octets).reserved + 1) (sym st.octets)
    (subst (λ (c : ConfigState). floor ≤ (numbers_in (length c.lanes) n.octets).reserved + 1) (sym config)
    (fits.rests st.was))))

pub goes_on : (e : Event) (air : List TelegramAt) (n n' : NodeAt) (said : StepOutcome) (reserved next floor : ℕ)
    → StepsTo e air n said n' → n'.config ≡ n.config → IsHeld e air n n' → Fits n reserved next floor
    → GoesOn said n' reserved next floor
goes_on e air n n' said reserved next floor (inl g) config held fits =
    goes e air n n' said reserved next floor g held fits
goes_on e air n n' said reserved next floor (inr (inl st)) config held fits =
    stops e air n n' said reserved next floor st held config fits
goes_on e air n n' said reserved next floor (inr (inr (inl st))) config held fits =
    starts n n' said reserved next floor st held.stands fits
goes_on e air n n' said reserved next floor (inr (inr (inr st))) config held fits =
    rests n n' said reserved next floor st config fits

-- ---- the steps of a run

pub record Rises (reserved next floor : ℕ) (saids : List StepOutcome) : Type 0 where
  pub drawn : DrawnFrom floor (draws reserved next saids)
  pub said : SayTheNext next saids

one_more : (reserved next floor : ℕ) (said : StepOutcome) (n' : NodeAt) (later : List StepOutcome)
    (on : GoesOn said n' reserved next floor)
    → Rises (reserved_after reserved next said) (next_after next said) on.floor' later
    → Rises reserved next floor (said ∷ later)
one_more reserved next floor said n' later on rest = record {
  drawn = on.drawn (draws (reserved_after reserved next said) (next_after next said) later) rest.drawn;
  said = (on.says, rest.said);
}

rising_by : (e : Event) (events : List Event) (w : WorldAt) (place reserved next floor : ℕ) (here : Bool)
    → is_at place (place_of e) ≡ here → place < length w.nodes → HoldsAfter e w
    → Fits (node_in w place) reserved next floor
    → ((reserved next floor : ℕ) → Fits (node_in (after e w) place) reserved next floor
    → Rises reserved next floor (outcomes_of place (history_of events (after e w))))
    → Rises reserved next floor (if here then (step_of e w).outcome
    ∷ outcomes_of place (history_of events (after e w)) else outcomes_of place (history_of events (after e w)))
rising_by e events w place reserved next floor true here below held fits again =
    let at = is_its_place e place here in
    let step : IsSteppedAt e w place = stepped_at e w place at below in
    let said = (step_of e w).outcome in
    let on = goes_on e w.air (node_in w place) (node_in (after e w) place) said reserved next floor
    step.steps step.config (held place at) fits in
    one_more reserved next floor said (node_in (after e w) place) (outcomes_of place (history_of events (after e w))) on
    (again (reserved_after reserved next said) (next_after next said) on.floor' on.fits)
rising_by e events w place reserved next floor false other below held fits again =
    again reserved next floor
    (subst (λ n. Fits n reserved next floor) (sym (stays_at e w place other)) fits)

pub rising : (events : List Event) (w : WorldAt) (place reserved next floor : ℕ) → place < length w.nodes
    → AreHeld events w → Fits (node_in w place) reserved next floor
    → Rises reserved next floor (outcomes_of place (history_of events w))
rising [] w place reserved next floor below held fits = record { drawn = tt; said = tt }
rising (e ∷ events) w place reserved next floor below held fits =
    let same = same_size e w in
    rising_by e events w place reserved next floor (is_at place (place_of e)) refl below held.0 fits
    (λ reserved next floor fits. rising events (after e w) place reserved next floor (omega (arith, below, same)) held.1
    fits)

-- ---- from the first world on

first_fits : (rows : List Row) (row : NodeRow) → IsNode rows row
    → Fits (first_node rows row) (row.next - 1) row.next 0
first_fits rows row is =
    let s : Standing = started (configured row.address rows row.objects) (first_numbers row) in
    let some = is.next_some in
    let fits = is.next_fits in
    record {
      runs = λ s' now. subst (λ s'. RunsFrom s' (first_node rows row) (row.next - 1) row.next 0)
          (some_same s s' now)
          (record {
            next_is = omega (arith, some);
            reserved_is = refl;
            above = omega arith;
            covered = omega arith;
            stands = record {
              restores = formatted_restores (row.next - 1) row.marks (omega (arith, fits))
                  (λ k h. is.marks_fit k 0 h);
              each_lane = is.marks;
              next_fits = omega (arith, fits);
              each_value = length-map row.objects (λ (row : ObjectRow). row.value);
            };
          });
      rests = λ none. absurd cc;
    }

-- the node of a row at its place of the first world
pub record IsFirstAt (rows : List Row) (nodes : List NodeRow) (place : ℕ) (row : NodeRow) : Type 0 where
  pub below : place < length (first_world rows nodes).nodes
  pub node_is : node_in (first_world rows nodes) place ≡ first_node rows row
  pub fits : Fits (node_in (first_world rows nodes) place) (row.next - 1) row.next 0

pub first_at : (rows : List Row) (nodes : List NodeRow) (place : ℕ) (row : NodeRow) → IsInstallation rows nodes
    → slice_get nodes place ≡ Some row → IsFirstAt rows nodes place row
first_at rows nodes place row installation is =
    let below : place < length nodes = slice_get_within nodes place row is in
    let same : length (first_world rows nodes).nodes ≡ length nodes = length-map nodes (first_node rows) in
    let row_is : get_or nodes place row ≡ row = get_or_from_slice_get nodes place row row is in
    let stands : IsNode rows row = subst (IsNode rows) row_is (installation.nodes_stand place row below) in
    let node_is : node_in (first_world rows nodes) place ≡ first_node rows row =
    get_or-map (first_node rows) nodes place row no_node below ∙ ap (first_node rows) row_is in
    record {
      below = omega (arith, below, same);
      node_is = node_is;
      fits = subst (λ n. Fits n (row.next - 1) row.next 0) (sym node_is) (first_fits rows row stands);
    }

-- ---- each pair of numbers

pub all_above : (floor : ℕ) (ds : List Draw) → DrawnFrom floor ds → All (λ (d : Draw). floor ≤ d.number) ds
all_above floor [] drawn = All-nil (λ (d : Draw). floor ≤ d.number)
all_above floor (d ∷ ds) drawn =
    let first = drawn.0 in
    All-cons (λ (d : Draw). floor ≤ d.number) d ds first
    (lower (d.number + 1) floor (omega (arith, first)) ds (all_above (d.number + 1) ds drawn.2))
  where
    lower : (high low : ℕ) → low ≤ high → (ds : List Draw) → All (λ (d : Draw). high ≤ d.number) ds
        → All (λ (d : Draw). low ≤ d.number) ds
    lower high low under ds all = λ i x below. let one = all i x below in omega (arith, under, one)

pairs_rise : (floor : ℕ) (ds : List Draw) → DrawnFrom floor ds
    → AllPairs (λ (early late : Draw). early.number < late.number) ds
pairs_rise floor [] drawn = λ i j d before below. absurd (omega (arith, below))
pairs_rise floor (d ∷ ds) drawn =
    AllPairs-cons (λ (early late : Draw). early.number < late.number) d ds
    (λ i x below. let one = all_above (d.number + 1) ds drawn.2 i x below in omega (arith, one))
    (pairs_rise (d.number + 1) ds drawn.2)

all_reserved : (floor : ℕ) (ds : List Draw) → DrawnFrom floor ds → All (λ (d : Draw). d.number ≤ d.reserved) ds
all_reserved floor [] drawn = All-nil (λ (d : Draw). d.number ≤ d.reserved)
all_reserved floor (d ∷ ds) drawn =
    All-cons (λ (d : Draw). d.number ≤ d.reserved) d ds drawn.1 (all_reserved (d.number + 1) ds drawn.2)

pub draws_once : (rows : List Row) (nodes : List NodeRow) (w : WorldAt) (history : List Step) (place : ℕ)
    (row : NodeRow) → IsRunOf rows nodes w history → AreHeld (events_of history) (first_world rows nodes)
    → slice_get nodes place ≡ Some row → DrawsOnce place row history
draws_once rows nodes w history place row run held is =
    let first : WorldAt = first_world rows nodes in
    let events : List Event = events_of history in
    let at : IsFirstAt rows nodes place row = first_at rows nodes place row run.installation is in
    let rises : Rises (row.next - 1) row.next 0 (outcomes_of place (history_of events first)) =
    rising events first place (row.next - 1) row.next 0 at.below held at.fits in
    let here : Rises (row.next - 1) row.next 0 (outcomes_of place history) =
    subst (λ h. Rises (row.next - 1) row.next 0 (outcomes_of place h)) (sym run.history_is) rises in
    record {
      rise = pairs_rise 0 (drawn_by place row history) here.drawn;
      reserved = all_reserved 0 (drawn_by place row history) here.drawn;
      said = here.said;
    }
