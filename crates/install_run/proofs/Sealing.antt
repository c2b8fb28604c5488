-- Each telegram that a node seals is sealed under its address and a number that it draws once, so no two have one
-- counter block: by the steps of a run.
use Rattle.std.proofs.Common.{◌≡◌, ◌≢◌, inl, inr, ℕ, ◌+◌, ◌<◌, ◌≤◌, List, [], ◌∷◌, ◌++◌, length, get_or, Bool, true, false, Option, Some, None, refl, sym, ap, ◌∙◌, subst, arith}
use Rattle.std.specs.Prelude.{◌-◌, ◌*◌, ◌^◌, slice_get, slice_index, if◌then◌else◌}
use Rattle.std.specs.List.{All, AllPairs}
use Rattle.std.proofs.lemmas.Bool.{eq-eqb, false≢true, cases_eq, cases_lt}
use Rattle.std.proofs.lemmas.List.{get_or_at, length-map}
use Rattle.std.proofs.lemmas.List.Elements.{All-nil, All-cons, All-append}
use Rattle.std.proofs.lemmas.List.Kept.{AllPairs-cons}
use Rattle.std.proofs.lemmas.Option.{slice_get_within, slice_get_cases, get_or_from_slice_get}
use Rattle.knx_base.specs.Number.{number_at, octets_of}
use Rattle.knx_base.specs.declared.address.IndAddr.{IndAddr}
use Rattle.knx_ccm.specs.Sealing.{counter_0}
use Rattle.knx_ccm.specs.declared.head.Head.{Head}
use Rattle.key_tables.specs.declared.types.Row.{Row}
use Rattle.secure_apdu.specs.SealedFrame.{sealed_head}
use Rattle.secure_apdu.specs.declared.sealing.SendHead.{SendHead}
use Rattle.seq_store.specs.Draws.{reservation_for}
use Rattle.node_core.specs.Node.{handed}
use Rattle.node_core.specs.Standing.{ConfigState}
use Rattle.script_text.specs.Script.{AreTwoNodes, IsNode}
use Rattle.script_text.specs.declared.event.Event.{Event}
use Rattle.script_text.specs.declared.node_row.NodeRow.{NodeRow}
use Rattle.step_text.specs.declared.outcome.Step.{Step}
use Rattle.step_text.specs.declared.outcome.StepOutcome.{StepOutcome}
use Rattle.install_run.specs.First.{first_node, first_world}
use Rattle.install_run.specs.Histories.{Draw, next_after, reserved_after}
use Rattle.install_run.specs.Machine.{TelegramAt, WorldAt, WorldTurn, put_on_air, telegrams_of, has_telegram, node_in}
use Rattle.install_run.specs.Origin.{IsInstallation, IsRunOf, HoldsAfter, AreHeld, events_of}
use Rattle.install_run.specs.Runs.{place_of, is_at, after, step_of}
use Rattle.install_run.specs.Sealed.{SealedAt, next_of, telegram_of, sealed_in, all_sealed, IsHeadOf, IsSealed, HaveTwoBlocks, HaveBlocksOfTheirOwn}
use Rattle.install_run.specs.Turn.{NodeAt, Turn}
use Rattle.install_run.proofs.Drawing.{call_draws}
use Rattle.install_run.proofs.Framing.{IsFrameFrom, turn_seals}
use Rattle.install_run.proofs.Legality.{in_range}
use Rattle.install_run.proofs.Numbering.{is_next, numbers_are_drawn}
use Rattle.install_run.proofs.Rising.{RunsFrom, Fits, DrawnFrom, GoesOn, goes_on, IsFirstAt, first_at}
use Rattle.install_run.proofs.Steps.{Goes, StepsTo, IsSteppedAt, node_turn, stepped_at, stays_at, same_size, is_its_place}

-- ---- the number of a step

-- The number that is drawn is from the floor before the step on, below the one after it, and of 48 bits.
pub record HasDrawn (n : NodeAt) (floor floor' : ℕ) : Type 0 where
  pub above : floor ≤ next_of n.standing
  pub below : next_of n.standing < floor'
  pub fits : next_of n.standing < 2 ^ 48

went : (e : Event) (air : List TelegramAt) (n n' : NodeAt) (said : StepOutcome) (reserved next floor : ℕ)
    (on : GoesOn said n' reserved next floor) → Goes e air n said n' → Fits n reserved next floor
    → has_telegram said ≡ true → HasDrawn n floor on.floor'
went e air n n' said reserved next floor on g fits sends =
    let s = g.before in
    let r : RunsFrom s n reserved next floor = fits.runs s g.was in
    let next_is : next_of n.standing ≡ next = is_next e air n n' said reserved next floor (inl g) fits sends in
    let d : Draw = record { number = on.floor'; reserved = on.floor' } in
    let drawn : DrawnFrom floor (record { number = next; reserved = reservation_for reserved next } ∷ d ∷ []) =
    subst (λ b. DrawnFrom floor ((if b then record { number = next; reserved = reservation_for reserved next } ∷ []
    else []) ++ d ∷ [])) sends (on.drawn (d ∷ []) (omega arith, omega arith, tt)) in
    let above : floor ≤ next = drawn.0 in
    let below : next + 1 ≤ on.floor' = drawn.2.0 in
    let same = r.next_is in
    let left : s.next < 2 ^ 48 = (call_draws e air n.config s r.stands.next_fits).left
    (ap has_telegram (sym g.outcome_is) ∙ sends) in
    record {
      above = omega (arith, above, next_is);
      below = omega (arith, below, next_is);
      fits = omega (arith, left, same, next_is);
    }

pub has_drawn : (e : Event) (air : List TelegramAt) (n n' : NodeAt) (said : StepOutcome) (reserved next floor : ℕ)
    (on : GoesOn said n' reserved next floor) → StepsTo e air n said n' → Fits n reserved next floor
    → has_telegram said ≡ true → HasDrawn n floor on.floor'
has_drawn e air n n' said reserved next floor on (inl g) fits sends =
    went e air n n' said reserved next floor on g fits sends
has_drawn e air n n' said reserved next floor on (inr (inl st)) fits sends =
    elim (false≢true (sym st.silent.sends ∙ sends)) [ ]
has_drawn e air n n' said reserved next floor on (inr (inr (inl st))) fits sends =
    elim (false≢true (sym (ap has_telegram st.outcome_is) ∙ sends)) [ ]
has_drawn e air n n' said reserved next floor on (inr (inr (inr st))) fits sends =
    elim (false≢true (sym st.silent.sends ∙ sends)) [ ]

floor_up : (sends : Bool) (said : StepOutcome) (n' : NodeAt) (reserved next floor : ℕ)
    (on : GoesOn said n' reserved next floor) → has_telegram said ≡ sends → floor ≤ on.floor'
floor_up true said n' reserved next floor on sends =
    let d : Draw = record { number = on.floor'; reserved = on.floor' } in
    let drawn : DrawnFrom floor (record { number = next; reserved = reservation_for reserved next } ∷ d ∷ []) =
    subst (λ b. DrawnFrom floor ((if b then record { number = next; reserved = reservation_for reserved next } ∷ []
    else []) ++ d ∷ [])) sends (on.drawn (d ∷ []) (omega arith, omega arith, tt)) in
    let above : floor ≤ next = drawn.0 in
    let below : next + 1 ≤ on.floor' = drawn.2.0 in
    omega (arith, above, below)
floor_up false said n' reserved next floor on sends =
    let d : Draw = record { number = on.floor'; reserved = on.floor' } in
    let drawn : DrawnFrom floor (d ∷ []) =
    subst (λ b. DrawnFrom floor ((if b then record { number = next; reserved = reservation_for reserved next } ∷ []
    else []) ++ d ∷ [])) sends (on.drawn (d ∷ []) (omega arith, omega arith, tt)) in
    drawn.0

-- ---- one step at a place

pub record FitsFrom (n : NodeAt) (floor : ℕ) : Type 0 where
  pub reserved : ℕ
  pub next : ℕ
  pub fits : Fits n reserved next floor

pub record Passes (e : Event) (w : WorldAt) (place floor : ℕ) : Type 0 where
  pub floor' : ℕ
  pub fits : FitsFrom (node_in (after e w) place) floor'
  pub up : floor ≤ floor'
  pub config : (node_in (after e w) place).config ≡ (node_in w place).config
  pub drawn : is_at place (place_of e) ≡ true → has_telegram (step_of e w).outcome ≡ true
      → HasDrawn (node_in w place) floor floor'

passes : (here : Bool) (e : Event) (w : WorldAt) (place floor : ℕ) → is_at place (place_of e) ≡ here
    → place < length w.nodes → HoldsAfter e w → FitsFrom (node_in w place) floor → Passes e w place floor
passes true e w place floor here below held f =
    let at = is_its_place e place here in
    let n = node_in w place in
    let n' = node_in (after e w) place in
    let said = (step_of e w).outcome in
    let step : IsSteppedAt e w place = stepped_at e w place at below in
    let on : GoesOn said n' f.reserved f.next floor =
    goes_on e w.air n n' said f.reserved f.next floor step.steps step.config (held place at) f.fits in
    record {
      floor' = on.floor';
      fits = record {
        reserved = reserved_after f.reserved f.next said;
        next = next_after f.next said;
        fits = on.fits;
      };
      up = floor_up (has_telegram said) said n' f.reserved f.next floor on refl;
      config = step.config;
      drawn = λ is sends. has_drawn e w.air n n' said f.reserved f.next floor on step.steps f.fits sends;
    }
passes false e w place floor other below held f =
    let same : node_in (after e w) place ≡ node_in w place = stays_at e w place other in
    record {
      floor' = floor;
      fits = subst (λ n. FitsFrom n floor) (sym same) f;
      up = omega arith;
      config = ap (λ (n : NodeAt). n.config) same;
      drawn = λ is sends. elim (false≢true (sym other ∙ is)) [ ];
    }

pub passed : (e : Event) (w : WorldAt) (place floor : ℕ) → place < length w.nodes → HoldsAfter e w
    → FitsFrom (node_in w place) floor → Passes e w place floor
passed e w place floor below held f = passes (is_at place (place_of e)) e w place floor refl below held f

its_place : (e : Event) (place : ℕ) → place_of e ≡ Some place → is_at place (place_of e) ≡ true
its_place e place at = ap (is_at place) at ∙ eq-eqb place place refl

-- ---- what holds of the telegram of a step

if_sent : (P : SealedAt → Type 0) (t : SealedAt) (sends : Bool) → (sends ≡ true → P t)
    → All P (if sends then t ∷ [] else [])
if_sent P t true is = All-cons P t [] (is refl) (All-nil P)
if_sent P t false is = All-nil P

each_in : (P : SealedAt → Type 0) (e : Event) (w : WorldAt) (node : Option ℕ)
    → ((place : ℕ) → node ≡ Some place → has_telegram (step_of e w).outcome ≡ true → P (telegram_of e w place))
    → All P (sealed_in e w node)
each_in P e w None is = All-nil P
each_in P e w (Some place) is =
    if_sent P (telegram_of e w place) (has_telegram (step_of e w).outcome) (is place refl)

pairs_if : (R : SealedAt → SealedAt → Type 0) (t : SealedAt) (later : List SealedAt) (sends : Bool)
    → (sends ≡ true → All (R t) later) → AllPairs R later → AllPairs R ((if sends then t ∷ [] else []) ++ later)
pairs_if R t later true first rest = AllPairs-cons R t later (first refl) rest
pairs_if R t later false first rest = rest

pairs_in : (R : SealedAt → SealedAt → Type 0) (e : Event) (w : WorldAt) (later : List SealedAt) (node : Option ℕ)
    → ((place : ℕ) → node ≡ Some place → has_telegram (step_of e w).outcome ≡ true
    → All (R (telegram_of e w place)) later)
    → AllPairs R later → AllPairs R (sealed_in e w node ++ later)
pairs_in R e w later None first rest = rest
pairs_in R e w later (Some place) first rest =
    pairs_if R (telegram_of e w place) later (has_telegram (step_of e w).outcome) (first place refl) rest

-- ---- the numbers of later steps

abbrev IsFrom : ℕ → ℕ → SealedAt → Type 0
IsFrom place floor t = t.place ≡ place → floor ≤ t.number

all_from : (events : List Event) (w : WorldAt) (place floor : ℕ) → place < length w.nodes → AreHeld events w
    → FitsFrom (node_in w place) floor → All (IsFrom place floor) (all_sealed events w)
all_from [] w place floor below held f = All-nil (IsFrom place floor)
all_from (e ∷ events) w place floor below held f =
    let p : Passes e w place floor = passed e w place floor below held.0 f in
    let same = same_size e w in
    let up = p.up in
    let later = all_from events (after e w) place p.floor' (omega (arith, below, same)) held.1 p.fits in
    All-append (IsFrom place floor) (sealed_in e w (place_of e)) (all_sealed events (after e w))
    (each_in (IsFrom place floor) e w (place_of e) (λ q at sends is.
    subst (λ q. floor ≤ next_of (node_in w q).standing) (sym is)
    (p.drawn (its_place e place (at ∙ ap Some is)) sends).above))
    (λ i t inside is. let one = later i t inside is in omega (arith, one, up))

-- Of two telegrams of one node the later has the greater number.
abbrev Rise : SealedAt → SealedAt → Type 0
Rise t u = t.place ≡ u.place → t.number < u.number

-- ---- an installation between two steps

-- A node at a place of the script: its address is that of its row, and all that it drew is below a floor.
pub record IsAt (nodes : List NodeRow) (place : ℕ) (n : NodeAt) : Type 0 where
  pub row : NodeRow
  pub row_is : slice_get nodes place ≡ Some row
  pub address : n.config.address ≡ row.address
  pub floor : ℕ
  pub fits : FitsFrom n floor

abbrev pub AllAt : List NodeRow → WorldAt → Type 0
AllAt nodes w = (place : ℕ) → place < length w.nodes → IsAt nodes place (node_in w place)

module _ (nodes : List NodeRow) where
  all_at_after : (e : Event) (w : WorldAt) → HoldsAfter e w → AllAt nodes w → AllAt nodes (after e w)
  all_at_after e w held all place below' =
      let same = same_size e w in
      let below : place < length w.nodes = omega (arith, below', same) in
      let at = all place below in
      let p : Passes e w place at.floor = passed e w place at.floor below held at.fits in
      record {
        row = at.row;
        row_is = at.row_is;
        address = ap (λ (c : ConfigState). c.address) p.config ∙ at.address;
        floor = p.floor';
        fits = p.fits;
      }

  all_rise : (events : List Event) (w : WorldAt) → AreHeld events w → AllAt nodes w
      → AllPairs Rise (all_sealed events w)
  all_rise [] w held all = λ i j d before below. absurd (omega (arith, below))
  all_rise (e ∷ events) w held all =
      let same = same_size e w in
      pairs_in Rise e w (all_sealed events (after e w)) (place_of e)
      (λ place at sends.
      let below : place < length w.nodes = in_range e w place at held.0 in
      let here = all place below in
      let p : Passes e w place here.floor = passed e w place here.floor below held.0 here.fits in
      let drawn : HasDrawn (node_in w place) here.floor p.floor' = p.drawn (its_place e place at) sends in
      let under = drawn.below in
      let later = all_from events (after e w) place p.floor' (omega (arith, below, same)) held.1 p.fits in
      λ i t inside is. let one = later i t inside (sym is) in omega (arith, one, under))
      (all_rise events (after e w) held.1 (all_at_after e w held.0 all))

-- ---- the octets

-- what the step put on the air is sealed under the node's address and the number that it drew
frame_of : (e : Event) (w : WorldAt) (place : ℕ) → place_of e ≡ Some place → place < length w.nodes
    → has_telegram (step_of e w).outcome ≡ true
    → IsFrameFrom (node_in w place).config.address (next_of (node_in w place).standing) (telegram_of e w place).octets
frame_of e w place at below sends =
    let n = node_in w place in
    let step : IsSteppedAt e w place = stepped_at e w place at below in
    let turn : Turn = node_turn e w.air n n.standing in
    let sent : List ℕ = handed turn.sent [] in
    let nothing : TelegramAt = put_on_air [] in
    let sends' : has_telegram turn.outcome ≡ true =
    ap (λ (t : WorldTurn). has_telegram t.outcome) (sym step.turn_is) ∙ sends in
    let air : (after e w).air ≡ w.air ++ put_on_air sent ∷ [] =
    ap (λ (t : WorldTurn). t.world.air) step.turn_is ∙ ap (λ b. w.air ++ telegrams_of b sent) sends' in
    let octets : (telegram_of e w place).octets ≡ sent =
    ap (λ air. (get_or air (length w.air) nothing).octets) air
    ∙ ap (λ (t : TelegramAt). t.octets) (get_or_at w.air (put_on_air sent) [] nothing (length w.air) refl) in
    subst (IsFrameFrom n.config.address (next_of n.standing)) (sym octets) (turn_seals e w.air n n.standing sends')

module _ (nodes : List NodeRow) where
  all_are_sealed : (events : List Event) (w : WorldAt) → AreHeld events w → AllAt nodes w
      → All (IsSealed nodes) (all_sealed events w)
  all_are_sealed [] w held all = All-nil (IsSealed nodes)
  all_are_sealed (e ∷ events) w held all =
      All-append (IsSealed nodes) (sealed_in e w (place_of e)) (all_sealed events (after e w))
      (each_in (IsSealed nodes) e w (place_of e) (λ place at sends.
      let below : place < length w.nodes = in_range e w place at held.0 in
      let here = all place below in
      let p : Passes e w place here.floor = passed e w place here.floor below held.0 here.fits in
      let drawn : HasDrawn (node_in w place) here.floor p.floor' = p.drawn (its_place e place at) sends in
      let frame = frame_of e w place at below sends in
      let number = frame.number_is in
      let fits = drawn.fits in
      record {
        key = frame.key;
        head = frame.head;
        apdu = frame.apdu;
        head_is = record {
          row = here.row;
          row_is = here.row_is;
          source = frame.source_is ∙ here.address;
          number = number;
          number_fits = omega (arith, number, fits);
        };
        octets_are = frame.octets_are;
      }))
      (all_are_sealed events (after e w) held.1 (all_at_after nodes e w held.0 all))

-- ---- the blocks

number_of_block : (h : Head) → h.number < 2 ^ 48 → number_at (counter_0 h) 0 ≡ h.number
unfolding number_at octets_of
number_of_block h fits = omega arith

source_of_block : (h : Head) → h.source < 2 ^ 16
    → slice_index (counter_0 h) 6 * 256 + slice_index (counter_0 h) 7 ≡ h.source
unfolding octets_of
source_of_block h fits = omega arith

module _ (rows : List Row) (nodes : List NodeRow) (installation : IsInstallation rows nodes) where
  abbrev once : AllPairs AreTwoNodes nodes
  once = installation.nodes_once

  source_fits : (t : SealedAt) (head : SendHead) → IsHeadOf nodes t head → head.source.0 < 2 ^ 16
  source_fits t head is =
      let stands : IsNode rows is.row =
      subst (IsNode rows) (get_or_from_slice_get nodes t.place is.row is.row is.row_is)
      (installation.nodes_stand t.place is.row (slice_get_within nodes t.place is.row is.row_is)) in
      subst (λ (a : IndAddr). a.0 < 2 ^ 16) (sym is.source) stands.address_fits

  two_before : (p q : ℕ) (row other : NodeRow) → p < q → slice_get nodes p ≡ Some row → slice_get nodes q ≡ Some other
      → AreTwoNodes row other
  two_before p q row other before is is' =
      subst (λ row. AreTwoNodes row other) (get_or_from_slice_get nodes p row row is)
      (subst (λ other. AreTwoNodes (get_or nodes p row) other) (get_or_from_slice_get nodes q other row is')
      (once p q row before (slice_get_within nodes q other is')))

  two_rows : (p q : ℕ) (row other : NodeRow) → p ≢ q → slice_get nodes p ≡ Some row → slice_get nodes q ≡ Some other
      → row.address.0 ≢ other.address.0
  two_rows p q row other apart is is' = elim (cases_lt p q) [
    | inl before ↦ (two_before p q row other before is is').addresses
    | inr past ↦ λ same. (two_before q p other row (omega (arith, past, apart)) is' is).addresses (sym same)
  ]

  two_blocks : (t u : SealedAt) → Rise t u → HaveTwoBlocks nodes t u
  two_blocks t u rise of_t of_u at_t at_u same = elim (cases_eq t.place u.place) [
    | inl one ↦
        let drawn = rise one in
        let first = at_t.number in
        let second = at_u.number in
        let number : of_t.number ≡ of_u.number =
        sym (number_of_block (sealed_head of_t) at_t.number_fits) ∙ ap (λ block. number_at block 0) same
        ∙ number_of_block (sealed_head of_u) at_u.number_fits in
        absurd (omega (arith, drawn, first, second, number))
    | inr apart ↦
        let source : of_t.source.0 ≡ of_u.source.0 =
        sym (source_of_block (sealed_head of_t) (source_fits t of_t at_t))
        ∙ ap (λ block. slice_index block 6 * 256 + slice_index block 7) same
        ∙ source_of_block (sealed_head of_u) (source_fits u of_u at_u) in
        two_rows t.place u.place at_t.row at_u.row apart at_t.row_is at_u.row_is
        (ap (λ (a : IndAddr). a.0) (sym at_t.source) ∙ source ∙ ap (λ (a : IndAddr). a.0) at_u.source)
  ]

-- ---- from the first world on

all_at_first : (rows : List Row) (nodes : List NodeRow) → IsInstallation rows nodes
    → AllAt nodes (first_world rows nodes)
all_at_first rows nodes installation place below =
    let same : length (first_world rows nodes).nodes ≡ length nodes = length-map nodes (first_node rows) in
    elim ((slice_get_cases nodes place).1) [
      | inl found ↦
          let row : NodeRow = found.0 in
          let row_is : slice_get nodes place ≡ Some row = found.2 in
          let first : IsFirstAt rows nodes place row = first_at rows nodes place row installation row_is in
          record {
            row = row;
            row_is = row_is;
            address = ap (λ (n : NodeAt). n.config.address) first.node_is;
            floor = 0;
            fits = record { reserved = row.next - 1; next = row.next; fits = first.fits };
          }
      | inr past ↦ let past = past.0 in absurd (omega (arith, below, same, past))
    ]

pub blocks_of_their_own : (rows : List Row) (nodes : List NodeRow) (w : WorldAt) (history : List Step)
    → IsRunOf rows nodes w history → AreHeld (events_of history) (first_world rows nodes)
    → HaveBlocksOfTheirOwn nodes history (all_sealed (events_of history) (first_world rows nodes))
blocks_of_their_own rows nodes w history run held =
    let first : WorldAt = first_world rows nodes in
    let events : List Event = events_of history in
    let all : AllAt nodes first = all_at_first rows nodes run.installation in
    let rise = all_rise nodes events first held all in
    record {
      drawn = λ place row. numbers_are_drawn rows nodes w history place row run held;
      sealed = all_are_sealed nodes events first held all;
      blocks = λ i j d before below.
          two_blocks rows nodes run.installation (get_or (all_sealed events first) i d)
          (get_or (all_sealed events first) j d) (rise i j d before below);
    }
