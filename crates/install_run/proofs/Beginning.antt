-- The configuration of a node of a script stands.
use Prim.Native.Nat.{zero, suc}
use Rattle.std.specs.List.{All, list_any, position_or_len}
use Rattle.std.proofs.Common.{◌≡◌, ℕ, ◌+◌, ◌^◌, ◌<◌, ◌≤◌, ◌||◌, List, [], ◌∷◌, length, cond, Bool, true, false, Option, Some, None, refl, sym, ap, ◌∙◌, subst, nat_lt, arith}
use Rattle.std.specs.Prelude.{not, map, position, option_map, unwrap_or, if◌then◌else◌}
use Rattle.std.specs.Option.{is_some, option_or}
use Rattle.std.proofs.lemmas.Bool.Decides.{nat_tests}
use Rattle.key_tables.specs.declared.types.Row.{Row}
use Rattle.key_tables.specs.Lanes.{is_any}
use Rattle.seq_store.specs.Layout.{most_lanes}
use Rattle.node_core.specs.Config.{configured, config_fault, lanes_fault, IsConfigFault}
use Rattle.node_core.specs.declared.fault.ConfigFault.{ConfigFault}
use Rattle.node_core.specs.declared.fault.ConfigFault.TheVariants.{Any, Rows, Objects, Lanes, NoMemory}
use Rattle.script_text.specs.declared.node_row.NodeRow.{NodeRow}
use Rattle.script_text.specs.declared.event.Event.{Event}
use Rattle.script_text.specs.Script.{IsEvent, IsNode, IsScript}
use Rattle.nvm_model.specs.Nvm.{State}
use Rattle.nvm_model.specs.Plan.{unarmed}
use Rattle.nvm_model.specs.SimNvm.{sim_state}
use Rattle.nvm_model.specs.declared.sim.SimNvm.{SimNvm}
use Rattle.seq_store.specs.Runs.{RestoresNumbers, numbers_in}
use Rattle.seq_store.proofs.Keeping.{has_its_numbers}
use Rattle.node_core.specs.Standing.{ConfigState, started}
use Rattle.node_core.specs.Node.{NodeState, IsStarted}
use Rattle.step_text.specs.declared.outcome.Step.{Step}
use Rattle.install_run.specs.Machine.{TelegramAt}
use Rattle.install_run.specs.Runs.{journal_of}
use Rattle.install_run.specs.Counts.{no_counts}
use Rattle.install_run.specs.Slot.{at_node_state, standing_of, IsSameMemory}
use Rattle.install_run.specs.Place.{PlaceAt, place_in, node_of, counts_of}
use Rattle.install_run.specs.World.{WorldState, world_state, IsWorld}
use Rattle.install_run.specs.First.{first_numbers, first_node, zero_counts, IsFirst, first_place, RowsStand, IsFormatted}

-- ---- a place where one passes

found_where : {A : Type 0} (this rest : Bool) (place : ℕ) (xs : List A) → nat_lt place (length xs) ≡ rest
    → nat_lt (cond (not this) (1 + place) 0) (suc (length xs)) ≡ (this || rest)
found_where true rest place xs is = grind (arith, nat_tests)
found_where false rest place xs is = grind (arith, nat_tests, is)

found : {A : Type 0} (p : A → Bool) (xs : List A) → nat_lt (position_or_len p xs) (length xs) ≡ list_any p xs
found p [] = refl
found p (x ∷ xs) = found_where (p x) (list_any p xs) (position_or_len p xs) xs (found p xs)

some_where : {A : Type 0} (b : Bool) (x : A) → is_some (cond b (Some x) None) ≡ b
some_where true x = refl
some_where false x = refl

there_where : {A : Type 0} (p : A → Bool) (xs : List A) → is_some (position p xs) ≡ list_any p xs
there_where p xs = some_where (nat_lt (position_or_len p xs) (length xs)) (position_or_len p xs) ∙ found p xs

-- ---- what stands

none_of : {A : Type 0} (o : Option A) → is_some o ≡ false → o ≡ None
none_of None is = refl
none_of (Some x) is = absurd (cc)

few_lanes : (n : ℕ) (over : Bool) → nat_lt most_lanes n ≡ over → n ≤ most_lanes
    → (if over then Some (Lanes n) else None) ≡ None
few_lanes n true is few = absurd (grind (arith, nat_tests, is, few))
few_lanes n false is few = refl

stands : (rows : List Row) (node : NodeRow) → RowsStand rows → IsNode rows node
    → config_fault (configured node.address rows node.objects) ≡ None
stands rows node stand is =
    let any : position is_any rows ≡ None = none_of (position is_any rows) (there_where is_any rows ∙ stand.named) in
    let lanes : lanes_fault (length (configured node.address rows node.objects).lanes) ≡ None
    = few_lanes (length (configured node.address rows node.objects).lanes) _ refl is.lanes in
    (λ i. option_or (option_map Any (any i)) (option_or (option_map Rows (stand.stand i))
    (option_or (option_map Objects (is.objects i)) (lanes i))))

-- so it is refused for want of memory alone
by_memory : (fault : ConfigFault) → IsConfigFault fault None → fault ≡ NoMemory
by_memory (Any place) is = absurd (cc)
by_memory (Rows fault) is = absurd (cc)
by_memory (Objects fault) is = absurd (cc)
by_memory (Lanes lanes) is = absurd (cc)
by_memory NoMemory is = refl

pub refused_by_memory : (rows : List Row) (node : NodeRow) (fault : ConfigFault) → RowsStand rows → IsNode rows node
    → IsConfigFault fault (config_fault (configured node.address rows node.objects)) → fault ≡ NoMemory
refused_by_memory rows node fault stand is found =
    by_memory fault (subst (IsConfigFault fault) (stands rows node stand is) found)

-- ---- a node over a formatted memory

holds : (row : NodeRow) (lanes : ℕ) (memory : State) → IsFormatted row memory → length row.marks ≡ lanes
    → numbers_in lanes memory.octets ≡ first_numbers row
holds row lanes memory is each =
    subst (λ n. numbers_in n memory.octets ≡ first_numbers row) each
    ((has_its_numbers memory.octets).those (first_numbers row) is.restores)

pub formatted_sound : (row : NodeRow) (lanes : ℕ) (memory : State) → IsFormatted row memory → length row.marks ≡ lanes
    → RestoresNumbers (numbers_in lanes memory.octets) memory.octets
formatted_sound row lanes memory is each =
    subst (λ n. RestoresNumbers n memory.octets) (sym (holds row lanes memory is each)) is.restores

pub first_is : (rows : List Row) (row : NodeRow) (config : ConfigState) (memory : State) (node : NodeState SimNvm)
    → config ≡ configured row.address rows row.objects → length row.marks ≡ length config.lanes → IsFormatted row memory
    → IsStarted config memory.octets node → IsSameMemory memory (sim_state node.memory)
    → at_node_state node ≡ first_node rows row
first_is rows row config memory node config_is each formatted started_is same =
    let numbers = holds row (length config.lanes) memory formatted each in
    let standing : standing_of node.running node.standing ≡ Some
    (started (configured row.address rows row.objects) (first_numbers row))
    = ap (λ running. standing_of running node.standing) started_is.runs
    ∙ ap Some (started_is.standing_is ∙ (λ i. started (config_is i) (numbers i))) in
    λ i. record {
      config = (started_is.config_is ∙ config_is) i;
      standing = standing i;
      octets = (same.octets ∙ formatted.octets) i;
      plan = unwrap_or ((same.plan ∙ formatted.plan) i) unarmed;
      powered = (same.powered ∙ formatted.powered) i;
    }

-- ---- the whole installation

no_entries : (rows : List Row) (nodes : List NodeRow) (place : ℕ)
    → (place_in (map (first_place rows) nodes) place).journal ≡ []
no_entries rows [] place = refl
no_entries rows (node ∷ nodes) zero = refl
no_entries rows (node ∷ nodes) (suc place) = no_entries rows nodes place

pub first_nodes : (rows : List Row) (nodes : List NodeRow) → map node_of (map (first_place rows) nodes)
    ≡ map (first_node rows) nodes
first_nodes rows [] = refl
first_nodes rows (node ∷ nodes) = ap (λ rest. first_node rows node ∷ rest) (first_nodes rows nodes)

first_counts : (rows : List Row) (nodes : List NodeRow) → map counts_of (map (first_place rows) nodes)
    ≡ map zero_counts nodes
first_counts rows [] = refl
first_counts rows (node ∷ nodes) = ap (λ rest. no_counts ∷ rest) (first_counts rows nodes)

pub first_stands : (rows : List Row) (nodes : List NodeRow) (places : List PlaceAt) (air : List TelegramAt)
    (history : List Step)
    → places ≡ map (first_place rows) nodes → air ≡ [] → history ≡ [] → IsWorld places air history
first_stands rows nodes places air history places_are no_air no_steps = record {
  journals = record {
    each = λ place _. ap (λ ps. (place_in ps place).journal) places_are ∙ no_entries rows nodes place
        ∙ ap (journal_of place) (sym no_steps);
  };
  few = subst (λ a. length a ≤ length history) (sym no_air) (omega arith);
}

pub is_first : (rows kept : List Row) (nodes copied : List NodeRow) (places : List PlaceAt) (air : List TelegramAt)
    (history : List Step)
    → kept ≡ rows → copied ≡ nodes → places ≡ map (first_place rows) nodes → air ≡ [] → history ≡ []
    → IsFirst rows nodes (world_state kept copied places air history)
is_first rows kept nodes copied places air history rows_are nodes_are places_are no_air no_steps = record {
  rows_are = rows_are;
  nodes_are = nodes_are;
  world_is = λ i. record { nodes = (ap (map node_of) places_are ∙ first_nodes rows nodes) i; air = no_air i };
  counts_are = ap (map counts_of) places_are ∙ first_counts rows nodes;
  no_steps = no_steps;
}

-- ---- the events of the script

pub events_fit : (rows : List Row) (nodes : List NodeRow) (events : List Event) (w : WorldState)
    → IsScript rows nodes events
    → length w.world.nodes ≡ length nodes → All (IsEvent (length w.world.nodes)) events
events_fit rows nodes events w script size = subst (λ n. All (IsEvent n) events) (sym size) script.events_stand

pub few_events : (rows : List Row) (nodes : List NodeRow) (events : List Event) (w : WorldState)
    → IsScript rows nodes events
    → IsFirst rows nodes w → length w.history + length events < 2 ^ 32
few_events rows nodes events w script first =
    let none : length w.history ≡ 0 =
    ap length first.no_steps in let few = script.events_few in omega (arith, none, few)
