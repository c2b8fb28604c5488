-- Every history is legal: by its steps, with what it tells beside what is there.
use Rattle.std.specs.Option.{is_some}
use Rattle.std.proofs.Common.{◌≡◌, ◌≢◌, inl, inr, ℕ, ◌+◌, ◌-◌, ◌<◌, List, [], ◌∷◌, ◌++◌, length, set, get_or, Bool, true, false, Option, Some, None, refl, sym, ap, ◌∙◌, subst, arith}
use Rattle.std.specs.Prelude.{slice_get}
use Rattle.std.proofs.lemmas.Bool.{cases_eq, cases_lt}
use Rattle.std.proofs.lemmas.List.{length-set, length-map, get_or-map, get_or-set_same, get_or-set_other, get_or_past}
use Rattle.std.proofs.lemmas.Option.{slice_get_cases, slice_get_within, get_or_from_slice_get}
use Rattle.key_tables.specs.declared.types.Row.{Row}
use Rattle.nvm_model.specs.Plan.{Struck, strike}
use Rattle.nvm_model.specs.declared.fault.NvmFault.{NvmFault}
use Rattle.nvm_model.specs.declared.fault.NvmFault.TheVariants as nvm
use Rattle.nvm_model.specs.declared.plan.Armed.{Armed}
use Rattle.nvm_model.specs.declared.plan.Plan.{Plan}
use Rattle.seq_store.specs.Layout.{store_size}
use Rattle.seq_store.specs.Runs.{Numbers, Raise, RestoresSome, numbers_in, writes_of, after_raise}
use Rattle.seq_store.proofs.Keeping.{has_its_numbers}
use Rattle.group_objects.specs.Objects.{set_refusal}
use Rattle.node_core.specs.Node.{handed}
use Rattle.node_core.specs.Receiving.{receive_transition}
use Rattle.node_core.specs.Sending.{send_transition, tool_transition, ask_transition, set_transition}
use Rattle.node_core.specs.Standing.{Standing, started, with_value}
use Rattle.node_core.specs.Transition.{Transition, told_as}
use Rattle.script_text.specs.declared.event.Event.{Event}
use Rattle.script_text.specs.declared.event.Event.TheVariants as event
use Rattle.script_text.specs.declared.node_row.NodeRow.{NodeRow}
use Rattle.step_text.specs.declared.outcome.Step.{Step}
use Rattle.step_text.specs.declared.outcome.StepOutcome.{StepOutcome}
use Rattle.step_text.specs.declared.outcome.StepOutcome.TheVariants as outcome
use Rattle.install_run.specs.Calls.{deliver_call, call_of}
use Rattle.install_run.specs.First.{first_node, first_world}
use Rattle.install_run.specs.Fitting.{told_by_all, NodeFits, WorldFits}
use Rattle.install_run.specs.Legal.{ToldNode, Told, no_told, told_in, first_told_node, first_told, call_tells, node_tells, node_sends, air_after, told_by, told_after, AllowsCall, AreLeft, AllowsAt, AllowsOnAir, AllowsBy, AreAllowed, IsLegal}
use Rattle.install_run.specs.Machine.{TelegramAt, WorldAt, WorldTurn, telegram_in, heard, node_in, no_node, has_telegram, telegrams_of, lose_outcome}
use Rattle.install_run.specs.Origin.{IsInstallation, events_of, HoldsAfter, AreHeld, IsRunOf}
use Rattle.install_run.specs.Runs.{place_of, is_at, after, step_of, world_after, history_of}
use Rattle.install_run.specs.Slot.{IsSound}
use Rattle.install_run.specs.Turn.{NodeAt, Turn, stays, struck_by, turn_by, set_told, send_told, receive_told, receive_turn}
use Rattle.install_run.specs.Synchronising.{is_stop}
use Rattle.install_run.proofs.Answering.{goes_on, send_on, tool_on, ask_on, set_on, receive_on}
use Rattle.install_run.proofs.Climbing.{same_lanes}
use Rattle.install_run.proofs.Disarming.{Disarms, disarms}
use Rattle.install_run.proofs.Drawing.{same_raises}
use Rattle.install_run.proofs.Marking.{AllStand, stands_after}
use Rattle.install_run.proofs.Rising.{IsFirstAt, first_at}
use Rattle.install_run.proofs.Sounding.{sized}
use Rattle.install_run.proofs.Steps.{IsSteppedAt, node_turn, stepped_at, stays_at, same_size}

-- ---- what is told beside what is there

-- A cut is armed exactly where that is told, and no fault that is not told.
record IsArmedAsTold (told_cut told_fault : Bool) (plan : Plan) : Type 0 where
  cut : told_cut ≡ is_some plan.cut
  fault : told_fault ≡ false → plan.fault ≡ None

-- An image restores what some of these raises left of these numbers, which are of so many lanes.
record HasLeft (raises : List Raise) (numbers : Numbers) (lanes : ℕ) (image : List ℕ) : Type 0 where
  some : RestoresSome raises numbers image
  each_lane : length numbers.marks ≡ lanes

record Matches (t : ToldNode) (n : NodeAt) : Type 0 where
  config : t.config ≡ n.config
  standing : t.standing ≡ n.standing
  armed : IsArmedAsTold t.cut t.fault n.plan
  rests : n.standing ≡ None → HasLeft t.raises t.stopped (length n.config.lanes) n.octets

-- A turn is allowed, and leaves a node as it is told then, with the telegrams that are told.
record Follows (allowed : Type 0) (t : ToldNode) (sent : List TelegramAt) (turn : Turn) : Type 0 where
  allowed_is : allowed
  matches : Matches t turn.node
  sent_is : telegrams_of (has_telegram turn.outcome) (handed turn.sent []) ≡ sent

-- a node with this standing, as it is told
abbrev at_told : ToldNode → Option Standing → List ℕ → Plan → Bool → NodeAt
at_told t standing octets plan powered =
    record { config = t.config; standing = standing; octets = octets; plan = plan; powered = powered }

abbrev running : ToldNode → Standing → ToldNode
running t s = record t { standing = Some s }

-- ---- numbers that some raises left

left_by : (raises : List Raise) (numbers : Numbers) (image : List ℕ) → RestoresSome raises numbers image
    → AreLeft raises numbers (numbers_in (length numbers.marks) image)
left_by [] numbers image is = (has_its_numbers image).those numbers is
left_by (r ∷ raises) numbers image (inl is) = inl ((has_its_numbers image).those numbers is)
left_by (r ∷ raises) numbers image (inr rest) =
    inr (subst (λ lanes. AreLeft raises (after_raise r numbers) (numbers_in lanes image)) (same_lanes r numbers)
    (left_by raises (after_raise r numbers) image rest))

-- ---- a call of a node that runs

cut_told : (told : Bool) (armed : Option Armed) → told ≡ is_some armed → armed ≢ None → told ≡ true
cut_told told None is some = absurd (some refl)
cut_told told (Some armed) is some = is

fault_told : (told : Bool) (armed : Option Armed) → (told ≡ false → armed ≡ None) → armed ≢ None → told ≡ true
fault_told true armed none some = refl
fault_told false armed none some = absurd (some (none refl))

module _ {A : Type 0} (call : Transition A) (told : A → StepOutcome) (t : ToldNode) (s : Standing) (octets : List ℕ)
    (plan : Plan) (powered : Bool) where
  abbrev There : NodeAt
  There = at_told t (Some s) octets plan powered

  abbrev CallFollows : Turn → Type 0
  CallFollows turn =
      Follows (AllowsCall turn.outcome (told_as told call) t) (call_tells turn.outcome (told_as told call) s t)
      (telegrams_of (has_telegram turn.outcome) (handed call.frame [])) turn

  called_by : (answer : Option NvmFault) (struck : Struck) → is_stop (told call.outcome) ≡ false
      → IsArmedAsTold t.cut t.fault plan → Disarms plan answer struck.plan → (call.raises ≡ [] → answer ≡ None)
      → HasLeft call.raises s.numbers (length t.config.lanes) (turn_by answer struck call told There).node.octets
      → CallFollows (turn_by answer struck call told There)
  called_by None struck goes armed disarmed none left =
      subst (λ t'. Follows (AllowsCall (told call.outcome) (told_as told call) t) t'
      (telegrams_of (has_telegram (told call.outcome)) (handed call.frame []))
      (turn_by None struck call told There)) (sym (goes_on (told call.outcome) (told_as told call) s t goes))
      (record {
        allowed_is = inl refl;
        matches = record {
          config = refl;
          standing = refl;
          armed = record {
            cut = armed.cut ∙ sym (disarmed.cut_kept (λ is. absurd cc));
            fault = λ is. disarmed.fault_none (armed.fault is);
          };
          rests = λ is. absurd cc;
        };
        sent_is = refl;
      })
  called_by (Some nvm.Cut) struck goes armed disarmed none left = record {
    allowed_is = inr (record {
      raises = λ is. let no : Some nvm.Cut ≡ None = none is in absurd cc;
      armed = inl (refl, cut_told t.cut plan.cut armed.cut (λ is. disarmed.no_cut is refl));
    });
    matches = record {
      config = refl;
      standing = refl;
      armed = record {
        cut = ap is_some (sym (disarmed.cut_struck refl));
        fault = λ is. disarmed.fault_none (armed.fault is);
      };
      rests = λ is. left;
    };
    sent_is = refl;
  }
  called_by (Some nvm.Failed) struck goes armed disarmed none left = record {
    allowed_is = inr (record {
      raises = λ is. let no : Some nvm.Failed ≡ None = none is in absurd cc;
      armed = inr (refl, fault_told t.fault plan.fault armed.fault (λ is. disarmed.no_fault is refl));
    });
    matches = record {
      config = refl;
      standing = refl;
      armed = record {
        cut = armed.cut ∙ sym (disarmed.cut_kept (λ is. absurd cc));
        fault = λ is. disarmed.fault_struck refl;
      };
      rests = λ is. left;
    };
    sent_is = refl;
  }

  called : is_stop (told call.outcome) ≡ false → IsArmedAsTold t.cut t.fault plan
      → (let struck = struck_by call s There in let turn = turn_by struck.answer struck call told There in
      HasLeft call.raises s.numbers (length t.config.lanes) turn.node.octets → CallFollows turn)
  called goes armed left =
      let lanes = length s.numbers.marks in
      let struck = struck_by call s There in
      called_by struck.answer struck goes armed (disarms (writes_of lanes call.raises octets) plan octets)
      (λ none. ap (λ raises. (strike (writes_of lanes raises octets) plan octets).answer) none) left

-- ---- the turn of each event

-- the turn of a node, with the telegrams that are told
abbrev FollowsAt : Event → List TelegramAt → List TelegramAt → ToldNode → NodeAt → Type 0
FollowsAt e told air t n =
    let turn = node_turn e air n n.standing in
    Follows (AllowsAt e told turn.outcome t t.standing) (node_tells e told turn.outcome t t.standing)
    (node_sends e told turn.outcome t t.standing) turn

-- where the node of the event ran, its memory has what some of its raises left
abbrev Leaves : Event → List TelegramAt → NodeAt → Type 0
Leaves e air n =
    (s : Standing) → n.standing ≡ Some s
    → HasLeft (call_of e air n.config s).raises s.numbers (length n.config.lanes)
    (node_turn e air n n.standing).node.octets

rested : (t : ToldNode) (n : NodeAt) → Matches t n → Follows (outcome.Off ≡ outcome.Off) t [] (stays outcome.Off n)
rested t n m = record { allowed_is = refl; matches = m; sent_is = refl }

delivered : (count : ℕ) (t : ToldNode) (s : Standing) (octets : List ℕ) (plan : Plan) (powered : Bool)
    (hears : Option (List ℕ))
    → (let t = running t s in let n = at_told t (Some s) octets plan powered in
    let call = deliver_call count t.config s hears in let turn = receive_turn count hears n (Some s) in
    Matches t n → HasLeft call.raises s.numbers (length t.config.lanes) turn.node.octets
    → Follows (AllowsCall turn.outcome call t) (call_tells turn.outcome call s t)
    (telegrams_of (has_telegram turn.outcome) (handed call.frame [])) turn)
delivered count t s octets plan powered None m left = record { allowed_is = inl refl; matches = m; sent_is = refl }
delivered count t s octets plan powered (Some heard) m left =
    called (receive_transition t.config s heard) (receive_told count) (running t s) s octets plan powered
    (receive_on count t.config s heard).0 m.armed left

turned : (e : Event) (place : ℕ) → place_of e ≡ Some place → (air : List TelegramAt) (t : ToldNode)
    (standing : Option Standing) (octets : List ℕ) (plan : Plan) (powered : Bool)
    → (let t = record t { standing = standing } in let n = at_told t standing octets plan powered in
    Matches t n → Leaves e air n → FollowsAt e air air t n)
turned (event.Set node object value) place at air t None octets plan powered m left = rested _ _ m
turned (event.Set node object value) place at air t (Some s) octets plan powered m left =
    called (set_transition s object value) set_told (running t s) s octets plan powered
    (set_on (set_refusal (slice_get s.values object) value) s (with_value object value s)).0 m.armed (left s refl)
turned (event.Send node object service) place at air t None octets plan powered m left = rested _ _ m
turned (event.Send node object service) place at air t (Some s) octets plan powered m left =
    called (send_transition t.config s object service) (send_told (length air)) (running t s) s octets plan powered
    (send_on (length air) t.config s object service).0 m.armed (left s refl)
turned (event.ToolSend node to apdu) place at air t None octets plan powered m left = rested _ _ m
turned (event.ToolSend node to apdu) place at air t (Some s) octets plan powered m left =
    called (tool_transition t.config s to apdu) (send_told (length air)) (running t s) s octets plan powered
    (tool_on (length air) t.config s to apdu).0 m.armed (left s refl)
turned (event.Ask node to challenge) place at air t None octets plan powered m left = rested _ _ m
turned (event.Ask node to challenge) place at air t (Some s) octets plan powered m left =
    called (ask_transition t.config s to challenge) (send_told (length air)) (running t s) s octets plan powered
    (ask_on (length air) t.config s to challenge).0 m.armed (left s refl)
turned (event.Deliver telegram node) place at air t None octets plan powered m left = rested _ _ m
turned (event.Deliver telegram node) place at air t (Some s) octets plan powered m left =
    delivered (length air) t s octets plan powered (heard (telegram_in air telegram)) m (left s refl)
turned (event.Lose telegram) place at air t standing octets plan powered m left = absurd cc
turned (event.Inject frame) place at air t standing octets plan powered m left = absurd cc
turned (event.Off node) place at air t None octets plan powered m left = rested _ _ m
turned (event.Off node) place at air t (Some s) octets plan powered m left = record {
  allowed_is = inl refl;
  matches = record { config = refl; standing = refl; armed = m.armed; rests = λ is. left s refl };
  sent_is = refl;
}
turned (event.On node) place at air t None octets plan powered m left =
    let found : Numbers = numbers_in (length t.config.lanes) octets in
    let left = m.rests refl in
    let reserved_is : found.reserved + 1 - 1 ≡ found.reserved = omega arith in
    record {
      allowed_is = record {
        found = found;
        left = subst (λ lanes. AreLeft t.raises t.stopped (numbers_in lanes octets)) left.each_lane
            (left_by t.raises t.stopped octets left.some);
        said_is = refl;
      };
      matches = record {
        config = refl;
        standing = ap (λ r. Some (started t.config (record { reserved = r; marks = found.marks }))) reserved_is;
        armed = m.armed;
        rests = λ is. absurd cc;
      };
      sent_is = refl;
    }
turned (event.On node) place at air t (Some s) octets plan powered m left =
    record { allowed_is = inl refl; matches = m; sent_is = refl }
turned (event.Cut node write torn) place at air t None octets plan powered m left = record {
  allowed_is = refl;
  matches = record {
    config = refl;
    standing = refl;
    armed = record { cut = refl; fault = m.armed.fault };
    rests = m.rests;
  };
  sent_is = refl;
}
turned (event.Cut node write torn) place at air t (Some s) octets plan powered m left = record {
  allowed_is = inl refl;
  matches = record {
    config = refl;
    standing = refl;
    armed = record { cut = refl; fault = m.armed.fault };
    rests = m.rests;
  };
  sent_is = refl;
}
turned (event.Fault node write torn) place at air t None octets plan powered m left = record {
  allowed_is = refl;
  matches = record {
    config = refl;
    standing = refl;
    armed = record { cut = m.armed.cut; fault = λ is. absurd cc };
    rests = m.rests;
  };
  sent_is = refl;
}
turned (event.Fault node write torn) place at air t (Some s) octets plan powered m left = record {
  allowed_is = inl refl;
  matches = record {
    config = refl;
    standing = refl;
    armed = record { cut = m.armed.cut; fault = λ is. absurd cc };
    rests = m.rests;
  };
  sent_is = refl;
}

-- ---- in an installation

record IsAsTold (w : WorldAt) (told : Told) : Type 0 where
  size : length told.nodes ≡ length w.nodes
  air : told.air ≡ w.air
  each : (place : ℕ) → place < length w.nodes → Matches (told_in told place) (node_in w place)
  stand : (place : ℕ) → place < length w.nodes → AllStand (node_in w place)

-- The node of an event is there, since its memory has the size of a store afterwards.
pub in_range : (e : Event) (w : WorldAt) (place : ℕ) → place_of e ≡ Some place → HoldsAfter e w → place < length w.nodes
in_range e w place at held = elim (cases_lt place (length (after e w).nodes)) [
  | inl below ↦ let same = same_size e w in omega (arith, below, same)
  | inr past ↦
      let none : node_in (after e w) place ≡ no_node = get_or_past (after e w).nodes place no_node past in
      let size : 0 ≡ store_size 0 = sized 0 [] (subst IsSound none (held place at).sound) in
      absurd (omega (arith, size))
]

leaves_at : (e : Event) (w : WorldAt) (told : Told) (place : ℕ) → place_of e ≡ Some place → IsAsTold w told
    → HoldsAfter e w → Leaves e w.air (node_in w place)
leaves_at e w told place at as_told held s is =
    let n = node_in w place in
    let n' = node_in (after e w) place in
    let below = in_range e w place at held in
    let raises : List Raise = (call_of e w.air n.config s).raises in
    let some : RestoresSome raises s.numbers n'.octets = subst (λ rs. RestoresSome rs s.numbers n'.octets)
    (sym (same_raises e w.air n.config s)) ((held place at).raised.some s is) in
    subst (λ (n' : NodeAt). HasLeft raises s.numbers (length n.config.lanes) n'.octets)
    (stepped_at e w place at below).now_is
    (record { some = some; each_lane = (as_told.stand place below s is).each_lane })

follows_at : (e : Event) (w : WorldAt) (told : Told) (place : ℕ) → place_of e ≡ Some place → IsAsTold w told
    → HoldsAfter e w → FollowsAt e told.air w.air (told_in told place) (node_in w place)
follows_at e w told place at as_told held =
    let n = node_in w place in
    let t = told_in told place in
    let m : Matches t n = as_told.each place (in_range e w place at held) in
    let n_is : at_told t t.standing n.octets n.plan n.powered ≡ n = λ i. record {
      config = m.config i;
      standing = m.standing i;
      octets = n.octets;
      plan = n.plan;
      powered = n.powered;
    } in
    subst (λ air. FollowsAt e air w.air t n) (sym as_told.air)
    (subst (λ n. FollowsAt e w.air w.air t n) n_is
    (turned e place at w.air t t.standing n.octets n.plan n.powered (subst (Matches t) (sym n_is) m)
    (subst (Leaves e w.air) (sym n_is) (leaves_at e w told place at as_told held))))

-- ---- a step

on_air : (e : Event) (w : WorldAt) (air : List TelegramAt) → place_of e ≡ None → air ≡ w.air
    → AllowsOnAir e air (step_of e w).outcome
on_air (event.Lose telegram) w air none is = ap (λ air. lose_outcome (heard (telegram_in air telegram))) (sym is)
on_air (event.Inject octets) w air none is = ap (λ air. outcome.Air (length air + 1) None) (sym is)
on_air e w air none is = absurd cc

allowed_by : (e : Event) (w : WorldAt) (told : Told) (node : Option ℕ) → place_of e ≡ node → IsAsTold w told
    → HoldsAfter e w → AllowsBy e (step_of e w).outcome told node
allowed_by e w told None at as_told held = on_air e w told.air at as_told.air
allowed_by e w told (Some place) at as_told held =
    let t = told_in told place in
    subst (λ said. AllowsAt e told.air said t t.standing)
    (ap (λ (t : WorldTurn). t.outcome) (sym (stepped_at e w place at (in_range e w place at held)).turn_is))
    (follows_at e w told place at as_told held).allowed_is

same_air : (e : Event) (w : WorldAt) → place_of e ≡ None → (after e w).air ≡ air_after e w.air
same_air (event.Lose telegram) w none = refl
same_air (event.Inject octets) w none = refl
same_air e w none = absurd cc

told_on_air : (e : Event) (w : WorldAt) (told : Told) (said : StepOutcome) → place_of e ≡ None → IsAsTold w told
    → HoldsAfter e w → IsAsTold (after e w) (told_by e said told None)
told_on_air e w told said none as_told held =
    let same = same_size e w in
    record {
      size = as_told.size ∙ sym same;
      air = ap (air_after e) as_told.air ∙ sym (same_air e w none);
      each = λ place below. subst (Matches (told_in told place)) (sym (stays_at e w place (ap (is_at place) none)))
          (as_told.each place (omega (arith, below, same)));
      stand = λ place below. stands_after e w place (is_at place (place_of e)) refl held
          (as_told.stand place (omega (arith, below, same)));
    }

told_at : (e : Event) (w : WorldAt) (told : Told) (place : ℕ) → place_of e ≡ Some place → IsAsTold w told
    → HoldsAfter e w → IsAsTold (after e w) (told_by e (step_of e w).outcome told (Some place))
told_at e w told place at as_told held =
    let n = node_in w place in
    let t = told_in told place in
    let below = in_range e w place at held in
    let step : IsSteppedAt e w place = stepped_at e w place at below in
    let f = follows_at e w told place at as_told held in
    let turn : Turn = node_turn e w.air n n.standing in
    let t' : ToldNode = node_tells e told.air turn.outcome t t.standing in
    let same = same_size e w in
    let told_below : place < length told.nodes = let size = as_told.size in omega (arith, below, size) in
    subst (λ said. IsAsTold (after e w) (told_by e said told (Some place)))
    (ap (λ (t : WorldTurn). t.outcome) (sym step.turn_is)) (record {
      size = length-set told.nodes place t' ∙ as_told.size ∙ sym same;
      air = (λ i. as_told.air i ++ sym f.sent_is i) ∙ ap (λ (t : WorldTurn). t.world.air) (sym step.turn_is);
      each = λ q q_below. elim (cases_eq q place) [
        | inl here ↦
            subst (λ q. Matches (get_or (set told.nodes place t') q no_told) (node_in (after e w) q)) (sym here)
            (subst (λ t. Matches t (node_in (after e w) place))
            (sym (get_or-set_same told.nodes place t' no_told told_below))
            (subst (Matches t') (sym step.now_is) f.matches))
        | inr other ↦
            let node_is : node_in (after e w) q ≡ node_in w q =
            ap (λ (t : WorldTurn). node_in t.world q) step.turn_is
            ∙ get_or-set_other w.nodes place q turn.node no_node other in
            subst (λ t. Matches t (node_in (after e w) q))
            (sym (get_or-set_other told.nodes place q t' no_told other))
            (subst (Matches (told_in told q)) (sym node_is) (as_told.each q (omega (arith, q_below, same))))
      ];
      stand = λ q q_below. stands_after e w q (is_at q (place_of e)) refl held
          (as_told.stand q (omega (arith, q_below, same)));
    })

told_step : (e : Event) (w : WorldAt) (told : Told) (node : Option ℕ) → place_of e ≡ node → IsAsTold w told
    → HoldsAfter e w → IsAsTold (after e w) (told_by e (step_of e w).outcome told node)
told_step e w told None at as_told held = told_on_air e w told (step_of e w).outcome at as_told held
told_step e w told (Some place) at as_told held = told_at e w told place at as_told held

legal_from : (events : List Event) (w : WorldAt) (told : Told) → AreHeld events w → IsAsTold w told
    → AreAllowed (history_of events w) told
legal_from [] w told held as_told = tt
legal_from (e ∷ events) w told held as_told = (
  allowed_by e w told (place_of e) refl as_told held.0,
  legal_from events (after e w) (told_after (step_of e w) told) held.1
      (told_step e w told (place_of e) refl as_told held.0),
)

told_from : (events : List Event) (w : WorldAt) (told : Told) → AreHeld events w → IsAsTold w told
    → IsAsTold (world_after events w) (told_by_all (history_of events w) told)
told_from [] w told held as_told = as_told
told_from (e ∷ events) w told held as_told =
    told_from events (after e w) (told_after (step_of e w) told) held.1
    (told_step e w told (place_of e) refl as_told held.0)

-- ---- from the first world on

record FirstAsTold (t : ToldNode) (n : NodeAt) : Type 0 where
  matches : Matches t n
  stand : AllStand n

first_by_row : (rows : List Row) (nodes : List NodeRow) (place : ℕ) (row : NodeRow) → IsInstallation rows nodes
    → slice_get nodes place ≡ Some row
    → FirstAsTold (told_in (first_told rows nodes) place) (node_in (first_world rows nodes) place)
first_by_row rows nodes place row installation is =
    let n = node_in (first_world rows nodes) place in
    let at : IsFirstAt rows nodes place row = first_at rows nodes place row installation is in
    let told_is : told_in (first_told rows nodes) place ≡ first_told_node rows row =
    get_or-map (first_told_node rows) nodes place row no_told (slice_get_within nodes place row is)
    ∙ ap (first_told_node rows) (get_or_from_slice_get nodes place row row is) in
    record {
      matches = subst (λ t. Matches t n) (sym told_is)
          (subst (Matches (first_told_node rows row)) (sym at.node_is) (record {
            config = refl;
            standing = refl;
            armed = record { cut = refl; fault = λ is. refl };
            rests = λ is. absurd cc;
          }));
      stand = λ s now. (at.fits.runs s now).stands;
    }

first_there : (rows : List Row) (nodes : List NodeRow) (place : ℕ) → IsInstallation rows nodes
    → place < length (first_world rows nodes).nodes
    → FirstAsTold (told_in (first_told rows nodes) place) (node_in (first_world rows nodes) place)
first_there rows nodes place installation below = elim (slice_get_cases nodes place).1 [
  | inl found ↦ first_by_row rows nodes place found.0 installation found.2
  | inr past ↦
      let same : length (first_world rows nodes).nodes ≡ length nodes = length-map nodes (first_node rows) in
      let none = past.0 in
      absurd (omega (arith, below, same, none))
]

first_as_told : (rows : List Row) (nodes : List NodeRow) → IsInstallation rows nodes
    → IsAsTold (first_world rows nodes) (first_told rows nodes)
first_as_told rows nodes installation = record {
  size = length-map nodes (first_told_node rows) ∙ sym (length-map nodes (first_node rows));
  air = refl;
  each = λ place below. (first_there rows nodes place installation below).matches;
  stand = λ place below. (first_there rows nodes place installation below).stand;
}

pub legal : (rows : List Row) (nodes : List NodeRow) (w : WorldAt) (history : List Step) → IsRunOf rows nodes w history
    → AreHeld (events_of history) (first_world rows nodes) → IsLegal rows nodes history
legal rows nodes w history run held =
    subst (IsLegal rows nodes) (sym run.history_is)
    (legal_from (events_of history) (first_world rows nodes) (first_told rows nodes) held
    (first_as_told rows nodes run.installation))

-- ---- the memories

fits_node : (t : ToldNode) (n : NodeAt) → Matches t n → AllStand n → NodeFits t n
fits_node t n m stand = record {
  standing = sym m.standing;
  runs = λ s is. (stand s (sym m.standing ∙ is)).restores;
  rests = λ none. (m.rests (sym m.standing ∙ none)).some;
  cut = sym m.armed.cut;
  fault = m.armed.fault;
}

pub fits : (rows : List Row) (nodes : List NodeRow) (w : WorldAt) (history : List Step) → IsRunOf rows nodes w history
    → AreHeld (events_of history) (first_world rows nodes)
    → WorldFits (told_by_all history (first_told rows nodes)) w
fits rows nodes w history run held =
    let first : WorldAt = first_world rows nodes in
    let told : Told = told_by_all (history_of (events_of history) first) (first_told rows nodes) in
    let last : IsAsTold (world_after (events_of history) first) told =
    told_from (events_of history) first (first_told rows nodes) held (first_as_told rows nodes run.installation) in
    let now : IsAsTold w told = subst (λ w. IsAsTold w told) (sym run.world_is) last in
    subst (λ h. WorldFits (told_by_all h (first_told rows nodes)) w) (sym run.history_is) (record {
      size = now.size;
      each = λ place below. fits_node (told_in told place) (node_in w place) (now.each place below)
          (now.stand place below);
      air = now.air;
    })
