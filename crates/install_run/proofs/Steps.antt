-- What a step makes of the node at its place: it goes on, stops, starts, or rests.
use Rattle.std.proofs.Common.{◌≡◌, ◌≢◌, ◌⊎◌, inl, inr, ℕ, ◌+◌, ◌<◌, List, length, true, false, Option, Some, None, refl, sym, ap, ◌∙◌, subst, arith}
use Rattle.std.specs.Prelude.{◌==◌, set, get_or}
use Rattle.std.proofs.lemmas.Bool.Decides.{nat_tests}
use Rattle.std.proofs.lemmas.List.{length-set, get_or-set_same, get_or-set_other}
use Rattle.nvm_model.specs.Plan.{Struck}
use Rattle.nvm_model.specs.SimNvm.{with_cut, with_fault}
use Rattle.nvm_model.specs.declared.fault.NvmFault.{NvmFault}
use Rattle.nvm_model.specs.declared.fault.NvmFault.TheVariants as nvm
use Rattle.seq_store.specs.Runs.{numbers_in}
use Rattle.node_core.specs.Receiving.{receive_transition}
use Rattle.node_core.specs.Sending.{send_transition, tool_transition, ask_transition, set_transition}
use Rattle.node_core.specs.Standing.{Standing, started}
use Rattle.node_core.specs.Transition.{Transition, told_as}
use Rattle.script_text.specs.declared.event.Event.{Event}
use Rattle.script_text.specs.declared.event.Event.TheVariants as event
use Rattle.step_text.specs.declared.outcome.StepOutcome.{StepOutcome}
use Rattle.step_text.specs.declared.outcome.StepOutcome.TheVariants as outcome
use Rattle.install_run.specs.Turn.{NodeAt, Turn, stays, struck_by, turn_by, call_turn, set_told, send_told, receive_told, receive_turn, off_turn, on_turn, arm_turn}
use Rattle.install_run.specs.Machine.{TelegramAt, WorldAt, WorldTurn, telegram_in, heard, node_in, no_node, with_turn, turn_of}
use Rattle.install_run.specs.Runs.{place_of, is_at, after, step_of}
use Rattle.install_run.specs.Calls.{deliver_call, call_of}
use Rattle.install_run.specs.Journals.{acted_in}
use Rattle.install_run.specs.Synchronising.{is_stop}
use Rattle.install_run.proofs.Drawing.{IsSilent}
use Rattle.install_run.proofs.Stepping.{same_place}

-- ---- one node

pub record Goes (e : Event) (air : List TelegramAt) (n : NodeAt) (said : StepOutcome) (n' : NodeAt) : Type 0 where
  pub before : Standing
  pub was : n.standing ≡ Some before
  pub now : n'.standing ≡ Some (call_of e air n.config before).after
  pub outcome_is : said ≡ (call_of e air n.config before).outcome

pub record Stops (e : Event) (air : List TelegramAt) (n : NodeAt) (said : StepOutcome) (n' : NodeAt) : Type 0 where
  pub before : Standing
  pub was : n.standing ≡ Some before
  pub now : n'.standing ≡ None
  pub silent : IsSilent said
  pub acts : acted_in said ≡ None
  pub stops : is_stop said ≡ true

pub record Starts (n : NodeAt) (said : StepOutcome) (n' : NodeAt) : Type 0 where
  pub was : n.standing ≡ None
  pub now : n'.standing ≡ Some (started n.config (numbers_in (length n.config.lanes) n.octets))
  pub octets : n'.octets ≡ n.octets
  pub outcome_is : said ≡ outcome.On ((numbers_in (length n.config.lanes) n.octets).reserved + 1)
      (numbers_in (length n.config.lanes) n.octets).marks

pub record Rests (n : NodeAt) (said : StepOutcome) (n' : NodeAt) : Type 0 where
  pub was : n.standing ≡ None
  pub now : n'.standing ≡ None
  pub octets : n'.octets ≡ n.octets
  pub silent : IsSilent said
  pub acts : acted_in said ≡ None

abbrev pub StepsTo : Event → List TelegramAt → NodeAt → StepOutcome → NodeAt → Type 0
StepsTo e air n said n' = Goes e air n said n' ⊎ (Stops e air n said n' ⊎ (Starts n said n' ⊎ Rests n said n'))

-- the turn of the event at its node
abbrev pub node_turn : Event → List TelegramAt → NodeAt → Option Standing → Turn
node_turn (event.Set node object value) air n standing =
    call_turn (λ s. set_transition s object value) set_told n standing
node_turn (event.Send node object service) air n standing =
    call_turn (λ s. send_transition n.config s object service) (send_told (length air)) n standing
node_turn (event.ToolSend node to apdu) air n standing =
    call_turn (λ s. tool_transition n.config s to apdu) (send_told (length air)) n standing
node_turn (event.Ask node to challenge) air n standing =
    call_turn (λ s. ask_transition n.config s to challenge) (send_told (length air)) n standing
node_turn (event.Deliver telegram node) air n standing =
    receive_turn (length air) (heard (telegram_in air telegram)) n standing
node_turn (event.Lose telegram) air n standing = stays outcome.Lost n
node_turn (event.Inject octets) air n standing = stays outcome.Lost n
node_turn (event.Off node) air n standing = off_turn n standing
node_turn (event.On node) air n standing = on_turn n standing
node_turn (event.Cut node write torn) air n standing = arm_turn (with_cut write torn) n
node_turn (event.Fault node write torn) air n standing = arm_turn (with_fault write torn) n

abbrev TurnsTo : Event → List TelegramAt → NodeAt → Turn → Type 0
TurnsTo e air n turn = StepsTo e air n turn.outcome turn.node

rests : (e : Event) (air : List TelegramAt) (n : NodeAt) → n.standing ≡ None → TurnsTo e air n (stays outcome.Off n)
rests e air n is = inr (inr (inr (record {
  was = is;
  now = is;
  octets = refl;
  silent = record { sends = refl; next = λ next. refl; reserved = λ r next. refl; says = refl };
  acts = refl;
})))

called : {A : Type 0} (e : Event) (air : List TelegramAt) (n : NodeAt) (s : Standing) (t : Transition A)
    (told : A → StepOutcome) (answer : Option NvmFault) (struck : Struck)
    → n.standing ≡ Some s → told_as told t ≡ call_of e air n.config s
    → TurnsTo e air n (turn_by answer struck t told n)
called e air n s t told None struck is same = inl (record {
  before = s;
  was = is;
  now = ap (λ (c : Transition StepOutcome). Some c.after) same;
  outcome_is = ap (λ (c : Transition StepOutcome). c.outcome) same;
})
called e air n s t told (Some nvm.Cut) struck is same = inr (inl (record {
  before = s;
  was = is;
  now = refl;
  silent = record { sends = refl; next = λ next. refl; reserved = λ r next. refl; says = refl };
  acts = refl;
  stops = refl;
}))
called e air n s t told (Some nvm.Failed) struck is same = inr (inl (record {
  before = s;
  was = is;
  now = refl;
  silent = record { sends = refl; next = λ next. refl; reserved = λ r next. refl; says = refl };
  acts = refl;
  stops = refl;
}))

-- by the standing
by_call : {A : Type 0} (e : Event) (air : List TelegramAt) (n : NodeAt) (call : Standing → Transition A)
    (told : A → StepOutcome) (standing : Option Standing) → n.standing ≡ standing
    → ((s : Standing) → told_as told (call s) ≡ call_of e air n.config s)
    → TurnsTo e air n (call_turn call told n standing)
by_call e air n call told None is same = rests e air n is
by_call e air n call told (Some s) is same =
    called e air n s (call s) told (struck_by (call s) s n).answer (struck_by (call s) s n) is (same s)

delivered : (telegram node : ℕ) (air : List TelegramAt) (n : NodeAt) (octets : Option (List ℕ))
    (standing : Option Standing) → heard (telegram_in air telegram) ≡ octets → n.standing ≡ standing
    → TurnsTo (event.Deliver telegram node) air n (receive_turn (length air) octets n standing)
delivered telegram node air n octets None hears is = rests (event.Deliver telegram node) air n is
delivered telegram node air n None (Some s) hears is = inl (record {
  before = s;
  was = is;
  now = is ∙ ap (λ o. Some (deliver_call (length air) n.config s o).after) (sym hears);
  outcome_is = ap (λ o. (deliver_call (length air) n.config s o).outcome) (sym hears);
})
delivered telegram node air n (Some octets) (Some s) hears is =
    called (event.Deliver telegram node) air n s (receive_transition n.config s octets) (receive_told (length air))
    (struck_by (receive_transition n.config s octets) s n).answer (struck_by (receive_transition n.config s octets) s n)
    is (ap (deliver_call (length air) n.config s) (sym hears))

switched_off : (node : ℕ) (air : List TelegramAt) (n : NodeAt) (standing : Option Standing) → n.standing ≡ standing
    → TurnsTo (event.Off node) air n (off_turn n standing)
switched_off node air n None is = rests (event.Off node) air n is
switched_off node air n (Some s) is = inr (inl (record {
  before = s;
  was = is;
  now = refl;
  silent = record { sends = refl; next = λ next. refl; reserved = λ r next. refl; says = refl };
  acts = refl;
  stops = refl;
}))

switched_on : (node : ℕ) (air : List TelegramAt) (n : NodeAt) (standing : Option Standing) → n.standing ≡ standing
    → TurnsTo (event.On node) air n (on_turn n standing)
switched_on node air n None is = inr (inr (inl (record { was = is; now = refl; octets = refl; outcome_is = refl })))
switched_on node air n (Some s) is = inl (record { before = s; was = is; now = is; outcome_is = refl })

armed : (e : Event) (air : List TelegramAt) (n n' : NodeAt) (standing : Option Standing) → n.standing ≡ standing
    → n'.standing ≡ n.standing → n'.octets ≡ n.octets
    → ((s : Standing) → (call_of e air n.config s).after ≡ s)
    → ((s : Standing) → (call_of e air n.config s).outcome ≡ outcome.Armed)
    → StepsTo e air n outcome.Armed n'
armed e air n n' None is same octets stays_so says = inr (inr (inr (record {
  was = is;
  now = same ∙ is;
  octets = octets;
  silent = record { sends = refl; next = λ next. refl; reserved = λ r next. refl; says = refl };
  acts = refl;
})))
armed e air n n' (Some s) is same octets stays_so says = inl (record {
  before = s;
  was = is;
  now = same ∙ is ∙ ap Some (sym (stays_so s));
  outcome_is = sym (says s);
})

steps : (e : Event) (air : List TelegramAt) (n : NodeAt) (place : ℕ) → place_of e ≡ Some place
    → TurnsTo e air n (node_turn e air n n.standing)
steps (event.Set node object value) air n place at =
    by_call (event.Set node object value) air n (λ s. set_transition s object value) set_told n.standing refl
    (λ s. refl)
steps (event.Send node object service) air n place at =
    by_call (event.Send node object service) air n (λ s. send_transition n.config s object service)
    (send_told (length air)) n.standing refl (λ s. refl)
steps (event.ToolSend node to apdu) air n place at =
    by_call (event.ToolSend node to apdu) air n (λ s. tool_transition n.config s to apdu) (send_told (length air))
    n.standing refl (λ s. refl)
steps (event.Ask node to challenge) air n place at =
    by_call (event.Ask node to challenge) air n (λ s. ask_transition n.config s to challenge)
    (send_told (length air)) n.standing refl (λ s. refl)
steps (event.Deliver telegram node) air n place at =
    delivered telegram node air n (heard (telegram_in air telegram)) n.standing refl refl
steps (event.Lose telegram) air n place at = absurd cc
steps (event.Inject octets) air n place at = absurd cc
steps (event.Off node) air n place at = switched_off node air n n.standing refl
steps (event.On node) air n place at = switched_on node air n n.standing refl
steps (event.Cut node write torn) air n place at =
    armed (event.Cut node write torn) air n (record n { plan = with_cut write torn n.plan }) n.standing refl refl refl
    (λ s. refl) (λ s. refl)
steps (event.Fault node write torn) air n place at =
    armed (event.Fault node write torn) air n (record n { plan = with_fault write torn n.plan }) n.standing refl refl
    refl (λ s. refl) (λ s. refl)

-- ---- what never changes of a node

call_config : {A : Type 0} (t : Transition A) (told : A → StepOutcome) (answer : Option NvmFault) (struck : Struck)
    (n : NodeAt) → (turn_by answer struck t told n).node.config ≡ n.config
call_config t told None struck n = refl
call_config t told (Some f) struck n = refl

by_call_config : {A : Type 0} (call : Standing → Transition A) (told : A → StepOutcome) (n : NodeAt)
    (standing : Option Standing) → (call_turn call told n standing).node.config ≡ n.config
by_call_config call told n None = refl
by_call_config call told n (Some s) =
    call_config (call s) told (struck_by (call s) s n).answer (struck_by (call s) s n) n

delivered_config : (count : ℕ) (octets : Option (List ℕ)) (n : NodeAt) (standing : Option Standing)
    → (receive_turn count octets n standing).node.config ≡ n.config
delivered_config count octets n None = refl
delivered_config count None n (Some s) = refl
delivered_config count (Some octets) n (Some s) =
    by_call_config (λ s. receive_transition n.config s octets) (receive_told count) n (Some s)

off_config : (n : NodeAt) (standing : Option Standing) → (off_turn n standing).node.config ≡ n.config
off_config n None = refl
off_config n (Some s) = refl

on_config : (n : NodeAt) (standing : Option Standing) → (on_turn n standing).node.config ≡ n.config
on_config n None = refl
on_config n (Some s) = refl

same_config : (e : Event) (air : List TelegramAt) (n : NodeAt) → (node_turn e air n n.standing).node.config ≡ n.config
same_config (event.Set node object value) air n =
    by_call_config (λ s. set_transition s object value) set_told n n.standing
same_config (event.Send node object service) air n =
    by_call_config (λ s. send_transition n.config s object service) (send_told (length air)) n n.standing
same_config (event.ToolSend node to apdu) air n =
    by_call_config (λ s. tool_transition n.config s to apdu) (send_told (length air)) n n.standing
same_config (event.Ask node to challenge) air n =
    by_call_config (λ s. ask_transition n.config s to challenge) (send_told (length air)) n n.standing
same_config (event.Deliver telegram node) air n =
    delivered_config (length air) (heard (telegram_in air telegram)) n n.standing
same_config (event.Lose telegram) air n = refl
same_config (event.Inject octets) air n = refl
same_config (event.Off node) air n = off_config n n.standing
same_config (event.On node) air n = on_config n n.standing
same_config (event.Cut node write torn) air n = refl
same_config (event.Fault node write torn) air n = refl

-- ---- in an installation

turn_at : (e : Event) (w : WorldAt) (place : ℕ) → place_of e ≡ Some place
    → turn_of e w ≡ with_turn place (node_turn e w.air (node_in w place) (node_in w place).standing) w
turn_at (event.Set node object value) w place at =
    ap (λ p. with_turn p (node_turn (event.Set node object value) w.air (node_in w p) (node_in w p).standing) w)
    (same_place at)
turn_at (event.Send node object service) w place at =
    ap (λ p. with_turn p (node_turn (event.Send node object service) w.air (node_in w p) (node_in w p).standing) w)
    (same_place at)
turn_at (event.ToolSend node to apdu) w place at =
    ap (λ p. with_turn p (node_turn (event.ToolSend node to apdu) w.air (node_in w p) (node_in w p).standing) w)
    (same_place at)
turn_at (event.Ask node to challenge) w place at =
    ap (λ p. with_turn p (node_turn (event.Ask node to challenge) w.air (node_in w p) (node_in w p).standing) w)
    (same_place at)
turn_at (event.Deliver telegram node) w place at =
    ap (λ p. with_turn p (node_turn (event.Deliver telegram node) w.air (node_in w p) (node_in w p).standing) w)
    (same_place at)
turn_at (event.Lose telegram) w place at = absurd cc
turn_at (event.Inject octets) w place at = absurd cc
turn_at (event.Off node) w place at =
    ap (λ p. with_turn p (node_turn (event.Off node) w.air (node_in w p) (node_in w p).standing) w) (same_place at)
turn_at (event.On node) w place at =
    ap (λ p. with_turn p (node_turn (event.On node) w.air (node_in w p) (node_in w p).standing) w) (same_place at)
turn_at (event.Cut node write torn) w place at =
    ap (λ p. with_turn p (node_turn (event.Cut node write torn) w.air (node_in w p) (node_in w p).standing) w)
    (same_place at)
turn_at (event.Fault node write torn) w place at =
    ap (λ p. with_turn p (node_turn (event.Fault node write torn) w.air (node_in w p) (node_in w p).standing) w)
    (same_place at)

-- the node of the event, and what came of it
pub record IsSteppedAt (e : Event) (w : WorldAt) (place : ℕ) : Type 0 where
  pub steps : StepsTo e w.air (node_in w place) (step_of e w).outcome (node_in (after e w) place)
  pub config : (node_in (after e w) place).config ≡ (node_in w place).config
  pub turn_is : turn_of e w ≡ with_turn place (node_turn e w.air (node_in w place) (node_in w place).standing) w
  pub now_is : node_in (after e w) place ≡ (node_turn e w.air (node_in w place) (node_in w place).standing).node

pub stepped_at : (e : Event) (w : WorldAt) (place : ℕ) → place_of e ≡ Some place → place < length w.nodes
    → IsSteppedAt e w place
stepped_at e w place at below =
    let n = node_in w place in
    let turn = node_turn e w.air n n.standing in
    let is : turn_of e w ≡ with_turn place turn w = turn_at e w place at in
    let said : (step_of e w).outcome ≡ turn.outcome = ap (λ (t : WorldTurn). t.outcome) is in
    let now : node_in (after e w) place ≡ turn.node =
    ap (λ (t : WorldTurn). node_in t.world place) is ∙ get_or-set_same w.nodes place turn.node no_node below in
    record {
      steps = subst (λ o. StepsTo e w.air n o (node_in (after e w) place)) (sym said)
          (subst (λ n'. StepsTo e w.air n turn.outcome n') (sym now) (steps e w.air n place at));
      config = ap (λ (n : NodeAt). n.config) now ∙ same_config e w.air n;
      turn_is = is;
      now_is = now;
    }

pub no_place : (e : Event) (w : WorldAt) → place_of e ≡ None → (after e w).nodes ≡ w.nodes
no_place (event.Set node object value) w none = absurd cc
no_place (event.Send node object service) w none = absurd cc
no_place (event.ToolSend node to apdu) w none = absurd cc
no_place (event.Ask node to challenge) w none = absurd cc
no_place (event.Deliver telegram node) w none = absurd cc
no_place (event.Lose telegram) w none = refl
no_place (event.Inject octets) w none = refl
no_place (event.Off node) w none = absurd cc
no_place (event.On node) w none = absurd cc
no_place (event.Cut node write torn) w none = absurd cc
no_place (event.Fault node write torn) w none = absurd cc

nodes_at : (e : Event) (w : WorldAt) (place : ℕ) → place_of e ≡ Some place
    → (after e w).nodes ≡ set w.nodes place (node_turn e w.air (node_in w place) (node_in w place).standing).node
nodes_at e w place at = ap (λ (t : WorldTurn). t.world.nodes) (turn_at e w place at)

others_by : (e : Event) (w : WorldAt) (place : ℕ) (node : Option ℕ) → place_of e ≡ node → is_at place node ≡ false
    → node_in (after e w) place ≡ node_in w place
others_by e w place None is other = ap (λ ns. get_or ns place no_node) (no_place e w is)
others_by e w place (Some q) is other =
    let differs : (place == q) ≡ false = other in
    let apart : place ≢ q = λ same. grind (arith, nat_tests, differs, same) in
    ap (λ ns. get_or ns place no_node) (nodes_at e w q is)
    ∙ get_or-set_other w.nodes q place (node_turn e w.air (node_in w q) (node_in w q).standing).node no_node apart

-- every other node is as before
pub stays_at : (e : Event) (w : WorldAt) (place : ℕ) → is_at place (place_of e) ≡ false
    → node_in (after e w) place ≡ node_in w place
stays_at e w place other = others_by e w place (place_of e) refl other

same_size_by : (e : Event) (w : WorldAt) (node : Option ℕ) → place_of e ≡ node
    → length (after e w).nodes ≡ length w.nodes
same_size_by e w None is = ap length (no_place e w is)
same_size_by e w (Some q) is =
    ap length (nodes_at e w q is)
    ∙ length-set w.nodes q (node_turn e w.air (node_in w q) (node_in w q).standing).node

pub same_size : (e : Event) (w : WorldAt) → length (after e w).nodes ≡ length w.nodes
same_size e w = same_size_by e w (place_of e) refl

at_by : (place : ℕ) (node : Option ℕ) → is_at place node ≡ true → node ≡ Some place
at_by place None is = absurd cc
at_by place (Some q) is =
    let here : (place == q) ≡ true = is in
    let same : q ≡ place = grind (arith, nat_tests, here) in
    ap Some same

pub is_its_place : (e : Event) (place : ℕ) → is_at place (place_of e) ≡ true → place_of e ≡ Some place
is_its_place e place is = at_by place (place_of e) is
