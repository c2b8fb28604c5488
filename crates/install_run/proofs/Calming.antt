-- Where nothing is armed each start tells what was kept: by the steps of a legal history alone.
use Prim.Native.Nat.{zero, suc}
use Rattle.std.proofs.Common.{◌≡◌, inl, inr, ℕ, ◌+◌, ◌≤◌, map, List, [], ◌∷◌, length, set, get_or, false, Option, Some, None, refl, sym, ap, ◌∙◌, subst, arith}
use Rattle.std.proofs.lemmas.Bool.{cases_eq, cases_lt}
use Rattle.std.proofs.lemmas.List.{length-set, get_or-set_same, get_or-set_other, get_or_past}
use Rattle.key_tables.specs.declared.types.Row.{Row}
use Rattle.seq_store.specs.Runs.{Numbers}
use Rattle.node_core.specs.Standing.{Standing}
use Rattle.node_core.specs.Transition.{Transition}
use Rattle.script_text.specs.declared.event.Event.{Event}
use Rattle.script_text.specs.declared.event.Event.TheVariants as event
use Rattle.script_text.specs.declared.node_row.NodeRow.{NodeRow}
use Rattle.step_text.specs.declared.outcome.Step.{Step}
use Rattle.step_text.specs.declared.outcome.StepOutcome.{StepOutcome}
use Rattle.step_text.specs.declared.outcome.StepOutcome.TheVariants as outcome
use Rattle.install_run.specs.Calls.{call_of}
use Rattle.install_run.specs.Legal.{ToldNode, Told, no_told, told_in, first_told_node, first_told, call_tells, rest_tells, node_tells, told_by, told_after, AllowsAt, AllowsBy, AreLeft, AreAllowed, IsLegal}
use Rattle.install_run.specs.Machine.{TelegramAt}
use Rattle.install_run.specs.Runs.{place_of}
use Rattle.install_run.specs.Starting.{arms, NoneArms, StartsAsKept, AllStartAsKept}
use Rattle.install_run.specs.Synchronising.{is_stop}
use Rattle.install_run.proofs.Answering.{goes_on, call_on}

-- Nothing is armed, and the last stop cut no raise short.
record IsCalm (t : ToldNode) : Type 0 where
  cut : t.cut ≡ false
  fault : t.fault ≡ false
  raises : t.raises ≡ []

-- ---- a step

calm_on : (said : StepOutcome) (call : Transition StepOutcome) (s : Standing) (t : ToldNode)
    → is_stop said ≡ false → IsCalm t → IsCalm (call_tells said call s t)
calm_on said call s t goes calm = subst IsCalm (sym (goes_on said call s t goes))
    (record { cut = calm.cut; fault = calm.fault; raises = calm.raises })

-- the call's own outcome
calm_call : (e : Event) (air : List TelegramAt) (t : ToldNode) (s : Standing) → arms e ≡ false → IsCalm t
    → IsCalm (node_tells e air (call_of e air t.config s).outcome t (Some s))
calm_call (event.Off node) air t s none calm = record { cut = calm.cut; fault = calm.fault; raises = refl }
calm_call (event.Cut node write torn) air t s none calm = absurd cc
calm_call (event.Fault node write torn) air t s none calm = absurd cc
calm_call e air t s none calm =
    let call = call_of e air t.config s in calm_on call.outcome call s t ((call_on e air t.config s).0 refl) calm

calm_rest : (said : StepOutcome) (t : ToldNode) → IsCalm t → IsCalm (rest_tells said t)
calm_rest (outcome.On next marks) t calm = record { cut = calm.cut; fault = calm.fault; raises = calm.raises }
calm_rest said t calm = calm

calm_arms : (e : Event) (air : List TelegramAt) (said : StepOutcome) (t : ToldNode) → arms e ≡ false → IsCalm t
    → IsCalm (node_tells e air said t None)
calm_arms (event.Cut node write torn) air said t none calm = absurd cc
calm_arms (event.Fault node write torn) air said t none calm = absurd cc
calm_arms e air said t none calm = calm_rest said t calm

-- a node of a legal step
calm_node : (e : Event) (air : List TelegramAt) (said : StepOutcome) (t : ToldNode) (standing : Option Standing)
    → arms e ≡ false → AllowsAt e air said t standing → IsCalm t → IsCalm (node_tells e air said t standing)
calm_node e air said t None none allowed calm = calm_arms e air said t none calm
calm_node e air said t (Some s) none (inl is) calm =
    subst (λ said. IsCalm (node_tells e air said t (Some s))) (sym is) (calm_call e air t s none calm)
calm_node e air said t (Some s) none (inr stops) calm = elim stops.armed [
  | inl by_cut ↦ let told = by_cut.1 in let not = calm.cut in absurd cc
  | inr by_fault ↦ let told = by_fault.1 in let not = calm.fault in absurd cc
]

-- ---- all nodes

abbrev AllCalm : List ToldNode → Type 0
AllCalm nodes = (place : ℕ) → IsCalm (get_or nodes place no_told)

calm_past : (nodes : List ToldNode) (place : ℕ) → length nodes ≤ place → IsCalm (get_or nodes place no_told)
calm_past nodes place past =
    subst IsCalm (sym (get_or_past nodes place no_told past)) (record { cut = refl; fault = refl; raises = refl })

calm_set : (nodes : List ToldNode) (node : ℕ) (t : ToldNode) → AllCalm nodes → IsCalm t → AllCalm (set nodes node t)
calm_set nodes node t all calm place = elim (cases_eq place node) [
  | inl here ↦ subst (λ place. IsCalm (get_or (set nodes node t) place no_told)) (sym here)
      (elim (cases_lt node (length nodes)) [
        | inl below ↦ subst IsCalm (sym (get_or-set_same nodes node t no_told below)) calm
        | inr past ↦ calm_past (set nodes node t) node
            (let same = length-set nodes node t in omega (arith, past, same))
      ])
  | inr other ↦ subst IsCalm (sym (get_or-set_other nodes node place t no_told other)) (all place)
]

calm_by : (e : Event) (said : StepOutcome) (told : Told) (node : Option ℕ) → arms e ≡ false
    → AllowsBy e said told node → AllCalm told.nodes → AllCalm (told_by e said told node).nodes
calm_by e said told None none allowed calm = calm
calm_by e said told (Some place) none allowed calm =
    let t = told_in told place in
    calm_set told.nodes place (node_tells e told.air said t t.standing) calm
    (calm_node e told.air said t t.standing none allowed (calm place))

-- ---- a start

next_said : StepOutcome → ℕ
next_said (outcome.On next marks) = next
next_said said = 0

marks_said : StepOutcome → List ℕ
marks_said (outcome.On next marks) = marks
marks_said said = []

start_by : (node : ℕ) (air : List TelegramAt) (said : StepOutcome) (t : ToldNode) (standing : Option Standing)
    → AllowsAt (event.On node) air said t standing → IsCalm t → (next : ℕ) (marks : List ℕ)
    → said ≡ outcome.On next marks → (next ≡ t.stopped.reserved + 1) × (marks ≡ t.stopped.marks)
unfolding next_said marks_said
start_by node air said t None allowed calm next marks is =
    let found : Numbers = allowed.found in
    let found_is : found ≡ t.stopped = subst (λ raises. AreLeft raises t.stopped found) calm.raises allowed.left in
    let same : outcome.On next marks ≡ outcome.On (found.reserved + 1) found.marks = sym is ∙ allowed.said_is in (
      ap next_said same ∙ ap (λ (n : Numbers). n.reserved + 1) found_is,
      ap marks_said same ∙ ap (λ (n : Numbers). n.marks) found_is,
    )
start_by node air said t (Some s) (inl runs) calm next marks is =
    let other : outcome.Running ≡ outcome.On next marks = sym runs ∙ is in absurd cc
start_by node air said t (Some s) (inr stops) calm next marks is = absurd (stops.raises refl)

start_kept : (e : Event) (said : StepOutcome) (told : Told) → AllowsBy e said told (place_of e) → AllCalm told.nodes
    → StartsAsKept e said told
start_kept (event.On node) said told allowed calm =
    let t = told_in told node in start_by node told.air said t t.standing allowed (calm node)
start_kept e said told allowed calm = tt

-- ---- all steps

kept_from : (steps : List Step) (told : Told) → NoneArms steps → AreAllowed steps told → AllCalm told.nodes
    → AllStartAsKept steps told
kept_from [] told none allowed calm = tt
kept_from (step ∷ steps) told none allowed calm = (
  start_kept step.event step.outcome told allowed.0 calm,
  kept_from steps (told_after step told) none.1 allowed.1
      (calm_by step.event step.outcome told (place_of step.event) none.0 allowed.0 calm),
)

first_calm : (rows : List Row) (nodes : List NodeRow) → AllCalm (map (first_told_node rows) nodes)
first_calm rows [] place = calm_past [] place (omega arith)
first_calm rows (row ∷ nodes) zero = record { cut = refl; fault = refl; raises = refl }
first_calm rows (row ∷ nodes) (suc place) = first_calm rows nodes place

pub starts_as_kept : (rows : List Row) (nodes : List NodeRow) (history : List Step) → IsLegal rows nodes history
    → NoneArms history → AllStartAsKept history (first_told rows nodes)
starts_as_kept rows nodes history legal none =
    kept_from history (first_told rows nodes) none legal (first_calm rows nodes)
