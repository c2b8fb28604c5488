-- Statement: which outcomes are allowed after which steps, by what the outcomes before them tell: there is no memory
-- and no plan in it.
use Rattle.std.specs.Prelude.{◌≡◌, ◌≢◌, ◌⊎◌, ℕ, ◌+◌, ◌-◌, List, [], ◌∷◌, ◌++◌, length, map, set, get_or, Bool, true, false, Option, Some, None}
use Rattle.key_tables.specs.declared.types.Row.{Row}
use Rattle.seq_store.specs.Runs.{Numbers, Raise, after_raise}
use Rattle.node_core.specs.Config.{configured}
use Rattle.node_core.specs.Node.{handed}
use Rattle.node_core.specs.Standing.{ConfigState, Standing, started}
use Rattle.node_core.specs.Transition.{Transition}
use Rattle.script_text.specs.declared.event.Event.{Event}
use Rattle.script_text.specs.declared.event.Event.TheVariants as event
use Rattle.script_text.specs.declared.node_row.NodeRow.{NodeRow}
use Rattle.step_text.specs.declared.outcome.Step.{Step}
use Rattle.step_text.specs.declared.outcome.StepOutcome.{StepOutcome}
use Rattle.step_text.specs.declared.outcome.StepOutcome.TheVariants as outcome
use Rattle.install_run.specs.Calls.{call_of}
use Rattle.install_run.specs.First.{first_numbers}
use Rattle.install_run.specs.Machine.{TelegramAt, put_on_air, telegram_in, heard, lost_in, lose_outcome, no_config, has_telegram, telegrams_of}
use Rattle.install_run.specs.Runs.{place_of}

-- What a history tells of a node: what it is while it runs; where it does not, the numbers that it had when it stopped
-- and the raises that it was to make in that step; and whether a cut and whether a fault is armed.
pub record ToldNode : Type 0 where
  pub config : ConfigState
  pub standing : Option Standing
  pub stopped : Numbers
  pub raises : List Raise
  pub cut : Bool
  pub fault : Bool

-- of each node, and of the telegrams on the air
pub record Told : Type 0 where
  pub nodes : List ToldNode
  pub air : List TelegramAt

abbrev pub no_told : ToldNode
no_told = record {
  config = no_config;
  standing = None;
  stopped = record { reserved = 0; marks = [] };
  raises = [];
  cut = false;
  fault = false;
}

abbrev pub told_in : Told → ℕ → ToldNode
told_in told place = get_or told.nodes place no_told

-- before any step: each node was started with the script's numbers, and nothing is armed
abbrev pub first_told_node : List Row → NodeRow → ToldNode
first_told_node rows row = record {
  config = configured row.address rows row.objects;
  standing = Some (started (configured row.address rows row.objects) (first_numbers row));
  stopped = first_numbers row;
  raises = [];
  cut = false;
  fault = false;
}

abbrev pub first_told : List Row → List NodeRow → Told
first_told rows nodes = record { nodes = map (first_told_node rows) nodes; air = [] }

-- ---- what an outcome tells

abbrev pub stopped_in : Transition StepOutcome → Standing → ToldNode → ToldNode
stopped_in call s t = record t { standing = None; stopped = s.numbers; raises = call.raises }

-- Of a node that ran: it stopped in this call, or it is what the call leaves. What struck is armed no more.
abbrev pub call_tells : StepOutcome → Transition StepOutcome → Standing → ToldNode → ToldNode
call_tells outcome.Cut call s t = record (stopped_in call s t) { cut = false }
call_tells outcome.Fault call s t = record (stopped_in call s t) { fault = false }
call_tells outcome.Down call s t = stopped_in call s t
call_tells said call s t = record t { standing = Some call.after }

-- of a node that did not run: a start tells the next number, which is one more than the last reserved, and the marks
abbrev pub rest_tells : StepOutcome → ToldNode → ToldNode
rest_tells (outcome.On next marks) t =
    record t { standing = Some (started t.config (record { reserved = next - 1; marks = marks })) }
rest_tells said t = t

abbrev pub armed_by : Event → ToldNode → ToldNode
armed_by (event.Cut node write torn) t = record t { cut = true }
armed_by (event.Fault node write torn) t = record t { fault = true }
armed_by e t = t

-- of the node of the event, by whether it ran
abbrev pub node_tells : Event → List TelegramAt → StepOutcome → ToldNode → Option Standing → ToldNode
node_tells e air said t (Some s) = armed_by e (call_tells said (call_of e air t.config s) s t)
node_tells e air said t None = armed_by e (rest_tells said t)

-- the telegrams that it put on the air
abbrev pub node_sends : Event → List TelegramAt → StepOutcome → ToldNode → Option Standing → List TelegramAt
node_sends e air said t (Some s) = telegrams_of (has_telegram said) (handed (call_of e air t.config s).frame [])
node_sends e air said t None = []

-- the telegrams after an event of no node
abbrev pub air_after : Event → List TelegramAt → List TelegramAt
air_after (event.Lose telegram) air = lost_in air telegram (telegram_in air telegram)
air_after (event.Inject octets) air = air ++ put_on_air octets ∷ []
air_after e air = air

abbrev pub told_by : Event → StepOutcome → Told → Option ℕ → Told
told_by e said told (Some place) =
    let t = told_in told place in
    record {
      nodes = set told.nodes place (node_tells e told.air said t t.standing);
      air = told.air ++ node_sends e told.air said t t.standing;
    }
told_by e said told None = record told { air = air_after e told.air }

-- what is told after one more step
abbrev pub told_after : Step → Told → Told
told_after step told = told_by step.event step.outcome told (place_of step.event)

-- ---- what is allowed

-- A stop inside a call: it was to raise something, and a cut or a fault was armed.
pub record StopsCall (said : StepOutcome) (call : Transition StepOutcome) (t : ToldNode) : Type 0 where
  pub raises : call.raises ≢ []
  pub armed : ((said ≡ outcome.Cut) × (t.cut ≡ true)) ⊎ ((said ≡ outcome.Fault) × (t.fault ≡ true))

-- the call's own outcome, or a stop inside it
abbrev pub AllowsCall : StepOutcome → Transition StepOutcome → ToldNode → Type 0
AllowsCall said call t = (said ≡ call.outcome) ⊎ StopsCall said call t

-- what the first few of these raises leave of these numbers, in their order, or what was there before all of them
abbrev pub AreLeft : List Raise → Numbers → Numbers → Type 0
AreLeft [] old found = found ≡ old
AreLeft (r ∷ raises) old found = (found ≡ old) ⊎ AreLeft raises (after_raise r old) found

-- A start finds what some of the raises of the last stop left, and goes on above all that was reserved.
pub record StartsWith (said : StepOutcome) (t : ToldNode) : Type 0 where
  pub found : Numbers
  pub left : AreLeft t.raises t.stopped found
  pub said_is : said ≡ outcome.On (found.reserved + 1) found.marks

-- at a node that does not run
abbrev pub AllowsRest : Event → StepOutcome → ToldNode → Type 0
AllowsRest (event.On node) said t = StartsWith said t
AllowsRest (event.Cut node write torn) said t = said ≡ outcome.Armed
AllowsRest (event.Fault node write torn) said t = said ≡ outcome.Armed
AllowsRest e said t = said ≡ outcome.Off

-- at the node of the event, by whether it runs
abbrev pub AllowsAt : Event → List TelegramAt → StepOutcome → ToldNode → Option Standing → Type 0
AllowsAt e air said t (Some s) = AllowsCall said (call_of e air t.config s) t
AllowsAt e air said t None = AllowsRest e said t

-- an event of no node
abbrev pub AllowsOnAir : Event → List TelegramAt → StepOutcome → Type 0
AllowsOnAir (event.Lose telegram) air said = said ≡ lose_outcome (heard (telegram_in air telegram))
AllowsOnAir (event.Inject octets) air said = said ≡ outcome.Air (length air + 1) None
AllowsOnAir e air said = ⊥

abbrev pub AllowsBy : Event → StepOutcome → Told → Option ℕ → Type 0
AllowsBy e said told (Some place) = let t = told_in told place in AllowsAt e told.air said t t.standing
AllowsBy e said told None = AllowsOnAir e told.air said

abbrev pub Allows : Step → Told → Type 0
Allows step told = AllowsBy step.event step.outcome told (place_of step.event)

-- ---- a whole history

-- each of these steps after this
abbrev pub AreAllowed : List Step → Told → Type 0
AreAllowed [] told = Unit {0}
AreAllowed (step ∷ steps) told = Allows step told × AreAllowed steps (told_after step told)

-- Each step is allowed after those before it.
abbrev pub IsLegal : List Row → List NodeRow → List Step → Type 0
IsLegal rows nodes history = AreAllowed history (first_told rows nodes)
