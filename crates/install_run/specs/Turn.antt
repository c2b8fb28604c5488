-- What an event makes of the node at which it happens, with its memory. This is statement.
use Rattle.std.specs.Prelude.{ℕ, ◌+◌, List, length, Bool, false, true, Option, Some, None, option_map, Result, Ok, Err}
use Rattle.nvm_model.specs.Nvm.{is_on_after}
use Rattle.nvm_model.specs.Plan.{Struck, strike}
use Rattle.nvm_model.specs.declared.fault.NvmFault.{NvmFault}
use Rattle.nvm_model.specs.declared.fault.NvmFault.TheVariants as nvm
use Rattle.nvm_model.specs.declared.plan.Plan.{Plan}
use Rattle.seq_store.specs.Runs.{numbers_in, writes_of}
use Rattle.group_objects.specs.declared.objects.SetFault.{SetFault}
use Rattle.group_objects.specs.declared.objects.SetFault.TheVariants as refused
use Rattle.node_core.specs.declared.fault.SendFault.{SendFault}
use Rattle.node_core.specs.declared.fault.SendFault.TheVariants as fault
use Rattle.node_core.specs.declared.outcome.Act.{Act}
use Rattle.node_core.specs.declared.outcome.Act.TheVariants as act
use Rattle.node_core.specs.declared.outcome.Outcome.{Outcome}
use Rattle.node_core.specs.declared.outcome.Outcome.TheVariants as received
use Rattle.node_core.specs.Standing.{ConfigState, Standing, started}
use Rattle.node_core.specs.Transition.{Transition}
use Rattle.node_core.specs.Receiving.{receive_transition}
use Rattle.step_text.specs.declared.outcome.StepOutcome.{StepOutcome}
use Rattle.step_text.specs.declared.outcome.StepOutcome.TheVariants as outcome

-- A node with its memory. One that does not run has no standing.
pub record NodeAt : Type 0 where
  pub config : ConfigState
  pub standing : Option Standing
  pub octets : List ℕ
  pub plan : Plan
  pub powered : Bool

-- what came of an event, what the node is then, and the octets that it put on the air
pub record Turn : Type 0 where
  pub outcome : StepOutcome
  pub node : NodeAt
  pub sent : Option (List ℕ)

abbrev pub stays : StepOutcome → NodeAt → Turn
stays said n = record { outcome = said; node = n; sent = None }

-- ---- calls of a node that runs

abbrev pub stop_outcome : NvmFault → StepOutcome
stop_outcome nvm.Cut = outcome.Cut
stop_outcome nvm.Failed = outcome.Fault

-- what the plan of the memory makes of the raises of a call
abbrev pub struck_by : {A : Type 0} → Transition A → Standing → NodeAt → Struck
struck_by t s n = strike (writes_of (length s.numbers.marks) t.raises n.octets) n.plan n.octets

-- the node behind such raises
abbrev pub behind : Struck → Option Standing → NodeAt → NodeAt
behind struck standing n = record {
  config = n.config;
  standing = standing;
  octets = struck.octets;
  plan = struck.plan;
  powered = is_on_after struck.answer;
}

-- Where one of the writes is struck nothing else comes of the call, and the node does not run any more.
abbrev pub turn_by : {A : Type 0} → Option NvmFault → Struck → Transition A → (A → StepOutcome) → NodeAt → Turn
turn_by None struck t told n =
    record { outcome = told t.outcome; node = behind struck (Some t.after) n; sent = t.frame }
turn_by (Some fault) struck t told n =
    record { outcome = stop_outcome fault; node = behind struck None n; sent = None }

-- A node that does not run makes no call. The transition is by the standing of one that does.
abbrev pub call_turn : {A : Type 0} → (Standing → Transition A) → (A → StepOutcome) → NodeAt → Option Standing → Turn
call_turn call told n None = stays outcome.Off n
call_turn call told n (Some s) =
    let struck = struck_by (call s) s n in turn_by struck.answer struck (call s) told n

-- ---- what the calls say, when so many telegrams were put on the air

abbrev pub set_told : Option SetFault → StepOutcome
set_told None = outcome.Set
set_told (Some refused.NoObject) = outcome.NoObject
set_told (Some refused.Size) = outcome.Size

abbrev pub send_told : ℕ → Result ℕ SendFault → StepOutcome
send_told count (Ok number) = outcome.Air (count + 1) (Some number)
send_told count (Err fault.NoObject) = outcome.NoObject
send_told count (Err fault.Flag) = outcome.Flag
send_told count (Err fault.NoKey) = outcome.NoKey
send_told count (Err fault.Exhausted) = outcome.Exhausted
send_told count (Err (fault.Memory stopped)) = stop_outcome stopped

-- the number that a reply gets as a telegram
abbrev pub reply_told : ℕ → Option ℕ → Option ℕ
reply_told count reply = option_map (λ _. count + 1) reply

abbrev pub act_told : ℕ → Act → Option ℕ
act_told count (act.Read object reply) = reply_told count reply
act_told count _ = None

abbrev pub receive_told : ℕ → Outcome → StepOutcome
receive_told count received.Ignored = outcome.Ignored
receive_told count (received.Refused verdict) = outcome.Refused verdict
receive_told count (received.Acted number lane act) = outcome.Acted number lane act (act_told count act)
receive_told count (received.Answered challenge reply) = outcome.Answered challenge (reply_told count reply)
receive_told count (received.Synced number kept next) = outcome.Synced number kept next
receive_told count (received.Stopped stopped) = stop_outcome stopped

-- the octets come to the node, unless the telegram is gone
abbrev pub receive_turn : ℕ → Option (List ℕ) → NodeAt → Option Standing → Turn
receive_turn count octets n None = stays outcome.Off n
receive_turn count None n (Some s) = stays outcome.Gone n
receive_turn count (Some octets) n (Some s) =
    call_turn (λ s. receive_transition n.config s octets) (receive_told count) n (Some s)

-- ---- power, and what is armed

abbrev pub off_turn : NodeAt → Option Standing → Turn
off_turn n None = stays outcome.Off n
off_turn n (Some s) = stays outcome.Down (record n { standing = None; powered = false })

-- a node that runs with this standing from now on
abbrev pub start_turn : NodeAt → Standing → Turn
start_turn n s = stays (outcome.On s.next s.numbers.marks) (record n { standing = Some s; powered = true })

abbrev pub on_turn : NodeAt → Option Standing → Turn
on_turn n None = start_turn n (started n.config (numbers_in (length n.config.lanes) n.octets))
on_turn n (Some s) = stays outcome.Running n

abbrev pub arm_turn : (Plan → Plan) → NodeAt → Turn
arm_turn arms n = stays outcome.Armed (record n { plan = arms n.plan })
