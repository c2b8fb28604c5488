-- Statement: what a node shows, and what its calls make of it.
use Rattle.std.specs.Prelude.{◌≡◌, ◌≢◌, ℕ, List, [], length, Bool, true, false, Option, Some, None, Result, Ok, Err}
use Rattle.nvm_model.specs.declared.fault.NvmFault.{NvmFault}
use Rattle.seq_store.specs.Store.{store_state, numbers_of}
use Rattle.seq_store.specs.Runs.{numbers_in}
use Rattle.seq_store.specs.declared.fault.StoreFault.{StoreFault}
use Rattle.node_core.specs.declared.config.Config.{Config}
use Rattle.node_core.specs.declared.node.Node.{Node}
use Rattle.node_core.specs.declared.fault.SendFault.{SendFault}
use Rattle.node_core.specs.declared.fault.SendFault.TheVariants as fault
use Rattle.node_core.specs.declared.fault.StartRefused.{StartRefused}
use Rattle.node_core.specs.declared.outcome.Outcome.{Outcome}
use Rattle.node_core.specs.declared.outcome.Outcome.TheVariants as outcome
use Rattle.node_core.specs.Standing.{ConfigState, Standing, started}
use Rattle.node_core.specs.Transition.{Transition}

pub record NodeState (M : Type 0) : Type 0 where
  pub memory : M
  pub config : ConfigState
  -- while it is running
  pub standing : Standing
  -- no call of the memory has failed
  pub running : Bool

abbrev pub config_state : Config → ConfigState
config_state c = record { address = c.address; rows = c.tables; objects = c.objects.rows; lanes = c.lanes }

abbrev pub node_state : {M : Type 0} {g : _} → Node M g → NodeState M
node_state n =
    let store = store_state n.store in
    record {
      memory = store.memory;
      config = config_state n.config;
      standing = record {
        numbers = numbers_of store;
        next = store.next;
        pending = n.pending;
        values = n.config.objects.values;
      };
      running = store.sound;
    }

-- ---- calls

-- the fault of the memory that stopped a call, if one did
abbrev pub send_stop : Result ℕ SendFault → Option NvmFault
send_stop (Err (fault.Memory stopped)) = Some stopped
send_stop _ = None

abbrev pub receive_stop : Outcome → Option NvmFault
receive_stop (outcome.Stopped stopped) = Some stopped
receive_stop _ = None

-- the octets of a frame that is handed out, or those that were there
abbrev pub handed : Option (List ℕ) → List ℕ → List ℕ
handed (Some frame) before = frame
handed None before = before

-- Outcome, standing and frame are those of the transition, and the node runs on.
pub record IsDone {A M : Type 0} (t : Transition A) (result : A) (new : NodeState M)
    (out_old out_new : List ℕ) : Type 0 where
  pub outcome_is : result ≡ t.outcome
  pub standing_is : new.standing ≡ t.after
  pub out_is : out_new ≡ handed t.frame out_old
  pub runs : new.running ≡ true

-- There were raises to be made; values, challenge and frame are as before, and the node does not run.
pub record IsStopped {A M : Type 0} (t : Transition A) (old new : NodeState M) (out_old out_new : List ℕ) : Type 0 where
  pub was_raising : t.raises ≢ []
  pub values : new.standing.values ≡ old.standing.values
  pub pending : new.standing.pending ≡ old.standing.pending
  pub out_is : out_new ≡ out_old
  pub stands : new.running ≡ false

-- What a call does: its transition, unless the memory stops it with this fault.
pub record Does {A M : Type 0} (t : Transition A) (stop : Option NvmFault) (result : A) (old new : NodeState M)
    (out_old out_new : List ℕ) : Type 0 where
  pub done : stop ≡ None → IsDone t result new out_old out_new
  pub stopped : stop ≢ None → IsStopped t old new out_old out_new
  pub config : new.config ≡ old.config

-- ---- starts

-- a node that was started over a memory with these octets
pub record IsStarted {M : Type 0} (config : ConfigState) (octets : List ℕ) (new : NodeState M) : Type 0 where
  pub config_is : new.config ≡ config
  pub standing_is : new.standing ≡ started config (numbers_in (length config.lanes) octets)
  pub runs : new.running ≡ true

-- why a node was not started, if it was not
abbrev pub start_refusal : {N M : Type 0} → Result N (StartRefused M) → Option StoreFault
start_refusal (Ok _) = None
start_refusal (Err refused) = Some refused.fault
