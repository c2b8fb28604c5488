-- What the place of a node shows. This is statement.
use Rattle.std.specs.Prelude.{◌≡◌, ℕ, List, [], length, Bool, true, false, Option, Some, None, unwrap_or}
use Rattle.nvm_model.specs.Nvm.{State}
use Rattle.nvm_model.specs.Plan.{unarmed}
use Rattle.nvm_model.specs.SimNvm.{sim_state}
use Rattle.nvm_model.specs.declared.sim.SimNvm.{SimNvm}
use Rattle.seq_store.specs.Runs.{RestoresNumbers, numbers_in}
use Rattle.node_core.specs.Standing.{ConfigState, Standing}
use Rattle.node_core.specs.Node.{NodeState, config_state, node_state, handed}
use Rattle.step_text.specs.declared.outcome.StepOutcome.{StepOutcome}
use Rattle.install_run.specs.declared.slot.Slot.{Slot}
use Rattle.install_run.specs.declared.slot.Slot.TheVariants.{Started, Stopped, Empty}
use Rattle.install_run.specs.Counts.{Counts, no_counts, counts_in}
use Rattle.install_run.specs.Turn.{NodeAt, Turn}
use Rattle.install_run.specs.Machine.{no_node}

abbrev pub standing_of : Bool → Standing → Option Standing
standing_of true s = Some s
standing_of false s = None

abbrev pub node_at : ConfigState → Option Standing → State → NodeAt
node_at config standing memory = record {
  config = config;
  standing = standing;
  octets = memory.octets;
  plan = unwrap_or memory.plan unarmed;
  powered = memory.powered;
}

abbrev pub at_node_state : NodeState SimNvm → NodeAt
at_node_state n = node_at n.config (standing_of n.running n.standing) (sim_state n.memory)

-- a node that was started, or the configuration and the memory of one that was switched off
abbrev pub slot_at : Slot → NodeAt
slot_at (Started node) = at_node_state (node_state node)
slot_at (Stopped config memory) = node_at (config_state config) None (sim_state memory)
slot_at Empty = no_node

-- ---- counts

abbrev pub counts_at : Slot → Counts
counts_at (Started node) = counts_in (sim_state (node_state node).memory)
counts_at (Stopped config memory) = counts_in (sim_state memory)
counts_at Empty = no_counts

-- the memory as it was, and so are its power, what is armed and its counts
pub record IsSameMemory (old new : State) : Type 0 where
  pub octets : new.octets ≡ old.octets
  pub powered : new.powered ≡ old.powered
  pub plan : new.plan ≡ old.plan
  pub counts : counts_in new ≡ counts_in old

-- ---- turns

-- The turn was taken: this came of it, and the octets that it put on the air are handed out.
pub record IsTaken (turn : Turn) (said : StepOutcome) (new : NodeAt) (out : List ℕ) : Type 0 where
  pub outcome_is : said ≡ turn.outcome
  pub node_is : new ≡ turn.node
  pub out_is : out ≡ handed turn.sent []

-- the memory restores the numbers of each lane
abbrev pub IsSound : NodeAt → Type 0
IsSound n = RestoresNumbers (numbers_in (length n.config.lanes) n.octets) n.octets
