-- What the memory of a node holds of its numbers after an event. This is plumbing for proofs.
use Rattle.std.specs.Prelude.{◌≡◌, ℕ, ◌^◌, ◌≤◌, List, [], length, Option, Some, None}
use Rattle.seq_store.specs.Runs.{Raise, RestoresNumbers, RestoresSome}
use Rattle.node_core.specs.Receiving.{receive_transition}
use Rattle.node_core.specs.Sending.{send_transition, tool_transition, ask_transition}
use Rattle.node_core.specs.Standing.{ConfigState, Standing}
use Rattle.script_text.specs.declared.event.Event.{Event}
use Rattle.script_text.specs.declared.event.Event.TheVariants as event
use Rattle.install_run.specs.Machine.{TelegramAt, telegram_in, heard}
use Rattle.install_run.specs.Slot.{IsSound}
use Rattle.install_run.specs.Turn.{NodeAt}

-- A node that runs with this standing: its memory restores its numbers, there is a mark for each lane and a value for
-- each object, and the next number is at most one more than the last of 48 bits.
pub record Stands (s : Standing) (n : NodeAt) : Type 0 where
  pub restores : RestoresNumbers s.numbers n.octets
  pub each_lane : length s.numbers.marks ≡ length n.config.lanes
  pub next_fits : s.next ≤ 2 ^ 48
  pub each_value : length s.values ≡ length n.config.objects

-- the raises for what a node hears, if it hears something
abbrev pub heard_raises : ConfigState → Standing → Option (List ℕ) → List Raise
heard_raises c s None = []
heard_raises c s (Some octets) = (receive_transition c s octets).raises

-- the raises of an event at a node that runs, while these telegrams are on the air
abbrev pub raises_of : Event → List TelegramAt → ConfigState → Standing → List Raise
raises_of (event.Set node object value) air c s = []
raises_of (event.Send node object service) air c s = (send_transition c s object service).raises
raises_of (event.ToolSend node to apdu) air c s = (tool_transition c s to apdu).raises
raises_of (event.Ask node to challenge) air c s = (ask_transition c s to challenge).raises
raises_of (event.Deliver telegram node) air c s = heard_raises c s (heard (telegram_in air telegram))
raises_of (event.Lose telegram) air c s = []
raises_of (event.Inject octets) air c s = []
raises_of (event.Off node) air c s = []
raises_of (event.On node) air c s = []
raises_of (event.Cut node write torn) air c s = []
raises_of (event.Fault node write torn) air c s = []

-- The memory of a node that ran restores the numbers that some of these raises leave, in their order.
pub record RestoresRaised (raises : ConfigState → Standing → List Raise) (old new : NodeAt) : Type 0 where
  pub some : (s : Standing) → old.standing ≡ Some s → RestoresSome (raises old.config s) s.numbers new.octets

-- The memory of the node of an event afterwards.
pub record IsHeld (e : Event) (air : List TelegramAt) (old new : NodeAt) : Type 0 where
  pub sound : IsSound new
  pub stands : (s : Standing) → new.standing ≡ Some s → Stands s new
  pub raised : RestoresRaised (raises_of e air) old new
