-- Statement: what an event makes of an installation: its nodes with their memories, and the telegrams on the air.
use Rattle.std.specs.Prelude.{ℕ, zero, suc, ◌+◌, ◌-◌, List, [], ◌∷◌, ◌++◌, length, set, slice_get, get_or, Bool, true, false, Option, Some, None, if◌then◌else◌}
use Rattle.nvm_model.specs.Plan.{unarmed}
use Rattle.nvm_model.specs.SimNvm.{with_cut, with_fault}
use Rattle.node_core.specs.Node.{handed}
use Rattle.node_core.specs.Standing.{ConfigState}
use Rattle.node_core.specs.Sending.{send_transition, tool_transition, ask_transition, set_transition}
use Rattle.script_text.specs.declared.event.Event.{Event}
use Rattle.script_text.specs.declared.event.Event.TheVariants as event
use Rattle.step_text.specs.declared.outcome.StepOutcome.{StepOutcome}
use Rattle.step_text.specs.declared.outcome.StepOutcome.TheVariants as outcome
use Rattle.install_run.specs.Turn.{NodeAt, Turn, call_turn, set_told, send_told, receive_turn, off_turn, on_turn, arm_turn}

-- the octets of a telegram that was put on the air, and whether it is lost
pub record TelegramAt : Type 0 where
  pub octets : List ℕ
  pub is_lost : Bool

-- The telegrams have the numbers from 1 on, in the order in which they were put on the air.
pub record WorldAt : Type 0 where
  pub nodes : List NodeAt
  pub air : List TelegramAt

-- what comes of an event, and what the installation is then
pub record WorldTurn : Type 0 where
  pub outcome : StepOutcome
  pub world : WorldAt

-- ---- the air

abbrev pub put_on_air : List ℕ → TelegramAt
put_on_air octets = record { octets = octets; is_lost = false }

abbrev pub telegram_in : List TelegramAt → ℕ → Option TelegramAt
telegram_in air zero = None
telegram_in air (suc place) = slice_get air place

-- the octets of a telegram that is there and not lost
abbrev pub heard : Option TelegramAt → Option (List ℕ)
heard None = None
heard (Some t) = if t.is_lost then None else Some t.octets

abbrev pub is_lost : Option TelegramAt → Bool
is_lost None = false
is_lost (Some t) = t.is_lost

abbrev pub is_lost_in : List TelegramAt → ℕ → Bool
is_lost_in air number = is_lost (telegram_in air number)

abbrev pub lost_in : List TelegramAt → ℕ → Option TelegramAt → List TelegramAt
lost_in air number None = air
lost_in air number (Some t) = set air (number - 1) (record t { is_lost = true })

abbrev pub lose_outcome : Option (List ℕ) → StepOutcome
lose_outcome None = outcome.Gone
lose_outcome (Some octets) = outcome.Lost

-- a telegram is lost from now on
abbrev pub lose_turn : ℕ → WorldAt → WorldTurn
lose_turn number w =
    let t = telegram_in w.air number in
    record { outcome = lose_outcome (heard t); world = record w { air = lost_in w.air number t } }

-- someone who is no node puts octets on the air
abbrev pub inject_turn : List ℕ → WorldAt → WorldTurn
inject_turn octets w = record {
  outcome = outcome.Air (length w.air + 1) None;
  world = record w { air = w.air ++ put_on_air octets ∷ [] };
}

-- ---- an event of a node

abbrev pub no_config : ConfigState
no_config = record { address = record { 0 = 0 }; rows = []; objects = []; lanes = [] }

abbrev pub no_node : NodeAt
no_node = record { config = no_config; standing = None; octets = []; plan = unarmed; powered = false }

abbrev pub node_in : WorldAt → ℕ → NodeAt
node_in w place = get_or w.nodes place no_node

-- a telegram that a node sealed was put on the air
abbrev pub has_telegram : StepOutcome → Bool
has_telegram (outcome.Air telegram number) = true
has_telegram (outcome.Acted number lane act (Some telegram)) = true
has_telegram (outcome.Answered challenge (Some telegram)) = true
has_telegram _ = false

abbrev pub telegrams_of : Bool → List ℕ → List TelegramAt
telegrams_of true octets = put_on_air octets ∷ []
telegrams_of false octets = []

abbrev pub with_turn : ℕ → Turn → WorldAt → WorldTurn
with_turn place turn w = record {
  outcome = turn.outcome;
  world = record {
    nodes = set w.nodes place turn.node;
    air = w.air ++ telegrams_of (has_telegram turn.outcome) (handed turn.sent []);
  };
}

-- what comes of an event of the node at this place
abbrev pub at_node : ℕ → (NodeAt → Turn) → WorldAt → WorldTurn
at_node place turn w = with_turn place (turn (node_in w place)) w

-- ---- all events

abbrev pub turn_of : Event → WorldAt → WorldTurn
turn_of (event.Set node object value) w =
    at_node node (λ n. call_turn (λ s. set_transition s object value) set_told n n.standing) w
turn_of (event.Send node object service) w =
    at_node node (λ n. call_turn (λ s. send_transition n.config s object service) (send_told (length w.air)) n
    n.standing) w
turn_of (event.ToolSend node to apdu) w =
    at_node node (λ n. call_turn (λ s. tool_transition n.config s to apdu) (send_told (length w.air)) n n.standing) w
turn_of (event.Ask node to challenge) w =
    at_node node (λ n. call_turn (λ s. ask_transition n.config s to challenge) (send_told (length w.air)) n n.standing)
    w
turn_of (event.Deliver telegram node) w =
    at_node node (λ n. receive_turn (length w.air) (heard (telegram_in w.air telegram)) n n.standing) w
turn_of (event.Lose telegram) w = lose_turn telegram w
turn_of (event.Inject octets) w = inject_turn octets w
turn_of (event.Off node) w = at_node node (λ n. off_turn n n.standing) w
turn_of (event.On node) w = at_node node (λ n. on_turn n n.standing) w
turn_of (event.Cut node write torn) w = at_node node (arm_turn (with_cut write torn)) w
turn_of (event.Fault node write torn) w = at_node node (arm_turn (with_fault write torn)) w
