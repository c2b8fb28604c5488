-- What the places of nodes show. This is statement.
use Rattle.std.specs.Prelude.{◌≡◌, ℕ, ◌+◌, ◌<◌, ◌≤◌, List, [], ◌++◌, length, map, get_or, Some, if◌then◌else◌}
use Rattle.script_text.specs.declared.event.Event.{Event}
use Rattle.step_text.specs.declared.outcome.Entry.{Entry}
use Rattle.step_text.specs.declared.outcome.Step.{Step}
use Rattle.step_text.specs.declared.outcome.StepOutcome.{StepOutcome}
use Rattle.install_run.specs.Turn.{NodeAt}
use Rattle.install_run.specs.Machine.{TelegramAt, WorldAt, turn_of, no_node}
use Rattle.install_run.specs.Runs.{place_of, is_at, entries_of, journal_of}
use Rattle.install_run.specs.Counts.{Counts, no_counts, HasStopCause}
use Rattle.install_run.specs.Holding.{IsHeld}

-- a node with its memory, the counts of the memory, and the journal of the node
pub record PlaceAt : Type 0 where
  pub node : NodeAt
  pub counts : Counts
  pub journal : List Entry

abbrev pub no_place : PlaceAt
no_place = record { node = no_node; counts = no_counts; journal = [] }

abbrev pub place_in : List PlaceAt → ℕ → PlaceAt
place_in places place = get_or places place no_place

abbrev pub node_of : PlaceAt → NodeAt
node_of p = p.node

abbrev pub counts_of : PlaceAt → Counts
counts_of p = p.counts

abbrev pub world_in : List PlaceAt → List TelegramAt → WorldAt
world_in places air = record { nodes = map node_of places; air = air }

-- what a step adds to the journal of the node at this place
abbrev pub entries_at : ℕ → Event → StepOutcome → List Entry
entries_at place e said = if is_at place (place_of e) then entries_of e said else []

-- The event was taken by the places and the air.
pub record IsTurned (e : Event) (old : List PlaceAt) (air : List TelegramAt) (said : StepOutcome) (new : List PlaceAt)
    (air' : List TelegramAt) : Type 0 where
  pub outcome_is : said ≡ (turn_of e (world_in old air)).outcome
  pub world_is : world_in new air' ≡ (turn_of e (world_in old air)).world
  pub cause : (place : ℕ) → place_of e ≡ Some place → HasStopCause said (place_in old place).counts
      (place_in new place).counts
  pub held : (place : ℕ) → place_of e ≡ Some place → IsHeld e air (place_in old place).node (place_in new place).node
  pub journals : (place : ℕ) → place < length old
      → (place_in new place).journal ≡ (place_in old place).journal ++ entries_at place e said
  pub size : length new ≡ length old
  pub one_more : length air' ≤ length air + 1

-- the journal of each node is that of the history
pub record HasJournals (places : List PlaceAt) (history : List Step) : Type 0 where
  pub each : (place : ℕ) → place < length places → (place_in places place).journal ≡ journal_of place history
