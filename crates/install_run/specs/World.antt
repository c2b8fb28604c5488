-- What a world shows. This is statement.
use Rattle.std.specs.Prelude.{◌≡◌, ℕ, ◌≤◌, List, [], ◌∷◌, ◌++◌, length, map, get_or, Some}
use Rattle.key_tables.specs.declared.types.Row.{Row}
use Rattle.script_text.specs.declared.event.Event.{Event}
use Rattle.script_text.specs.declared.node_row.NodeRow.{NodeRow}
use Rattle.step_text.specs.declared.outcome.Step.{Step}
use Rattle.step_text.specs.declared.outcome.StepOutcome.{StepOutcome}
use Rattle.install_run.specs.Machine.{TelegramAt, WorldAt}
use Rattle.install_run.specs.Runs.{place_of, after, step_of, world_after, history_of}
use Rattle.install_run.specs.Counts.{Counts, no_counts, HasStopCause}
use Rattle.install_run.specs.Place.{PlaceAt, world_in, counts_of, HasJournals}

-- The rows and the nodes of the script never change.
pub record WorldState : Type 0 where
  pub rows : List Row
  pub nodes : List NodeRow
  pub world : WorldAt
  pub counts : List Counts
  pub history : List Step

abbrev pub world_state : List Row → List NodeRow → List PlaceAt → List TelegramAt → List Step → WorldState
world_state rows nodes places air history = record {
  rows = rows;
  nodes = nodes;
  world = world_in places air;
  counts = map counts_of places;
  history = history;
}

abbrev pub counts_at : List Counts → ℕ → Counts
counts_at counts place = get_or counts place no_counts

-- Cut and Fault come only where the node's memory counted one in the step.
abbrev pub HasCause : Event → StepOutcome → List Counts → List Counts → Type 0
HasCause e said old new =
    (place : ℕ) → place_of e ≡ Some place → HasStopCause said (counts_at old place) (counts_at new place)

pub record IsWorld (places : List PlaceAt) (air : List TelegramAt) (history : List Step) : Type 0 where
  pub journals : HasJournals places history
  -- a step puts at most one telegram on the air
  pub few : length air ≤ length history

-- The event was taken, and what came of it is noted behind the steps before.
pub record IsStepped (e : Event) (old new : WorldState) : Type 0 where
  pub after_is : new.world ≡ after e old.world
  pub noted : new.history ≡ old.history ++ step_of e old.world ∷ []
  pub cause : HasCause e (step_of e old.world).outcome old.counts new.counts

-- The events were taken in turn.
pub record HasRun (events : List Event) (old new : WorldState) : Type 0 where
  pub after_is : new.world ≡ world_after events old.world
  pub noted : new.history ≡ old.history ++ history_of events old.world

-- The rows and the nodes of the script are as before, and there are as many nodes.
pub record KeepsScript (old new : WorldState) : Type 0 where
  pub rows : new.rows ≡ old.rows
  pub nodes : new.nodes ≡ old.nodes
  pub size : length new.world.nodes ≡ length old.world.nodes
