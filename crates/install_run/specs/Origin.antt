-- Where a world comes from: the script that it began with, and the events that it took. This is statement, and what
-- follows under 'parts' is plumbing for proofs.
use Rattle.std.specs.Prelude.{◌≡◌, ℕ, List, [], ◌∷◌, length, map, false, Some, None}
use Rattle.std.specs.List.{list_any, All, AllPairs}
use Rattle.key_tables.specs.declared.types.Row.{Row}
use Rattle.key_tables.specs.Build.{build_fault}
use Rattle.key_tables.specs.Lanes.{is_any}
use Rattle.script_text.specs.declared.event.Event.{Event}
use Rattle.script_text.specs.declared.node_row.NodeRow.{NodeRow}
use Rattle.script_text.specs.Script.{IsEvent, IsNode, AreTwoNodes}
use Rattle.step_text.specs.declared.outcome.Step.{Step}
use Rattle.install_run.specs.First.{first_world}
use Rattle.install_run.specs.Holding.{IsHeld}
use Rattle.install_run.specs.Machine.{TelegramAt, WorldAt, node_in}
use Rattle.install_run.specs.Place.{PlaceAt, world_in}
use Rattle.install_run.specs.Runs.{place_of, after, world_after, history_of}
use Rattle.install_run.specs.World.{IsWorld}

-- rows and nodes of a script
pub record IsInstallation (rows : List Row) (nodes : List NodeRow) : Type 0 where
  pub named : list_any is_any rows ≡ false
  pub stand : build_fault rows ≡ None
  pub nodes_stand : All (IsNode rows) nodes
  pub nodes_once : AllPairs AreTwoNodes nodes

abbrev pub event_in : Step → Event
event_in step = step.event

-- the events of a history
abbrev pub events_of : List Step → List Event
events_of history = map event_in history

-- The rows and the nodes are those of a script, and world and history are what the events of the history make of them.
pub record IsRunOf (rows : List Row) (nodes : List NodeRow) (w : WorldAt) (history : List Step) : Type 0 where
  pub installation : IsInstallation rows nodes
  pub world_is : w ≡ world_after (events_of history) (first_world rows nodes)
  pub history_is : history ≡ history_of (events_of history) (first_world rows nodes)

-- ---- parts

-- The memory of the node of an event holds its numbers afterwards.
abbrev pub HoldsAfter : Event → WorldAt → Type 0
HoldsAfter e w = (place : ℕ) → place_of e ≡ Some place → IsHeld e w.air (node_in w place) (node_in (after e w) place)

-- So it is at each of these events.
abbrev pub AreHeld : List Event → WorldAt → Type 0
AreHeld [] w = Unit {0}
AreHeld (e ∷ events) w = HoldsAfter e w × AreHeld events (after e w)

-- what holds of the parts of each world
pub record IsRun (rows : List Row) (nodes : List NodeRow) (places : List PlaceAt) (air : List TelegramAt)
    (history : List Step) : Type 0 where
  pub world : IsWorld places air history
  pub size : length places ≡ length nodes
  pub run : IsRunOf rows nodes (world_in places air) history
  pub held : AreHeld (events_of history) (first_world rows nodes)
  pub ranges : All (IsEvent (length nodes)) (events_of history)
