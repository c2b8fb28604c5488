-- What the place of a node makes of an event of that node, in the words of the whole installation. This is statement.
use Rattle.std.specs.Prelude.{◌≡◌, ℕ, List, ◌++◌, set, Some}
use Rattle.script_text.specs.declared.event.Event.{Event}
use Rattle.script_text.specs.Script.{IsEvent}
use Rattle.step_text.specs.declared.outcome.StepOutcome.{StepOutcome}
use Rattle.install_run.specs.Turn.{NodeAt}
use Rattle.install_run.specs.Machine.{TelegramAt, WorldAt, WorldTurn, has_telegram, telegrams_of, node_in, turn_of}
use Rattle.install_run.specs.Runs.{place_of}

-- an event among some number of nodes
pub record IsSomeEvent (e : Event) : Type 0 where
  pub nodes : ℕ
  pub is_event : IsEvent nodes e

-- The turn was taken by the node at this place, which is this one then, and these octets were handed out.
pub record IsTakenIn (t : WorldTurn) (w : WorldAt) (place : ℕ) (said : StepOutcome) (new : NodeAt)
    (out : List ℕ) : Type 0 where
  pub outcome_is : said ≡ t.outcome
  pub nodes_are : t.world.nodes ≡ set w.nodes place new
  pub air_is : t.world.air ≡ w.air ++ telegrams_of (has_telegram said) out

-- So it is in each world with these telegrams on the air in which the node was the old one.
pub record IsTakenBy (e : Event) (air : List TelegramAt) (old : NodeAt) (said : StepOutcome) (new : NodeAt)
    (out : List ℕ) : Type 0 where
  pub in_each : (w : WorldAt) (place : ℕ) → place_of e ≡ Some place → node_in w place ≡ old → w.air ≡ air
      → IsTakenIn (turn_of e w) w place said new out

-- The turn changed no node: this came of it, and the telegrams are these then.
pub record IsTurnedOnAir (t : WorldTurn) (nodes : List NodeAt) (said : StepOutcome)
    (air : List TelegramAt) : Type 0 where
  pub outcome_is : said ≡ t.outcome
  pub nodes_are : t.world.nodes ≡ nodes
  pub air_is : t.world.air ≡ air
