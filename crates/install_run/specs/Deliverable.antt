-- A telegram that comes to a node and passes every check is acted on. This is statement.
use Rattle.std.specs.Prelude.{◌≡◌, ◌⊎◌, ℕ, List, [], ◌∷◌, length, Option, Some}
use Rattle.key_tables.specs.declared.types.Lane.{Lane}
use Rattle.node_core.specs.declared.outcome.Act.{Act}
use Rattle.node_core.specs.Standing.{Standing}
use Rattle.script_text.specs.declared.event.Event.TheVariants as event
use Rattle.step_text.specs.declared.outcome.Entry.TheVariants as entry
use Rattle.step_text.specs.declared.outcome.StepOutcome.{StepOutcome}
use Rattle.step_text.specs.declared.outcome.StepOutcome.TheVariants as outcome
use Rattle.install_run.specs.Machine.{WorldAt, telegram_in, heard, node_in}
use Rattle.install_run.specs.Passing.{PassesChecks}
use Rattle.install_run.specs.Runs.{entries_of, step_of}
use Rattle.install_run.specs.Turn.{NodeAt}

-- The node has a value for each of its objects, where it runs.
pub record HasValues (n : NodeAt) : Type 0 where
  pub each_object : (s : Standing) → n.standing ≡ Some s → length s.values ≡ length n.config.objects

-- It is acted on, and is the entry of its step.
pub record IsActedOn (telegram node number : ℕ) (lane : Lane) (said : StepOutcome) : Type 0 where
  pub act : Act
  pub reply : Option ℕ
  pub said_is : said ≡ outcome.Acted number lane act reply
  pub entry_is : entries_of (event.Deliver telegram node) said ≡ entry.Telegram telegram number lane act ∷ []

-- A telegram that is on the air and not lost, and passes every check, is acted on where it comes to this node and the
-- node runs, unless a cut or a fault stops the node in that step.
abbrev pub ActsOnDeliverable : WorldAt → ℕ → Type 0
ActsOnDeliverable w node =
    (telegram : ℕ) (s : Standing) (octets : List ℕ) (number : ℕ) (lane : Lane)
    → (node_in w node).standing ≡ Some s → heard (telegram_in w.air telegram) ≡ Some octets
    → PassesChecks (node_in w node).config s octets number lane
    → (let said = (step_of (event.Deliver telegram node) w).outcome in
    IsActedOn telegram node number lane said ⊎ ((said ≡ outcome.Cut) ⊎ (said ≡ outcome.Fault)))
