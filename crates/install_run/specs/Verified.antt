-- What a node acts on has passed every check. This is statement.
use Rattle.std.specs.Prelude.{◌≡◌, ℕ, List, Some}
use Rattle.key_tables.specs.declared.types.Lane.{Lane}
use Rattle.node_core.specs.Standing.{Standing}
use Rattle.script_text.specs.declared.event.Event.TheVariants as event
use Rattle.install_run.specs.Journals.{acted_in}
use Rattle.install_run.specs.Machine.{WorldAt, telegram_in, heard, node_in}
use Rattle.install_run.specs.Passing.{PassesChecks}
use Rattle.install_run.specs.Runs.{step_of}

-- the telegram was on the air and not lost, the node ran, and it passed every check
pub record WasVerified (w : WorldAt) (telegram node : ℕ) (acted : ℕ × Lane) : Type 0 where
  pub standing : Standing
  pub runs : (node_in w node).standing ≡ Some standing
  pub octets : List ℕ
  pub hears : heard (telegram_in w.air telegram) ≡ Some octets
  pub verified : PassesChecks (node_in w node).config standing octets acted.0 acted.1

-- Each telegram that a node acts on passed every check.
abbrev pub ActsOnVerified : WorldAt → Type 0
ActsOnVerified w =
    (telegram node : ℕ) (acted : ℕ × Lane) → acted_in (step_of (event.Deliver telegram node) w).outcome ≡ Some acted
    → WasVerified w telegram node acted
