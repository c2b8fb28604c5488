-- Statement: the memory that fails at a chosen call.
use Rattle.std.specs.Prelude.{◌≡◌, ℕ, ◌-◌, true, List, None}
use Rattle.nvm_model.specs.Nvm.{State}
use Rattle.nvm_model.specs.LastWrite.{IsSinceLast}
use Rattle.nvm_model.specs.declared.trial.FailingNvm.{FailingNvm}

-- what a failing memory shows: it tells no plan, and its power is always on
abbrev pub failing_state : FailingNvm → State
failing_state m = record {
  octets = m.octets.items;
  powered = true;
  clock = m.clock;
  faults = m.faults;
  cuts = 0;
  plan = None;
}

-- which call from now on fails; 0 is none
abbrev pub failing_call : FailingNvm → ℕ
failing_call m = m.call

-- the octet that a write which fails leaves in its range
abbrev pub failing_torn : FailingNvm → ℕ
failing_torn m = m.torn

-- A cut may fall inside its last write, whatever that was answered.
abbrev pub failing_images : FailingNvm → ℕ → List ℕ → Type 0
failing_images m t image = IsSinceLast t m.clock m.last_at m.last_len m.octets.items image

-- one call nearer to the one that fails
pub record CountsCall (old new : FailingNvm) : Type 0 where
  pub call : failing_call new ≡ failing_call old - 1
  pub torn : failing_torn new ≡ failing_torn old
