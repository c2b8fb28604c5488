-- Counts of memories, and the causes of stops. This is statement.
use Rattle.std.specs.Prelude.{◌≡◌, ℕ}
use Rattle.knx_base.specs.Faults.{Rose}
use Rattle.nvm_model.specs.Nvm.{State}
use Rattle.step_text.specs.declared.outcome.StepOutcome.{StepOutcome}
use Rattle.step_text.specs.declared.outcome.StepOutcome.TheVariants as outcome

-- how many calls of a memory failed, and how many were cut
pub record Counts : Type 0 where
  pub faults : ℕ
  pub cuts : ℕ

abbrev pub no_counts : Counts
no_counts = record { faults = 0; cuts = 0 }

abbrev pub counts_in : State → Counts
counts_in memory = record { faults = memory.faults; cuts = memory.cuts }

-- Each stop has its cause in a count of the node's memory that rose.
pub record HasStopCause (said : StepOutcome) (old new : Counts) : Type 0 where
  pub cut : said ≡ outcome.Cut → Rose old.cuts new.cuts
  pub fault : said ≡ outcome.Fault → Rose old.faults new.faults
