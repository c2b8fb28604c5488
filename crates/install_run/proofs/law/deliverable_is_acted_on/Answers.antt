use Rattle.install_run.proofs.Delivering.{acts_on_deliverable}
use Rattle.install_run.proofs.law.deliverable_is_acted_on.Goals as goal

pub returns : goal.returns
returns c = record { acts = acts_on_deliverable }
