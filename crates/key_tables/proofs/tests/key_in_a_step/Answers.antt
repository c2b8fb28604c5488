use Rattle.key_tables.proofs.FewSteps.{one_row}
use Rattle.key_tables.proofs.tests.key_in_a_step.Goals as goal

pub returns : goal.returns
returns g c = one_row 1 _ _ _ c.requires c.key_counted.ensures.steps
