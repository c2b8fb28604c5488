use Rattle.key_tables.proofs.FewSteps.{one_row}
use Rattle.key_tables.proofs.tests.role_in_two_steps.Goals as goal

pub returns : goal.returns
returns g c = one_row 2 _ _ _ c.requires c.role_counted.ensures.steps
