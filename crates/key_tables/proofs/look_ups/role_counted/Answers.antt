use Rattle.key_tables.proofs.Searching.{two_searches, one_of_two}
use Rattle.key_tables.proofs.look_ups.role_counted.Goals as goal

pub returns-in-Some-clause-steps : goal.returns-in-Some-clause-steps
returns-in-Some-clause-steps g c = one_of_two _ _ _ c.in-Some.ensures.steps

pub returns-in-None-clause-steps : goal.returns-in-None-clause-steps
returns-in-None-clause-steps g c = two_searches _ _ _ _ c.in-None.ensures.steps c.common_role.ensures.steps
