use Rattle.std.proofs.Common.{length, ap}
use Rattle.std.specs.List.{filter}
use Rattle.key_tables.specs.Build.{is_key, is_role}
use Rattle.key_tables.proofs.tests.one_group_and_one_role_are_found_in_few_steps.Goals as goal

pub asked_in_few_steps-requires-clause-one_key : goal.asked_in_few_steps-requires-clause-one_key
asked_in_few_steps-requires-clause-one_key g c = ap (λ rows. length (filter is_key rows)) c.in_ok-tables.ensures.rows

pub asked_in_few_steps-requires-clause-one_role : goal.asked_in_few_steps-requires-clause-one_role
asked_in_few_steps-requires-clause-one_role g c = ap (λ rows. length (filter is_role rows)) c.in_ok-tables.ensures.rows
