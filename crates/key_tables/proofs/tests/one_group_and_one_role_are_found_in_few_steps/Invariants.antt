use Rattle.key_tables.proofs.tests.one_group_and_one_role_are_found_in_few_steps.Given as goal

abbrev pub ghosts-asked_in_few_steps : goal.ghosts-asked_in_few_steps
ghosts-asked_in_few_steps g a = record { name = a.blank.name; parts = a.blank.parts }
