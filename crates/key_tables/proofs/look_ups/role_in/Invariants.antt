use Rattle.key_tables.proofs.look_ups.role_in.Given as goal

abbrev pub ghosts-role_from : goal.ghosts-role_from
ghosts-role_from a = record { name = a.blank.name; parts = a.blank.parts }
