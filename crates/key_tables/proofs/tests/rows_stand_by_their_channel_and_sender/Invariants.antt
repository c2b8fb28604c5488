use Rattle.key_tables.proofs.tests.rows_stand_by_their_channel_and_sender.Given as goal

abbrev pub ghosts-standing : goal.ghosts-standing
ghosts-standing g a = record { name = a.blank.name; parts = a.blank.parts }
