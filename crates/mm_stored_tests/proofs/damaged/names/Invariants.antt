use Rattle.mm_stored_tests.proofs.damaged.names.Given as goal

abbrev pub ghosts-checked : goal.ghosts-checked
ghosts-checked a = record { name = a.blank.name; parts = a.blank.parts }
