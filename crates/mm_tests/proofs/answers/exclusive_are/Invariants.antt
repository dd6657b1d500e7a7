use Rattle.mm_tests.proofs.answers.exclusive_are.Given as goal

abbrev pub ghosts-exclusive : goal.ghosts-exclusive
ghosts-exclusive a = record { name = a.blank.name; parts = a.blank.parts }
