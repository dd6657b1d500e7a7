use Rattle.mm_tests.proofs.answers.smallest_are.Given as goal

abbrev pub ghosts-smallest : goal.ghosts-smallest
ghosts-smallest a = record { name = a.blank.name; parts = a.blank.parts }
