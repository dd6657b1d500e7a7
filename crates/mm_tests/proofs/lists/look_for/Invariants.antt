use Rattle.mm_tests.proofs.lists.look_for.Given as goal

abbrev pub ghosts-look : goal.ghosts-look
ghosts-look a = record { name = a.blank.name; parts = a.blank.parts }
