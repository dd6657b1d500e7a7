use Rattle.mm_stored_tests.proofs.fragments.found.Given as goal

abbrev pub ghosts-gathered : goal.ghosts-gathered
ghosts-gathered a = record { name = a.blank.name; parts = a.blank.parts }
