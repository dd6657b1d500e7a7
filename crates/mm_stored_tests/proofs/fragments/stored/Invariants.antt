use Rattle.mm_stored_tests.proofs.fragments.stored.Given as goal

abbrev pub ghosts-stored_gathered : goal.ghosts-stored_gathered
ghosts-stored_gathered a = record { name = a.blank.name; parts = a.blank.parts }
