use Rattle.mm_stored_tests.proofs.image.read_uncounted.Given as goal

abbrev pub ghosts-read_back : goal.ghosts-read_back
ghosts-read_back a = record { name = a.blank.name; parts = a.blank.parts }
