use Rattle.mm_device_tests.proofs.keepers.found_uncounted.Given as goal

abbrev pub ghosts-found : goal.ghosts-found
ghosts-found a = record { name = a.blank.name; parts = a.blank.parts }
