use Rattle.mm_device_tests.proofs.keepers.left_uncounted.Given as goal

abbrev pub ghosts-left : goal.ghosts-left
ghosts-left a = record { name = a.blank.name; parts = a.blank.parts }
