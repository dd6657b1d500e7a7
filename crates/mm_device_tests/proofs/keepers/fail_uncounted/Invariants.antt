use Rattle.mm_device_tests.proofs.keepers.fail_uncounted.Given as goal

abbrev pub ghosts-fail : goal.ghosts-fail
ghosts-fail a = record { name = a.blank.name; parts = a.blank.parts }
