use Rattle.mm_store_tests.proofs.stores.asked_uncounted.Given as goal

abbrev pub ghosts-asked : goal.ghosts-asked
ghosts-asked a = record { name = a.blank.name; parts = a.blank.parts }
