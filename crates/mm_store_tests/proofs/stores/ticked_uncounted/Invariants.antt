use Rattle.mm_store_tests.proofs.stores.ticked_uncounted.Given as goal

abbrev pub ghosts-ticked : goal.ghosts-ticked
ghosts-ticked a = record { name = a.blank.name; parts = a.blank.parts }
