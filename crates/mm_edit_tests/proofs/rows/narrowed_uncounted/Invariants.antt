use Rattle.mm_edit_tests.proofs.rows.narrowed_uncounted.Given as goal

abbrev pub ghosts-narrowed : goal.ghosts-narrowed
ghosts-narrowed a = record { name = a.blank.name; parts = a.blank.parts }
