use Rattle.mm_edit_tests.proofs.rows.limited_uncounted.Given as goal

abbrev pub ghosts-limited : goal.ghosts-limited
ghosts-limited a = record { name = a.blank.name; parts = a.blank.parts }
