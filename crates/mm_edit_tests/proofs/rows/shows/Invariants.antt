use Rattle.mm_edit_tests.proofs.rows.shows.Given as goal

abbrev pub ghosts-row : goal.ghosts-row
ghosts-row a = record { name = a.blank.name; parts = a.blank.parts }
