use Rattle.mm_edit_tests.proofs.agreeing.drawn_uncounted.Given as goal

abbrev pub ghosts-drawn_agreed : goal.ghosts-drawn_agreed
ghosts-drawn_agreed a = record { name = a.blank.name; parts = a.blank.parts }
