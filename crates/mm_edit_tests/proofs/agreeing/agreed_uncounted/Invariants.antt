use Rattle.mm_edit_tests.proofs.agreeing.agreed_uncounted.Given as goal

abbrev pub ghosts-all_agreed : goal.ghosts-all_agreed
ghosts-all_agreed a = record { name = a.blank.name; parts = a.blank.parts }
