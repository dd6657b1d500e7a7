use Rattle.mm_stored_tests.proofs.answers.stored_are.Given as goal

abbrev pub ghosts-stored_answers : goal.ghosts-stored_answers
ghosts-stored_answers a = record { name = a.blank.name; parts = a.blank.parts }
