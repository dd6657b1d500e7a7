use Rattle.mm_tests.proofs.lists.begins.Given as goal

abbrev pub ghosts-begin : goal.ghosts-begin
ghosts-begin a = record { name = a.blank.name; parts = a.blank.parts }
