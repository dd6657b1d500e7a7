use Rattle.mm_rows.proofs.case.run_within.Given as goal

abbrev pub ghosts-within_counted : goal.ghosts-within_counted
ghosts-within_counted a = record { name = a.blank.name; parts = a.blank.parts }
