use Rattle.mm_edit_tests.proofs.agreeing.has_only.Given as goal

abbrev pub invariant-loop-entry : goal.invariant-loop-entry
invariant-loop-entry g l = record { sound : g.K.Keeper.is_sound l.keeper; maps : g.K.Keeper.has_maps l.keeper }
