use Rattle.std.specs.Prelude.{◌↔◌}
use Rattle.mm_stored_tests.proofs.stored.put_but.Given as goal

abbrev pub invariant-loop-i : goal.invariant-loop-i
invariant-loop-i g l = record { sound : g.K.Keeper.is_sound l.keeper; maps : g.K.Keeper.has_maps l.fn.keeper ↔ g.K.Keeper.has_maps l.keeper }
