use Rattle.std.specs.Prelude.{◌↔◌}
use Rattle.mm_edit_tests.proofs.rows.narrow.Given as goal

abbrev pub invariant-loop-pair : goal.invariant-loop-pair
invariant-loop-pair g l = record { sound : g.K.Keeper.is_sound l.keeper; maps : g.K.Keeper.has_maps l.fn.keeper ↔ g.K.Keeper.has_maps l.keeper }
