use Rattle.std.specs.Prelude.{◌↔◌}
use Rattle.mm_edit_tests.proofs.rows.all_reply.Given as goal

abbrev pub invariant-loop-edit : goal.invariant-loop-edit
invariant-loop-edit g l = record { sound : g.K.Keeper.is_sound l.keeper; maps : g.K.Keeper.has_maps l.fn.keeper ↔ g.K.Keeper.has_maps l.keeper }
