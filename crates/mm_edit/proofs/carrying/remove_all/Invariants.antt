use Rattle.std.proofs.Common.{◌≡◌, ◌+◌, None, drop}
use Rattle.mm_edit.specs.Carrying.{Carries}
use Rattle.mm_edit.specs.Difference.{without_all}
use Rattle.mm_edit.proofs.carrying.remove_all.Given as goal

-- so many keys are removed, and what is left leads where all of them do
abbrev pub invariant-loop-key : goal.invariant-loop-key
invariant-loop-key g l = record {
  keeps : Carries g.K.Keeper.over g.K.Keeper.tells g.K.Keeper.has_maps g.K.Keeper.is_sound g.K.Keeper.seen g.K.Keeper.is_spent g.K.Keeper.fault_count g.K.Keeper.want_count g.K.Keeper.moment g.K.Keeper.left_since g.K.Keeper.written g.K.Keeper.changes l.key-index l.fn.keeper l.keeper None;
  rest : g.K.Keeper.has_maps l.fn.keeper → without_all (drop l.key-index l.keys) (g.K.Keeper.seen l.keeper).now ≡ without_all l.keys (g.K.Keeper.seen l.fn.keeper).now;
  steps : l.steps ≡ l.fn.steps + l.key-index;
}
