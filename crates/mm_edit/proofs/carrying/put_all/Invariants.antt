use Rattle.std.proofs.Common.{◌≡◌, ◌+◌, None, drop}
use Rattle.mm_image.specs.Keyed.{keyed}
use Rattle.mm_edit.specs.Carrying.{Carries}
use Rattle.mm_edit.specs.Difference.{put_all}
use Rattle.mm_edit.specs.Plans.{AreSized, HaveRoom}
use Rattle.mm_edit.proofs.carrying.put_all.Given as goal

-- so many entries are put, and what is left has room and leads where all of them do
abbrev pub invariant-loop-entry : goal.invariant-loop-entry
invariant-loop-entry g l = record {
  keeps : Carries g.K.Keeper.over g.K.Keeper.tells g.K.Keeper.has_maps g.K.Keeper.is_sound g.K.Keeper.seen g.K.Keeper.is_spent g.K.Keeper.fault_count g.K.Keeper.want_count g.K.Keeper.moment g.K.Keeper.left_since g.K.Keeper.written g.K.Keeper.changes l.entry-index l.fn.keeper l.keeper None;
  sized : AreSized (keyed (drop l.entry-index l.entries));
  room : g.K.Keeper.has_maps l.fn.keeper → HaveRoom (g.K.Keeper.seen l.keeper).now (keyed (drop l.entry-index l.entries));
  rest : g.K.Keeper.has_maps l.fn.keeper → put_all (keyed (drop l.entry-index l.entries)) (g.K.Keeper.seen l.keeper).now ≡ put_all (keyed l.entries) (g.K.Keeper.seen l.fn.keeper).now;
  steps : l.steps ≡ l.fn.steps + l.entry-index;
}
