use Rattle.std.proofs.Common.{◌≡◌, ◌≤◌, ◌+◌, ◌++◌, None, take}
use Rattle.mm_image.specs.Ground.{Accounts, SameGround}
use Rattle.mm_image.specs.Keyed.{keyed}
use Rattle.mm_edit.specs.Inside.Counting.{AreTold, counts_held, counts_left}
use Rattle.mm_edit.specs.Plans.{AreSized}
use Rattle.mm_edit.proofs.counting.push_counts.Given as goal

-- the counts of the words so far are put, and the map is as it was
abbrev pub invariant-loop-change : goal.invariant-loop-change
invariant-loop-change g l = record {
  before : g.K.Keeper.has_maps l.fn.keeper → keyed l.before ≡ keyed l.fn.before ++ counts_held (g.K.Keeper.seen l.fn.keeper).now (take l.change-index l.words);
  after : g.K.Keeper.has_maps l.fn.keeper → keyed l.after ≡ keyed l.fn.after ++ counts_left (g.K.Keeper.seen l.fn.keeper).now (take l.change-index l.words);
  told : g.K.Keeper.has_maps l.fn.keeper → AreTold (g.K.Keeper.seen l.fn.keeper).now (take l.change-index l.words);
  sized : AreSized (keyed l.fn.after) → AreSized (keyed l.after);
  ground : SameGround g.K.Keeper.over g.K.Keeper.has_maps g.K.Keeper.tells g.K.Keeper.seen g.K.Keeper.written g.K.Keeper.changes g.K.Keeper.moment g.K.Keeper.left_since l.fn.keeper l.keeper;
  accounts : Accounts g.K.Keeper.is_sound g.K.Keeper.is_spent g.K.Keeper.fault_count g.K.Keeper.want_count l.fn.keeper l.keeper None;
  steps : l.steps ≤ l.fn.steps + l.change-index;
}
