use Rattle.std.proofs.Common.{◌≡◌, ◌≤◌, ◌+◌, None, take}
use Rattle.mm_image.specs.Ground.{Accounts, HoldsImage, SameGround}
use Rattle.mm_tree.specs.Hits.{hits_of}
use Rattle.mm_tree.specs.Numbering.{Labelled}
use Rattle.mm_tree.specs.Trees.{Trees}
use Rattle.mm_store.specs.Inside.Told.{AreNodes}
use Rattle.mm_store.proofs.hits.hits_of.Given as goal

-- the labels so far have their names, and the map is as it was
abbrev pub invariant-loop-label : goal.invariant-loop-label
invariant-loop-label g l = record {
  value : (f : Trees Labelled) → HoldsImage g.K.Keeper.has_maps g.K.Keeper.seen l.fn.keeper f → AreNodes f l.labels → l.hits ≡ hits_of f (take l.label-index l.labels);
  ground : SameGround g.K.Keeper.over g.K.Keeper.has_maps g.K.Keeper.tells g.K.Keeper.seen g.K.Keeper.written g.K.Keeper.changes g.K.Keeper.moment g.K.Keeper.left_since l.fn.keeper l.keeper;
  accounts : Accounts g.K.Keeper.is_sound g.K.Keeper.is_spent g.K.Keeper.fault_count g.K.Keeper.want_count l.fn.keeper l.keeper None;
  steps : l.steps ≤ l.fn.steps + l.label-index;
}
