use Rattle.std.specs.Prelude.{option_map, None}
use Rattle.mm_image.specs.Ground.{Accounts, SameGround}
use Rattle.mm_image.specs.Inside.Gathered.{AreGroups}
use Rattle.mm_image.proofs.Walking.{Gathering}
use Rattle.mm_image.proofs.subtrees.gather.Given as goal

abbrev pub invariant-loop : goal.invariant-loop
invariant-loop g l = record {
  groups : AreGroups l.groups;
  ground : SameGround g.K.Keeper.over g.K.Keeper.has_maps g.K.Keeper.tells g.K.Keeper.seen g.K.Keeper.written g.K.Keeper.changes g.K.Keeper.moment g.K.Keeper.left_since l.fn.keeper l.keeper;
  accounts : Accounts g.K.Keeper.is_sound g.K.Keeper.is_spent g.K.Keeper.fault_count g.K.Keeper.want_count l.fn.keeper l.keeper None;
  run : g.K.Keeper.has_maps l.fn.keeper → Gathering l.front (g.K.Keeper.seen l.fn.keeper).now l.groups l.fn.steps l.steps l.weight l.counter ((g.K.Keeper.seen l.fn.keeper).place l.fn.spot) (option_map (g.K.Keeper.seen l.fn.keeper).place l.at);
}
