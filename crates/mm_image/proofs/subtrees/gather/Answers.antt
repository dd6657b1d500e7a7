use Rattle.std.proofs.Common.{sym, subst}
use Rattle.mm_image.specs.Facts.Grounds.{accounts_itself, ground_itself}
use Rattle.mm_image.specs.Inside.Gathered.{AreGroups}
use Rattle.mm_image.proofs.Walking.{gathering_first}
use Rattle.mm_image.proofs.subtrees.gather.Goals as goal

pub loop-init : goal.loop-init
loop-init g c = record {
  groups = subst AreGroups (sym c.new-groups.ensures) tt;
  ground = ground_itself g.K.Keeper.over g.K.Keeper.has_maps g.K.Keeper.tells g.K.Keeper.seen g.K.Keeper.written g.K.Keeper.changes g.K.Keeper.moment g.K.Keeper.left_since c.args.keeper.now;
  accounts = accounts_itself g.K.Keeper.over g.K.Keeper.has_maps g.K.Keeper.is_sound g.K.Keeper.is_spent g.K.Keeper.fault_count g.K.Keeper.want_count c.args.keeper.now c.requires.sound;
  run = λ maps. gathering_first c.args.front.now (g.K.Keeper.seen c.args.keeper.now).now c.new-groups.result c.args.steps.now c.weight-weight.result ((g.K.Keeper.seen c.args.keeper.now).place c.args.spot) c.new-groups.ensures (c.weight-weight.ensures maps) (c.requires.stands maps);
}
