use Rattle.std.proofs.Common.{None, arith}
use Rattle.mm_image.specs.Facts.Grounds.{accounts_along, accounts_itself, ground_along, ground_itself}
use Rattle.mm_check.proofs.Walking.{left_next, none_weighs, reached_next, stands_next, weight_next, weight_within}
use Rattle.mm_check.proofs.chunks.run.Goals as goal

pub loop-init : goal.loop-init
loop-init g c = record {
  ground = ground_itself g.K.Keeper.over g.K.Keeper.has_maps g.K.Keeper.tells g.K.Keeper.seen g.K.Keeper.written g.K.Keeper.changes g.K.Keeper.moment g.K.Keeper.left_since c.args.keeper.now;
  accounts = accounts_itself g.K.Keeper.over g.K.Keeper.has_maps g.K.Keeper.is_sound g.K.Keeper.is_spent g.K.Keeper.fault_count g.K.Keeper.want_count c.args.keeper.now c.requires.sound;
  reached = λ maps a. a;
  stands = c.requires.stands;
  left = λ maps. omega arith;
  weight = λ maps. let w = weight_within (g.K.Keeper.seen c.args.keeper.now) c.args.first c.weight-weight.result (c.weight-weight.ensures maps) in omega (arith, w);
  nodes = omega (arith, c.requires.none);
}

pub loop-preserved : goal.loop-preserved
loop-preserved g c =
    let x = g.K.Keeper.seen c.args.keeper.now in
    let y = g.K.Keeper.seen c.loop.keeper in
    let old = c.loop.invariant in
    let has = old.ground.maps.0 in
    record {
      ground = ground_along g.K.Keeper.over g.K.Keeper.has_maps g.K.Keeper.tells g.K.Keeper.seen g.K.Keeper.written g.K.Keeper.changes g.K.Keeper.moment g.K.Keeper.left_since c.args.keeper.now c.loop.keeper c.pass.new.keeper
          g.met.K.Keeper.counts_now old.ground c.pass.ensures.ground;
      accounts = accounts_along g.K.Keeper.over g.K.Keeper.has_maps g.K.Keeper.is_sound g.K.Keeper.is_spent g.K.Keeper.fault_count g.K.Keeper.want_count c.args.keeper.now c.loop.keeper c.pass.new.keeper None
          old.accounts c.in_ok-next.ensures.accounts;
      reached = λ maps a. reached_next x y (old.ground.same maps) c.loop.at c.in-Some.spot c.in-Some.is c.in_ok-next.field-0 c.in-Some-2.next c.in-Some-2.is c.loop.reader c.pass.new.reader (old.reached maps a) (c.in_ok-next.ensures.passes (has maps));
      stands = λ maps. stands_next x y (old.ground.same maps) c.loop.at c.in-Some.spot c.in-Some.is c.in_ok-next.field-0 c.in-Some-2.next c.in-Some-2.is (c.in_ok-next.ensures.stands (has maps));
      left = λ maps. left_next x y (old.ground.same maps) c.loop.at c.in-Some.spot c.in-Some.is c.in_ok-next.field-0 c.in-Some-2.next c.in-Some-2.is c.args.steps.now c.loop.steps c.pass.new.steps _ (c.in_ok-next.ensures.weighs (has maps)) (old.left maps) c.pass.ensures.step;
      weight = λ maps. weight_next x y (old.ground.same maps) c.loop.at c.in-Some.spot c.in-Some.is c.in_ok-next.field-0 c.in-Some-2.next c.in-Some-2.is c.loop.counter c.weight-weight.result (c.in_ok-next.ensures.weighs (has maps)) (old.weight maps);
      nodes = omega (arith, c.pass.ensures.nodes, old.nodes);
    }

pub returns-clause-runs : goal.returns-clause-runs
returns-clause-runs g c = λ maps reached.
    (c.loop.invariant.reached maps reached, none_weighs (g.K.Keeper.seen c.args.keeper.now) c.loop.at c.loop.counter c.weight-weight.result (c.loop.invariant.weight maps) c.loop-test.false)
