use Rattle.std.proofs.Common.{arith, subst}
use Rattle.mm_elca.specs.Inside.Stack.{Takes}
use Rattle.mm_elca.proofs.Stacking.{parted_taken, snoc_length}
use Rattle.mm_elca.proofs.stack.take_below.Goals as goal

pub loop-under-preserved : goal.loop-under-preserved
loop-under-preserved c =
    let k = subst (Takes c.args.x.now c.loop-under.stack c.take_one.new.stack) c.in-Some.is c.in_ok-t.ensures in
    record {
      parted = λ g. parted_taken c.args.x.now c.in-Some.t c.args.stack.now c.loop-under.stack c.take_one.new.stack c.loop-under.under c.push.new.self (c.loop-under.invariant.parted g) k c.in_ok-push.ensures.ok;
      count = omega (arith, snoc_length _ _ _ k.0, snoc_length _ _ _ c.in_ok-push.ensures.ok, c.loop-under.invariant.count);
    }
