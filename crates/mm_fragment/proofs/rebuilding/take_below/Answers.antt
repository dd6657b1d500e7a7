use Rattle.std.proofs.Common.{subst}
use Rattle.mm_fragment.specs.Inside.Piling.{TakesOff}
use Rattle.mm_fragment.proofs.Piles.{taking_more, taking_ended}
use Rattle.mm_fragment.proofs.rebuilding.take_below.Goals as goal

pub loop-below-preserved : goal.loop-below-preserved
loop-below-preserved c =
    taking_more c.args.x.now c.args.stack.now c.loop-below.stack c.take_one.new.stack c.loop-below.below c.push.new.self c.in-Some.top c.loop-below.invariant
    (subst (TakesOff c.args.x.now c.loop-below.stack c.take_one.new.stack) c.in-Some.is c.in_ok-top.ensures) c.in_ok-push.ensures.ok

pub returns : goal.returns
returns c =
    taking_ended c.args.x.now c.args.stack.now c.loop-below.stack c.take_one.new.stack c.loop-below.below c.loop-below.invariant
    (subst (TakesOff c.args.x.now c.loop-below.stack c.take_one.new.stack) c.in_default.is c.in_ok-top.ensures)
