use Rattle.std.proofs.Common.{arith}
use Rattle.mm_command.proofs.FragmentFacts.{all_counted, many_on}
use Rattle.mm_command.proofs.fragments.+nodes_in.Goals as goal

pub returns : goal.returns
returns t c = all_counted c.args.fragments.now c.loop-fragment.fragment-index c.loop-fragment.sum c.loop-fragment-test.false c.loop-fragment.invariant.small c.loop-fragment.invariant.many

pub loop-fragment-preserved : goal.loop-fragment-preserved
loop-fragment-preserved t c = record {
  small = omega (arith, c.saturating_add-sum.ensures);
  many = many_on c.args.fragments.now c.loop-fragment.fragment-index c.fragment-item.result c.as_slice.result.now c.loop-fragment.sum c.nodes_in-below.result c.saturating_add.result c.saturating_add-sum.result c.loop-fragment-test.true c.fragment-item.is c.as_slice.ensures c.loop-fragment.invariant.many c.nodes_in-below.ensures c.saturating_add.ensures c.saturating_add-sum.ensures;
}
