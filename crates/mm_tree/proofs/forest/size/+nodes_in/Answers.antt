use Rattle.std.proofs.Common.{arith}
use Rattle.mm_tree.proofs.SizeFacts.{all_counted, many_on}
use Rattle.mm_tree.proofs.forest.size.+nodes_in.Goals as goal

pub returns : goal.returns
returns t c = all_counted c.args.trees.now c.loop-tree.tree-index c.loop-tree.sum c.loop-tree-test.false c.loop-tree.invariant.small c.loop-tree.invariant.many

pub loop-tree-preserved : goal.loop-tree-preserved
loop-tree-preserved t c = record {
  small = omega (arith, c.saturating_add-sum.ensures);
  many = many_on c.args.trees.now c.loop-tree.tree-index c.tree-item.result c.as_slice.result.now c.loop-tree.sum c.nodes_in-below.result c.saturating_add.result c.saturating_add-sum.result c.loop-tree-test.true c.tree-item.is c.as_slice.ensures c.loop-tree.invariant.many c.nodes_in-below.ensures c.saturating_add.ensures c.saturating_add-sum.ensures;
}
