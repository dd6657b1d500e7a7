use Rattle.std.proofs.Common.{arith}
use Rattle.mm_tree.proofs.MeasureFacts.{all_measured, no_level, too_deep, deep_on, many_on}
use Rattle.mm_tree.proofs.measure.+nodes_within.Goals as goal

pub returns : goal.returns
returns t c =
    all_measured c.args.trees.now c.loop-tree.tree-index c.args.room c.loop-tree.sum c.loop-tree-test.false c.loop-tree.invariant.small c.loop-tree.invariant.deep c.loop-tree.invariant.many

pub returns-in_err-below : goal.returns-in_err-below
returns-in_err-below t c =
    rw c.from_residual.ensures (too_deep c.args.trees.now c.loop-tree.tree-index c.tree-item.result c.as_slice.result.now c.args.room c.loop-tree-test.true c.tree-item.is c.as_slice.ensures c.loop-tree.invariant.deep c.in_err-below.ensures)

pub returns-then-room-eq0 : goal.returns-then-room-eq0
returns-then-room-eq0 t c =
    no_level c.args.trees.now c.loop-tree.tree-index c.tree-item.result c.args.room c.loop-tree-test.true c.tree-item.is c.if-room-eq0.true c.loop-tree.invariant.deep

pub loop-tree-preserved : goal.loop-tree-preserved
loop-tree-preserved t c = record {
  small = omega (arith, c.saturating_add-sum.ensures);
  deep = deep_on c.args.trees.now c.loop-tree.tree-index c.tree-item.result c.as_slice.result.now c.args.room c.loop-tree-test.true c.tree-item.is c.as_slice.ensures c.loop-tree.invariant.deep c.in_ok-below.ensures.0 c.if-room-eq0.false;
  many = many_on c.args.trees.now c.loop-tree.tree-index c.tree-item.result c.as_slice.result.now c.loop-tree.sum c.in_ok-below.below c.saturating_add.result c.saturating_add-sum.result c.loop-tree-test.true c.tree-item.is c.as_slice.ensures c.loop-tree.invariant.many c.in_ok-below.ensures.1 c.saturating_add.ensures c.saturating_add-sum.ensures;
}
