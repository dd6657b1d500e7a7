use Rattle.std.proofs.Common.{inl, inr, ap, sym, ◌∙◌, List}
use Rattle.mm_tree.specs.declared.node.Node.{Node}
use Rattle.mm_tree.specs.declared.node.Node.TheViews.{out-Node}
use Rattle.mm_tree.specs.Forests.{are_labelled}
use Rattle.mm_tree.specs.Numbering.{forest_of}
use Rattle.std.specs.Prelude.{None, option_map}
use Rattle.mm_image.proofs.Trees.{labelling_fails, labelling_more}
use Rattle.mm_image.proofs.placing.+are_labelled.Goals as goal
use Rattle.mm_image.proofs.placing.+are_labelled.Goals.{then-not-is_child-via-then-not-is_child, then-not-is_child-via-else-not-is_child+then-not-comes_after, then-not-is_child-via-else-not-is_child+else-not-comes_after+then-not-are_labelled}

pub returns-then-not-is_child : goal.returns-then-not-is_child
returns-then-not-is_child t c =
    let n = c.node-item.result in
    let below = λ (ns : List Node). are_labelled (out-Node n).label None (forest_of ns) in
    labelling_fails c.args.parent.now (option_map (λ x. x.now) c.loop-node.left) c.args.nodes.now c.loop-node.node-index n c.loop-node.invariant c.loop-node-test.true c.node-item.is (elim c.then-not-is_child.branch [
      | then-not-is_child-via-then-not-is_child w ↦ inl (sym w.if-not-is_child.ensures)
      | then-not-is_child-via-else-not-is_child+then-not-comes_after w ↦ inr (inl (sym w.if-not-comes_after.ensures))
      | then-not-is_child-via-else-not-is_child+else-not-comes_after+then-not-are_labelled w ↦ inr (inr (sym (w.if-not-are_labelled.ensures ∙ ap below w.as_slice.ensures)))
    ])

pub loop-node-preserved : goal.loop-node-preserved
loop-node-preserved t c =
    let n = c.node-item.result in
    let below = λ (ns : List Node). are_labelled (out-Node n).label None (forest_of ns) in
    labelling_more c.args.parent.now (option_map (λ x. x.now) c.loop-node.left) c.args.nodes.now c.loop-node.node-index n c.loop-node.invariant c.loop-node-test.true c.node-item.is
    (sym c.if-not-is_child.ensures) (sym c.if-not-comes_after.ensures) (sym (c.if-not-are_labelled.ensures ∙ ap below c.as_slice.ensures))
