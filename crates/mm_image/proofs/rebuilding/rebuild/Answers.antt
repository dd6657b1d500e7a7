use Rattle.std.proofs.Common.{List, ap, ◌∙◌}
use Rattle.mm_tree.specs.declared.node.Node.{Node}
use Rattle.mm_tree.specs.declared.node.Node.TheFolds.{fold-roll-Node}
use Rattle.mm_tree.specs.Numbering.{Labelled, forest_of, node_step}
use Rattle.mm_tree.specs.Trees.{Tree}
use Rattle.mm_image.specs.Inside.Rebuilding.{bare}
use Rattle.mm_image.proofs.Trees.{piling_more}
use Rattle.mm_image.proofs.rebuilding.rebuild.Goals as goal

pub loop-label-preserved : goal.loop-label-preserved
loop-label-preserved c =
    piling_more c.args.nodes.items c.loop-label.left.items c.pop.new.self.items c.loop-label.trees.items c.take_below.new.trees.items c.push.new.self.items c.in_ok-take_below.field-0.items c.in-Some.field-0 _ c.loop-label.invariant c.in-Some.ensures.items
    c.in_ok-take_below.ensures.below c.in_ok-take_below.ensures.others c.in_ok-push.ensures.items
    (fold-roll-Node (Tree Labelled) node_step (record { label = c.in-Some.field-0.label; kind = c.in-Some.field-0.kind; children = c.from_vec-children.result }) ∙ ap (λ (ns : List Node). (bare c.in-Some.field-0, forest_of ns)) c.from_vec-children.ensures)
