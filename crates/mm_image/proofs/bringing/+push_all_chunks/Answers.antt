use Rattle.std.proofs.Common.{◌≡◌, ◌++◌, ◌+◌, List, ap, subst, drop, true, ◌∙◌}
use Rattle.mm_tree.specs.declared.node.Node.{Node}
use Rattle.mm_tree.specs.declared.node.Node.TheViews.{out-Node}
use Rattle.mm_tree.specs.Forests.{has_valid_kind}
use Rattle.mm_tree.specs.Numbering.{Labelled, forest_of}
use Rattle.mm_tree.specs.Trees.{Trees, node, every}
use Rattle.mm_image.specs.Image.{chunks}
use Rattle.mm_image.specs.Keyed.{keyed}
use Rattle.mm_tree.specs.Facts.Walks.{forest_at}
use Rattle.mm_image.proofs.ChunkFacts.{chunks_more, one_valid, rest_valid}
use Rattle.mm_image.proofs.bringing.+push_all_chunks.Goals as goal

pub children_of-requires : goal.children_of-requires
children_of-requires t c =
    let ns = c.args.nodes.now in
    let n = c.node-item.result in
    let i = c.loop-node.node-index in
    one_valid n (forest_of (drop (i + 1) ns)) (subst (λ (z : Trees Labelled). every has_valid_kind z ≡ true) (forest_at ns i n c.loop-node-test.true c.node-item.is) c.loop-node.invariant.valid)

pub loop-node-preserved : goal.loop-node-preserved
loop-node-preserved t c =
    let ns = c.args.nodes.now in
    let n = c.node-item.result in
    let i = c.loop-node.node-index in
    let inner = forest_of (out-Node n).children in
    let rest = forest_of (drop (i + 1) ns) in
    let e : Labelled = record { label = (out-Node n).label; kind = (out-Node n).kind } in
    let next : forest_of (drop i ns) ≡ node e inner rest = forest_at ns i n c.loop-node-test.true c.node-item.is in
    let valid = subst (λ (z : Trees Labelled). every has_valid_kind z ≡ true) next c.loop-node.invariant.valid in
    let put = subst (λ (z : Trees Labelled). keyed c.loop-node.entries ++ chunks z ≡ keyed c.args.entries.now ++ chunks (forest_of ns)) next c.loop-node.invariant.put in
    let below = c.in_ok-push_all_chunks.ensures in
    record {
      put = chunks_more (keyed c.loop-node.entries) (keyed c.push_chunks.new.entries) (keyed c.push_all_chunks.new.entries) _ e inner rest put c.in_ok-push_chunks.ensures
          (below ∙ ap (λ (z : List Node). keyed c.push_chunks.new.entries ++ chunks (forest_of z)) c.children_of.ensures.children);
      valid = rest_valid e inner rest valid;
    }
