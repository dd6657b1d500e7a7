use Rattle.std.proofs.Common.{◌≡◌, ◌++◌, drop, true}
use Rattle.mm_tree.specs.Forests.{has_valid_kind}
use Rattle.mm_tree.specs.Numbering.{forest_of}
use Rattle.mm_tree.specs.Trees.{every}
use Rattle.mm_image.specs.Image.{chunks}
use Rattle.mm_image.specs.Keyed.{keyed}
use Rattle.mm_image.proofs.bringing.+push_all_chunks.Given as goal

abbrev pub invariant-loop-node : goal.invariant-loop-node
invariant-loop-node l = record {
  put : keyed l.entries ++ chunks (forest_of (drop l.node-index l.nodes)) ≡ keyed l.fn.entries ++ chunks (forest_of l.nodes);
  valid : every has_valid_kind (forest_of (drop l.node-index l.nodes)) ≡ true;
}
