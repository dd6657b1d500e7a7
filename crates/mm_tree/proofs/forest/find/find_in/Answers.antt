use Rattle.std.proofs.Common.{[]}
use Rattle.std.specs.Prelude.{None}
use Rattle.mm_tree.specs.Numbering.{forest_of}
use Rattle.mm_tree.proofs.WayLaws.{labels_of}
use Rattle.mm_tree.proofs.forest.find.find_in.Goals as goal

pub returns : goal.returns
returns c = c.find_among.ensures ([], None, labels_of (forest_of c.args.trees.now) c.requires)
