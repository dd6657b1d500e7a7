use Rattle.std.proofs.Common.{sym, subst}
use Rattle.mm_tree.specs.Numbering.{forest_of}
use Rattle.mm_edit.specs.Plans.{AreSized}
use Rattle.mm_edit.proofs.Sizes.{tree_sized}
use Rattle.mm_edit.proofs.parting.parts_of.Goals as goal

pub returns-clause-sized : goal.returns-clause-sized
returns-clause-sized g c = c.in_ok-push_counts.ensures.sized (subst AreSized (sym c.in_ok-after.ensures) (tree_sized (forest_of c.args.given.now) c.requires.room))
