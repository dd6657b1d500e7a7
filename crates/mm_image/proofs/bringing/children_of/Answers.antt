use Rattle.std.proofs.Common.{◌≡◌, List, subst, sym, true}
use Rattle.mm_tree.specs.declared.node.Node.{Node}
use Rattle.mm_tree.specs.Forests.{has_valid_kind}
use Rattle.mm_tree.specs.Numbering.{forest_of}
use Rattle.mm_tree.specs.Trees.{every}
use Rattle.mm_image.proofs.ChunkFacts.{children_valid}
use Rattle.mm_image.proofs.bringing.children_of.Goals as goal

pub returns-clause-valid : goal.returns-clause-valid
returns-clause-valid c = subst (λ (z : List Node). every has_valid_kind (forest_of z) ≡ true) (sym c.as_slice.ensures) (children_valid c.args.node.now c.requires)
