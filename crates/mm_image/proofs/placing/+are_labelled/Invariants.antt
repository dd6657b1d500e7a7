use Rattle.std.specs.Prelude.{option_map}
use Rattle.mm_image.proofs.Trees.{Labelling}
use Rattle.mm_image.proofs.placing.+are_labelled.Given as goal

abbrev pub invariant-loop-node : goal.invariant-loop-node
invariant-loop-node l = Labelling l.parent (option_map (λ x. x.now) l.left) l.nodes l.node-index
