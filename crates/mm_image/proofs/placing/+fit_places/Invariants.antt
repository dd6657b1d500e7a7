use Rattle.std.proofs.Common.{◌≡◌, drop}
use Rattle.mm_image.proofs.Trees.{fit}
use Rattle.mm_image.proofs.placing.+fit_places.Given as goal

abbrev pub invariant-loop-node : goal.invariant-loop-node
invariant-loop-node l = fit (drop l.node-index l.nodes) ≡ fit l.nodes
