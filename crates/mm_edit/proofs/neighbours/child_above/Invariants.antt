use Rattle.std.proofs.Common.{length}
use Rattle.std.specs.Prelude.{option_map}
use Rattle.mm_label.specs.Refusals.{front_of}
use Rattle.mm_edit.proofs.Below.{IsBetween}
use Rattle.mm_edit.proofs.neighbours.child_above.Given as goal

abbrev pub invariant-loop-child : goal.invariant-loop-child
invariant-loop-child l = IsBetween (front_of (option_map (λ p. p.now) l.parent)) l.label l.child

abbrev pub decreases-loop-child : goal.decreases-loop-child
decreases-loop-child l = length l.child
