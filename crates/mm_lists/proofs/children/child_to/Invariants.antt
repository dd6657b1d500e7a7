use Rattle.std.proofs.Common.{◌≡◌, length}
use Rattle.mm_label.specs.Label.{whole}
use Rattle.mm_label.specs.Fronts.{Front}
use Rattle.mm_lists.proofs.Kids.{IsBetween}
use Rattle.mm_lists.proofs.children.child_to.Given as goal

abbrev pub invariant-loop-kid : goal.invariant-loop-kid
invariant-loop-kid l = (whole l.x ≡ l.x → whole l.t ≡ l.t → Front l.x l.t → (l.t ≡ l.x → ⊥) → IsBetween l.x l.t l.kid)

abbrev pub decreases-loop-kid : goal.decreases-loop-kid
decreases-loop-kid l = length l.kid
