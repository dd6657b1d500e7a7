use Rattle.std.proofs.Common.{◌≡◌, ◌++◌, length}
use Rattle.mm_label.specs.Components.{components}
use Rattle.mm_label.proofs.component.components.Given as goal

abbrev pub invariant-loop-c : goal.invariant-loop-c
invariant-loop-c l = l.found.items ++ components l.rest ≡ components l.bytes

abbrev pub decreases-loop-c : goal.decreases-loop-c
decreases-loop-c l = length l.rest
