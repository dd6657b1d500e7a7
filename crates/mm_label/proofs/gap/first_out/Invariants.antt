use Rattle.std.proofs.Common.{◌≡◌, drop}
use Rattle.mm_label.specs.Between.{first_out}
use Rattle.mm_label.proofs.gap.first_out.Given as goal

abbrev pub invariant-loop-c : goal.invariant-loop-c
invariant-loop-c l = first_out (drop l.c-index l.segment) ≡ first_out l.segment
