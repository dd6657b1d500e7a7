use Rattle.std.proofs.Common.{◌≡◌, ◌++◌, None, drop}
use Rattle.mm_match.specs.Marks.{is_beaten}
use Rattle.mm_match.specs.Inside.Passing.{thin}
use Rattle.mm_match.proofs.pruning.prune.Given as goal

-- what was taken up so far, with what is to be taken up of the marks to come, is what is taken up of all
abbrev pub invariant-loop-mark : goal.invariant-loop-mark
invariant-loop-mark l = l.out ++ thin (is_beaten l.marked) l.cut (drop l.mark-index l.marked) ≡ thin (is_beaten l.marked) None l.marked
