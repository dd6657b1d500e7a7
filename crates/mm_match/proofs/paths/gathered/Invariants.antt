use Rattle.std.proofs.Common.{◌≡◌, None, drop}
use Rattle.mm_label.specs.Fronts.{Label}
use Rattle.mm_match.specs.Inside.Passing.{gathered, mask_in}
use Rattle.mm_match.proofs.paths.gathered.Given as goal

-- the masks so far, with the words of the matches to come, are those of all
abbrev pub invariant-loop-mark : goal.invariant-loop-mark
invariant-loop-mark l = (x : Label) → gathered l.root x (mask_in l.masks x) (drop l.mark-index l.matches) ≡ gathered l.root x None l.matches
