use Rattle.std.proofs.Common.{◌≡◌, length}
use Rattle.mm_label.specs.Fronts.{Label, or_empty}
use Rattle.mm_match.specs.Inside.Passing.{mask_in}
use Rattle.mm_match.proofs.PathFacts.{Stands, so_far}
use Rattle.mm_match.proofs.paths.let_in.Given as goal

-- the walk stands between the root and the match, and the nodes that it has passed have the words
abbrev pub invariant-loop-at : goal.invariant-loop-at
invariant-loop-at l = record {
  stands : Stands l.root l.mark.label l.at;
  words : (x : Label) → mask_in l.masks x ≡ so_far l.root l.mark.label l.at x l.mark.mask (mask_in l.fn.masks x);
}

abbrev pub decreases-loop-at : goal.decreases-loop-at
decreases-loop-at l = length (or_empty l.at)
