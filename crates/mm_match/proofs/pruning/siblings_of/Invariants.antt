use Rattle.std.proofs.Common.{◌≡◌, ◌&&◌, ◌||◌, ℕ, Option, drop}
use Rattle.std.specs.List.{list_any}
use Rattle.mm_label.specs.Fronts.{Label, parent, unless_empty}
use Rattle.mm_match.specs.Marks.{under}
use Rattle.mm_match.specs.Inside.Passing.{outdone, same_parent}
use Rattle.mm_match.proofs.pruning.siblings_of.Given as goal

-- the masks so far, with those of the marks to come, are those of all
abbrev pub invariant-loop-mark : goal.invariant-loop-mark
invariant-loop-mark l = (at : Option Label) (v : ℕ)
    → (outdone l.siblings at v || list_any (λ n. same_parent (unless_empty (parent n.label)) at && under v n.mask) (drop l.mark-index l.marked))
    ≡ list_any (λ n. same_parent (unless_empty (parent n.label)) at && under v n.mask) l.marked
