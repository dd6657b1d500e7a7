use Rattle.std.proofs.Common.{◌&&◌, ◌||◌, ◌∙◌, ap, Option}
use Rattle.mm_label.specs.Fronts.{Label, parent, unless_empty}
use Rattle.mm_match.specs.Marks.{under}
use Rattle.mm_match.specs.Inside.Passing.{outdone, same_parent}
use Rattle.mm_match.proofs.Siblings.{any_next}
use Rattle.mm_match.proofs.pruning.siblings_of.Goals as goal

pub loop-mark-preserved : goal.loop-mark-preserved
loop-mark-preserved c = λ at v.
    any_next (λ n. same_parent (unless_empty (parent n.label)) at && under v n.mask) c.args.marked.now c.loop-mark.mark-index c.mark-item.result _ _ _ c.loop-mark-test.true c.mark-item.is
    (c.in_ok-put.ensures at v ∙ ap (λ (p : Option Label). outdone c.loop-mark.siblings at v || (same_parent p at && under v c.mark-item.result.mask)) c.in_ok-parent.ensures)
    (c.loop-mark.invariant at v)
