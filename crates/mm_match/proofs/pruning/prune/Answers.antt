use Rattle.std.proofs.Common.{◌∙◌, arith}
use Rattle.mm_label.specs.Fronts.{parent, unless_empty}
use Rattle.mm_match.proofs.Siblings.{beaten_is, thin_next}
use Rattle.mm_match.proofs.Thinning.{thin_all}
use Rattle.mm_match.proofs.pruning.prune.Goals as goal

pub loop-mark-preserved : goal.loop-mark-preserved
loop-mark-preserved c =
    let m = c.mark-item.result in
    thin_next c.args.marked.now c.loop-mark.out _ c.loop-mark.cut _ c.loop-mark.mark-index m c.in_ok-beaten.beaten _ c.loop-mark-test.true c.mark-item.is
    (c.in_ok-beaten.ensures ∙ (c.in_ok-siblings.ensures (unless_empty (parent m.label)) m.mask ∙ beaten_is m c.args.marked.now)) c.in_ok-cut.ensures c.loop-mark.invariant

pub returns : goal.returns
returns c = λ rise. thin_all _ _ c.loop-mark.cut c.loop-mark.mark-index (omega (arith, c.loop-mark-test.false)) c.loop-mark.invariant rise
