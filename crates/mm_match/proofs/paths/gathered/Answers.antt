use Rattle.mm_match.proofs.PathFacts.{gathered_next}
use Rattle.mm_match.proofs.paths.gathered.Goals as goal

pub loop-mark-preserved : goal.loop-mark-preserved
loop-mark-preserved c = λ x. gathered_next c.args.root.now x _ _ c.args.matches.now c.loop-mark.mark-index c.mark-item.result _ c.loop-mark-test.true c.mark-item.is (c.in_ok-let_in.ensures x) (c.loop-mark.invariant x)
