use Rattle.mm_lists.specs.Facts.Candidates.{candidate_own}
use Rattle.mm_lists.proofs.matches.narrow_at.Goals as goal

pub returns-then-skip-clause-value : goal.returns-then-skip-clause-value
returns-then-skip-clause-value g c = λ f ls s m h k. candidate_own ls _ _ _ k (h c.if-skip.true)
