use Rattle.mm_fragment.proofs.LinkTells.{smallest_tell, exclusive_tell}
use Rattle.mm_fragment.proofs.laws.answers_tell.Goals as goal

pub returns-clause-smallest : goal.returns-clause-smallest
returns-clause-smallest c = smallest_tell c.answers_are_smallest.ensures.smallest c.answers_are_smallest.ensures.reached

pub returns-clause-exclusive : goal.returns-clause-exclusive
returns-clause-exclusive c = exclusive_tell c.answers_are_smallest.ensures.reached c.exclusive_answers.ensures.smallest c.exclusive_answers.ensures.full
