use Rattle.mm_tree.proofs.OwnerLaws.{smallest_are_exclusive, exclusive_are_full, exclusive_rise}
use Rattle.mm_tree.proofs.ExclusiveLaws.{answers_are_exclusive}
use Rattle.mm_tree.proofs.laws.exclusive_answers.Goals as goal

pub returns-clause-exclusive : goal.returns-clause-exclusive
returns-clause-exclusive c = answers_are_exclusive

pub returns-clause-smallest : goal.returns-clause-smallest
returns-clause-smallest c = smallest_are_exclusive

pub returns-clause-full : goal.returns-clause-full
returns-clause-full c = exclusive_are_full

pub returns-clause-rising : goal.returns-clause-rising
returns-clause-rising c = exclusive_rise
