use Rattle.mm_tree.proofs.FragmentLaws.{contributors_are_relevant}
use Rattle.mm_tree.proofs.laws.contributors_are_relevant.Goals as goal

pub returns : goal.returns
returns c = contributors_are_relevant
