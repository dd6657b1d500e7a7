use Rattle.mm_label.proofs.BetweenFacts.{lies}
use Rattle.mm_label.proofs.laws.lies_between.Goals as goal

pub returns : goal.returns
returns c = λ l r h k o. lies l r h k o
