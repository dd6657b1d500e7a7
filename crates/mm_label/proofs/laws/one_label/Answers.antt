use Rattle.mm_label.proofs.ByteLaws.{spelled_once}
use Rattle.mm_label.proofs.laws.one_label.Goals as goal

pub returns : goal.returns
returns c = λ a b h k e. spelled_once a b h.in_range k.in_range e
