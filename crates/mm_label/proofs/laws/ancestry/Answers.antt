use Rattle.mm_label.proofs.ByteLaws.{same_front}
use Rattle.mm_label.proofs.laws.ancestry.Goals as goal

pub returns : goal.returns
returns c = λ a b h k. same_front a b h.in_range k.in_range
