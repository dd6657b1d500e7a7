use Rattle.mm_label.proofs.ByteLaws.{same_order}
use Rattle.mm_label.proofs.laws.byte_order.Goals as goal

pub returns : goal.returns
returns c = λ a b h k. same_order a b h.in_range k.in_range
