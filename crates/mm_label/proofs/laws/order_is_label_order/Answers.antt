use Rattle.mm_label.specs.Facts.Order.{le_before, le_of}
use Rattle.mm_label.proofs.laws.order_is_label_order.Goals as goal

pub returns : goal.returns
returns c = λ a b. (le_before a b, le_of a b)
