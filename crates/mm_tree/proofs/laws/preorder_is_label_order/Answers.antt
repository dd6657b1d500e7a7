use Rattle.mm_tree.proofs.OrderLaws.{preorder_rises}
use Rattle.mm_tree.proofs.laws.preorder_is_label_order.Goals as goal

pub returns : goal.returns
returns c = preorder_rises
