use Rattle.std.proofs.Common.{refl}
use Rattle.mm_tree.proofs.NumberFacts.{too_far}
use Rattle.mm_tree.proofs.node.child_label.Goals as goal

pub returns-then-siblings-gt2147487775 : goal.returns-then-siblings-gt2147487775
returns-then-siblings-gt2147487775 c = (refl, too_far c.args.parent.now c.args.siblings c.if-siblings-gt2147487775.true)
