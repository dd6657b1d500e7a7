use Rattle.mm_label.specs.Facts.Order.{splits}
use Rattle.mm_label.proofs.laws.fronts_are_ancestors.Goals as goal

pub returns : goal.returns
returns c = splits
