use Rattle.mm_label.specs.Facts.Order.{apart_past, past_apart}
use Rattle.mm_label.proofs.laws.apart_is_past.Goals as goal

pub returns : goal.returns
returns c = λ a b. (apart_past a b, past_apart a b)
