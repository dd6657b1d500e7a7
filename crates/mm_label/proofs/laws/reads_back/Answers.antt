use Rattle.mm_label.proofs.Readback.{components_again}
use Rattle.mm_label.proofs.laws.reads_back.Goals as goal

pub returns : goal.returns
returns c = λ a h. components_again a h.in_range
