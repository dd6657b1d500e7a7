use Rattle.mm_label.proofs.Texts.{one_text}
use Rattle.mm_label.proofs.laws.one_text.Goals as goal

pub returns : goal.returns
returns c = λ a b h k e. one_text a b h k e
