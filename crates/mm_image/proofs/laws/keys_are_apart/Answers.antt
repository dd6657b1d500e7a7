use Rattle.mm_image.proofs.Apart.{apart}
use Rattle.mm_image.proofs.laws.keys_are_apart.Goals as goal

pub returns : goal.returns
returns c = apart c.one_label.ensures
