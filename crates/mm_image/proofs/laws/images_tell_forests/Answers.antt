use Rattle.mm_image.proofs.Determined.{determined}
use Rattle.mm_image.proofs.laws.images_tell_forests.Goals as goal

pub returns : goal.returns
returns c = determined c.one_label.ensures
