use Rattle.mm_image.specs.Facts.Rising.{images_rise}
use Rattle.mm_image.proofs.laws.images_rise.Goals as goal

pub returns : goal.returns
returns c = images_rise c.byte_order.ensures c.ancestry.ensures
