use Rattle.mm_check.proofs.Sound.{sound}
use Rattle.mm_check.proofs.laws.sound_is_image.Goals as goal

pub returns : goal.returns
returns c = sound c.key_order.ensures.chunks c.contents_read_back.ensures.whole c.reads_back.ensures c.contents_read_back.ensures.told
