use Rattle.mm_store.proofs.Checked.{told_sound}
use Rattle.mm_store.proofs.store.Store.check.Goals as goal

pub returns-clause-sound : goal.returns-clause-sound
returns-clause-sound g c = λ f h. told_sound c.images_tell_forests.ensures c.sound_is_image.ensures _ f h.1 h.2 c.check.result (c.check.ensures.verdict h.0)
