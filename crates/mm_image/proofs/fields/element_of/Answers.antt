use Rattle.mm_image.proofs.Getting.{element_told}
use Rattle.mm_image.proofs.fields.element_of.Goals as goal

pub returns-in-Ok : goal.returns-in-Ok
returns-in-Ok c = element_told c.args.bytes.now c.in-Ok.kind c.in-Ok.ensures
