use Rattle.mm_image.proofs.Groups.{unread}
use Rattle.mm_image.proofs.gathering.place_of.Goals as goal

pub returns : goal.returns
returns c = unread c.args.key.now (rw c.in-None.is at c.in_ok-label.ensures)
