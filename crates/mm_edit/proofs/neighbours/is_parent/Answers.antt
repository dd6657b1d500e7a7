use Rattle.mm_edit.proofs.Below.{same_match}
use Rattle.mm_edit.proofs.neighbours.is_parent.Goals as goal

pub returns-in-Some : goal.returns-in-Some
returns-in-Some c = rw c.in-Some.is (same_match c.eq.result c.in-Some.parent.now c.args.label.now c.eq.ensures)
