use Rattle.mm_edit.proofs.Below.{ok_so, parent_is, parent_is_shorter, parent_is_whole}
use Rattle.mm_edit.proofs.neighbours.parent_of.Goals as goal

pub returns-clause-child : goal.returns-clause-child
returns-clause-child c = ok_so c.parent.result (λ o h. parent_is o c.args.label.now c.as_bytes-spelled.ensures.label h) c.parent.ensures

pub returns-clause-whole : goal.returns-clause-whole
returns-clause-whole c = ok_so c.parent.result (λ o h. parent_is_whole o c.args.label.now h) c.parent.ensures

pub returns-clause-shorter : goal.returns-clause-shorter
returns-clause-shorter c = ok_so c.parent.result (λ o h. parent_is_shorter o c.args.label.now c.as_bytes-spelled.ensures.label h) c.parent.ensures
