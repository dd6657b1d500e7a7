use Rattle.std.proofs.Common.{sym, ◌∙◌}
use Rattle.mm_label.specs.Facts.Fronts.{front_yes}
use Rattle.mm_label.specs.Facts.Parents.{label_whole}
use Rattle.mm_edit.proofs.Below.{under_match}
use Rattle.mm_edit.proofs.neighbours.is_under.Goals as goal

pub returns-then-is_prefix-clause-under : goal.returns-then-is_prefix-clause-under
returns-then-is_prefix-clause-under c = rw c.in-Some.is (under_match c.ne.result c.in-Some.parent.now c.args.label.now c.ne.ensures (front_yes c.in-Some.parent.now c.args.label.now (sym c.is_prefix.ensures.front ∙ c.if-is_prefix.true)))

pub returns-then-is_prefix-clause-whole : goal.returns-then-is_prefix-clause-whole
returns-then-is_prefix-clause-whole c = rw c.in-Some.is (label_whole c.in-Some.parent.now c.as_bytes-bytes.ensures.label)

pub returns-else-is_prefix-clause-whole : goal.returns-else-is_prefix-clause-whole
returns-else-is_prefix-clause-whole c = rw c.in-Some.is (label_whole c.in-Some.parent.now c.as_bytes-bytes.ensures.label)
