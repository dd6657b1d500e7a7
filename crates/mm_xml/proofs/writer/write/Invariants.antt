use Rattle.std.proofs.Common.{◌≡◌}
use Rattle.mm_tree.specs.Trees.{one}
use Rattle.mm_tree.specs.Numbering.{node_of}
use Rattle.mm_xml.specs.Writing.{written, without_labels}
use Rattle.mm_xml.specs.Inside.Pending.{whole, turns_of}
use Rattle.mm_xml.proofs.writer.write.Given as goal

-- what is written in the end stays the same
abbrev pub invariant-loop-task : goal.invariant-loop-task
invariant-loop-task l = whole l.writer ≡ written (without_labels (one (node_of l.node)))

abbrev pub decreases-loop-task : goal.decreases-loop-task
decreases-loop-task l = turns_of l.writer.tasks.items
