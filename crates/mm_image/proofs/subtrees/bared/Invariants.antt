use Rattle.std.proofs.Common.{◌≡◌, length}
use Rattle.std.specs.Vec.Iter.{into_iter_items, into_iter_len}
use Rattle.mm_image.specs.Inside.Rebuilding.{bared}
use Rattle.mm_image.proofs.Making.{Making}
use Rattle.mm_image.proofs.subtrees.bared.Given as goal

abbrev pub invariant-loop-label : goal.invariant-loop-label
invariant-loop-label l = record {
  may_step : (goal.iterator-loop-label).can_next l.label-iterator;
  ends : (goal.iterator-loop-label).is_finite l.label-iterator;
  whole : into_iter_len l.label-iterator ≡ length (into_iter_items l.label-iterator);
  made : Making l.fn.groups (bared l.nodes.items) (into_iter_items l.label-iterator);
}
