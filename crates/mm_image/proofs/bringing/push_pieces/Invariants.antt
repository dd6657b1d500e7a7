use Rattle.std.proofs.Common.{◌≡◌, ◌++◌, ◌+◌, length}
use Rattle.std.specs.Vec.Iter.{into_iter_items, into_iter_len}
use Rattle.mm_image.specs.Inside.Cutting.{numbered}
use Rattle.mm_image.specs.Keyed.{keyed}
use Rattle.mm_image.proofs.bringing.push_pieces.Given as goal

abbrev pub invariant-loop-value : goal.invariant-loop-value
invariant-loop-value l = record {
  may_step : (goal.iterator-loop-value).can_next l.value-iterator;
  ends : (goal.iterator-loop-value).is_finite l.value-iterator;
  whole : into_iter_len l.value-iterator ≡ length (into_iter_items l.value-iterator);
  count : l.number + length (into_iter_items l.value-iterator) ≡ length l.fn.pieces;
  put : keyed l.entries ++ numbered l.label l.number (into_iter_items l.value-iterator) ≡ keyed l.fn.entries ++ numbered l.label 0 l.fn.pieces;
}
