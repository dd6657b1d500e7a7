use Rattle.std.proofs.Common.{◌≡◌, ◌++◌, length}
use Rattle.std.specs.Vec.Iter.{into_iter_items, into_iter_len}
use Rattle.mm_image.specs.Keyed.{keyed}
use Rattle.mm_keeper.specs.Entries.{IsSorted}
use Rattle.mm_edit.specs.Difference.{changed}
use Rattle.mm_edit.specs.Plans.{AreSized}
use Rattle.mm_edit.proofs.differing.changed.Given as goal

-- what was told, and what is changed of the entries that are left, is all that is changed
abbrev pub invariant-loop-entry : goal.invariant-loop-entry
invariant-loop-entry l = record {
  may_step : (goal.iterator-loop-entry).can_next l.entry-iterator;
  ends : (goal.iterator-loop-entry).is_finite l.entry-iterator;
  whole : into_iter_len l.entry-iterator ≡ length (into_iter_items l.entry-iterator);
  changed : IsSorted (keyed l.before) → keyed l.entries.items ++ changed (keyed l.before) (keyed (into_iter_items l.entry-iterator)) ≡ changed (keyed l.before) (keyed l.fn.after.items);
  sized : AreSized (keyed l.fn.after.items) → AreSized (keyed l.entries.items) × AreSized (keyed (into_iter_items l.entry-iterator));
}
