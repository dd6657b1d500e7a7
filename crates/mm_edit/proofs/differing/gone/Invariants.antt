use Rattle.std.proofs.Common.{◌≡◌, ◌++◌, drop}
use Rattle.mm_image.specs.Keyed.{keyed}
use Rattle.mm_keeper.specs.Entries.{IsSorted}
use Rattle.mm_edit.specs.Difference.{gone, keys}
use Rattle.mm_edit.proofs.differing.gone.Given as goal

-- what was told, and what is gone of the entries that are left, is all that is gone
abbrev pub invariant-loop-entry : goal.invariant-loop-entry
invariant-loop-entry l = IsSorted (keyed l.after) → l.keys.items ++ keys (gone (keyed (drop l.entry-index l.before)) (keyed l.after)) ≡ keys (gone (keyed l.before) (keyed l.after))
