use Rattle.std.proofs.Common.{◌≡◌, ◌++◌, map}
use Rattle.mm_tree.specs.Numbering.{forest_of}
use Rattle.mm_edit.specs.Inside.Changes.{change}
use Rattle.mm_edit.proofs.changing.word_changes.Given as goal

abbrev pub invariant-loop-word : goal.invariant-loop-word
invariant-loop-word l = l.changes.items ++ map (change (forest_of l.fn.taken) (forest_of l.fn.given)) l.word-iterator ≡ map (change (forest_of l.fn.taken) (forest_of l.fn.given)) l.initial.word-iterator
