use Rattle.std.proofs.Common.{◌≡◌, ◌++◌, map}
use Rattle.mm_image.specs.Inside.Cutting.{sized_list}
use Rattle.mm_image.proofs.bringing.word_counts.Given as goal

abbrev pub invariant-loop-word : goal.invariant-loop-word
invariant-loop-word l = l.counts.items ++ map sized_list l.word-iterator ≡ map sized_list l.initial.word-iterator
