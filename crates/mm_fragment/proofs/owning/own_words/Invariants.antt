use Rattle.std.proofs.Common.{◌≡◌, ◌<◌, ◌^◌, ◌++◌, drop}
use Rattle.mm_label.specs.Fronts.{Ordered}
use Rattle.mm_fragment.specs.Inside.Owning.{Precedes, marked_words}
use Rattle.mm_fragment.proofs.owning.own_words.Given as goal

abbrev pub invariant-loop-word : goal.invariant-loop-word
invariant-loop-word l = record {
  bit : l.word-index < 32 → l.bit ≡ 2 ^ l.word-index;
  value : Ordered Precedes l.marks → l.own ++ marked_words (2 ^ l.word-index) (drop l.word-index l.words) l.marks l.label ≡ marked_words 1 l.words l.marks l.label;
}
