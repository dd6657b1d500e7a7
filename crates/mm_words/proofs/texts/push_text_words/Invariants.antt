use Rattle.std.proofs.Common.{◌≡◌, ◌++◌}
use Rattle.unicode_segmentation.specs.Iter.{unicode_words_left}
use Rattle.mm_words.specs.Words.{words_in, text_words}
use Rattle.mm_words.proofs.texts.push_text_words.Given as goal

abbrev pub invariant-loop-piece : goal.invariant-loop-piece
invariant-loop-piece l = l.list.items ++ words_in (unicode_words_left l.piece-iterator) ≡ l.initial.list.items ++ text_words l.text
