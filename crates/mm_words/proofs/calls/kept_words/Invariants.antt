use Rattle.std.proofs.Common.{◌≡◌, ◌++◌}
use Rattle.unicode_segmentation.specs.Iter.{unicode_words_left}
use Rattle.mm_words.specs.Words.{kept_in, kept_words}
use Rattle.mm_words.proofs.calls.kept_words.Given as goal

-- the words so far, and those of the pieces to come, are those of the text
abbrev pub invariant-loop-piece : goal.invariant-loop-piece
invariant-loop-piece l = l.words ++ kept_in (unicode_words_left l.piece-iterator) ≡ kept_words l.text
