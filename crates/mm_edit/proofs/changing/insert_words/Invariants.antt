use Rattle.std.proofs.Common.{◌≡◌, ◌||◌, ℕ, List}
use Rattle.mm_edit.proofs.WordSets.{Words, among}
use Rattle.mm_edit.proofs.changing.insert_words.Given as goal

-- the words so far are in the set, and those that are left make it whole
abbrev pub invariant-loop-word : goal.invariant-loop-word
invariant-loop-word l = (w : List ℕ) → (Words l.words w || among w l.word-iterator) ≡ (Words l.fn.words w || among w l.lists.entries)
