use Rattle.std.proofs.Common.{◌≡◌, ◌++◌, drop, map, filter}
use Rattle.mm_words.specs.Words.{is_word}
use Rattle.mm_words.proofs.calls.words_of.Given as goal

-- the words so far, and those of the bytes to come, are those of all
abbrev pub invariant-loop-bytes : goal.invariant-loop-bytes
invariant-loop-bytes l = l.words ++ filter is_word (map (λ w. w.now) (drop l.bytes-index l.list)) ≡ filter is_word (map (λ w. w.now) l.list)
