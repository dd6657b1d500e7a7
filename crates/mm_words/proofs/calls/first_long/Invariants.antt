use Rattle.std.proofs.Common.{◌≡◌, drop, map}
use Rattle.mm_words.specs.Refusals.{first_long}
use Rattle.mm_words.proofs.calls.first_long.Given as goal

-- none so far is too long
abbrev pub invariant-loop-word : goal.invariant-loop-word
invariant-loop-word l = first_long (map (λ w. w.now) (drop l.word-index l.words)) ≡ first_long (map (λ w. w.now) l.words)
