use Rattle.std.proofs.Common.{◌≡◌, ◌++◌, map, drop}
use Rattle.mm_words.specs.Words.{first_occurrences}
use Rattle.mm_words.proofs.Occurrences.{unseen, HasWords}
use Rattle.mm_words.proofs.calls.first_occurrences.Given as goal

-- the set has the words found so far; these, and those of the words to come that are not among them, are the answer
abbrev pub invariant-loop-word : goal.invariant-loop-word
invariant-loop-word l = record {
  same : HasWords l.seen (map (λ k. k.now) l.found.items);
  rest : map (λ k. k.now) l.found.items ++ unseen (map (λ k. k.now) l.found.items) (first_occurrences (drop l.word-index l.words)) ≡ first_occurrences l.words;
}
