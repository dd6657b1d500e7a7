use Rattle.std.proofs.Common.{◌≡◌, take}
use Rattle.mm_tree.specs.Inside.Searching.{either}
use Rattle.mm_tree.proofs.search.join.Given as goal

abbrev pub invariant-loop-at : goal.invariant-loop-at
invariant-loop-at l = l.flags ≡ either l.fn.flags (take l.at l.others)
