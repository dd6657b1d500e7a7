use Rattle.std.proofs.Common.{◌≡◌, ◌++◌, IsTrue, drop}
use Rattle.mm_label.specs.Bytes.{bytes_of}
use Rattle.mm_label.specs.Label.{all_in_range}
use Rattle.mm_label.proofs.spelling.push_spelled.Given as goal

abbrev pub invariant-loop-c : goal.invariant-loop-c
invariant-loop-c l =
    IsTrue (all_in_range (drop l.c-index l.components))
    × (l.out.items ++ bytes_of (drop l.c-index l.components) ≡ l.initial.out.items ++ bytes_of l.components)
