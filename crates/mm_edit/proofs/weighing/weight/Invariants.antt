use Rattle.std.proofs.Common.{◌≡◌, ◌≤◌, ◌+◌, ◌-◌, ◌^◌, drop}
use Rattle.std.specs.Prelude.{min}
use Rattle.mm_image.specs.Keyed.{keyed}
use Rattle.mm_keeper.specs.Entries.{weight_of}
use Rattle.mm_edit.proofs.weighing.weight.Given as goal

-- the weight so far and that of what is left are that of all
abbrev pub invariant-loop-entry : goal.invariant-loop-entry
invariant-loop-entry l = record {
  sum : min (l.weight + weight_of (keyed (drop l.entry-index l.entries))) (2 ^ 64 - 1) ≡ min (weight_of (keyed l.entries)) (2 ^ 64 - 1);
  small : l.weight ≤ 2 ^ 64 - 1;
}
