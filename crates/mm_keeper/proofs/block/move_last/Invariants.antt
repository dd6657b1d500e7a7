use Rattle.std.proofs.Common.{◌≡◌, ◌≤◌, ◌+◌, ◌++◌, reverse, vec_len, vec_capacity}
use Rattle.mm_keeper.proofs.block.move_last.Given as goal

abbrev pub invariant-loop : goal.invariant-loop
invariant-loop l = record {
  same : l.low.items ++ reverse l.high.items ≡ l.fn.low.items;
  moved : vec_len l.high ≡ l.counter;
  left : vec_len l.low + l.counter ≡ vec_len l.fn.low;
  room : l.count ≤ vec_capacity l.high;
}
