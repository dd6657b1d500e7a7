use Rattle.std.proofs.Common.{get_or, arith}
use Rattle.mm_host.proofs.Left.{fill-all}
use Rattle.mm_host.proofs.crash.fill.Goals as goal

pub returns-clause-each : goal.returns-clause-each
returns-clause-each c = λ k h.
    fill-all c.args.from c.args.count c.loop-k.k c.args.byte (get_or c.loop-k.bytes.items k 0) (get_or c.args.bytes.now.items k 0) k
    (λ le lt. omega (arith, le, lt, h, c.loop-k.invariant.stop, c.min-end.ensures, c.saturating_add.ensures, c.len.ensures))
    (λ le lt. omega (arith, le, lt, h, c.loop-k-test.false, c.min-end.ensures, c.saturating_add.ensures, c.len.ensures, c.args.bytes.now.small))
    (c.loop-k.invariant.each k h)
