use Rattle.std.proofs.Common.{rules}
use Rattle.mm_check.proofs.Walking.{bytes_here}
use Rattle.mm_check.proofs.chunks.read.Goals as goal

pub returns-clause-reads : goal.returns-clause-reads
returns-clause-reads c = let n = c.ne.ensures in let f = c.first.ensures.value in let i = c.if-ne.false in (search rules, bytes_here c.args.value.now c.type_inv.value, λ p s k. c.in_ok-step.ensures.steps p s k)
