use Rattle.std.proofs.Common.{arith}
use Rattle.mm_check.proofs.Paths.{hangs_last, hangs_none, hangs_top, some_levels}
use Rattle.mm_check.proofs.path.hangs.Goals as goal

pub returns-then-level-eq1 : goal.returns-then-level-eq1
returns-then-level-eq1 c = λ above before nested labels. hangs_top c.args.label.now c.args.path.now c.level-level.result c.as_bytes-spelled.ensures.label c.level-level.ensures c.if-level-eq1.true

pub returns-in-Some : goal.returns-in-Some
returns-in-Some c = λ above before nested labels.
    hangs_last c.args.label.now c.args.path.now c.level-level.result c.level.result c.in-Some.last.now c.as_bytes-spelled.ensures.label c.level-level.ensures c.if-level-eq1.false c.level.ensures c.in-Some.ensures.value above before nested

pub returns-in-None : goal.returns-in-None
returns-in-None c = λ above before nested labels. hangs_none c.args.label.now c.args.path.now c.level-level.result c.as_bytes-spelled.ensures.label c.level-level.ensures c.if-level-eq1.false c.in-None.ensures.value above before nested

pub overflow_sub-result : goal.overflow_sub-result
overflow_sub-result c = let t = some_levels c.args.label.now c.as_bytes-spelled.ensures.label in let e = c.level-level.ensures in omega (arith, t, e)
