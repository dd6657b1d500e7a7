use Rattle.std.proofs.Common.{Some, ◌∙◌, ap, sym}
use Rattle.mm_check.proofs.Passing.{none_due}
use Rattle.mm_check.proofs.behind.expect_none.Goals as goal

pub returns-in_ok-not_due-in-Ok-clause-differs : goal.returns-in_ok-not_due-in-Ok-clause-differs
returns-in_ok-not_due-in-Ok-clause-differs g c = λ maps.
    none_due (g.K.Keeper.seen c.args.keeper.now) c.args.at c.in-Some.spot (c.in-Ok.entry.key.now, c.in-Ok.entry.value.now) c.in-Some.is (c.in-Ok.ensures.lent maps) ∙ ap Some (sym c.in_ok-not_due-in-Ok.ensures)
