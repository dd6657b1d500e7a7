use Rattle.std.proofs.lemmas.Result.{err_from_is_err_and}
use Rattle.mm_check.proofs.Passing.{passed, stops_here}
use Rattle.mm_check.proofs.behind.expect.Goals as goal

pub returns-in_err-compare_at-clause-differs : goal.returns-in_err-compare_at-clause-differs
returns-in_err-compare_at-clause-differs g c = λ maps due.
    let p = err_from_is_err_and c.from_residual-in_err-compare_at.result c.from_residual-in_err-compare_at.ensures.1 in
    rw (p.1, p.2) (stops_here (g.K.Keeper.seen c.args.keeper.now) c.in-Some.spot (rw c.in-Some.is at (c.requires.stands maps)) (c.args.key.now, c.args.value.now) due c.args.at c.in_err-compare_at.field-0.0 c.in-Some.is (c.in_err-compare_at.ensures.differs maps))

pub returns-clause-differs : goal.returns-clause-differs
returns-clause-differs g c = λ maps due.
    passed (g.K.Keeper.seen c.args.keeper.now) c.in-Some.spot (rw c.in-Some.is at (c.requires.stands maps)) (c.args.key.now, c.args.value.now) due c.args.at (g.K.Keeper.seen c.compare_at.new.keeper) c.in_ok-after.field-0 c.in-Some.is
    (c.compare_at.ensures.ground.same maps) (c.in_ok-after.ensures.found (c.compare_at.ensures.ground.maps.0 maps)) (c.in_ok-compare_at.ensures.differs maps)
