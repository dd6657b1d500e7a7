use Rattle.std.proofs.lemmas.Result.{err_from_is_err_and}
use Rattle.std.proofs.Common.{[]}
use Rattle.mm_image.proofs.Reaching.{first_stops}
use Rattle.mm_image.proofs.subtrees.from_first.Goals as goal

pub returns-in_err-groups-clause-damaged : goal.returns-in_err-groups-clause-damaged
returns-in_err-groups-clause-damaged g c = λ maps.
    let p = err_from_is_err_and c.from_residual.result c.from_residual.ensures.1 in
    rw (p.1, p.2) (first_stops c.args.label.now c.as_bytes.result.now (g.K.Keeper.seen c.args.keeper.now).now [] c.args.steps.now c.gather.new.steps ((g.K.Keeper.seen c.args.keeper.now).place c.args.spot) c.in_err-groups.field-0.0
    c.as_bytes.ensures.label c.as_bytes.ensures.value (c.in_err-groups.ensures.stops maps))
