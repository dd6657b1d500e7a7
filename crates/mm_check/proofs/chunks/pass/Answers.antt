use Rattle.std.proofs.lemmas.Result.{err_from_is_err_and}
use Rattle.mm_check.proofs.Walking.{none_here, passed_here, stopped_here, weighs_here}
use Rattle.mm_check.proofs.chunks.pass.Goals as goal

pub returns-in_err-read_at-clause-passes : goal.returns-in_err-read_at-clause-passes
returns-in_err-read_at-clause-passes g c = λ maps reached.
    let p = err_from_is_err_and c.from_residual.result c.from_residual.ensures.1 in
    rw (p.1, p.2) (stopped_here (g.K.Keeper.seen c.args.keeper.now) c.args.spot c.args.reader.now c.read_at.new.reader (c.requires.stands maps) reached c.in_err-read_at.field-0.0 (c.in_err-read_at.ensures.reads maps))

pub returns-in_ok-after-clause-passes : goal.returns-in_ok-after-clause-passes
returns-in_ok-after-clause-passes g c = λ maps reached.
    passed_here (g.K.Keeper.seen c.args.keeper.now) c.args.spot c.args.reader.now c.read_at.new.reader (c.requires.stands maps) reached (g.K.Keeper.seen c.read_at.new.keeper) c.in_ok-after.field-0 c.in_ok-read_at.field-0
    (g.met.K.Keeper.sorted c.args.keeper.now c.requires.sound maps).rises (c.read_at.ensures.ground.same maps) (c.in_ok-after.ensures.found (c.read_at.ensures.ground.maps.0 maps)) c.if-branch.true (c.in_ok-read_at.ensures.reads maps)

pub returns-in_ok-after-clause-weighs : goal.returns-in_ok-after-clause-weighs
returns-in_ok-after-clause-weighs g c = λ maps.
    weighs_here (g.K.Keeper.seen c.args.keeper.now) (g.K.Keeper.seen c.read_at.new.keeper) c.args.spot c.args.reader.now c.read_at.new.reader c.in_ok-after.field-0 c.in_ok-read_at.field-0
    (c.requires.stands maps) (c.read_at.ensures.ground.same maps) (c.in_ok-after.ensures.found (c.read_at.ensures.ground.maps.0 maps)) c.if-branch.true (c.in_ok-read_at.ensures.reads maps)

pub returns-else-branch-clause-passes : goal.returns-else-branch-clause-passes
returns-else-branch-clause-passes g c = λ maps reached.
    none_here (g.K.Keeper.seen c.args.keeper.now) c.args.spot c.args.reader.now c.read_at.new.reader (c.requires.stands maps) reached c.in_ok-read_at.field-0
    (g.met.K.Keeper.sorted c.args.keeper.now c.requires.sound maps).rises c.if-branch.false (c.in_ok-read_at.ensures.reads maps)
