use Rattle.std.proofs.lemmas.Result.{err_from_is_err_and}
use Rattle.mm_check.proofs.Walking.{spells_all, spells_ended, spells_stopped}
use Rattle.mm_check.proofs.chunks.read_chunks.Goals as goal

pub returns-in_err-at-clause-spells : goal.returns-in_err-at-clause-spells
returns-in_err-at-clause-spells g c = λ maps.
    let p = err_from_is_err_and c.from_residual-in_err-at.result c.from_residual-in_err-at.ensures.1 in
    rw (p.1, p.2) (spells_stopped (g.K.Keeper.seen c.args.keeper.now) (g.K.Keeper.seen c.up.new.self) (c.up.ensures.same maps) c.in_ok-first.first c.args.reader.now c.run.new.reader c.requires.begins (c.in_ok-first.ensures.found maps) c.in_err-at.field-0.0 (c.in_err-at.ensures.runs (c.up.ensures.keeps.maps.0 maps)))

pub returns-in_err-end-clause-spells : goal.returns-in_err-end-clause-spells
returns-in_err-end-clause-spells g c = λ maps.
    let p = err_from_is_err_and c.from_residual-in_err-end.result c.from_residual-in_err-end.ensures.1 in
    rw (p.1, p.2) (spells_ended (g.K.Keeper.seen c.args.keeper.now) (g.K.Keeper.seen c.up.new.self) (c.up.ensures.same maps) c.in_ok-first.first c.args.reader.now c.run.new.reader c.requires.begins (c.in_ok-first.ensures.found maps) c.in_ok-at.at c.end.new.self c.in_err-end.field-0.0 (c.in_ok-at.ensures.runs (c.up.ensures.keeps.maps.0 maps)) c.in_err-end.ensures.finishes c.in_err-end.ensures.wants)

pub returns-clause-spells : goal.returns-clause-spells
returns-clause-spells g c = λ maps.
    spells_all (g.K.Keeper.seen c.args.keeper.now) (g.K.Keeper.seen c.up.new.self) (c.up.ensures.same maps) c.in_ok-first.first c.args.reader.now c.run.new.reader c.requires.begins (c.in_ok-first.ensures.found maps) c.in_ok-at.at c.end.new.self (c.in_ok-at.ensures.runs (c.up.ensures.keeps.maps.0 maps)) c.in_ok-end.ensures.finishes
