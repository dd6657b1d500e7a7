use Rattle.std.proofs.lemmas.Result.{err_from_is_err_and}
use Rattle.std.proofs.Common.{refl}
use Rattle.mm_image.proofs.Spots.{goes_after, goes_off, stops_after, stops_look}
use Rattle.mm_image.proofs.subtrees.go_on.Goals as goal

pub returns-in_err-look_at-clause-stops : goal.returns-in_err-look_at-clause-stops
returns-in_err-look_at-clause-stops g c = λ maps.
    let p = err_from_is_err_and c.from_residual.result c.from_residual.ensures.1 in
    rw (p.1, p.2) (stops_look c.args.front.now (g.K.Keeper.seen c.args.keeper.now) c.args.spot c.args.groups.now c.look_at.new.groups (c.requires.stands maps) c.args.steps.now c.args.steps.now c.in_err-look_at.field-0.0 (c.in_err-look_at.ensures.looks maps) refl)

pub returns-then-branch-clause-goes : goal.returns-then-branch-clause-goes
returns-then-branch-clause-goes g c = λ maps.
    goes_after c.args.front.now (g.K.Keeper.seen c.args.keeper.now) c.args.spot c.args.groups.now c.look_at.new.groups (c.requires.stands maps) (g.K.Keeper.seen c.look_at.new.keeper) c.args.steps.now c.after.new.steps c.after.result
    (rw c.if-branch.true at (c.in_ok-look_at.ensures.looks maps)) (c.look_at.ensures.ground.same maps) (c.after.ensures.found (c.look_at.ensures.ground.maps.0 maps)) c.after.ensures.step

pub returns-then-branch-clause-stops : goal.returns-then-branch-clause-stops
returns-then-branch-clause-stops g c = λ maps.
    stops_after c.args.front.now (g.K.Keeper.seen c.args.keeper.now) c.args.spot c.args.groups.now c.look_at.new.groups (c.requires.stands maps) c.args.steps.now c.after.new.steps c.after.result
    (rw c.if-branch.true at (c.in_ok-look_at.ensures.looks maps)) (c.after.ensures.keeps.no_damage (c.look_at.ensures.ground.maps.0 maps)) c.after.ensures.step

pub returns-else-branch-clause-goes : goal.returns-else-branch-clause-goes
returns-else-branch-clause-goes g c = λ maps.
    goes_off c.args.front.now (g.K.Keeper.seen c.args.keeper.now) c.args.spot c.args.groups.now c.look_at.new.groups (c.requires.stands maps) c.args.steps.now c.args.steps.now
    (rw c.if-branch.false at (c.in_ok-look_at.ensures.looks maps)) refl
