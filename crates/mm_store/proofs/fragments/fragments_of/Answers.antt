use Rattle.std.proofs.Common.{◌+◌, ◌∙◌, ap, sym, subst, arith, Err, IfErr}
use Rattle.std.proofs.lemmas.Result.{err_from_is_err_and}
use Rattle.mm_image.specs.Facts.Grounds.{ground_along}
use Rattle.mm_image.specs.Ground.{HoldsImage}
use Rattle.mm_label.specs.Facts.Members.{within_of}
use Rattle.mm_lists.specs.Causes.{IsSound}
use Rattle.mm_store.proofs.Shown.{cost_front, cost_more, fragments_more}
use Rattle.mm_store.proofs.fragments.fragments_of.Goals as goal

pub returns-in_err-fragment-clause-undamaged : goal.returns-in_err-fragment-clause-undamaged
returns-in_err-fragment-clause-undamaged g c = λ f h told.
    let i = c.loop-root.invariant in
    let x = c.root-item.result in
    let n = told.nodes x (within_of x c.args.labels.now (c.loop-root.root-index, c.loop-root-test.true, sym c.root-item.is)) in
    let later : HoldsImage g.K.Keeper.has_maps g.K.Keeper.seen c.loop-root.keeper f = (i.ground.maps.0 h.0, h.1, ap (λ z. z.now) (i.ground.same h.0) ∙ h.2) in
    let p = err_from_is_err_and c.from_residual.result c.from_residual.ensures.1 in
    subst (λ z. IfErr z IsSound) (sym (p.1 ∙ ap Err p.2)) (c.in_err-fragment.ensures.undamaged f n.0 later n.1 told.rising (told.told x n.0 n.1))

pub returns-in_err-fragment-clause-cost : goal.returns-in_err-fragment-clause-cost
returns-in_err-fragment-clause-cost g c = λ f h told.
    let i = c.loop-root.invariant in
    let x = c.root-item.result in
    let n = told.nodes x (within_of x c.args.labels.now (c.loop-root.root-index, c.loop-root-test.true, sym c.root-item.is)) in
    let later : HoldsImage g.K.Keeper.has_maps g.K.Keeper.seen c.loop-root.keeper f = (i.ground.maps.0 h.0, h.1, ap (λ z. z.now) (i.ground.same h.0) ∙ h.2) in
    let more = cost_more c.args.query.now f c.args.labels.now c.loop-root.root-index x n.0 c.loop-root-test.true c.root-item.is n.1 in
    let front = cost_front c.args.query.now f c.args.labels.now (c.loop-root.root-index + 1) in
    let own = c.stored_fragment.ensures.cost f n.0 later n.1 told.rising (told.told x n.0 n.1) in
    omega (arith, i.steps f h told, more, front, own)

pub returns-in_err-push-clause-ground : goal.returns-in_err-push-clause-ground
returns-in_err-push-clause-ground g c =
    ground_along g.K.Keeper.over g.K.Keeper.has_maps g.K.Keeper.tells g.K.Keeper.seen g.K.Keeper.written g.K.Keeper.changes g.K.Keeper.moment g.K.Keeper.left_since c.args.keeper.now c.loop-root.keeper c.stored_fragment.new.keeper g.met.K.Keeper.counts_now c.loop-root.invariant.ground c.stored_fragment.ensures.ground

pub returns-in_err-push-clause-cost : goal.returns-in_err-push-clause-cost
returns-in_err-push-clause-cost g c = λ f h told.
    let i = c.loop-root.invariant in
    let x = c.root-item.result in
    let n = told.nodes x (within_of x c.args.labels.now (c.loop-root.root-index, c.loop-root-test.true, sym c.root-item.is)) in
    let later : HoldsImage g.K.Keeper.has_maps g.K.Keeper.seen c.loop-root.keeper f = (i.ground.maps.0 h.0, h.1, ap (λ z. z.now) (i.ground.same h.0) ∙ h.2) in
    let more = cost_more c.args.query.now f c.args.labels.now c.loop-root.root-index x n.0 c.loop-root-test.true c.root-item.is n.1 in
    let front = cost_front c.args.query.now f c.args.labels.now (c.loop-root.root-index + 1) in
    let own = c.stored_fragment.ensures.cost f n.0 later n.1 told.rising (told.told x n.0 n.1) in
    omega (arith, i.steps f h told, more, front, own)

pub loop-root-preserved : goal.loop-root-preserved
loop-root-preserved g c =
    let i = c.loop-root.invariant in
    let x = c.root-item.result in
    record {
      value = λ f h told.
          let n = told.nodes x (within_of x c.args.labels.now (c.loop-root.root-index, c.loop-root-test.true, sym c.root-item.is)) in
          let later : HoldsImage g.K.Keeper.has_maps g.K.Keeper.seen c.loop-root.keeper f = (i.ground.maps.0 h.0, h.1, ap (λ z. z.now) (i.ground.same h.0) ∙ h.2) in
          fragments_more c.args.query.now f c.args.labels.now c.loop-root.root-index x n.0 c.loop-root.fragments c.push.new.self c.in_ok-fragment.fragment c.loop-root-test.true c.root-item.is n.1 (i.value f h told) (c.in_ok-fragment.ensures.value f n.0 later n.1 told.rising (told.told x n.0 n.1)) c.in_ok-push.ensures.ok;
      sound = c.stored_fragment.ensures.sound;
      ground = ground_along g.K.Keeper.over g.K.Keeper.has_maps g.K.Keeper.tells g.K.Keeper.seen g.K.Keeper.written g.K.Keeper.changes g.K.Keeper.moment g.K.Keeper.left_since c.args.keeper.now c.loop-root.keeper c.stored_fragment.new.keeper g.met.K.Keeper.counts_now i.ground c.stored_fragment.ensures.ground;
      later = omega (arith, i.later, c.stored_fragment.ensures.cause.later);
      unspent = λ e. i.unspent (c.in_ok-fragment.ensures.cause.ok e);
      steps = λ f h told.
          let n = told.nodes x (within_of x c.args.labels.now (c.loop-root.root-index, c.loop-root-test.true, sym c.root-item.is)) in
          let later : HoldsImage g.K.Keeper.has_maps g.K.Keeper.seen c.loop-root.keeper f = (i.ground.maps.0 h.0, h.1, ap (λ z. z.now) (i.ground.same h.0) ∙ h.2) in
          let more = cost_more c.args.query.now f c.args.labels.now c.loop-root.root-index x n.0 c.loop-root-test.true c.root-item.is n.1 in
          let own = c.stored_fragment.ensures.cost f n.0 later n.1 told.rising (told.told x n.0 n.1) in
          omega (arith, i.steps f h told, more, own);
    }
