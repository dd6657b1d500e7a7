use Rattle.std.proofs.Common.{◌∙◌, ap, sym, subst, arith, None, Err, IfErr}
use Rattle.std.proofs.lemmas.Result.{err_from_is_err_and}
use Rattle.mm_image.specs.Facts.Grounds.{accounts_along, ground_along}
use Rattle.mm_image.specs.Ground.{HoldsImage}
use Rattle.mm_image.specs.Subtrees.{IsUndamaged}
use Rattle.mm_label.specs.Facts.Members.{within_of}
use Rattle.mm_store.proofs.Naming.{hits_more}
use Rattle.mm_store.proofs.hits.hits_of.Goals as goal

pub returns-in_err-name-clause-undamaged : goal.returns-in_err-name-clause-undamaged
returns-in_err-name-clause-undamaged g c = λ f h nodes.
    let i = c.loop-label.invariant in
    let x = c.label-item.result in
    let n = nodes x (within_of x c.args.labels.now (c.loop-label.label-index, c.loop-label-test.true, sym c.label-item.is)) in
    let p = err_from_is_err_and c.from_residual.result c.from_residual.ensures.1 in
    subst (λ z. IfErr z IsUndamaged) (sym (p.1 ∙ ap Err p.2)) (c.in_err-name.ensures.undamaged f n.0 (i.ground.maps.0 h.0, h.1, ap (λ z. z.now) (i.ground.same h.0) ∙ h.2) n.1)

pub loop-label-preserved : goal.loop-label-preserved
loop-label-preserved g c =
    let i = c.loop-label.invariant in
    let x = c.label-item.result in
    record {
      value = λ f h nodes.
          let n = nodes x (within_of x c.args.labels.now (c.loop-label.label-index, c.loop-label-test.true, sym c.label-item.is)) in
          let later : HoldsImage g.K.Keeper.has_maps g.K.Keeper.seen c.loop-label.keeper f = (i.ground.maps.0 h.0, h.1, ap (λ z. z.now) (i.ground.same h.0) ∙ h.2) in
          hits_more f c.args.labels.now c.loop-label.label-index x n.0 c.loop-label.hits c.push.new.self c.in_ok-copy.field-0 c.in_ok-name.name c.loop-label-test.true c.label-item.is n.1 (i.value f h nodes) c.in_ok-copy.ensures (c.in_ok-name.ensures.image f n.0 later n.1) c.in_ok-push.ensures.ok;
      ground = ground_along g.K.Keeper.over g.K.Keeper.has_maps g.K.Keeper.tells g.K.Keeper.seen g.K.Keeper.written g.K.Keeper.changes g.K.Keeper.moment g.K.Keeper.left_since c.args.keeper.now c.loop-label.keeper c.node_name.new.keeper g.met.K.Keeper.counts_now i.ground c.node_name.ensures.ground;
      accounts = accounts_along g.K.Keeper.over g.K.Keeper.has_maps g.K.Keeper.is_sound g.K.Keeper.is_spent g.K.Keeper.fault_count g.K.Keeper.want_count c.args.keeper.now c.loop-label.keeper c.node_name.new.keeper None i.accounts c.in_ok-name.ensures.accounts;
      steps = omega (arith, i.steps, c.node_name.ensures.cost);
    }
