use Rattle.std.proofs.Common.{ap, sym, subst}
use Rattle.mm_keeper.specs.Entries.{Entries}
use Rattle.mm_edit.specs.Inside.Counting.{BlamesCount, BlamesCounts}
use Rattle.mm_edit.proofs.Numbers.{blamed_counts, err_told}
use Rattle.mm_edit.proofs.counting.push_counts.Goals as goal

pub returns-in_err-held-clause-damaged : goal.returns-in_err-held-clause-damaged
returns-in_err-held-clause-damaged g c = λ maps.
    let m = (g.K.Keeper.seen c.args.keeper.now).now in
    let t = c.change-item.result in
    let ground = c.loop-change.invariant.ground in
    let blamed = blamed_counts m c.args.words.now t c.loop-change.change-index c.in_err-held.field-0.0 c.loop-change-test.true c.change-item.is
    (subst (λ (z : Entries). BlamesCount z t.word c.in_err-held.field-0.0) (ap (λ z. z.now) (ground.same maps)) (c.in_err-held.ensures.damaged (ground.maps.0 maps))) in
    err_told c.from_residual.result c.from_residual.ensures.1 (λ f q. subst (BlamesCounts m c.args.words.now) (sym q) blamed)
