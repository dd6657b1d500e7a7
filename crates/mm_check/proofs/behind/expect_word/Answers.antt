use Rattle.std.proofs.Common.{◌≡◌, ◌++◌, ◌+◌, ◌∷◌, ◌∙◌, [], drop}
use Rattle.std.proofs.lemmas.Result.{err_from_is_err_and}
use Rattle.mm_check.specs.Inside.Stopping.{listed}
use Rattle.mm_image.specs.Keys.{occurrence_key}
use Rattle.mm_check.proofs.Passing.{listed_next, told_onward}
use Rattle.mm_check.proofs.behind.expect_word.Goals as goal

pub returns-in_err-at-clause-differs : goal.returns-in_err-at-clause-differs
returns-in_err-at-clause-differs g c = λ maps due.
    let p = err_from_is_err_and c.from_residual-in_err-at.result c.from_residual-in_err-at.ensures.1 in
    let word = c.args.word.now in
    let labels = c.args.labels.now in
    let i = c.loop-label.label-index in
    let key = c.as_slice.result.now in
    let more = listed (word, drop (i + 1) labels) ++ due in
    let same : key ≡ occurrence_key word c.label-item.result = c.as_slice.ensures ∙ c.in_ok-key.ensures in
    rw (p.1, p.2) (told_onward (g.K.Keeper.seen c.args.keeper.now) (g.K.Keeper.seen c.loop-label.keeper) c.args.at c.loop-label.at (listed (word, labels) ++ due) (listed (word, drop i labels) ++ due) ((key, []) ∷ more) c.in_err-at.field-0.0
    (c.loop-label.invariant.ground.same maps) (c.loop-label.invariant.differs maps due)
    (listed_next word labels i c.label-item.result key due c.loop-label-test.true c.label-item.is same)
    (c.in_err-at.ensures.differs (c.loop-label.invariant.ground.maps.0 maps) more))
