use Rattle.std.proofs.Common.{◌≡◌, ◌++◌, ◌∷◌, [], sym, ap₂, ◌∙◌, subst}
use Rattle.mm_keeper.specs.Entries.{Rises, lookup}
use Rattle.mm_keeper.specs.Blocks.{joined}
use Rattle.mm_keeper.specs.Inside.Olds.{before_all}
use Rattle.mm_keeper.specs.Facts.Keys.{Rises-without, has-some, has-none}
use Rattle.mm_keeper.specs.Facts.Changing.{of-some, of-none, without-none}
use Rattle.mm_keeper.specs.Facts.Olds.{noted-without}
use Rattle.mm_keeper.proofs.vec_keeper.remove_noted.Goals as goal

pub returns-in-Some-clause-told : goal.returns-in-Some-clause-told
returns-in-Some-clause-told c =
    let m = joined c.args.map.now in
    let k = c.args.key.now in
    sym (has-some k _ m (of-some k c.in-Some.before (lookup m k) c.in-Some.ensures.before).1)

pub returns-in-Some-clause-sorted : goal.returns-in-Some-clause-sorted
returns-in-Some-clause-sorted c = record { rises = subst Rises (sym c.in-Some.ensures.without) (Rises-without c.args.key.now (joined c.args.map.now) c.requires.rises) }

pub returns-in-Some-clause-kept : goal.returns-in-Some-clause-kept
returns-in-Some-clause-kept c =
    let m = joined c.args.map.now in
    let k = c.args.key.now in
    let held = (of-some k c.in-Some.before (lookup m k) c.in-Some.ensures.before).1 in
    let old : c.new.result ≡ (k, lookup m k) = c.new.ensures ∙ ap₂ (λ a b. (a, b)) c.in_ok-copy.ensures.ok (sym held) in
    ap₂ (λ t cs. before_all t cs) c.in-Some.ensures.without (c.push_reserved.ensures.items ∙ ap₂ (λ cs x. cs ++ x ∷ []) c.reserve.ensures.items old)
    ∙ noted-without k m c.args.olds.now.items c.requires.rises

pub returns-in-None-clause-told : goal.returns-in-None-clause-told
returns-in-None-clause-told c =
    let m = joined c.args.map.now in
    let k = c.args.key.now in
    sym (has-none k m (of-none k (lookup m k) c.in-None.ensures.before))

pub returns-in-None-clause-sorted : goal.returns-in-None-clause-sorted
returns-in-None-clause-sorted c = record { rises = subst Rises (sym c.in-None.ensures.without) (Rises-without c.args.key.now (joined c.args.map.now) c.requires.rises) }

pub returns-in-None-clause-kept : goal.returns-in-None-clause-kept
returns-in-None-clause-kept c =
    let m = joined c.args.map.now in
    let k = c.args.key.now in
    ap₂ (λ t cs. before_all t cs) (c.in-None.ensures.without ∙ without-none k m (of-none k (lookup m k) c.in-None.ensures.before)) c.reserve.ensures.items
