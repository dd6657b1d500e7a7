use Rattle.std.proofs.Common.{◌≡◌, ◌++◌, ◌∷◌, [], sym, ap₂, ◌∙◌, subst}
use Rattle.mm_keeper.specs.Entries.{Rises, lookup}
use Rattle.mm_keeper.specs.Blocks.{joined}
use Rattle.mm_keeper.specs.Inside.Olds.{before_all}
use Rattle.mm_keeper.specs.Facts.Keys.{Rises-put}
use Rattle.mm_keeper.specs.Facts.Olds.{noted-put}
use Rattle.mm_keeper.proofs.vec_keeper.put_noted.Goals as goal

pub returns-in-Ok-clause-sorted : goal.returns-in-Ok-clause-sorted
returns-in-Ok-clause-sorted c = record { rises = subst Rises (sym c.in-Ok.ensures.ok) (Rises-put c.args.key.now c.args.value.now (joined c.args.map.now) c.requires.sorted.rises) }

pub returns-in-Ok-clause-kept : goal.returns-in-Ok-clause-kept
returns-in-Ok-clause-kept c =
    let m = joined c.args.map.now in
    let k = c.args.key.now in
    let old : c.new.result ≡ (k, lookup m k) = c.new.ensures ∙ ap₂ (λ a b. (a, b)) c.in_ok-copy.ensures.ok c.in-Ok.ensures.before in
    ap₂ (λ t cs. before_all t cs) c.in-Ok.ensures.ok (c.push_reserved.ensures.items ∙ ap₂ (λ cs x. cs ++ x ∷ []) c.reserve.ensures.items old)
    ∙ noted-put k c.args.value.now m c.args.olds.now.items
