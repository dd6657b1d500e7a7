use Rattle.std.proofs.Common.{◌≡◌, ◌<◌, ◌+◌, length, get_or, [], sym, ap, ◌∙◌, subst, arith}
use Rattle.mm_keeper.specs.Blocks.{joined, AllSome}
use Rattle.mm_keeper.specs.Facts.Blocked.{get-any}
use Rattle.mm_keeper.specs.Facts.Changing.{insert-joined, insert-some, some-set}
use Rattle.mm_keeper.proofs.sorted_map.split.Goals as goal

pub returns-clause-same : goal.returns-clause-same
returns-clause-same c =
    let bs = c.args.blocks.now.items in
    let rs = c.reserve.new.self.items in
    let at = c.args.at in
    let r : rs ≡ bs = c.reserve.ensures.items in
    let l : at < length rs = subst (λ t. at < length t) (sym r) c.requires.at in
    let m : c.behind-blocks.inside.items.items ≡ get_or rs at [] = c.behind-blocks.view_is ∙ c.index_mut.ensures.value ∙ get-any rs at _ [] l in
    ap joined c.in-Ok-insert.ensures.items ∙ insert-joined rs at (at + 1) c.halve.new.items.items c.in-Ok.high (omega arith) l (c.in-Ok.ensures.ok ∙ m) ∙ ap joined r

pub returns-clause-some : goal.returns-clause-some
returns-clause-some c =
    let rs = c.reserve.new.self.items in
    let r : rs ≡ c.args.blocks.now.items = c.reserve.ensures.items in
    subst AllSome (sym c.in-Ok-insert.ensures.items)
    (insert-some _ _ c.in-Ok.high (some-set rs c.args.at c.halve.new.items.items (subst AllSome (sym r) c.requires.some) c.in-Ok.ensures.low) c.in-Ok.ensures.high)
