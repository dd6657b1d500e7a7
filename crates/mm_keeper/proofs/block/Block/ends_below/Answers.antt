use Rattle.std.proofs.Common.{◌≡◌, ◌<◌, ◌-◌, length, get_or, sym, ap, ◌∙◌, subst, arith}
use Rattle.mm_keeper.specs.Entries.{below}
use Rattle.mm_keeper.specs.Facts.Blocked.{ends_at}
use Rattle.mm_keeper.proofs.block.Block.ends_below.Goals as goal

pub returns-else-count-eq0 : goal.returns-else-count-eq0
returns-else-count-eq0 c =
    let m = c.args.self.now in
    let k = c.args.key.now in
    let e : c.as_slice-items.result.now ≡ m = c.as_slice-items.ensures.value ∙ c.self.view_is in
    let l : 0 < length c.as_slice-items.result.now = omega arith in
    c.is_below.ensures ∙ ap (λ x. below x.0 k) (c.index-items-count.is ∙ ap (λ t. get_or t (length t - 1) c.index-items-count.result) e)
    ∙ sym (ends_at k m c.index-items-count.result (subst (λ t. 0 < length t) e l))
