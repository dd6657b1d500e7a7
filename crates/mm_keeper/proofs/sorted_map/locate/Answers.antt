use Rattle.std.proofs.Common.{◌<◌, length, [], sym, ap, ◌∙◌, subst, arith}
use Rattle.mm_keeper.specs.Entries.{Rises, has}
use Rattle.mm_keeper.specs.Facts.Blocked.{has-end, has-at, rises_at, get-any}
use Rattle.mm_keeper.proofs.sorted_map.locate.Goals as goal

pub returns-then-block-blocks-clause-has : goal.returns-then-block-blocks-clause-has
returns-then-block-blocks-clause-has c = sym (has-end c.args.key.now c.args.blocks.now c.block_of-block.result c.block_of-block.ensures.at (omega arith))

pub rank_of-index-requires : goal.rank_of-index-requires
rank_of-index-requires c =
    let bs = c.args.blocks.now in
    let i = c.block_of-block.result in
    let l : i < length bs = omega arith in
    subst Rises (sym (c.items.ensures ∙ c.index-blocks-block.is ∙ get-any bs i _ [] l)) (rises_at bs i c.requires.rises l)

pub returns-clause-has : goal.returns-clause-has
returns-clause-has c =
    let bs = c.args.blocks.now in
    let k = c.args.key.now in
    let i = c.block_of-block.result in
    let l : i < length bs = omega arith in
    c.holds-found.ensures.has ∙ ap (λ m. has m k) (c.items-2.ensures ∙ c.index-blocks-block-2.is ∙ get-any bs i _ [] l) ∙ sym (has-at k bs i c.block_of-block.ensures.at l)
