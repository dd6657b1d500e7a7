use Rattle.std.proofs.Common.{◌≡◌, ◌+◌, length, get_or, [], ap, ◌∙◌, arith}
use Rattle.mm_keeper.specs.Facts.Blocked.{get-any}
use Rattle.mm_keeper.specs.Facts.Spots.{after-inside, after-block, after-none}
use Rattle.mm_keeper.proofs.sorted_map.spot_after.Goals as goal

pub returns-then-index-count : goal.returns-then-index-count
returns-then-index-count c =
    let bs = c.args.blocks.now in
    let b = c.args.spot.block in
    let n : c.len-count.result ≡ length (get_or bs b []) = c.len-count.ensures ∙ ap length (c.index-blocks-block.is ∙ get-any bs b _ [] c.requires.block) in
    after-inside bs b c.args.spot.index c.requires.block (omega arith)

pub returns-then-block-blocks : goal.returns-then-block-blocks
returns-then-block-blocks c =
    let bs = c.args.blocks.now in
    let b = c.args.spot.block in
    let n : c.len-count.result ≡ length (get_or bs b []) = c.len-count.ensures ∙ ap length (c.index-blocks-block.is ∙ get-any bs b _ [] c.requires.block) in
    after-block bs b (b + 1) c.args.spot.index (omega arith) c.requires.some (omega arith) c.requires.index (omega arith)

pub returns : goal.returns
returns c =
    let bs = c.args.blocks.now in
    let b = c.args.spot.block in
    let n : c.len-count.result ≡ length (get_or bs b []) = c.len-count.ensures ∙ ap length (c.index-blocks-block.is ∙ get-any bs b _ [] c.requires.block) in
    after-none bs b c.args.spot.index c.requires.block (omega arith) c.requires.index (omega arith)

pub overflow_add-index : goal.overflow_add-index
overflow_add-index c =
    let bs = c.args.blocks.now in
    let b = c.args.spot.block in
    let n : c.len-count.result ≡ length (get_or bs b []) = c.len-count.ensures ∙ ap length (c.index-blocks-block.is ∙ get-any bs b _ [] c.requires.block) in
    omega (arith, c.requires.index)
