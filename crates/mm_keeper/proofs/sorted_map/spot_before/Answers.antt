use Rattle.std.proofs.Common.{◌≡◌, ◌<◌, ◌-◌, length, get_or, [], Some, sym, ap, ◌∙◌, arith}
use Rattle.mm_keeper.specs.Entries.{one_before}
use Rattle.mm_keeper.specs.Blocks.{place_in}
use Rattle.mm_keeper.specs.Facts.Blocked.{get-any, some_at}
use Rattle.mm_keeper.specs.Facts.Spots.{before-inside, before-first, before-block}
use Rattle.mm_keeper.proofs.sorted_map.spot_before.Goals as goal

pub returns-then-index-gt0 : goal.returns-then-index-gt0
returns-then-index-gt0 c = before-inside c.args.blocks.now c.args.spot.block c.args.spot.index (omega arith) c.requires.index

pub returns-then-block-eq0 : goal.returns-then-block-eq0
returns-then-block-eq0 c =
    let b : c.args.spot.block ≡ 0 = omega arith in
    let i : c.args.spot.index ≡ 0 = omega arith in
    before-first c.args.blocks.now c.requires.some ∙ ap (λ n. one_before (place_in c.args.blocks.now n 0)) (sym b) ∙ ap (λ n. one_before (place_in c.args.blocks.now c.args.spot.block n)) (sym i)

pub overflow_sub-index : goal.overflow_sub-index
overflow_sub-index c =
    let bs = c.args.blocks.now in
    let b = c.args.spot.block in
    let l : b - 1 < length bs = omega arith in
    let n : c.len-index.result ≡ length (get_or bs (b - 1) []) = c.len-index.ensures ∙ ap length (c.index-blocks-block.is ∙ get-any bs (b - 1) _ [] l) in
    omega (arith, some_at bs (b - 1) c.requires.some l)

pub returns : goal.returns
returns c =
    let bs = c.args.blocks.now in
    let b = c.args.spot.block in
    let l : b - 1 < length bs = omega arith in
    let i : c.args.spot.index ≡ 0 = omega arith in
    ap (λ n. Some (place_in bs (b - 1) (n - 1))) c.len-index.ensures
    ∙ before-block bs b c.index-blocks-block.result c.requires.some (omega arith) c.requires.block (c.index-blocks-block.is ∙ get-any bs (b - 1) _ [] l)
    ∙ ap (λ n. one_before (place_in bs b n)) (sym i)
