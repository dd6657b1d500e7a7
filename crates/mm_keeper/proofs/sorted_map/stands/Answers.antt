use Rattle.std.proofs.Common.{◌≡◌, ◌<◌, length, get_or, [], refl, ap, ◌∙◌, arith}
use Rattle.mm_keeper.specs.Facts.Blocked.{get-any, place-in_range, place-inside}
use Rattle.mm_keeper.proofs.sorted_map.stands.Goals as goal

pub returns-then-spot-blocks : goal.returns-then-spot-blocks
returns-then-spot-blocks c =
    ((λ yes. absurd cc), (λ h. absurd (omega (arith, c.if-spot-blocks.true, (place-in_range c.args.blocks.now c.args.spot.block c.args.spot.index h).0))))

pub returns-then-spot-items : goal.returns-then-spot-items
returns-then-spot-items c =
    let bs = c.args.blocks.now in
    let b = c.args.spot.block in
    let block : b < length bs = omega (arith, c.if-spot-blocks.false) in
    let m : c.items.result.now ≡ get_or bs b [] = c.items.ensures ∙ c.index-blocks-spot.is ∙ get-any bs b _ [] block in
    ((λ yes. absurd cc), (λ h. absurd (omega (arith, c.if-spot-items.true, ap length m, (place-in_range bs b c.args.spot.index h).1))))

pub returns : goal.returns
returns c =
    let bs = c.args.blocks.now in
    let b = c.args.spot.block in
    let block : b < length bs = omega (arith, c.if-spot-blocks.false) in
    let m : c.items.result.now ≡ get_or bs b [] = c.items.ensures ∙ c.index-blocks-spot.is ∙ get-any bs b _ [] block in
    ((λ _. place-inside bs b c.args.spot.index block (omega (arith, c.if-spot-items.false, ap length m))), (λ _. refl))
