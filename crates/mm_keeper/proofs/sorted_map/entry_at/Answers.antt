use Rattle.std.proofs.Common.{◌≡◌, ◌<◌, length, get_or, [], Some, sym, ap, ap₂, ◌∙◌, subst}
use Rattle.mm_keeper.specs.Facts.Blocked.{get-any, entry-at}
use Rattle.mm_keeper.proofs.sorted_map.entry_at.Goals as goal

pub bounds-items-spot : goal.bounds-items-spot
bounds-items-spot c =
    let bs = c.args.blocks.now in
    let b = c.args.spot.block in
    let m : c.items-items.result.now ≡ get_or bs b [] = c.items-items.ensures ∙ c.index-blocks-spot.is ∙ get-any bs b _ [] c.requires.block in
    subst (λ t. c.args.spot.index < length t) (sym m) c.requires.index

pub returns : goal.returns
returns c =
    let bs = c.args.blocks.now in
    let b = c.args.spot.block in
    let i = c.args.spot.index in
    let m : c.items-items.result.now ≡ get_or bs b [] = c.items-items.ensures ∙ c.index-blocks-spot.is ∙ get-any bs b _ [] c.requires.block in
    let e : c.index-items-spot.result ≡ get_or (get_or bs b []) i c.index-items-spot.result = c.index-items-spot.is ∙ ap (λ t. get_or t i c.index-items-spot.result) m in
    entry-at bs b i c.index-items-spot.result c.requires.block c.requires.index ∙ ap (λ t. Some t) (sym e) ∙ ap₂ (λ a b. Some (a, b)) (sym c.key.ensures) (sym c.value.ensures)
