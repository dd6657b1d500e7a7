use Rattle.std.proofs.Common.{◌++◌, List, ap, sym, ◌∙◌, map, append-nil, ℕ, ℤ}
use Rattle.mm_tree.specs.declared.node.Node.{Node}
use Rattle.mm_tree.specs.Numbering.{forest_of}
use Rattle.mm_tree.specs.Search.{worded}
use Rattle.mm_image.specs.Image.{counted}
use Rattle.mm_image.specs.Inside.Cutting.{sized_list}
use Rattle.mm_image.proofs.Listing.{all_counted}
use Rattle.mm_image.proofs.bringing.word_counts.Goals as goal

pub returns : goal.returns
returns c =
    let counts = c.loop-word.counts.items in
    let nodes = worded (forest_of c.from_ref.result.now) in
    let g = c.into_iter-word-iterator.ensures.into_iter_gives in
    sym (append-nil counts)
    ∙ (ap (λ (z : List (List ℕ × List (List ℤ))). counts ++ map sized_list z) (sym c.in-None.ensures.steps.0)
    ∙ (c.loop-word.invariant
    ∙ (ap (map sized_list) g.0
    ∙ (all_counted nodes c.in_ok-items.items g.5 c.in_ok-items.ensures.lists c.in_ok-items.ensures.filled
    ∙ ap (λ (ns : List Node). counted (worded (forest_of ns))) c.from_ref.ensures.value))))
