use Rattle.std.proofs.Common.{ap, ◌∙◌, Option, get_or, []}
use Rattle.mm_tree.specs.Search.{list_of, lists_of, worded}
use Rattle.mm_label.specs.Fronts.{Label, or_empty}
use Rattle.mm_lists.specs.Facts.Formed.{formed}
use Rattle.mm_lists.specs.Facts.Listed.{list_ascends}
use Rattle.mm_slca.specs.Inside.Walk.{taken_done, taken_held}
use Rattle.mm_slca.proofs.Walking.{stands_taken}
use Rattle.mm_slca.proofs.search.pass.Goals as goal

pub returns-clause-value : goal.returns-clause-value
returns-clause-value g c = λ f i w s n k.
    stands_taken (lists_of c.args.words.now (worded f)) (list_of (get_or c.args.words.now c.args.own []) (worded f)) i _ _ c.args.at.now c.next_candidate.new.at c.in_ok-found.found _ _ (list_ascends [] _ (worded f) (formed f w)) k
    (c.in_ok-found.ensures.value f i w s n k.here)
    (c.in_ok-walk.ensures.0 ∙ ap (λ (h : Option Label). taken_done c.args.walk.now.done (or_empty h) (or_empty c.in_ok-found.found)) c.take-held.ensures.value)
    (c.in_ok-walk.ensures.1 ∙ ap (λ (h : Option Label). taken_held (or_empty h) (or_empty c.in_ok-found.found)) c.take-held.ensures.value)
