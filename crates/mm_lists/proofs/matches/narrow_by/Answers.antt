use Rattle.std.proofs.Common.{sym, subst, ◌∷◌, [], ◌++◌}
use Rattle.mm_tree.specs.Search.{list_of, worded}
use Rattle.mm_label.specs.Fronts.{Label, or_empty}
use Rattle.mm_lists.specs.Full.{IsCandidate}
use Rattle.mm_lists.specs.Inside.Narrowing.{narrowed}
use Rattle.mm_lists.specs.Facts.Nearest.{left_match, right_match}
use Rattle.mm_lists.specs.Facts.Candidates.{candidate_more}
use Rattle.mm_lists.proofs.matches.narrow_by.Goals as goal

pub returns-clause-value : goal.returns-clause-value
returns-clause-value g c = λ f ls s m k.
    let h = left_match _ _ _ (c.in_ok-left.ensures.value f s) in
    let r = right_match _ _ _ (c.in_ok-right.ensures.value f ((c.left.ensures.leaves.kept f).0 s)) in
    subst (λ (y : Label). IsCandidate (ls ++ list_of c.args.word.now (worded f) ∷ []) c.args.v.now y) (sym {b = narrowed (or_empty c.args.x) c.in_ok-left.left c.in_ok-right.right} c.in_ok-narrower.ensures) (candidate_more ls _ _ _ _ _ k h r m)
