use Rattle.std.proofs.Common.{◌∙◌, ◌≡◌, sym, subst, Some, get_or, []}
use Rattle.std.proofs.lemmas.List.{get_or_default}
use Rattle.mm_tree.specs.Search.{list_of, lists_of, worded}
use Rattle.mm_lists.specs.Full.{Word}
use Rattle.mm_lists.specs.Lists.{IsNext}
use Rattle.mm_lists.specs.Facts.Nearest.{next_match}
use Rattle.mm_lists.specs.Facts.Formed.{formed}
use Rattle.mm_lists.specs.Facts.Listed.{list_ascends}
use Rattle.mm_lists.specs.Facts.Walking.{advances_none, advances_some, stands_within}
use Rattle.mm_lists.proofs.matches.next_candidate.Goals as goal

pub returns-in_default-clause-value : goal.returns-in_default-clause-value
returns-in_default-clause-value g c = λ f i w s n h.
    advances_none (lists_of c.args.words.now (worded f)) (list_of (get_or c.args.words.now c.args.own []) (worded f)) i c.args.at.now c.take.new.self (sym c.take.ensures.value ∙ c.in_default.is) c.take.ensures.after h

pub returns-clause-value : goal.returns-clause-value
returns-clause-value g c = λ f i w s n h.
    let ls = lists_of c.args.words.now (worded f) in
    let ms = list_of (get_or c.args.words.now c.args.own []) (worded f) in
    let v = c.in-Some.v in
    let e : c.index-words-own.result ≡ get_or c.args.words.now c.args.own [] = c.index-words-own.is ∙ get_or_default c.args.words.now c.args.own c.index-words-own.result [] c.requires in
    let here : c.args.at.now ≡ Some v = sym c.take.ensures.value ∙ c.in-Some.is in
    advances_some ls ms i c.args.at.now v c.in_ok-found.found c.in_ok-at.field-0 (list_ascends [] _ (worded f) (formed f w)) here h
    (c.in_ok-found.ensures.value f w s n (stands_within ms i v (sym here ∙ h)))
    (next_match ms v c.in_ok-at.field-0 (subst (λ (q : Word). IsNext (list_of q (worded f)) v c.in_ok-at.field-0) e (c.in_ok-at.ensures.value f ((c.candidate.ensures.leaves.kept f).0 s))))
