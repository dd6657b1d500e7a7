use Rattle.std.proofs.Common.{◌≡◌, sym, subst, ap, ◌∙◌, Option, MatchOption}
use Rattle.std.proofs.lemmas.Result.{IfOk-weaker}
use Rattle.mm_tree.specs.declared.fragment.Fragment.{Fragment}
use Rattle.mm_tree.specs.Trees.{none}
use Rattle.mm_tree.specs.Numbering.{forest_of}
use Rattle.mm_tree.specs.Fragments.{fragment, fragment_tree}
use Rattle.mm_fragment.specs.Showing.{named_in, shown_at}
use Rattle.mm_fragment.proofs.Assembling.{assembled}
use Rattle.mm_fragment.proofs.calls.assembled.Goals as goal

pub returns-in-Some : goal.returns-in-Some
returns-in-Some c = λ t w h e.
    let f = forest_of c.args.forest.now in
    let query = c.args.words.now in
    let x = c.args.root.now in
    subst (λ (o : Option Fragment). MatchOption o (fragment query (named_in t) ≡ (shown_at query f x, none)) (λ g. fragment_tree g ≡ fragment query (named_in t))) c.in-Some.is
    (assembled query f x t c.args.matches.now c.in_ok-kept.kept c.in_ok-shown.shown c.in_ok-fragment.field-0 w h e c.in_ok-kept.ensures c.in_ok-shown.ensures c.in_ok-fragment.ensures.tree c.in_ok-fragment.ensures.alone)

pub returns-in_ok-copy-in-None : goal.returns-in_ok-copy-in-None
returns-in_ok-copy-in-None c = λ t w h e.
    let f = forest_of c.args.forest.now in
    let query = c.args.words.now in
    let x = c.args.root.now in
    let a = subst (λ (o : Option Fragment). MatchOption o (fragment query (named_in t) ≡ (shown_at query f x, none)) (λ g. fragment_tree g ≡ fragment query (named_in t))) c.in-None.is
    (assembled query f x t c.args.matches.now c.in_ok-kept.kept c.in_ok-shown.shown c.in_ok-fragment.field-0 w h e c.in_ok-kept.ensures c.in_ok-shown.ensures c.in_ok-fragment.ensures.tree c.in_ok-fragment.ensures.alone) in
    IfOk-weaker c.show.result _ _ (λ u q. q ∙ ap (λ z. (shown_at query f z, none)) c.in_ok-copy-in-None.ensures ∙ sym a) c.show.ensures
