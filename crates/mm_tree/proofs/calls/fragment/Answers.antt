use Rattle.std.proofs.Common.{◌∙◌, ap, ap₂, List, ℕ}
use Rattle.std.proofs.lemmas.Result.{IfOk-weaker}
use Rattle.mm_tree.specs.declared.node.Node.{Node}
use Rattle.mm_tree.specs.Fragments.{contributors, fragment_tree, fragment_trees, rows_of, shown}
use Rattle.mm_tree.specs.Inside.Fragmenting.{named_node}
use Rattle.mm_tree.proofs.FragmentFacts.{fragment_is, known}
use Rattle.mm_tree.proofs.calls.fragment.Goals as goal

pub returns : goal.returns
returns c =
    let root = c.args.root.now in
    let children = c.in_ok-children.children in
    IfOk-weaker c.show.result _ _ (λ f e.
    fragment_is c.args.query.now root (fragment_tree f) (fragment_trees children)
    (e ∙ ap (λ (query : List (List ℕ)). (shown query (named_node root), fragment_trees children)) c.words-2.ensures.value)
    (c.in_ok-children.ensures ∙ ap₂ (λ (query : List (List ℕ)) (ns : List Node). contributors query (rows_of query (known ns)) (known ns)) c.words.ensures.value c.as_slice.ensures)) c.show.ensures
