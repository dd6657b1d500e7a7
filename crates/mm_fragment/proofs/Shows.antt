-- What is shown of a node.
use Rattle.std.proofs.Common.{◌≡◌, ℕ, List, ap, sym, ◌∙◌, Some}
use Rattle.std.specs.Prelude.{ℤ, bytes_eq}
use Rattle.std.specs.List.{list_any, filter}
use Rattle.mm_tree.specs.declared.plain.Kind.{Kind}
use Rattle.mm_tree.specs.declared.fragment.Fragment.{Fragment}
use Rattle.mm_tree.specs.declared.fragment.Fragment.TheFolds.{fold-roll-Fragment}
use Rattle.mm_tree.specs.declared.fragment.Fragment.TheViews.{roll-Fragment}
use Rattle.mm_tree.specs.declared.node.Node.{Node}
use Rattle.mm_tree.specs.declared.node.Node.TheFolds.{fold_out-Node}
use Rattle.mm_tree.specs.declared.node.Node.TheViews.{out-Node}
use Rattle.mm_tree.specs.Trees.{Trees, Tree}
use Rattle.mm_tree.specs.Numbering.{Labelled, node_of, node_step}
use Rattle.mm_tree.specs.Edits.{found}
use Rattle.mm_tree.specs.Hits.{name_of, name_if, name_at}
use Rattle.mm_tree.specs.Search.{own}
use Rattle.mm_tree.specs.Fragments.{Named, fragment_step, fragment_tree, fragment_trees}
use Rattle.mm_fragment.specs.Showing.{shown_at, own_in}

pub kind_out : (n : Node) → (node_of n).0.kind ≡ (out-Node n).kind
kind_out n = ap (λ (t : Tree Labelled). t.0.kind) (fold_out-Node (Tree Labelled) node_step n)

-- the node with the label, if there is one, has this name, and these words of the query
pub shown_is : (query : List (List ℕ)) (f : Trees Labelled) (label : List ℤ) (name : List ℕ) (words : List (List ℕ)) (children : List Fragment)
    → name ≡ name_at f label → words ≡ own_in query (found label f)
    → fragment_tree (roll-Fragment (record { label = label; name = name; matches = words; children = children })) ≡ (shown_at query f label, fragment_trees children)
shown_is query f label name words children a b =
    fold-roll-Fragment (Tree Named) fragment_step (record { label = label; name = name; matches = words; children = children })
    ∙ (λ j. (record { label = label; name = a j; words = b j }, fragment_trees children))

pub name_some : (f : Trees Labelled) (label : List ℤ) (name : List ℕ) (n : Node) → found label f ≡ Some (node_of n) → name ≡ name_of (out-Node n).kind → name ≡ name_at f label
name_some f label name n e a = a ∙ ap name_of (sym (kind_out n)) ∙ ap name_if (sym e)

pub words_some : (query : List (List ℕ)) (f : Trees Labelled) (label : List ℤ) (words : List (List ℕ)) (n : Node)
    → found label f ≡ Some (node_of n) → words ≡ filter (λ w. list_any (bytes_eq w) (own (out-Node n).kind)) query → words ≡ own_in query (found label f)
words_some query f label words n e b = b ∙ ap (λ (k : Kind). filter (λ w. list_any (bytes_eq w) (own k)) query) (sym (kind_out n)) ∙ ap (own_in query) (sym e)
