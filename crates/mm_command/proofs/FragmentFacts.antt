-- The nodes of fragments, one fragment after the other.
use Rattle.std.proofs.Common.{◌≡◌, ℕ, ◌+◌, ◌<◌, ◌≤◌, min, List, ◌++◌, length, get_or, drop, ap, ap₂, sym, ◌∙◌, arith, append-nil, append_assoc}
use Rattle.std.specs.List.{flat_map}
use Rattle.std.proofs.lemmas.List.{drop_all}
use Rattle.std.proofs.lemmas.Grind.{flat_map-append}
use Rattle.mm_list.specs.Facts.{drop_at}
use Rattle.mm_tree.specs.declared.fragment.Fragment.{Fragment}
use Rattle.mm_tree.specs.declared.fragment.Fragment.TheViews.{out-Fragment}
use Rattle.mm_tree.specs.declared.fragment.Fragment.TheFolds.{fold_out-Fragment}
use Rattle.mm_tree.specs.Trees.{Tree, nodes, preorder}
use Rattle.mm_tree.specs.Fragments.{Named, fragment_step, fragment_tree, fragment_trees}
use Rattle.mm_command.specs.Replies.{shown_count, shown_line, fragment_head, fragment_text}
use Rattle.mm_command.specs.Inside.Showing.{shown_of}

pub tree_is : (f : Fragment) → fragment_tree f ≡ (shown_of f, fragment_trees (out-Fragment f).children)
tree_is f = fold_out-Fragment (Tree Named) fragment_step f

nodes_next : (xs : List Fragment) (i : ℕ) (x : Fragment) → i < length xs → x ≡ get_or xs i x
    → nodes (fragment_trees (drop i xs)) ≡ 1 + nodes (fragment_trees (out-Fragment x).children) + nodes (fragment_trees (drop (i + 1) xs))
nodes_next xs i x h e =
    ap (λ (zs : List Fragment). nodes (fragment_trees zs)) (drop_at xs i x h e) ∙ ap (λ (t : Tree Named). 1 + nodes t.1 + nodes (fragment_trees (drop (i + 1) xs))) (tree_is x)

abbrev limit : ℕ
limit = 18446744073709551615

-- no fragment is left
pub all_counted : (xs : List Fragment) (i sum : ℕ) → length xs ≤ i → sum ≤ limit → min (sum + nodes (fragment_trees (drop i xs))) limit ≡ min (nodes (fragment_trees xs)) limit
    → sum ≡ min (nodes (fragment_trees xs)) limit
all_counted xs i sum h s many =
    let n : nodes (fragment_trees (drop i xs)) ≡ 0 = ap (λ (zs : List Fragment). nodes (fragment_trees zs)) (drop_all i xs h) in
    omega (arith, n, many, s)

pub many_on : (xs : List Fragment) (i : ℕ) (x : Fragment) (inner : List Fragment) (sum below both more : ℕ) → i < length xs → x ≡ get_or xs i x → inner ≡ (out-Fragment x).children
    → min (sum + nodes (fragment_trees (drop i xs))) limit ≡ min (nodes (fragment_trees xs)) limit → below ≡ min (nodes (fragment_trees inner)) limit
    → both ≡ min (sum + below) limit → more ≡ min (both + 1) limit → min (more + nodes (fragment_trees (drop (i + 1) xs))) limit ≡ min (nodes (fragment_trees xs)) limit
many_on xs i x inner sum below both more h e is many b m n =
    let l : nodes (fragment_trees inner) ≡ nodes (fragment_trees (out-Fragment x).children) = ap (λ (zs : List Fragment). nodes (fragment_trees zs)) is in
    omega (arith, nodes_next xs i x h e, l, many, b, m, n)

-- ---- lines

abbrev lines : List Fragment → List ℕ
lines xs = flat_map shown_line (preorder (fragment_trees xs))

lines_next : (xs : List Fragment) (i : ℕ) (x : Fragment) → i < length xs → x ≡ get_or xs i x
    → lines (drop i xs) ≡ shown_line (shown_of x) ++ (lines (out-Fragment x).children ++ lines (drop (i + 1) xs))
lines_next xs i x h e =
    ap lines (drop_at xs i x h e)
    ∙ ap (λ (t : Tree Named). shown_line t.0 ++ flat_map shown_line (preorder t.1 ++ preorder (fragment_trees (drop (i + 1) xs)))) (tree_is x)
    ∙ ap (λ (l : List ℕ). shown_line (shown_of x) ++ l) (flat_map-append shown_line (preorder (fragment_trees (out-Fragment x).children)) (preorder (fragment_trees (drop (i + 1) xs))))

-- the lines of one fragment more stand behind the others
pub lines_on : (xs : List Fragment) (i : ℕ) (x : Fragment) (inner : List Fragment) (before one more all : List ℕ) → i < length xs → x ≡ get_or xs i x → inner ≡ (out-Fragment x).children
    → one ≡ before ++ shown_line (shown_of x) → more ≡ one ++ lines inner → before ++ lines (drop i xs) ≡ all → more ++ lines (drop (i + 1) xs) ≡ all
lines_on xs i x inner before one more all h e is o m same =
    let rest = lines (drop (i + 1) xs) in
    ap (λ (l : List ℕ). l ++ rest) (m ∙ ap (λ (l : List ℕ). l ++ lines inner) o ∙ ap (λ (fs : List Fragment). (before ++ shown_line (shown_of x)) ++ lines fs) is)
    ∙ append_assoc (before ++ shown_line (shown_of x)) (lines (out-Fragment x).children) rest
    ∙ append_assoc before (shown_line (shown_of x)) (lines (out-Fragment x).children ++ rest)
    ∙ ap (λ (l : List ℕ). before ++ l) (sym (lines_next xs i x h e))
    ∙ same

pub lines_end : (xs : List Fragment) (i : ℕ) (written all : List ℕ) → length xs ≤ i → written ++ lines (drop i xs) ≡ all → written ≡ all
lines_end xs i written all h same = sym (append-nil written) ∙ sym (ap (λ (zs : List Fragment). written ++ lines zs) (drop_all i xs h)) ∙ same

-- its head, its root's line and the lines of its other nodes
pub fragment_on : (f : Fragment) (inner : List Fragment) (below count : ℕ) (before one two all : List ℕ) → inner ≡ (out-Fragment f).children → below ≡ shown_count (nodes (fragment_trees inner)) → count ≡ min (below + 1) limit
    → one ≡ before ++ fragment_head (out-Fragment f).label count → two ≡ one ++ shown_line (shown_of f) → all ≡ two ++ lines inner → all ≡ before ++ fragment_text (fragment_tree f)
fragment_on f inner below count before one two all is b n o t a =
    let head = fragment_head (out-Fragment f).label count in
    let told_is : count ≡ shown_count (1 + nodes (fragment_trees inner) + 0) = omega (arith, b, n) in
    a ∙ ap (λ (l : List ℕ). l ++ lines inner) (t ∙ ap (λ (l : List ℕ). l ++ shown_line (shown_of f)) o)
    ∙ append_assoc (before ++ head) (shown_line (shown_of f)) (lines inner)
    ∙ append_assoc before head (shown_line (shown_of f) ++ lines inner)
    ∙ ap (λ (l : List ℕ). before ++ l) (
    ap₂ (λ (k : ℕ) (es : List Named). fragment_head (out-Fragment f).label k ++ (shown_line (shown_of f) ++ flat_map shown_line es)) told_is (sym (append-nil (preorder (fragment_trees inner))))
    ∙ ap (λ (fs : List Fragment). fragment_text (shown_of f, fragment_trees fs)) is
    ∙ sym (ap fragment_text (tree_is f))
    )
