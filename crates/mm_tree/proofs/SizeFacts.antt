-- The nodes of trees, one tree after the other.
use Rattle.std.proofs.Common.{◌≡◌, ℕ, ◌+◌, ◌<◌, ◌≤◌, min, List, length, get_or, drop, ap, arith}
use Rattle.std.proofs.lemmas.List.{drop_all}
use Rattle.mm_tree.specs.declared.node.Node.{Node}
use Rattle.mm_tree.specs.declared.node.Node.TheViews.{out-Node}
use Rattle.mm_tree.specs.Trees.{nodes}
use Rattle.mm_tree.specs.Numbering.{forest_of}
use Rattle.mm_tree.specs.Facts.Walks.{forest_at}

nodes_next : (xs : List Node) (i : ℕ) (x : Node) → i < length xs → x ≡ get_or xs i x
    → nodes (forest_of (drop i xs)) ≡ 1 + nodes (forest_of (out-Node x).children) + nodes (forest_of (drop (i + 1) xs))
nodes_next xs i x h e = ap nodes (forest_at xs i x h e)

abbrev limit : ℕ
limit = 18446744073709551615

-- no tree is left
pub all_counted : (xs : List Node) (i sum : ℕ) → length xs ≤ i → sum ≤ limit → min (sum + nodes (forest_of (drop i xs))) limit ≡ min (nodes (forest_of xs)) limit → sum ≡ min (nodes (forest_of xs)) limit
all_counted xs i sum h s many =
    let n : nodes (forest_of (drop i xs)) ≡ 0 = ap (λ (zs : List Node). nodes (forest_of zs)) (drop_all i xs h) in
    omega (arith, n, many, s)

pub many_on : (xs : List Node) (i : ℕ) (x : Node) (inner : List Node) (sum below both more : ℕ) → i < length xs → x ≡ get_or xs i x → inner ≡ (out-Node x).children
    → min (sum + nodes (forest_of (drop i xs))) limit ≡ min (nodes (forest_of xs)) limit → below ≡ min (nodes (forest_of inner)) limit
    → both ≡ min (sum + below) limit → more ≡ min (both + 1) limit → min (more + nodes (forest_of (drop (i + 1) xs))) limit ≡ min (nodes (forest_of xs)) limit
many_on xs i x inner sum below both more h e is many b m n =
    let l : nodes (forest_of inner) ≡ nodes (forest_of (out-Node x).children) = ap (λ (zs : List Node). nodes (forest_of zs)) is in
    omega (arith, nodes_next xs i x h e, l, many, b, m, n)
