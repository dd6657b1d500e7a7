-- Levels and nodes of trees, one tree after the other.
use Rattle.std.proofs.Common.{◌≡◌, ℕ, ◌+◌, ◌<◌, ◌≤◌, ◌-◌, ◌^◌, min, true, List, length, get_or, drop, ap, ◌∙◌, arith}
use Rattle.std.specs.Prelude.{max, nat_lt}
use Rattle.std.proofs.lemmas.Bool.{ltb-true, and_parts}
use Rattle.std.proofs.lemmas.List.{drop_all}
use Rattle.mm_list.specs.Facts.{drop_at}
use Rattle.mm_tree.specs.declared.plain.Kind.{Kind}
use Rattle.mm_tree.specs.declared.plain.Kind.TheVariants.{Element, Words}
use Rattle.mm_tree.specs.declared.plain.Plain.{Plain}
use Rattle.mm_tree.specs.declared.plain.Plain.TheViews.{out-Plain}
use Rattle.mm_tree.specs.Trees.{Trees, none, node, Tree, one, every, levels, nodes, trees_of, tree_of_out}
use Rattle.mm_tree.specs.Validity.{piece_count, pieces, is_valid_node, is_valid_tree}

pub levels_next : (xs : List Plain) (i : ℕ) (x : Plain) → i < length xs → x ≡ get_or xs i x
    → levels (trees_of (drop i xs)) ≡ max (1 + levels (trees_of (out-Plain x).children)) (levels (trees_of (drop (i + 1) xs)))
levels_next xs i x h e =
    ap (λ (zs : List Plain). levels (trees_of zs)) (drop_at xs i x h e) ∙ ap (λ (t : Tree Kind). max (1 + levels t.1) (levels (trees_of (drop (i + 1) xs)))) (tree_of_out x)

pub nodes_next : (xs : List Plain) (i : ℕ) (x : Plain) → i < length xs → x ≡ get_or xs i x
    → nodes (trees_of (drop i xs)) ≡ 1 + nodes (trees_of (out-Plain x).children) + nodes (trees_of (drop (i + 1) xs))
nodes_next xs i x h e =
    ap (λ (zs : List Plain). nodes (trees_of zs)) (drop_at xs i x h e) ∙ ap (λ (t : Tree Kind). 1 + nodes t.1 + nodes (trees_of (drop (i + 1) xs))) (tree_of_out x)

abbrev limit : ℕ
limit = 18446744073709551615

-- no tree is left
pub all_measured : (xs : List Plain) (i room sum : ℕ) → length xs ≤ i → sum ≤ limit
    → max room (levels (trees_of (drop i xs))) ≡ max room (levels (trees_of xs)) → min (sum + nodes (trees_of (drop i xs))) limit ≡ min (nodes (trees_of xs)) limit
    → (levels (trees_of xs) ≤ room) × (sum ≡ min (nodes (trees_of xs)) limit)
all_measured xs i room sum h s deep many =
    let l : levels (trees_of (drop i xs)) ≡ 0 = ap (λ (zs : List Plain). levels (trees_of zs)) (drop_all i xs h) in
    let n : nodes (trees_of (drop i xs)) ≡ 0 = ap (λ (zs : List Plain). nodes (trees_of zs)) (drop_all i xs h) in
    (omega (arith, l, deep), omega (arith, n, many, s))

-- a tree where there is no room
pub no_level : (xs : List Plain) (i : ℕ) (x : Plain) (room : ℕ) → i < length xs → x ≡ get_or xs i x → room ≡ 0
    → max room (levels (trees_of (drop i xs))) ≡ max room (levels (trees_of xs)) → levels (trees_of xs) ≤ room → ⊥
no_level xs i x room h e z deep le = omega (arith, levels_next xs i x h e, deep, le, z)

-- a tree whose children have too many levels
pub too_deep : (xs : List Plain) (i : ℕ) (x : Plain) (inner : List Plain) (room : ℕ) → i < length xs → x ≡ get_or xs i x → inner ≡ (out-Plain x).children
    → max room (levels (trees_of (drop i xs))) ≡ max room (levels (trees_of xs)) → (levels (trees_of inner) ≤ room - 1 → ⊥) → levels (trees_of xs) ≤ room → ⊥
too_deep xs i x inner room h e is deep no_room le =
    let l : levels (trees_of inner) ≡ levels (trees_of (out-Plain x).children) = ap (λ (zs : List Plain). levels (trees_of zs)) is in
    no_room (omega (arith, levels_next xs i x h e, l, deep, le))

pub deep_on : (xs : List Plain) (i : ℕ) (x : Plain) (inner : List Plain) (room : ℕ) → i < length xs → x ≡ get_or xs i x → inner ≡ (out-Plain x).children
    → max room (levels (trees_of (drop i xs))) ≡ max room (levels (trees_of xs)) → levels (trees_of inner) ≤ room - 1 → (room ≡ 0 → ⊥)
    → max room (levels (trees_of (drop (i + 1) xs))) ≡ max room (levels (trees_of xs))
deep_on xs i x inner room h e is deep le some =
    let l : levels (trees_of inner) ≡ levels (trees_of (out-Plain x).children) = ap (λ (zs : List Plain). levels (trees_of zs)) is in
    omega (arith, levels_next xs i x h e, l, deep, le, some)

pub many_on : (xs : List Plain) (i : ℕ) (x : Plain) (inner : List Plain) (sum below both more : ℕ) → i < length xs → x ≡ get_or xs i x → inner ≡ (out-Plain x).children
    → min (sum + nodes (trees_of (drop i xs))) limit ≡ min (nodes (trees_of xs)) limit → below ≡ min (nodes (trees_of inner)) limit
    → both ≡ min (sum + below) limit → more ≡ min (both + 1) limit → min (more + nodes (trees_of (drop (i + 1) xs))) limit ≡ min (nodes (trees_of xs)) limit
many_on xs i x inner sum below both more h e is many b m n =
    let l : nodes (trees_of inner) ≡ nodes (trees_of (out-Plain x).children) = ap (λ (zs : List Plain). nodes (trees_of zs)) is in
    omega (arith, nodes_next xs i x h e, l, many, b, m, n)

one_piece : (kind : Kind) → 1 ≤ piece_count kind
one_piece (Element name attributes) = omega arith
one_piece (Words text) = omega arith

nodes_le_pieces : (ts : Trees Kind) → nodes ts ≤ pieces ts
nodes_le_pieces none = omega arith
nodes_le_pieces (node kind inner rest) = omega (arith, one_piece kind, nodes_le_pieces inner, nodes_le_pieces rest)

-- a valid tree has so few nodes that their number fits
pub node_count_fits : (t : Tree Kind) (n : ℕ) → is_valid_tree t ≡ true → n ≡ min (nodes (one t)) limit → n ≡ nodes (one t)
node_count_fits t n v e =
    let p = and_parts (every is_valid_node (one t)) (nat_lt (pieces (one t)) (2 ^ 31)) v in
    let h : pieces (one t) < 2 ^ 31 = ltb-true (pieces (one t)) (2 ^ 31) p.1 in
    omega (arith, e, h, nodes_le_pieces (one t))
