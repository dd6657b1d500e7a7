-- Trees as plain data, apart from where they lie in memory.
use Rattle.std.specs.Prelude.{ℕ, ◌+◌, List, [], ◌∷◌, ◌++◌, Bool, true, false, ◌&&◌, ◌≡◌, refl, map, max}
use Rattle.mm_tree.specs.declared.plain.Kind.{Kind}
use Rattle.mm_tree.specs.declared.plain.Plain.{Plain, roll-Plain}
use Rattle.mm_tree.specs.declared.plain.Plain.TheFolds.{fold-Plain, fold-roll-Plain, fold_out-Plain}
use Rattle.mm_tree.specs.declared.plain.Plain.TheOpen.{Plain-F}
use Rattle.mm_tree.specs.declared.plain.Plain.TheViews.{out-Plain}

-- Siblings in order: none, or a first one with its children, and those after it.
pub data Trees (A : Type 0) : Type 0 where
  none : Trees A
  node : A → Trees A → Trees A → Trees A

-- how many nodes they have
abbrev pub nodes : {A : Type 0} → Trees A → ℕ
nodes none = 0
nodes (node a inner rest) = 1 + nodes inner + nodes rest

-- how many levels they have
abbrev pub levels : {A : Type 0} → Trees A → ℕ
levels none = 0
levels (node a inner rest) = max (1 + levels inner) (levels rest)

-- all nodes in the order of the document: each before its children, and these before its siblings
abbrev pub preorder : {A : Type 0} → Trees A → List A
preorder none = []
preorder (node a inner rest) = a ∷ preorder inner ++ preorder rest

-- there is a node
abbrev pub has_some : {A : Type 0} → Trees A → Bool
has_some none = false
has_some (node a inner rest) = true

-- each node passes a test, which is told whether the node has children
abbrev pub every : {A : Type 0} → (A → Bool → Bool) → Trees A → Bool
every test none = true
every test (node a inner rest) = test a (has_some inner) && (every test inner && every test rest)

-- trees of the same shape, with something else at each node
abbrev pub each : {A B : Type 0} → (A → B) → Trees A → Trees B
each f none = none
each f (node a inner rest) = node (f a) (each f inner) (each f rest)

-- a root with two children has three nodes on two levels
three_nodes : nodes {A = ℕ} (node 1 (node 2 none (node 3 none none)) none) ≡ 3
three_nodes = refl

two_levels : levels {A = ℕ} (node 1 (node 2 none (node 3 none none)) none) ≡ 2
two_levels = refl

in_order : preorder {A = ℕ} (node 1 (node 2 (node 3 none none) none) (node 4 none none)) ≡ 1 ∷ 2 ∷ 3 ∷ 4 ∷ []
in_order = refl

-- one tree: what its root holds, and the root's children
abbrev pub Tree : Type 0 → Type 0
Tree A = A × Trees A

-- trees as siblings in order
abbrev pub siblings : {A : Type 0} → List (Tree A) → Trees A
siblings [] = none
siblings (t ∷ ts) = node t.0 t.1 (siblings ts)

-- a tree that has no siblings
abbrev pub one : {A : Type 0} → Tree A → Trees A
one t = node t.0 t.1 none

abbrev pub tree_step : Plain-F (Tree Kind) → Tree Kind
tree_step x = (x.kind, siblings x.children)

-- a tree of the program as plain data
abbrev pub tree_of : Plain → Tree Kind
tree_of = fold-Plain (Tree Kind) tree_step

-- trees of the program, in order, as plain data
abbrev pub trees_of : List Plain → Trees Kind
trees_of ts = siblings (map tree_of ts)

-- how `tree_of` reads a tree that is put together, and one that is taken apart
pub tree_of_roll : (x : Plain-F Plain) → tree_of (roll-Plain x) ≡ (x.kind, trees_of x.children)
tree_of_roll = fold-roll-Plain (Tree Kind) tree_step

pub tree_of_out : (t : Plain) → tree_of t ≡ ((out-Plain t).kind, trees_of (out-Plain t).children)
tree_of_out = fold_out-Plain (Tree Kind) tree_step
