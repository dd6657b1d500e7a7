-- The names of nodes, and what a search shows of its answers.
use Rattle.std.specs.Prelude.{ℕ, ℤ, List, [], codes, map, Option, Some, None}
use Rattle.mm_tree.specs.declared.plain.Kind.{Kind}
use Rattle.mm_tree.specs.declared.plain.Kind.TheVariants.{Element, Words}
use Rattle.mm_tree.specs.declared.hit.Hit.{Hit}
use Rattle.mm_tree.specs.Trees.{Trees, Tree}
use Rattle.mm_tree.specs.Numbering.{Labelled}
use Rattle.mm_tree.specs.Edits.{found}

abbrev pub name_of : Kind → List ℕ
name_of (Element name attributes) = name
name_of (Words text) = codes "#text"

abbrev pub name_if : Option (Tree Labelled) → List ℕ
name_if None = []
name_if (Some t) = name_of t.0.kind

-- the name of the node that has the label, and nothing where no node has it
abbrev pub name_at : Trees Labelled → List ℤ → List ℕ
name_at forest x = name_if (found x forest)

-- labels with the names of their nodes
abbrev pub hits_of : Trees Labelled → List (List ℤ) → List Hit
hits_of forest labels = map (λ x. record { label = x; name = name_at forest x }) labels
