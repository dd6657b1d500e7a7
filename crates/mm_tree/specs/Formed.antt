-- Where the labels of a well-formed forest stand, as a recursion on its trees.
use Rattle.std.specs.Prelude.{ℤ, List}
use Rattle.mm_label.specs.Fronts.{Apart, IsChild}
use Rattle.mm_tree.specs.Trees.{Trees, none, node}
use Rattle.mm_tree.specs.Numbering.{Labelled}
use Rattle.mm_tree.specs.Search.{Worded}
use Rattle.mm_tree.specs.Fragments.{Named}

-- each of these siblings comes after all that lies below a
abbrev pub ApartFrom : {A : Type 0} → (A → List ℤ) → List ℤ → Trees A → Type 0
ApartFrom at a none = Unit {0}
ApartFrom at a (node e inner rest) = Apart a (at e) × ApartFrom at a rest

-- siblings under y: each is y and one segment, and they lie apart; and so below each of them
abbrev pub Formed : {A : Type 0} → (A → List ℤ) → List ℤ → Trees A → Type 0
Formed at y none = Unit {0}
Formed at y (node e inner rest) = IsChild y (at e) × Formed at (at e) inner × ApartFrom at (at e) rest × Formed at y rest

abbrev pub node_label : Labelled → List ℤ
node_label e = e.label

abbrev pub word_label : Worded → List ℤ
word_label e = e.label

abbrev pub name_label : Named → List ℤ
name_label e = e.label
