-- Why an insertion is refused.
use Rattle.std.proofs.Common.{◌≡◌, refl, ap, ℤ, true, false, ◌&&◌, List, [], Some, None}
use Rattle.mm_label.specs.Label.{level}
use Rattle.mm_tree.specs.declared.plain.Kind.{Kind}
use Rattle.mm_tree.specs.declared.forest.place.Place.{Place}
use Rattle.mm_tree.specs.declared.refusal.Refusal.TheVariants.{Absent, Leaf}
use Rattle.mm_tree.specs.Trees.{Tree, Trees}
use Rattle.mm_tree.specs.Numbering.{Labelled}
use Rattle.mm_tree.specs.Edits.{Gap, found, gap, has_node, insert_refusal, is_inside, is_text_node, label_in, placed_refusal}

pub absent_insert : (p : Place) (x : List ℤ) (t : Tree Kind) (forest : Trees Labelled) → has_node x forest ≡ false → insert_refusal p x t forest ≡ Some Absent
absent_insert p x t forest h = rw h refl

pub leaf_insert : (p : Place) (x : List ℤ) (t : Tree Kind) (forest : Trees Labelled) → has_node x forest ≡ true → (is_inside p && is_text_node (found x forest)) ≡ true → insert_refusal p x t forest ≡ Some Leaf
leaf_insert p x t forest h k = rw (h, k) refl

pub placed_insert : (p : Place) (x : List ℤ) (t : Tree Kind) (forest : Trees Labelled) (g : Gap) → has_node x forest ≡ true → (is_inside p && is_text_node (found x forest)) ≡ false → gap p x [] None forest ≡ g
    → insert_refusal p x t forest ≡ placed_refusal (level g.parent) (label_in g) t
placed_insert p x t forest g h k e = rw (h, k) (ap (λ (z : Gap). placed_refusal (level z.parent) (label_in z) t) e)
