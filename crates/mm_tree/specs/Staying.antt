-- Edits that aren't refused, with valid trees, leave a well-formed forest well formed.
use Rattle.std.specs.Prelude.{ℤ, List, ◌≡◌, IsTrue, None}
use Rattle.mm_tree.specs.declared.plain.Kind.{Kind}
use Rattle.mm_tree.specs.declared.forest.place.Place.{Place}
use Rattle.mm_tree.specs.Trees.{Trees, Tree}
use Rattle.mm_tree.specs.Validity.{is_valid_tree}
use Rattle.mm_tree.specs.Numbering.{Labelled}
use Rattle.mm_tree.specs.Forests.{is_well_formed, load, load_refusal}
use Rattle.mm_tree.specs.Edits.{insert, delete, replace, insert_refusal, replace_refusal}

abbrev pub LoadStaysFormed : Type 0
LoadStaysFormed = (t : Tree Kind) (forest : Trees Labelled) → IsTrue (is_well_formed forest) → IsTrue (is_valid_tree t) → load_refusal t forest ≡ None → IsTrue (is_well_formed (load t forest))

abbrev pub InsertStaysFormed : Type 0
InsertStaysFormed =
    (place : Place) (x : List ℤ) (t : Tree Kind) (forest : Trees Labelled) → IsTrue (is_well_formed forest) → IsTrue (is_valid_tree t)
    → insert_refusal place x t forest ≡ None → IsTrue (is_well_formed (insert place x t forest))

abbrev pub DeleteStaysFormed : Type 0
DeleteStaysFormed = (x : List ℤ) (forest : Trees Labelled) → IsTrue (is_well_formed forest) → IsTrue (is_well_formed (delete x forest))

abbrev pub ReplaceStaysFormed : Type 0
ReplaceStaysFormed =
    (x : List ℤ) (t : Tree Kind) (forest : Trees Labelled) → IsTrue (is_well_formed forest) → IsTrue (is_valid_tree t)
    → replace_refusal x t forest ≡ None → IsTrue (is_well_formed (replace x t forest))
