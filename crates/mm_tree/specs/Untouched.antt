-- What an edit leaves as it was: in the order of the document, the nodes with their labels and kinds differ by one run alone.
use Rattle.std.specs.Prelude.{ℤ, List, [], ◌++◌, ◌≡◌, IsTrue, Some}
use Rattle.mm_tree.specs.declared.plain.Kind.{Kind}
use Rattle.mm_tree.specs.declared.forest.place.Place.{Place}
use Rattle.mm_tree.specs.Trees.{Trees, Tree, one, preorder}
use Rattle.mm_tree.specs.Numbering.{Labelled, number}
use Rattle.mm_tree.specs.Forests.{is_well_formed, load, numbered_behind}
use Rattle.mm_tree.specs.Edits.{has_node, found, insert, delete, replace, inserted_label}

-- `old` and `new` are the same nodes but for one run, which was `taken` and is `given`
pub record OneRun (old new taken given : List Labelled) : Type 0 where
  pub front : List Labelled
  pub back : List Labelled
  pub old_is : old ≡ front ++ (taken ++ back)
  pub new_is : new ≡ front ++ (given ++ back)

-- a load: all nodes stay, and those of the new tree stand behind them
abbrev pub LoadLeaves : Type 0
LoadLeaves = (t : Tree Kind) (forest : Trees Labelled) → preorder (load t forest) ≡ preorder forest ++ preorder (numbered_behind forest t)

-- an insertion: all nodes stay, and those of the new tree stand in one run
abbrev pub InsertLeaves : Type 0
InsertLeaves =
    (place : Place) (x : List ℤ) (t : Tree Kind) (forest : Trees Labelled) → IsTrue (is_well_formed forest) → IsTrue (has_node x forest)
    → OneRun (preorder forest) (preorder (insert place x t forest)) [] (preorder (one (number (inserted_label place x forest) t)))

-- a deletion: the nodes of the target's subtree go, and all others stay
abbrev pub DeleteLeaves : Type 0
DeleteLeaves =
    (x : List ℤ) (n : Tree Labelled) (forest : Trees Labelled) → IsTrue (is_well_formed forest) → found x forest ≡ Some n
    → OneRun (preorder forest) (preorder (delete x forest)) (preorder (one n)) []

-- a replacement: those of the new tree stand where those of the target's subtree stood, and all others stay
abbrev pub ReplaceLeaves : Type 0
ReplaceLeaves =
    (x : List ℤ) (n : Tree Labelled) (t : Tree Kind) (forest : Trees Labelled) → IsTrue (is_well_formed forest) → found x forest ≡ Some n
    → OneRun (preorder forest) (preorder (replace x t forest)) (preorder (one n)) (preorder (one (number x t)))
