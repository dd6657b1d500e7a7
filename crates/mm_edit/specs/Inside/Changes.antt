-- The words of the nodes that leave and of those that come, with their numbers.
use Rattle.std.specs.Prelude.{ℕ, IsTrue, List, length, map}
use Rattle.mm_tree.specs.Forests.{and_then, is_well_formed}
use Rattle.mm_tree.specs.Numbering.{Labelled}
use Rattle.mm_tree.specs.Search.{list_of, worded}
use Rattle.mm_tree.specs.Trees.{Trees, preorder}
use Rattle.mm_tree.specs.Untouched.{OneRun}
use Rattle.mm_image.specs.Image.{words}
use Rattle.mm_edit.specs.declared.changing.WordChange.{WordChange}

-- how many nodes of the forest hold the word
abbrev pub number_of : Trees Labelled → List ℕ → ℕ
number_of f w = length (list_of w (worded f))

-- the words of both
abbrev pub words_of : Trees Labelled → Trees Labelled → List (List ℕ)
words_of taken given = words (worded (and_then taken given))

-- a word with its numbers in both
abbrev pub change : Trees Labelled → Trees Labelled → List ℕ → WordChange
change taken given w = record { word = w; taken = number_of taken w; given = number_of given w }

abbrev pub changes : Trees Labelled → Trees Labelled → List WordChange
changes taken given = map (change taken given) (words_of taken given)

-- A forest becomes another well-formed one, in which the nodes of the one trees have given place to those of the others.
pub record Becomes (old new taken given : Trees Labelled) : Type 0 where
  pub formed : IsTrue (is_well_formed new)
  pub run : OneRun (preorder old) (preorder new) (preorder taken) (preorder given)
