-- Where the labels of a well-formed forest stand, as a search sees its nodes.
use Rattle.mm_label.specs.Fronts.{Label}
use Rattle.mm_tree.specs.Trees.{Trees}
use Rattle.mm_tree.specs.Formed.{ApartFrom, Formed, word_label}
use Rattle.mm_tree.specs.Search.{Worded}

abbrev pub RootsAfter : Label → Trees Worded → Type 0
RootsAfter = ApartFrom word_label

abbrev pub WellFormed : Label → Trees Worded → Type 0
WellFormed = Formed word_label
