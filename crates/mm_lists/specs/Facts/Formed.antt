-- The labels of a well-formed forest stand right for a search as well.
use Rattle.std.proofs.Common.{[]}
use Rattle.std.specs.Prelude.{IsTrue}
use Rattle.mm_tree.specs.Trees.{Trees}
use Rattle.mm_tree.specs.Numbering.{Labelled}
use Rattle.mm_tree.specs.Forests.{is_well_formed}
use Rattle.mm_tree.specs.Search.{worded, worded_as}
use Rattle.mm_tree.specs.Formed.{word_label}
use Rattle.mm_tree.specs.Facts.Formed as labels
use Rattle.mm_tree.specs.Facts.Subforests.{each_formed}
use Rattle.mm_lists.specs.Formed.{WellFormed}

pub formed : (forest : Trees Labelled) → IsTrue (is_well_formed forest) → WellFormed [] (worded forest)
formed forest w = each_formed worded_as word_label [] forest (labels.formed forest w)
