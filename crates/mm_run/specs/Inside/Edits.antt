-- Edits that take a tree, without it.
use Rattle.std.specs.Prelude.{ℕ}
use Rattle.mm_store.specs.declared.edit.Edit as edit
use Rattle.mm_store.specs.declared.edit.Edit.TheVariants as whole
use Rattle.mm_tree.specs.Numbering.{Labelled}
use Rattle.mm_tree.specs.Trees.{Trees}
use Rattle.mm_tree.specs.declared.plain.Plain.{Plain}
use Rattle.mm_run.specs.Answers.{Planned, planned_load, planned_insert, planned_replace}
use Rattle.mm_run.specs.Steps.{node_cost}
use Rattle.mm_run.specs.declared.editing.TreeEdit.{TreeEdit}
use Rattle.mm_run.specs.declared.editing.TreeEdit.TheVariants.{Load, Insert, Replace}
use Rattle.mm_options.specs.declared.options.Options.{Options}

-- with this one
abbrev pub with_tree : TreeEdit → Plain → edit.Edit
with_tree Load tree = whole.Load tree
with_tree (Insert place x) tree = whole.Insert place x tree
with_tree (Replace x) tree = whole.Replace x tree

abbrev pub planned : Options → TreeEdit → Trees Labelled → Planned
planned options Load forest = planned_load options forest
planned options (Insert place x) forest = planned_insert options place x forest
planned options (Replace x) forest = planned_replace options x forest

-- how many steps it may take to look at the target
abbrev pub look_cost : TreeEdit → Trees Labelled → ℕ
look_cost Load forest = 0
look_cost (Insert place x) forest = node_cost x forest
look_cost (Replace x) forest = node_cost x forest
