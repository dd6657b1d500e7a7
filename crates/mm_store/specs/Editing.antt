-- What an edit makes of a forest, and why it is refused.
use Rattle.std.specs.Prelude.{ℕ, ℤ, ◌-◌, ◌^◌, min, List, Option, IsTrue}
use Rattle.mm_edit.specs.Blame.{Blames, BlamesTarget, IsUnreadable}
use Rattle.mm_edit.specs.Plans.{or_full}
use Rattle.mm_host.specs.declared.damage.Fault.{Fault}
use Rattle.mm_keeper.specs.Entries.{Entries}
use Rattle.mm_store.specs.declared.edit.Edit.{Edit}
use Rattle.mm_store.specs.declared.edit.Edit.TheVariants.{Load, Insert, Delete, Replace}
use Rattle.mm_tree.specs.declared.refusal.Refusal.{Refusal}
use Rattle.mm_tree.specs.Edits.{delete, delete_refusal, insert, insert_refusal, inserted_label, replace, replace_refusal, subtree_size}
use Rattle.mm_tree.specs.Forests.{load, load_refusal, next_label}
use Rattle.mm_tree.specs.Numbering.{Labelled}
use Rattle.mm_tree.specs.Trees.{Trees, nodes, one, tree_of}
use Rattle.mm_tree.specs.Validity.{is_valid_tree}

-- the forest afterwards
abbrev pub edited : Edit → Trees Labelled → Trees Labelled
edited (Load tree) f = load (tree_of tree) f
edited (Insert place target tree) f = insert place target (tree_of tree) f
edited (Delete target) f = delete target f
edited (Replace target tree) f = replace target (tree_of tree) f

-- the first cause against it that place, target and tree tell
abbrev pub early_refusal : Edit → Trees Labelled → Option Refusal
early_refusal (Load tree) f = load_refusal (tree_of tree) f
early_refusal (Insert place target tree) f = insert_refusal place target (tree_of tree) f
early_refusal (Delete target) f = delete_refusal target f
early_refusal (Replace target tree) f = replace_refusal target (tree_of tree) f

-- the first cause against it; the weight afterwards comes last, and never against a deletion
abbrev pub edit_refusal : ℕ → Edit → Trees Labelled → Option Refusal
edit_refusal limit (Load tree) f = or_full (load_refusal (tree_of tree) f) limit (load (tree_of tree) f)
edit_refusal limit (Insert place target tree) f = or_full (insert_refusal place target (tree_of tree) f) limit (insert place target (tree_of tree) f)
edit_refusal limit (Delete target) f = delete_refusal target f
edit_refusal limit (Replace target tree) f = or_full (replace_refusal target (tree_of tree) f) limit (replace target (tree_of tree) f)

-- the label of the subtree that comes or goes
abbrev pub edited_label : Edit → Trees Labelled → List ℤ
edited_label (Load tree) f = next_label f
edited_label (Insert place target tree) f = inserted_label place target f
edited_label (Delete target) f = target
edited_label (Replace target tree) f = target

-- and how many nodes it has
abbrev pub edited_nodes : Edit → Trees Labelled → ℕ
edited_nodes (Load tree) f = nodes (one (tree_of tree))
edited_nodes (Insert place target tree) f = nodes (one (tree_of tree))
edited_nodes (Delete target) f = min (subtree_size target f) (2 ^ 64 - 1)
edited_nodes (Replace target tree) f = nodes (one (tree_of tree))

-- a forest takes its tree
abbrev pub IsValidEdit : Edit → Type 0
IsValidEdit (Load tree) = IsTrue (is_valid_tree (tree_of tree))
IsValidEdit (Insert place target tree) = IsTrue (is_valid_tree (tree_of tree))
IsValidEdit (Delete target) = Unit {0}
IsValidEdit (Replace target tree) = IsTrue (is_valid_tree (tree_of tree))

-- The damage that it may tell of a map: a key at which nothing can be read, or, of an edit that takes a subtree out, entries at and below the target that are
-- those of no subtree.
abbrev pub EditBlames : Edit → Entries → Fault → Type 0
EditBlames (Load tree) m f = Blames (IsUnreadable m) f
EditBlames (Insert place target tree) m f = Blames (IsUnreadable m) f
EditBlames (Delete target) m f = BlamesTarget target m f
EditBlames (Replace target tree) m f = BlamesTarget target m f
