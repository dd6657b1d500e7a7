-- The edited forest, and how many entries an edit changes.
use Rattle.std.proofs.Common.{inl, ◌≡◌, ◌≤◌, ◌+◌, ℕ, Bool, not, filter, length, List, Option, Some, None, refl, ap, ap₂, ◌∙◌, arith}
use Rattle.std.proofs.lemmas.List.{length-map}
use Rattle.std.proofs.lemmas.List.Filters.{length-filter_both}
use Rattle.std.specs.Prelude.{IsTrue}
use Rattle.mm_edit.specs.Blame.{Blames, IsUnreadable}
use Rattle.mm_host.specs.declared.damage.Fault.{Fault}
use Rattle.mm_host.specs.declared.damage.Fault.TheVariants as fault
use Rattle.mm_image.specs.Subtrees.{IsUndamaged}
use Rattle.mm_edit.specs.Difference.{IsDifference, Key, gone, holds}
use Rattle.mm_edit.specs.Plans.{or_full}
use Rattle.mm_keeper.specs.Entries.{Entries, Entry, has}
use Rattle.mm_tree.specs.declared.refusal.Refusal.{Refusal}
use Rattle.mm_tree.specs.Forests.{is_well_formed}
use Rattle.mm_tree.specs.Numbering.{Labelled}
use Rattle.mm_tree.specs.Staying.{DeleteStaysFormed, InsertStaysFormed, LoadStaysFormed, ReplaceStaysFormed}
use Rattle.mm_tree.specs.Trees.{Trees, tree_of}
use Rattle.mm_store.specs.Applying.{differing}
use Rattle.mm_store.specs.declared.edit.Edit.{Edit}
use Rattle.mm_store.specs.declared.edit.Edit.TheVariants.{Load, Insert, Delete, Replace}
use Rattle.mm_store.specs.Editing.{EditBlames, IsValidEdit, early_refusal, edit_refusal, edited}

none_before : (r : Option Refusal) (limit : ℕ) (after : Trees Labelled) → or_full r limit after ≡ None → r ≡ None
none_before None limit after e = refl
none_before (Some r) limit after e = absurd cc

pub not_early : (limit : ℕ) (edit : Edit) (f : Trees Labelled) → edit_refusal limit edit f ≡ None → early_refusal edit f ≡ None
not_early limit (Load t) f e = none_before _ limit _ e
not_early limit (Insert place x t) f e = none_before _ limit _ e
not_early limit (Delete x) f e = e
not_early limit (Replace x t) f e = none_before _ limit _ e

no_blame : (P : Key → Type 0) (f : Fault) → IsUndamaged f → Blames P f
no_blame P (fault.Damaged d) u = absurd u
no_blame P fault.DiskFault u = tt
no_blame P fault.Spent u = tt
no_blame P fault.Memory u = tt

pub undamaged_blames : (edit : Edit) (m : Entries) (f : Fault) → IsUndamaged f → EditBlames edit m f
undamaged_blames (Load t) m f u = no_blame (IsUnreadable m) f u
undamaged_blames (Insert place x t) m f u = no_blame (IsUnreadable m) f u
undamaged_blames (Delete x) m f u = inl (no_blame (IsUnreadable m) f u)
undamaged_blames (Replace x t) m f u = inl (no_blame (IsUnreadable m) f u)

-- an edit that isn't refused leaves a well-formed forest
pub edited_formed : LoadStaysFormed → InsertStaysFormed → DeleteStaysFormed → ReplaceStaysFormed → (limit : ℕ) (edit : Edit) (f : Trees Labelled)
    → IsTrue (is_well_formed f) → IsValidEdit edit → edit_refusal limit edit f ≡ None → IsTrue (is_well_formed (edited edit f))
edited_formed load insert delete replace limit (Load t) f w v e = load (tree_of t) f w v (none_before _ limit _ e)
edited_formed load insert delete replace limit (Insert place x t) f w v e = insert place x (tree_of t) f w v (none_before _ limit _ e)
edited_formed load insert delete replace limit (Delete x) f w v e = delete x f w
edited_formed load insert delete replace limit (Replace x t) f w v e = replace x (tree_of t) f w v (none_before _ limit _ e)

filter_few : {X : Type 0} (p : X → Bool) (xs : List X) → length (filter p xs) ≤ length xs
filter_few p xs = omega (arith, length-filter_both p (λ x. not (p x)) (λ _. refl) xs)

pub few : (removes : List Key) (puts old new : Entries) → IsDifference removes puts old new → length removes + length puts ≡ differing old new
few removes puts old new d = ap₂ (λ a b. a + b) (ap length d.removes_are ∙ length-map (gone old new) (λ (e : Entry). e.0)) (ap length d.puts_are)

pub few_all : (old new : Entries) → differing old new ≤ length old + length new
few_all old new = omega (arith, filter_few (λ (e : Entry). not (has new e.0)) old, filter_few (λ (e : Entry). not (holds old e)) new)
