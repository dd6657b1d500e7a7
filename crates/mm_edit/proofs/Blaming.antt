-- What the calls of a plan blame, as what the plan does.
use Rattle.std.proofs.Common.{inl, inr, ◌≡◌, ℕ, ℤ, List, Option, Some, None, Result, Ok, Err, refl, ap, ◌∙◌, IfErr}
use Rattle.mm_host.specs.declared.damage.Damage.TheVariants as damage
use Rattle.mm_host.specs.declared.damage.Fault.{Fault}
use Rattle.mm_host.specs.declared.damage.Fault.TheVariants as fault
use Rattle.mm_image.specs.Content.{count_in}
use Rattle.mm_image.specs.Keys.{count_key}
use Rattle.mm_keeper.specs.Entries.{Entries, lookup}
use Rattle.mm_tree.specs.declared.refusal.TreeError.{TreeError}
use Rattle.mm_tree.specs.declared.refusal.TreeError.TheVariants as tree
use Rattle.mm_edit.specs.Blame.{Blames, BlamesTarget, IsUnreadable, TellsNoNumber}
use Rattle.mm_edit.specs.Difference.{Key}
use Rattle.mm_edit.specs.Inside.Counting.{BlamesCounts, number_in}
use Rattle.mm_edit.specs.Inside.Placing.{BlamesHeld}
use Rattle.mm_edit.specs.Inside.Sites.{BlamesFound}
use Rattle.mm_edit.specs.Plans.{IfFault, of_tree}
use Rattle.mm_edit.specs.declared.changing.WordChange.{WordChange}
use Rattle.mm_edit.specs.declared.plan.EditError.{EditError}
use Rattle.mm_edit.specs.declared.plan.EditError.TheVariants as error

blames_so : (P Q : Key → Type 0) (f : Fault) → ((k : Key) → P k → Q k) → Blames P f → Blames Q f
blames_so P Q (fault.Damaged (damage.Key key)) h b = h key b
blames_so P Q (fault.Damaged (damage.Cut place at needed held)) h b = absurd b
blames_so P Q (fault.Damaged (damage.Digest at stored found)) h b = absurd b
blames_so P Q (fault.Damaged (damage.Sort at stored due)) h b = absurd b
blames_so P Q (fault.Damaged (damage.Size at stored least most)) h b = absurd b
blames_so P Q (fault.Damaged (damage.Page page why stored due)) h b = absurd b
blames_so P Q fault.DiskFault h b = tt
blames_so P Q fault.Spent h b = tt
blames_so P Q fault.Memory h b = tt

no_number : (o : Option (List ℕ)) → number_in o ≡ None → (v : List ℕ) × (o ≡ Some v) × (count_in v ≡ None)
no_number None e = absurd cc
no_number (Some v) e = (v, refl, e)

no_count : (m : Entries) (t : WordChange) (key : Key) → key ≡ count_key t.word → number_in (lookup m (count_key t.word)) ≡ None → TellsNoNumber m key
no_count m t key e n = let v = no_number (lookup m (count_key t.word)) n in (t.word, v.0, e, ap (lookup m) e ∙ v.1, v.2)

held : (m : Entries) (f : Fault) → BlamesHeld m f → Blames (IsUnreadable m) f
held m f b = blames_so _ (IsUnreadable m) f (λ key h. inl (h.0, h.1, h.2, h.3)) b

pub counts : (m : Entries) (ts : List WordChange) (f : Fault) → BlamesCounts m ts f → Blames (IsUnreadable m) f
counts m ts f b = blames_so _ (IsUnreadable m) f (λ key h. inr (no_count m h.0 key h.2 h.3)) b

-- ---- of a plan that wasn't made

pub found_blamed : (m : Entries) (e : EditError) → BlamesFound m e → IfFault (Blames (IsUnreadable m)) e
found_blamed m (error.Refused r) b = tt
found_blamed m (error.Fault f) b = held m f b

pub counts_blamed : {T : Type 0} (m : Entries) (ts : List WordChange) (r : Result T EditError) → IfErr r (IfFault (BlamesCounts m ts)) → IfErr r (IfFault (Blames (IsUnreadable m)))
counts_blamed m ts (Ok x) b = tt
counts_blamed m ts (Err (error.Refused r)) b = tt
counts_blamed m ts (Err (error.Fault f)) b = counts m ts f b

pub at_target : {T : Type 0} (target : List ℤ) (m : Entries) (r : Result T EditError) → IfErr r (IfFault (Blames (IsUnreadable m))) → IfErr r (IfFault (BlamesTarget target m))
at_target target m (Ok x) b = tt
at_target target m (Err (error.Refused r)) b = tt
at_target target m (Err (error.Fault f)) b = inl b

pub tree_blamed : (target : List ℤ) (m : Entries) (e : TreeError) → IfFault (BlamesTarget target m) (of_tree e)
tree_blamed target m (tree.Refused r) = tt
tree_blamed target m tree.Memory = inl tt
