-- What a plan says, and what it asks of a keeper.
use Rattle.std.specs.Prelude.{ℕ, if◌then◌else◌, nat_lt, ◌≡◌, ◌≤◌, List, [], ◌∷◌, Option, Some, None, Result, Ok, Err, length}
use Rattle.mm_host.specs.declared.damage.Fault.{Fault}
use Rattle.mm_host.specs.declared.damage.Fault.TheVariants as fault
use Rattle.mm_image.specs.Image.{image}
use Rattle.mm_image.specs.Subtrees.{IsUndamaged}
use Rattle.mm_tree.specs.Numbering.{Labelled}
use Rattle.mm_tree.specs.Trees.{Trees}
use Rattle.mm_tree.specs.declared.refusal.Refusal.{Refusal}
use Rattle.mm_tree.specs.declared.refusal.TreeError.{TreeError}
use Rattle.mm_tree.specs.declared.refusal.TreeError.TheVariants as tree
use Rattle.mm_tree.specs.declared.refusal.Refusal.TheVariants.{Full}
use Rattle.mm_edit.specs.declared.plan.EditError.{EditError}
use Rattle.mm_edit.specs.declared.plan.EditError.TheVariants as error
use Rattle.mm_keeper.specs.Entries.{Entry, Entries, HasRoom, put, weight_of}
use Rattle.mm_tree.specs.declared.forest.Done.{Done}
use Rattle.mm_edit.specs.Difference.{Key, without_all}

-- What a plan says: what the edit does, the keys to be removed, and the entries to be put.
pub record Planned : Type 0 where
  pub done : Done
  pub removes : List Key
  pub puts : Entries

-- a keeper takes keys and values of these lengths
abbrev pub IsSized : Entry → Type 0
IsSized e = (1 ≤ length e.0) × (length e.0 ≤ 800) × (length e.1 ≤ 1024)

abbrev pub AreSized : Entries → Type 0
AreSized [] = Unit {0}
AreSized (e ∷ es) = IsSized e × AreSized es

-- each of these puts has room in the map that the ones before it leave
abbrev pub HaveRoom : Entries → Entries → Type 0
HaveRoom m [] = Unit {0}
HaveRoom m (e ∷ es) = HasRoom m e.0 e.1 × HaveRoom (put m e.0 e.1) es

-- the plan's puts have room in the map, once its removes are done
abbrev pub HasRoomFor : Entries → Planned → Type 0
HasRoomFor m plan = HaveRoom (without_all plan.removes m) plan.puts

-- the refusal is this one; another error tells no damage
abbrev pub IsRefusedBy : Option Refusal → EditError → Type 0
IsRefusedBy refusal (error.Refused r) = refusal ≡ Some r
IsRefusedBy refusal (error.Fault f) = IsUndamaged f

-- why a tree can't stand, as why there is no plan
abbrev pub of_tree : TreeError → EditError
of_tree (tree.Refused r) = error.Refused r
of_tree tree.Memory = error.Fault fault.Memory

-- the fault of a plan that couldn't be made
abbrev pub edit_fault : {T : Type 0} → Result T EditError → Option Fault
edit_fault (Ok plan) = None
edit_fault (Err (error.Refused r)) = None
edit_fault (Err (error.Fault f)) = Some f

-- the map of the forest would pass the limit
abbrev pub full_refusal : ℕ → Trees Labelled → Option Refusal
full_refusal limit after = if nat_lt limit (weight_of (image after)) then Some Full else None

-- the refusal by what place, target and tree tell; or else by the weight of the map afterwards
abbrev pub or_full : Option Refusal → ℕ → Trees Labelled → Option Refusal
or_full None limit after = full_refusal limit after
or_full (Some r) limit after = Some r

-- of a fault this holds
abbrev pub IfFault : (Fault → Type 0) → EditError → Type 0
IfFault P (error.Refused r) = Unit {0}
IfFault P (error.Fault f) = P f
