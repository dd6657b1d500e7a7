-- Why a store doesn't answer.
use Rattle.std.specs.Prelude.{◌≡◌, Option, Some, None, Result, Ok, Err, ⊤}
use Rattle.mm_host.specs.declared.damage.Fault.{Fault}
use Rattle.mm_image.specs.Subtrees.{IsUndamaged}
use Rattle.mm_store.specs.declared.store.StoreError.{StoreError}
use Rattle.mm_store.specs.declared.store.StoreError.TheVariants as error
use Rattle.mm_tree.specs.declared.refusal.Refusal.{Refusal}
use Rattle.mm_tree.specs.declared.refusal.Refusal.TheVariants.{Absent}
use Rattle.mm_tree.specs.Numbering.{Labelled}
use Rattle.mm_tree.specs.Trees.{Tree}

-- it is refused since there is no such node; another error tells no damage
abbrev pub IsAbsent : Option (Tree Labelled) → StoreError → Type 0
IsAbsent found (error.Refused r) = (r ≡ Absent) × (found ≡ None)
IsAbsent found (error.Fault f) = IsUndamaged f

-- the fault of a call that didn't answer
abbrev pub store_fault : {T : Type 0} → Result T StoreError → Option Fault
store_fault (Ok x) = None
store_fault (Err (error.Refused r)) = None
store_fault (Err (error.Fault f)) = Some f

-- what is told of a fault
abbrev pub OnFault : (Fault → Type 0) → StoreError → Type 0
OnFault P (error.Refused r) = ⊤
OnFault P (error.Fault f) = P f

-- it is refused by this cause; another error tells no damage
abbrev pub IsRefusedWith : Option Refusal → StoreError → Type 0
IsRefusedWith refusal (error.Refused r) = refusal ≡ Some r
IsRefusedWith refusal (error.Fault f) = IsUndamaged f

-- what is told of a refusal
abbrev pub OnRefusal : Type 0 → StoreError → Type 0
OnRefusal P (error.Refused r) = P
OnRefusal P (error.Fault f) = ⊤
