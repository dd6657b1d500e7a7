-- What a call leaves of the lists, whatever it answers.
use Rattle.std.specs.Prelude.{ℕ, Bool, ◌↔◌, Result, IfErr}
use Rattle.mm_host.specs.declared.damage.Damage.{Damage}
use Rattle.mm_host.specs.declared.damage.Fault.{Fault}
use Rattle.mm_tree.specs.Trees.{Trees}
use Rattle.mm_tree.specs.Numbering.{Labelled}
use Rattle.mm_lists.specs.Causes.{BlamesOnly, Caused, IsSound}

-- they stand for the same forest, over the same ground; a refusal has its cause, and tells of no damage but what is damaged there; where they stand for a forest nothing was found wrong
pub record Leaves {S T : Type 0} (stands : S → Trees Labelled → Type 0) (same_ground : S → S → Type 0) (blames : S → Damage → Type 0) (fault_count : S → ℕ) (spent : S → Bool) (before now : S) (result : Result T Fault) : Type 0 where
  pub kept : (f : Trees Labelled) → stands before f ↔ stands now f
  pub ground : same_ground before now
  pub cause : Caused (fault_count before) (fault_count now) (spent before) (spent now) result
  pub blame : IfErr result (BlamesOnly (blames now))
  pub sound : (f : Trees Labelled) → stands before f → IfErr result IsSound
