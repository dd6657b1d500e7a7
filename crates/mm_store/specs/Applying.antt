-- What an edit that is carried out and committed leaves of a keeper, whatever it answers.
use Rattle.std.specs.Prelude.{ℕ, ◌≡◌, ◌≤◌, ◌+◌, ◌↔◌, ◌⊎◌, Bool, true, false, Option, Some, length}
use Rattle.mm_edit.specs.Difference.{changed, gone}
use Rattle.mm_host.specs.Causes.{Rose}
use Rattle.mm_host.specs.declared.damage.Fault.{Fault}
use Rattle.mm_host.specs.declared.damage.Fault.TheVariants as fault
use Rattle.mm_keeper.specs.Entries.{Entries}
use Rattle.mm_keeper.specs.Keeping.{spent_after}

-- The keeper is over the same disk and sound, with maps exactly where it had them, and no count falls. A disk's fault comes only where its count rose, and `Spent`
-- only where the keeper was spent. It is spent afterwards where it was, where the disk failed, and where memory was wanted once a change had begun; it
-- wasn't spent where the edit is answered.
pub record Performs {K D : Type 0} (over : K → D) (has_maps is_sound : K → Type 0) (is_spent : K → Bool) (faults wants : K → ℕ) (old new : K) (answer : Option Fault) : Type 0 where
  pub device : over new ≡ over old
  pub sound : is_sound new
  pub maps : has_maps old ↔ has_maps new
  pub faults_later : faults old ≤ faults new
  pub wants_later : wants old ≤ wants new
  pub disk_fault : answer ≡ Some fault.DiskFault → Rose (faults old) (faults new)
  pub spent : answer ≡ Some fault.Spent → is_spent old ≡ true
  pub then_spent : (is_spent new ≡ spent_after false (is_spent old) answer) ⊎ (is_spent new ≡ spent_after true (is_spent old) answer)

-- at how many keys two maps differ
abbrev pub differing : Entries → Entries → ℕ
differing old new = length (gone old new) + length (changed old new)
