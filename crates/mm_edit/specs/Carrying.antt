-- What calls that remove from a keeper and put into it leave as it was.
use Rattle.std.specs.Prelude.{◌≡◌, ◌≤◌, ◌<◌, ◌↔◌, ℕ, Bool, true, false, Option, Some, None}
use Rattle.mm_host.specs.Causes.{Rose}
use Rattle.mm_host.specs.Moments.{LeavesOnly}
use Rattle.mm_host.specs.declared.damage.Damage.{Damage}
use Rattle.mm_host.specs.declared.damage.Fault.{Fault}
use Rattle.mm_host.specs.declared.damage.Fault.TheVariants as fault
use Rattle.mm_keeper.specs.Entries.{Entries}
use Rattle.mm_keeper.specs.Keeping.{Seen, Written, WritesNothing, spent_after}

-- After at most so many removes and puts the keeper is over the same disk and sound, has its maps exactly where it had them, and keeps the same one. No byte was
-- written, at each moment a crash left the kept map, and no count falls. A disk's fault comes only where its count rose, and no damage where there are
-- maps. Where the keeper was spent, and there is anything to do, `Spent` comes, and it comes only there.
pub record Carries {K D S : Type 0} (over : K → D) (tells : Type 0) (has_maps is_sound : K → Type 0) (seen : K → Seen S) (is_spent : K → Bool) (faults wants moment : K → ℕ)
    (left_since : K → ℕ → Option Entries → Type 0) (written : K → Written) (changes : K → ℕ) (calls : ℕ) (old new : K) (answer : Option Fault) : Type 0 where
  pub device : over new ≡ over old
  pub sound : is_sound new
  pub maps : has_maps old ↔ has_maps new
  pub kept : has_maps old → (seen new).kept ≡ (seen old).kept
  pub quiet : tells → WritesNothing written changes calls old new
  pub any_moment : has_maps old → is_spent old ≡ false → LeavesOnly moment left_since old new (λ m. m ≡ Some (seen old).kept)
  pub faults_later : faults old ≤ faults new
  pub wants_later : wants old ≤ wants new
  pub disk_fault : answer ≡ Some fault.DiskFault → Rose (faults old) (faults new)
  pub no_damage : has_maps old → (damage : Damage) → answer ≡ Some (fault.Damaged damage) → ⊥
  pub spent : answer ≡ Some fault.Spent → is_spent old ≡ true
  pub unspent : answer ≡ None → 0 < calls → is_spent old ≡ false
  pub then_spent : is_spent new ≡ spent_after true (is_spent old) answer
