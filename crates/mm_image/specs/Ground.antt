-- What calls that read through a keeper stand over, and what they leave and answer.
use Rattle.std.specs.Prelude.{ℕ, ◌≡◌, ◌≤◌, ◌↔◌, Bool, true, false, Option, Some, IsTrue}
use Rattle.mm_tree.specs.Trees.{Trees}
use Rattle.mm_tree.specs.Numbering.{Labelled}
use Rattle.mm_tree.specs.Forests.{is_well_formed}
use Rattle.mm_image.specs.Image.{image}
use Rattle.mm_host.specs.Causes.{Rose}
use Rattle.mm_host.specs.Moments.{LeavesAsBefore}
use Rattle.mm_host.specs.declared.damage.Fault.{Fault}
use Rattle.mm_host.specs.declared.damage.Fault.TheVariants as fault
use Rattle.mm_keeper.specs.Entries.{Entries}
use Rattle.mm_keeper.specs.Keeping.{Seen, Written, WritesNothing, spent_after}

-- The keeper is over the same disk, with the same maps; no byte was written, no change more is to be committed, and a crash leaves what one before might have left.
pub record SameGround {K D S : Type 0} (over : K → D) (has_maps : K → Type 0) (tells : Type 0) (seen : K → Seen S) (written : K → Written) (changes : K → ℕ) (moment : K → ℕ) (left_since : K → ℕ → Option Entries → Type 0) (old new : K) : Type 0 where
  pub device : over new ≡ over old
  pub maps : has_maps old ↔ has_maps new
  pub same : has_maps old → seen new ≡ seen old
  pub quiet : tells → WritesNothing written changes 0 old new
  pub any_moment : has_maps old → LeavesAsBefore moment left_since old new

-- The keeper has its maps, and the one now is the image of this well-formed forest.
abbrev pub HoldsImage : {K S : Type 0} → (K → Type 0) → (K → Seen S) → K → Trees Labelled → Type 0
HoldsImage has_maps seen k f = has_maps k × IsTrue (is_well_formed f) × ((seen k).now ≡ image f)

-- The keeper is sound, and no count falls. A disk's fault comes only where its count rose, and `Spent` only where the keeper was spent; it is spent
-- afterwards where it was, or where the disk failed.
pub record Accounts {K : Type 0} (is_sound : K → Type 0) (is_spent : K → Bool) (faults wants : K → ℕ) (old new : K) (answer : Option Fault) : Type 0 where
  pub sound : is_sound new
  pub faults_later : faults old ≤ faults new
  pub wants_later : wants old ≤ wants new
  pub disk_fault : answer ≡ Some fault.DiskFault → Rose (faults old) (faults new)
  pub spent : answer ≡ Some fault.Spent → is_spent old ≡ true
  pub then_spent : is_spent new ≡ spent_after false (is_spent old) answer
