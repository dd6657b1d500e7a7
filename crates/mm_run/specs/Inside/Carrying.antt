-- What a command does to a store's keeper.
use Rattle.std.specs.Prelude.{ℕ, ◌≡◌, ◌≤◌, ◌+◌, ◌↔◌, ◌⊎◌, Bool, true, false, List, [], Option, Some, None, Result, Ok, Err, IfOk, IfErr}
use Rattle.mm_command.specs.Replies.{reply_text}
use Rattle.mm_command.specs.declared.reply.Reply.{Reply}
use Rattle.mm_host.specs.Causes.{Rose}
use Rattle.mm_host.specs.Moments.{LeavesOnly}
use Rattle.mm_host.specs.declared.damage.Fault.{Fault}
use Rattle.mm_host.specs.declared.damage.Fault.TheVariants as fault
use Rattle.mm_image.specs.Image.{image}
use Rattle.mm_image.specs.Subtrees.{IsUndamaged}
use Rattle.mm_keeper.specs.Entries.{Entries}
use Rattle.mm_keeper.specs.Keeping.{Seen}
use Rattle.mm_tree.specs.Numbering.{Labelled}
use Rattle.mm_tree.specs.Trees.{Trees}
use Rattle.mm_run.specs.Stores.{Rests}

-- The keeper is over the same disk, and its count of faults doesn't fall. A disk's fault comes only where its count rose, and `Spent` only where the keeper was spent;
-- after an answer it is spent only where it was.
pub record Stands {K D : Type 0} (over : K → D) (has_maps : K → Type 0) (is_spent : K → Bool) (faults : K → ℕ) (old new : K) (answer : Option Fault) : Type 0 where
  pub device : over new ≡ over old
  pub maps : has_maps old ↔ has_maps new
  pub faults_later : faults old ≤ faults new
  pub disk_fault : answer ≡ Some fault.DiskFault → Rose (faults old) (faults new)
  pub spent : answer ≡ Some fault.Spent → is_spent old ≡ true
  pub unspent : answer ≡ None → is_spent old ≡ false → is_spent new ≡ false

-- so many steps were allowed and taken
abbrev pub Takes : (ℕ → Type 0) → ℕ → ℕ → Type 0
Takes Allowed before after = (n : ℕ) × Allowed n × (after ≤ before + n)

-- the map is the image of the forest, or of one that the command makes of it
abbrev pub IsLeft : (List ℕ → Trees Labelled → Type 0) → Trees Labelled → Option Entries → Type 0
IsLeft Answered forest m = (m ≡ Some (image forest)) ⊎ ((reply : List ℕ) × (after : Trees Labelled) × Answered reply after × (m ≡ Some (image after)))

-- A keeper that held the forest holds the one after the answer; without one no damage is told. A crash leaves the one or the other.
pub record Carried {K S X : Type 0} (has_maps : K → Type 0) (seen : K → Seen S) (is_spent : K → Bool) (moment : K → ℕ) (left_since : K → ℕ → Option Entries → Type 0)
    (text : X → List ℕ) (Answered : List ℕ → Trees Labelled → Type 0) (Allowed : ℕ → Type 0) (forest : Trees Labelled) (old new : K) (before after : ℕ) (result : Result X Fault) : Type 0 where
  pub answered : IfOk result (λ x. (later : Trees Labelled) × Answered (text x) later × Rests has_maps seen new later)
  pub undamaged : IfErr result IsUndamaged
  pub any_moment : is_spent old ≡ false → LeavesOnly moment left_since old new (IsLeft Answered forest)
  pub steps : Takes Allowed before after

-- the text of a reply, and nothing without one
abbrev pub said : Option Reply → List ℕ
said None = []
said (Some reply) = reply_text reply

-- a reply that is written
abbrev pub told : Result Reply Fault → Result (Option Reply) Fault
told (Ok reply) = Ok (Some reply)
told (Err e) = Err e
