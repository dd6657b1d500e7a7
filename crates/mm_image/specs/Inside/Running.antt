-- While the run of a subtree is gone over.
use Rattle.std.specs.Prelude.{ℕ, ℤ, ◌≡◌, ◌⊎◌, ◌<◌, IfOk, IfErr, is_some, ◌≤◌, ◌+◌, ◌++◌, IfSome, length, Bool, true, false, List, [], ◌∷◌, Option, Some, None, drop, Result, Ok, Err, ⊤}
use Rattle.mm_host.specs.declared.damage.Damage.{Damage}
use Rattle.mm_host.specs.declared.damage.Damage.TheVariants as damage
use Rattle.mm_host.specs.declared.damage.Fault.{Fault}
use Rattle.mm_host.specs.declared.damage.Fault.TheVariants as fault
use Rattle.mm_keeper.specs.Entries.{Entries, Entry, has}
use Rattle.mm_tree.specs.declared.node.Node.{Node}
use Rattle.mm_tree.specs.Numbering.{Labelled, node_of}
use Rattle.mm_tree.specs.Trees.{Tree}
use Rattle.mm_image.specs.declared.gathering.Group.{Group}
use Rattle.mm_image.specs.Keys.{chunk_key}
use Rattle.mm_image.specs.Subtrees.{at_or_below, begins, leading, run_of, IsSubtree, IsUndamaged, NamesKey}
use Rattle.mm_image.specs.Inside.Gathered.{BeginNone, Takes, gathered}

-- what is left of the run at a place
abbrev pub left_at : List ℕ → Entries → Option ℕ → Entries
left_at front m None = []
left_at front m (Some i) = leading front (drop i m)

-- a key is named, and no chunks of nodes begin so
abbrev pub NamesOdd : Entries → Fault → Type 0
NamesOdd es (fault.Damaged (damage.Key key)) = BeginNone es
NamesOdd es (fault.Damaged (damage.Cut place at needed held)) = ⊥
NamesOdd es (fault.Damaged (damage.Digest at stored found)) = ⊥
NamesOdd es (fault.Damaged (damage.Sort at stored due)) = ⊥
NamesOdd es (fault.Damaged (damage.Size at stored least most)) = ⊥
NamesOdd es (fault.Damaged (damage.Page page why stored due)) = ⊥
NamesOdd es fault.DiskFault = ⊤
NamesOdd es fault.Spent = ⊤
NamesOdd es fault.Memory = ⊤

-- a fault of this crate's own
abbrev pub IsOwn : Fault → Type 0
IsOwn (fault.Damaged d) = ⊤
IsOwn fault.DiskFault = ⊥
IsOwn fault.Spent = ⊥
IsOwn fault.Memory = ⊤

-- the entry is of the run, and no chunks of nodes begin so, where damage is told
abbrev pub IsRefused : List ℕ → List Group → Entry → Fault → Type 0
IsRefused front old e f = (f ≡ fault.Memory) ⊎ ((begins front e ≡ true) × NamesOdd (gathered old ++ e ∷ []) f)

-- an entry was looked at: it was gathered, or its key doesn't begin so
abbrev pub Looks : List ℕ → List Group → List Group → Entry → Result Bool Fault → Type 0
Looks front old new e (Ok true) = (begins front e ≡ true) × Takes old new e true
Looks front old new e (Ok false) = (begins front e ≡ false) × (new ≡ old)
Looks front old new e (Err f) = IsOwn f × IsRefused front old e f

-- the same of an entry that a keeper lends, where no damage is told but this
abbrev pub LooksAt : List ℕ → List Group → List Group → Entry → Result Bool Fault → Type 0
LooksAt front old new e (Ok b) = Looks front old new e (Ok b)
LooksAt front old new e (Err f) = ((d : Damage) → f ≡ fault.Damaged d → ⊥) ⊎ ((begins front e ≡ true) × NamesOdd (gathered old ++ e ∷ []) f)

-- the tree at a label of which these are the chunks; none where there is none
abbrev pub TreeAt : List ℤ → Entries → Option (Tree Labelled) → Type 0
TreeAt label es None = (t : Tree Labelled) → IsSubtree label t es → ⊥
TreeAt label es (Some t) = IsSubtree label t es

-- an entry of the run was gathered, or the run has ended: what is left of it, and what it cost
pub record GoesOn (front : List ℕ) (m : Entries) (old new : List Group) (steps steps' : ℕ) (i : ℕ) (o : Option ℕ) : Type 0 where
  pub run : gathered new ++ left_at front m o ≡ gathered old ++ left_at front m (Some i)
  pub cost : steps' + length (left_at front m o) ≤ steps + length (left_at front m (Some i))
  pub shorter : IfSome o (λ j. length (left_at front m o) < length (left_at front m (Some i)))
  pub stands : IfSome o (λ j. j < length m)

-- all that the run has was gathered
pub record Gathers (front : List ℕ) (m : Entries) (groups : List Group) (steps steps' : ℕ) (i : ℕ) : Type 0 where
  pub run : gathered groups ≡ left_at front m (Some i)
  pub cost : steps' ≤ steps + length (left_at front m (Some i))

-- it was not gathered: why, and what it cost
pub record StopsAt (front : List ℕ) (m : Entries) (groups : List Group) (steps steps' : ℕ) (i : ℕ) (f : Fault) : Type 0 where
  pub odd : NamesOdd (gathered groups ++ left_at front m (Some i)) f
  pub cost : steps' ≤ steps + length (left_at front m (Some i))

-- what was read of the subtree at a label, and what it cost
pub record Reaches (label : List ℤ) (m : Entries) (steps steps' : ℕ) (r : Result (Option Node) Fault) : Type 0 where
  pub some : IfOk r (λ o. is_some o ≡ has m (chunk_key label 0))
  pub node : IfOk r (λ o. IfSome o (λ n. IsSubtree label (node_of n) (run_of label m)))
  pub damaged : IfErr r (NamesKey label (at_or_below label m))
  pub held : has m (chunk_key label 0) ≡ false → IfErr r IsUndamaged
  pub cost : steps' ≤ steps + 1 + length (run_of label m)
