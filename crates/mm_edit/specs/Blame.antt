-- What damage a plan tells of.
use Rattle.std.specs.Prelude.{ℕ, ℤ, ◌≡◌, ◌⊎◌, ⊤, List, Some, None}
use Rattle.mm_host.specs.declared.damage.Damage.TheVariants as damage
use Rattle.mm_host.specs.declared.damage.Fault.{Fault}
use Rattle.mm_host.specs.declared.damage.Fault.TheVariants as fault
use Rattle.mm_label.specs.Fronts.{Within}
use Rattle.mm_keeper.specs.Entries.{Entries, Entry, lookup}
use Rattle.mm_image.specs.Content.{count_in}
use Rattle.mm_image.specs.Keys.{StandsFor, count_key}
use Rattle.mm_image.specs.Subtrees.{NamesKey, at_or_below}
use Rattle.mm_edit.specs.Difference.{Key}

-- where it is damage, it is that of a key, and the key is so
abbrev pub Blames : (Key → Type 0) → Fault → Type 0
Blames P (fault.Damaged (damage.Key key)) = P key
Blames P (fault.Damaged (damage.Cut place at needed held)) = ⊥
Blames P (fault.Damaged (damage.Digest at stored found)) = ⊥
Blames P (fault.Damaged (damage.Sort at stored due)) = ⊥
Blames P (fault.Damaged (damage.Size at stored least most)) = ⊥
Blames P (fault.Damaged (damage.Page page why stored due)) = ⊥
Blames P fault.DiskFault = ⊤
Blames P fault.Spent = ⊤
Blames P fault.Memory = ⊤

-- the key is held, and is no entry's: of no piece of a node, no occurrence and no count
abbrev pub IsStray : Entries → Key → Type 0
IsStray m key = (e : Entry) × Within e m × (key ≡ e.0) × StandsFor key None

-- the key is that of a word's count, and tells no number there
abbrev pub TellsNoNumber : Entries → Key → Type 0
TellsNoNumber m key = (w v : List ℕ) × (key ≡ count_key w) × (lookup m key ≡ Some v) × (count_in v ≡ None)

-- what stands at the key can't be read
abbrev pub IsUnreadable : Entries → Key → Type 0
IsUnreadable m key = IsStray m key ⊎ TellsNoNumber m key

-- damage names a key at which nothing can be read, or comes where the entries at and below the target are those of no subtree
abbrev pub BlamesTarget : List ℤ → Entries → Fault → Type 0
BlamesTarget target m f = Blames (IsUnreadable m) f ⊎ NamesKey target (at_or_below target m) f
