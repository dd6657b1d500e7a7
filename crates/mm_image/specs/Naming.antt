-- The name of a node, as a map tells it.
use Rattle.std.specs.Prelude.{ℕ, ℤ, ◌≡◌, List, Option, Some, None, ⊤}
use Rattle.mm_host.specs.declared.damage.Damage.TheVariants as damage
use Rattle.mm_host.specs.declared.damage.Fault.{Fault}
use Rattle.mm_host.specs.declared.damage.Fault.TheVariants as fault
use Rattle.mm_keeper.specs.Entries.{Entry, Entries, index_of}
use Rattle.mm_image.specs.Content.{name_in}
use Rattle.mm_image.specs.Keys.{chunk_key}
use Rattle.mm_image.specs.Looking.{entry_at}

-- the name in a first piece
abbrev pub name_of_entry : Option Entry → Option (List ℕ)
name_of_entry None = None
name_of_entry (Some e) = name_in e.1

-- the name of the node with this label: that in its first piece, if that is there and has one
abbrev pub stored_name : Entries → List ℤ → Option (List ℕ)
stored_name m x = name_of_entry (entry_at m (index_of m (chunk_key x 0)))

-- damage is told only with the key of the node's first piece, and only where no name is there
abbrev pub BlamesName : Entries → List ℤ → Fault → Type 0
BlamesName m x (fault.Damaged (damage.Key key)) = (key ≡ chunk_key x 0) × (stored_name m x ≡ None)
BlamesName m x (fault.Damaged (damage.Cut place at needed held)) = ⊥
BlamesName m x (fault.Damaged (damage.Digest at stored found)) = ⊥
BlamesName m x (fault.Damaged (damage.Sort at stored due)) = ⊥
BlamesName m x (fault.Damaged (damage.Size at stored least most)) = ⊥
BlamesName m x (fault.Damaged (damage.Page page why stored due)) = ⊥
BlamesName m x fault.DiskFault = ⊤
BlamesName m x fault.Spent = ⊤
BlamesName m x fault.Memory = ⊤
