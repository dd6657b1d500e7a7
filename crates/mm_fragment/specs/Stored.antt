-- What may be told wrong of a keeper's entries by a fragment.
use Rattle.std.specs.Prelude.{ℤ, ◌≡◌, ◌⊎◌, List, None}
use Rattle.mm_host.specs.declared.damage.Damage.{Damage}
use Rattle.mm_host.specs.declared.damage.Damage.TheVariants.{Key}
use Rattle.mm_label.specs.Fronts.{Front}
use Rattle.mm_keeper.specs.Entries.{Entries}
use Rattle.mm_image.specs.Keys.{chunk_key}
use Rattle.mm_image.specs.Naming.{stored_name}
use Rattle.mm_keeper_lists.specs.Found.{IsDamageOf}

-- the damage is the key of the first piece of a node at or below x, which has no name there
abbrev pub LacksName : List ℤ → Entries → Damage → Type 0
LacksName x m d = (y : List ℤ) × Front x y × (stored_name m y ≡ None) × (d ≡ Key (chunk_key y 0))

-- an entry of a keyword list can't be read, or a node at or below x has no name
abbrev pub IsDamageBelow : List ℤ → Entries → Damage → Type 0
IsDamageBelow x m d = IsDamageOf m d ⊎ LacksName x m d
