-- What a fragment shows of a node, as a keeper's entries tell it.
use Rattle.std.specs.Prelude.{ℕ, ℤ, ◌≡◌, List, [], None, unwrap_or}
use Rattle.mm_host.specs.declared.damage.Damage.TheVariants.{Key}
use Rattle.mm_host.specs.declared.damage.Fault.{Fault}
use Rattle.mm_label.specs.Fronts.{Within}
use Rattle.mm_lists.specs.Causes.{BlamesOnly}
use Rattle.mm_match.specs.declared.mark.Mark.{Mark}
use Rattle.mm_keeper.specs.Entries.{Entries}
use Rattle.mm_image.specs.Keys.{chunk_key}
use Rattle.mm_image.specs.Naming.{stored_name}
use Rattle.mm_tree.specs.Fragments.{Named}
use Rattle.mm_fragment.specs.Inside.Owning.{marked_words}

-- the node with the words whose marks it has among these
abbrev pub stored_shown : Entries → List (List ℕ) → List Mark → List ℤ → Named
stored_shown m query marks x = record { label = x; name = unwrap_or (stored_name m x) []; words = marked_words 1 query marks x }

-- Damage is told only with the key of the first piece of one of these nodes that has no name there.
abbrev pub BlamesNames : Entries → List (List ℤ) → Fault → Type 0
BlamesNames m xs = BlamesOnly (λ d. (x : List ℤ) × Within x xs × (stored_name m x ≡ None) × (d ≡ Key (chunk_key x 0)))
