-- What blame keeps, as statements that the laws prove.
use Rattle.std.specs.Prelude.{ℕ, ◌<◌, List, [], ◌∷◌, ◌≡◌, ◌↔◌, None, IsTrue}
use Rattle.mm_keeper.specs.Entries.{Entries, IsSorted}
use Rattle.mm_tree.specs.Forests.{is_well_formed}
use Rattle.mm_tree.specs.Numbering.{Labelled}
use Rattle.mm_tree.specs.Trees.{Trees}
use Rattle.mm_image.specs.Image.{image}
use Rattle.mm_check.specs.Blame.{blame, first_difference}

-- two lists of entries are the same exactly where no first difference is told
abbrev pub DifferencesTell : Type 0
DifferencesTell = (stored due : Entries) → (first_difference stored due ≡ None) ↔ (stored ≡ due)

abbrev pub AreBytes : List ℕ → Type 0
AreBytes [] = Unit {0}
AreBytes (b ∷ bs) = (b < 256) × AreBytes bs

-- all values are bytes
abbrev pub AreValues : Entries → Type 0
AreValues [] = Unit {0}
AreValues (e ∷ es) = AreBytes e.1 × AreValues es

-- the map is the image of a well-formed forest
pub record IsImage (m : Entries) : Type 0 where
  pub forest : Trees Labelled
  pub well : IsTrue (is_well_formed forest)
  pub is : m ≡ image forest

-- Nothing is named in the image of a well-formed forest, and a map in which nothing is named is such an image.
abbrev pub SoundIsImage : Type 0
SoundIsImage = (m : Entries) → (IsImage m → blame m ≡ None) × (IsSorted m → AreValues m → blame m ≡ None → IsImage m)
