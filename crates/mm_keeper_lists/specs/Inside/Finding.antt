-- What a look-up over the image of a forest finds, and tells.
use Rattle.std.specs.Prelude.{ℕ, ℤ, List, Option}
use Rattle.mm_tree.specs.Trees.{Trees}
use Rattle.mm_tree.specs.Numbering.{Labelled}
use Rattle.mm_keeper.specs.Entries.{Entry}
use Rattle.mm_image.specs.Image.{image}
use Rattle.mm_image.specs.Facts.Finding.{IsDown, IsUp}
use Rattle.mm_keeper_lists.specs.Found.{Tells}

-- it tells the first entry at or above the key
abbrev pub TellsUp : Trees Labelled → List ℕ → List ℕ → Option (List ℤ) → Type 0
TellsUp f w key o = (e : Option Entry) × IsUp (image f) key e × Tells w e o

-- it tells the last entry at or below the key
abbrev pub TellsDown : Trees Labelled → List ℕ → List ℕ → Option (List ℤ) → Type 0
TellsDown f w key o = (e : Option Entry) × IsDown (image f) key e × Tells w e o
