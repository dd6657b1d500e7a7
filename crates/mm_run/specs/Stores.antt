-- What a store's keeper holds between two commands, and what a crash leaves.
use Rattle.std.specs.Prelude.{◌≡◌, ◌⊎◌, ℕ, List, [], ◌∷◌, Some}
use Rattle.std.specs.declared.option.Option.{Option}
use Rattle.mm_image.specs.Ground.{HoldsImage}
use Rattle.mm_image.specs.Image.{image}
use Rattle.mm_keeper.specs.Entries.{Entries}
use Rattle.mm_keeper.specs.Keeping.{Seen}
use Rattle.mm_tree.specs.Numbering.{Labelled}
use Rattle.mm_tree.specs.Trees.{Trees}
use Rattle.mm_run.specs.Answers.{Answers}
use Rattle.mm_run.specs.declared.command.Command.{Command}
use Rattle.mm_options.specs.declared.options.Options.{Options}

-- Both maps are the image of this well-formed forest.
abbrev pub Rests : {K S : Type 0} → (K → Type 0) → (K → Seen S) → K → Trees Labelled → Type 0
Rests has_maps seen k forest = HoldsImage has_maps seen k forest × ((seen k).kept ≡ image forest)

-- The map is the image of the forest, or of the one after the first of these commands.
abbrev pub IsLeftBy : Options → Trees Labelled → List Command → Option Entries → Type 0
IsLeftBy options forest [] m = m ≡ Some (image forest)
IsLeftBy options forest (command ∷ commands) m =
    (m ≡ Some (image forest)) ⊎ ((reply : List ℕ) × (after : Trees Labelled) × Answers options forest command reply after × (m ≡ Some (image after)))

-- A crash now leaves the image of this forest.
abbrev pub LeavesNow : {K : Type 0} → (K → ℕ) → (K → ℕ → Option Entries → Type 0) → K → Trees Labelled → Type 0
LeavesNow moment left_since k forest = (m : Option Entries) → left_since k (moment k) m → m ≡ Some (image forest)
