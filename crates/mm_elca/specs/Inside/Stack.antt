-- The walk over the candidates from the last to the first, and what its stack holds.
use Rattle.std.specs.Prelude.{true, false, Option, Some, None, List, [], ◌∷◌, ◌++◌, ◌≡◌, ◌⊎◌}
use Rattle.mm_label.specs.Fronts.{Label, Front, is_front, Apart, Within, Ordered, Lt}
use Rattle.mm_lists.specs.Full.{Rising}

-- each comes after all that stand later, and lies below none of them
abbrev pub Falling : List Label → Type 0
Falling = Ordered (λ d m. Apart m d)

abbrev pub Descends : List Label → Type 0
Descends = Ordered (λ d m. Lt m d)

-- the topmost of those that were passed, the first of them last
pub record Stacked (passed stack : List Label) : Type 0 where
  pub falling : Falling stack
  pub from : (t : Label) → Within t stack → Within t passed
  pub over : (c : Label) → Within c passed → (t : Label) × Within t stack × Front t c

-- some of the stack was taken off, all of it below x
pub record Parted (x : Label) (was stack under : List Label) : Type 0 where
  pub falling : Falling stack
  pub rising : Rising under
  pub left : (t : Label) → Within t stack → Within t was
  pub below : (t : Label) → Within t under → Within t was × Front x t
  pub apart : (u t : Label) → Within u under → Within t stack → Apart u t
  pub all : (t : Label) → Within t was → Within t stack ⊎ Within t under

-- those of the passed ones that have the property, the first of them last
pub record Judged (P : Label → Type 0) (passed done : List Label) : Type 0 where
  pub descends : Descends done
  pub yes : (d : Label) → Within d done → Within d passed × P d
  pub every : (c : Label) → Within c passed → P c → Within c done

-- the last doesn't lie below x
abbrev pub Off : Label → List Label → Type 0
Off x stack = (s : List Label) (t : Label) → stack ≡ s ++ t ∷ [] → is_front x t ≡ false

-- the last was taken where it lies below x
abbrev pub Takes : Label → List Label → List Label → Option Label → Type 0
Takes x old new None = (new ≡ old) × Off x old
Takes x old new (Some t) = (old ≡ new ++ t ∷ []) × (is_front x t ≡ true)
