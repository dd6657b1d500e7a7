-- Fragments on a stack, the first of them in document order last.
use Rattle.std.specs.Prelude.{ℕ, true, false, List, [], ◌∷◌, ◌++◌, ◌≡◌, map, reverse, Option, Some, None}
use Rattle.mm_label.specs.Fronts.{Label, is_front}
use Rattle.mm_match.specs.declared.mark.Mark.{Mark}
use Rattle.mm_tree.specs.declared.fragment.Fragment.{Fragment}
use Rattle.mm_tree.specs.Trees.{Trees}
use Rattle.mm_tree.specs.Numbering.{Labelled}
use Rattle.mm_tree.specs.Fragments.{Named, fragment_tree, fragment_trees}
use Rattle.mm_tree.specs.Formed.{name_label}
use Rattle.mm_tree.specs.Rebuild.{below, behind}
use Rattle.mm_fragment.specs.Showing.{shown_at}

-- the trees on the stack, in document order
abbrev pub piled : List Fragment → Trees Named
piled stack = fragment_trees (reverse stack)

abbrev pub label_of : Fragment → Label
label_of f = (fragment_tree f).0.label

-- the last of the stack is taken off where it lies at or below x
abbrev pub TakesOff : Label → List Fragment → List Fragment → Option Fragment → Type 0
TakesOff x old new None = (new ≡ old) × ((s : List Fragment) (t : Fragment) → old ≡ s ++ t ∷ [] → is_front x (label_of t) ≡ false)
TakesOff x old new (Some t) = (old ≡ new ++ t ∷ []) × (is_front x (label_of t) ≡ true)

-- what lies at or below x is taken off, in document order
pub record TakesBelow (x : Label) (old new off : List Fragment) : Type 0 where
  pub taken : fragment_trees off ≡ below name_label x (piled old)
  pub left : piled new ≡ behind name_label x (piled old)

-- what the fragments show of their own nodes, one by one
abbrev pub roots : List Fragment → List Named
roots fs = map (λ f. (fragment_tree f).0) fs

-- what is to be shown of these nodes, one by one
abbrev pub shown_all : List (List ℕ) → Trees Labelled → List Mark → List Named
shown_all query forest marks = map (λ m. shown_at query forest m.label) marks
