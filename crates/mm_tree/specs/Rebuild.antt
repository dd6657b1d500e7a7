-- Trees from their nodes in document order, each node standing below those whose labels are fronts of its own.
use Rattle.std.specs.Prelude.{ℤ, pos, List, [], ◌∷◌, ◌≡◌, refl, if◌then◌else◌}
use Rattle.mm_label.specs.Fronts.{is_front}
use Rattle.mm_tree.specs.Trees.{Trees, none, node, preorder}

-- the first of these siblings, as long as they lie at or below x
abbrev pub below : {A : Type 0} → (A → List ℤ) → List ℤ → Trees A → Trees A
below at x none = none
below at x (node e inner rest) = if is_front x (at e) then node e inner (below at x rest) else none

-- the siblings from the first that doesn't lie at or below x
abbrev pub behind : {A : Type 0} → (A → List ℤ) → List ℤ → Trees A → Trees A
behind at x none = none
behind at x (node e inner rest) = if is_front x (at e) then behind at x rest else node e inner rest

-- a node before some trees takes for its children those of them that lie below it
abbrev pub take_in : {A : Type 0} → (A → List ℤ) → A → Trees A → Trees A
take_in at e trees = node e (below at (at e) trees) (behind at (at e) trees)

-- from the last node to the first, each takes in the trees that lie below it
abbrev pub rebuild : {A : Type 0} → (A → List ℤ) → List A → Trees A
rebuild at [] = none
rebuild at (e ∷ es) = take_in at e (rebuild at es)

-- ---- a worked example

two_below : Trees (List ℤ)
two_below =
    node (pos 1 ∷ [])
    (node (pos 1 ∷ pos 1 ∷ []) (node (pos 1 ∷ pos 1 ∷ pos 1 ∷ []) none none)
    (node (pos 1 ∷ pos 3 ∷ []) none none))
    (node (pos 3 ∷ []) none none)

two_rebuilt : rebuild (λ l. l) (preorder two_below) ≡ two_below
unfolding two_below
two_rebuilt = refl
