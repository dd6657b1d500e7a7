-- Which marks are kept, by parents and siblings: the contributors of MaxMatch.
-- Liu and Chen: "Reasoning and Identifying Relevant Matches for XML Keyword Search", VLDB 2008.
use Rattle.std.specs.Prelude.{false, List, [], ◌∷◌, ◌≡◌, ◌⊎◌, ◌↔◌, All, AllPairs, Contains}
use Rattle.mm_label.specs.Label.{IsLabel, IsBefore}
use Rattle.mm_label.specs.Fronts.{Label, Ascends, Within, parent}
use Rattle.mm_match.specs.declared.mark.Mark.{Mark}
use Rattle.mm_match.specs.Marks.{labels, IsOnPath, under, kept}

-- the marks of a tree: in document order, the root's first, and with each other one that of its parent
pub record AreOfTree (root : Mark) (others : List Mark) : Type 0 where
  pub ordered : AllPairs IsBefore (labels (root ∷ others))
  pub labelled : All IsLabel (labels (root ∷ others))
  pub parents : (m : Mark) → Contains others m → Contains (labels (root ∷ others)) (parent m.label)

-- its parent is kept, and no sibling has all its words and more
pub record IsContributor (all : List Mark) (m : Mark) : Type 0 where
  pub parent_kept : Contains (labels (kept all)) (parent m.label)
  pub unbeaten : (n : Mark) → Contains all n → parent n.label ≡ parent m.label → under m.mask n.mask ≡ false

-- kept are the root, and those of the others that are contributors
abbrev pub KeptAreContributors : Type 0
KeptAreContributors =
    (root : Mark) (others : List Mark) → AreOfTree root others
    → (m : Mark) → Contains (kept (root ∷ others)) m ↔ ((m ≡ root) ⊎ (Contains others m × IsContributor (root ∷ others) m))

-- they stay in document order
abbrev pub KeptRise : Type 0
KeptRise = (all : List Mark) → AllPairs IsBefore (labels all) → AllPairs IsBefore (labels (kept all))

-- marks that begin with the root's and are of a tree
pub record AreRooted (root : Label) (marks : List Mark) : Type 0 where
  pub first : Mark
  pub others : List Mark
  pub are : marks ≡ first ∷ others
  pub root_first : first.label ≡ root
  pub of_tree : AreOfTree first others

-- the nodes on the paths from a root to matches are marks of a tree, where there are any
abbrev pub PathsAreOfTree : Type 0
PathsAreOfTree =
    (root : Label) (matches marks : List Mark) → IsLabel root → All IsLabel (labels marks) → Ascends (labels marks)
    → ((x : Label) → Within x (labels marks) ↔ IsOnPath root matches x) → (marks ≡ []) ⊎ AreRooted root marks
