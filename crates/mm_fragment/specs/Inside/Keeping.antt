-- The nodes that a fragment keeps.
use Rattle.std.specs.Prelude.{◌≡◌, ◌↔◌, List}
use Rattle.mm_label.specs.Fronts.{Label, Ascends, Within}
use Rattle.mm_match.specs.declared.mark.Mark.{Mark}
use Rattle.mm_match.specs.Marks.{IsOnPath, kept, labels, mask_at}

-- r has each node on a path from the root to a match, in order, with its mask
pub record AreMasks (root : Label) (matches r : List Mark) : Type 0 where
  pub ordered : Ascends (labels r)
  pub on_path : (x : Label) → Within x (labels r) ↔ IsOnPath root matches x
  pub words : (m : Mark) → Within m r → m.mask ≡ mask_at m.label matches

-- what is kept of them
pub record IsKept (root : Label) (matches ks : List Mark) : Type 0 where
  pub all : List Mark
  pub masks : AreMasks root matches all
  pub kept : ks ≡ kept all
