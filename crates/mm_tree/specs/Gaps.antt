-- The labels around a new root as the program holds them, and when a label can stand between them.
use Rattle.std.specs.Prelude.{true, false, IsTrue, ◌≡◌, ◌⊎◌, IfSome, [], option_map}
use Rattle.mm_label.specs.Label.{is_child, last_odd}
use Rattle.mm_label.specs.Between.{IsOrdered}
use Rattle.mm_label.specs.Refusals.{front_of}
use Rattle.mm_tree.specs.declared.forest.opening.Opening.{Opening}
use Rattle.mm_tree.specs.Edits.{Gap, left_segment, right_segment}

-- the labels around an opening
abbrev pub gap_of : Opening → Gap
gap_of o = record { parent = front_of (option_map (λ p. p.now) o.parent); left = option_map (λ l. l.now) o.left; right = option_map (λ r. r.now) o.right }

-- the parent's label is nothing or a label, the neighbours' go on from it, and they rise
pub record IsOpen (g : Gap) : Type 0 where
  pub parent : (g.parent ≡ []) ⊎ (last_odd false g.parent ≡ true)
  pub left : IfSome g.left (λ l. IsTrue (is_child g.parent l))
  pub right : IfSome g.right (λ r. IsTrue (is_child g.parent r))
  pub ordered : IsOrdered (left_segment g) (right_segment g)
