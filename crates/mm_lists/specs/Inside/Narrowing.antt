-- The deepest label above a node at which one list more is met.
use Rattle.std.specs.Prelude.{[], Option, Some, None, cond}
use Rattle.mm_label.specs.Label.{lca}
use Rattle.mm_label.specs.Fronts.{Label, is_front}

-- the lowest common ancestor with a match, and the empty label without one
abbrev pub ancestor_with : Label → Option Label → Label
ancestor_with x None = []
ancestor_with x (Some m) = lca x m

abbrev pub deeper : Label → Label → Label
deeper a b = cond (is_front a b) b a

-- the deeper of the lowest common ancestors with the left and with the right match
abbrev pub narrowed : Label → Option Label → Option Label → Label
narrowed x left right = deeper (ancestor_with x left) (ancestor_with x right)
