use Rattle.std.proofs.Common.{length}
use Rattle.mm_tree.specs.Numbering.{forest_of}
use Rattle.mm_fragment.specs.Showing.{shown_at}
use Rattle.mm_fragment.proofs.ShowAll.{Showing}
use Rattle.mm_fragment.proofs.showing.show_all.Given as goal

abbrev pub invariant-loop-label : goal.invariant-loop-label
invariant-loop-label l = Showing (λ m. shown_at l.query (forest_of l.forest) m.label) l.fn.nodes l.left l.shown

abbrev pub decreases-loop-label : goal.decreases-loop-label
decreases-loop-label l = length l.left
