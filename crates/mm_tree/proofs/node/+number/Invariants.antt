use Rattle.std.proofs.Common.{◌≡◌, ◌+◌, true, length, ◌++◌}
use Rattle.std.specs.Prelude.{map}
use Rattle.std.specs.Vec.Iter.{into_iter_items, into_iter_len}
use Rattle.mm_tree.specs.declared.plain.Plain.TheViews.{out-Plain}
use Rattle.mm_tree.specs.Trees.{tree_of, siblings, every}
use Rattle.mm_tree.specs.Numbering.{node_of, has_room}
use Rattle.mm_tree.proofs.NumberFacts.{number_list}
use Rattle.mm_tree.proofs.node.+number.Given as goal

abbrev pub decreases-number : goal.decreases-number
decreases-number l = goal.size-number l

abbrev pub invariant-loop-child : goal.invariant-loop-child
invariant-loop-child l = record {
  kind : l.kind ≡ l.initial.kind;
  may_step : (goal.iterator-loop-child).can_next l.child-iterator;
  ends : (goal.iterator-loop-child).is_finite l.child-iterator;
  whole : into_iter_len l.child-iterator ≡ length (into_iter_items l.child-iterator);
  same : number_list l.fn.label 1 (map tree_of (out-Plain l.fn.tree).children) ≡ map node_of l.nodes ++ number_list l.fn.label (length l.nodes + 1) (map tree_of (into_iter_items l.child-iterator));
  fit : every has_room (siblings (map node_of l.nodes)) ≡ true;
}
