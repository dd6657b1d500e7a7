use Rattle.std.proofs.Common.{ap, sym, subst, ◌∙◌, ◌+◌, ◌≤◌, ◌&&◌, []}
use Rattle.std.specs.Prelude.{None}
use Rattle.mm_tree.specs.Trees.{tree_of, one, levels}
use Rattle.mm_tree.specs.Numbering.{forest_of, node_of}
use Rattle.mm_tree.specs.Edits.{found, gap, is_inside, is_text_node}
use Rattle.mm_tree.specs.Gaps.{gap_of}
use Rattle.mm_tree.specs.Inside.Ways.{gap_down}
use Rattle.mm_tree.proofs.MeasureFacts.{node_count_fits}
use Rattle.mm_tree.proofs.EditFacts.{Inserting, the_insertion, insertion_formed}
use Rattle.mm_tree.proofs.forest.changes.insert_in.Goals as goal
use Rattle.mm_tree.proofs.forest.changes.insert_in.Goals.{In_ok-edit_below}

steps : (c : In_ok-edit_below) → Inserting c.args.place c.args.target.now (forest_of c.args.trees.now) (forest_of c.edit_below.new.trees) (tree_of c.args.tree) (node_of c.in_ok-numbered.numbered) (gap_of c.in_ok-opening.opening) c.in_ok-label.label
steps c =
    let p = c.args.place in
    let x = c.args.target.now in
    let back = sym c.as_slice.ensures in
    record {
      well = c.requires.formed;
      valid = c.requires.valid;
      down = ap (λ ns. gap_down p x [] None (forest_of ns)) back ∙ c.in_ok-opening.ensures.down;
      here = ap (λ ns. gap p x [] None (forest_of ns)) back ∙ c.in_ok-opening.ensures.here;
      childless = ap (λ ns. is_inside p && is_text_node (found x (forest_of ns))) back ∙ c.in_ok-opening.ensures.childless;
      element = λ z. c.in_ok-nodes.ensures.element (c.level_of.ensures ∙ z);
      levels_fit = subst (λ n. n + levels (one (tree_of c.args.tree)) ≤ 200) c.level_of.ensures c.in_ok-nodes.ensures.shallow;
      label_is = c.in_ok-label.ensures.label.0;
      label_fits = c.in_ok-label.ensures.label.1;
      lies = c.in_ok-label.ensures.lies;
      numbered = c.in_ok-numbered.ensures.0;
      below_fits = c.in_ok-numbered.ensures.1;
      edited = c.in_ok-edit_below.ensures.ok;
    }

pub returns-clause-inserted : goal.returns-clause-inserted
returns-clause-inserted c = the_insertion c.args.place c.args.target.now (forest_of c.args.trees.now) (forest_of c.edit_below.new.trees) (tree_of c.args.tree) (node_of c.in_ok-numbered.numbered) (gap_of c.in_ok-opening.opening) c.in_ok-label.label (steps c)

pub returns-clause-formed : goal.returns-clause-formed
returns-clause-formed c = insertion_formed c.args.place c.args.target.now (forest_of c.args.trees.now) (forest_of c.edit_below.new.trees) (tree_of c.args.tree) (node_of c.in_ok-numbered.numbered) (gap_of c.in_ok-opening.opening) c.in_ok-label.label (steps c)

pub returns-clause-nodes : goal.returns-clause-nodes
returns-clause-nodes c = node_count_fits (tree_of c.args.tree) c.in_ok-nodes.nodes c.requires.valid c.in_ok-nodes.ensures.nodes
