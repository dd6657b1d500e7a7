use Rattle.std.proofs.Common.{ap, sym, subst, ◌∙◌, ◌+◌, ◌-◌, ◌≤◌}
use Rattle.std.proofs.lemmas.Result.{err_from_is_err_and}
use Rattle.mm_tree.specs.Trees.{tree_of, one, levels}
use Rattle.mm_tree.specs.Numbering.{forest_of, node_of}
use Rattle.mm_tree.specs.Inside.Ways.{found_down}
use Rattle.mm_tree.proofs.MeasureFacts.{node_count_fits}
use Rattle.mm_tree.proofs.EditFacts.{absent_by, present_by, absent_replace, there_and_placed, Replacing, the_replacement, replacement_formed, has_room_here, number_refused}
use Rattle.mm_tree.proofs.forest.changes.replace_in.Goals as goal
use Rattle.mm_tree.proofs.forest.changes.replace_in.Goals.{In_ok-edit_below}

pub returns-in_default-clause-refused : goal.returns-in_default-clause-refused
returns-in_default-clause-refused c =
    let x = c.args.target.now in
    let f = forest_of c.args.trees.now in
    absent_replace x (tree_of c.args.tree) f (absent_by x f c.requires.formed (ap (λ ns. found_down x (forest_of ns)) (sym c.as_slice.ensures) ∙ c.in_default.ensures))

pub returns-in_err-nodes-clause-refused : goal.returns-in_err-nodes-clause-refused
returns-in_err-nodes-clause-refused c =
    let p = err_from_is_err_and c.from_residual.result c.from_residual.ensures.1 in
    let k = there_and_placed c.args.target.now (tree_of c.args.tree) c.as_slice.result.now c.args.trees.now c.in-Some.field-0.now c.level.result c.saturating_sub.result c.requires.formed c.as_slice.ensures c.in-Some.ensures c.level.ensures c.saturating_sub.ensures in
    rw (p.1, p.2, k) (c.in_err-nodes.ensures.refused c.args.target.now)

pub returns-in_err-numbered-clause-refused : goal.returns-in_err-numbered-clause-refused
returns-in_err-numbered-clause-refused c =
    let p = err_from_is_err_and c.from_residual-in_err-numbered.result c.from_residual-in_err-numbered.ensures.1 in
    let k = there_and_placed c.args.target.now (tree_of c.args.tree) c.as_slice.result.now c.args.trees.now c.in-Some.field-0.now c.level.result c.saturating_sub.result c.requires.formed c.as_slice.ensures c.in-Some.ensures c.level.ensures c.saturating_sub.ensures in
    rw (p.1, p.2, k, c.in_ok-nodes.ensures.accepted c.args.target.now, ← c.in_ok-label.ensures) (number_refused c.in_ok-label.label (tree_of c.args.tree) c.in_err-numbered.field-0.0 c.in_err-numbered.ensures)

steps : (c : In_ok-edit_below) → Replacing c.args.target.now (forest_of c.args.trees.now) (forest_of c.edit_below.new.trees) (tree_of c.args.tree) (node_of c.in_ok-numbered.numbered) c.in_ok-label.label
steps c =
    let x = c.args.target.now in
    let f = forest_of c.args.trees.now in
    let above = c.saturating_sub.ensures ∙ ap (λ n. n - 1) c.level.ensures in
    record {
      well = c.requires.formed;
      valid = c.requires.valid;
      there = present_by x f (node_of c.in-Some.field-0.now) c.requires.formed (ap (λ ns. found_down x (forest_of ns)) (sym c.as_slice.ensures) ∙ c.in-Some.ensures);
      element = λ z. c.in_ok-nodes.ensures.element (above ∙ z);
      levels_fit = subst (λ n. n + levels (one (tree_of c.args.tree)) ≤ 200) above c.in_ok-nodes.ensures.shallow;
      label_is = c.in_ok-label.ensures;
      numbered = c.in_ok-numbered.ensures.0;
      below_fits = c.in_ok-numbered.ensures.1;
      edited = c.in_ok-edit_below.ensures.ok;
    }

pub returns-clause-replaced : goal.returns-clause-replaced
returns-clause-replaced c = the_replacement c.args.target.now (forest_of c.args.trees.now) (forest_of c.edit_below.new.trees) (tree_of c.args.tree) (node_of c.in_ok-numbered.numbered) c.in_ok-label.label (steps c)

pub returns-clause-nodes : goal.returns-clause-nodes
returns-clause-nodes c = node_count_fits (tree_of c.args.tree) c.in_ok-nodes.nodes c.requires.valid c.in_ok-nodes.ensures.nodes

pub returns-clause-accepted : goal.returns-clause-accepted
returns-clause-accepted c =
    let x = c.args.target.now in
    there_and_placed x (tree_of c.args.tree) c.as_slice.result.now c.args.trees.now c.in-Some.field-0.now c.level.result c.saturating_sub.result c.requires.formed c.as_slice.ensures c.in-Some.ensures c.level.ensures c.saturating_sub.ensures
    ∙ c.in_ok-nodes.ensures.accepted x
    ∙ has_room_here x (forest_of c.args.trees.now) (forest_of c.edit_below.new.trees) (tree_of c.args.tree) (node_of c.in_ok-numbered.numbered) c.in_ok-label.label (steps c)

pub returns-clause-formed : goal.returns-clause-formed
returns-clause-formed c = replacement_formed c.args.target.now (forest_of c.args.trees.now) (forest_of c.edit_below.new.trees) (tree_of c.args.tree) (node_of c.in_ok-numbered.numbered) c.in_ok-label.label (steps c)
