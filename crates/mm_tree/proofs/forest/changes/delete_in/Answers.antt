use Rattle.std.proofs.Common.{ap, sym, ◌∙◌, ◌≡◌}
use Rattle.std.specs.Prelude.{Some}
use Rattle.mm_tree.specs.Numbering.{forest_of, node_of}
use Rattle.mm_tree.specs.Inside.Ways.{found_down}
use Rattle.mm_tree.proofs.EditFacts.{absent_by, found_by, present_by, the_deletion, deletion_formed, absent_delete, accepted_delete, size_is}
use Rattle.mm_tree.proofs.forest.changes.delete_in.Goals as goal
use Rattle.mm_tree.proofs.forest.changes.delete_in.Goals.{In_ok-edit_below}

pub returns-in_default-clause-refused : goal.returns-in_default-clause-refused
returns-in_default-clause-refused c =
    let x = c.args.target.now in
    let f = forest_of c.args.trees.now in
    absent_delete x f (absent_by x f c.requires (ap (λ ns. found_down x (forest_of ns)) (sym c.as_slice.ensures) ∙ c.in_default.ensures))

found_is : (c : In_ok-edit_below) → found_down c.args.target.now (forest_of c.args.trees.now) ≡ Some (node_of c.in-Some.node.now)
found_is c = ap (λ ns. found_down c.args.target.now (forest_of ns)) (sym c.as_slice.ensures) ∙ c.in-Some.ensures

pub returns-clause-deleted : goal.returns-clause-deleted
returns-clause-deleted c = the_deletion c.args.target.now (forest_of c.args.trees.now) (forest_of c.edit_below.new.trees) c.requires c.in_ok-edit_below.ensures.ok

pub returns-clause-nodes : goal.returns-clause-nodes
returns-clause-nodes c =
    let x = c.args.target.now in
    let f = forest_of c.args.trees.now in
    size_is x f c.in-Some.node.now c.as_slice-2.result.now c.nodes_in.result c.saturating_add-nodes.result (found_by x f (node_of c.in-Some.node.now) c.requires (found_is c)) c.as_slice-2.ensures c.nodes_in.ensures c.saturating_add-nodes.ensures

pub returns-clause-accepted : goal.returns-clause-accepted
returns-clause-accepted c = accepted_delete c.args.target.now (forest_of c.args.trees.now) (present_by c.args.target.now (forest_of c.args.trees.now) (node_of c.in-Some.node.now) c.requires (found_is c))

pub returns-clause-formed : goal.returns-clause-formed
returns-clause-formed c = deletion_formed c.args.target.now (forest_of c.args.trees.now) (forest_of c.edit_below.new.trees) c.requires c.in_ok-edit_below.ensures.ok
