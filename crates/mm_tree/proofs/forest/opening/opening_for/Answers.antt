use Rattle.std.proofs.Common.{◌∙◌}
use Rattle.mm_tree.specs.Numbering.{forest_of, node_of}
use Rattle.mm_tree.specs.Gaps.{gap_of}
use Rattle.mm_tree.proofs.EditFacts.{absent_by, present_by, gap_by, no_gap_by, open_by, childless_by}
use Rattle.mm_tree.specs.Facts.Refusals.{absent_insert, leaf_insert, placed_insert}
use Rattle.mm_tree.proofs.forest.opening.opening_for.Goals as goal

pub returns-in_default-clause-refused : goal.returns-in_default-clause-refused
returns-in_default-clause-refused c =
    λ t. absent_insert c.args.place c.args.target.now t (forest_of c.args.trees.now) (absent_by c.args.target.now (forest_of c.args.trees.now) c.requires c.in_default.ensures)

pub returns-then-is_in_text-clause-refused : goal.returns-then-is_in_text-clause-refused
returns-then-is_in_text-clause-refused c =
    let x = c.args.target.now in
    let f = forest_of c.args.trees.now in
    λ t. leaf_insert c.args.place x t f (present_by x f (node_of c.in-Some.node.now) c.requires c.in-Some.ensures)
    (childless_by c.args.place x f c.in-Some.node.now c.is_in_text.result c.requires c.in-Some.ensures c.is_in_text.ensures ∙ c.if-is_in_text.true)

pub returns-in_default-opening_in-clause-refused : goal.returns-in_default-opening_in-clause-refused
returns-in_default-opening_in-clause-refused c =
    λ t. absent_insert c.args.place c.args.target.now t (forest_of c.args.trees.now) (no_gap_by c.args.place c.args.target.now (forest_of c.args.trees.now) c.requires c.in_default-opening_in.ensures)

pub returns-clause-here : goal.returns-clause-here
returns-clause-here c = gap_by c.args.place c.args.target.now (forest_of c.args.trees.now) (gap_of c.in-Some-opening_in.opening) c.requires c.in-Some-opening_in.ensures

pub returns-clause-open : goal.returns-clause-open
returns-clause-open c = open_by c.args.place c.args.target.now (forest_of c.args.trees.now) (gap_of c.in-Some-opening_in.opening) c.requires c.in-Some-opening_in.ensures

pub returns-clause-childless : goal.returns-clause-childless
returns-clause-childless c =
    childless_by c.args.place c.args.target.now (forest_of c.args.trees.now) c.in-Some.node.now c.is_in_text.result c.requires c.in-Some.ensures c.is_in_text.ensures ∙ c.if-is_in_text.false

pub returns-clause-accepted : goal.returns-clause-accepted
returns-clause-accepted c =
    let x = c.args.target.now in
    let f = forest_of c.args.trees.now in
    let g = gap_of c.in-Some-opening_in.opening in
    λ t. placed_insert c.args.place x t f g (present_by x f (node_of c.in-Some.node.now) c.requires c.in-Some.ensures)
    (childless_by c.args.place x f c.in-Some.node.now c.is_in_text.result c.requires c.in-Some.ensures c.is_in_text.ensures ∙ c.if-is_in_text.false)
    (gap_by c.args.place x f g c.requires c.in-Some-opening_in.ensures)
