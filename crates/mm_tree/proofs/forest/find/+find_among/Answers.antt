use Rattle.std.proofs.Common.{sym, subst, ◌∙◌, true, false, List}
use Rattle.mm_tree.specs.declared.node.Node.{Node}
use Rattle.mm_tree.specs.Numbering.{forest_of}
use Rattle.mm_tree.specs.Inside.Ways.{AreSiblings}
use Rattle.mm_tree.proofs.HalvingLaws.{children_are, found_off, found_there, passed_all, same_leads}
use Rattle.mm_tree.proofs.forest.find.+find_among.Goals as goal

pub returns-in-None : goal.returns-in-None
returns-in-None t c = λ a. passed_all c.args.target.now c.args.trees.now c.passed-at.result (c.passed-at.ensures a) (sym c.in-None.ensures)

pub returns-then-is_same : goal.returns-then-is_same
returns-then-is_same t c = λ a.
    let e = sym c.if-is_same.true ∙ c.is_same.ensures in
    found_there c.args.target.now c.args.trees.now c.in-Some.node.now c.passed-at.result true (c.passed-at.ensures a) (sym c.in-Some.ensures) (same_leads c.args.target.now c.in-Some.node.now (sym e)) e

pub returns-then-leads_to : goal.returns-then-leads_to
returns-then-leads_to t c = λ a.
    rw (found_there c.args.target.now c.args.trees.now c.in-Some.node.now c.passed-at.result false (c.passed-at.ensures a) (sym c.in-Some.ensures) (sym c.leads_to.ensures ∙ c.if-leads_to.true) (sym c.if-is_same.false ∙ c.is_same.ensures), ← c.as_slice.ensures)
    (c.find_among.ensures (subst (λ (ns : List Node). AreSiblings (forest_of ns)) (sym c.as_slice.ensures) (children_are c.args.trees.now c.in-Some.node.now c.passed-at.result a (sym c.in-Some.ensures))))

pub returns-else-leads_to : goal.returns-else-leads_to
returns-else-leads_to t c = λ a.
    found_off c.args.target.now a.0 a.1 c.args.trees.now c.in-Some.node.now c.passed-at.result a.2 (c.passed-at.ensures a) (sym c.in-Some.ensures) (sym c.leads_to.ensures ∙ c.if-leads_to.false)
