use Rattle.std.proofs.Common.{subst}
use Rattle.std.specs.Prelude.{None, OnOk, IfErr, ◌≡◌}
use Rattle.mm_tree.specs.Trees.{tree_of}
use Rattle.mm_tree.specs.Numbering.{forest_of}
use Rattle.mm_tree.specs.Forests.{IsRefusal}
use Rattle.mm_tree.specs.Edits.{insert_refusal}
use Rattle.mm_tree.proofs.forest.Forest.insert.Goals as goal

pub returns-clause-accepted : goal.returns-clause-accepted
returns-clause-accepted c =
    subst (λ ns. OnOk c.insert_in.result (insert_refusal c.args.place c.args.target.now (tree_of c.args.tree) (forest_of ns) ≡ None)) c.self.view_is c.insert_in.ensures.accepted

pub returns-clause-refused : goal.returns-clause-refused
returns-clause-refused c =
    subst (λ ns. IfErr c.insert_in.result (λ e. IsRefusal e (insert_refusal c.args.place c.args.target.now (tree_of c.args.tree) (forest_of ns)))) c.self.view_is c.insert_in.ensures.refused
