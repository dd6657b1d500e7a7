use Rattle.std.proofs.Common.{ap, ◌∙◌}
use Rattle.mm_tree.specs.Numbering.{forest_of}
use Rattle.mm_tree.proofs.PlaceFacts.{on_ok, on_err, before_is, after_is, taken_is, instead_is, first_put, last_put, same_list}
use Rattle.mm_tree.proofs.forest.edit.edit_at.Goals as goal

pub returns-in-Insert-Before-default-clause-ok : goal.returns-in-Insert-Before-default-clause-ok
returns-in-Insert-Before-default-clause-ok c =
    let h = c.in-Insert-Before-default in
    rw (h.is, h.field-0-is) (on_ok c.insert.result (λ e. ap (λ ns. forest_of ns) e ∙ before_is c.args.trees.now c.args.at h.node c.requires) c.insert.ensures.ok)

pub returns-in-Insert-After-default-clause-ok : goal.returns-in-Insert-After-default-clause-ok
returns-in-Insert-After-default-clause-ok c =
    let h = c.in-Insert-After-default in
    rw (h.is, h.field-0-is) (on_ok c.insert_after.result (λ e. ap (λ ns. forest_of ns) e ∙ after_is c.args.trees.now c.args.at h.node c.requires) c.insert_after.ensures.ok)

pub returns-in-Insert-First-default-clause-ok : goal.returns-in-Insert-First-default-clause-ok
returns-in-Insert-First-default-clause-ok c =
    let h = c.in-Insert-First-default in
    rw (h.is, h.field-0-is) (on_ok c.insert-in-Insert-First-default.result (λ e. first_put c.args.trees.now c.args.at c.at_mut.result.now h.node c.insert-in-Insert-First-default.new.self c.at_mut.ensures.value e) c.insert-in-Insert-First-default.ensures.ok)

pub returns-in-Insert-First-default-clause-err : goal.returns-in-Insert-First-default-clause-err
returns-in-Insert-First-default-clause-err c =
    on_err c.insert-in-Insert-First-default.result (λ e. same_list c.args.trees.now c.args.at c.at_mut.result.now c.insert-in-Insert-First-default.new.self c.at_mut.ensures.value e) c.insert-in-Insert-First-default.ensures.err

pub returns-in-Insert-Last-default-clause-ok : goal.returns-in-Insert-Last-default-clause-ok
returns-in-Insert-Last-default-clause-ok c =
    let h = c.in-Insert-Last-default in
    let m = c.at_mut-in-Insert-Last-default in
    rw (h.is, h.field-0-is) (on_ok c.push.result (λ e. last_put c.args.trees.now c.args.at m.result.now h.node c.push.new.self m.ensures.value e) c.push.ensures.ok)

pub returns-in-Insert-Last-default-clause-err : goal.returns-in-Insert-Last-default-clause-err
returns-in-Insert-Last-default-clause-err c =
    let m = c.at_mut-in-Insert-Last-default in
    on_err c.push.result (λ e. same_list c.args.trees.now c.args.at m.result.now c.push.new.self m.ensures.value e) c.push.ensures.err

pub returns-in-Delete-clause-ok : goal.returns-in-Delete-clause-ok
returns-in-Delete-clause-ok c = rw c.in-Delete.is (ap (λ ns. forest_of ns) c.remove.ensures.rest ∙ taken_is c.args.trees.now c.args.at c.requires)

pub returns-in-Replace-clause-ok : goal.returns-in-Replace-clause-ok
returns-in-Replace-clause-ok c = rw c.in-Replace.is (ap (λ ns. forest_of ns) c.set.ensures ∙ instead_is c.args.trees.now c.args.at c.in-Replace.node c.requires)
