use Rattle.std.proofs.Common.{◌∙◌, sym, ap, ◌++◌, ◌∷◌, take, drop}
use Rattle.std.specs.List.{list_all}
use Rattle.mm_tree.specs.Inside.Searching.{worded_node, own_elca}
use Rattle.mm_tree.proofs.SearchFacts.{inside}
use Rattle.mm_tree.proofs.OwnerFacts.{owned_is, owns_is, owner_here, owner_none, put_between, put_nothing, held_after, no_more}
use Rattle.mm_tree.proofs.search.owners.weigh.Goals.{then-all+in_ok-copy+in_ok-insert, else-all}
use Rattle.mm_tree.proofs.search.owners.weigh.Goals as goal

pub join-requires-2 : goal.join-requires-2
join-requires-2 c =
    let n = c.args.node.now in
    let q = c.args.query.now in
    no_more q _ _ c.as_slice-3.result.now c.join.new.flags (c.as_slice-3.ensures ∙ c.requires.inside.held)
    (owned_is q n c.in_ok-flags.flags c.as_slice.result.now c.join.new.flags c.in_ok-flags.ensures (c.as_slice.ensures ∙ c.requires.inside.outside) c.join.ensures)

pub returns-clause-answers : goal.returns-clause-answers
returns-clause-answers c = λ before below a m.
    let n = c.args.node.now in
    let q = c.args.query.now in
    let e = worded_node n in
    let all = c.args.answers.now in
    let flags = owned_is q n c.in_ok-flags.flags c.as_slice.result.now c.join.new.flags c.in_ok-flags.ensures (c.as_slice.ensures ∙ c.requires.inside.outside) c.join.ensures in
    let owns = owns_is q n c.join.new.flags c.all.result flags (c.all.ensures ∙ ap (list_all (λ flag. flag)) c.as_slice-2.ensures) in
    elim c.if-all.branch [
      | then-all+in_ok-copy+in_ok-insert w ↦
          put_between before below all c.if-all.answers (own_elca q e (inside n)) c.args.at e.label a m
          (w.answers-is ∙ w.in_ok-insert.ensures.ok ∙ ap (λ label. take c.args.at all ++ label ∷ drop c.args.at all) w.in_ok-copy.ensures)
          (owner_here q e (inside n) (sym owns ∙ w.if-all.true))
      | else-all w ↦ put_nothing before below all c.if-all.answers (own_elca q e (inside n)) a w.answers-is (owner_none q e (inside n) (sym owns ∙ w.if-all.false))
    ]

pub returns-clause-held : goal.returns-clause-held
returns-clause-held c =
    let n = c.args.node.now in
    let q = c.args.query.now in
    let flags = owned_is q n c.in_ok-flags.flags c.as_slice.result.now c.join.new.flags c.in_ok-flags.ensures (c.as_slice.ensures ∙ c.requires.inside.outside) c.join.ensures in
    held_after q n c.join.new.flags c.as_slice-3.result.now c.join-2.new.flags flags (c.as_slice-3.ensures ∙ c.requires.inside.held) c.join-2.ensures
