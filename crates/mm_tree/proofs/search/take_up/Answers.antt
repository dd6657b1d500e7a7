use Rattle.std.proofs.Common.{◌≡◌, ◌∙◌, sym, ap, ◌++◌, [], ◌∷◌, append-nil}
use Rattle.std.specs.List.{list_all}
use Rattle.mm_tree.specs.Inside.Searching.{worded_node, own_answer}
use Rattle.mm_tree.proofs.SearchFacts.{inside, held_is, held_one, full_is, full_one, answer_here, answer_above, answer_below}
use Rattle.mm_tree.proofs.search.take_up.Goals.{then-full+then-not-inside+in_ok-copy+in_ok-push, else-full, else-full-via-then-full+else-not-inside, else-full-via-else-full}
use Rattle.mm_tree.proofs.search.take_up.Goals as goal

pub returns-clause-found : goal.returns-clause-found
returns-clause-found c =
    let flags = held_is c.args.query.now c.args.node.now c.in_ok-held.held c.as_slice.result.now c.join.new.flags c.in_ok-held.ensures (c.as_slice.ensures ∙ c.requires.held) c.join.ensures in
    let full = full_is c.args.query.now c.args.node.now c.join.new.flags c.all-full.result flags (c.all-full.ensures ∙ ap (list_all (λ flag. flag)) c.as_slice-2.ensures) in record {
      held = flags ∙ held_one c.args.query.now c.args.node.now;
      some_full = full_one c.args.query.now c.args.node.now c.all-full.result full;
    }

pub returns-clause-answers : goal.returns-clause-answers
returns-clause-answers c =
    let e = worded_node c.args.node.now in
    let flags = held_is c.args.query.now c.args.node.now c.in_ok-held.held c.as_slice.result.now c.join.new.flags c.in_ok-held.ensures (c.as_slice.ensures ∙ c.requires.held) c.join.ensures in
    let full = full_is c.args.query.now c.args.node.now c.join.new.flags c.all-full.result flags (c.all-full.ensures ∙ ap (list_all (λ flag. flag)) c.as_slice-2.ensures) in
    let nothing : own_answer c.args.query.now e (inside c.args.node.now) ≡ [] → c.args.answers.now ≡ c.args.answers.now ++ own_answer c.args.query.now e (inside c.args.node.now)
    = λ none. sym (ap (λ more. c.args.answers.now ++ more) none ∙ append-nil c.args.answers.now) in
    elim c.if-full.branch [
      | then-full+then-not-inside+in_ok-copy+in_ok-push w ↦
          w.answers-is ∙ w.in_ok-push.ensures.ok ∙ ap (λ label. c.args.answers.now ++ label ∷ []) w.in_ok-copy.ensures
          ∙ ap (λ more. c.args.answers.now ++ more) (sym (answer_here c.args.query.now e (inside c.args.node.now) (sym full ∙ w.if-full.true) (sym c.requires.some_full ∙ w.if-not-inside.true)))
      | else-full w ↦ w.answers-is ∙ nothing (elim w.else-full.branch [
        | else-full-via-then-full+else-not-inside v ↦ answer_below c.args.query.now e (inside c.args.node.now) (sym c.requires.some_full ∙ v.if-not-inside.false)
        | else-full-via-else-full v ↦ answer_above c.args.query.now e (inside c.args.node.now) (sym full ∙ v.if-full.false)
      ])
    ]
