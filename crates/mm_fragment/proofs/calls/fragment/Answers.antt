use Rattle.std.proofs.Common.{◌≡◌, subst, List, ◌∙◌}
use Rattle.mm_lists.specs.Full.{Word}
use Rattle.mm_tree.specs.Numbering.{forest_of}
use Rattle.mm_tree.specs.Fragments.{fragment, fragment_tree}
use Rattle.mm_fragment.specs.Showing.{named_in}
use Rattle.mm_fragment.proofs.Rounds.{asked_of, cost_asked}
use Rattle.mm_fragment.proofs.calls.fragment.Goals as goal

pub returns-clause-value : goal.returns-clause-value
returns-clause-value g c = λ t s h r k.
    let f = forest_of c.args.forest.now in
    let words = c.words-words in
    let asked = asked_of f c.args.root.now t c.args.answers.now words.result.now c.args.query.now c.trees.ensures.formed words.ensures.value h r k in
    subst (λ (ws : List Word). fragment_tree c.in_ok-shown.shown ≡ fragment ws (named_in t)) words.ensures.value
    (c.in_ok-shown.ensures t c.trees.ensures.formed h (c.as_slice.ensures ∙ c.in_ok-found.ensures.value f t s asked))

pub returns-in_err-found-clause-cost : goal.returns-in_err-found-clause-cost
returns-in_err-found-clause-cost g c = λ t s h r k.
    let f = forest_of c.args.forest.now in
    let words = c.words-words in
    cost_asked words.result.now c.args.query.now t c.args.steps.now c.matches.new.steps words.ensures.value
    (c.matches.ensures.cost f t s (asked_of f c.args.root.now t c.args.answers.now words.result.now c.args.query.now c.trees.ensures.formed words.ensures.value h r k))

pub returns-in_err-shown-clause-cost : goal.returns-in_err-shown-clause-cost
returns-in_err-shown-clause-cost g c = λ t s h r k.
    let f = forest_of c.args.forest.now in
    let words = c.words-words in
    cost_asked words.result.now c.args.query.now t c.args.steps.now c.matches.new.steps words.ensures.value
    (c.matches.ensures.cost f t s (asked_of f c.args.root.now t c.args.answers.now words.result.now c.args.query.now c.trees.ensures.formed words.ensures.value h r k))

pub returns-clause-cost : goal.returns-clause-cost
returns-clause-cost g c = λ t s h r k.
    let f = forest_of c.args.forest.now in
    let words = c.words-words in
    cost_asked words.result.now c.args.query.now t c.args.steps.now c.matches.new.steps words.ensures.value
    (c.matches.ensures.cost f t s (asked_of f c.args.root.now t c.args.answers.now words.result.now c.args.query.now c.trees.ensures.formed words.ensures.value h r k))
