use Rattle.std.proofs.Common.{arith, ◌∙◌, ◌≡◌, ◌<◌, length}
use Rattle.mm_tree.specs.Search.{worded}
use Rattle.mm_lists.specs.Facts.Formed.{formed}
use Rattle.mm_elca.proofs.Cost.{cost_counts, cost_full, steps_whole}
use Rattle.mm_lists.specs.Facts.Shortest.{shortest_full}
use Rattle.mm_elca.proofs.Answering.{elca_none}
use Rattle.mm_elca.proofs.search.answers.Goals as goal

pub returns-in_err-best-clause-cost : goal.returns-in_err-best-clause-cost
returns-in_err-best-clause-cost g c = λ f s. rw (← c.words-words.ensures.value) (omega (arith, cost_counts c.words-words.result.now (worded f), c.find_shortest.ensures.cost))

pub returns-then-best-eq0-clause-value : goal.returns-then-best-eq0-clause-value
returns-then-best-eq0-clause-value g c = λ f w s.
    let z : c.in_ok-best.best.size ≡ 0 = omega arith in
    let q = c.in_ok-best.ensures.value f s in
    c.new.ensures ∙ rw (← c.words-words.ensures.value) (elca_none c.words-words.result.now (worded f) c.in_ok-best.best.at c.in_ok-best.ensures.within (q.0 ∙ z) (formed f w))

pub returns-then-best-eq0-clause-cost : goal.returns-then-best-eq0-clause-cost
returns-then-best-eq0-clause-cost g c = λ f s. rw (← c.words-words.ensures.value) (omega (arith, cost_counts c.words-words.result.now (worded f), c.find_shortest.ensures.cost))

pub returns-clause-value : goal.returns-clause-value
returns-clause-value g c = λ f w s.
    let q = c.in_ok-best.ensures.value f s in
    let pos : 0 < c.in_ok-best.best.size = omega arith in
    rw (← c.words-words.ensures.value) (c.answer_list.ensures.value f w ((c.find_shortest.ensures.leaves.kept f).0 s) (shortest_full c.words-words.result.now (worded f) _ _ q pos) q.0)

pub returns-clause-cost : goal.returns-clause-cost
returns-clause-cost g c = λ f s.
    let q = c.in_ok-best.ensures.value f s in
    let pos : 0 < c.in_ok-best.best.size = omega arith in
    let k : 0 < length c.words-words.result.now = rw c.words-words.ensures.value (omega (arith, c.words-words.ensures.query.some)) in
    rw (← c.words-words.ensures.value) (rw (cost_full c.words-words.result.now (worded f) c.in_ok-best.best.at c.in_ok-best.best.size c.in_ok-best.ensures.within q pos)
    (omega (arith, steps_whole (length c.words-words.result.now) c.in_ok-best.best.size k, c.answer_list.ensures.cost, c.find_shortest.ensures.cost)))
