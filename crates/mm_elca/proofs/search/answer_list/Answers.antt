use Rattle.std.proofs.Common.{[], get_or}
use Rattle.mm_tree.specs.Search.{list_of, lists_of, worded}
use Rattle.mm_lists.specs.Facts.Listed.{full_at}
use Rattle.mm_lists.specs.Facts.Formed.{formed}
use Rattle.mm_elca.specs.Inside.Gathering.{Gathered}
use Rattle.mm_elca.proofs.Answering.{answers_from}
use Rattle.mm_elca.proofs.Gathering.{gathered_candidates}
use Rattle.mm_elca.proofs.search.answer_list.Goals as goal

pub returns-clause-value : goal.returns-clause-value
returns-clause-value g c = λ f w s n e.
    let ls = lists_of c.args.words.now (worded f) in
    let ms = list_of (get_or c.args.words.now c.args.own []) (worded f) in
    let k : Gathered ls ms c.in_ok-candidates.candidates = c.in_ok-candidates.ensures.value f w s n e in
    let j = c.in_ok-found.ensures.value f ((c.gather.ensures.leaves.kept f).0 s) (gathered_candidates ls ms c.in_ok-candidates.candidates (λ z h. full_at c.args.words.now c.args.own z (worded f) c.requires h) k c.in_ok-candidates.ensures.order) in
    answers_from c.args.words.now (worded f) c.args.own c.in_ok-candidates.candidates c.in_ok-found.found _ (formed f w) c.requires k j c.reverse.ensures
