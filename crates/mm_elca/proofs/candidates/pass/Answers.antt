use Rattle.std.proofs.Common.{get_or, []}
use Rattle.mm_tree.specs.Search.{list_of, lists_of, worded}
use Rattle.mm_elca.proofs.Gathering.{gathering_more, takes_length}
use Rattle.mm_elca.proofs.candidates.pass.Goals as goal

pub returns-clause-value : goal.returns-clause-value
returns-clause-value g c = λ f i w s n k.
    gathering_more (lists_of c.args.words.now (worded f)) (list_of (get_or c.args.words.now c.args.own []) (worded f)) i c.args.found.now c.take_in.new.found c.args.at.now c.next_candidate.new.at c.in_ok-next.next k
    (c.in_ok-next.ensures.value f i w s n k.here) c.in_ok-take_in.ensures

pub returns-clause-count : goal.returns-clause-count
returns-clause-count g c = takes_length c.in_ok-next.next c.args.found.now c.take_in.new.found c.in_ok-take_in.ensures
