use Rattle.mm_elca.proofs.Sorting.{in_order, order_of}
use Rattle.mm_elca.proofs.candidates.sorted.Goals as goal

pub returns-clause-value : goal.returns-clause-value
returns-clause-value c = order_of _ _ _ _ c.into_vec-list.ensures c.from_vec.ensures
    (in_order c.into_vec-list.result.items c.sort.new.self.items c.dedup.new.self.items c.in_ok-sort.ensures.permutation c.in_ok-sort.ensures.sorted c.dedup.ensures.filtered)
