use Rattle.std.proofs.Common.{rules}
use Rattle.std.proofs.lemmas.List.Sorted.{IsPartitionPoint-from_clause}
use Rattle.mm_keeper.specs.Entries.{below}
use Rattle.mm_keeper.specs.Facts.Blocked.{rank_is, items_parted}
use Rattle.mm_keeper.proofs.block.rank_of.Goals as goal

pub returns-clause-rank : goal.returns-clause-rank
returns-clause-rank c =
    let m = c.args.items.now in
    let k = c.args.key.now in
    rank_is k m c.partition_point.result
    (IsPartitionPoint-from_clause (λ e. below e.0 k) m _ c.partition_point.ensures.partitioned (items_parted k m c.requires) (λ a r q h. search rules))
    c.partition_point.ensures.bound
