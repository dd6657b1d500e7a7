use Rattle.std.proofs.Common.{rules}
use Rattle.std.proofs.lemmas.List.Sorted.{IsPartitionPoint-from_clause}
use Rattle.mm_keeper.specs.Inside.Finding.{ends_below}
use Rattle.mm_keeper.specs.Facts.Blocked.{at_point, blocks_parted}
use Rattle.mm_keeper.proofs.sorted_map.block_of.Goals as goal

pub returns-clause-at : goal.returns-clause-at
returns-clause-at c =
    let bs = c.args.blocks.now in
    let k = c.args.key.now in
    at_point k bs c.partition_point.result c.requires.rises
    (IsPartitionPoint-from_clause (λ m. ends_below m k) bs _ c.partition_point.ensures.partitioned (blocks_parted k bs c.requires.rises c.requires.some) (λ a r q h. search rules))
    c.partition_point.ensures.bound
