use Rattle.std.proofs.Common.{rules}
use Rattle.std.specs.Ordering.{int_cmp, is_le}
use Rattle.std.specs.Cmp.Lexicographic.{slice_cmp}
use Rattle.std.proofs.lemmas.List.Sorted.{IsPartitionPoint-from_clause}
use Rattle.mm_lists.proofs.Lookups.{up_to_parted, up_to_point}
use Rattle.mm_lists.proofs.memory.count_up_to.Goals as goal

pub returns-clause-point : goal.returns-clause-point
returns-clause-point c = λ a. up_to_point _ _ _ (IsPartitionPoint-from_clause (λ m. is_le (slice_cmp int_cmp m c.args.at.now)) c.args.list.now _ c.partition_point.ensures.partitioned (up_to_parted _ _ a) (λ b r q k. search rules))
