use Rattle.std.proofs.Common.{rules}
use Rattle.std.proofs.lemmas.List.Sorted.{IsPartitionPoint-from_clause}
use Rattle.mm_lists.specs.Memory.{is_through}
use Rattle.mm_lists.proofs.Lookups.{through_parted, through_point}
use Rattle.mm_lists.proofs.memory.count_through.Goals as goal

pub returns : goal.returns
returns c = λ a. through_point _ _ _ (IsPartitionPoint-from_clause (is_through c.args.at.now) c.args.list.now _ c.partition_point.ensures.partitioned (through_parted _ _ a) (λ b r q k. search rules))
