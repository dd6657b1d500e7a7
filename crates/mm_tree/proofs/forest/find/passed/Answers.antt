use Rattle.std.proofs.Common.{rules}
use Rattle.std.proofs.lemmas.List.Sorted.{IsPartitionPoint-from_clause}
use Rattle.mm_tree.proofs.HalvingLaws.{passed, point_is, siblings_parted}
use Rattle.mm_tree.proofs.forest.find.passed.Goals as goal

pub returns : goal.returns
returns c = λ a.
    let x = c.args.target.now in
    let ns = c.args.trees.now in
    point_is (passed x) ns c.partition_point.result
    (IsPartitionPoint-from_clause (passed x) ns _ c.partition_point.ensures.partitioned (siblings_parted x a.0 a.1 ns a.2) (λ b r q k. search rules))
    c.partition_point.ensures.bound
