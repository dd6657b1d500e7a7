use Rattle.std.proofs.Common.{rules, sym, ◌∙◌, Some, None}
use Rattle.std.proofs.lemmas.List.Sorted.{IsPartitionPoint-from_clause}
use Rattle.mm_fragment.specs.Inside.Owning.{is_before}
use Rattle.mm_fragment.proofs.Owned.{point_tells, precedes_parted}
use Rattle.mm_fragment.proofs.owning.has_mark.Goals as goal

pub returns-in-Some : goal.returns-in-Some
returns-in-Some c = λ d.
    let ms = c.args.marks.now in
    let x = c.args.label.now in
    c.is_mark.ensures
    ∙ sym (point_tells c.args.bit x ms c.partition_point-place.result d
    (IsPartitionPoint-from_clause (is_before c.args.bit x) ms _ c.partition_point-place.ensures.partitioned (precedes_parted c.args.bit x ms d) (λ b r q k. search rules)) (Some c.in-Some.mark.now) c.in-Some.ensures)

pub returns-in-None : goal.returns-in-None
returns-in-None c = λ d.
    let ms = c.args.marks.now in
    let x = c.args.label.now in
    sym (point_tells c.args.bit x ms c.partition_point-place.result d
    (IsPartitionPoint-from_clause (is_before c.args.bit x) ms _ c.partition_point-place.ensures.partitioned (precedes_parted c.args.bit x ms d) (λ b r q k. search rules)) None c.in-None.ensures)
