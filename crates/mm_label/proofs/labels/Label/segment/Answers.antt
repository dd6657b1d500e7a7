use Rattle.std.proofs.Common.{◌-◌, ℕ, List, take, drop, length, subst, sym}
use Rattle.mm_label.specs.Components.{components}
use Rattle.mm_label.specs.Inside.Reading.{StartsLastSegment}
use Rattle.mm_label.proofs.HeldFacts.{ReadsSegment, segment_reads, given_last, given_segment}
use Rattle.mm_label.proofs.labels.Label.segment.Goals as goal

reads : (c : goal.After-components) → ReadsSegment c.args.self.now (components (take (length c.as_slice-2.result.now - c.segment_start-cut.result) (drop c.segment_start-cut.result c.as_slice-2.result.now)))
reads c =
    let cut = c.segment_start-cut.result in
    subst (λ (zs : List ℕ). ReadsSegment c.args.self.now (components (take (length zs - cut) (drop cut zs)))) (sym c.as_slice-2.ensures)
    (segment_reads c.self.inside.bytes.items cut c.args.self.now c.self.invariant c.self.view_is (subst (λ (zs : List ℕ). StartsLastSegment zs cut) c.as_slice.ensures c.segment_start-cut.ensures))

pub returns-clause-last : goal.returns-clause-last
returns-clause-last c = given_last c.components.result _ c.args.self.now c.components.ensures (reads c)

pub returns-clause-segment : goal.returns-clause-segment
returns-clause-segment c = given_segment c.components.result _ c.args.self.now c.components.ensures (reads c)
