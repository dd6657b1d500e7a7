use Rattle.std.proofs.Common.{◌≡◌, subst, rules, take, ℕ, List}
use Rattle.mm_label.specs.Inside.Reading.{StartsLastSegment}
use Rattle.mm_label.proofs.HeldFacts.{parent_made, parent_gives, no_parent}
use Rattle.mm_label.proofs.labels.Label.parent.Goals as goal

pub returns-then-cut-eq0 : goal.returns-then-cut-eq0
returns-then-cut-eq0 c =
    no_parent c.self.inside.bytes.items c.segment_start-cut.result c.args.self.now c.self.invariant (subst (λ (zs : List ℕ). StartsLastSegment zs c.segment_start-cut.result) c.as_slice.ensures c.segment_start-cut.ensures) c.if-cut-eq0.true c.self.view_is

pub invariant_of-result : goal.invariant_of-result
invariant_of-result c =
    let e : c.extend_from_slice.new.self.items ≡ take c.segment_start-cut.result c.self.inside.bytes.items = search rules in
    (parent_made c.self.inside.bytes.items c.extend_from_slice.new.self.items c.segment_start-cut.result c.self.invariant (subst (λ (zs : List ℕ). StartsLastSegment zs c.segment_start-cut.result) c.as_slice.ensures c.segment_start-cut.ensures) c.if-cut-eq0.false e).spelled

pub returns : goal.returns
returns c =
    let e : c.extend_from_slice.new.self.items ≡ take c.segment_start-cut.result c.self.inside.bytes.items = search rules in
    parent_gives c.self.inside.bytes.items c.extend_from_slice.new.self.items c.segment_start-cut.result c.args.self.now c.self.invariant (subst (λ (zs : List ℕ). StartsLastSegment zs c.segment_start-cut.result) c.as_slice.ensures c.segment_start-cut.ensures) c.if-cut-eq0.false e c.self.view_is
