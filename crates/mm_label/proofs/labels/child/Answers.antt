use Rattle.std.proofs.Common.{◌≡◌, ◌++◌, option_map, arith, rules, length, subst, sym, ap, ◌∙◌}
use Rattle.smallvec.specs.SmallVec.{small_vec_len}
use Rattle.mm_label.specs.Label.{IsLabel}
use Rattle.mm_label.specs.Refusals.{front_of}
use Rattle.mm_label.proofs.HeldFacts.{IsMade, child_is}
use Rattle.mm_label.proofs.labels.child.Goals as goal

made : (c : goal.Else-length-gt-LABEL_LIMIT) → IsMade c.push_spelled.new.out.items (front_of (option_map (λ p. p.now) c.args.parent) ++ c.args.segment.now)
made c =
    let e : small_vec_len c.push_spelled.new.out ≡ length c.push_spelled.new.out.items = search rules in
    child_is (front_of (option_map (λ p. p.now) c.args.parent)) c.args.segment.now c.extend_from_slice.new.self.items c.push_spelled.new.out.items
    (c.in_ok-extend_from_slice.ensures.ok ∙ ap (λ zs. zs ++ c.front_bytes-front.result.now) c.new-bytes.ensures.items ∙ c.front_bytes-front.ensures.value)
    c.in_ok-push_spelled.ensures c.front_bytes-front.ensures.in_range c.requires.in_range c.requires.one (omega (arith, e, c.len-length.ensures, c.if-length-gt-LABEL_LIMIT.false))

pub invariant_of-result : goal.invariant_of-result
invariant_of-result c = (made c).spelled

pub returns-clause-value : goal.returns-clause-value
returns-clause-value c = (made c).same

pub returns-clause-label : goal.returns-clause-label
returns-clause-label c = let m = made c in subst IsLabel (sym m.same) m.label
