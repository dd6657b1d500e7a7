use Rattle.std.proofs.Common.{subst}
use Rattle.std.specs.Prelude.{ℤ, List, Option, option_map}
use Rattle.mm_label.specs.Fronts.{IsChild}
use Rattle.mm_label.specs.Refusals.{front_of}
use Rattle.mm_edit.proofs.Below.{false_match, first_between, top_between, true_match, up_between}
use Rattle.mm_edit.proofs.neighbours.child_above.Goals as goal

pub loop-child-init : goal.loop-child-init
loop-child-init c = first_between (front_of (option_map (λ p. p.now) c.args.parent)) c.args.label.now c.in_ok-child.child c.in_ok-child.ensures (true_match c.is_under.result _ _ c.if-not-is_under.false c.is_under.ensures.under)

pub loop-child-preserved : goal.loop-child-preserved
loop-child-preserved c =
    up_between (front_of (option_map (λ p. p.now) c.args.parent)) c.args.label.now c.loop-child.child c.in-Some.up c.is_under.ensures.whole c.loop-child.invariant
    (subst (λ (o : Option (List ℤ)). IsChild (front_of o) c.loop-child.child) c.in-Some.is c.in_ok-up.ensures.child) (false_match c.is_parent.result _ _ c.if-is_parent.false c.is_parent.ensures)

pub returns : goal.returns
returns c =
    top_between (front_of (option_map (λ p. p.now) c.args.parent)) c.args.label.now c.loop-child.child c.is_under.ensures.whole c.loop-child.invariant
    (subst (λ (o : Option (List ℤ)). IsChild (front_of o) c.loop-child.child) c.in_default.is c.in_ok-up.ensures.child)
