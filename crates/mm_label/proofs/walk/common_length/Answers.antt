use Rattle.std.proofs.Common.{◌-◌, ap, ◌∙◌, refl, w64, rules, arith, true, false, length}
use Rattle.std.proofs.lemmas.Int.{to_z-of_z}
use Rattle.mm_label.specs.Label.{is_odd}
use Rattle.mm_label.proofs.Shared.{shared_more, shared_all}
use Rattle.mm_label.proofs.walk.common_length.Goals as goal

pub loop-c-preserved-then-is_odd : goal.loop-c-preserved-then-is_odd
loop-c-preserved-then-is_odd c =
    shared_more c.args.a.now c.args.b.now c.loop-c.left.now c.loop-c.right.now c.in-Some.after.now c.in-Some.others.now c.loop-c.length (length c.args.a.now - length c.in-Some.after.now) c.in-Some.c true
    (λ k. omega (arith, c.type_inv.a k)) c.in-Some.ensures.0 c.in-Some.ensures.1 (c.if-is_odd.ensures ∙ ap is_odd (to_z-of_z w64 c.in-Some.c (search rules))) refl c.loop-c.invariant

pub loop-c-preserved : goal.loop-c-preserved
loop-c-preserved c =
    shared_more c.args.a.now c.args.b.now c.loop-c.left.now c.loop-c.right.now c.in-Some.after.now c.in-Some.others.now c.loop-c.length c.loop-c.length c.in-Some.c false
    (λ k. omega (arith, c.type_inv.a k)) c.in-Some.ensures.0 c.in-Some.ensures.1 (c.if-is_odd.ensures ∙ ap is_odd (to_z-of_z w64 c.in-Some.c (search rules))) refl c.loop-c.invariant

pub returns : goal.returns
returns c = shared_all c.args.a.now c.args.b.now c.loop-c.left.now c.loop-c.right.now c.loop-c.length c.in_default.ensures c.loop-c.invariant
