use Rattle.std.proofs.lemmas.Int.{to_z-of_z}
use Rattle.std.proofs.Common.{ap, ◌∙◌, w64, rules, arith, refl, ◌+◌, true, false}
use Rattle.mm_label.specs.Label.{is_odd}
use Rattle.mm_label.proofs.HeldFacts.{counted_none, counted_more, counted_bound, counted_all}
use Rattle.mm_label.proofs.walk.odd_count.Goals as goal

pub loop-c-init : goal.loop-c-init
loop-c-init c = counted_none c.args.bytes.now

pub overflow_add-count : goal.overflow_add-count
overflow_add-count c = omega (arith, counted_bound c.args.bytes.now c.loop-c.rest.now c.loop-c.count c.requires c.loop-c.invariant)

pub loop-c-preserved-then-is_odd : goal.loop-c-preserved-then-is_odd
loop-c-preserved-then-is_odd c =
    counted_more c.args.bytes.now c.loop-c.rest.now c.in-Some.after.now c.loop-c.count (c.loop-c.count + 1) true c.in-Some.c (λ k. omega (arith, c.type_inv.bytes k)) c.in-Some.ensures (c.if-is_odd.ensures ∙ ap is_odd (to_z-of_z w64 c.in-Some.c (search rules))) refl c.loop-c.invariant

pub loop-c-preserved : goal.loop-c-preserved
loop-c-preserved c =
    counted_more c.args.bytes.now c.loop-c.rest.now c.in-Some.after.now c.loop-c.count c.loop-c.count false c.in-Some.c (λ k. omega (arith, c.type_inv.bytes k)) c.in-Some.ensures (c.if-is_odd.ensures ∙ ap is_odd (to_z-of_z w64 c.in-Some.c (search rules))) (omega arith) c.loop-c.invariant

pub returns : goal.returns
returns c = counted_all c.args.bytes.now c.loop-c.rest.now c.loop-c.count c.requires c.loop-c.invariant c.in_default.ensures
