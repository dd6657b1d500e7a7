use Rattle.std.proofs.lemmas.Int.{to_z-of_z}
use Rattle.std.proofs.Common.{arith, ap, ◌∙◌, w64, rules}
use Rattle.mm_label.specs.Label.{is_odd}
use Rattle.mm_label.proofs.HeldFacts.{none_left, some_left, ends, stops, spells_more, rest_bytes}
use Rattle.mm_label.proofs.walk.is_label.Goals as goal

pub loop-rest-preserved : goal.loop-rest-preserved
loop-rest-preserved c =
    let s = c.loop-rest.invariant in
    spells_more c.args.bytes.now c.loop-rest.rest.now c.in-Some.after.now c.loop-rest.odd c.is_odd-odd.result c.in-Some.c (rest_bytes c.args.bytes.now c.loop-rest.rest.now c.loop-rest.odd s (λ k. omega (arith, c.type_inv.bytes k))) c.in-Some.ensures (c.is_odd-odd.ensures ∙ ap is_odd (to_z-of_z w64 c.in-Some.c (search rules))) s

pub returns-in-None : goal.returns-in-None
returns-in-None c =
    stops c.args.bytes.now c.loop-rest.rest.now c.loop-rest.odd c.loop-rest.invariant (some_left c.loop-rest.rest.now c.loop-rest-test.ensures) c.in-None.ensures

pub returns : goal.returns
returns c = ends c.args.bytes.now c.loop-rest.rest.now c.loop-rest.odd c.loop-rest.invariant (none_left c.loop-rest.rest.now c.loop-rest-test.ensures) c.if-bytes-gt-LABEL_LIMIT.false
