use Rattle.std.proofs.Common.{◌∙◌, sym, ap, drop, rules, arith}
use Rattle.std.specs.Str.{chars}
use Rattle.mm_xml.proofs.TextFacts.{cut, all_there, one_behind}
use Rattle.mm_xml.proofs.text.split_after.Goals as goal

pub loop-preserved : goal.loop-preserved
loop-preserved c = record { utf8 = search rules; same = one_behind (chars c.args.text.now) (chars c.loop.rest.now) (chars c.in-Some.behind.now) c.loop.counter _ c.loop.invariant.same c.in-Some.ensures }

pub overflow_sub-text : goal.overflow_sub-text
overflow_sub-text c = (cut c.args.text.now c.loop.rest.now c.loop.counter c.utf8.text c.loop.invariant.utf8 c.loop.invariant.same).within

pub split_at-requires : goal.split_at-requires
split_at-requires c = (cut c.args.text.now c.loop.rest.now c.loop.counter c.utf8.text c.loop.invariant.utf8 c.loop.invariant.same).boundary

pub returns-in_default-clause-front : goal.returns-in_default-clause-front
returns-in_default-clause-front c = (all_there (chars c.args.text.now) c.loop.counter c.args.len (sym c.in_default.ensures ∙ c.loop.invariant.same) (omega (arith, c.loop-test.true))).front

pub returns-in_default-clause-back : goal.returns-in_default-clause-back
returns-in_default-clause-back c = c.in_default.ensures ∙ (all_there (chars c.args.text.now) c.loop.counter c.args.len (sym c.in_default.ensures ∙ c.loop.invariant.same) (omega (arith, c.loop-test.true))).back

pub returns-clause-front : goal.returns-clause-front
returns-clause-front c =
    ap chars c.split_at.ensures.front
    ∙ (cut c.args.text.now c.loop.rest.now c.args.len c.utf8.text c.loop.invariant.utf8 (c.loop.invariant.same ∙ ap (λ k. drop k (chars c.args.text.now)) (omega (arith, c.loop-test.false, c.loop.auto.counter-end)))).front

pub returns-clause-back : goal.returns-clause-back
returns-clause-back c =
    ap chars (c.split_at.ensures.back ∙ (cut c.args.text.now c.loop.rest.now c.loop.counter c.utf8.text c.loop.invariant.utf8 c.loop.invariant.same).back)
    ∙ c.loop.invariant.same ∙ ap (λ k. drop k (chars c.args.text.now)) (omega (arith, c.loop-test.false, c.loop.auto.counter-end))
