use Rattle.std.proofs.Common.{arith, ◌∙◌, ap, ◌+◌, ◌*◌, min, rules}
use Rattle.std.specs.Str.{chars}
use Rattle.mm_xml.proofs.NumberFacts.{next_digit, last_digit}
use Rattle.mm_xml.proofs.reference.number.Goals as goal

pub loop-c-preserved : goal.loop-c-preserved
loop-c-preserved c = record {
  utf8 = search rules;
  same = next_digit c.args.base c.loop-c.n _ c.in-Some.c _ (chars c.loop-c.rest.now) (chars c.in-Some.behind.now) c.requires.least c.in-Some.ensures (c.min-n.ensures ∙ ap (λ d. min (c.args.base * c.loop-c.n + d) 1114112) c.digit.ensures.value) c.loop-c.invariant.same;
  small = omega (arith, c.min-n.ensures);
}

pub returns : goal.returns
returns c = last_digit c.args.base c.loop-c.n _ (chars c.loop-c.rest.now) c.in_default.ensures c.loop-c.invariant.small c.loop-c.invariant.same
