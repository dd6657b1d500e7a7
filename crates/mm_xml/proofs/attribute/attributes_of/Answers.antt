use Rattle.std.proofs.Common.{◌+◌, ◌-◌, length, rules, arith}
use Rattle.std.specs.Str.{chars}
use Rattle.mm_xml.proofs.TextFacts.{few}
use Rattle.mm_xml.proofs.AttributeFacts.{attributes_begin, no_name, no_gap, no_attribute, next_attribute, attributes_full, gets_none, gets_some}
use Rattle.mm_xml.proofs.attribute.attributes_of.Goals as goal

pub loop-init : goal.loop-init
loop-init c = record {
  utf8 = c.utf8.text;
  same = attributes_begin c.new-attributes.result (length c.args.text.now - 0) (chars c.args.text.now) c.new-attributes.ensures (omega (arith, few c.args.text.now c.utf8.text));
}

pub returns-then-is_empty : goal.returns-then-is_empty
returns-then-is_empty c =
    no_gap c.loop.attributes (length c.args.text.now - c.loop.counter) (length c.args.text.now - (c.loop.counter + 1)) (chars c.loop.rest.now) (chars c.space_span.result.0.now) (chars c.space_span.result.1.now) c.starts_name.result c.is_empty.result _ (omega (arith, c.loop-test.true)) (record { front = c.space_span.ensures.front; back = c.space_span.ensures.back }) c.starts_name.ensures c.if-not-starts_name.false c.is_empty.ensures c.if-is_empty.true c.loop.invariant.same

pub returns-in_default : goal.returns-in_default
returns-in_default c =
    no_attribute c.loop.attributes (length c.args.text.now - c.loop.counter) (length c.args.text.now - (c.loop.counter + 1)) (chars c.loop.rest.now) (chars c.space_span.result.0.now) (chars c.space_span.result.1.now) c.starts_name.result c.is_empty.result _ (omega (arith, c.loop-test.true)) (record { front = c.space_span.ensures.front; back = c.space_span.ensures.back }) c.starts_name.ensures c.if-not-starts_name.false c.is_empty.ensures c.if-is_empty.false (gets_none _ _ c.in_default.is c.in_ok-attribute.ensures) c.loop.invariant.same

pub loop-preserved : goal.loop-preserved
loop-preserved c = record {
  utf8 = search rules;
  same = next_attribute c.loop.attributes c.push.new.self c.in-Some.attribute (length c.args.text.now - c.loop.counter) (length c.args.text.now - (c.loop.counter + 1)) (chars c.loop.rest.now) (chars c.space_span.result.0.now) (chars c.space_span.result.1.now) (chars c.in-Some.behind.now) c.starts_name.result c.is_empty.result _ (omega (arith, c.loop-test.true)) (record { front = c.space_span.ensures.front; back = c.space_span.ensures.back }) c.starts_name.ensures c.if-not-starts_name.false c.is_empty.ensures c.if-is_empty.false (gets_some _ _ _ _ c.in-Some.is c.in_ok-attribute.ensures) c.in_ok-push.ensures.ok c.loop.invariant.same;
}

pub returns : goal.returns
returns c = attributes_full c.loop.attributes (length c.args.text.now - c.loop.counter) (chars c.loop.rest.now) _ (omega (arith, c.loop-test.false)) c.loop.invariant.same

pub returns-then-not-starts_name : goal.returns-then-not-starts_name
returns-then-not-starts_name c =
    no_name c.loop.attributes (length c.args.text.now - c.loop.counter) (chars c.loop.rest.now) (chars c.space_span.result.0.now) (chars c.space_span.result.1.now) c.starts_name.result _ (record { front = c.space_span.ensures.front; back = c.space_span.ensures.back }) c.starts_name.ensures c.if-not-starts_name.true c.loop.invariant.same
