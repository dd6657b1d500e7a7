use Rattle.std.proofs.Common.{◌∙◌, ap, List, ℕ, ◌+◌, ◌-◌, length, rules, arith}
use Rattle.std.specs.Str.{chars}
use Rattle.std.proofs.lemmas.Str.{chars-nil}
use Rattle.mm_xml.specs.Inside.Lexemes.{chars_of}
use Rattle.mm_xml.specs.Inside.Lexing.{parts_at}
use Rattle.mm_xml.specs.Inside.Telling.{tell_parts}
use Rattle.mm_xml.proofs.TextFacts.{few}
use Rattle.mm_xml.proofs.AttributeFacts.{value_begins, value_ends, value_stops, value_goes_on, is_equal, is_other}
use Rattle.mm_xml.proofs.attribute.value_to.Goals as goal

pub loop-init : goal.loop-init
loop-init c = record {
  utf8 = c.utf8.text;
  same = value_begins (chars_of c.new-value.result) (length c.args.text.now - 0) c.args.quote (chars c.args.text.now) (ap chars c.new-value.ensures.bytes ∙ chars-nil) (omega (arith, few c.args.text.now c.utf8.text));
}

pub returns-then-front-quote : goal.returns-then-front-quote
returns-then-front-quote c =
    value_ends (chars_of c.loop.value) (length c.args.text.now - c.loop.counter) (length c.args.text.now - (c.loop.counter + 1)) c.args.quote c.in-Some.front (chars c.loop.rest.now) (chars c.in-Some.behind.now) _ (omega (arith, c.loop-test.true)) c.in-Some.ensures (is_equal _ _ c.if-front-quote.true) c.loop.invariant.same

pub returns-in_default-character_of : goal.returns-in_default-character_of
returns-in_default-character_of c =
    value_stops (chars_of c.loop.value) (length c.args.text.now - c.loop.counter) (length c.args.text.now - (c.loop.counter + 1)) c.args.quote c.in-Some.front (chars c.loop.rest.now) (chars c.in-Some.behind.now) _ (omega (arith, c.loop-test.true)) c.in-Some.ensures (is_other _ _ c.if-front-quote.false) c.in_default-character_of.ensures c.loop.invariant.same

pub loop-preserved : goal.loop-preserved
loop-preserved c = record {
  utf8 = search rules;
  same =
      ap (λ (r : List ℕ). tell_parts r (parts_at (length c.args.text.now - (c.loop.counter + 1)) c.args.quote (chars c.in-Some-character_of.behind.now))) c.in_ok-push.ensures
      ∙ value_goes_on (chars_of c.loop.value) _ (length c.args.text.now - c.loop.counter) (length c.args.text.now - (c.loop.counter + 1)) c.args.quote c.in-Some.front (chars c.loop.rest.now) (chars c.in-Some.behind.now) (chars c.in-Some-character_of.behind.now) _ (omega (arith, c.loop-test.true)) c.in-Some.ensures (is_other _ _ c.if-front-quote.false) c.in-Some-character_of.ensures c.loop.invariant.same;
}
