use Rattle.std.proofs.Common.{◌∙◌, ◌+◌, ◌-◌, length, rules, arith}
use Rattle.std.specs.Str.{chars}
use Rattle.mm_xml.proofs.TextFacts.{few}
use Rattle.mm_xml.specs.Inside.Builds.{outline_of, order_of}
use Rattle.mm_xml.specs.Inside.Lexemes.{sign_of}
use Rattle.std.proofs.lemmas.Result.{err_from_is_err_and}
use Rattle.mm_xml.specs.Inside.Outlines.{outline_as}
use Rattle.mm_xml.proofs.OutlineFacts.{begins}
use Rattle.mm_xml.proofs.OrderFacts.{allowed_shorter}
use Rattle.mm_xml.proofs.FindFacts.{goes_on, lost, stops}
use Rattle.mm_xml.proofs.outline.find_tree.Goals as goal

pub loop-init : goal.loop-init
loop-init c = record {
  utf8 = c.utf8.text;
  few = omega (arith, few c.args.text.now c.utf8.text);
  same = begins (length c.args.text.now - 0) (outline_of c.new-outline.result) (order_of c.args.order) (chars c.args.text.now) (omega (arith, few c.args.text.now c.utf8.text)) c.new-outline.ensures;
  depth = omega (arith, c.requires.depth);
  squares = omega (arith, c.requires.squares);
}

pub loop-preserved : goal.loop-preserved
loop-preserved c = record {
  utf8 = search rules;
  few = omega (arith, c.loop.invariant.few, allowed_shorter (order_of c.loop.order) (chars c.loop.rest.now) (sign_of c.in_ok-lexeme.lexeme) (chars c.in_ok-lexeme.behind.now) c.in_ok-lexeme.ensures.follows.0);
  same = goes_on (length c.args.text.now - c.loop.counter) (length c.args.text.now - (c.loop.counter + 1)) (outline_of c.loop.outline) (outline_of c.step.new.self) c.loop.blank c.in_ok-blank.blank c.is_empty.result (order_of c.loop.order) (order_of c.next_lexeme.new.self) (chars c.loop.rest.now) (chars c.in_ok-lexeme.behind.now) (sign_of c.in_ok-lexeme.lexeme) (record { few = c.loop.invariant.few; count = omega arith; is = c.is_empty.ensures; filled = c.if-is_empty.false }) c.in_ok-lexeme.ensures.follows.0 c.in_ok-lexeme.ensures.follows.1 c.in_ok-blank.ensures ∙ c.loop.invariant.same;
  depth = omega (arith, c.in_ok-lexeme.ensures.depth);
  squares = omega (arith, c.in_ok-lexeme.ensures.squares);
}

pub returns-in_err-lexeme : goal.returns-in_err-lexeme
returns-in_err-lexeme c =
    let p = err_from_is_err_and c.from_residual.result c.from_residual.ensures.1 in
    rw (p.1, p.2) (lost c.in_err-lexeme.field-0.0 (length c.args.text.now - c.loop.counter) (length c.args.text.now - (c.loop.counter + 1)) (outline_of c.loop.outline) c.loop.blank c.is_empty.result (order_of c.loop.order) (order_of c.next_lexeme.new.self) (chars c.loop.rest.now) (outline_as (order_of c.args.order) (chars c.args.text.now)) (record { few = c.loop.invariant.few; count = omega arith; is = c.is_empty.ensures; filled = c.if-is_empty.false }) c.in_err-lexeme.ensures.follows c.loop.invariant.same)

pub returns-in_err-blank : goal.returns-in_err-blank
returns-in_err-blank c =
    let p = err_from_is_err_and c.from_residual-in_err-blank.result c.from_residual-in_err-blank.ensures.1 in
    rw (p.1, p.2) (stops c.in_err-blank.field-0.0 (length c.args.text.now - c.loop.counter) (length c.args.text.now - (c.loop.counter + 1)) (outline_of c.loop.outline) (outline_of c.step.new.self) c.loop.blank c.is_empty.result (order_of c.loop.order) (chars c.loop.rest.now) (chars c.in_ok-lexeme.behind.now) (sign_of c.in_ok-lexeme.lexeme) (outline_as (order_of c.args.order) (chars c.args.text.now)) (record { few = c.loop.invariant.few; count = omega arith; is = c.is_empty.ensures; filled = c.if-is_empty.false }) c.in_ok-lexeme.ensures.follows.0 c.loop.invariant.same c.in_err-blank.ensures)
