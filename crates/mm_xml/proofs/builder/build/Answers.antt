use Rattle.std.proofs.Common.{◌∙◌, ◌+◌, ◌-◌, length, rules, arith}
use Rattle.std.specs.Str.{chars}
use Rattle.mm_xml.proofs.TextFacts.{few}
use Rattle.std.proofs.lemmas.Result.{err_from_is_err_and}
use Rattle.mm_xml.specs.Inside.Builds.{state_of, order_of}
use Rattle.mm_xml.specs.Inside.Lexemes.{sign_of, chars_of}
use Rattle.mm_xml.proofs.OrderFacts.{allowed_shorter}
use Rattle.mm_xml.proofs.BuildFacts.{begins, shallow_at_first, goes_on, stops, lost, ends, nothing_left}
use Rattle.mm_xml.proofs.builder.build.Goals as goal

pub loop-init : goal.loop-init
loop-init c = record {
  utf8 = c.utf8.text;
  few = omega (arith, few c.args.text.now c.utf8.text);
  same = begins (length c.args.text.now - 0) (state_of c.new-builder.result.stack) (chars_of c.new-builder.result.run) (order_of c.args.order) (chars c.args.text.now) (omega (arith, few c.args.text.now c.utf8.text)) c.new-builder.ensures.state c.new-builder.ensures.run;
  shallow = shallow_at_first (state_of c.new-builder.result.stack) c.new-builder.ensures.state;
  depth = omega (arith, c.requires.depth);
  squares = omega (arith, c.requires.squares);
}

pub loop-preserved : goal.loop-preserved
loop-preserved c = record {
  utf8 = search rules;
  few = omega (arith, c.loop.invariant.few, allowed_shorter (order_of c.loop.order) (chars c.loop.rest.now) (sign_of c.in_ok-lexeme.lexeme) (chars c.in_ok-lexeme.behind.now) c.in_ok-lexeme.ensures.follows.0);
  same = goes_on (length c.args.text.now - c.loop.counter) (length c.args.text.now - (c.loop.counter + 1)) (state_of c.loop.builder.stack) (state_of c.step.new.self.stack) (chars_of c.loop.builder.run) (chars_of c.step.new.self.run) c.is_empty.result (order_of c.loop.order) (order_of c.next_lexeme.new.self) (chars c.loop.rest.now) (chars c.in_ok-lexeme.behind.now) (sign_of c.in_ok-lexeme.lexeme) (record { few = c.loop.invariant.few; count = omega arith; is = c.is_empty.ensures; filled = c.if-is_empty.false }) c.in_ok-lexeme.ensures.follows.0 c.in_ok-lexeme.ensures.follows.1 c.in_ok-step.ensures.0 ∙ c.loop.invariant.same;
  shallow = c.in_ok-step.ensures.1 c.loop.invariant.shallow;
  depth = omega (arith, c.in_ok-lexeme.ensures.depth);
  squares = omega (arith, c.in_ok-lexeme.ensures.squares);
}

pub returns-in_err-lexeme : goal.returns-in_err-lexeme
returns-in_err-lexeme c =
    let p = err_from_is_err_and c.from_residual.result c.from_residual.ensures.1 in
    rw (p.1, p.2) (lost c.in_err-lexeme.field-0.0 (length c.args.text.now - c.loop.counter) (length c.args.text.now - (c.loop.counter + 1)) (state_of c.loop.builder.stack) (chars_of c.loop.builder.run) c.is_empty.result (order_of c.loop.order) (order_of c.next_lexeme.new.self) (order_of c.args.order) (chars c.loop.rest.now) (chars c.args.text.now) (record { few = c.loop.invariant.few; count = omega arith; is = c.is_empty.ensures; filled = c.if-is_empty.false }) c.in_err-lexeme.ensures.follows c.loop.invariant.same)

pub returns-in_err-step : goal.returns-in_err-step
returns-in_err-step c =
    let p = err_from_is_err_and c.from_residual-in_err-step.result c.from_residual-in_err-step.ensures.1 in
    rw (p.1, p.2) (stops c.in_err-step.field-0.0 (length c.args.text.now - c.loop.counter) (length c.args.text.now - (c.loop.counter + 1)) (state_of c.loop.builder.stack) (chars_of c.loop.builder.run) c.is_empty.result (order_of c.loop.order) (order_of c.args.order) (chars c.loop.rest.now) (chars c.in_ok-lexeme.behind.now) (chars c.args.text.now) (sign_of c.in_ok-lexeme.lexeme) (record { few = c.loop.invariant.few; count = omega arith; is = c.is_empty.ensures; filled = c.if-is_empty.false }) c.in_ok-lexeme.ensures.follows.0 c.loop.invariant.same c.in_err-step.ensures)

pub returns : goal.returns
returns c =
    ends c.finish.result (length c.args.text.now - c.loop.counter) (state_of c.loop.builder.stack) (chars_of c.loop.builder.run) (order_of c.loop.order) (order_of c.args.order) (chars c.loop.rest.now) (chars c.args.text.now) c.finish.ensures (nothing_left (chars c.loop.rest.now) c.is_empty-2.result c.is_empty-2.ensures c.if-not-is_empty.false) c.loop.invariant.same c.loop.invariant.shallow
