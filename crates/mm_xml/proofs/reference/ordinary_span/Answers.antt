use Rattle.std.proofs.Common.{◌∙◌, ap, rules}
use Rattle.std.specs.Str.{chars}
use Rattle.mm_xml.specs.Inside.Passages.{is_ordinary}
use Rattle.mm_xml.proofs.Spans.{Stops}
use Rattle.mm_xml.proofs.Ordinary.{one_more, no_more, another, cut_behind, front_is, back_is}
use Rattle.mm_xml.proofs.reference.ordinary_span.Goals.{in-Some+then-not-is_ordinary, in_default}
use Rattle.mm_xml.proofs.reference.ordinary_span.Goals as goal

pub loop-c-preserved : goal.loop-c-preserved
loop-c-preserved c = record {
  utf8 = search rules;
  behind = one_more (chars c.args.text.now) (chars c.loop-c.rest.now) (chars c.in-Some.behind.now) c.in-Some.c c.is_ordinary.result c.loop-c.invariant.behind c.in-Some.ensures c.is_ordinary.ensures c.if-not-is_ordinary.false;
}

pub overflow_sub-text : goal.overflow_sub-text
overflow_sub-text c = (cut_behind c.args.text.now c.loop-c.rest.now c.utf8.text c.loop-c.invariant.utf8 c.loop-c.invariant.behind).within

pub split_at-requires : goal.split_at-requires
split_at-requires c = (cut_behind c.args.text.now c.loop-c.rest.now c.utf8.text c.loop-c.invariant.utf8 c.loop-c.invariant.behind).boundary

pub returns-clause-front : goal.returns-clause-front
returns-clause-front c =
    let stop : Stops is_ordinary (chars c.loop-c.rest.now) = elim c.match-first.branch [
      | in-Some+then-not-is_ordinary w ↦ another (chars c.loop-c.rest.now) (chars w.in-Some.behind.now) w.in-Some.c w.is_ordinary.result w.in-Some.ensures w.is_ordinary.ensures w.if-not-is_ordinary.true
      | in_default w ↦ no_more (chars c.loop-c.rest.now) w.in_default.ensures
    ] in
    ap chars c.split_at.ensures.front ∙ front_is c.args.text.now c.loop-c.rest.now c.utf8.text c.loop-c.invariant.utf8 c.loop-c.invariant.behind stop

pub returns-clause-back : goal.returns-clause-back
returns-clause-back c =
    let stop : Stops is_ordinary (chars c.loop-c.rest.now) = elim c.match-first.branch [
      | in-Some+then-not-is_ordinary w ↦ another (chars c.loop-c.rest.now) (chars w.in-Some.behind.now) w.in-Some.c w.is_ordinary.result w.in-Some.ensures w.is_ordinary.ensures w.if-not-is_ordinary.true
      | in_default w ↦ no_more (chars c.loop-c.rest.now) w.in_default.ensures
    ] in
    ap chars c.split_at.ensures.back ∙ back_is c.args.text.now c.loop-c.rest.now c.utf8.text c.loop-c.invariant.utf8 c.loop-c.invariant.behind stop
