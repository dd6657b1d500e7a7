use Rattle.std.specs.Str.{chars}
use Rattle.mm_xml.proofs.DoctypeFacts.{system_rest, public_rest}
use Rattle.mm_xml.proofs.doctype.after_external.Goals as goal

pub returns-then-is_gap : goal.returns-then-is_gap
returns-then-is_gap c =
    system_rest c.after_spaced_system.result (chars c.args.text.now) (chars c.space_span.result.0.now) (chars c.space_span.result.1.now) (chars c.in-Some.rest.now) c.is_gap.result c.space_span.ensures.front c.space_span.ensures.back c.in-Some.ensures c.is_gap.ensures c.if-is_gap.true c.after_spaced_system.ensures

pub returns-then-is_gap-2 : goal.returns-then-is_gap-2
returns-then-is_gap-2 c =
    public_rest c.after_both.result (chars c.args.text.now) (chars c.space_span.result.0.now) (chars c.space_span.result.1.now) (chars c.in-Some-strip.rest.now) c.is_gap-in-Some-strip.result c.space_span.ensures.front c.space_span.ensures.back c.in_default.ensures c.in-Some-strip.ensures c.is_gap-in-Some-strip.ensures c.if-is_gap-2.true c.after_both.ensures
