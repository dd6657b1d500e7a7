use Rattle.std.proofs.Common.{ap, ◌∙◌}
use Rattle.std.specs.Str.{chars}
use Rattle.mm_xml.specs.Grammar.{without_mark}
use Rattle.mm_xml.proofs.Decoding.{no_utf8, all_chars}
use Rattle.mm_xml.proofs.decode.decode.Goals as goal

pub returns-in_default : goal.returns-in_default
returns-in_default c = no_utf8 c.args.bytes.now c.in_default.ensures.cases.0

pub returns-then-are_chars : goal.returns-then-are_chars
returns-then-are_chars c = (
  all_chars c.args.bytes.now (chars c.in-Ok.text.now) c.are_chars.result c.in-Ok.ensures.cases.1 (ap chars c.in-Ok.ensures.cases.0) c.are_chars.ensures c.if-are_chars.true,
  c.without_mark.ensures ∙ ap (λ bs. without_mark (chars bs)) c.in-Ok.ensures.cases.0,
)
