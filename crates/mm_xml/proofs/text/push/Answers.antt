use Rattle.std.specs.Prelude.{string_bytes}
use Rattle.std.proofs.lemmas.Str.{IsUtf8-string_bytes}
use Rattle.mm_xml.proofs.TextFacts.{grows}
use Rattle.mm_xml.proofs.text.push.Goals as goal

pub returns : goal.returns
returns c = grows c.push.result (string_bytes c.push.new.self) (string_bytes c.args.text.now) c.args.c (IsUtf8-string_bytes c.args.text.now) c.ranges.c.0 c.push.ensures.bytes
