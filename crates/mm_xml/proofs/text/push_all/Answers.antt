use Rattle.std.specs.Prelude.{string_bytes}
use Rattle.std.proofs.lemmas.Str.{IsUtf8-string_bytes}
use Rattle.mm_xml.proofs.TextFacts.{grows_by}
use Rattle.mm_xml.proofs.text.push_all.Goals as goal

pub returns : goal.returns
returns c = grows_by c.push_str.result (string_bytes c.push_str.new.self) (string_bytes c.args.text.now) c.args.more.now (IsUtf8-string_bytes c.args.text.now) c.push_str.ensures.bytes
