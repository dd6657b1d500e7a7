use Rattle.std.proofs.Common.{false}
use Rattle.std.specs.Str.{chars}
use Rattle.mm_xml.specs.Grammar.{normal}
use Rattle.mm_xml.proofs.ReaderFacts.{answers, decoded}
use Rattle.mm_xml.proofs.reader.read.Goals as goal

pub returns-in-Some : goal.returns-in-Some
returns-in-Some c =
    let d = decoded c.decode.result c.in-Some.text c.args.bytes.now c.in-Some.is c.decode.ensures in
    let r = answers c.read_lines.result c.args.bytes.now (normal false (chars c.in-Some.text.now)) d.0 d.1 c.read_lines.ensures in
    record { found = r.found; only = r.only; none = r.none; deep = r.deep; valid = r.valid }
