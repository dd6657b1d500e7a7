use Rattle.std.proofs.Common.{ap, ◌∙◌, ◌++◌, false, List, ℕ}
use Rattle.std.specs.Str.{chars}
use Rattle.std.proofs.lemmas.Str.{chars-nil}
use Rattle.mm_xml.specs.Grammar.{normal}
use Rattle.mm_xml.proofs.decode.with_line_feeds.Goals as goal

pub loop-c-init : goal.loop-c-init
loop-c-init c = record { utf8 = c.utf8.text; same = ap (λ (r : List ℕ). r ++ normal false (chars c.args.text.now)) (ap chars c.new-lines.ensures.bytes ∙ chars-nil) }
