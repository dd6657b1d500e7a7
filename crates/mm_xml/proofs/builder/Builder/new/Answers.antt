use Rattle.std.proofs.Common.{ap, ◌∙◌}
use Rattle.std.specs.Str.{chars}
use Rattle.std.proofs.lemmas.Str.{chars-nil}
use Rattle.mm_xml.proofs.builder.Builder.new.Goals as goal

pub returns-clause-run : goal.returns-clause-run
returns-clause-run c = ap chars c.new-2.ensures.bytes ∙ chars-nil
