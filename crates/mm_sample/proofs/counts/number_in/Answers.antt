use Rattle.std.proofs.Common.{◌∙◌}
use Rattle.mm_sample.proofs.Counting.{number_parsed}
use Rattle.mm_sample.proofs.counts.number_in.Goals as goal

pub returns : goal.returns
returns c = c.unwrap_or.ensures ∙ number_parsed c.args.text.now c.parse.result c.parse.ensures.value.0
