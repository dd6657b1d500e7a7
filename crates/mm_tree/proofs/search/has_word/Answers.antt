use Rattle.std.proofs.Common.{◌∙◌}
use Rattle.mm_tree.proofs.SearchFacts.{any_turned}
use Rattle.mm_tree.proofs.search.has_word.Goals as goal

pub returns : goal.returns
returns c = c.contains.ensures.value ∙ any_turned c.args.word.now c.args.list.now
