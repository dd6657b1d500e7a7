use Rattle.mm_tree.proofs.NameFacts.{short}
use Rattle.mm_tree.proofs.characters.is_short_name.Goals as goal

pub returns-then-is_name : goal.returns-then-is_name
returns-then-is_name c = short c.args.name.now c.is_name.result c.utf8.name c.is_name.ensures c.if-is_name.true
