use Rattle.mm_tree.proofs.WayLaws.{leads_is}
use Rattle.mm_tree.proofs.forest.find.leads_to.Goals as goal

pub returns : goal.returns
returns c = leads_is c.is_prefix.result c.args.label.now c.args.target.now c.is_prefix.ensures.ancestor
