use Rattle.std.proofs.Common.{◌∙◌}
use Rattle.mm_tree.proofs.FragmentFacts.{shown_is}
use Rattle.mm_tree.proofs.calls.show.Goals as goal

pub returns : goal.returns
returns c = shown_is c.args.query.now c.args.node.now c.in_ok-copy.field-0 c.in_ok-from_str.field-0 c.in_ok-own_in.field-0 c.args.children c.in_ok-copy.ensures (c.in_ok-from_str.ensures ∙ c.name.ensures) c.in_ok-own_in.ensures
