use Rattle.std.proofs.Common.{◌∙◌, ap, List}
use Rattle.mm_tree.specs.declared.node.Node.{Node}
use Rattle.mm_tree.specs.Numbering.{forest_of}
use Rattle.mm_tree.specs.Search.{worded}
use Rattle.mm_tree.specs.Inside.Searching.{held}
use Rattle.mm_tree.proofs.SearchFacts.{held_is}
use Rattle.mm_tree.proofs.calls.row.Goals as goal

pub returns : goal.returns
returns c = held_is c.args.query.now c.args.node.now c.in_ok-held.held c.as_slice-2.result.now c.join.new.flags c.in_ok-held.ensures
    (c.as_slice-2.ensures ∙ c.in_ok-inside.ensures.found.held ∙ ap (λ (ns : List Node). held c.args.query.now (worded (forest_of ns))) c.as_slice.ensures) c.join.ensures
