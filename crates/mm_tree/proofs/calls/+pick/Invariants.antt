use Rattle.std.proofs.Common.{◌≡◌, ◌++◌, drop, map}
use Rattle.mm_tree.specs.Numbering.{forest_of}
use Rattle.mm_tree.specs.Fragments.{fragment_tree, named, rows_of}
use Rattle.mm_tree.proofs.FragmentFacts.{picked}
use Rattle.mm_tree.proofs.calls.+pick.Given as goal

-- the rows are those of the siblings; the fragments so far, with those of the nodes to come, are all
abbrev pub invariant-loop-node : goal.invariant-loop-node
invariant-loop-node l = map fragment_tree l.picked ++ picked l.query (rows_of l.query (named (forest_of l.nodes))) (named (forest_of (drop l.node-index l.nodes)))
    ≡ picked l.query (rows_of l.query (named (forest_of l.nodes))) (named (forest_of l.nodes))
