use Rattle.std.proofs.Common.{◌≡◌, ◌++◌, drop}
use Rattle.mm_tree.specs.Numbering.{forest_of}
use Rattle.mm_tree.specs.Fragments.{named, rows_of}
use Rattle.mm_tree.proofs.calls.rows.Given as goal

-- the rows so far, with those of the nodes to come, are all
abbrev pub invariant-loop-node : goal.invariant-loop-node
invariant-loop-node l = l.rows ++ rows_of l.query (named (forest_of (drop l.node-index l.nodes))) ≡ rows_of l.query (named (forest_of l.nodes))
