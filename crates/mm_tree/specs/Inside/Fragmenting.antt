-- What the making of a fragment knows.
use Rattle.std.specs.Prelude.{Bool, not, ◌&&◌, List}
use Rattle.std.specs.List.{list_all, list_any}
use Rattle.mm_tree.specs.declared.node.Node.{Node}
use Rattle.mm_tree.specs.declared.node.Node.TheViews.{out-Node}
use Rattle.mm_tree.specs.Hits.{name_of}
use Rattle.mm_tree.specs.Search.{own}
use Rattle.mm_tree.specs.Fragments.{Named, less, some}

-- a node of the program with its name, and with all below it
abbrev pub named_node : Node → Named
named_node n = record { label = (out-Node n).label; name = name_of (out-Node n).kind; words = own (out-Node n).kind }

-- the row is not full and not empty, and none of the others is a strict superset
abbrev pub stands_out : List (List Bool) → List Bool → Bool
stands_out all row = not (list_all (λ flag. flag) row) && (some row && not (list_any (less row) all))
