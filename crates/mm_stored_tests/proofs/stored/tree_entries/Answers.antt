use Rattle.std.proofs.Common.{◌≡◌, true, List, [], None, subst, sym}
use Rattle.std.proofs.lemmas.Bool.{and_parts}
use Rattle.mm_tree.specs.declared.node.Node.{Node}
use Rattle.mm_tree.specs.Forests.{are_labelled, has_valid_kind, is_well_formed}
use Rattle.mm_tree.specs.Numbering.{forest_of, has_room}
use Rattle.mm_tree.specs.Trees.{every}
use Rattle.mm_stored_tests.proofs.stored.tree_entries.Goals as goal

valid : (ns : List Node) → is_well_formed (forest_of ns) ≡ true → every has_valid_kind (forest_of ns) ≡ true
valid ns w =
    let r = and_parts (every has_room (forest_of ns)) _ (and_parts (are_labelled [] None (forest_of ns)) _ w).1 in
    (and_parts (every has_valid_kind (forest_of ns)) _ r.1).0

pub entries-requires : goal.entries-requires
entries-requires c =
    valid c.trees.result.now (subst (λ (z : List Node). is_well_formed (forest_of z) ≡ true) (sym c.trees.ensures.trees) c.trees.ensures.formed)
