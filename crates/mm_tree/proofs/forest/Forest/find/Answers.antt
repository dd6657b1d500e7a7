use Rattle.std.proofs.Common.{◌≡◌, ap, sym, true, [], ◌∙◌}
use Rattle.std.specs.Prelude.{None, Some, MatchOption}
use Rattle.mm_tree.specs.Numbering.{forest_of, node_of}
use Rattle.mm_tree.specs.Forests.{is_well_formed}
use Rattle.mm_tree.specs.Edits.{found}
use Rattle.mm_tree.proofs.WayLaws.{found_is, found_tells, labels_of}
use Rattle.mm_tree.proofs.forest.Forest.find.Goals as goal

pub returns : goal.returns
returns c =
    let x = c.args.label.now in
    let ns = c.args.self.now in
    let w : is_well_formed (forest_of ns) ≡ true = ap (λ zs. is_well_formed (forest_of zs)) (sym c.self.view_is) ∙ c.self.invariant in
    let n : MatchOption c.find_in.result (found x (forest_of ns) ≡ None) (λ n. found x (forest_of ns) ≡ Some (node_of n.now)) =
    rw (sym (found_is x [] None (forest_of ns) (labels_of (forest_of ns) w)), ← c.self.view_is, ← c.as_slice.ensures) c.find_in.ensures in
    record { node = n; present = found_tells c.find_in.result (λ n. node_of n.now) x (forest_of ns) n }
