use Rattle.std.proofs.Common.{◌≤◌, ◌&&◌, ◌||◌, ℕ, Bool, ap, sym, subst, ◌∙◌}
use Rattle.std.specs.Prelude.{nat_le}
use Rattle.mm_label.specs.Label.{level}
use Rattle.mm_tree.specs.declared.node.Node.TheViews.{out-Node}
use Rattle.mm_tree.specs.Validity.{is_element}
use Rattle.mm_image.proofs.Trees.{empty_told, fits_told}
use Rattle.mm_image.proofs.placing.fits_place.Goals as goal

pub returns-else-is_element : goal.returns-else-is_element
returns-else-is_element c =
    let n = out-Node c.args.node.now in
    let told = empty_told c.is_empty.result n.children c.is_empty.ensures in
    fits_told (level n.label) 200 (is_element n.kind) c.is_empty.result (subst (λ (l : ℕ). l ≤ 200) c.level.ensures c.if-level-le-LEVEL_LIMIT.true) (sym c.if-is_element.ensures)
    ∙ ap (λ (b : Bool). nat_le (level n.label) 200 && (is_element n.kind || b)) told
