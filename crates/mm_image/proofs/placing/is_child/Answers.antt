use Rattle.std.proofs.Common.{◌-◌, ℕ, ap₂, sym, ◌∙◌, arith}
use Rattle.std.specs.Prelude.{nat_eq}
use Rattle.mm_image.proofs.Trees.{child_told, level_above, no_child}
use Rattle.mm_image.proofs.placing.is_child.Goals as goal

pub overflow_sub-result : goal.overflow_sub-result
overflow_sub-result c =
    let l = level_above c.args.parent.now c.args.label.now (sym c.is_prefix.ensures.front ∙ c.if-is_prefix.true) in
    omega (arith, l, c.level.ensures, c.level-then-is_prefix.ensures)

pub returns-then-is_prefix : goal.returns-then-is_prefix
returns-then-is_prefix c =
    ap₂ (λ (a b : ℕ). nat_eq (a - b) 1) c.level.ensures c.level-then-is_prefix.ensures
    ∙ child_told c.args.parent.now c.args.label.now c.as_bytes-spelled.ensures.label (sym c.is_prefix.ensures.front ∙ c.if-is_prefix.true)

pub returns-else-is_prefix : goal.returns-else-is_prefix
returns-else-is_prefix c = c.if-is_prefix.false ∙ no_child c.args.parent.now c.args.label.now (sym c.is_prefix.ensures.front ∙ c.if-is_prefix.false)
