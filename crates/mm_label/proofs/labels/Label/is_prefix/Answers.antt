use Rattle.std.proofs.Common.{ap₂, ◌∙◌, eqb}
use Rattle.std.specs.List.{starts_with}
use Rattle.mm_label.specs.Facts.Order.{front_test}
use Rattle.mm_label.proofs.HeldFacts.{prefix_is}
use Rattle.mm_label.proofs.labels.Label.is_prefix.Goals as goal

pub returns-clause-ancestor : goal.returns-clause-ancestor
returns-clause-ancestor c =
    prefix_is c.self.inside.bytes.items c.other.inside.bytes.items c.args.self.now c.args.other.now c.starts_with.result c.self.invariant c.other.invariant c.self.view_is c.other.view_is
    (c.starts_with.ensures.value ∙ ap₂ (λ u v. starts_with eqb u v) c.as_slice.ensures c.as_slice-2.ensures)

pub returns-clause-front : goal.returns-clause-front
returns-clause-front c = front_test c.starts_with.result c.args.self.now c.args.other.now (returns-clause-ancestor c)
