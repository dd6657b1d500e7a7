use Rattle.std.proofs.Common.{ap₂, ◌∙◌, eqb}
use Rattle.std.specs.Cmp.Lexicographic.{pointwise}
use Rattle.mm_label.proofs.HeldFacts.{eq_is}
use Rattle.mm_label.proofs.labels.LabelPartialEq.eq.Goals as goal

pub returns : goal.returns
returns c =
    eq_is c.self.inside.bytes.items c.other.inside.bytes.items c.args.self.now c.args.other.now c.eq.result c.self.invariant c.other.invariant c.self.view_is c.other.view_is
    (c.eq.ensures ∙ ap₂ (λ u v. pointwise eqb u v) c.as_slice.ensures c.as_slice-2.ensures)
