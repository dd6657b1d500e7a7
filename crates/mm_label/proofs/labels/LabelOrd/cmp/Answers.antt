use Rattle.std.proofs.Common.{ap₂, ◌∙◌, nat_cmp}
use Rattle.std.specs.Cmp.Lexicographic.{slice_cmp}
use Rattle.mm_label.proofs.HeldFacts.{cmp_is}
use Rattle.mm_label.proofs.labels.LabelOrd.cmp.Goals as goal

pub returns : goal.returns
returns c =
    c.cmp.ensures ∙ ap₂ (λ u v. slice_cmp nat_cmp u v) c.as_slice.ensures c.as_slice-2.ensures
    ∙ cmp_is c.self.inside.bytes.items c.other.inside.bytes.items c.args.self.now c.args.other.now c.self.invariant c.other.invariant c.self.view_is c.other.view_is
