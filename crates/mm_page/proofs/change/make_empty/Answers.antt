use Rattle.std.proofs.Common.{[], sym, ap, ◌∙◌, subst}
use Rattle.mm_page.specs.Leaf.{next_of}
use Rattle.mm_page.specs.Inside.Rows.{IsRow}
use Rattle.mm_page.proofs.Linking.{zeros-row, zeros-next}
use Rattle.mm_page.proofs.change.make_empty.Goals as goal

pub finish-requires : goal.finish-requires
finish-requires c =
    record { row = subst (λ t. IsRow t []) (sym c.requires) zeros-row }

pub returns-clause-next : goal.returns-clause-next
returns-clause-next c =
    c.finish.ensures.next ∙ ap next_of c.requires ∙ zeros-next 4096
