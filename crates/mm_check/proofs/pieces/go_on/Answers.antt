use Rattle.std.proofs.Common.{refl, sym}
use Rattle.mm_check.proofs.Judging.{grown_cut}
use Rattle.mm_check.proofs.pieces.go_on.Goals as goal

pub returns-clause-grows : goal.returns-clause-grows
returns-clause-grows c = record {
  label = refl;
  number = refl;
  same = grown_cut c.args.started.label c.args.started.number c.args.number c.args.started.content.items c.extend_from_slice.new.self.items (c.args.key.now, c.args.value.now) (sym c.if-not-may_follow.ensures) c.requires c.in_ok-extend_from_slice.ensures.items;
}
