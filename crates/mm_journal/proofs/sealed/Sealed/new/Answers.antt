use Rattle.std.proofs.Common.{sym, subst}
use Rattle.mm_journal.specs.Settled.{Content, IsSealed}
use Rattle.mm_journal.proofs.Steps.{content-sealed}
use Rattle.mm_journal.proofs.sealed.Sealed.new.Goals as goal

pub invariant_of-result : goal.invariant_of-result
invariant_of-result c =
    let content : Content = record { sort = c.args.sort; bytes = c.args.payload.now } in
    subst (IsSealed c.in_ok-bytes.bytes.items) (sym (content-sealed c.in_ok-bytes.bytes.items content c.in_ok-bytes.ensures)) c.in_ok-bytes.ensures

pub returns : goal.returns
returns c = content-sealed c.in_ok-bytes.bytes.items (record { sort = c.args.sort; bytes = c.args.payload.now }) c.in_ok-bytes.ensures
