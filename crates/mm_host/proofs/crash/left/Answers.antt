use Rattle.std.proofs.Common.{sym, subst}
use Rattle.std.specs.Prelude.{IfOk}
use Rattle.mm_host.specs.MemoryDisk.{IsLeft}
use Rattle.mm_host.specs.declared.pick.Pick.{Pick}
use Rattle.mm_host.proofs.Left.{kept-bytes, if-ok}
use Rattle.mm_host.proofs.crash.left.Goals as goal

pub returns-in-Kept : goal.returns-in-Kept
returns-in-Kept c = λ past made calls.
    subst (λ (p : Pick). IfOk c.replay.result (λ bytes. IsLeft p past c.args.area bytes.items)) (sym c.in-Kept.is)
    (if-ok c.replay.result (λ v e. kept-bytes past c.args.area c.args.made.now c.args.calls.now made calls v.items e) c.replay.ensures)
