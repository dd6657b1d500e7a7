use Rattle.std.proofs.Common.{◌≡◌, sym, ap, subst}
use Rattle.mm_host.specs.Disk.{MayLeave}
use Rattle.mm_host.specs.MemoryDisk.{Past, MemDiskState, state_of, until}
use Rattle.mm_host.proofs.Left.{left-both}
use Rattle.mm_host.proofs.mem_disk.MemDisk.crash.Goals as goal

pub returns-clause-may_be : goal.returns-clause-may_be
returns-clause-may_be c =
    let past = until c.args.after_call c.self.inside.history in
    let same : c.self.inside.history ≡ c.args.self.now.past = ap (λ (d : MemDiskState). d.past) c.self.view_is in
    subst (λ (p : Past). MayLeave (state_of (until c.args.after_call p)) c.new-2.result.past.made) same
    (subst (MayLeave (state_of past)) (sym c.new-2.ensures.made) (left-both c.args.pick past c.in_ok-pages.pages.items c.in_ok-journal.journal.items c.in_ok-pages.ensures c.in_ok-journal.ensures))
