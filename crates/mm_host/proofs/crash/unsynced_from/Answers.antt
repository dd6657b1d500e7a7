use Rattle.std.proofs.Common.{sym, ◌∙◌}
use Rattle.mm_host.proofs.Left.{last-here}
use Rattle.mm_host.proofs.crash.unsynced_from.Goals as goal

pub returns-then-is_sync : goal.returns-then-is_sync
returns-then-is_sync c =
    last-here c.args.area c.args.calls.now c.loop-from.from c.index-calls-from.result c.loop-from-test.true c.loop-from.invariant.within c.index-calls-from.is (sym c.is_sync.ensures ∙ c.if-is_sync.true) c.loop-from.invariant.behind
