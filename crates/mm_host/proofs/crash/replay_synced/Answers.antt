use Rattle.mm_host.proofs.Left.{stable-bytes, if-ok}
use Rattle.mm_host.proofs.crash.replay_synced.Goals as goal

pub returns : goal.returns
returns c = λ past made calls.
    if-ok c.replay.result
    (λ v e. stable-bytes past c.args.area c.args.made.now c.args.calls.now made calls c.unsynced_from-from.result c.unsynced_from-from.ensures v.items e)
    c.replay.ensures
