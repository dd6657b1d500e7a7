use Rattle.mm_host.specs.declared.call.Call.TheVariants.{Other, Sync}
use Rattle.mm_host.specs.Facts.Replay.{goes-ok, goes-same, goes-elapses, goes-cause}
use Rattle.mm_host.proofs.mem_disk.MemDiskDisk.sync.Goals as goal

pub returns-clause-durable : goal.returns-clause-durable
returns-clause-durable c = goes-ok c.args.self.now c.pass.new.self (Sync c.args.area) Other c.pass.result c.pass.ensures.goes

pub returns-clause-state : goal.returns-clause-state
returns-clause-state c = goes-same c.args.self.now c.pass.new.self (Sync c.args.area) c.pass.result c.pass.ensures.goes

pub returns-clause-time : goal.returns-clause-time
returns-clause-time c = goes-elapses c.args.self.now c.pass.new.self (Sync c.args.area) Other c.pass.result c.pass.ensures.goes

pub returns-clause-cause : goal.returns-clause-cause
returns-clause-cause c = goes-cause c.args.self.now c.pass.new.self (Sync c.args.area) Other c.pass.result c.pass.ensures.goes c.pass.ensures.faults c.pass.ensures.wants
