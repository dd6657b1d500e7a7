use Rattle.std.proofs.Common.{◌≡◌, length, ap, ◌∙◌, Ok, Err}
use Rattle.mm_host.specs.Disk.{DiskState, area_of}
use Rattle.mm_host.specs.MemoryDisk.{state_of}
use Rattle.mm_host.specs.declared.call.Call.TheVariants.{Other}
use Rattle.mm_host.specs.Facts.Replay.{goes-ok, goes-same, goes-elapses, goes-cause}
use Rattle.mm_host.proofs.mem_disk.MemDiskDisk.len.Goals as goal

pub returns-in-Ok-clause-len : goal.returns-in-Ok-clause-len
returns-in-Ok-clause-len c =
    let same : state_of c.pass.new.self.past ≡ state_of c.args.self.now.past = goes-ok {T = Unit {0}} {E = Unit {0}} c.args.self.now c.pass.new.self Other Other (Ok tt) c.in-Ok.ensures.goes in
    ap length (c.bytes.ensures ∙ ap (λ (s : DiskState). (area_of s c.args.area).now) same)

pub returns-in-Ok-clause-state : goal.returns-in-Ok-clause-state
returns-in-Ok-clause-state c = goes-ok {T = Unit {0}} {E = Unit {0}} c.args.self.now c.pass.new.self Other Other (Ok tt) c.in-Ok.ensures.goes

pub returns-in-Err-clause-state : goal.returns-in-Err-clause-state
returns-in-Err-clause-state c = goes-same {T = Unit {0}} {E = Unit {0}} c.args.self.now c.pass.new.self Other (Err tt) c.in-Err.ensures.goes

pub returns-in-Ok-clause-time : goal.returns-in-Ok-clause-time
returns-in-Ok-clause-time c = goes-elapses {T = Unit {0}} {E = Unit {0}} c.args.self.now c.pass.new.self Other Other (Ok tt) c.in-Ok.ensures.goes

pub returns-in-Err-clause-time : goal.returns-in-Err-clause-time
returns-in-Err-clause-time c = goes-elapses {T = Unit {0}} {E = Unit {0}} c.args.self.now c.pass.new.self Other Other (Err tt) c.in-Err.ensures.goes

pub returns-in-Ok-clause-cause : goal.returns-in-Ok-clause-cause
returns-in-Ok-clause-cause c = goes-cause c.args.self.now c.pass.new.self Other Other (Ok _) c.in-Ok.ensures.goes c.in-Ok.ensures.faults c.in-Ok.ensures.wants

pub returns-in-Err-clause-cause : goal.returns-in-Err-clause-cause
returns-in-Err-clause-cause c = goes-cause c.args.self.now c.pass.new.self Other Other (Err _) c.in-Err.ensures.goes c.in-Err.ensures.faults c.in-Err.ensures.wants
