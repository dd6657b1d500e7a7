use Rattle.std.proofs.Common.{◌≡◌, false, true, Err, inr, ap, arith}
use Rattle.mm_host.specs.MemoryDisk.{MemDiskState}
use Rattle.mm_host.specs.declared.call.Call.TheVariants.{Other, Write}
use Rattle.mm_host.specs.Facts.Replay.{goes-ok, goes-cut, goes-elapses, goes-cause}
use Rattle.mm_host.proofs.mem_disk.MemDiskDisk.write_at.Goals as goal

pub returns-then-saturating_add-gt-FURTHEST-clause-cause : goal.returns-then-saturating_add-gt-FURTHEST-clause-cause
returns-then-saturating_add-gt-FURTHEST-clause-cause c =
    let d = c.args.self.now in
    let same : c.want.new.self.faults ≡ d.faults = ap (λ (s : MemDiskState). s.faults) c.want.ensures.state in
    goes-cause d c.want.new.self Other Other (Err c.want.result) (inr c.want.ensures.state) (omega (arith, same)) c.want.ensures.later

pub returns-then-saturating_add-gt-FURTHEST-clause-time : goal.returns-then-saturating_add-gt-FURTHEST-clause-time
returns-then-saturating_add-gt-FURTHEST-clause-time c = goes-elapses {T = Unit {0}} {E = Unit {0}} c.args.self.now c.want.new.self Other Other (Err tt) (inr c.want.ensures.state)

pub returns-clause-written : goal.returns-clause-written
returns-clause-written c = let a = c.args in goes-ok a.self.now c.put.new.self (Write a.area a.at a.bytes.now false) (Write a.area a.at a.bytes.now true) c.put.result c.put.ensures.goes

pub returns-clause-in_part : goal.returns-clause-in_part
returns-clause-in_part c = let a = c.args in goes-cut a.self.now c.put.new.self (Write a.area a.at a.bytes.now false) a.area a.at a.bytes.now c.put.result c.put.ensures.goes

pub returns-clause-time : goal.returns-clause-time
returns-clause-time c = let a = c.args in goes-elapses a.self.now c.put.new.self (Write a.area a.at a.bytes.now false) (Write a.area a.at a.bytes.now true) c.put.result c.put.ensures.goes

pub returns-clause-cause : goal.returns-clause-cause
returns-clause-cause c = let a = c.args in goes-cause a.self.now c.put.new.self (Write a.area a.at a.bytes.now false) (Write a.area a.at a.bytes.now true) c.put.result c.put.ensures.goes c.put.ensures.faults c.put.ensures.wants
