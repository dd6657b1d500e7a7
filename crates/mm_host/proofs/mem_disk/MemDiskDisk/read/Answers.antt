use Rattle.std.proofs.Common.{◌+◌, ◌≤◌, ℕ, List, length, take, drop, ap, sym, subst, ◌∙◌, Ok, Err}
use Rattle.mm_host.specs.declared.call.Call.TheVariants.{Other, Read}
use Rattle.mm_host.specs.Facts.Replay.{goes-ok, goes-same, goes-elapses, goes-cause}
use Rattle.mm_host.proofs.Left.{read-bytes}
use Rattle.mm_host.proofs.mem_disk.MemDiskDisk.read.Goals as goal

pub copy_out-requires : goal.copy_out-requires
copy_out-requires c =
    let same = read-bytes c.args.self.now c.pass.new.self c.args.area c.bytes.result.now c.bytes.ensures c.in-Ok.ensures.goes in
    subst (λ (l : List ℕ). c.args.at + length c.args.into.now ≤ length l) (sym same) c.requires.within

pub returns-in-Ok-clause-bytes : goal.returns-in-Ok-clause-bytes
returns-in-Ok-clause-bytes c =
    let same = read-bytes c.args.self.now c.pass.new.self c.args.area c.bytes.result.now c.bytes.ensures c.in-Ok.ensures.goes in
    c.copy_out.ensures ∙ ap (λ (l : List ℕ). take (length c.args.into.now) (drop c.args.at l)) same

pub returns-in-Ok-clause-counted : goal.returns-in-Ok-clause-counted
returns-in-Ok-clause-counted c = goes-ok {T = Unit {0}} {E = Unit {0}} c.args.self.now c.pass.new.self Read Other (Ok tt) c.in-Ok.ensures.goes

pub returns-in-Err-clause-state : goal.returns-in-Err-clause-state
returns-in-Err-clause-state c = goes-same {T = Unit {0}} {E = Unit {0}} c.args.self.now c.pass.new.self Read (Err tt) c.in-Err.ensures.goes

pub returns-in-Ok-clause-time : goal.returns-in-Ok-clause-time
returns-in-Ok-clause-time c = goes-elapses {T = Unit {0}} {E = Unit {0}} c.args.self.now c.pass.new.self Read Other (Ok tt) c.in-Ok.ensures.goes

pub returns-in-Err-clause-time : goal.returns-in-Err-clause-time
returns-in-Err-clause-time c = goes-elapses {T = Unit {0}} {E = Unit {0}} c.args.self.now c.pass.new.self Read Other (Err tt) c.in-Err.ensures.goes

pub returns-in-Ok-clause-cause : goal.returns-in-Ok-clause-cause
returns-in-Ok-clause-cause c = goes-cause c.args.self.now c.pass.new.self Read Other (Ok _) c.in-Ok.ensures.goes c.in-Ok.ensures.faults c.in-Ok.ensures.wants

pub returns-in-Err-clause-cause : goal.returns-in-Err-clause-cause
returns-in-Err-clause-cause c = goes-cause c.args.self.now c.pass.new.self Read Other (Err _) c.in-Err.ensures.goes c.in-Err.ensures.faults c.in-Err.ensures.wants
