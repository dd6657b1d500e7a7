use Rattle.std.proofs.Common.{◌≡◌, ◌<◌, ◌+◌, All, length}
use Rattle.mm_journal.specs.Settled.{IsNear}
use Rattle.mm_journal.proofs.Walking.{IsReadTo}
use Rattle.mm_journal.proofs.reading.read_records.Given as goal

abbrev pub invariant-records : goal.invariant-records
invariant-records l = record {
  some : 0 < length l.rest;
  place : l.at + length l.rest ≡ length l.fn.bytes;
  near : All IsNear l.found.items;
  read : IsReadTo l.fn.bytes l.at l.rest l.found.items;
}

abbrev pub decreases-records : goal.decreases-records
decreases-records l = length l.rest
