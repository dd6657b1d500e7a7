use Rattle.std.proofs.Common.{◌≡◌, drop}
use Rattle.mm_journal.specs.Records.{sorts}
use Rattle.mm_journal.proofs.payload.check_sorts.Given as goal

abbrev pub invariant-loop-payload : goal.invariant-loop-payload
invariant-loop-payload l = sorts l.due (drop l.payload-index l.payloads) ≡ sorts l.due l.payloads
