use Rattle.std.proofs.Common.{◌≡◌, ◌≤◌, vec_len}
use Rattle.mm_run.specs.Inside.Input.{rest, reach}
use Rattle.mm_run.proofs.Parts.{SoFar}
use Rattle.mm_run.proofs.line.read_line.Given as goal

abbrev pub invariant-parts : goal.invariant-parts
invariant-parts g l = record {
  so_far : SoFar (rest (g.S.Source.left l.fn.source) l.fn.buffer) (rest (g.S.Source.left l.source) l.buffer) (reach l.fn.buffer) (reach l.buffer) l.fn.text.items l.text.items l.limit;
  bound : vec_len l.text ≤ l.limit;
  grows : vec_len l.fn.text ≤ vec_len l.text;
  count : g.S.Source.fault_count l.source ≡ g.S.Source.fault_count l.fn.source;
}

abbrev pub decreases-parts : goal.decreases-parts
decreases-parts g l = reach l.buffer
