-- What contracts see of a disk of files: its counts.
use Rattle.std.specs.Prelude.{ℕ}
use Rattle.mm_host.specs.Causes.{next_count}

-- how often a call failed, and how often one found no memory
pub record Counts : Type 0 where
  pub faults : ℕ
  pub wants : ℕ

-- after a call that failed
abbrev pub after_fault : Counts → Counts
after_fault c = record c { faults = next_count c.faults }

-- after a call that found no memory
abbrev pub after_want : Counts → Counts
after_want c = record c { wants = next_count c.wants }
