-- What was written of the summary of a sample.
use Rattle.std.specs.Prelude.{◌≡◌, ◌<◌, ℕ, List, length, take}
use Rattle.std.specs.declared.option.Option.{Option}
use Rattle.std.specs.Io.KnownBytes.{append_known}
use Rattle.mm_options.specs.declared.options.Options.{Options}
use Rattle.mm_sample.specs.Summary.{summary_text}
use Rattle.mm_sample.specs.declared.summary.Summary.{Summary}
use Rattle.mm_run.specs.Sample.{Summarizes}
use Rattle.mm_run.specs.declared.status.Status.{Status}
use Rattle.mm_run.specs.declared.status.Status.TheVariants as status

-- by the status, before the line of a fault
abbrev pub TellsSample : Options → (seed : ℕ) → (old new : Option (List ℕ)) → Status → Type 0
TellsSample options seed old new status.Ok = (s : Summary) × Summarizes options seed s × (new ≡ append_known old (summary_text seed s))
TellsSample options seed old new status.SinkFault = (s : Summary) × Summarizes options seed s × (n : ℕ) × (n < length (summary_text seed s)) × (new ≡ append_known old (take n (summary_text seed s)))
TellsSample options seed old new status.Memory = new ≡ old
TellsSample options seed old new s = ⊥
