-- What a run with a sample does: it answers the commands of a script over a store of its own, and writes what their replies come to.
use Rattle.std.specs.Prelude.{◌≡◌, ◌⊎◌, ◌+◌, ◌<◌, ◌≤◌, ℕ, List, [], ◌++◌, length, take}
use Rattle.std.specs.declared.option.Option.{Option}
use Rattle.std.specs.Io.KnownBytes.{append_known}
use Rattle.mm_image.specs.Image.{image}
use Rattle.mm_keeper.specs.Entries.{weight_of}
use Rattle.mm_options.specs.declared.options.Options.{Options}
use Rattle.mm_sample.specs.Counts.{summary_of}
use Rattle.mm_sample.specs.Script.{script_text}
use Rattle.mm_sample.specs.Summary.{summary_text}
use Rattle.mm_sample.specs.declared.summary.Summary.{Summary}
use Rattle.mm_tree.specs.Numbering.{Labelled}
use Rattle.mm_tree.specs.Trees.{Trees, none}
use Rattle.mm_run.specs.Answers.{Replies}
use Rattle.mm_run.specs.Commands.{all_commands}
use Rattle.mm_run.specs.Run.{HasLine, input_limit}
use Rattle.mm_run.specs.Statuses.{fault_line}
use Rattle.mm_run.specs.Steps.{AllowsNext, Costs}
use Rattle.mm_run.specs.declared.command.Command.{Command}
use Rattle.mm_run.specs.declared.status.Status.{Status}
use Rattle.mm_run.specs.declared.status.Status.TheVariants as status

-- The summary is that of the replies to all commands of the seed's script, from the empty forest, with the weight of the image that they leave.
pub record Summarizes (options : Options) (seed : ℕ) (s : Summary) : Type 0 where
  pub replies : List ℕ
  pub after : Trees Labelled
  pub answers : Replies options none (all_commands input_limit (script_text seed)) replies after
  pub is : s ≡ summary_of replies (weight_of (image after))

-- The steps are at most those that the first commands of the script may take, and the next one.
pub record Spends (options : Options) (seed : ℕ) (before now : ℕ) : Type 0 where
  pub answered : List Command
  pub others : List Command
  pub split : all_commands input_limit (script_text seed) ≡ answered ++ others
  pub forest : Trees Labelled
  pub total : ℕ
  pub costs : Costs options none answered forest total
  pub unfinished : ℕ
  pub allowed : (unfinished ≡ 0) ⊎ AllowsNext options forest others unfinished
  pub steps : now ≤ before + (total + unfinished)

-- What was written of a summary's text and of the fault's line, by the status.
abbrev pub ShowsSample : Options → (seed : ℕ) → (before now : ℕ) → List ℕ → Status → Type 0
ShowsSample options seed before now shown status.Ok = (s : Summary) × Summarizes options seed s × (shown ≡ summary_text seed s)
ShowsSample options seed before now shown status.SinkFault = (s : Summary) × Summarizes options seed s × (n : ℕ) × (n < length (summary_text seed s)) × (shown ≡ take n (summary_text seed s))
ShowsSample options seed before now shown status.Memory = HasLine before now [] (fault_line status.Memory) shown
ShowsSample options seed before now shown status.Usage = HasLine before now [] (fault_line status.Usage) shown
ShowsSample options seed before now shown s = ⊥

-- A run with this sample ended so: these bytes were written, and so often the sink had failed before and has now.
pub record Samples (options : Options) (seed : ℕ) (old new : Option (List ℕ)) (before now : ℕ) (s : Status) : Type 0 where
  pub shown : List ℕ
  pub written : new ≡ append_known old shown
  pub shows : ShowsSample options seed before now shown s
