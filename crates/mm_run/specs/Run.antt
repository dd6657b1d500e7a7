-- What a run does.
use Rattle.std.specs.Prelude.{◌≡◌, ℕ, ◌+◌, ◌<◌, ◌≤◌, ◌^◌, false, List, [], ◌++◌, length, take, ◌⊎◌}
use Rattle.std.specs.declared.option.Option.{Option}
use Rattle.std.specs.Io.KnownBytes.{prepend_known, append_known, IsAtEnd}
use Rattle.mm_host.specs.Causes.{next_count}
use Rattle.mm_tree.specs.Trees.{Trees, none}
use Rattle.mm_tree.specs.Numbering.{Labelled}
use Rattle.mm_run.specs.declared.command.Command.{Command}
use Rattle.mm_run.specs.declared.status.Status.{Status}
use Rattle.mm_run.specs.declared.status.Status.TheVariants as status
use Rattle.mm_run.specs.Commands.{commands, all_commands, HasQuit, HasNoQuit}
use Rattle.mm_run.specs.Answers.{Replies}
use Rattle.mm_options.specs.declared.options.Options.{Options}
use Rattle.mm_run.specs.Steps.{Costs, AllowsUnfinished}

-- how many bytes a run takes at most
abbrev pub input_limit : ℕ
input_limit = 2 ^ 40

-- A run at one moment: the bytes that the source has left and those that the sink has got, or None where it doesn't tell, how often the sink has failed, and the steps taken.
pub record Streams : Type 0 where
  pub left : Option (List ℕ)
  pub written : Option (List ℕ)
  pub sink_faults : ℕ
  pub steps : ℕ

-- Which commands were answered, and which others were not, by the status: `taken` are the bytes that left the source. With SinkFault the last of them is the one whose reply failed.
abbrev pub AreAnswered : (taken : List ℕ) → Status → (answered others : List Command) → Type 0
AreAnswered taken status.Ok answered others = others ≡ []
AreAnswered taken status.Usage answered others = answered ≡ []
AreAnswered taken status.SourceFault answered others = answered ≡ commands taken false
AreAnswered taken status.SinkFault answered others = Unit {0}
AreAnswered taken status.DiskFault answered others = Unit {0}
AreAnswered taken (status.Damaged damage) answered others = ⊥
AreAnswered taken status.Memory answered others = Unit {0}
AreAnswered taken status.TooMuchInput answered others = others ≡ []

-- Why the run ended there: `left` are the bytes that the source has left, and `bytes` those that it held.
abbrev pub HasEnd : (left : Option (List ℕ)) → (bytes taken : List ℕ) → List Command → Status → Type 0
HasEnd left bytes taken answered status.Ok = (IsAtEnd left × (length bytes < input_limit)) ⊎ HasQuit answered
HasEnd left bytes taken answered status.Usage = taken ≡ []
HasEnd left bytes taken answered status.TooMuchInput = (length taken ≡ input_limit) × HasNoQuit answered
HasEnd left bytes taken answered s = Unit {0}

-- The replies and the line were written whole, or the sink failed once, at the line, and a front of it was written that isn't all.
abbrev pub HasLine : (before now : ℕ) → (replies line shown : List ℕ) → Type 0
HasLine before now replies line shown =
    ((shown ≡ replies ++ line) × (now ≡ before)) ⊎ ((n : ℕ) × (n < length line) × (shown ≡ replies ++ take n line) × (now ≡ next_count before))

-- What was written of the replies and of the fault's line, by the status: with SinkFault a front of the replies that isn't all.
abbrev pub IsShown : (before now : ℕ) → (replies line shown : List ℕ) → Status → Type 0
IsShown before now replies line shown status.SinkFault = (n : ℕ) × (n < length replies) × (shown ≡ take n replies)
IsShown before now replies line shown s = HasLine before now replies line shown

-- A run with these options from a source that held these bytes ended with this status, and with this line of a fault.
pub record Runs (options : Options) (line : List ℕ) (old new : Streams) (bytes : List ℕ) (s : Status) : Type 0 where
  -- the bytes that left the source
  pub taken : List ℕ
  pub left : old.left ≡ prepend_known taken new.left
  pub few : length taken ≤ input_limit
  -- all commands that count
  pub answered : List Command
  pub others : List Command
  pub split : all_commands input_limit bytes ≡ answered ++ others
  pub which : AreAnswered taken s answered others
  pub end : HasEnd new.left bytes taken answered s
  -- from the empty forest, the answered ones have these replies
  pub replies : List ℕ
  pub after : Trees Labelled
  pub answers : Replies options none answered replies after
  -- what was written
  pub shown : List ℕ
  pub is_shown : IsShown old.sink_faults new.sink_faults replies line shown s
  pub written : new.written ≡ append_known old.written shown
  -- the steps are at most those of the answered ones, and where memory ran out those of the next one too
  pub total : ℕ
  pub costs : Costs options none answered after total
  pub unfinished : ℕ
  pub allowed : AllowsUnfinished options s after others unfinished
  pub steps : new.steps ≤ old.steps + (total + unfinished)
