-- What the turns of a run do.
use Rattle.std.specs.Prelude.{◌≡◌, ℕ, ◌+◌, ◌<◌, ◌≤◌, true, false, List, [], ◌∷◌, ◌++◌, length, take, Result, Ok, Err, Some, ◌⊎◌, None}
use Rattle.std.specs.declared.option.Option.{Option}
use Rattle.std.specs.Io.KnownBytes.{append_known, IsAtEnd}
use Rattle.mm_host.specs.declared.damage.Fault.{Fault}
use Rattle.mm_host.specs.declared.damage.Fault.TheVariants as fault
use Rattle.mm_keeper.specs.Entries.{Entries}
use Rattle.mm_keeper.specs.Keeping.{Seen}
use Rattle.mm_tree.specs.Trees.{Trees}
use Rattle.mm_tree.specs.Numbering.{Labelled}
use Rattle.mm_run.specs.declared.command.Command.{Command}
use Rattle.mm_options.specs.declared.options.Options.{Options}
use Rattle.mm_run.specs.declared.serving.Turned.{Turned}
use Rattle.mm_run.specs.declared.serving.Turned.TheVariants as turned
use Rattle.mm_run.specs.declared.status.Status.{Status}
use Rattle.mm_run.specs.declared.status.Status.TheVariants as status
use Rattle.mm_run.specs.Answers.{Answers, Replies}
use Rattle.mm_run.specs.Commands.{all_commands, HasQuit, HasNoQuit}
use Rattle.mm_run.specs.Forms.{quits}
use Rattle.mm_run.specs.Inside.Step.{Cuts}
use Rattle.mm_run.specs.Run.{AreAnswered, HasLine}
use Rattle.mm_run.specs.Steps.{Costs, AllowsUnfinished}
use Rattle.mm_run.specs.Stores.{Rests}
use Rattle.mm_run.specs.Turns.{State, Moved, Replied, Ends, IsCutShort, BrokeOff, Fails}

-- These commands were answered, and nothing else was done.
pub record Answered (options : Options) (old new : State) (answered : List Command) : Type 0 where
  pub replies : List ℕ
  pub written : new.written ≡ append_known old.written replies
  pub all : Replies options old.forest answered replies new.forest
  pub total : ℕ
  pub costs : Costs options old.forest answered new.forest total
  pub steps : new.steps ≤ old.steps + total

-- One command was cut and answered, and it doesn't end the run.
pub record Turning (options : Options) (old new : State) : Type 0 where
  pub got : List ℕ
  pub command : Command
  pub moved : Moved old new got
  pub cuts : Cuts None got (command ∷ [])
  pub goes_on : quits command.form ≡ false
  pub answered : Answered options old new (command ∷ [])

-- Why a run ended in a state.
abbrev pub HasStopped : State → List Command → Status → Type 0
HasStopped new answered status.Ok = (IsAtEnd new.rest × (0 < new.reach)) ⊎ HasQuit answered
HasStopped new answered status.Usage = ⊥
HasStopped new answered status.TooMuchInput = (new.reach ≡ 0) × HasNoQuit answered
HasStopped new answered s = Unit {0}

-- what was written of the replies
abbrev pub IsFront : Status → (replies shown : List ℕ) → Type 0
IsFront status.SinkFault replies shown = (n : ℕ) × (n < length replies) × (shown ≡ take n replies)
IsFront s replies shown = shown ≡ replies

-- A run from a state before these bytes ended, with this status.
pub record Ended (options : Options) (old new : State) (bytes : List ℕ) (s : Status) : Type 0 where
  pub got : List ℕ
  pub moved : Moved old new got
  pub answered : List Command
  pub others : List Command
  pub split : all_commands old.reach bytes ≡ answered ++ others
  pub which : AreAnswered got s answered others
  pub stopped : HasStopped new answered s
  pub replies : List ℕ
  pub after : Trees Labelled
  pub answers : Replies options old.forest answered replies after
  pub last : s ≡ status.Ok → after ≡ new.forest
  pub shown : List ℕ
  pub is_front : IsFront s replies shown
  pub written : new.written ≡ append_known old.written shown
  pub total : ℕ
  pub costs : Costs options old.forest answered after total
  pub unfinished : ℕ
  pub allowed : AllowsUnfinished options s after others unfinished
  pub steps : new.steps ≤ old.steps + (total + unfinished)

-- Turns end so: they look at no words, and find no damage in an image.
abbrev pub IsPossible : Status → Type 0
IsPossible status.Usage = ⊥
IsPossible (status.Damaged damage) = ⊥
IsPossible s = Unit {0}

-- What a run does from a state on. Where the source doesn't tell its bytes, only the status is possible.
pub record Served (options : Options) (old new : State) (s : Status) : Type 0 where
  pub possible : IsPossible s
  pub each : (bytes : List ℕ) → old.rest ≡ Some bytes → Ended options old new bytes s

module _ {K S : Type 0} (has_maps : K → Type 0) (seen : K → Seen S) (moment : K → ℕ) (left_since : K → ℕ → Option Entries → Type 0) (options : Options) where
  -- What one turn does: it leaves the keeper with the forest of the new state.
  abbrev pub GivesTurn : State → (Trees Labelled → State) → K → Result Turned Status → Type 0
  GivesTurn old new keeper (Ok turned.Answered) = (after : Trees Labelled) × Rests has_maps seen keeper after × Replied options false old (new after)
  GivesTurn old new keeper (Ok turned.Last) = (after : Trees Labelled) × Rests has_maps seen keeper after × Replied options true old (new after)
  GivesTurn old new keeper (Ok turned.Ended) = Rests has_maps seen keeper old.forest × Ends old (new old.forest)
  GivesTurn old new keeper (Err s) = Fails has_maps seen moment left_since options old (new old.forest) keeper s

  -- One command was answered, or how far that came.
  abbrev pub GivesAnswer : Command → (old new : Option (List ℕ)) → Trees Labelled → K → Result (Unit {0}) Status → Type 0
  GivesAnswer command old new forest keeper (Ok u) =
      (reply : List ℕ) × (after : Trees Labelled) × Answers options forest command reply after × (new ≡ append_known old reply) × Rests has_maps seen keeper after
  GivesAnswer command old new forest keeper (Err status.SinkFault) = IsCutShort has_maps seen moment left_since options command old new forest keeper
  GivesAnswer command old new forest keeper (Err status.Memory) = BrokeOff has_maps seen moment left_since options command old new forest keeper
  GivesAnswer command old new forest keeper (Err status.DiskFault) = BrokeOff has_maps seen moment left_since options command old new forest keeper
  GivesAnswer command old new forest keeper (Err s) = ⊥

-- What was written of a reply, by what became of it.
abbrev pub Tells : (old new : Option (List ℕ)) → List ℕ → Result (Unit {0}) Status → Type 0
Tells old new text (Ok u) = new ≡ append_known old text
Tells old new text (Err status.SinkFault) = (n : ℕ) × (n < length text) × (new ≡ append_known old (take n text))
Tells old new text (Err status.Memory) = new ≡ old
Tells old new text (Err s) = ⊥

-- The same with the work that follows it, which may break off.
abbrev pub Finishes : (old new : Option (List ℕ)) → List ℕ → Result (Unit {0}) Status → Type 0
Finishes old new text (Ok u) = new ≡ append_known old text
Finishes old new text (Err status.SinkFault) = (n : ℕ) × (n < length text) × (new ≡ append_known old (take n text))
Finishes old new text (Err status.Memory) = (new ≡ old) ⊎ (new ≡ append_known old text)
Finishes old new text (Err status.DiskFault) = (new ≡ old) ⊎ (new ≡ append_known old text)
Finishes old new text (Err s) = ⊥

-- the status of a run that a store's fault ends
abbrev pub status_at : Fault → Status
status_at fault.DiskFault = status.DiskFault
status_at (fault.Damaged damage) = status.Damaged damage
status_at fault.Memory = status.Memory
status_at fault.Spent = status.DiskFault

-- what a store ends a run with
abbrev pub IsStoreFault : Status → Type 0
IsStoreFault status.DiskFault = Unit {0}
IsStoreFault (status.Damaged damage) = Unit {0}
IsStoreFault status.Memory = Unit {0}
IsStoreFault s = ⊥

-- what a store and a sink end a run with
abbrev pub IsAnswerFault : Status → Type 0
IsAnswerFault status.Ok = ⊥
IsAnswerFault status.Usage = ⊥
IsAnswerFault status.SourceFault = ⊥
IsAnswerFault status.TooMuchInput = ⊥
IsAnswerFault s = Unit {0}

-- what a turn ends a run with
abbrev pub IsTurnFault : Status → Type 0
IsTurnFault status.Ok = ⊥
IsTurnFault status.Usage = ⊥
IsTurnFault s = Unit {0}

-- what a store ends a run with that holds an image
abbrev pub IsBroken : Status → Type 0
IsBroken status.DiskFault = Unit {0}
IsBroken status.Memory = Unit {0}
IsBroken s = ⊥

-- the store's fault in a status
abbrev pub fault_in : Status → Option Fault
fault_in status.Ok = None
fault_in status.DiskFault = Some fault.DiskFault
fault_in s = Some fault.Memory

-- A line was written, or where the sink failed a front of it that isn't all.
pub record EndsWith (old new : Option (List ℕ)) (line : List ℕ) (before now : ℕ) : Type 0 where
  pub shown : List ℕ
  pub written : new ≡ append_known old shown
  pub whole : HasLine before now [] line shown
