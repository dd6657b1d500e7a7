-- What one turn of a run does.
use Rattle.std.specs.Prelude.{◌≡◌, ◌⊎◌, ◌+◌, ◌<◌, ◌≤◌, ℕ, Bool, true, false, List, [], ◌∷◌, ◌++◌, length, take, Result, Ok, Err}
use Rattle.std.specs.declared.option.Option.{Option}
use Rattle.std.specs.Io.KnownBytes.{prepend_known, append_known, IsAtEnd}
use Rattle.mm_keeper.specs.Entries.{Entries}
use Rattle.mm_keeper.specs.Keeping.{Seen}
use Rattle.mm_tree.specs.Numbering.{Labelled}
use Rattle.mm_tree.specs.Trees.{Trees}
use Rattle.mm_run.specs.Answers.{Answers}
use Rattle.mm_run.specs.Commands.{commands, all_commands}
use Rattle.mm_run.specs.Forms.{quits}
use Rattle.mm_run.specs.Steps.{Allows}
use Rattle.mm_run.specs.Stores.{Rests, LeavesNow}
use Rattle.mm_run.specs.declared.command.Command.{Command}
use Rattle.mm_options.specs.declared.options.Options.{Options}
use Rattle.mm_run.specs.declared.status.Status.{Status}
use Rattle.mm_run.specs.declared.status.Status.TheVariants as status
use Rattle.mm_run.specs.declared.status.Went.{Went}
use Rattle.mm_run.specs.declared.status.Went.TheVariants as went

-- ---- inputs

-- An input: its source, the bytes that were taken and not yet cut into commands, how many more may be taken, whether its end or the line `quit` was met, and whether a turn failed.
pub record Reading (S : Type 0) : Type 0 where
  pub source : S
  pub held : List ℕ
  pub room : ℕ
  pub over : Bool
  pub failed : Bool

-- the bytes that are left, where the source tells its own
abbrev pub rest_of : {S : Type 0} → (S → Option (List ℕ)) → Reading S → Option (List ℕ)
rest_of left input = prepend_known input.held (left input.source)

-- how many of them count
abbrev pub reach_of : {S : Type 0} → Reading S → ℕ
reach_of input = length input.held + input.room

-- the commands that are left in an input with these bytes
abbrev pub commands_left : (over : Bool) → (reach : ℕ) → List ℕ → List Command
commands_left true reach bytes = []
commands_left false reach bytes = all_commands reach bytes

-- ---- states

-- What is before a turn, or after it: the bytes left and how many of them count, the bytes written, the forest, and the steps taken.
pub record State : Type 0 where
  pub rest : Option (List ℕ)
  pub reach : ℕ
  pub written : Option (List ℕ)
  pub forest : Trees Labelled
  pub steps : ℕ

-- these bytes went
pub record Moved (old new : State) (got : List ℕ) : Type 0 where
  pub bytes : old.rest ≡ prepend_known got new.rest
  pub count : old.reach ≡ new.reach + length got

-- these bytes went, and nothing else was done
pub record Idles (old new : State) (got : List ℕ) : Type 0 where
  pub moved : Moved old new got
  pub written : new.written ≡ old.written
  pub steps : new.steps ≤ old.steps

-- ---- commands

-- the input ended, before as many bytes as count
abbrev pub IsAtLast : State → Type 0
IsAtLast s = IsAtEnd s.rest × (0 < s.reach)

-- The bytes are this command, whatever follows them; the last one is where the input ends with them.
abbrev pub IsCommand : (last : Bool) → List ℕ → Command → State → Type 0
IsCommand false got command new = (more : List ℕ) (ended : Bool) → commands (got ++ more) ended ≡ command ∷ commands more ended
IsCommand true got command new = (commands got true ≡ command ∷ []) × IsAtLast new

-- A command was read, and at most so many steps were taken as it may take.
pub record Reads (options : Options) (last : Bool) (old new : State) : Type 0 where
  pub got : List ℕ
  pub moved : Moved old new got
  pub command : Command
  pub cut : IsCommand last got command new
  pub spent : ℕ
  pub allowed : Allows options old.forest command spent
  pub steps : new.steps ≤ old.steps + spent

-- A command was read that doesn't end the run, and its reply was written.
pub record Replied (options : Options) (last : Bool) (old new : State) : Type 0 where
  pub read : Reads options last old new
  pub goes_on : quits read.command.form ≡ false
  pub reply : List ℕ
  pub answers : Answers options old.forest read.command reply new.forest
  pub written : new.written ≡ append_known old.written reply

-- no command, or `quit` alone
abbrev pub IsOnlyQuit : List Command → Type 0
IsOnlyQuit [] = Unit {0}
IsOnlyQuit (command ∷ []) = quits command.form ≡ true
IsOnlyQuit (command ∷ (next ∷ commands)) = ⊥

-- The bytes are the line `quit`, after which nothing counts.
abbrev pub IsQuit : List ℕ → Type 0
IsQuit got = (command : Command) × (quits command.form ≡ true) × ((more : List ℕ) (ended : Bool) → commands (got ++ more) ended ≡ command ∷ [])

-- No command was left, or `quit` came. Nothing was written.
pub record Ends (old new : State) : Type 0 where
  pub got : List ℕ
  pub idles : Idles old new got
  pub why : (IsOnlyQuit (commands got true) × IsAtLast new) ⊎ IsQuit got

module _ {K S : Type 0} (has_maps : K → Type 0) (seen : K → Seen S) (moment : K → ℕ) (left_since : K → ℕ → Option Entries → Type 0) (options : Options) where
  -- Of the reply a front was written that isn't all. The store holds the forest after it.
  abbrev pub IsCutShort : Command → (old new : Option (List ℕ)) → Trees Labelled → K → Type 0
  IsCutShort command old new forest keeper =
      (reply : List ℕ) × (after : Trees Labelled) × Answers options forest command reply after × (n : ℕ) × (n < length reply) × (new ≡ append_known old (take n reply)) × Rests has_maps seen keeper after

  -- Nothing was written of the reply, or it was written whole, and then a crash leaves the forest after it.
  abbrev pub BrokeOff : Command → (old new : Option (List ℕ)) → Trees Labelled → K → Type 0
  BrokeOff command old new forest keeper =
      (new ≡ old) ⊎ ((reply : List ℕ) × (after : Trees Labelled) × Answers options forest command reply after × (new ≡ append_known old reply) × LeavesNow moment left_since keeper after)

  -- Why a turn failed, and what it did.
  abbrev pub Fails : (old new : State) → K → Status → Type 0
  Fails old new keeper status.SourceFault = (got : List ℕ) × Idles old new got × (commands got false ≡ []) × Rests has_maps seen keeper old.forest
  Fails old new keeper status.TooMuchInput = (got : List ℕ) × Idles old new got × (commands got false ≡ []) × (new.reach ≡ 0) × Rests has_maps seen keeper old.forest
  Fails old new keeper status.SinkFault = (last : Bool) × (r : Reads options last old new) × IsCutShort r.command old.written new.written old.forest keeper
  Fails old new keeper status.DiskFault = (last : Bool) × (r : Reads options last old new) × BrokeOff r.command old.written new.written old.forest keeper
  Fails old new keeper status.Memory =
      ((got : List ℕ) × Idles old new got × Rests has_maps seen keeper old.forest) ⊎ ((last : Bool) × (r : Reads options last old new) × BrokeOff r.command old.written new.written old.forest keeper)
  Fails old new keeper s = ⊥

  -- What a turn does over a store that holds the forest of the old state. `new` is the state after it, with the forest that the store holds then.
  abbrev pub Turns : (was over : Bool) → (old : State) → (new : Trees Labelled → State) → K → Result Went Status → Type 0
  Turns false over old new keeper (Ok went.Answered) = (after : Trees Labelled) × Rests has_maps seen keeper after × Replied options over old (new after)
  Turns false over old new keeper (Ok went.Ended) = Rests has_maps seen keeper old.forest × (over ≡ true) × Ends old (new old.forest)
  Turns false over old new keeper (Err s) = (over ≡ false) × Fails old (new old.forest) keeper s
  Turns true over old new keeper (Ok went.Answered) = ⊥
  Turns true over old new keeper (Ok went.Ended) = Rests has_maps seen keeper old.forest × (over ≡ true) × Idles old (new old.forest) []
  Turns true over old new keeper (Err s) = ⊥
