-- What reading lines and commands does.
use Rattle.std.specs.Prelude.{◌≡◌, ℕ, ◌+◌, ◌<◌, ◌≤◌, Bool, true, false, if◌then◌else◌, List, [], ◌∷◌, ◌++◌, length, take, Result, Ok, Err, None}
use Rattle.std.specs.declared.option.Option.{Option}
use Rattle.std.specs.Io.KnownBytes.{IsAtEnd}
use Rattle.mm_host.specs.Causes.{next_count}
use Rattle.mm_run.specs.declared.command.Command.{Command}
use Rattle.mm_run.specs.declared.command.Payload.{Payload}
use Rattle.mm_run.specs.declared.command.Payload.TheVariants.{Nothing, Cut}
use Rattle.mm_run.specs.declared.line.Ending.{Ending}
use Rattle.mm_run.specs.declared.line.Ending.TheVariants as ending
use Rattle.mm_run.specs.declared.line.ReadError.{ReadError}
use Rattle.mm_run.specs.declared.line.ReadError.TheVariants.{Source, Memory}
use Rattle.mm_run.specs.declared.payload.Row.{Row}
use Rattle.mm_run.specs.declared.payload.Row.TheVariants as row
use Rattle.mm_run.specs.declared.reading.Next.{Next}
use Rattle.mm_run.specs.declared.reading.Next.TheVariants as next
use Rattle.mm_run.specs.Lines.{lines, HasNoLineFeed}
use Rattle.mm_run.specs.Forms.{form_of, quits, takes_payload}
use Rattle.mm_run.specs.Payloads.{closes, unstopped}
use Rattle.mm_run.specs.Commands.{Begun, grouped}
use Rattle.mm_run.specs.Inside.Input.{Went}

-- how often the source has failed after a call, of how often before: once more only where its fault is the answer
abbrev pub faults_after : {T : Type 0} → Result T ReadError → ℕ → ℕ
faults_after (Ok x) n = n
faults_after (Err Source) n = next_count n
faults_after (Err Memory) n = n

-- bytes went
pub record WentSome (before after : Option (List ℕ)) (n m : ℕ) : Type 0 where
  pub got : List ℕ
  pub went : Went before after n m got

-- bytes without a line feed went
pub record WentPart (before after : Option (List ℕ)) (n m : ℕ) : Type 0 where
  pub got : List ℕ
  pub went : Went before after n m got
  pub part : HasNoLineFeed got

-- a line stands behind a text, as far as that has at most so many bytes
pub record KeepsLine (text text' : List ℕ) (limit : ℕ) (line : List ℕ) : Type 0 where
  pub part : HasNoLineFeed line
  pub kept : text' ≡ take limit (text ++ line)

-- What a call for a line does.
abbrev pub GivesLine : (before after : Option (List ℕ)) (n m : ℕ) (text text' : List ℕ) (limit : ℕ) → Result Ending ReadError → Type 0
GivesLine before after n m text text' limit (Ok ending.Feed) = (line : List ℕ) × Went before after n m (line ++ 10 ∷ []) × KeepsLine text text' limit line
GivesLine before after n m text text' limit (Ok ending.Input) = (line : List ℕ) × Went before after n m line × KeepsLine text text' limit line × IsAtEnd after × (0 < m)
GivesLine before after n m text text' limit (Ok ending.Full) = WentPart before after n m × (m ≡ 0)
GivesLine before after n m text text' limit (Err Source) = WentPart before after n m
GivesLine before after n m text text' limit (Err Memory) = WentSome before after n m

-- A line of a payload went, which closes the payload or doesn't.
pub record WentRow (before after : Option (List ℕ)) (n m : ℕ) (closing : Bool) : Type 0 where
  pub row : List ℕ
  pub went : Went before after n m (row ++ 10 ∷ [])
  pub part : HasNoLineFeed row
  pub is_closing : closes row ≡ closing

-- The same of a line that the end of the input ends.
pub record WentLastRow (before after : Option (List ℕ)) (n m : ℕ) (closing : Bool) : Type 0 where
  pub row : List ℕ
  pub went : Went before after n m row
  pub part : HasNoLineFeed row
  pub is_closing : closes row ≡ closing
  pub end : IsAtEnd after
  pub few : 0 < m

-- A payload with a line got its line feed, or passes the limit.
abbrev pub EndsRow : (payload payload' : List ℕ) (limit : ℕ) → Bool → Type 0
EndsRow payload payload' limit true = (length payload ≤ limit) × (payload' ≡ payload ++ 10 ∷ [])
EndsRow payload payload' limit false = limit < length payload

-- What a call for a line of a payload does.
abbrev pub GivesRow : (before after : Option (List ℕ)) (n m : ℕ) (payload payload' : List ℕ) (limit : ℕ) → Result Row ReadError → Type 0
GivesRow before after n m payload payload' limit (Ok row.Added) =
    (w : WentRow before after n m false) × (payload' ≡ payload ++ (unstopped w.row ++ 10 ∷ [])) × (length payload' ≤ limit + 1)
GivesRow before after n m payload payload' limit (Ok row.Over) = (w : WentRow before after n m false) × (limit < length payload + length (unstopped w.row))
GivesRow before after n m payload payload' limit (Ok row.Closed) = WentRow before after n m true × (payload' ≡ payload)
GivesRow before after n m payload payload' limit (Ok row.LastClosed) = WentLastRow before after n m true × (payload' ≡ payload)
GivesRow before after n m payload payload' limit (Ok row.Cut) = WentLastRow before after n m false
GivesRow before after n m payload payload' limit (Ok row.Full) = WentPart before after n m × (m ≡ 0)
GivesRow before after n m payload payload' limit (Err Source) = WentPart before after n m
GivesRow before after n m payload payload' limit (Err Memory) = WentSome before after n m

-- Whatever follows these bytes, they are these commands.
pub record Cuts (start : Option Begun) (got : List ℕ) (cut : List Command) : Type 0 where
  pub each : (more : List ℕ) (ended : Bool) → grouped start ended (lines (got ++ more) ended) ≡ cut ++ grouped None ended (lines more ended)

-- A command was cut.
pub record WentCommand (start : Option Begun) (before after : Option (List ℕ)) (n m : ℕ) (command : Command) : Type 0 where
  pub got : List ℕ
  pub went : Went before after n m got
  pub some : 0 < length got
  pub cuts : Cuts start got (command ∷ [])

-- The last commands were cut, which the end of the input ends.
pub record WentLast (start : Option Begun) (before after : Option (List ℕ)) (n m : ℕ) (cut : List Command) : Type 0 where
  pub got : List ℕ
  pub went : Went before after n m got
  pub last : grouped start true (lines got true) ≡ cut
  pub end : IsAtEnd after
  pub few : 0 < m

-- The line that ends the run was cut.
pub record WentQuit (start : Option Begun) (before after : Option (List ℕ)) (n m : ℕ) : Type 0 where
  pub got : List ℕ
  pub went : Went before after n m got
  pub command : Command
  pub quit : quits command.form ≡ true
  pub each : (more : List ℕ) (ended : Bool) → grouped start ended (lines (got ++ more) ended) ≡ command ∷ []

-- Bytes went that are no whole command.
pub record WentRest (start : Option Begun) (before after : Option (List ℕ)) (n m : ℕ) : Type 0 where
  pub got : List ℕ
  pub went : Went before after n m got
  pub none : grouped start false (lines got false) ≡ []

-- What a call for a command does.
abbrev pub GivesNext : Option Begun → Option (List ℕ) → Option (List ℕ) → ℕ → ℕ → Result Next ReadError → Type 0
GivesNext start before after n m (Ok (next.Command command)) = WentCommand start before after n m command × (quits command.form ≡ false)
GivesNext start before after n m (Ok (next.Last command)) = WentLast start before after n m (command ∷ [])
GivesNext start before after n m (Ok next.Quit) = WentQuit start before after n m
GivesNext start before after n m (Ok next.End) = WentLast start before after n m []
GivesNext start before after n m (Ok next.Full) = WentRest start before after n m × (m ≡ 0)
GivesNext start before after n m (Err Source) = WentRest start before after n m
GivesNext start before after n m (Err Memory) = WentSome before after n m

-- what has a line that the end of the input ends
abbrev pub last_payload : Bool → Payload
last_payload takes = if takes then Cut else Nothing

-- What a line is that the end of the input ends.
abbrev pub IsLast : List ℕ → Next → Type 0
IsLast line next.End = line ≡ []
IsLast line (next.Last command) =
    (0 < length line) × (command ≡ record { form = form_of line; payload = last_payload (takes_payload (form_of line)) })
IsLast line next.Quit = ⊥
IsLast line (next.Command command) = ⊥
IsLast line next.Full = ⊥
