-- The commands of an input.
use Rattle.std.specs.Prelude.{◌≡◌, ◌⊎◌, ℕ, Bool, true, false, if◌then◌else◌, nat_lt, List, [], ◌∷◌, ◌++◌, length, take, Some, None}
use Rattle.std.specs.declared.option.Option.{Option}
use Rattle.mm_run.specs.declared.command.Command.{Command}
use Rattle.mm_run.specs.declared.command.Payload.TheVariants.{Nothing, Cut}
use Rattle.mm_run.specs.Lines.{lines}
use Rattle.mm_run.specs.Forms.{Form, form_of, takes_payload, quits}
use Rattle.mm_run.specs.Payloads.{closes, payload_of}

-- a command whose payload has begun, and the payload's lines so far
pub record Begun : Type 0 where
  pub form : Form
  pub rows : List (List ℕ)

-- The commands that lines spell. Nothing after the line that ends the run counts.
abbrev pub grouped : Option Begun → Bool → List (List ℕ) → List Command
grouped None ended [] = []
grouped (Some begun) ended [] = if ended then record { form = begun.form; payload = Cut } ∷ [] else []
grouped None ended (line ∷ lines) =
    if quits (form_of line) then record { form = form_of line; payload = Nothing } ∷ []
    else if takes_payload (form_of line) then grouped (Some (record { form = form_of line; rows = [] })) ended lines
    else record { form = form_of line; payload = Nothing } ∷ grouped None ended lines
grouped (Some begun) ended (line ∷ lines) =
    if closes line then record { form = begun.form; payload = payload_of begun.rows } ∷ grouped None ended lines
    else grouped (Some (record { form = begun.form; rows = begun.rows ++ line ∷ [] })) ended lines

-- The commands in these bytes. Where the input isn't ended, a line or a payload without its end is no command yet.
abbrev pub commands : List ℕ → Bool → List Command
commands bytes ended = grouped None ended (lines bytes ended)

-- The commands of an input of which only so many bytes count.
abbrev pub all_commands : ℕ → List ℕ → List Command
all_commands reach bytes = commands (take reach bytes) (nat_lt (length bytes) reach)

-- one of these ends the run
abbrev pub HasQuit : List Command → Type 0
HasQuit [] = ⊥
HasQuit (command ∷ commands) = (quits command.form ≡ true) ⊎ HasQuit commands

-- none of these ends the run
abbrev pub HasNoQuit : List Command → Type 0
HasNoQuit [] = Unit {0}
HasNoQuit (command ∷ commands) = (quits command.form ≡ false) × HasNoQuit commands
