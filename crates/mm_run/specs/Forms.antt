-- What a command line asks for, and what follows it.
use Rattle.std.specs.Prelude.{ℕ, Bool, true, false, List}
use Rattle.std.specs.declared.option.Option.{Option}
use Rattle.std.specs.declared.option.Option.TheVariants.{Some, None}
use Rattle.mm_command.specs.declared.line.Line.{Line}
use Rattle.mm_command.specs.declared.line.Line.TheVariants.{Blank, Load, Insert, Delete, Replace, Search, Show, Check, Quit}
use Rattle.mm_command.specs.Lines.{line_of}

-- what a line asks for, or None where it is in no form
abbrev pub Form : Type 0
Form = Option Line

abbrev pub form_of : List ℕ → Form
form_of = line_of

-- a payload follows the line
abbrev pub has_payload : Line → Bool
has_payload Blank = false
has_payload Load = true
has_payload (Insert place label) = true
has_payload (Delete label) = false
has_payload (Replace label) = true
has_payload (Search find text) = false
has_payload (Show label) = false
has_payload Check = false
has_payload Quit = false

abbrev pub takes_payload : Form → Bool
takes_payload None = false
takes_payload (Some line) = has_payload line

-- the line ends the run
abbrev pub ends_run : Line → Bool
ends_run Blank = false
ends_run Load = false
ends_run (Insert place label) = false
ends_run (Delete label) = false
ends_run (Replace label) = false
ends_run (Search find text) = false
ends_run (Show label) = false
ends_run Check = false
ends_run Quit = true

abbrev pub quits : Form → Bool
quits None = false
quits (Some line) = ends_run line
