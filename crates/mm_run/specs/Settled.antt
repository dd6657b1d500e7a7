-- Whether a command has a reply: what its readers settle.
use Rattle.std.specs.Prelude.{◌≡◌, ◌⊎◌, ℕ, ℤ, List, []}
use Rattle.std.specs.declared.option.Option.TheVariants.{Some, None}
use Rattle.mm_label.specs.Label.{IsLabel}
use Rattle.mm_label.specs.Text.{text_of, IsNoLabelText}
use Rattle.mm_tree.specs.Trees.{Trees, Tree}
use Rattle.mm_tree.specs.Numbering.{Labelled}
use Rattle.mm_tree.specs.declared.plain.Kind.{Kind}
use Rattle.mm_xml.specs.Grammar.{Spells}
use Rattle.mm_command.specs.declared.line.Line.{Line}
use Rattle.mm_command.specs.declared.line.Line.TheVariants.{Blank, Load, Insert, Delete, Replace, Search, Show, Check, Quit}
use Rattle.mm_run.specs.declared.command.Command.{Command}
use Rattle.mm_run.specs.declared.command.Payload.{Payload}
use Rattle.mm_run.specs.declared.command.Payload.TheVariants.{Nothing, Cut, Long, Whole}
use Rattle.mm_options.specs.declared.options.Options.{Options}
use Rattle.mm_run.specs.Forms.{Form}
use Rattle.mm_run.specs.Answers.{Answers}

-- the bytes spell a tree, or they spell none
abbrev pub IsTreeOrNone : List ℕ → Type 0
IsTreeOrNone bytes = ((t : Tree Kind) × Spells bytes t) ⊎ ((t : Tree Kind) → ¬ Spells bytes t)

-- the text is a label's, or it is no label's
abbrev pub IsLabelOrNone : List ℕ → Type 0
IsLabelOrNone text = ((x : List ℤ) × IsLabel x × (text_of x ≡ text)) ⊎ IsNoLabelText text

-- the bytes of a payload, if there are any
abbrev pub bytes_in : Payload → List ℕ
bytes_in Nothing = []
bytes_in Cut = []
bytes_in Long = []
bytes_in (Whole bytes) = bytes

-- the word of a line that is to be a label's text, if there is one
abbrev pub label_in : Line → List ℕ
label_in Blank = []
label_in Load = []
label_in (Insert place text) = text
label_in (Delete text) = text
label_in (Replace text) = text
label_in (Search find text) = []
label_in (Show text) = text
label_in Check = []
label_in Quit = []

abbrev pub label_asked : Form → List ℕ
label_asked None = []
label_asked (Some line) = label_in line

-- the command has a reply in the forest, and leaves a forest
abbrev pub HasReply : Options → Trees Labelled → Command → Type 0
HasReply options forest command = (reply : List ℕ) × (after : Trees Labelled) × Answers options forest command reply after
