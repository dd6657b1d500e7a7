-- How many steps commands may take. A step is a look-up in the ordered map that holds the forest.
use Rattle.std.specs.Prelude.{◌≡◌, ◌⊎◌, ◌≤◌, ℕ, ℤ, ◌+◌, ◌*◌, Bool, true, false, List, [], ◌∷◌, length, Some, None, Result, Ok, Err}
use Rattle.std.specs.declared.option.Option.{Option}
use Rattle.mm_image.specs.Image.{image}
use Rattle.mm_image.specs.Subtrees.{run_of}
use Rattle.mm_label.specs.Label.{IsLabel}
use Rattle.mm_label.specs.Text.{text_of}
use Rattle.mm_words.specs.Words.{query_words}
use Rattle.mm_words.specs.Refusals.{query_refusal}
use Rattle.mm_words.specs.declared.error.QueryError.{QueryError}
use Rattle.mm_tree.specs.declared.plain.Kind.{Kind}
use Rattle.mm_tree.specs.declared.forest.place.Place.{Place}
use Rattle.mm_tree.specs.declared.refusal.Refusal.{Refusal}
use Rattle.mm_tree.specs.declared.refusal.Refusal.TheVariants as refusal
use Rattle.mm_tree.specs.Edits.{delete, delete_refusal}
use Rattle.mm_tree.specs.Elca.{elca}
use Rattle.mm_tree.specs.Numbering.{Labelled}
use Rattle.mm_tree.specs.Search.{worded, lists_of, slca}
use Rattle.mm_tree.specs.Trees.{Trees, Tree}
use Rattle.mm_slca.specs.Bound as slca
use Rattle.mm_elca.specs.Bound as elca
use Rattle.mm_store.specs.Shown.{fragments_cost}
use Rattle.mm_xml.specs.Grammar.{Spells}
use Rattle.mm_command.specs.declared.line.Line.{Line}
use Rattle.mm_command.specs.declared.line.Line.TheVariants as line
use Rattle.mm_command.specs.declared.line.Find.{Find}
use Rattle.mm_command.specs.declared.line.Find.TheVariants as find
use Rattle.mm_run.specs.Forms.{Form}
use Rattle.mm_run.specs.Answers.{Answers, Planned, planned_load, planned_insert, planned_replace, taken}
use Rattle.mm_run.specs.declared.command.Command.{Command}
use Rattle.mm_run.specs.declared.command.Payload.{Payload}
use Rattle.mm_options.specs.declared.options.Options.{Options}
use Rattle.mm_run.specs.declared.status.Status.{Status}
use Rattle.mm_run.specs.declared.status.Status.TheVariants as status

-- ---- searches: a look-up for each move in the lists, one for the name of each hit, and those of the fragments

abbrev pub find_cost : Find → List (List ℕ) → Trees Labelled → ℕ
find_cost find.Slca query forest = slca.cost_of (lists_of query (worded forest)) + length (slca query (worded forest))
find_cost find.Elca query forest = elca.cost_of (lists_of query (worded forest)) + length (elca query (worded forest))
find_cost find.Maxmatch query forest = slca.cost_of (lists_of query (worded forest)) + fragments_cost query forest (slca query (worded forest))
find_cost find.MaxmatchElca query forest = elca.cost_of (lists_of query (worded forest)) + fragments_cost query forest (elca query (worded forest))

-- a search that is refused takes none
abbrev pub unless_refused : Option QueryError → ℕ → ℕ
unless_refused None n = n
unless_refused (Some e) n = 0

abbrev pub search_cost : Find → List ℕ → Trees Labelled → ℕ
search_cost find text forest = unless_refused (query_refusal (query_words text)) (find_cost find (query_words text) forest)

-- ---- nodes: one, and one for each entry of the run of chunks from the node's first on

abbrev pub node_cost : List ℤ → Trees Labelled → ℕ
node_cost x forest = 1 + length (run_of x (image forest))

-- ---- edits: eight for each entry of the image before and of the one after, and eight

abbrev pub edit_cost : (before after : Trees Labelled) → ℕ
edit_cost before after = 8 * (length (image before) + length (image after) + 1)

-- the second of them: where the edit is refused it is the first, but the one that it would have given where that is too heavy
abbrev pub weighed : Option Refusal → (edited forest : Trees Labelled) → Trees Labelled
weighed None edited forest = edited
weighed (Some refusal.Full) edited forest = edited
weighed (Some r) edited forest = forest

-- the target is looked at where the payload spells no tree that could be put there
abbrev pub AllowsBytes : (look : ℕ) → Planned → List ℕ → Trees Labelled → ℕ → Type 0
AllowsBytes look plan bytes forest n =
    (n ≤ look) ⊎ ((t : Tree Kind) × Spells bytes t × (n ≤ edit_cost forest (weighed (plan.refusal t) (plan.edited t) forest)))

-- none where the text is no label's
abbrev pub AllowsLabel : List ℕ → (List ℤ → Type 0) → ℕ → Type 0
AllowsLabel text Allowed n = (n ≡ 0) ⊎ ((x : List ℤ) × IsLabel x × (text_of x ≡ text) × Allowed x)

-- none where the payload can't be taken
abbrev pub AllowsTaken : Result (List ℕ) Refusal → (List ℕ → Type 0) → ℕ → Type 0
AllowsTaken (Err r) Allowed n = n ≡ 0
AllowsTaken (Ok bytes) Allowed n = Allowed bytes

abbrev pub AllowsLoad : Options → Payload → Trees Labelled → ℕ → Type 0
AllowsLoad options payload forest n = AllowsTaken (taken options payload) (λ bytes. AllowsBytes 0 (planned_load options forest) bytes forest n) n

abbrev pub AllowsInsert : Options → Place → List ℕ → Payload → Trees Labelled → ℕ → Type 0
AllowsInsert options place text payload forest n = AllowsTaken (taken options payload)
    (λ bytes. AllowsLabel text (λ x. AllowsBytes (node_cost x forest) (planned_insert options place x forest) bytes forest n) n) n

abbrev pub AllowsReplace : Options → List ℕ → Payload → Trees Labelled → ℕ → Type 0
AllowsReplace options text payload forest n = AllowsTaken (taken options payload)
    (λ bytes. AllowsLabel text (λ x. AllowsBytes (node_cost x forest) (planned_replace options x forest) bytes forest n) n) n

abbrev pub AllowsUnlocked : Bool → Type 0 → ℕ → Type 0
AllowsUnlocked true Allowed n = n ≡ 0
AllowsUnlocked false Allowed n = Allowed

abbrev pub AllowsDelete : Options → List ℕ → Trees Labelled → ℕ → Type 0
AllowsDelete options text forest n = AllowsUnlocked options.read_only
    (AllowsLabel text (λ x. n ≤ edit_cost forest (weighed (delete_refusal x forest) (delete x forest) forest)) n) n

abbrev pub AllowsShow : List ℕ → Trees Labelled → ℕ → Type 0
AllowsShow text forest n = AllowsLabel text (λ x. n ≤ node_cost x forest) n

-- ---- a check: each entry, and two more

abbrev pub check_cost : Trees Labelled → ℕ
check_cost forest = length (image forest) + 2

-- ---- lines

abbrev pub AllowsLine : Options → Line → Payload → Trees Labelled → ℕ → Type 0
AllowsLine options line.Blank payload forest n = n ≡ 0
AllowsLine options line.Load payload forest n = AllowsLoad options payload forest n
AllowsLine options (line.Insert place label) payload forest n = AllowsInsert options place label payload forest n
AllowsLine options (line.Delete label) payload forest n = AllowsDelete options label forest n
AllowsLine options (line.Replace label) payload forest n = AllowsReplace options label payload forest n
AllowsLine options (line.Search find text) payload forest n = n ≤ search_cost find text forest
AllowsLine options (line.Show label) payload forest n = AllowsShow label forest n
AllowsLine options line.Check payload forest n = n ≤ check_cost forest
AllowsLine options line.Quit payload forest n = n ≡ 0

abbrev pub AllowsForm : Options → Form → Payload → Trees Labelled → ℕ → Type 0
AllowsForm options None payload forest n = n ≡ 0
AllowsForm options (Some line) payload forest n = AllowsLine options line payload forest n

-- a command may take so many steps in a forest
unfoldable pub Allows : Options → Trees Labelled → Command → ℕ → Type 0
Allows options forest command n = AllowsForm options command.form command.payload forest n

-- Commands are answered one after the other, and may take so many steps together.
abbrev pub Costs : Options → Trees Labelled → List Command → Trees Labelled → ℕ → Type 0
Costs options forest [] after n = (after ≡ forest) × (n ≡ 0)
Costs options forest (command ∷ commands) after n =
    (reply : List ℕ) × (next : Trees Labelled) × (k m : ℕ) × Answers options forest command reply next × Allows options forest command k × Costs options next commands after m × (n ≡ k + m)

-- the next command may take so many, if there is one
abbrev pub AllowsNext : Options → Trees Labelled → List Command → ℕ → Type 0
AllowsNext options forest [] n = n ≡ 0
AllowsNext options forest (command ∷ commands) n = Allows options forest command n

-- of the next command, where memory ran out or the disk failed: it was at work then
abbrev pub AllowsUnfinished : Options → Status → Trees Labelled → List Command → ℕ → Type 0
AllowsUnfinished options status.Memory after others n = (n ≡ 0) ⊎ AllowsNext options after others n
AllowsUnfinished options status.DiskFault after others n = (n ≡ 0) ⊎ AllowsNext options after others n
AllowsUnfinished options s after others n = n ≡ 0
