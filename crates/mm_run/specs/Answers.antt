-- What commands are answered, and the forests after them.
use Rattle.std.specs.Prelude.{◌≡◌, ℕ, ℤ, Bool, true, false, if◌then◌else◌, ◌&&◌, not, nat_le, List, [], ◌∷◌, ◌++◌, Some, None, Result, Ok, Err, ◌⊎◌}
use Rattle.std.specs.declared.option.Option.{Option}
use Rattle.mm_label.specs.Label.{IsLabel}
use Rattle.mm_label.specs.Text.{text_of, IsNoLabelText}
use Rattle.mm_words.specs.Words.{query_words}
use Rattle.mm_words.specs.Refusals.{query_refusal}
use Rattle.mm_words.specs.declared.error.QueryError.{QueryError}
use Rattle.mm_words.specs.declared.error.QueryError.TheVariants as query
use Rattle.mm_tree.specs.declared.plain.Kind.{Kind}
use Rattle.mm_tree.specs.declared.forest.place.Place.{Place}
use Rattle.mm_tree.specs.declared.refusal.Refusal.{Refusal}
use Rattle.mm_tree.specs.declared.refusal.Refusal.TheVariants as refusal
use Rattle.mm_tree.specs.Trees.{Trees, Tree, one, nodes, levels}
use Rattle.mm_tree.specs.Numbering.{Labelled}
use Rattle.mm_tree.specs.Forests.{next_label, load, load_refusal, level_limit}
use Rattle.mm_tree.specs.Edits.{found, has_node, is_inside, is_text_node, subtree_size, inserted_label, insert, insert_refusal, delete, delete_refusal, replace, replace_refusal}
use Rattle.mm_tree.specs.Search.{worded, slca}
use Rattle.mm_tree.specs.Elca.{elca}
use Rattle.mm_tree.specs.Hits.{hits_of}
use Rattle.mm_edit.specs.Plans.{or_full}
use Rattle.mm_fragment.specs.Showing.{fragments_of}
use Rattle.mm_xml.specs.Grammar.{Spells}
use Rattle.mm_command.specs.declared.line.Line.{Line}
use Rattle.mm_command.specs.declared.line.Line.TheVariants as line
use Rattle.mm_command.specs.declared.line.Find.{Find}
use Rattle.mm_command.specs.declared.line.Find.TheVariants as find
use Rattle.mm_command.specs.Replies.{refused_text, done_text, hits_text, fragments_text, sound_text, tree_text, shown_count}
use Rattle.mm_run.specs.Forms.{Form}
use Rattle.mm_run.specs.declared.command.Command.{Command}
use Rattle.mm_run.specs.declared.command.Payload.{Payload}
use Rattle.mm_options.specs.declared.options.Options.{Options}
use Rattle.mm_run.specs.declared.command.Payload.TheVariants as payload

-- a command is refused: its reply says so, and the forest stays as it was
pub record Refuses (forest : Trees Labelled) (r : Refusal) (reply : List ℕ) (after : Trees Labelled) : Type 0 where
  pub text : reply ≡ refused_text r
  pub same : after ≡ forest

-- a command is answered, and the forest stays as it was
pub record Shows (forest : Trees Labelled) (answer : List ℕ) (reply : List ℕ) (after : Trees Labelled) : Type 0 where
  pub text : reply ≡ answer
  pub same : after ≡ forest

-- an edit is carried out: its reply tells the label and the number of nodes of its subtree
pub record Edits (label : List ℤ) (count : ℕ) (edited : Trees Labelled) (reply : List ℕ) (after : Trees Labelled) : Type 0 where
  pub text : reply ≡ done_text label count
  pub changed : after ≡ edited

-- ---- edits

-- an edit is refused where there is a cause, and else carried out
abbrev pub AnswersEdit : Option Refusal → List ℤ → ℕ → Trees Labelled → Trees Labelled → List ℕ → Trees Labelled → Type 0
AnswersEdit None label count edited forest reply after = Edits label count edited reply after
AnswersEdit (Some r) label count edited forest reply after = Refuses forest r reply after

-- What an edit with a payload would do in a forest.
pub record Planned : Type 0 where
  -- why it is refused whatever tree the payload spells
  pub target : Option Refusal
  -- why it is refused with a tree
  pub refusal : Tree Kind → Option Refusal
  -- the label that the tree's root would get
  pub label : List ℤ
  -- the forest with the tree
  pub edited : Tree Kind → Trees Labelled

-- the first of two causes
abbrev pub first_cause : Option Refusal → Option Refusal → Option Refusal
first_cause None second = second
first_cause (Some r) second = Some r

-- with a tree: it has too many levels, or what the forest says
abbrev pub tree_refusal : Planned → Tree Kind → Option Refusal
tree_refusal plan t = first_cause plan.target (if nat_le (levels (one t)) level_limit then plan.refusal t else Some refusal.Deep)

abbrev pub RefusesFirst : Option Refusal → Refusal → Trees Labelled → List ℕ → Trees Labelled → Type 0
RefusesFirst None other forest reply after = Refuses forest other reply after
RefusesFirst (Some r) other forest reply after = Refuses forest r reply after

-- What an edit with these bytes is answered: they spell a tree, or they spell none.
abbrev pub AnswersBytes : Planned → List ℕ → Trees Labelled → List ℕ → Trees Labelled → Type 0
AnswersBytes plan bytes forest reply after =
    ((t : Tree Kind) × Spells bytes t × AnswersEdit (tree_refusal plan t) plan.label (nodes (one t)) (plan.edited t) forest reply after)
    ⊎ (((t : Tree Kind) → ¬ Spells bytes t) × RefusesFirst plan.target refusal.Xml forest reply after)

abbrev pub planned_load : Options → Trees Labelled → Planned
planned_load options forest = record {
  target = None;
  refusal = λ t. or_full (load_refusal t forest) options.limit (load t forest);
  label = next_label forest;
  edited = λ t. load t forest;
}

-- no node has the label, or a text would get a child
abbrev pub target_refusal : Place → List ℤ → Trees Labelled → Option Refusal
target_refusal place x forest =
    if not (has_node x forest) then Some refusal.Absent else (if is_inside place && is_text_node (found x forest) then Some refusal.Leaf else None)

abbrev pub planned_insert : Options → Place → List ℤ → Trees Labelled → Planned
planned_insert options place x forest = record {
  target = target_refusal place x forest;
  refusal = λ t. or_full (insert_refusal place x t forest) options.limit (insert place x t forest);
  label = inserted_label place x forest;
  edited = λ t. insert place x t forest;
}

abbrev pub planned_replace : Options → List ℤ → Trees Labelled → Planned
planned_replace options x forest = record {
  target = delete_refusal x forest;
  refusal = λ t. or_full (replace_refusal x t forest) options.limit (replace x t forest);
  label = x;
  edited = λ t. replace x t forest;
}

-- ---- labels of command lines

-- The text is that of a label, or of none.
abbrev pub AnswersLabel : List ℕ → (List ℤ → Type 0) → Type 0 → Type 0
AnswersLabel text Answered Refused = ((x : List ℤ) × IsLabel x × (text_of x ≡ text) × Answered x) ⊎ (IsNoLabelText text × Refused)

-- ---- lines

-- the bytes of an edit's payload, or why it is refused whatever they are
abbrev pub taken : Options → Payload → Result (List ℕ) Refusal
taken options payload.Nothing = Err refusal.Command
taken options payload.Cut = Err refusal.Command
taken options payload.Long = Err refusal.Size
taken options (payload.Whole bytes) = if options.read_only then Err refusal.Readonly else Ok bytes

abbrev pub AnswersTaken : Result (List ℕ) Refusal → (List ℕ → Type 0) → Trees Labelled → List ℕ → Trees Labelled → Type 0
AnswersTaken (Err r) Answered forest reply after = Refuses forest r reply after
AnswersTaken (Ok bytes) Answered forest reply after = Answered bytes

abbrev pub AnswersLoad : Options → Payload → Trees Labelled → List ℕ → Trees Labelled → Type 0
AnswersLoad options payload forest reply after = AnswersTaken (taken options payload) (λ bytes. AnswersBytes (planned_load options forest) bytes forest reply after) forest reply after

abbrev pub AnswersInsert : Options → Place → List ℕ → Payload → Trees Labelled → List ℕ → Trees Labelled → Type 0
AnswersInsert options place text payload forest reply after = AnswersTaken (taken options payload)
    (λ bytes. AnswersLabel text (λ x. AnswersBytes (planned_insert options place x forest) bytes forest reply after) (Refuses forest refusal.Label reply after)) forest reply after

abbrev pub AnswersReplace : Options → List ℕ → Payload → Trees Labelled → List ℕ → Trees Labelled → Type 0
AnswersReplace options text payload forest reply after = AnswersTaken (taken options payload)
    (λ bytes. AnswersLabel text (λ x. AnswersBytes (planned_replace options x forest) bytes forest reply after) (Refuses forest refusal.Label reply after)) forest reply after

-- an edit is refused where edits are
abbrev pub AnswersUnlocked : Bool → Type 0 → Trees Labelled → List ℕ → Trees Labelled → Type 0
AnswersUnlocked true Answered forest reply after = Refuses forest refusal.Readonly reply after
AnswersUnlocked false Answered forest reply after = Answered

abbrev pub AnswersDelete : Options → List ℕ → Trees Labelled → List ℕ → Trees Labelled → Type 0
AnswersDelete options text forest reply after = AnswersUnlocked options.read_only
    (AnswersLabel text (λ x. AnswersEdit (delete_refusal x forest) x (shown_count (subtree_size x forest)) (delete x forest) forest reply after) (Refuses forest refusal.Label reply after)) forest reply after

abbrev pub AnswersFound : Option (Tree Labelled) → Trees Labelled → List ℕ → Trees Labelled → Type 0
AnswersFound None forest reply after = Refuses forest refusal.Absent reply after
AnswersFound (Some t) forest reply after = Shows forest (tree_text t) reply after

abbrev pub AnswersShow : List ℕ → Trees Labelled → List ℕ → Trees Labelled → Type 0
AnswersShow text forest reply after = AnswersLabel text (λ x. AnswersFound (found x forest) forest reply after) (Refuses forest refusal.Label reply after)

-- the labels of the nodes that a search finds, or whose fragments it finds
abbrev pub roots : Find → List (List ℕ) → Trees Labelled → List (List ℤ)
roots find.Slca query forest = slca query (worded forest)
roots find.Elca query forest = elca query (worded forest)
roots find.Maxmatch query forest = slca query (worded forest)
roots find.MaxmatchElca query forest = elca query (worded forest)

-- what a search finds: nodes, or fragments of nodes
abbrev pub found_text : Find → List (List ℕ) → Trees Labelled → List (List ℤ) → List ℕ
found_text find.Slca query forest labels = hits_text (hits_of forest labels)
found_text find.Elca query forest labels = hits_text (hits_of forest labels)
found_text find.Maxmatch query forest labels = fragments_text (fragments_of query forest labels)
found_text find.MaxmatchElca query forest labels = fragments_text (fragments_of query forest labels)

-- A search whose words are a query, or aren't.
abbrev pub AnswersQuery : Option QueryError → List ℕ → Trees Labelled → List ℕ → Trees Labelled → Type 0
AnswersQuery None text forest reply after = Shows forest text reply after
AnswersQuery (Some query.NoWords) text forest reply after = Refuses forest refusal.Words reply after
AnswersQuery (Some (query.TooMany found)) text forest reply after = Refuses forest refusal.Many reply after
AnswersQuery (Some (query.TooLong bytes)) text forest reply after = Refuses forest refusal.Long reply after
AnswersQuery (Some query.Memory) text forest reply after = ⊥

abbrev pub AnswersSearch : Find → List ℕ → Trees Labelled → List ℕ → Trees Labelled → Type 0
AnswersSearch find text forest reply after =
    AnswersQuery (query_refusal (query_words text)) (found_text find (query_words text) forest (roots find (query_words text) forest)) forest reply after

-- What a line with its payload is answered.
abbrev pub AnswersLine : Options → Line → Payload → Trees Labelled → List ℕ → Trees Labelled → Type 0
AnswersLine options line.Blank payload forest reply after = Shows forest [] reply after
AnswersLine options line.Load payload forest reply after = AnswersLoad options payload forest reply after
AnswersLine options (line.Insert place label) payload forest reply after = AnswersInsert options place label payload forest reply after
AnswersLine options (line.Delete label) payload forest reply after = AnswersDelete options label forest reply after
AnswersLine options (line.Replace label) payload forest reply after = AnswersReplace options label payload forest reply after
AnswersLine options (line.Search find text) payload forest reply after = AnswersSearch find text forest reply after
AnswersLine options (line.Show label) payload forest reply after = AnswersShow label forest reply after
AnswersLine options line.Check payload forest reply after = Shows forest (sound_text (nodes forest)) reply after
AnswersLine options line.Quit payload forest reply after = Shows forest [] reply after

abbrev pub AnswersForm : Options → Form → Payload → Trees Labelled → List ℕ → Trees Labelled → Type 0
AnswersForm options None payload forest reply after = Refuses forest refusal.Command reply after
AnswersForm options (Some line) payload forest reply after = AnswersLine options line payload forest reply after

-- What a command is answered in a forest, and the forest after it.
unfoldable pub Answers : Options → Trees Labelled → Command → List ℕ → Trees Labelled → Type 0
Answers options forest command reply after = AnswersForm options command.form command.payload forest reply after

-- What commands are answered, one after the other, and the forest after them all.
abbrev pub Replies : Options → Trees Labelled → List Command → List ℕ → Trees Labelled → Type 0
Replies options forest [] replies after = (replies ≡ []) × (after ≡ forest)
Replies options forest (command ∷ commands) replies after =
    (reply rest : List ℕ) × (next : Trees Labelled) × Answers options forest command reply next × Replies options next commands rest after × (replies ≡ reply ++ rest)
