-- Commands have at most one list of replies.
use Rattle.std.proofs.Common.{◌≡◌, ℕ, ℤ, Bool, true, false, List, [], ◌∷◌, ◌++◌, Option, None, Some, Result, Ok, Err, ap, sym, subst, ◌∙◌, ⊎_elim}
use Rattle.mm_tree.specs.declared.plain.Kind.{Kind}
use Rattle.mm_tree.specs.declared.refusal.Refusal.{Refusal}
use Rattle.mm_tree.specs.Trees.{Trees, Tree, one, nodes}
use Rattle.mm_tree.specs.Numbering.{Labelled}
use Rattle.mm_xml.specs.Grammar.{Spells}
use Rattle.mm_run.specs.declared.command.Command.{Command}
use Rattle.mm_command.specs.declared.line.Line.{Line}
use Rattle.mm_command.specs.declared.line.Line.TheVariants as line
use Rattle.mm_run.specs.Forms.{Form}
use Rattle.mm_run.specs.declared.command.Payload.{Payload}
use Rattle.mm_options.specs.declared.options.Options.{Options}
use Rattle.mm_run.specs.Answers.{Refuses, Shows, AnswersEdit, RefusesFirst, Planned, planned_load, planned_insert, planned_replace, tree_refusal, taken, AnswersTaken, AnswersUnlocked, AnswersBytes, AnswersLabel, AnswersLoad, AnswersInsert, AnswersReplace, AnswersDelete, AnswersFound, AnswersShow, roots, found_text, AnswersQuery, AnswersLine, AnswersForm, Answers, Replies}
use Rattle.mm_label.specs.Label.{IsLabel}
use Rattle.mm_label.specs.Text.{text_of}
use Rattle.mm_words.specs.Words.{query_words}
use Rattle.mm_words.specs.Refusals.{query_refusal}
use Rattle.mm_words.specs.declared.error.QueryError.{QueryError}
use Rattle.mm_words.specs.declared.error.QueryError.TheVariants as query
use Rattle.mm_tree.specs.declared.forest.place.Place.{Place}
use Rattle.mm_tree.specs.declared.refusal.Refusal.TheVariants as refusal
use Rattle.mm_tree.specs.Edits.{found, subtree_size, delete, delete_refusal}
use Rattle.mm_command.specs.Replies.{shown_count}

-- both of two answers are one
abbrev Same : (r s : List ℕ) (f g : Trees Labelled) → Type 0
Same r s f g = (r ≡ s) × (f ≡ g)

refuses-once : {forest f g : Trees Labelled} {why : Refusal} {r s : List ℕ} → Refuses forest why r f → Refuses forest why s g → Same r s f g
refuses-once a b = (a.text ∙ sym b.text, a.same ∙ sym b.same)

shows-once : {forest f g : Trees Labelled} {answer r s : List ℕ} → Shows forest answer r f → Shows forest answer s g → Same r s f g
shows-once a b = (a.text ∙ sym b.text, a.same ∙ sym b.same)

edit-once : (why : Option Refusal) (label : List ℤ) (count : ℕ) (edited forest : Trees Labelled) (r s : List ℕ) (f g : Trees Labelled)
    → AnswersEdit why label count edited forest r f → AnswersEdit why label count edited forest s g → Same r s f g
edit-once None label count edited forest r s f g a b = (a.text ∙ sym b.text, a.changed ∙ sym b.changed)
edit-once (Some why) label count edited forest r s f g a b = refuses-once a b

first-once : (why : Option Refusal) (other : Refusal) (forest : Trees Labelled) (r s : List ℕ) (f g : Trees Labelled) → RefusesFirst why other forest r f → RefusesFirst why other forest s g → Same r s f g
first-once None other forest r s f g a b = refuses-once a b
first-once (Some why) other forest r s f g a b = refuses-once a b

found-once : (found : Option (Tree Labelled)) (forest : Trees Labelled) (r s : List ℕ) (f g : Trees Labelled) → AnswersFound found forest r f → AnswersFound found forest s g → Same r s f g
found-once None forest r s f g a b = refuses-once a b
found-once (Some t) forest r s f g a b = shows-once a b

query-once : (why : Option QueryError) (text : List ℕ) (forest : Trees Labelled) (r s : List ℕ) (f g : Trees Labelled) → AnswersQuery why text forest r f → AnswersQuery why text forest s g → Same r s f g
query-once None text forest r s f g a b = shows-once a b
query-once (Some query.NoWords) text forest r s f g a b = refuses-once a b
query-once (Some (query.TooMany found)) text forest r s f g a b = refuses-once a b
query-once (Some (query.TooLong bytes)) text forest r s f g a b = refuses-once a b
query-once (Some query.Memory) text forest r s f g a b = absurd a

module _ (one_tree : (bytes : List ℕ) (t u : Tree Kind) → Spells bytes t → Spells bytes u → t ≡ u)
    (one_text : (a b : List ℤ) → IsLabel a → IsLabel b → text_of a ≡ text_of b → a ≡ b) where
  bytes-once : (plan : Planned) (bytes : List ℕ) (forest : Trees Labelled) (r s : List ℕ) (f g : Trees Labelled) → AnswersBytes plan bytes forest r f → AnswersBytes plan bytes forest s g → Same r s f g
  bytes-once plan bytes forest r s f g first second = ⊎_elim
      (λ a. ⊎_elim
      (λ b. edit-once (tree_refusal plan a.0) plan.label (nodes (one a.0)) (plan.edited a.0) forest r s f g a.2
      (subst (λ (t : Tree Kind). AnswersEdit (tree_refusal plan t) plan.label (nodes (one t)) (plan.edited t) forest s g) (one_tree bytes b.0 a.0 b.1 a.1) b.2))
      (λ b. absurd (b.0 a.0 a.1))
      second)
      (λ a. ⊎_elim (λ b. absurd (a.0 b.0 b.1)) (λ b. first-once plan.target refusal.Xml forest r s f g a.1 b.1) second)
      first

  -- a text is that of one label at most, so what is said of its label is said of one
  label-once : (text : List ℕ) (Answered : List ℤ → List ℕ → Trees Labelled → Type 0) (forest : Trees Labelled) (r s : List ℕ) (f g : Trees Labelled)
      → ((x : List ℤ) → Answered x r f → Answered x s g → Same r s f g)
      → AnswersLabel text (λ x. Answered x r f) (Refuses forest refusal.Label r f) → AnswersLabel text (λ x. Answered x s g) (Refuses forest refusal.Label s g) → Same r s f g
  label-once text Answered forest r s f g once first second = ⊎_elim
      (λ a. ⊎_elim
      (λ b. once a.0 a.3 (subst (λ (x : List ℤ). Answered x s g) (one_text b.0 a.0 b.1 a.1 (b.2 ∙ sym a.2)) b.3))
      (λ b. absurd (b.0 a.0 a.1 a.2))
      second)
      (λ a. ⊎_elim (λ b. absurd (a.0 b.0 b.1 b.2)) (λ b. refuses-once a.1 b.1) second)
      first

  taken-once : (t : Result (List ℕ) Refusal) (Answered : List ℕ → List ℕ → Trees Labelled → Type 0) (forest : Trees Labelled) (r s : List ℕ) (f g : Trees Labelled)
      → ((bytes : List ℕ) → Answered bytes r f → Answered bytes s g → Same r s f g)
      → AnswersTaken t (λ bytes. Answered bytes r f) forest r f → AnswersTaken t (λ bytes. Answered bytes s g) forest s g → Same r s f g
  taken-once (Ok bytes) Answered forest r s f g once a b = once bytes a b
  taken-once (Err why) Answered forest r s f g once a b = refuses-once a b

  load-once : (options : Options) (p : Payload) (forest : Trees Labelled) (r s : List ℕ) (f g : Trees Labelled) → AnswersLoad options p forest r f → AnswersLoad options p forest s g → Same r s f g
  load-once options p forest r s f g a b =
      taken-once (taken options p) (λ bytes. AnswersBytes (planned_load options forest) bytes forest) forest r s f g (λ bytes. bytes-once (planned_load options forest) bytes forest r s f g) a b

  insert-once : (options : Options) (place : Place) (text : List ℕ) (p : Payload) (forest : Trees Labelled) (r s : List ℕ) (f g : Trees Labelled)
      → AnswersInsert options place text p forest r f → AnswersInsert options place text p forest s g → Same r s f g
  insert-once options place text p forest r s f g a b =
      taken-once (taken options p) (λ bytes t h. AnswersLabel text (λ x. AnswersBytes (planned_insert options place x forest) bytes forest t h) (Refuses forest refusal.Label t h)) forest r s f g
      (λ bytes. label-once text (λ x t h. AnswersBytes (planned_insert options place x forest) bytes forest t h) forest r s f g (λ x. bytes-once (planned_insert options place x forest) bytes forest r s f g)) a b

  replace-once : (options : Options) (text : List ℕ) (p : Payload) (forest : Trees Labelled) (r s : List ℕ) (f g : Trees Labelled)
      → AnswersReplace options text p forest r f → AnswersReplace options text p forest s g → Same r s f g
  replace-once options text p forest r s f g a b =
      taken-once (taken options p) (λ bytes t h. AnswersLabel text (λ x. AnswersBytes (planned_replace options x forest) bytes forest t h) (Refuses forest refusal.Label t h)) forest r s f g
      (λ bytes. label-once text (λ x t h. AnswersBytes (planned_replace options x forest) bytes forest t h) forest r s f g (λ x. bytes-once (planned_replace options x forest) bytes forest r s f g)) a b

  unlocked-once : (locked : Bool) (Answered : List ℕ → Trees Labelled → Type 0) (forest : Trees Labelled) (r s : List ℕ) (f g : Trees Labelled) → (Answered r f → Answered s g → Same r s f g)
      → AnswersUnlocked locked (Answered r f) forest r f → AnswersUnlocked locked (Answered s g) forest s g → Same r s f g
  unlocked-once true Answered forest r s f g once a b = refuses-once a b
  unlocked-once false Answered forest r s f g once a b = once a b

  delete-once : (options : Options) (text : List ℕ) (forest : Trees Labelled) (r s : List ℕ) (f g : Trees Labelled) → AnswersDelete options text forest r f → AnswersDelete options text forest s g → Same r s f g
  delete-once options text forest r s f g a b =
      unlocked-once options.read_only (λ t h. AnswersLabel text (λ x. AnswersEdit (delete_refusal x forest) x (shown_count (subtree_size x forest)) (delete x forest) forest t h) (Refuses forest refusal.Label t h)) forest r s f g
      (label-once text (λ x t h. AnswersEdit (delete_refusal x forest) x (shown_count (subtree_size x forest)) (delete x forest) forest t h) forest r s f g
      (λ x. edit-once (delete_refusal x forest) x (shown_count (subtree_size x forest)) (delete x forest) forest r s f g)) a b

  show-once : (text : List ℕ) (forest : Trees Labelled) (r s : List ℕ) (f g : Trees Labelled) → AnswersShow text forest r f → AnswersShow text forest s g → Same r s f g
  show-once text forest r s f g a b = label-once text (λ x t h. AnswersFound (found x forest) forest t h) forest r s f g (λ x. found-once (found x forest) forest r s f g) a b

  line-once : (options : Options) (l : Line) (p : Payload) (forest : Trees Labelled) (r s : List ℕ) (f g : Trees Labelled) → AnswersLine options l p forest r f → AnswersLine options l p forest s g → Same r s f g
  line-once options line.Blank p forest r s f g a b = shows-once a b
  line-once options line.Load p forest r s f g a b = load-once options p forest r s f g a b
  line-once options (line.Insert place label) p forest r s f g a b = insert-once options place label p forest r s f g a b
  line-once options (line.Delete label) p forest r s f g a b = delete-once options label forest r s f g a b
  line-once options (line.Replace label) p forest r s f g a b = replace-once options label p forest r s f g a b
  line-once options (line.Search find text) p forest r s f g a b = query-once (query_refusal (query_words text)) (found_text find (query_words text) forest (roots find (query_words text) forest)) forest r s f g a b
  line-once options (line.Show label) p forest r s f g a b = show-once label forest r s f g a b
  line-once options line.Check p forest r s f g a b = shows-once a b
  line-once options line.Quit p forest r s f g a b = shows-once a b

  form-once : (options : Options) (w : Form) (p : Payload) (forest : Trees Labelled) (r s : List ℕ) (f g : Trees Labelled) → AnswersForm options w p forest r f → AnswersForm options w p forest s g → Same r s f g
  form-once options None p forest r s f g a b = refuses-once a b
  form-once options (Some l) p forest r s f g a b = line-once options l p forest r s f g a b

  answer-once : (options : Options) (forest : Trees Labelled) (command : Command) (r s : List ℕ) (f g : Trees Labelled) → Answers options forest command r f → Answers options forest command s g → Same r s f g
  unfolding Answers
  answer-once options forest command r s f g a b = form-once options command.form command.payload forest r s f g a b

  pub replies-once : (options : Options) (forest : Trees Labelled) (commands : List Command) (r s : List ℕ) (f g : Trees Labelled) → Replies options forest commands r f → Replies options forest commands s g → Same r s f g
  replies-once options forest [] r s f g a b = (a.0 ∙ sym b.0, a.1 ∙ sym b.1)
  replies-once options forest (command ∷ commands) r s f g a b =
      let one = answer-once options forest command a.0 b.0 a.2 b.2 a.3 b.3 in
      let more = replies-once options a.2 commands a.1 b.1 f g a.4 (subst (λ (next : Trees Labelled). Replies options next commands b.1 g) (sym one.1) b.4) in
      (a.5 ∙ ap (λ l. l ++ a.1) one.0 ∙ ap (λ l. b.0 ++ l) more.0 ∙ sym b.5, more.1)
