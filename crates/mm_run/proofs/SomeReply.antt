-- Each command has a reply.
use Rattle.std.proofs.Common.{◌≡◌, ℕ, ℤ, Bool, true, false, cond, List, [], ◌∷◌, length, Option, None, Some, Result, Ok, Err, option_map, refl, inl, inr, ⊎_elim, subst}
use Rattle.std.specs.Prelude.{nat_lt}
use Rattle.mm_tree.specs.declared.refusal.Refusal.{Refusal}
use Rattle.mm_tree.specs.Trees.{Trees, Tree, one, nodes}
use Rattle.mm_tree.specs.Numbering.{Labelled}
use Rattle.mm_run.specs.declared.command.Command.{Command}
use Rattle.mm_command.specs.declared.line.Line.{Line}
use Rattle.mm_command.specs.declared.line.Line.TheVariants as line
use Rattle.mm_run.specs.Forms.{Form}
use Rattle.mm_run.specs.declared.command.Payload.{Payload}
use Rattle.mm_options.specs.declared.options.Options.{Options}
use Rattle.mm_run.specs.declared.command.Payload.TheVariants as payload
use Rattle.mm_run.specs.Answers.{Refuses, Shows, AnswersEdit, RefusesFirst, Planned, planned_load, planned_insert, planned_replace, tree_refusal, AnswersBytes, AnswersLabel, taken, AnswersTaken, AnswersUnlocked, AnswersLoad, AnswersInsert, AnswersReplace, AnswersDelete, AnswersFound, roots, found_text, AnswersQuery, AnswersLine, AnswersForm, Answers}
use Rattle.mm_run.specs.Settled.{IsTreeOrNone, IsLabelOrNone, HasReply, bytes_in, label_in, label_asked}
use Rattle.mm_words.specs.Words.{query_words}
use Rattle.mm_words.specs.Refusals.{query_refusal, first_long}
use Rattle.mm_words.specs.declared.error.QueryError.{QueryError}
use Rattle.mm_words.specs.declared.error.QueryError.TheVariants as query
use Rattle.mm_tree.specs.declared.forest.place.Place.{Place}
use Rattle.mm_tree.specs.declared.refusal.Refusal.TheVariants as refusal
use Rattle.mm_tree.specs.Edits.{found, subtree_size, delete, delete_refusal}
use Rattle.mm_command.specs.Replies.{refused_text, done_text, sound_text, tree_text, shown_count}

-- some reply and some forest after are answers
abbrev Has : (List ℕ → Trees Labelled → Type 0) → Type 0
Has Answered = (reply : List ℕ) × (after : Trees Labelled) × Answered reply after

refused : (forest : Trees Labelled) (why : Refusal) → Has (Refuses forest why)
refused forest why = (refused_text why, forest, record { text = refl; same = refl })

shown : (forest : Trees Labelled) (answer : List ℕ) → Has (Shows forest answer)
shown forest answer = (answer, forest, record { text = refl; same = refl })

edited : (why : Option Refusal) (label : List ℤ) (count : ℕ) (changed forest : Trees Labelled) → Has (AnswersEdit why label count changed forest)
edited None label count changed forest = (done_text label count, changed, record { text = refl; changed = refl })
edited (Some why) label count changed forest = refused forest why

refused-first : (why : Option Refusal) (other : Refusal) (forest : Trees Labelled) → Has (RefusesFirst why other forest)
refused-first None other forest = refused forest other
refused-first (Some why) other forest = refused forest why

shown-found : (at : Option (Tree Labelled)) (forest : Trees Labelled) → Has (AnswersFound at forest)
shown-found None forest = refused forest refusal.Absent
shown-found (Some t) forest = shown forest (tree_text t)

-- why words are no query is never that memory ran out
no-memory : (many : Bool) (n : ℕ) (long : Option ℕ) → ◌≡◌ {A = Option QueryError} (cond many (Some (query.TooMany n)) (option_map query.TooLong long)) (Some query.Memory) → ⊥
no-memory true n long e = cc
no-memory false n None e = cc
no-memory false n (Some m) e = cc

refusal-known : (ws : List (List ℕ)) → query_refusal ws ≡ Some query.Memory → ⊥
refusal-known [] e = cc
refusal-known (w ∷ ws) e = no-memory (nat_lt 32 (length (w ∷ ws))) (length (w ∷ ws)) (first_long (w ∷ ws)) e

searched : (why : Option QueryError) (text : List ℕ) (forest : Trees Labelled) → (why ≡ Some query.Memory → ⊥) → Has (AnswersQuery why text forest)
searched None text forest known = shown forest text
searched (Some query.NoWords) text forest known = refused forest refusal.Words
searched (Some (query.TooMany n)) text forest known = refused forest refusal.Many
searched (Some (query.TooLong n)) text forest known = refused forest refusal.Long
searched (Some query.Memory) text forest known = absurd (known refl)

with-bytes : (plan : Planned) (bytes : List ℕ) (forest : Trees Labelled) → IsTreeOrNone bytes → Has (AnswersBytes plan bytes forest)
with-bytes plan bytes forest = ⊎_elim
    (λ h. let e = edited (tree_refusal plan h.0) plan.label (nodes (one h.0)) (plan.edited h.0) forest in (e.0, e.1, inl (h.0, h.1, e.2)))
    (λ h. let r = refused-first plan.target refusal.Xml forest in (r.0, r.1, inr (h, r.2)))

with-label : (text : List ℕ) (Answered : List ℤ → List ℕ → Trees Labelled → Type 0) (forest : Trees Labelled) → ((x : List ℤ) → Has (Answered x)) → IsLabelOrNone text
    → Has (λ reply after. AnswersLabel text (λ x. Answered x reply after) (Refuses forest refusal.Label reply after))
with-label text Answered forest each = ⊎_elim
    (λ h. let e = each h.0 in (e.0, e.1, inl (h.0, h.1, h.2, e.2)))
    (λ h. let r = refused forest refusal.Label in (r.0, r.1, inr (h, r.2)))

with-taken : (t : Result (List ℕ) Refusal) (Answered : List ℕ → List ℕ → Trees Labelled → Type 0) (forest : Trees Labelled) → ((bytes : List ℕ) → t ≡ Ok bytes → Has (Answered bytes))
    → Has (λ reply after. AnswersTaken t (λ bytes. Answered bytes reply after) forest reply after)
with-taken (Ok bytes) Answered forest each = each bytes refl
with-taken (Err r) Answered forest each = refused forest r

whole-bytes : (locked : Bool) (all bytes : List ℕ) → ◌≡◌ {A = Result (List ℕ) Refusal} (cond locked (Err refusal.Readonly) (Ok all)) (Ok bytes) → IsTreeOrNone all → IsTreeOrNone bytes
whole-bytes true all bytes e tree = absurd cc
whole-bytes false all bytes e tree = let same : all ≡ bytes = cc in subst IsTreeOrNone same tree

-- what is taken of a payload are its bytes
taken-bytes : (options : Options) (p : Payload) (bytes : List ℕ) → taken options p ≡ Ok bytes → IsTreeOrNone (bytes_in p) → IsTreeOrNone bytes
taken-bytes options payload.Nothing bytes e tree = absurd cc
taken-bytes options payload.Cut bytes e tree = absurd cc
taken-bytes options payload.Long bytes e tree = absurd cc
taken-bytes options (payload.Whole all) bytes e tree = whole-bytes options.read_only all bytes e tree

loaded : (options : Options) (p : Payload) (forest : Trees Labelled) → IsTreeOrNone (bytes_in p) → Has (AnswersLoad options p forest)
loaded options p forest tree =
    with-taken (taken options p) (λ bytes. AnswersBytes (planned_load options forest) bytes forest) forest
    (λ bytes e. with-bytes (planned_load options forest) bytes forest (taken-bytes options p bytes e tree))

inserted : (options : Options) (place : Place) (text : List ℕ) (p : Payload) (forest : Trees Labelled) → IsTreeOrNone (bytes_in p) → IsLabelOrNone text → Has (AnswersInsert options place text p forest)
inserted options place text p forest tree label =
    with-taken (taken options p) (λ bytes reply after. AnswersLabel text (λ x. AnswersBytes (planned_insert options place x forest) bytes forest reply after) (Refuses forest refusal.Label reply after)) forest
    (λ bytes e. with-label text (λ x. AnswersBytes (planned_insert options place x forest) bytes forest) forest (λ x. with-bytes (planned_insert options place x forest) bytes forest (taken-bytes options p bytes e tree)) label)

replaced : (options : Options) (text : List ℕ) (p : Payload) (forest : Trees Labelled) → IsTreeOrNone (bytes_in p) → IsLabelOrNone text → Has (AnswersReplace options text p forest)
replaced options text p forest tree label =
    with-taken (taken options p) (λ bytes reply after. AnswersLabel text (λ x. AnswersBytes (planned_replace options x forest) bytes forest reply after) (Refuses forest refusal.Label reply after)) forest
    (λ bytes e. with-label text (λ x. AnswersBytes (planned_replace options x forest) bytes forest) forest (λ x. with-bytes (planned_replace options x forest) bytes forest (taken-bytes options p bytes e tree)) label)

unlocked : (locked : Bool) (Answered : List ℕ → Trees Labelled → Type 0) (forest : Trees Labelled) → Has Answered → Has (λ reply after. AnswersUnlocked locked (Answered reply after) forest reply after)
unlocked true Answered forest each = refused forest refusal.Readonly
unlocked false Answered forest each = each

deleted : (options : Options) (text : List ℕ) (forest : Trees Labelled) → IsLabelOrNone text → Has (AnswersDelete options text forest)
deleted options text forest label =
    unlocked options.read_only (λ reply after. AnswersLabel text (λ x. AnswersEdit (delete_refusal x forest) x (shown_count (subtree_size x forest)) (delete x forest) forest reply after) (Refuses forest refusal.Label reply after)) forest
    (with-label text (λ x. AnswersEdit (delete_refusal x forest) x (shown_count (subtree_size x forest)) (delete x forest) forest) forest
    (λ x. edited (delete_refusal x forest) x (shown_count (subtree_size x forest)) (delete x forest) forest) label)

of-line : (options : Options) (l : Line) (p : Payload) (forest : Trees Labelled) → IsTreeOrNone (bytes_in p) → IsLabelOrNone (label_in l) → Has (AnswersLine options l p forest)
of-line options line.Blank p forest tree label = shown forest []
of-line options line.Load p forest tree label = loaded options p forest tree
of-line options (line.Insert place text) p forest tree label = inserted options place text p forest tree label
of-line options (line.Delete text) p forest tree label = deleted options text forest label
of-line options (line.Replace text) p forest tree label = replaced options text p forest tree label
of-line options (line.Search find text) p forest tree label =
    searched (query_refusal (query_words text)) (found_text find (query_words text) forest (roots find (query_words text) forest)) forest (refusal-known (query_words text))
of-line options (line.Show text) p forest tree label = with-label text (λ x. AnswersFound (found x forest) forest) forest (λ x. shown-found (found x forest) forest) label
of-line options line.Check p forest tree label = shown forest (sound_text (nodes forest))
of-line options line.Quit p forest tree label = shown forest []

of-form : (options : Options) (f : Form) (p : Payload) (forest : Trees Labelled) → IsTreeOrNone (bytes_in p) → IsLabelOrNone (label_asked f) → Has (AnswersForm options f p forest)
of-form options None p forest tree label = refused forest refusal.Command
of-form options (Some l) p forest tree label = of-line options l p forest tree label

pub replied : (options : Options) (forest : Trees Labelled) (command : Command) → IsTreeOrNone (bytes_in command.payload) → IsLabelOrNone (label_asked command.form) → HasReply options forest command
unfolding Answers
replied options forest command = of-form options command.form command.payload forest

-- none is without either, so none is without a reply
tree_settled : (bytes : List ℕ) → (IsTreeOrNone bytes → ⊥) → ⊥
tree_settled bytes never = never (inr (λ t s. never (inl (t, s))))

label_settled : (text : List ℕ) → (IsLabelOrNone text → ⊥) → ⊥
label_settled text never = never (inr (λ x is e. never (inl (x, is, e))))

pub never_without : (options : Options) (forest : Trees Labelled) (command : Command) → (HasReply options forest command → ⊥) → ⊥
never_without options forest command never =
    tree_settled (bytes_in command.payload) (λ tree. label_settled (label_asked command.form) (λ label. never (replied options forest command tree label)))
