-- What edits with a payload are answered.
use Rattle.std.proofs.Common.{◌≡◌, ℕ, ℤ, ◌≤◌, ◌<◌, Bool, true, false, List, refl, inl, inr, Option, Some, None, not, ◌&&◌, ap, sym, ◌∙◌, subst, cond, le-leb}
use Rattle.std.proofs.lemmas.Bool.{lt-leb}
use Rattle.mm_edit.specs.Plans.{or_full}
use Rattle.std.specs.Bool.{IsTrue}
use Rattle.mm_store.specs.Editing.{IsValidEdit, edit_refusal, edited, edited_label, edited_nodes}
use Rattle.mm_tree.specs.declared.plain.Kind.{Kind}
use Rattle.mm_tree.specs.declared.plain.Plain.{Plain}
use Rattle.mm_tree.specs.declared.refusal.Refusal.{Refusal}
use Rattle.mm_tree.specs.declared.refusal.Refusal.TheVariants.{Absent, Leaf, Xml, Deep}
use Rattle.mm_tree.specs.Trees.{Trees, Tree, one, nodes, levels, tree_of}
use Rattle.mm_tree.specs.Numbering.{Labelled}
use Rattle.mm_tree.specs.Edits.{found, has_node, is_inside, is_text_node}
use Rattle.mm_tree.specs.Validity.{is_valid_tree}
use Rattle.mm_xml.specs.Grammar.{Spells}
use Rattle.mm_run.specs.declared.editing.TreeEdit.{TreeEdit}
use Rattle.mm_run.specs.declared.editing.TreeEdit.TheVariants.{Load, Insert, Replace}
use Rattle.mm_options.specs.declared.options.Options.{Options}
use Rattle.mm_run.specs.Answers.{Planned, first_cause, tree_refusal, AnswersEdit, AnswersBytes, RefusesFirst}
use Rattle.mm_run.specs.Inside.Edits.{look_cost, planned, with_tree}
use Rattle.mm_run.specs.Steps.{AllowsBytes, edit_cost, weighed}

-- the target's causes come first in a tree's refusal already
twice-absent : (absent : Bool) (why : Option Refusal) (limit : ℕ) (after : Trees Labelled)
    → first_cause (cond absent (Some Absent) None) (or_full (cond absent (Some Absent) why) limit after) ≡ or_full (cond absent (Some Absent) why) limit after
twice-absent true why limit after = refl
twice-absent false why limit after = refl

twice : (absent leaf : Bool) (why : Option Refusal) (limit : ℕ) (after : Trees Labelled)
    → first_cause (cond absent (Some Absent) (cond leaf (Some Leaf) None)) (or_full (cond absent (Some Absent) (cond leaf (Some Leaf) why)) limit after)
    ≡ or_full (cond absent (Some Absent) (cond leaf (Some Leaf) why)) limit after
twice true leaf why limit after = refl
twice false true why limit after = refl
twice false false why limit after = refl

target-first : (options : Options) (edit : TreeEdit) (forest : Trees Labelled) (t : Tree Kind)
    → first_cause (planned options edit forest).target ((planned options edit forest).refusal t) ≡ (planned options edit forest).refusal t
target-first options Load forest t = refl
target-first options (Insert place x) forest t = twice (not (has_node x forest)) (is_inside place && is_text_node (found x forest)) _ options.limit _
target-first options (Replace x) forest t = twice-absent (not (has_node x forest)) _ options.limit _

shallow-refusal : (options : Options) (edit : TreeEdit) (forest : Trees Labelled) (t : Tree Kind) → levels (one t) ≤ 200 → tree_refusal (planned options edit forest) t ≡ (planned options edit forest).refusal t
shallow-refusal options edit forest t shallow =
    ap (λ b. first_cause (planned options edit forest).target (cond b ((planned options edit forest).refusal t) (Some Deep))) (le-leb (levels (one t)) 200 shallow) ∙ target-first options edit forest t

-- the edit with its tree is as it was planned
as-planned : (options : Options) (edit : TreeEdit) (tree : Plain) (forest after : Trees Labelled) (reply : List ℕ)
    → AnswersEdit (edit_refusal options.limit (with_tree edit tree) forest) (edited_label (with_tree edit tree) forest) (edited_nodes (with_tree edit tree) forest) (edited (with_tree edit tree) forest) forest reply after
    → AnswersEdit ((planned options edit forest).refusal (tree_of tree)) (planned options edit forest).label (nodes (one (tree_of tree))) ((planned options edit forest).edited (tree_of tree)) forest reply after
as-planned options Load tree forest after reply h = h
as-planned options (Insert place x) tree forest after reply h = h
as-planned options (Replace x) tree forest after reply h = h

costs-planned : (options : Options) (edit : TreeEdit) (tree : Plain) (forest : Trees Labelled) (n : ℕ)
    → n ≤ edit_cost forest (weighed (edit_refusal options.limit (with_tree edit tree) forest) (edited (with_tree edit tree) forest) forest)
    → n ≤ edit_cost forest (weighed ((planned options edit forest).refusal (tree_of tree)) ((planned options edit forest).edited (tree_of tree)) forest)
costs-planned options Load tree forest n h = h
costs-planned options (Insert place x) tree forest n h = h
costs-planned options (Replace x) tree forest n h = h

-- bytes that spell a tree
pub spelled : (options : Options) (limit : ℕ) (edit : TreeEdit) (tree : Plain) (forest : Trees Labelled) (bytes : List ℕ) → options.limit ≡ limit → Spells bytes (tree_of tree) → levels (one (tree_of tree)) ≤ 200
    → (reply : List ℕ) (after : Trees Labelled)
    → AnswersEdit (edit_refusal limit (with_tree edit tree) forest) (edited_label (with_tree edit tree) forest) (edited_nodes (with_tree edit tree) forest) (edited (with_tree edit tree) forest) forest reply after
    → AnswersBytes (planned options edit forest) bytes forest reply after
spelled options limit edit tree forest bytes e spells shallow reply after answers = inl (
  tree_of tree,
  spells,
  subst (λ (o : Option Refusal). AnswersEdit o (planned options edit forest).label (nodes (one (tree_of tree))) ((planned options edit forest).edited (tree_of tree)) forest reply after)
      (sym (shallow-refusal options edit forest (tree_of tree) shallow))
      (as-planned options edit tree forest after reply (subst (λ (n : ℕ). AnswersEdit (edit_refusal n (with_tree edit tree) forest) (edited_label (with_tree edit tree) forest) (edited_nodes (with_tree edit tree) forest) (edited (with_tree edit tree) forest) forest reply after) (sym e) answers)),
)

pub spelled-allows : (options : Options) (limit : ℕ) (edit : TreeEdit) (tree : Plain) (forest : Trees Labelled) (bytes : List ℕ) → options.limit ≡ limit → Spells bytes (tree_of tree) → (n : ℕ)
    → n ≤ edit_cost forest (weighed (edit_refusal limit (with_tree edit tree) forest) (edited (with_tree edit tree) forest) forest)
    → AllowsBytes (look_cost edit forest) (planned options edit forest) bytes forest n
spelled-allows options limit edit tree forest bytes e spells n h = inr (
  tree_of tree,
  spells,
  costs-planned options edit tree forest n
      (subst (λ (k : ℕ). n ≤ edit_cost forest (weighed (edit_refusal k (with_tree edit tree) forest) (edited (with_tree edit tree) forest) forest)) (sym e) h),
)

-- bytes that spell none
pub unspelled : (plan : Planned) (forest : Trees Labelled) (bytes : List ℕ) → ((t : Tree Kind) → ¬ Spells bytes t) → (reply : List ℕ) (after : Trees Labelled)
    → RefusesFirst plan.target Xml forest reply after → AnswersBytes plan bytes forest reply after
unspelled plan forest bytes none reply after refused = inr (none, refused)

deep-refusal : (why : Option Refusal) (label : List ℤ) (count : ℕ) (edited forest : Trees Labelled) (reply : List ℕ) (after : Trees Labelled)
    → RefusesFirst why Deep forest reply after → AnswersEdit (first_cause why (Some Deep)) label count edited forest reply after
deep-refusal None label count edited forest reply after refused = refused
deep-refusal (Some why) label count edited forest reply after refused = refused

-- bytes that spell a tree of too many levels
pub spelled-deep : (plan : Planned) (forest : Trees Labelled) (bytes : List ℕ) → ((t : Tree Kind) × Spells bytes t × (200 < levels (one t))) → (reply : List ℕ) (after : Trees Labelled)
    → RefusesFirst plan.target Deep forest reply after → AnswersBytes plan bytes forest reply after
spelled-deep plan forest bytes (t, spells, deep) reply after refused = inl (
  t,
  spells,
  subst (λ (b : Bool). AnswersEdit (first_cause plan.target (cond b (plan.refusal t) (Some Deep))) plan.label (nodes (one t)) (plan.edited t) forest reply after) (sym (lt-leb (levels (one t)) 200 deep))
      (deep-refusal plan.target plan.label (nodes (one t)) (plan.edited t) forest reply after refused),
)

-- looking at the target is allowed
pub looked : (look : ℕ) (plan : Planned) (bytes : List ℕ) (forest : Trees Labelled) (n : ℕ) → n ≤ look → AllowsBytes look plan bytes forest n
looked look plan bytes forest n h = inl h

pub valid_with : (edit : TreeEdit) (tree : Plain) → IsTrue (is_valid_tree (tree_of tree)) → IsValidEdit (with_tree edit tree)
valid_with Load tree h = h
valid_with (Insert place x) tree h = h
valid_with (Replace x) tree h = h
