-- Edits of a store, as commands are answered.
use Rattle.std.proofs.Common.{inl, inr, ◌≡◌, ◌⊎◌, ℕ, ℤ, ◌+◌, ◌≤◌, Bool, true, false, cond, List, Option, Some, None, length, refl, ap, sym, subst, ◌∙◌, arith}
use Rattle.std.specs.Prelude.{nat_lt}
use Rattle.mm_command.specs.Replies.{done_text, refused_text}
use Rattle.mm_edit.specs.Plans.{or_full}
use Rattle.mm_host.specs.Facts.Moments.{weakened}
use Rattle.mm_host.specs.Moments.{LeavesAsBefore, LeavesOnly}
use Rattle.mm_image.specs.Image.{image}
use Rattle.mm_keeper.specs.Entries.{Entries, weight_of}
use Rattle.mm_keeper.specs.Keeping.{Seen}
use Rattle.mm_store.specs.Editing.{early_refusal, edit_refusal, edited}
use Rattle.mm_store.specs.declared.edit.Edit.{Edit}
use Rattle.mm_store.specs.declared.edit.Edit.TheVariants.{Load, Insert, Delete, Replace}
use Rattle.mm_tree.specs.Numbering.{Labelled}
use Rattle.mm_tree.specs.Trees.{Trees}
use Rattle.mm_tree.specs.declared.refusal.Refusal.{Refusal}
use Rattle.mm_tree.specs.declared.refusal.Refusal.TheVariants.{Full}
use Rattle.mm_run.specs.Answers.{AnswersEdit}
use Rattle.mm_run.specs.Inside.Carrying.{IsLeft}
use Rattle.mm_run.specs.Steps.{edit_cost, weighed}
use Rattle.mm_run.specs.Stores.{Rests}
use Rattle.mm_run.proofs.Carrying.{OnlyKept, moment_along}

-- ---- replies

pub edit_done : (why : Option Refusal) (label : List ℤ) (count : ℕ) (edited forest : Trees Labelled) (a : List ℤ) (n : ℕ) → why ≡ None → a ≡ label → n ≡ count → AnswersEdit why label count edited forest (done_text a n) edited
edit_done None label count edited forest a n e l c = record { text = ap (λ x. done_text x n) l ∙ ap (done_text label) c; changed = refl }
edit_done (Some r) label count edited forest a n e l c = absurd cc

pub edit_refused : (why : Option Refusal) (label : List ℤ) (count : ℕ) (edited forest : Trees Labelled) (r : Refusal) → why ≡ Some r → AnswersEdit why label count edited forest (refused_text r) forest
edit_refused None label count edited forest r e = absurd cc
edit_refused (Some s) label count edited forest r e = let same : r ≡ s = cc in record { text = ap refused_text same; same = refl }

-- ---- steps

weighed_full : (heavy : Bool) (edited forest : Trees Labelled) → weighed (cond heavy (Some Full) None) edited forest ≡ edited
weighed_full true edited forest = refl
weighed_full false edited forest = refl

weighed_one : (r : Refusal) (P : Trees Labelled → Type 0) (edited forest : Trees Labelled) → P edited → P forest → P (weighed (Some r) edited forest)
weighed_one Full P edited forest e f = e
weighed_one r P edited forest e f = f

within_early : (s s' : ℕ) (forest : Trees Labelled) → s' ≤ s + length (image forest) + 2 → s' ≤ s + edit_cost forest forest
within_early s s' forest h = omega (arith, h)

within_refused : (r : Refusal) (edited forest : Trees Labelled) (s s' : ℕ) → s' ≤ s + edit_cost forest edited → s' ≤ s + length (image forest) + 2 → s' ≤ s + edit_cost forest (weighed (Some r) edited forest)
within_refused r edited forest s s' all early = weighed_one r (λ g. s' ≤ s + edit_cost forest g) edited forest all (within_early s s' forest early)

within_full : (early : Option Refusal) (limit : ℕ) (edited forest : Trees Labelled) (s s' : ℕ) → s' ≤ s + edit_cost forest edited → ((early ≡ None → ⊥) → s' ≤ s + length (image forest) + 2)
    → s' ≤ s + edit_cost forest (weighed (or_full early limit edited) edited forest)
within_full None limit edited forest s s' all few = subst (λ (g : Trees Labelled). s' ≤ s + edit_cost forest g) (sym (weighed_full (nat_lt limit (weight_of (image edited))) edited forest)) all
within_full (Some r) limit edited forest s s' all few = within_refused r edited forest s s' all (few (λ e. absurd cc))

within_one : (early : Option Refusal) (edited forest : Trees Labelled) (s s' : ℕ) → s' ≤ s + edit_cost forest edited → ((early ≡ None → ⊥) → s' ≤ s + length (image forest) + 2)
    → s' ≤ s + edit_cost forest (weighed early edited forest)
within_one None edited forest s s' all few = all
within_one (Some r) edited forest s s' all few = within_refused r edited forest s s' all (few (λ e. absurd cc))

-- an edit's steps, by why it is refused
pub edit_within : (limit : ℕ) (edit : Edit) (forest : Trees Labelled) (s s' : ℕ) → s' ≤ s + edit_cost forest (edited edit forest)
    → ((early_refusal edit forest ≡ None → ⊥) → s' ≤ s + length (image forest) + 2) → s' ≤ s + edit_cost forest (weighed (edit_refusal limit edit forest) (edited edit forest) forest)
edit_within limit (Load t) forest s s' all few = within_full _ limit _ forest s s' all few
edit_within limit (Insert place x t) forest s s' all few = within_full _ limit _ forest s s' all few
edit_within limit (Delete x) forest s s' all few = within_one _ _ forest s s' all few
edit_within limit (Replace x t) forest s s' all few = within_full _ limit _ forest s s' all few

-- ---- crashes

module _ {K S : Type 0} (has_maps is_sound : K → Type 0) (seen : K → Seen S) (is_spent : K → Bool) (moment : K → ℕ) (left_since : K → ℕ → Option Entries → Type 0) where
  -- an edit that is refused leaves the forest, and another one the old or the new
  pub edit_moment : OnlyKept has_maps is_sound seen is_spent moment left_since → (why : Option Refusal) (label : List ℤ) (count : ℕ) (edited forest : Trees Labelled) (old new : K)
      → Rests has_maps seen old forest → is_sound old → is_spent old ≡ false → ((why ≡ None → ⊥) → LeavesAsBefore moment left_since old new)
      → LeavesOnly moment left_since old new (λ m. (m ≡ Some (image forest)) ⊎ (m ≡ Some (image edited)))
      → LeavesOnly moment left_since old new (IsLeft (AnswersEdit why label count edited forest) forest)
  edit_moment only None label count edited forest old new rests sound unspent stays changes = weakened moment left_since old new
      (λ m. (m ≡ Some (image forest)) ⊎ (m ≡ Some (image edited))) (IsLeft (AnswersEdit None label count edited forest) forest) changes (λ m left. elim left [
        | inl e ↦ inl e
        | inr e ↦ inr (done_text label count, edited, record { text = refl; changed = refl }, e)
      ])
  edit_moment only (Some r) label count edited forest old new rests sound unspent stays changes =
      moment_along has_maps is_sound seen is_spent moment left_since only old new forest (IsLeft (AnswersEdit (Some r) label count edited forest) forest) rests sound unspent (inl refl) (stays (λ e. absurd cc))
