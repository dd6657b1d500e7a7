-- The entries of a map in order, as marks.
use Rattle.std.proofs.Common.{inl, inr, ◌≡◌, ℕ, zero, suc, ◌<◌, List, [], ◌∷◌, refl, ap, sym, subst, ◌∙◌, Some, None, length, arith}
use Rattle.std.specs.Prelude.{slice_index_or, ◌↔◌}
use Rattle.std.specs.BTreeMap.{BTreeMap, keys}
use Rattle.std.specs.List.{Contains}
use Rattle.std.specs.List.Sorted.{IsStrictlySortedBy}
use Rattle.std.specs.Map.{keys_of}
use Rattle.std.specs.Ordering.{int_cmp}
use Rattle.std.specs.Cmp.{int_cmp_total}
use Rattle.std.specs.Cmp.Lexicographic.{slice_cmp, lists_total}
use Rattle.std.proofs.lemmas.Map.Views.{btree_map_get_iff}
use Rattle.mm_match.specs.declared.mark.Mark.{Mark}
use Rattle.mm_label.specs.Fronts.{Label, Within, Ascends}
use Rattle.mm_match.specs.Marks.{IsOnPath, labels, mask_at}
use Rattle.mm_match.specs.Inside.Passing.{gathered, marks_of, mask_in}
use Rattle.mm_label.specs.Facts.Places.{sorted_ascends}
use Rattle.mm_match.proofs.Ties.{exact_label}
use Rattle.mm_match.proofs.PathFacts.{gathered_met, gathered_path}

labels_keys : (es : List (Label × ℕ)) → labels (marks_of es) ≡ keys_of es
labels_keys [] = refl
labels_keys (e ∷ es) = ap (λ (r : List Label). e.0 ∷ r) (labels_keys es)

pub ascends : (masks : BTreeMap Label ℕ) → IsStrictlySortedBy (slice_cmp int_cmp) (keys masks) → Ascends (labels (marks_of masks.entries))
ascends masks s = subst Ascends (sym (labels_keys masks.entries)) (sorted_ascends (keys masks) s)

label_in : (x : Label) (es : List (Label × ℕ)) → Within x (labels (marks_of es)) → (n : ℕ) × Contains es (x, n)
label_in x [] w = absurd w
label_in x (e ∷ es) w = elim w [
  | inl h ↦ (e.1, (0, omega arith, ap (λ (z : Label). (z, e.1)) (sym h)))
  | inr h ↦ let t = label_in x es h in (t.0, (suc t.1.0, omega (arith, t.1.1), t.1.2))
]

mark_in : (m : Mark) (es : List (Label × ℕ)) → Within m (marks_of es) → Contains es (m.label, m.mask)
mark_in m [] w = absurd w
mark_in m (e ∷ es) w = elim w [
  | inl h ↦ (0, omega arith, ap (λ (z : Mark). (z.label, z.mask)) (sym h))
  | inr h ↦ let t = mark_in m es h in (suc t.0, omega (arith, t.1), t.2)
]

in_labels : (x : Label) (n : ℕ) (es : List (Label × ℕ)) → Contains es (x, n) → Within x (labels (marks_of es))
in_labels x n es h = at es h.0 h.1 h.2
  where
    at : (es : List (Label × ℕ)) (k : ℕ) → k < length es → slice_index_or es k (x, n) ≡ (x, n) → Within x (labels (marks_of es))
    at [] k h e = absurd (omega arith)
    at (d ∷ es) zero h e = inl (sym (ap (λ (p : Label × ℕ). p.0) e))
    at (d ∷ es) (suc k) h e = inr (at es k (omega arith) e)

pub on_path : (root : Label) (ms : List Mark) (masks : BTreeMap Label ℕ) → IsStrictlySortedBy (slice_cmp int_cmp) (keys masks) → ((x : Label) → mask_in masks x ≡ gathered root x None ms)
    → (x : Label) → Within x (labels (marks_of masks.entries)) ↔ IsOnPath root ms x
on_path root ms masks s is x = (
  λ w. let t = label_in x masks.entries w in gathered_path root x t.0 ms (sym (is x) ∙ (btree_map_get_iff (lists_total int_cmp_total) exact_label masks s x t.0).1 t.1),
  λ p. in_labels x (mask_at x ms) masks.entries ((btree_map_get_iff (lists_total int_cmp_total) exact_label masks s x (mask_at x ms)).0 (is x ∙ gathered_met root x ms p.is_whole p.below p.above)),
)

some_is : (a b : ℕ) → Some a ≡ Some b → a ≡ b
some_is a b e = cc

pub words : (root : Label) (ms : List Mark) (masks : BTreeMap Label ℕ) → IsStrictlySortedBy (slice_cmp int_cmp) (keys masks) → ((x : Label) → mask_in masks x ≡ gathered root x None ms)
    → (m : Mark) → Within m (marks_of masks.entries) → m.mask ≡ mask_at m.label ms
words root ms masks s is m w =
    let g = sym (is m.label) ∙ (btree_map_get_iff (lists_total int_cmp_total) exact_label masks s m.label m.mask).1 (mark_in m masks.entries w) in
    let p = gathered_path root m.label m.mask ms g in
    some_is m.mask (mask_at m.label ms) (sym g ∙ gathered_met root m.label ms p.is_whole p.below p.above)
