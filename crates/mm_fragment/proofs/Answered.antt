-- Whether one of some labels in document order lies at or below a label: the first at or after it tells.
use Rattle.std.proofs.Common.{inl, inr, ◌≡◌, ℕ, ◌<◌, ◌≤◌, true, false, List, [], sym, subst, ◌∙◌, Option, length, arith}
use Rattle.std.specs.Prelude.{slice_index_or, slice_get, AllPairs, ◌↔◌}
use Rattle.std.specs.List.Sorted.{IsPartitionPoint}
use Rattle.std.proofs.lemmas.Bool.{cases_lt}
use Rattle.mm_label.specs.Label.{IsBefore}
use Rattle.mm_label.specs.Fronts.{Label, is_front, IsAtOrBefore}
use Rattle.mm_fragment.specs.Matching.{Reaches}
use Rattle.mm_fragment.specs.Inside.Children.{is_above}
use Rattle.mm_label.specs.Facts.Fronts.{front_yes, is_front_of, front_le, le_antisym, between_front}
use Rattle.mm_label.specs.Facts.Order.{before_lt, le_of}
use Rattle.mm_label.specs.Facts.Places.{get_none, get_some, same_at, at_or_before}

reaches_some : (x : Label) (ms : List Label) (i : ℕ) → AllPairs IsBefore ms → IsPartitionPoint (λ m. IsBefore m x) (λ m. IsAtOrBefore x m) ms i → i < length ms
    → is_front x (slice_index_or ms i []) ≡ true ↔ Reaches x ms
reaches_some x ms i a p h = (
  (λ e. (slice_index_or ms i [], (i, h, same_at ms i (slice_index_or ms i []) [] h), front_yes x (slice_index_or ms i []) e)),
  λ r.
      let y = r.0 in
      let c = r.1 in
      let f = r.2 in
      elim (cases_lt c.0 i) [
        | inl q ↦
            let b = before_lt y x (subst (λ (z : Label). IsBefore z x) c.2 (p.0 c.0 y (omega arith) q)) in
            absurd (b.1 (le_antisym y x b.0 (front_le x y f)))
        | inr q ↦
            let l = le_of (slice_index_or ms i []) y (subst (IsAtOrBefore (slice_index_or ms i [])) c.2 (at_or_before ms i c.0 [] y a q c.1)) in
            is_front_of x (slice_index_or ms i []) (between_front x (slice_index_or ms i []) y (le_of x (slice_index_or ms i []) (p.1 i [] (omega arith) h)) l f)
      ],
)

pub reaches_of : (x : Label) (ms : List Label) (i : ℕ) (o : Option Label) → AllPairs IsBefore ms → IsPartitionPoint (λ m. IsBefore m x) (λ m. IsAtOrBefore x m) ms i → o ≡ slice_get ms i
    → is_above x o ≡ true ↔ Reaches x ms
reaches_of x ms i o a p e = elim (cases_lt i (length ms)) [
  | inl h ↦ subst (λ (u : Option Label). is_above x u ≡ true ↔ Reaches x ms) (sym (e ∙ get_some ms i [] h)) (reaches_some x ms i a p h)
  | inr h ↦ subst (λ (u : Option Label). is_above x u ≡ true ↔ Reaches x ms) (sym (e ∙ get_none ms i h)) (none h)
]
  where
    none : length ms ≤ i → false ≡ true ↔ Reaches x ms
    none h = (
      (λ q. absurd cc),
      λ r.
          let c = r.1 in
          let q : c.0 < i = omega (arith, c.1) in
          let b = before_lt r.0 x (subst (λ (z : Label). IsBefore z x) c.2 (p.0 c.0 r.0 (omega arith) q)) in
          absurd (b.1 (le_antisym r.0 x b.0 (front_le x r.0 r.2))),
    )
