-- Choosing the shortest list.
use Rattle.std.proofs.Common.{inl, inr, ◌≡◌, ℕ, ◌+◌, ◌<◌, ◌≤◌, ap, sym, ◌∙◌, arith}
use Rattle.std.proofs.lemmas.Bool.{cases_lt}
use Rattle.mm_lists.specs.Shortest.{Betters}

pub shorter_within : (n i size old_at old_size new_at new_size : ℕ) → Betters i size old_at old_size new_at new_size → i < n → old_at < n → new_at < n
shorter_within n i size old_at old_size new_at new_size b h k = elim b [ inl p ↦ omega arith | inr p ↦ omega arith ]

pub shorter_more : (len : ℕ → ℕ) (i size old_at old_size new_at new_size : ℕ) → Betters i size old_at old_size new_at new_size → len i ≡ size
    → (0 < i → (len old_at ≡ old_size) × ((j : ℕ) → j < i → old_size ≤ len j))
    → (len new_at ≡ new_size) × ((j : ℕ) → j < i + 1 → new_size ≤ len j)
shorter_more len i size old_at old_size new_at new_size b e k = elim b [
  | inl p ↦ (
    ap len p.0 ∙ (e ∙ sym p.1),
    λ j h. elim (cases_lt j i) [
      | inl q ↦ let t : old_size ≤ len j = (k (omega arith)).1 j q in let u : size ≤ old_size = p.2 (omega arith) in omega arith
      | inr q ↦ let t : len j ≡ len i = ap len (omega arith) in omega arith
    ],
  )
  | inr p ↦ (
    ap len p.0 ∙ ((k p.2).0 ∙ sym p.1),
    λ j h. elim (cases_lt j i) [
      | inl q ↦ let t : old_size ≤ len j = (k p.2).1 j q in omega arith
      | inr q ↦ let t : len j ≡ len i = ap len (omega arith) in omega arith
    ],
  )
]
