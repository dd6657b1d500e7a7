-- A key's place among keys that rise.
use Rattle.std.proofs.Common.{◌≡◌, ℕ, suc, ◌≤◌, ◌<◌, true, false, List, [], length, get_or, sym, ◌∙◌, arith, true≢false, inl, inr}
use Rattle.std.proofs.lemmas.Bool.{cases_lt}
use Rattle.mm_keeper.specs.Entries.{Entries, below, Rises, rank}
use Rattle.mm_keeper.specs.Facts.Blocked.{rank_passes, rank_stops, items_parted}

pub rank-above : (k : List ℕ) (m : Entries) (i : ℕ) → Rises m → i < length m → below (get_or m i ([], [])).0 k ≡ true → suc i ≤ rank m k
rank-above k m i r l b = elim (cases_lt i (rank m k)) [
  | inl q ↦ omega (arith, q)
  | inr q ↦ absurd (true≢false (sym (items_parted k m r (rank m k) i ([], []) (omega (arith, q)) l b) ∙ rank_stops k m ([], []) (omega (arith, q, l))))
]

pub rank-most : (k : List ℕ) (m : Entries) (i : ℕ) → below (get_or m i ([], [])).0 k ≡ false → rank m k ≤ i
rank-most k m i b = elim (cases_lt i (rank m k)) [
  | inl q ↦ absurd (true≢false (sym (rank_passes k m i ([], []) q) ∙ b))
  | inr q ↦ omega (arith, q)
]
