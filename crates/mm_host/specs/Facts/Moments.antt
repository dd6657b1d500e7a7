-- What crashes leave, over calls that come one after the other.
use Rattle.std.proofs.Common.{ℕ, ◌≤◌, inl, inr, arith}
use Rattle.mm_host.specs.Moments.{Elapses, LeavesOnly, LeavesAsBefore}

module _ {D I : Type 0} (moment : D → ℕ) (left_since : D → ℕ → I → Type 0) where
  -- before the first call
  pub started : (old : D) (P : I → Type 0) → ((i : I) → left_since old (moment old) i → P i) → LeavesOnly moment left_since old old P
  started old P f = record { later = omega arith; each = f; before = λ t i le h. inl h }

  -- one call more
  pub goes_on : (old mid new : D) (P may_leave : I → Type 0) → LeavesOnly moment left_since old mid P
      → Elapses (moment mid) (moment new) (left_since mid) (left_since new) may_leave → ((i : I) → may_leave i → P i) → LeavesOnly moment left_since old new P
  goes_on old mid new P may_leave first step f = record {
    later = omega (arith, first.later, step.later);
    each = λ i h. elim (step.nothing_else (moment old) i first.later h) [
      | inl past ↦ first.each i past
      | inr now ↦ f i now
    ];
    before = λ t i le h. elim (step.nothing_else t i (omega (arith, le, first.later)) h) [
      | inl past ↦ first.before t i le past
      | inr now ↦ inr (f i now)
    ];
  }

  -- two runs of calls
  pub joined : (old mid new : D) (P Q : I → Type 0) → LeavesOnly moment left_since old mid P → LeavesOnly moment left_since mid new Q
      → ((i : I) → Q i → P i) → LeavesOnly moment left_since old new P
  joined old mid new P Q first second f = record {
    later = omega (arith, first.later, second.later);
    each = λ i h. elim (second.before (moment old) i first.later h) [
      | inl past ↦ first.each i past
      | inr q ↦ f i q
    ];
    before = λ t i le h. elim (second.before t i (omega (arith, le, first.later)) h) [
      | inl past ↦ first.before t i le past
      | inr q ↦ inr (f i q)
    ];
  }

  -- less is said
  pub weakened : (old new : D) (P Q : I → Type 0) → LeavesOnly moment left_since old new P → ((i : I) → P i → Q i) → LeavesOnly moment left_since old new Q
  weakened old new P Q first f = record {
    later = first.later;
    each = λ i h. f i (first.each i h);
    before = λ t i le h. elim (first.before t i le h) [
      | inl past ↦ inl past
      | inr p ↦ inr (f i p)
    ];
  }

  -- calls that leave what one before them might have left
  pub as_before_along : (old mid new : D) → ((t : ℕ) (i : I) → t ≤ moment mid → left_since mid (moment mid) i → left_since mid t i)
      → LeavesAsBefore moment left_since old mid → LeavesAsBefore moment left_since mid new → LeavesAsBefore moment left_since old new
  as_before_along old mid new counts a b = record {
    later = omega (arith, a.later, b.later);
    each = λ i left. elim (b.before (moment old) i a.later left) [
      | inl h ↦ a.each i h
      | inr h ↦ a.each i (counts (moment old) i a.later h)
    ];
    before = λ t i le left.
        let l : t ≤ moment mid = omega (arith, le, a.later) in
        elim (b.before t i l left) [
          | inl h ↦ a.before t i le h
          | inr h ↦ a.before t i le (counts t i l h)
        ];
  }

  pub as_before_only : (old new : D) (P : I → Type 0) → ((i : I) → left_since old (moment old) i → P i)
      → LeavesAsBefore moment left_since old new → LeavesOnly moment left_since old new P
  as_before_only old new P kept a = record {
    later = a.later;
    each = λ i left. kept i (a.each i left);
    before = λ t i le left. elim (a.before t i le left) [
      | inl h ↦ inl h
      | inr h ↦ inr (kept i h)
    ];
  }
