-- A clock, and what a crash at each moment leaves. `I` is what a crash leaves: bytes, or a map.
use Rattle.std.specs.Prelude.{ℕ, ◌≤◌, ◌⊎◌}

-- Time goes on: a crash since t might have left what it might have left before, or what it may leave now.
pub record Elapses {I : Type 0} (before now : ℕ) (past since : ℕ → I → Type 0) (may_leave : I → Type 0) : Type 0 where
  pub later : before ≤ now
  pub nothing_else : (t : ℕ) (i : I) → t ≤ before → since t i → past t i ⊎ may_leave i
  pub keeps : (t : ℕ) (i : I) → t ≤ before → past t i → since t i

-- A crash at any moment since old leaves what has P.
pub record LeavesOnly {D I : Type 0} (moment : D → ℕ) (left_since : D → ℕ → I → Type 0) (old new : D) (P : I → Type 0) : Type 0 where
  pub later : moment old ≤ moment new
  pub each : (i : I) → left_since new (moment old) i → P i
  -- for a run that began earlier
  pub before : (t : ℕ) (i : I) → t ≤ moment old → left_since new t i → left_since old t i ⊎ P i

-- A crash at any moment since old leaves what one at old might have left.
abbrev pub LeavesAsBefore : {D I : Type 0} → (D → ℕ) → (D → ℕ → I → Type 0) → D → D → Type 0
LeavesAsBefore moment left_since old new = LeavesOnly moment left_since old new (left_since old (moment old))
