use Rattle.std.proofs.Common.{◌≡◌, ◌==◌, ℕ, ◌≤◌, true, length, arith}
use Rattle.std.proofs.lemmas.Bool.Decides.{nat_tests}
use Rattle.mm_image.proofs.Groups.{other_key, other_size}
use Rattle.mm_image.proofs.gathering.take.Goals as goal
use Rattle.mm_image.proofs.gathering.take.Goals.{then-is_empty-via-then-is_empty, then-is_empty-via-else-is_empty+then-value-gt-PIECE_LIMIT}

none_there : (n : ℕ) → true ≡ (n == 0) → 1 ≤ n → ⊥
none_there n e l = grind (arith, nat_tests)

pub returns-then-is_empty : goal.returns-then-is_empty
returns-then-is_empty c = other_size c.args.groups.now (c.args.key.now, c.args.value.now) (λ l h. elim c.then-is_empty.branch [
  | then-is_empty-via-then-is_empty w ↦ none_there (length c.args.value.now) w.if-is_empty.ensures l
  | then-is_empty-via-else-is_empty+then-value-gt-PIECE_LIMIT w ↦ omega arith
])

pub returns-in_default : goal.returns-in_default
returns-in_default c = other_key c.args.groups.now (c.args.key.now, c.args.value.now) (rw c.in_default.is at c.in_ok-label.ensures)
