-- What each of two calls keeps, both in turn keep.
use Rattle.std.specs.Prelude.{◌↔◌}

pub kept_same : (A : Type 0) → A ↔ A
kept_same A = (λ a. a, λ a. a)

pub kept_along : (A B C : Type 0) → A ↔ B → B ↔ C → A ↔ C
kept_along A B C p q = (λ a. q.0 (p.0 a), λ c. p.1 (q.1 c))
