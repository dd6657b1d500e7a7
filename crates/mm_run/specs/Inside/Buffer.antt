-- What a buffer before a source holds.
use Rattle.std.specs.Prelude.{ℕ, List}

-- the bytes taken and not yet handed out, and how many more may be taken
pub record Buffered : Type 0 where
  pub held : List ℕ
  pub room : ℕ
