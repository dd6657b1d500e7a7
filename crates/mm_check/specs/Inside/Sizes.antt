-- How long the pieces of a node are that is read.
use Rattle.std.specs.Prelude.{ℕ, ◌+◌, ◌*◌, ◌^◌, ◌<◌, ◌≤◌, List, length}
use Rattle.mm_image.specs.Content.{piece_limit}

-- with pieces up to this number, of which all but the last are as long as may be
pub record IsSized (number : ℕ) (content : List ℕ) : Type 0 where
  pub some : piece_limit * number < length content
  pub most : length content ≤ piece_limit * (number + 1)
  pub fits : number < 2 ^ 32
