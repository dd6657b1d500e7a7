-- How bytes go from a source and to a sink. Bytes that a device doesn't tell are None, before a call and after it.
use Rattle.std.specs.Prelude.{◌≡◌, ℕ, ◌<◌, List, length, take, Result, MatchResult}
use Rattle.std.specs.declared.option.Option.{Option}
use Rattle.std.specs.Io.KnownBytes.{prepend_known, append_known, IsAtEnd}

-- A read moved the front of the bytes left into the buffer. It moved none of them only at their end.
pub record Reads {E : Type 0} (before after : Option (List ℕ)) (result : Result ℕ E) (buffer : List ℕ) : Type 0 where
  pub moved : MatchResult result (λ n. before ≡ prepend_known (take n buffer) after) (λ _. after ≡ before)
  pub none_left : MatchResult result (λ n. n ≡ 0 → 0 < length buffer → IsAtEnd before) (λ _. Unit {0})

-- A write took a front of the piece, and more than nothing of it.
pub record Writes {E : Type 0} (before after : Option (List ℕ)) (result : Result ℕ E) (piece : List ℕ) : Type 0 where
  pub taken : MatchResult result (λ n. after ≡ append_known before (take n piece)) (λ _. after ≡ before)
  pub some_taken : MatchResult result (λ n. 0 < length piece → 0 < n) (λ _. Unit {0})

-- The piece was written whole, or where a write failed a front of it, which isn't all.
pub record WritesAll {E : Type 0} (before after : Option (List ℕ)) (result : Result (Unit {0}) E) (piece : List ℕ) : Type 0 where
  pub all : MatchResult result (λ _. after ≡ append_known before piece) (λ _. (n : ℕ) × (n < length piece) × (after ≡ append_known before (take n piece)))
