-- Numbers of characters, of which all that are too large are one.
use Rattle.std.specs.Prelude.{ℕ, min}

abbrev pub capped : ℕ → ℕ
capped n = min n 1114112
