-- Numbers that are drawn, one after the other, from a number that a generator holds.
use Rattle.std.specs.Prelude.{ℕ, zero, suc, ◌+◌, ◌*◌, ◌/◌, ◌%◌, ◌^◌}

-- the generator's next number
unfoldable pub next : ℕ → ℕ
next x = (x * 6364136223846793005 + 1442695040888963407) % 2 ^ 64

-- the number after so many draws
unfoldable pub after : ℕ → ℕ → ℕ
after zero x = x
after (suc n) x = after n (next x)

-- what is drawn below a bound where the generator has come to a number: its high bits count
unfoldable pub drawn : ℕ → ℕ → ℕ
drawn x bound = (x / 2 ^ 33) % bound

-- what the n-th draw from a number on gives, counted from 1
abbrev pub draw : ℕ → ℕ → ℕ → ℕ
draw x n bound = drawn (after n x) bound
