-- What a keeper has to do with the calls at which it is to fail.
use Rattle.std.specs.Prelude.{◌≡◌, ℕ, List, [], ◌∷◌}

-- where no call is listed, none has failed
abbrev pub FailsAsListed : (calls : List ℕ) → (faults : ℕ) → Type 0
FailsAsListed [] faults = faults ≡ 0
FailsAsListed (call ∷ calls) faults = Unit {0}
