-- Tests that fail.
use Rattle.std.proofs.Common.{◌≡◌, Bool, true, false, refl}

pub test-false : {P : Type 0} (test : Bool) → (test ≡ true → P) → ¬ P → test ≡ false
test-false true holds fails = absurd (fails (holds refl))
test-false false holds fails = refl
