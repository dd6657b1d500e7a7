-- The room that a changed list takes, and the lengths in a list and its parts.
use Rattle.std.proofs.Common.{◌≡◌, ℕ, zero, suc, ◌+◌, ◌<◌, List, [], ◌∷◌, ◌++◌, length, get_or, arith}
use Rattle.std.specs.List.{insert}
use Rattle.mm_keeper.specs.Entries.{Entries}
use Rattle.mm_page.specs.Limits.{size, revalued, AreWithin}

pub size_insert : (k v : List ℕ) (m : Entries) (i : ℕ) → size (insert m i (k, v)) ≡ size m + (6 + length k + length v)
size_insert k v [] zero = omega arith
size_insert k v [] (suc i) = omega arith
size_insert k v (e ∷ m) zero = omega arith
size_insert k v (e ∷ m) (suc i) = omega (arith, size_insert k v m i)

pub size_revalued : (m : Entries) (i : ℕ) (v : List ℕ) (d : List ℕ × List ℕ) → i < length m → size (revalued m i v) + length (get_or m i d).1 ≡ size m + length v
size_revalued [] i v d h = absurd (omega (arith, h))
size_revalued (e ∷ m) zero v d h = omega arith
size_revalued (e ∷ m) (suc i) v d h = omega (arith, size_revalued m i v d (omega (arith, h)))

pub size_app : (xs ys : Entries) → size (xs ++ ys) ≡ size xs + size ys
size_app [] ys = omega arith
size_app (e ∷ xs) ys = omega (arith, size_app xs ys)

pub AreWithin-app : (xs ys : Entries) → AreWithin xs → AreWithin ys → AreWithin (xs ++ ys)
AreWithin-app [] ys h i = i
AreWithin-app (e ∷ xs) ys h i = (h.0, h.1, h.2, AreWithin-app xs ys h.3 i)

pub AreWithin-parts : (xs ys : Entries) → AreWithin (xs ++ ys) → AreWithin xs × AreWithin ys
AreWithin-parts [] ys h = (tt, h)
AreWithin-parts (e ∷ xs) ys h = ((h.0, h.1, h.2, (AreWithin-parts xs ys h.3).0), (AreWithin-parts xs ys h.3).1)
