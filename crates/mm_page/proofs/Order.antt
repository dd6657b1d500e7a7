-- The order and the lengths of a changed list of entries.
use Rattle.std.proofs.Common.{◌≡◌, ℕ, zero, suc, ◌≤◌, Bool, true, false, cond, List, [], ◌∷◌, length, refl}
use Rattle.std.specs.Str.{bytes_eq}
use Rattle.std.specs.List.{insert, remove}
use Rattle.mm_keeper.specs.Entries.{Entries, below, IsBelow, Rises, rank, has}
use Rattle.mm_keeper.specs.Facts.Keys.{no_order, IsBelow-less}
use Rattle.mm_page.specs.Limits.{AreWithin}

pub IsBelow-insert : (a k v : List ℕ) (m : Entries) (i : ℕ) → below a k ≡ true → IsBelow a m → IsBelow a (insert m i (k, v))
IsBelow-insert a k v [] zero h b = (h, tt)
IsBelow-insert a k v [] (suc i) h b = (h, tt)
IsBelow-insert a k v (e ∷ m) zero h b = (h, b)
IsBelow-insert a k v (e ∷ m) (suc i) h b = (b.0, IsBelow-insert a k v m i h b.1)

pub AreWithin-insert : (k v : List ℕ) (m : Entries) (i : ℕ) → 1 ≤ length k → length k ≤ 800 → length v ≤ 1024 → AreWithin m → AreWithin (insert m i (k, v))
AreWithin-insert k v [] zero a b c h = (a, b, c, tt)
AreWithin-insert k v [] (suc i) a b c h = (a, b, c, tt)
AreWithin-insert k v (e ∷ m) zero a b c h = (a, b, c, h)
AreWithin-insert k v (e ∷ m) (suc i) a b c h = (h.0, h.1, h.2, AreWithin-insert k v m i a b c h.3)

pub rises-insert : (k v : List ℕ) (m : Entries) → Rises m → has m k ≡ false → Rises (insert m (rank m k) (k, v))
rises-insert k v [] h q = (tt, tt)
rises-insert k v (e ∷ m) h q = by (below e.0 k) refl q (rises-insert k v m h.1)
  where
    by : (b : Bool) → below e.0 k ≡ b → cond b (has m k) (bytes_eq e.0 k) ≡ false → (has m k ≡ false → Rises (insert m (rank m k) (k, v))) → Rises (insert (e ∷ m) (cond b (suc (rank m k)) 0) (k, v))
    by true p q i = (IsBelow-insert e.0 k v m (rank m k) p h.0, i q)
    by false p q i = ((no_order e.0 k p q, IsBelow-less k e.0 m (no_order e.0 k p q) h.0), h)

pub IsBelow-remove : (a : List ℕ) (m : Entries) (i : ℕ) → IsBelow a m → IsBelow a (remove m i)
IsBelow-remove a [] zero b = tt
IsBelow-remove a [] (suc i) b = tt
IsBelow-remove a (e ∷ m) zero b = b.1
IsBelow-remove a (e ∷ m) (suc i) b = (b.0, IsBelow-remove a m i b.1)

pub Rises-remove : (m : Entries) (i : ℕ) → Rises m → Rises (remove m i)
Rises-remove [] zero h = tt
Rises-remove [] (suc i) h = tt
Rises-remove (e ∷ m) zero h = h.1
Rises-remove (e ∷ m) (suc i) h = (IsBelow-remove e.0 m i h.0, Rises-remove m i h.1)

pub AreWithin-remove : (m : Entries) (i : ℕ) → AreWithin m → AreWithin (remove m i)
AreWithin-remove [] zero h = tt
AreWithin-remove [] (suc i) h = tt
AreWithin-remove (e ∷ m) zero h = h.3
AreWithin-remove (e ∷ m) (suc i) h = (h.0, h.1, h.2, AreWithin-remove m i h.3)
