-- Room for an entry, and the lengths of keys.
use Rattle.std.proofs.Common.{◌≡◌, ◌≤◌, ◌+◌, ◌^◌, ℕ, Bool, true, false, cond, List, [], ◌∷◌, length, Option, Some, None, option_map, is_some, Result, Ok, Err, OnOk, OnErr, inr, refl, sym, subst, arith}
use Rattle.std.specs.Str.{bytes_eq}
use Rattle.std.proofs.lemmas.Slice.Eq.{bytes_eq-Decides}
use Rattle.mm_keeper.specs.Entries.{Entries, HasRoom, Entry, below, has, lookup, put, without, weight_of}
use Rattle.mm_keeper.specs.Facts.Keys.{has-some, has-none}
use Rattle.mm_keeper.specs.Facts.Changing.{of-some, of-none}
use Rattle.mm_logmap.specs.Inside.Spelled.{HasFitKeys}

weight_most : (k v : List ℕ) (m : Entries) → weight_of (put m k v) ≤ weight_of m + (length k + length v)
weight_most k v [] = omega arith
weight_most k v (e ∷ m) = by (below e.0 k) (bytes_eq e.0 k) (weight_most k v m)
  where
    by : (b c : Bool) → weight_of (put m k v) ≤ weight_of m + (length k + length v) → weight_of (cond b (e ∷ put m k v) ((k, v) ∷ cond c m (e ∷ m))) ≤ weight_of (e ∷ m) + (length k + length v)
    by true c i = omega (arith, i)
    by false true i = omega arith
    by false false i = omega arith

pub room : (k v : List ℕ) (m : Entries) → weight_of m + (length k + length v) ≤ 2 ^ 42 → HasRoom m k v
room k v m le = inr (omega (arith, le, weight_most k v m))

pub fit-put : (k v : List ℕ) (m : Entries) → (1 ≤ length k) × (length k ≤ 800) → HasFitKeys m → HasFitKeys (put m k v)
fit-put k v [] f h = (f, tt)
fit-put k v (e ∷ m) f h = by (below e.0 k) (bytes_eq e.0 k) (fit-put k v m f h.1)
  where
    by : (b c : Bool) → HasFitKeys (put m k v) → HasFitKeys (cond b (e ∷ put m k v) ((k, v) ∷ cond c m (e ∷ m)))
    by true c i = (h.0, i)
    by false true i = (f, h.1)
    by false false i = (f, h)

pub fit-without : (k : List ℕ) (m : Entries) → HasFitKeys m → HasFitKeys (without m k)
fit-without k [] h = tt
fit-without k (e ∷ m) h = by (below e.0 k) (bytes_eq e.0 k) (fit-without k m h.1)
  where
    by : (b c : Bool) → HasFitKeys (without m k) → HasFitKeys (cond b (e ∷ without m k) (cond c m (e ∷ m)))
    by true c i = (h.0, i)
    by false true i = h.1
    by false false i = h

-- a key that is held has such a length
pub fit-held : (k : List ℕ) (m : Entries) → HasFitKeys m → has m k ≡ true → (1 ≤ length k) × (length k ≤ 800)
fit-held k [] h is = absurd cc
fit-held k (e ∷ m) h is = by (below e.0 k) (bytes_eq e.0 k) (λ q. (bytes_eq-Decides e.0 k).0 q) (λ q. fit-held k m h.1 q) is
  where
    by : (b c : Bool) → (c ≡ true → e.0 ≡ k) → (has m k ≡ true → (1 ≤ length k) × (length k ≤ 800)) → cond b (has m k) c ≡ true → (1 ≤ length k) × (length k ≤ 800)
    by true c s i q = i q
    by false true s i q = subst (λ (l : List ℕ). (1 ≤ length l) × (length l ≤ 800)) (s refl) h.0
    by false false s i q = absurd cc

-- after a put that found memory, or none
pub fit-after : {T E : Type 0} (r : Result T E) (k v : List ℕ) (old new : Entries) → OnOk r (new ≡ put old k v) → OnErr r (new ≡ old) → (1 ≤ length k) × (length k ≤ 800) → HasFitKeys old → HasFitKeys new
fit-after (Ok x) k v old new ok err f h = subst HasFitKeys (sym ok) (fit-put k v old f h)
fit-after (Err e) k v old new ok err f h = subst HasFitKeys (sym err) h

-- what was taken out tells whether the key was held
pub told : (k : List ℕ) (m : Entries) (o : Option Entry) → o ≡ option_map (λ (v : List ℕ). (k, v)) (lookup m k) → is_some o ≡ has m k
told k m None e = sym (has-none k m (of-none k (lookup m k) e))
told k m (Some x) e = sym (has-some k x.1 m (of-some k x (lookup m k) e).1)
