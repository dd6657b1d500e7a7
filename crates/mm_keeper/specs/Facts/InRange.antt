-- What is found stands at a place of the map, and a put adds its bytes at most.
use Rattle.std.proofs.Common.{◌≡◌, ℕ, suc, ◌+◌, ◌-◌, ◌≤◌, ◌<◌, Bool, true, false, cond, List, [], ◌∷◌, length, Some, None, arith}
use Rattle.std.specs.Prelude.{nat_lt, refl}
use Rattle.std.specs.Str.{bytes_eq}
use Rattle.std.proofs.lemmas.Bool.Decides.{nat_tests}
use Rattle.mm_keeper.specs.Entries.{Entries, below, rank, has, put, index_of, within, one_before, first_from, last_to, weight_of}
use Rattle.mm_keeper.specs.Facts.Keys.{rank_at_most}

rank_in_range : (m : Entries) (k : List ℕ) → has m k ≡ true → rank m k < length m
rank_in_range [] k h = absurd cc
rank_in_range (e ∷ m) k h = by (below e.0 k) h (rank_in_range m k)
  where
    by : (b : Bool) → cond b (has m k) (bytes_eq e.0 k) ≡ true → (has m k ≡ true → rank m k < length m) → cond b (suc (rank m k)) 0 < suc (length m)
    by true h i = let l = i h in omega arith
    by false h i = omega arith

pub next_in_range : (m : Entries) (n i : ℕ) → Some i ≡ within m n → i < length m
next_in_range m n i e = by (nat_lt n (length m)) refl e
  where
    by : (b : Bool) → nat_lt n (length m) ≡ b → Some i ≡ cond b (Some n) None → i < length m
    by true q e = grind (arith, nat_tests)
    by false q e = absurd cc

pub before_in_range : (m : Entries) (n i : ℕ) → n < length m → Some i ≡ one_before n → i < length m
before_in_range m n i l e = by (nat_lt 0 n) refl e
  where
    by : (b : Bool) → nat_lt 0 n ≡ b → Some i ≡ cond b (Some (n - 1)) None → i < length m
    by true q e = grind (arith, nat_tests)
    by false q e = absurd cc

pub index_in_range : (m : Entries) (k : List ℕ) (i : ℕ) → Some i ≡ index_of m k → i < length m
index_in_range m k i e = by (has m k) refl e
  where
    by : (b : Bool) → has m k ≡ b → Some i ≡ cond b (Some (rank m k)) None → i < length m
    by true q e = let l = rank_in_range m k q in grind arith
    by false q e = absurd cc

pub first_in_range : (m : Entries) (k : List ℕ) (i : ℕ) → Some i ≡ first_from m k → i < length m
first_in_range m k i e = next_in_range m (rank m k) i e

pub last_in_range : (m : Entries) (k : List ℕ) (i : ℕ) → Some i ≡ last_to m k → i < length m
last_in_range m k i e = by (has m k) refl e
  where
    under : (b : Bool) → nat_lt 0 (rank m k) ≡ b → Some i ≡ cond b (Some (rank m k - 1)) None → i < length m
    under true q e = let l = rank_at_most k m in grind (arith, nat_tests)
    under false q e = absurd cc

    by : (b : Bool) → has m k ≡ b → Some i ≡ cond b (Some (rank m k)) (one_before (rank m k)) → i < length m
    by true q e = let l = rank_in_range m k q in grind arith
    by false q e = under (nat_lt 0 (rank m k)) refl e

pub put_weighs : (m : Entries) (k v : List ℕ) → weight_of (put m k v) ≤ weight_of m + length k + length v
put_weighs [] k v = omega arith
put_weighs (e ∷ m) k v = by (below e.0 k) (bytes_eq e.0 k) (put_weighs m k v)
  where
    by : (b c : Bool) → weight_of (put m k v) ≤ weight_of m + length k + length v
        → weight_of (cond b (e ∷ put m k v) ((k, v) ∷ cond c m (e ∷ m))) ≤ weight_of (e ∷ m) + length k + length v
    by true c i = omega arith
    by false true i = omega arith
    by false false i = omega arith
