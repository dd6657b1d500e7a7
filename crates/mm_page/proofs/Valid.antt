-- A leaf breaks no rule.
use Rattle.std.proofs.Common.{◌≡◌, ℕ, suc, ◌+◌, ◌*◌, ◌≤◌, ◌==◌, true, false, nat_lt, None, List, [], ◌∷◌, length, drop, get_or, refl, sym, ap, ◌∙◌, subst, arith}
use Rattle.mm_keeper.specs.Entries.{Entries, below, IsBelow, Rises}
use Rattle.mm_page.specs.Limits.{AreWithin}
use Rattle.mm_page.specs.Leaf.{Stands, two, number_at, cell, cells, slots, cell_end, entries_of, IsLeaf}
use Rattle.mm_page.specs.Rules.{cell_fault, fault_from, fault_of}
use Rattle.mm_page.proofs.Blocks.{stands-split}
use Rattle.mm_page.proofs.Rows.{number-block, cell-back, cell-length, leaf-count, IsAt}
use Rattle.mm_page.proofs.Reading.{Climbs, fault-step, fault-found}
use Rattle.std.proofs.lemmas.List.{length-append}

nlt : (a b : ℕ) → a ≤ b → nat_lt b a ≡ false
nlt a b h = grind (arith, h)

nonzero : (a : ℕ) → 1 ≤ a → (a == 0) ≡ false
nonzero a h = grind (arith, h)

pub climbs-from : (k : List ℕ) (m : Entries) → IsBelow k m → Rises m → Climbs k m
climbs-from k [] h r = tt
climbs-from k (e ∷ m) h r = (h.0, climbs-from e.0 m r.0 r.1)

below-none : (k : List ℕ) → 1 ≤ length k → below [] k ≡ true
below-none [] h = absurd (omega (arith, h))
below-none (x ∷ k) h = refl

pub all-above_none : (m : Entries) → AreWithin m → IsBelow [] m
all-above_none [] h = tt
all-above_none (e ∷ m) h = (below-none e.0 h.0, all-above_none m h.3)

pub cell-right : (bytes : List ℕ) (i at : ℕ) (last : List ℕ) (e : List ℕ × List ℕ) → number_at (16 + 2 * i) bytes ≡ at → IsAt bytes at e → at + length (cell e) ≤ 4096
    → 1 ≤ length e.0 → length e.0 ≤ 800 → length e.1 ≤ 1024 → below last e.0 ≡ true → cell_fault bytes i at last ≡ None
cell-right bytes i at last e s c room k1 k2 v b =
    let l = cell-length e in
    rw (
      s,
      nlt (at) (at) (omega arith),
      nlt (at + 4) (4096) (omega (arith, l, room)),
      nlt (cell_end bytes at) (4096) (omega (arith, c.after, room)),
      nonzero (number_at at bytes) (omega (arith, c.key_length, k1)),
      nlt (number_at at bytes) (800) (omega (arith, c.key_length, k2)),
      nlt (number_at (at + 2) bytes) (1024) (omega (arith, c.value_length, v)),
      ap (λ t. below last t) c.key ∙ b,
    ) refl

pub rows-right : (bytes : List ℕ) (m : Entries) (i at : ℕ) (last : List ℕ) → Stands (16 + 2 * i) (slots at m) bytes → Stands at (cells m) bytes → at + length (cells m) ≤ 4096
    → AreWithin m → Climbs last m → fault_from bytes (length m) i at last ≡ None
rows-right bytes [] i at last s r room w k = refl
rows-right bytes (e ∷ m) i at last s r room w k =
    let to = at + length (cell e) in
    let a = stands-split (16 + 2 * i) (two at) (slots to m) bytes s in
    let b = stands-split at (cell e) (cells m) bytes r in
    let c = cell-back bytes at e b.0 in
    let n : number_at (16 + 2 * i) bytes ≡ at = number-block at (drop (16 + 2 * i) bytes) a.0 in
    let l = length-append (cell e) (cells m) in
    let f : 16 + 2 * i + 2 ≡ 16 + 2 * suc i = omega arith in
    fault-step bytes (suc (length m)) (length m) i (suc i) at to last e.0 refl refl (sym c.after) (sym c.key)
    (cell-right bytes i at last e n c (omega (arith, l, room)) w.0 w.1 w.2 k.0)
    ∙ rows-right bytes m (suc i) to e.0 (subst (λ t. Stands t (slots to m) bytes) f a.1) b.1 (omega (arith, l, room)) w.3 k.1

pub leaf-right : (bytes : List ℕ) → IsLeaf bytes → get_or bytes 0 0 ≡ 76 → fault_of bytes ≡ None
leaf-right bytes h z =
    let m = entries_of bytes in
    let n = leaf-count bytes h in
    fault-found bytes z (omega (arith, n, h.holds.room)) ∙ ap (λ t. fault_from bytes t 0 (16 + 2 * t) []) n
    ∙ rows-right bytes m 0 (16 + 2 * length m) [] h.holds.places h.holds.row h.holds.room h.holds.limits (climbs-from [] m (all-above_none m h.holds.limits) h.holds.rises)

first-byte : (bytes : List ℕ) → Stands 0 (76 ∷ []) bytes → get_or bytes 0 0 ≡ 76
first-byte [] h = absurd cc
first-byte (b ∷ bs) h = ap (λ t. get_or t 0 0) h

pub leaf_valid : (bytes : List ℕ) → IsLeaf bytes → fault_of bytes ≡ None
leaf_valid bytes h = leaf-right bytes h (first-byte bytes h.holds.sort)
