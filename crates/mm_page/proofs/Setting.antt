-- A value that was changed in place: the row of the changed list.
use Rattle.std.proofs.Common.{◌≡◌, ℕ, zero, suc, ◌+◌, ◌*◌, ◌-◌, ◌≤◌, ◌<◌, List, [], ◌∷◌, ◌++◌, length, take, drop, get_or, refl, sym, ap, ap₂, ◌∙◌, subst, arith}
use Rattle.std.proofs.lemmas.List.{length-append}
use Rattle.mm_keeper.specs.Entries.{Entries, IsBelow, Rises}
use Rattle.mm_page.specs.Limits.{AreWithin, size, revalued}
use Rattle.mm_page.specs.Leaf.{block, pasted, Stands, two, number_at, cell, cells, entries_of, IsLeaf, place_in}
use Rattle.mm_page.specs.Inside.Rows.{IsRow}
use Rattle.mm_page.proofs.Blocks.{stands-split, stands-join, put-same, put-before, put-after, put-length, put-next}
use Rattle.mm_page.proofs.Rows.{cells-app, cells-size, cell-length, cell-there, leaf-entry, place-next}
use Rattle.mm_page.proofs.Moves.{IsMoved, moved, leaf-parts, row-of}

pub revalued-parts : (m : Entries) (i : ℕ) (v : List ℕ) (d : List ℕ × List ℕ) → i < length m → revalued m i v ≡ take i m ++ (((get_or m i d).0, v) ∷ drop (suc i) m)
revalued-parts [] i v d h = absurd (omega (arith, h))
revalued-parts (e ∷ m) zero v d h = refl
revalued-parts (e ∷ m) (suc i) v d h = ap (λ t. e ∷ t) (revalued-parts m i v d (omega (arith, h)))

pub revalued-length : (m : Entries) (i : ℕ) (v : List ℕ) → length (revalued m i v) ≡ length m
revalued-length [] i v = refl
revalued-length (e ∷ m) zero v = refl
revalued-length (e ∷ m) (suc i) v = ap suc (revalued-length m i v)

IsBelow-revalued : (k : List ℕ) (m : Entries) (i : ℕ) (v : List ℕ) → IsBelow k m → IsBelow k (revalued m i v)
IsBelow-revalued k [] i v h = tt
IsBelow-revalued k (e ∷ m) zero v h = h
IsBelow-revalued k (e ∷ m) (suc i) v h = (h.0, IsBelow-revalued k m i v h.1)

Rises-revalued : (m : Entries) (i : ℕ) (v : List ℕ) → Rises m → Rises (revalued m i v)
Rises-revalued [] i v h = tt
Rises-revalued (e ∷ m) zero v h = h
Rises-revalued (e ∷ m) (suc i) v h = (IsBelow-revalued e.0 m i v h.0, Rises-revalued m i v h.1)

AreWithin-revalued : (m : Entries) (i : ℕ) (v : List ℕ) → length v ≤ 1024 → AreWithin m → AreWithin (revalued m i v)
AreWithin-revalued [] i v l h = tt
AreWithin-revalued (e ∷ m) zero v l h = (h.0, h.1, l, h.3)
AreWithin-revalued (e ∷ m) (suc i) v l h = (h.0, h.1, h.2, AreWithin-revalued m i v l h.3)

-- the places and lengths of a change of the value of cell i
pub record IsSetting (old : List ℕ) (v : List ℕ) (i n at to end key : ℕ) : Type 0 where
  pub size : length old ≡ 4096
  pub start : 16 + 2 * n ≤ at
  pub order : at + 4 + key ≤ to
  pub last : to ≤ end
  pub all : end ≤ 4096
  pub room : at + 4 + key + length v + (end - to) ≤ 4096
  pub long : key ≡ length (get_or (entries_of old) i ([], [])).0
  pub back : end - to ≡ length (cells (drop (suc i) (entries_of old)))

pub setting : (old v : List ℕ) (i n at to end key : ℕ) → IsLeaf old → n ≡ length (entries_of old) → i < length (entries_of old) → at ≡ place_in (entries_of old) i → to ≡ place_in (entries_of old) (suc i) → end ≡ place_in (entries_of old) (length (entries_of old))
    → key ≡ number_at at old → size (revalued (entries_of old) i v) ≤ 4080 → IsSetting old v i n at to end key
setting old v i n at to end key h en il ea et ee ek room =
    let m = entries_of old in
    let e = get_or m i ([], []) in
    let r = revalued m i v in
    let le = leaf-entry old i h il in
    let p = leaf-parts old i h in
    let p' = leaf-parts old (suc i) h in
    let pn = place-next m i ([], []) il in
    let k : key ≡ length e.0 = ek ∙ ap (λ t. number_at t old) ea ∙ le.here.key_length in
    let b : end - to ≡ length (cells (drop (suc i) m)) = omega (arith, ee, et, p'.total) in
    let parts : length (cells r) ≡ length (cells (take i m)) + (4 + length e.0 + length v + length (cells (drop (suc i) m)))
    = omega (
      arith,
      ap (λ t. length (cells t)) (revalued-parts m i v ([], []) il),
      ap length (cells-app (take i m) ((e.0, v) ∷ drop (suc i) m)),
      length-append (cells (take i m)) (cells ((e.0, v) ∷ drop (suc i) m)),
      length-append (cell (e.0, v)) (cells (drop (suc i) m)),
      cell-length (e.0, v),
    ) in
    record {
      size = h.size;
      start = omega (arith, ea, en);
      order = omega (arith, ea, et, pn, k, cell-length e);
      last = omega (arith, et, ee, p'.total);
      all = omega (arith, ee, p'.all);
      room = omega (arith, ea, k, b, parts, cells-size r, revalued-length m i v, room);
      long = k;
      back = b;
    }

pub set-done : (old v : List ℕ) (i n at to end key : ℕ) (s1 s2 s3 : List ℕ) → IsLeaf old → n ≡ length (entries_of old) → i < length (entries_of old) → at ≡ place_in (entries_of old) i → to ≡ place_in (entries_of old) (suc i)
    → length v ≤ 1024 → size (revalued (entries_of old) i v) ≤ 4080 → IsSetting old v i n at to end key
    → s1 ≡ pasted old (at + 4 + key + length v) (block to (end - to) old)
    → s2 ≡ pasted s1 (at + 2) (two (length v))
    → s3 ≡ pasted s2 (at + 4 + key) v → IsMoved old s3 n (revalued (entries_of old) i v)
set-done old v i n at to end key s1 s2 s3 h en il ea et v1 room w q1 q2 q3 =
    let m = entries_of old in
    let e = get_or m i ([], []) in
    let k = e.0 in
    let a = cells (take i m) in
    let b = cells (drop (suc i) m) in
    let s = 16 + 2 * n in
    let p = leaf-parts old i h in
    let p' = leaf-parts old (suc i) h in
    let es : s ≡ 16 + 2 * length m = omega (arith, en) in
    let ea' : at ≡ s + length a = omega (arith, es, ea) in
    let fits : at + 4 + key + length v + length b ≤ 4096 = omega (arith, w.room, w.back) in
    let y1 : s1 ≡ pasted old (at + 4 + key + length v) b = q1 ∙ ap (λ t. pasted old (at + 4 + key + length v) t) (ap₂ (λ x y. block x y old) et w.back ∙ p'.back) in
    let l1 : length s1 ≡ 4096 = put-length old (at + 4 + key + length v) b y1 (omega (arith, fits, h.size)) ∙ h.size in
    let l2 : length s2 ≡ 4096 = put-length s1 (at + 2) (two (length v)) q2 (omega (arith, l1, fits)) ∙ l1 in
    let l3 : length s3 ≡ 4096 = put-length s2 (at + 4 + key) v q3 (omega (arith, l2, fits)) ∙ l2 in
    let b0 : at + 4 + key + length v ≤ length old = omega (arith, fits, h.size) in
    let b1 : at + 2 ≤ length s1 = omega (arith, fits, l1) in
    let b2 : at + 4 + key ≤ length s2 = omega (arith, fits, l2) in
    -- what stands in front of all three writes
    let front : (j : ℕ) (xs : List ℕ) → j + length xs ≤ at + 2 → Stands j xs old → Stands j xs s3 = λ j xs le st.
    put-before s2 (at + 4 + key) v j xs q3 (omega (arith, le)) b2 (put-before s1 (at + 2) (two (length v)) j xs q2 le b1 (put-before old (at + 4 + key + length v) b j xs y1 (omega (arith, le)) b0 st)) in
    let there : Stands at (cell e) old = subst (λ t. Stands t (cell e) old) (sym ea) (cell-there old m i ([], []) h.holds.row il) in
    let c1 = stands-split at (two (length k)) (two (length e.1) ++ (k ++ e.1)) old there in
    let c2 = stands-split (at + 2) (two (length e.1)) (k ++ e.1) old c1.1 in
    let c3 = stands-split (at + 2 + 2) k e.1 old c2.1 in
    let a3 : Stands s a s3 = front s a (omega (arith, ea')) (subst (λ t. Stands t a old) (sym es) p.front) in
    let k3 : Stands at (two (length k)) s3 = front at (two (length k)) (omega arith) c1.0 in
    let n3 : Stands (at + 2) (two (length v)) s3 = put-before s2 (at + 4 + key) v (at + 2) (two (length v)) q3 (omega arith) b2 (put-same s1 (at + 2) (two (length v)) q2 b1) in
    let t3 : Stands (at + 2 + 2) k s3 = put-before s2 (at + 4 + key) v (at + 2 + 2) k q3 (omega (arith, w.long)) b2
    (put-after s1 (at + 2) (two (length v)) (at + 2 + 2) k q2 (omega arith) b1 (put-before old (at + 4 + key + length v) b (at + 2 + 2) k y1 (omega (arith, w.long)) b0 c3.0)) in
    let f : at + 4 + key ≡ at + 2 + 2 + length k = omega (arith, w.long) in
    let v3 : Stands (at + 2 + 2 + length k) v s3 = subst (λ t. Stands t v s3) f (put-same s2 (at + 4 + key) v q3 b2) in
    let c : Stands at (cell (k, v)) s3 = stands-join at (two (length k)) (two (length v) ++ (k ++ v)) s3 k3 (stands-join (at + 2) (two (length v)) (k ++ v) s3 n3 (stands-join (at + 2 + 2) k v s3 t3 v3)) in
    let g : at + 4 + key + length v ≡ at + length (cell (k, v)) = omega (arith, w.long, cell-length (k, v)) in
    let b3 : Stands (at + length (cell (k, v))) b s3 = subst (λ t. Stands t b s3) g (put-after s2 (at + 4 + key) v (at + 4 + key + length v) b q3 (omega arith) b2
    (put-after s1 (at + 2) (two (length v)) (at + 4 + key + length v) b q2 (omega arith) b1 (put-same old (at + 4 + key + length v) b y1 b0))) in
    let rp : revalued m i v ≡ take i m ++ ((k, v) ∷ drop (suc i) m) = revalued-parts m i v ([], []) il in
    moved old s3 n (revalued m i v) (omega (arith, en, revalued-length m i v))
    (subst (λ t. IsRow s3 t) (sym rp) (row-of s3 (take i m) ((k, v) ∷ drop (suc i) m) s l3 (omega (arith, es, ap length rp, revalued-length m i v)) a3
    (subst (λ t. Stands t (cell (k, v) ++ b) s3) ea' (stands-join at (cell (k, v)) b s3 c b3))
    (subst (λ t. size t ≤ 4080) rp room) (subst (λ t. AreWithin t) rp (AreWithin-revalued m i v v1 h.holds.limits)) (subst (λ t. Rises t) rp (Rises-revalued m i v h.holds.rises))))
    (put-next s2 (at + 4 + key) v q3 (omega (arith, ea')) b2 ∙ put-next s1 (at + 2) (two (length v)) q2 (omega (arith, ea')) b1 ∙ put-next old (at + 4 + key + length v) b y1 (omega (arith, ea')) b0)
