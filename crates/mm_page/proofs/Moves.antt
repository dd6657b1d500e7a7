-- Cells that were moved in place: the row of the changed list.
use Rattle.std.proofs.Common.{◌≡◌, ℕ, suc, ◌+◌, ◌*◌, ◌-◌, ◌≤◌, ◌<◌, false, List, [], ◌∷◌, ◌++◌, length, take, drop, sym, ap, ap₂, ◌∙◌, subst, arith}
use Rattle.std.specs.List.{insert, remove}
use Rattle.std.proofs.lemmas.List.{length-take-le, length-drop, length-append, take-append-drop, take_all}
use Rattle.mm_keeper.specs.Entries.{Entries, Rises, rank, has}
use Rattle.mm_page.specs.Limits.{AreWithin, size}
use Rattle.mm_page.specs.Leaf.{block, pasted, Stands, cell, cells, entries_at, entries_of, IsLeaf, place_in, next_of}
use Rattle.mm_page.specs.Inside.Rows.{IsRow}
use Rattle.mm_page.proofs.Blocks.{stands-split, stands-join, put-same, put-before, put-after, put-length, put-next}
use Rattle.mm_page.proofs.Rows.{cells-app, cells-size, cell-length, place-next}
use Rattle.mm_page.proofs.Writing.{row-there, row-read}
use Rattle.mm_page.proofs.Order.{AreWithin-insert, rises-insert, AreWithin-remove, Rises-remove}

-- cells that were moved are the row of a list of so many entries
pub record IsMoved (old new : List ℕ) (n : ℕ) (m : Entries) : Type 0 where
  pub row : IsRow new (entries_at new n (16 + 2 * n))
  pub read : entries_at new n (16 + 2 * n) ≡ m
  pub next : next_of new ≡ next_of old

pub moved : (old new : List ℕ) (n : ℕ) (m : Entries) → n ≡ length m → IsRow new m → next_of new ≡ next_of old → IsMoved old new n m
moved old new n m e r q = record { row = row-there new m n e r; read = row-read new m n e r; next = q }

-- the cells in front of one, and from it on
pub record IsParted (bytes : List ℕ) (m : Entries) (i : ℕ) : Type 0 where
  pub front : Stands (16 + 2 * length m) (cells (take i m)) bytes
  pub back : Stands (place_in m i) (cells (drop i m)) bytes
  pub total : place_in m i + length (cells (drop i m)) ≡ place_in m (length m)
  pub all : place_in m (length m) ≤ 4096
  pub both : length (take i m) + length (drop i m) ≡ length m

pub leaf-parts : (bytes : List ℕ) (i : ℕ) → IsLeaf bytes → IsParted bytes (entries_of bytes) i
leaf-parts bytes i h =
    let m = entries_of bytes in
    let e : cells m ≡ cells (take i m) ++ cells (drop i m) = ap cells (sym (take-append-drop i m)) ∙ cells-app (take i m) (drop i m) in
    let s = stands-split (16 + 2 * length m) (cells (take i m)) (cells (drop i m)) bytes (subst (λ t. Stands (16 + 2 * length m) t bytes) e h.holds.row) in
    let w : place_in m (length m) ≡ 16 + 2 * length m + length (cells m) = ap (λ t. 16 + 2 * length m + length (cells t)) (take_all (length m) m (omega arith)) in
    record {
      front = s.0;
      back = s.1;
      total = omega (arith, w, ap length e, length-append (cells (take i m)) (cells (drop i m)));
      all = omega (arith, w, h.holds.room);
      both = omega (arith, ap length (take-append-drop i m), length-append (take i m) (drop i m));
    }

pub row-of : (xs : List ℕ) (a b : Entries) (s : ℕ) → length xs ≡ 4096 → s ≡ 16 + 2 * length (a ++ b) → Stands s (cells a) xs → Stands (s + length (cells a)) (cells b) xs
    → size (a ++ b) ≤ 4080 → AreWithin (a ++ b) → Rises (a ++ b) → IsRow xs (a ++ b)
row-of xs a b s size e h i room limits rises = record {
  size = size;
  row = subst (λ t. Stands t (cells (a ++ b)) xs) e (subst (λ t. Stands s t xs) (sym (cells-app a b)) (stands-join s (cells a) (cells b) xs h i));
  room = omega (arith, cells-size (a ++ b), room);
  limits = limits;
  rises = rises;
}

pub insert-done : (old k v : List ℕ) (i n at end : ℕ) (s1 s2 s3 : List ℕ) → IsLeaf old → n ≡ length (entries_of old) → at ≡ place_in (entries_of old) i → end ≡ place_in (entries_of old) (length (entries_of old))
    → i ≡ rank (entries_of old) k → i ≤ length (entries_of old) → has (entries_of old) k ≡ false → 1 ≤ length k → length k ≤ 800 → length v ≤ 1024 → size (insert (entries_of old) i (k, v)) ≤ 4080
    → s1 ≡ pasted old (at + 6 + length k + length v) (block at (end - at) old)
    → s2 ≡ pasted s1 (16 + 2 * n + 2) (block (16 + 2 * n) (at - (16 + 2 * n)) s1)
    → s3 ≡ pasted s2 (at + 2) (cell (k, v)) → IsMoved old s3 (n + 1) (insert (entries_of old) i (k, v))
insert-done old k v i n at end s1 s2 s3 h en ea ee ei il hasnt k1 k2 v1 room q1 q2 q3 =
    let m = entries_of old in
    let c = cell (k, v) in
    let a = cells (take i m) in
    let b = cells (drop i m) in
    let s = 16 + 2 * n in
    let p = leaf-parts old i h in
    let es : s ≡ 16 + 2 * length m = omega (arith, en) in
    let ea' : at ≡ s + length a = omega (arith, es, ea) in
    let eb : end - at ≡ length b = omega (arith, ee, ea, p.total) in
    let cl : length c ≡ 4 + length k + length v = cell-length (k, v) in
    let sz = cells-size (insert m i (k, v)) in
    let ia : cells (insert m i (k, v)) ≡ a ++ (c ++ b) = cells-app (take i m) ((k, v) ∷ drop i m) in
    let il' : length (insert m i (k, v)) ≡ length m + 1 = omega (arith, length-append (take i m) ((k, v) ∷ drop i m), p.both) in
    let fits : at + 2 + length c + length b ≤ 4096 = omega (arith, ea', es, il', ap length ia, length-append a (c ++ b), length-append c b, sz, room) in
    let y1 : s1 ≡ pasted old (at + 6 + length k + length v) b = q1 ∙ ap (λ t. pasted old (at + 6 + length k + length v) t) (ap₂ (λ x y. block x y old) ea eb ∙ p.back) in
    let l1 : length s1 ≡ 4096 = put-length old (at + 6 + length k + length v) b y1 (omega (arith, cl, fits, h.size)) ∙ h.size in
    let a1 : Stands s a s1 = put-before old (at + 6 + length k + length v) b s a y1 (omega (arith, ea')) (omega (arith, fits, cl, h.size)) (subst (λ t. Stands t a old) (sym es) p.front) in
    let y2 : s2 ≡ pasted s1 (s + 2) a = q2 ∙ ap (λ t. pasted s1 (s + 2) t) (ap (λ t. block s t s1) (omega (arith, ea')) ∙ a1) in
    let l2 : length s2 ≡ 4096 = put-length s1 (s + 2) a y2 (omega (arith, l1, ea', fits)) ∙ l1 in
    let l3 : length s3 ≡ 4096 = put-length s2 (at + 2) c q3 (omega (arith, l2, fits)) ∙ l2 in
    let a3 : Stands (s + 2) a s3 = put-before s2 (at + 2) c (s + 2) a q3 (omega (arith, ea')) (omega (arith, l2, fits)) (put-same s1 (s + 2) a y2 (omega (arith, l1, ea', fits))) in
    let c3 : Stands (at + 2) c s3 = put-same s2 (at + 2) c q3 (omega (arith, l2, fits)) in
    let g : at + 6 + length k + length v ≡ at + 2 + length c = omega (arith, cl) in
    let b1 : Stands (at + 2 + length c) b s1 = subst (λ t. Stands t b s1) g (put-same old (at + 6 + length k + length v) b y1 (omega (arith, fits, cl, h.size))) in
    let b2 : Stands (at + 2 + length c) b s2 = put-after s1 (s + 2) a (at + 2 + length c) b y2 (omega (arith, ea')) (omega (arith, l1, ea', fits)) b1 in
    let b3 : Stands (at + 2 + length c) b s3 = put-after s2 (at + 2) c (at + 2 + length c) b q3 (omega arith) (omega (arith, l2, fits)) b2 in
    let f : at + 2 ≡ s + 2 + length a = omega (arith, ea') in
    moved old s3 (n + 1) (insert m i (k, v)) (omega (arith, il', en))
    (row-of s3 (take i m) ((k, v) ∷ drop i m) (s + 2) l3 (omega (arith, il', es)) a3 (subst (λ t. Stands t (c ++ b) s3) f (stands-join (at + 2) c b s3 c3 b3))
    room (AreWithin-insert k v m i k1 k2 v1 h.holds.limits) (subst (λ t. Rises (insert m t (k, v))) (sym ei) (rises-insert k v m h.holds.rises hasnt)))
    (put-next s2 (at + 2) c q3 (omega (arith, ea')) (omega (arith, l2, fits)) ∙ put-next s1 (s + 2) a y2 (omega arith) (omega (arith, l1, ea', fits))
    ∙ put-next old (at + 6 + length k + length v) b y1 (omega (arith, ea')) (omega (arith, fits, cl, h.size)))

pub remove-done : (old : List ℕ) (i n at to end : ℕ) (s1 s2 : List ℕ) → IsLeaf old → n ≡ length (entries_of old) → i < n → at ≡ place_in (entries_of old) i → to ≡ place_in (entries_of old) (suc i) → end ≡ place_in (entries_of old) (length (entries_of old))
    → s1 ≡ pasted old (16 + 2 * n - 2) (block (16 + 2 * n) (at - (16 + 2 * n)) old)
    → s2 ≡ pasted s1 (at - 2) (block to (end - to) s1) → IsMoved old s2 (n - 1) (remove (entries_of old) i)
remove-done old i n at to end s1 s2 h en il ea et ee q1 q2 =
    let m = entries_of old in
    let a = cells (take i m) in
    let b = cells (drop (suc i) m) in
    let s = 16 + 2 * n in
    let p = leaf-parts old i h in
    let p' = leaf-parts old (suc i) h in
    let pn = place-next m i ([], []) (omega (arith, en, il)) in
    let es : s ≡ 16 + 2 * length m = omega (arith, en) in
    let ea' : at ≡ s + length a = omega (arith, es, ea) in
    let ea'' : at - 2 ≡ 14 + 2 * n + length a = omega (arith, ea') in
    let eb : end - to ≡ length b = omega (arith, ee, et, p'.total) in
    let ab : at ≤ to = omega (arith, ea, et, pn) in
    let fits : to + length b ≤ 4096 = omega (arith, et, p'.total, p'.all) in
    let back : 16 + 2 * n - 2 ≡ 14 + 2 * n = omega arith in
    let y1 : s1 ≡ pasted old (14 + 2 * n) a = q1 ∙ ap₂ (λ x t. pasted old x t) back (ap₂ (λ x y. block x y old) es (omega (arith, ea')) ∙ p.front) in
    let l1 : length s1 ≡ 4096 = put-length old (14 + 2 * n) a y1 (omega (arith, h.size, ea', ab, fits)) ∙ h.size in
    let b1 : Stands to b s1 = put-after old (14 + 2 * n) a to b y1 (omega (arith, ea', ab)) (omega (arith, h.size, ea', ab, fits)) (subst (λ t. Stands t b old) (sym et) p'.back) in
    let y2 : s2 ≡ pasted s1 (at - 2) b = q2 ∙ ap (λ t. pasted s1 (at - 2) t) (ap (λ t. block to t s1) eb ∙ b1) in
    let l2 : length s2 ≡ 4096 = put-length s1 (at - 2) b y2 (omega (arith, l1, ab, fits)) ∙ l1 in
    let a2 : Stands (14 + 2 * n) a s2 = put-before s1 (at - 2) b (14 + 2 * n) a y2 (omega (arith, ea'')) (omega (arith, l1, ab, fits)) (put-same old (14 + 2 * n) a y1 (omega (arith, h.size, ea', ab, fits))) in
    let b2 : Stands (14 + 2 * n + length a) b s2 = subst (λ t. Stands t b s2) ea'' (put-same s1 (at - 2) b y2 (omega (arith, l1, ab, fits))) in
    let rl : length (remove m i) + 1 ≡ n = omega (arith, length-append (take i m) (drop (suc i) m), length-take-le i m (omega (arith, en, il)), length-drop (suc i) m, en, il) in
    let sz = cells-size (remove m i) in
    let ra : cells (remove m i) ≡ a ++ b = cells-app (take i m) (drop (suc i) m) in
    moved old s2 (n - 1) (remove m i) (omega (arith, rl))
    (row-of s2 (take i m) (drop (suc i) m) (14 + 2 * n) l2 (omega (arith, rl)) a2 b2 (omega (arith, sz, rl, ap length ra, length-append a b, ea', ab, fits)) (AreWithin-remove m i h.holds.limits) (Rises-remove m i h.holds.rises))
    (put-next s1 (at - 2) b y2 (omega (arith, ea'', il)) (omega (arith, l1, ab, fits)) ∙ put-next old (14 + 2 * n) a y1 (omega arith) (omega (arith, h.size, ea', ab, fits)))

-- cells from a place on are to be moved to a new one
pub record IsRoom (old : List ℕ) (s at end new : ℕ) : Type 0 where
  pub size : length old ≡ 4096
  pub order : at ≤ end
  pub start : s ≤ at
  pub all : end ≤ 4096
  pub room : new + (end - at) ≤ 4096

pub insert-room : (old k v : List ℕ) (i n at end : ℕ) → IsLeaf old → n ≡ length (entries_of old) → at ≡ place_in (entries_of old) i → end ≡ place_in (entries_of old) (length (entries_of old))
    → size (insert (entries_of old) i (k, v)) ≤ 4080 → IsRoom old (16 + 2 * n) at end (at + 6 + length k + length v)
insert-room old k v i n at end h en ea ee room =
    let m = entries_of old in
    let p = leaf-parts old i h in
    let c = cell (k, v) in
    let a = cells (take i m) in
    let b = cells (drop i m) in
    let cl : length c ≡ 4 + length k + length v = cell-length (k, v) in
    let ia : cells (insert m i (k, v)) ≡ a ++ (c ++ b) = cells-app (take i m) ((k, v) ∷ drop i m) in
    let il' : length (insert m i (k, v)) ≡ length m + 1 = omega (arith, length-append (take i m) ((k, v) ∷ drop i m), p.both) in
    record {
      size = h.size;
      order = omega (arith, ea, ee, p.total);
      start = omega (arith, ea, en);
      all = omega (arith, ee, p.all);
      room = omega (arith, ea, ee, en, p.total, il', ap length ia, length-append a (c ++ b), length-append c b, cells-size (insert m i (k, v)), cl, room);
    }

-- the places of a cell that is to be taken out
pub record IsGap (old : List ℕ) (s at to end : ℕ) : Type 0 where
  pub size : length old ≡ 4096
  pub start : s ≤ at
  pub order : at ≤ to
  pub last : to ≤ end
  pub all : end ≤ 4096

pub remove-room : (old : List ℕ) (i n at to end : ℕ) → IsLeaf old → n ≡ length (entries_of old) → i < n → at ≡ place_in (entries_of old) i → to ≡ place_in (entries_of old) (suc i) → end ≡ place_in (entries_of old) (length (entries_of old))
    → IsGap old (16 + 2 * n) at to end
remove-room old i n at to end h en il ea et ee =
    let m = entries_of old in
    let p' = leaf-parts old (suc i) h in
    let pn = place-next m i ([], []) (omega (arith, en, il)) in
    record {
      size = h.size;
      start = omega (arith, ea, en);
      order = omega (arith, ea, et, pn);
      last = omega (arith, et, ee, p'.total);
      all = omega (arith, ee, p'.all);
    }
