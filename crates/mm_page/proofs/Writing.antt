-- Slots that are written over cells that stand in their places.
use Rattle.std.proofs.Common.{◌≡◌, ℕ, zero, suc, ◌+◌, ◌*◌, ◌-◌, ◌≤◌, ◌<◌, List, [], ◌∷◌, ◌++◌, length, take, drop, replicate, get_or, refl, sym, ap, ap₂, ◌∙◌, subst, arith, append-nil}
use Rattle.std.proofs.lemmas.List.{length-take-le, drop_at, length-replicate, take_all, drop_all}
use Rattle.mm_keeper.specs.Entries.{Entries}
use Rattle.mm_page.specs.Leaf.{pasted, Stands, two, first_two, number_at, cells, slots, cell_end, entries_at, entries_of, Holds, IsLeaf, IsTidy, place_in, next_of}
use Rattle.mm_page.specs.Inside.Rows.{IsRow}
use Rattle.mm_page.proofs.Blocks.{stands-split, stands-join, stands-before, stands-after, pasted-more, pasted-after, pasted-before, pasted-same, pasted-length, next-same}
use Rattle.mm_page.proofs.Rows.{slots-length, slots-app, entries-back, entry-back, place-next, place-most, holds-entries, holds-leaf, cell-length, IsAt}

pub entries-length : (bytes : List ℕ) (n at : ℕ) → length (entries_at bytes n at) ≡ n
entries-length bytes zero at = refl
entries-length bytes (suc n) at = ap suc (entries-length bytes n (cell_end bytes at))

pub take-more : (m : Entries) (i : ℕ) (d : List ℕ × List ℕ) → i < length m → take (suc i) m ≡ take i m ++ (get_or m i d ∷ [])
take-more [] i d h = absurd (omega (arith, h))
take-more (e ∷ m) zero d h = refl
take-more (e ∷ m) (suc i) d h = ap (λ t. e ∷ t) (take-more m i d (omega (arith, h)))

pub slots-more : (at : ℕ) (m : Entries) (i : ℕ) → i < length m → slots at (take (suc i) m) ≡ slots at (take i m) ++ two (at + length (cells (take i m)))
slots-more at m i h = ap (λ t. slots at t) (take-more m i ([], []) h) ∙ slots-app at (take i m) (get_or m i ([], []) ∷ []) ∙ ap (λ t. slots at (take i m) ++ t) (append-nil (two (at + length (cells (take i m)))))

-- one more slot is written
pub record IsStep (old : List ℕ) (m : Entries) (s i at : ℕ) (bytes : List ℕ) : Type 0 where
  pub written : pasted bytes (16 + 2 * i) (two at) ≡ pasted old 16 (slots s (take (suc i) m))
  pub key : number_at at (pasted bytes (16 + 2 * i) (two at)) ≡ length (get_or m i ([], [])).0
  pub value : number_at (at + 2) (pasted bytes (16 + 2 * i) (two at)) ≡ length (get_or m i ([], [])).1
  pub room : at + 4 + length (get_or m i ([], [])).0 + length (get_or m i ([], [])).1 ≤ 4096
  pub next : at + 4 + length (get_or m i ([], [])).0 + length (get_or m i ([], [])).1 ≡ s + length (cells (take (suc i) m))
  pub long : length (pasted bytes (16 + 2 * i) (two at)) ≡ 4096
  pub was_long : length bytes ≡ 4096

pub slots-step : (old : List ℕ) (m : Entries) (s i at : ℕ) (bytes : List ℕ) → s ≡ 16 + 2 * length m → IsRow old m → i < length m → at ≡ s + length (cells (take i m))
    → bytes ≡ pasted old 16 (slots s (take i m)) → IsStep old m s i at bytes
slots-step old m s i at bytes q r h a b =
    let e = get_or m i ([], []) in
    let before = slots s (take i m) in
    let n : length before ≡ 2 * i = omega (arith, slots-length s (take i m), length-take-le i m (omega (arith, h))) in
    let behind = slots s (take (suc i) m) in
    let n' : length behind ≡ 2 * suc i = omega (arith, slots-length s (take (suc i) m), length-take-le (suc i) m (omega (arith, h))) in
    let w : pasted bytes (16 + 2 * i) (two at) ≡ pasted old 16 behind =
    ap₂ (λ x y. pasted x (16 + 2 * i) (two y)) b a ∙ pasted-more old 16 before (16 + 2 * i) (two (s + length (cells (take i m)))) (omega (arith, r.size)) (omega (arith, n))
    ∙ ap (λ t. pasted old 16 t) (sym (slots-more s m i h)) in
    let g : at ≡ place_in m i = omega (arith, q, a) in
    let c : IsAt old (place_in m i) e = entry-back old m i ([], []) r.row h in
    let p = place-next m i ([], []) h in
    let most = place-most m (suc i) in
    let read : (j : ℕ) → s ≤ j → number_at j (pasted bytes (16 + 2 * i) (two at)) ≡ number_at j old
    = λ j l. ap (λ t. number_at j t) w ∙ ap first_two (pasted-after j old 16 behind (omega (arith, n', h, l, q)) (omega (arith, r.size))) in
    record {
      written = w;
      key = read at (omega (arith, a)) ∙ ap (λ t. number_at t old) g ∙ c.key_length;
      value = read (at + 2) (omega (arith, a)) ∙ ap (λ t. number_at (t + 2) old) g ∙ c.value_length;
      room = omega (arith, g, p, most, r.room, cell-length e);
      next = omega (arith, g, p, q, cell-length e);
      long = ap length w ∙ pasted-length old 16 behind (omega (arith, n', h, r.size, r.room)) ∙ r.size;
      was_long = ap length b ∙ pasted-length old 16 before (omega (arith, n, h, r.size, r.room)) ∙ r.size;
    }

-- ---- a whole leaf

pub row-kept : (xs : List ℕ) (m : Entries) (at : ℕ) (ys : List ℕ) → at + length ys ≤ 16 + 2 * length m → IsRow xs m → IsRow (pasted xs at ys) m
row-kept xs m at ys h r = record {
  size = pasted-length xs at ys (omega (arith, h, r.size, r.room)) ∙ r.size;
  row = stands-after (16 + 2 * length m) (cells m) xs at ys h (omega (arith, h, r.size, r.room)) r.row;
  room = r.room;
  limits = r.limits;
  rises = r.rises;
}

pub row-read : (xs : List ℕ) (m : Entries) (n : ℕ) → n ≡ length m → IsRow xs m → entries_at xs n (16 + 2 * n) ≡ m
row-read xs m n e r = ap (λ t. entries_at xs t (16 + 2 * t)) e ∙ entries-back xs m (16 + 2 * length m) r.row

-- the row that is read from a place, where one is there
pub row-there : (xs : List ℕ) (m : Entries) (n : ℕ) → n ≡ length m → IsRow xs m → IsRow xs (entries_at xs n (16 + 2 * n))
row-there xs m n e r = subst (λ t. IsRow xs t) (sym (row-read xs m n e r)) r

-- what the head's writes make
abbrev pub headed : List ℕ → ℕ → List ℕ
headed xs n = pasted (pasted (pasted (pasted xs 0 (two 19456)) 2 (two n)) 12 (two 0)) 14 (two 0)

pub row-headed : (xs : List ℕ) (m : Entries) (n : ℕ) → IsRow xs m → IsRow (headed xs n) m
row-headed xs m n r =
    let a = row-kept xs m 0 (two 19456) (omega arith) r in
    let b = row-kept (pasted xs 0 (two 19456)) m 2 (two n) (omega arith) a in
    let c = row-kept (pasted (pasted xs 0 (two 19456)) 2 (two n)) m 12 (two 0) (omega arith) b in
    row-kept (pasted (pasted (pasted xs 0 (two 19456)) 2 (two n)) 12 (two 0)) m 14 (two 0) (omega arith) c

-- a write up to the end is all that is behind its place
rest-written : (xs : List ℕ) (at : ℕ) (ys : List ℕ) → at ≤ length xs → at + length ys ≡ length xs → drop at (pasted xs at ys) ≡ ys
rest-written xs at ys h e = drop_at (take at xs) (ys ++ drop (at + length ys) xs) at (length-take-le at xs h) ∙ ap (λ t. ys ++ t) (drop_all (at + length ys) xs (omega (arith, e))) ∙ append-nil ys

pub record IsFinished (old new : List ℕ) (m : Entries) : Type 0 where
  pub leaf : IsLeaf new
  pub entries : entries_of new ≡ m
  pub next : next_of new ≡ next_of old
  pub tidy : IsTidy new

pub finished : (xs : List ℕ) (m : Entries) (n end : ℕ) → n ≡ length m → end ≡ 16 + 2 * length m + length (cells m) → IsRow xs m
    → IsFinished xs (pasted (pasted (headed xs n) 16 (slots (16 + 2 * length m) m)) end (replicate (4096 - end) 0)) m
finished xs m n end e f r =
    let s = slots (16 + 2 * length m) m in
    let z : List ℕ = replicate (4096 - end) 0 in
    let x1 = pasted xs 0 (two 19456) in
    let x2 = pasted x1 2 (two n) in
    let x3 = pasted x2 12 (two 0) in
    let x4 = pasted x3 14 (two 0) in
    let x5 = pasted x4 16 s in
    let x6 = pasted x5 end z in
    let sl = slots-length (16 + 2 * length m) m in
    let l0 = r.size in
    let l1 : length x1 ≡ 4096 = pasted-length xs 0 (two 19456) (omega (arith, l0)) ∙ l0 in
    let l2 : length x2 ≡ 4096 = pasted-length x1 2 (two n) (omega (arith, l1)) ∙ l1 in
    let l3 : length x3 ≡ 4096 = pasted-length x2 12 (two 0) (omega (arith, l2)) ∙ l2 in
    let l4 : length x4 ≡ 4096 = pasted-length x3 14 (two 0) (omega (arith, l3)) ∙ l3 in
    let l5 : length x5 ≡ 4096 = pasted-length x4 16 s (omega (arith, l4, sl, r.room)) ∙ l4 in
    let zl : length z ≡ 4096 - end = length-replicate (4096 - end) 0 in
    let l6 : length x6 ≡ 4096 = pasted-length x5 end z (omega (arith, l5, zl, f, r.room)) ∙ l5 in
    -- from the first, second, .. write on
    let from5 : (j : ℕ) (a : List ℕ) → j + length a ≤ end → Stands j a x5 → Stands j a x6 = λ j a h k. stands-before j a x5 end z h (omega (arith, l5, f, r.room)) k in
    let from4 : (j : ℕ) (a : List ℕ) → j + length a ≤ 16 → Stands j a x4 → Stands j a x6 = λ j a h k. from5 j a (omega (arith, h, f)) (stands-before j a x4 16 s h (omega (arith, l4)) k) in
    let from2 : (j : ℕ) (a : List ℕ) → j + length a ≤ 12 → Stands j a x2 → Stands j a x6 = λ j a h k.
    from4 j a (omega (arith, h)) (stands-before j a x3 14 (two 0) (omega (arith, h)) (omega (arith, l3)) (stands-before j a x2 12 (two 0) h (omega (arith, l2)) k)) in
    let first : Stands 0 (two 19456) x6 = from2 0 (two 19456) (omega arith) (stands-before 0 (two 19456) x1 2 (two n) (omega arith) (omega (arith, l1)) (pasted-same xs 0 (two 19456) (omega arith))) in
    let ends = stands-split 0 (76 ∷ []) (0 ∷ []) x6 first in
    let h12 : Stands 12 (two 0) x6 = from4 12 (two 0) (omega arith) (stands-before 12 (two 0) x3 14 (two 0) (omega arith) (omega (arith, l3)) (pasted-same x2 12 (two 0) (omega (arith, l2)))) in
    let h14 : Stands 14 (two 0) x6 = from4 14 (two 0) (omega arith) (pasted-same x3 14 (two 0) (omega (arith, l3))) in
    let r4 : IsRow x4 m = row-headed xs m n r in
    let r5 : Stands (16 + 2 * length m) (cells m) x5 = stands-after (16 + 2 * length m) (cells m) x4 16 s (omega (arith, sl)) (omega (arith, l4)) r4.row in
    let held : Holds x6 m = record {
      sort = ends.0;
      count = subst (λ t. Stands 2 (two t) x6) e (from2 2 (two n) (omega arith) (pasted-same x1 2 (two n) (omega (arith, l1))));
      places = from5 16 s (omega (arith, sl, f)) (pasted-same x4 16 s (omega (arith, l4)));
      row = from5 (16 + 2 * length m) (cells m) (omega (arith, f)) r5;
      room = r.room;
      limits = r.limits;
      rises = r.rises;
    } in
    let es = holds-entries x6 m held in
    let pl : place_in (entries_of x6) (length (entries_of x6)) ≡ end = ap (λ t. place_in t (length t)) es ∙ ap (λ t. 16 + 2 * length m + length (cells t)) (take_all (length m) m (omega arith)) ∙ sym f in
    record {
      leaf = holds-leaf x6 m l6 held;
      entries = es;
      next = next-same x6 xs (pasted-before 4 8 x5 end z (omega (arith, f)) (omega (arith, l5, f, r.room)) ∙ pasted-before 4 8 x4 16 s (omega arith) (omega (arith, l4))
          ∙ pasted-before 4 8 x3 14 (two 0) (omega arith) (omega (arith, l3)) ∙ pasted-before 4 8 x2 12 (two 0) (omega arith) (omega (arith, l2))
          ∙ ap (λ t. take 8 t) (pasted-after 4 x1 2 (two n) (omega arith) (omega (arith, l1)) ∙ pasted-after 4 xs 0 (two 19456) (omega arith) (omega arith)));
      tidy = record {
        second = ends.1;
        head = stands-join 12 (two 0) (two 0) x6 h12 h14;
        rest = subst (λ t. drop t x6 ≡ replicate (4096 - t) 0) (sym pl) (rest-written x5 end z (omega (arith, l5, f, r.room)) (omega (arith, l5, zl, f, r.room)));
      };
    }

pub finish-all : (old : List ℕ) (n end : ℕ) (x4 x5 x6 : List ℕ) → IsRow old (entries_at old n (16 + 2 * n)) → x4 ≡ headed old n
    → x5 ≡ pasted x4 16 (slots (16 + 2 * n) (entries_at x4 n (16 + 2 * n))) → end ≡ 16 + 2 * n + length (cells (entries_at x4 n (16 + 2 * n)))
    → x6 ≡ pasted x5 end (replicate (length x5 - end) 0) → IsFinished old x6 (entries_at old n (16 + 2 * n))
finish-all old n end x4 x5 x6 r a b c d =
    let m = entries_at old n (16 + 2 * n) in
    let e : n ≡ length m = sym (entries-length old n (16 + 2 * n)) in
    let r4 : IsRow x4 m = subst (λ t. IsRow t m) (sym a) (row-headed old m n r) in
    let same : entries_at x4 n (16 + 2 * n) ≡ m = row-read x4 m n e r4 in
    let sl : length (slots (16 + 2 * n) m) ≡ 2 * n = omega (arith, slots-length (16 + 2 * n) m, e) in
    let l5 : length x5 ≡ 4096 = ap length b ∙ pasted-length x4 16 (slots (16 + 2 * n) (entries_at x4 n (16 + 2 * n))) (omega (arith, ap (λ t. length (slots (16 + 2 * n) t)) same, sl, r4.size, r.room, e)) ∙ r4.size in
    let y5 : x5 ≡ pasted (headed old n) 16 (slots (16 + 2 * length m) m) = b ∙ ap₂ (λ s t. pasted s 16 t) a (ap₂ (λ s t. slots (16 + 2 * s) t) e same) in
    let ye : end ≡ 16 + 2 * length m + length (cells m) = c ∙ ap₂ (λ s t. 16 + 2 * s + length (cells t)) e same in
    subst (λ t. IsFinished old t m) (sym (d ∙ ap₂ (λ s t. pasted s end (replicate (t - end) 0)) y5 l5)) (finished old m n end e ye r)

pub finish-room : (old : List ℕ) (n end : ℕ) (x4 x5 : List ℕ) → IsRow old (entries_at old n (16 + 2 * n)) → x4 ≡ headed old n
    → x5 ≡ pasted x4 16 (slots (16 + 2 * n) (entries_at x4 n (16 + 2 * n))) → end ≡ 16 + 2 * n + length (cells (entries_at x4 n (16 + 2 * n))) → end ≤ length x5
finish-room old n end x4 x5 r a b c =
    let m = entries_at old n (16 + 2 * n) in
    let e : n ≡ length m = sym (entries-length old n (16 + 2 * n)) in
    let r4 : IsRow x4 m = subst (λ t. IsRow t m) (sym a) (row-headed old m n r) in
    let same : entries_at x4 n (16 + 2 * n) ≡ m = row-read x4 m n e r4 in
    let sl : length (slots (16 + 2 * n) m) ≡ 2 * n = omega (arith, slots-length (16 + 2 * n) m, e) in
    let l5 : length x5 ≡ 4096 = ap length b ∙ pasted-length x4 16 (slots (16 + 2 * n) (entries_at x4 n (16 + 2 * n))) (omega (arith, ap (λ t. length (slots (16 + 2 * n) t)) same, sl, r4.size, r.room, e)) ∙ r4.size in
    omega (arith, l5, ap (λ t. length (cells t)) same, c, e, r.room)
