-- The empty leaf, the number of the next one, and page 0.
use Rattle.std.proofs.Common.{◌≡◌, ℕ, zero, suc, ◌+◌, ◌*◌, ◌^◌, ◌-◌, ◌≤◌, ◌<◌, List, [], ◌∷◌, ◌++◌, length, take, drop, replicate, slice_index, refl, ap, ap₂, ◌∙◌, arith}
use Rattle.std.proofs.lemmas.List.{length-append, length-replicate, length-take-le, drop_at, drop-replicate}
use Rattle.byteorder.specs.Endian.{big_from, big_number, big_bytes}
use Rattle.byteorder.specs.Numbers.{big_number-reads_back}
use Rattle.mm_page.specs.Leaf.{pasted, two, cells, slots, entries_of, next_of, Holds, IsLeaf}
use Rattle.mm_page.specs.Inside.Rows.{IsRow}
use Rattle.mm_page.proofs.Blocks.{pasted-more, pasted-length, stands-before, stands-after}
use Rattle.mm_page.proofs.Rows.{holds-entries, holds-leaf}

zero-there : (i k : ℕ) → slice_index (replicate k 0) i ≡ 0
zero-there i zero = refl
zero-there zero (suc k) = refl
zero-there (suc i) (suc k) = zero-there i k

zeros-number : (i n k : ℕ) → big_from i n (replicate k 0) ≡ 0
zeros-number i zero k = refl
zeros-number i (suc n) k = ap₂ (λ s t. s * 256 ^ n + t) (zero-there i k) (zeros-number (suc i) n k) ∙ omega arith

pub zeros-next : (k : ℕ) → next_of (replicate k 0) ≡ 0
zeros-next k = ap (λ t. big_number 8 t) (drop-replicate 4 k 0) ∙ zeros-number 0 8 (k - 4)

pub zeros-row : IsRow (replicate 4096 0) []
zeros-row = record { size = length-replicate {A = ℕ} 4096 0; row = refl; room = omega arith; limits = tt; rises = tt }

pub record IsLinked (old new : List ℕ) (number : ℕ) : Type 0 where
  pub leaf : IsLeaf new
  pub entries : entries_of new ≡ entries_of old
  pub next : next_of new ≡ number

pub linked : (old : List ℕ) (next : ℕ) → next < 256 ^ 8 → length (big_bytes 8 next) ≡ 8 → IsLeaf old → IsLinked old (pasted old 4 (big_bytes 8 next)) next
linked old next b l h =
    let m = entries_of old in
    let ys = big_bytes 8 next in
    let new = pasted old 4 ys in
    let in_front : 4 ≤ length old = omega (arith, h.size) in
    let size : length new ≡ 4096 = pasted-length old 4 ys (omega (arith, l, h.size)) ∙ h.size in
    let held : Holds new m = record {
      sort = stands-before 0 (76 ∷ []) old 4 ys (omega arith) in_front h.holds.sort;
      count = stands-before 2 (two (length m)) old 4 ys (omega arith) in_front h.holds.count;
      places = stands-after 16 (slots (16 + 2 * length m) m) old 4 ys (omega (arith, l)) in_front h.holds.places;
      row = stands-after (16 + 2 * length m) (cells m) old 4 ys (omega (arith, l)) in_front h.holds.row;
      room = h.holds.room;
      limits = h.holds.limits;
      rises = h.holds.rises;
    } in
    record {
      leaf = holds-leaf new m size held;
      entries = holds-entries new m held;
      next = ap (λ t. big_number 8 t) (drop_at (take 4 old) (ys ++ drop (4 + length ys) old) 4 (length-take-le 4 old in_front))
          ∙ big_number-reads_back 8 next (drop (4 + length ys) old) b;
    }

pub header-written : (a b c s1 s2 s3 : List ℕ) → length a ≡ 8 → length b ≡ 8 → length c ≡ 8 → s1 ≡ pasted (replicate 4096 0) 0 a → s2 ≡ pasted s1 8 b → s3 ≡ pasted s2 16 c → s3 ≡ ((a ++ b) ++ c) ++ replicate 4072 0
header-written a b c s1 s2 s3 la lb lc q1 q2 q3 =
    let z : List ℕ = replicate 4096 0 in
    let w2 : s2 ≡ pasted z 0 (a ++ b) = q2 ∙ ap (λ t. pasted t 8 b) q1 ∙ pasted-more z 0 a 8 b (omega arith) (omega (arith, la)) in
    let w3 : s3 ≡ pasted z 0 ((a ++ b) ++ c) = q3 ∙ ap (λ t. pasted t 16 c) w2 ∙ pasted-more z 0 (a ++ b) 16 c (omega arith) (omega (arith, length-append a b, la, lb)) in
    let n : 0 + length ((a ++ b) ++ c) ≡ 24 = omega (arith, length-append (a ++ b) c, length-append a b, la, lb, lc) in
    w3 ∙ ap (λ t. ((a ++ b) ++ c) ++ t) (ap (λ t. drop t z) n ∙ drop-replicate 24 4096 0)
