-- Blocks of a list, and what a write leaves of them.
use Rattle.std.proofs.Common.{◌≡◌, ℕ, ◌+◌, ◌-◌, ◌≤◌, List, ◌++◌, length, take, drop, refl, sym, ap, ap₂, ◌∙◌, subst, arith, append_assoc, zero-add}
use Rattle.std.proofs.lemmas.List.{length-take-le, length-drop, length-append, take-take, take_at, drop_at, drop-take, drop-drop, take-append-le, drop-append-le, take_all}
use Rattle.std.proofs.Math.Seq.{take-add}
use Rattle.byteorder.specs.Endian.{big_number}
use Rattle.byteorder.specs.Numbers.{big_from-take}
use Rattle.mm_page.specs.Leaf.{block, pasted, Stands, two, cell, next_of}

pub block-glue : (j k l : ℕ) (xs : List ℕ) → block j (k + l) xs ≡ block j k xs ++ block (j + k) l xs
block-glue j k l xs = take-add k l (drop j xs) ∙ ap (λ t. take k (drop j xs) ++ take l t) (drop-drop k j xs)

pub block-length : (j k : ℕ) (xs : List ℕ) → j + k ≤ length xs → length (block j k xs) ≡ k
block-length j k xs h = length-take-le k (drop j xs) (omega (arith, length-drop j xs, h))

-- a block of a block
pub block-in : (j k i l : ℕ) (xs : List ℕ) → i + l ≤ k → block i l (block j k xs) ≡ block (j + i) l xs
block-in j k i l xs h =
    let e : k ≡ i + (k - i) = omega arith in
    ap (λ t. take l (drop i (take t (drop j xs)))) e ∙ ap (λ t. take l t) (drop-take i (k - i) (drop j xs))
    ∙ take-take l (k - i) (drop i (drop j xs)) (omega (arith, h)) ∙ ap (λ t. take l t) (drop-drop i j xs)

pub pasted-length : (xs : List ℕ) (at : ℕ) (ys : List ℕ) → at + length ys ≤ length xs → length (pasted xs at ys) ≡ length xs
pasted-length xs at ys h = omega (arith, length-append (take at xs) (ys ++ drop (at + length ys) xs), length-append ys (drop (at + length ys) xs), length-take-le at xs (omega (arith, h)), length-drop (at + length ys) xs, h)

pub pasted-same : (xs : List ℕ) (at : ℕ) (ys : List ℕ) → at ≤ length xs → block at (length ys) (pasted xs at ys) ≡ ys
pasted-same xs at ys h = ap (λ t. take (length ys) t) (drop_at (take at xs) (ys ++ drop (at + length ys) xs) at (length-take-le at xs h)) ∙ take_at ys (drop (at + length ys) xs) (length ys) refl

pub pasted-before : (j k : ℕ) (xs : List ℕ) (at : ℕ) (ys : List ℕ) → j + k ≤ at → at ≤ length xs → block j k (pasted xs at ys) ≡ block j k xs
pasted-before j k xs at ys h l =
    let n : length (take at xs) ≡ at = length-take-le at xs l in
    ap (λ t. take k t) (drop-append-le j (take at xs) (ys ++ drop (at + length ys) xs) (omega (arith, n, h)))
    ∙ take-append-le k (drop j (take at xs)) (ys ++ drop (at + length ys) xs) (omega (arith, length-drop j (take at xs), n, h))
    ∙ block-in 0 at j k xs h ∙ ap (λ t. block t k xs) (zero-add j)

pub pasted-after : (j : ℕ) (xs : List ℕ) (at : ℕ) (ys : List ℕ) → at + length ys ≤ j → at ≤ length xs → drop j (pasted xs at ys) ≡ drop j xs
pasted-after j xs at ys h l =
    let n : length (take at xs) ≡ at = length-take-le at xs l in
    let e : j ≡ at + (length ys + (j - at - length ys)) = omega (arith, h) in
    let f : at + length ys + (j - at - length ys) ≡ j = omega (arith, h) in
    ap (λ t. drop t (pasted xs at ys)) e
    ∙ sym (drop-drop (length ys + (j - at - length ys)) at (pasted xs at ys))
    ∙ ap (λ t. drop (length ys + (j - at - length ys)) t) (drop_at (take at xs) (ys ++ drop (at + length ys) xs) at n)
    ∙ sym (drop-drop (j - at - length ys) (length ys) (ys ++ drop (at + length ys) xs))
    ∙ ap (λ t. drop (j - at - length ys) t) (drop_at ys (drop (at + length ys) xs) (length ys) refl)
    ∙ drop-drop (j - at - length ys) (at + length ys) xs
    ∙ ap (λ t. drop t xs) f

-- ---- what stands at a place

pub stands-split : (j : ℕ) (a b xs : List ℕ) → Stands j (a ++ b) xs → Stands j a xs × Stands (j + length a) b xs
stands-split j a b xs h =
    let l = length-append a b in
    let z : j + 0 ≡ j = omega arith in (
      ap (λ t. block t (length a) xs) (sym z) ∙ sym (block-in j (length (a ++ b)) 0 (length a) xs (omega (arith, l))) ∙ ap (λ t. block 0 (length a) t) h ∙ take_at a b (length a) refl,
      sym (block-in j (length (a ++ b)) (length a) (length b) xs (omega (arith, l))) ∙ ap (λ t. block (length a) (length b) t) h
          ∙ ap (λ t. take (length b) t) (drop_at a b (length a) refl) ∙ take_all (length b) b (omega arith),
    )

pub stands-join : (j : ℕ) (a b xs : List ℕ) → Stands j a xs → Stands (j + length a) b xs → Stands j (a ++ b) xs
stands-join j a b xs h i = ap (λ t. block j t xs) (length-append a b) ∙ block-glue j (length a) (length b) xs ∙ ap₂ (λ s t. s ++ t) h i

pub stands-before : (j : ℕ) (a xs : List ℕ) (at : ℕ) (ys : List ℕ) → j + length a ≤ at → at ≤ length xs → Stands j a xs → Stands j a (pasted xs at ys)
stands-before j a xs at ys h l s = pasted-before j (length a) xs at ys h l ∙ s

pub stands-after : (j : ℕ) (a xs : List ℕ) (at : ℕ) (ys : List ℕ) → at + length ys ≤ j → at ≤ length xs → Stands j a xs → Stands j a (pasted xs at ys)
stands-after j a xs at ys h l s = ap (λ t. take (length a) t) (pasted-after j xs at ys h l) ∙ s

pub pasted-more : (xs : List ℕ) (at : ℕ) (ys : List ℕ) (to : ℕ) (zs : List ℕ) → at ≤ length xs → to ≡ at + length ys → pasted (pasted xs at ys) to zs ≡ pasted xs at (ys ++ zs)
pasted-more xs at ys to zs l e =
    let n : length (take at xs) ≡ at = length-take-le at xs l in
    let m : length (take at xs ++ ys) ≡ to = omega (arith, length-append (take at xs) ys, n, e) in
    let w : pasted xs at ys ≡ (take at xs ++ ys) ++ drop (at + length ys) xs = sym (append_assoc (take at xs) ys (drop (at + length ys) xs)) in
    let f : to + length zs ≡ at + length (ys ++ zs) = omega (arith, length-append ys zs, e) in
    ap₂ (λ s t. s ++ (zs ++ t)) (ap (λ t. take to t) w ∙ take_at (take at xs ++ ys) (drop (at + length ys) xs) to m)
    (pasted-after (to + length zs) xs at ys (omega (arith, e)) l ∙ ap (λ t. drop t xs) f)
    ∙ append_assoc (take at xs) ys (zs ++ drop (at + length (ys ++ zs)) xs)
    ∙ ap (λ t. take at xs ++ t) (sym (append_assoc ys zs (drop (at + length (ys ++ zs)) xs)))

-- ---- the same of a list that is known to be what a write left

pub put-same : {s : List ℕ} (xs : List ℕ) (at : ℕ) (ys : List ℕ) → s ≡ pasted xs at ys → at ≤ length xs → Stands at ys s
put-same xs at ys e l = subst (λ t. Stands at ys t) (sym e) (pasted-same xs at ys l)

pub put-before : {s : List ℕ} (xs : List ℕ) (at : ℕ) (ys : List ℕ) (j : ℕ) (a : List ℕ) → s ≡ pasted xs at ys → j + length a ≤ at → at ≤ length xs → Stands j a xs → Stands j a s
put-before xs at ys j a e h l k = subst (λ t. Stands j a t) (sym e) (stands-before j a xs at ys h l k)

pub put-after : {s : List ℕ} (xs : List ℕ) (at : ℕ) (ys : List ℕ) (j : ℕ) (a : List ℕ) → s ≡ pasted xs at ys → at + length ys ≤ j → at ≤ length xs → Stands j a xs → Stands j a s
put-after xs at ys j a e h l k = subst (λ t. Stands j a t) (sym e) (stands-after j a xs at ys h l k)

pub put-length : {s : List ℕ} (xs : List ℕ) (at : ℕ) (ys : List ℕ) → s ≡ pasted xs at ys → at + length ys ≤ length xs → length s ≡ length xs
put-length xs at ys e h = ap length e ∙ pasted-length xs at ys h

-- the next number is that of its eight bytes
next-read : (xs : List ℕ) → next_of xs ≡ big_number 8 (block 4 8 xs)
next-read xs = sym (big_from-take 0 8 8 (drop 4 xs) (omega arith))

pub next-same : (xs ys : List ℕ) → block 4 8 xs ≡ block 4 8 ys → next_of xs ≡ next_of ys
next-same xs ys h = next-read xs ∙ ap (λ t. big_number 8 t) h ∙ sym (next-read ys)

pub put-next : {s : List ℕ} (xs : List ℕ) (at : ℕ) (ys : List ℕ) → s ≡ pasted xs at ys → 12 ≤ at → at ≤ length xs → next_of s ≡ next_of xs
put-next xs at ys e h l = ap next_of e ∙ next-same (pasted xs at ys) xs (pasted-before 4 8 xs at ys h l)

pub cell-written : {s1 s2 s3 s4 : List ℕ} (xs : List ℕ) (at : ℕ) (k v : List ℕ) → at ≤ length xs
    → s1 ≡ pasted xs at (two (length k)) → s2 ≡ pasted s1 (at + 2) (two (length v)) → s3 ≡ pasted s2 (at + 4) k → s4 ≡ pasted s3 (at + 4 + length k) v
    → s4 ≡ pasted xs at (cell (k, v))
cell-written xs at k v l a b c d =
    let w2 = b ∙ ap (λ t. pasted t (at + 2) (two (length v))) a ∙ pasted-more xs at (two (length k)) (at + 2) (two (length v)) l refl in
    let w3 = c ∙ ap (λ t. pasted t (at + 4) k) w2 ∙ pasted-more xs at (two (length k) ++ two (length v)) (at + 4) k l refl in
    d ∙ ap (λ t. pasted t (at + 4 + length k) v) w3 ∙ pasted-more xs at ((two (length k) ++ two (length v)) ++ k) (at + 4 + length k) v l (omega arith)
