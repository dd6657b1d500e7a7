-- A leaf that was split: the rows of its two parts.
use Rattle.std.proofs.Common.{◌≡◌, ℕ, ◌+◌, ◌*◌, ◌-◌, ◌≤◌, List, length, take, drop, sym, ap, ap₂, ◌∙◌, subst, arith}
use Rattle.std.proofs.lemmas.List.{length-take-le, length-drop, take-append-drop}
use Rattle.mm_keeper.specs.Entries.{Rises}
use Rattle.mm_page.specs.Limits.{AreWithin}
use Rattle.mm_page.specs.Leaf.{block, pasted, Stands, cells, entries_of, IsLeaf, place_in}
use Rattle.mm_page.proofs.Blocks.{put-same, put-length, put-next}
use Rattle.mm_page.proofs.Moves.{IsMoved, moved, leaf-parts}
use Rattle.mm_keeper.specs.Facts.Keys.{Rises-parts}
use Rattle.mm_page.specs.Facts.Sizes.{AreWithin-parts}

-- the places of a split in front of cell i
pub record IsSplitting (old : List ℕ) (i n at end : ℕ) : Type 0 where
  pub size : length old ≡ 4096
  pub start : 16 + 2 * n ≤ at
  pub within : i ≤ n
  pub order : at ≤ end
  pub all : end ≤ 4096
  pub front : at - (16 + 2 * n) ≡ length (cells (take i (entries_of old)))
  pub back : end - at ≡ length (cells (drop i (entries_of old)))
  pub taken : length (take i (entries_of old)) ≡ i
  pub left : length (drop i (entries_of old)) ≡ n - i

pub splitting : (old : List ℕ) (i n at end : ℕ) → IsLeaf old → n ≡ length (entries_of old) → i ≤ length (entries_of old) → at ≡ place_in (entries_of old) i → end ≡ place_in (entries_of old) (length (entries_of old)) → IsSplitting old i n at end
splitting old i n at end h en il ea ee =
    let m = entries_of old in
    let p = leaf-parts old i h in
    record {
      size = h.size;
      start = omega (arith, ea, en);
      within = omega (arith, il, en);
      order = omega (arith, ea, ee, p.total);
      all = omega (arith, ee, p.all);
      front = omega (arith, ea, en);
      back = omega (arith, ea, ee, p.total);
      taken = length-take-le i m il;
      left = omega (arith, length-drop i m, en);
    }

pub back-done : (old fresh : List ℕ) (i n at end : ℕ) (s : List ℕ) → IsLeaf old → length fresh ≡ 4096 → n ≡ length (entries_of old) → at ≡ place_in (entries_of old) i → IsSplitting old i n at end
    → s ≡ pasted fresh (16 + 2 * (n - i)) (block at (end - at) old) → IsMoved fresh s (n - i) (drop i (entries_of old))
back-done old fresh i n at end s h size en ea w q =
    let m = entries_of old in
    let b = cells (drop i m) in
    let p = leaf-parts old i h in
    let to = 16 + 2 * (n - i) in
    let fits : to + length b ≤ 4096 = omega (arith, w.start, w.order, w.all, w.back, w.within) in
    let y : s ≡ pasted fresh to b = q ∙ ap (λ t. pasted fresh to t) (ap₂ (λ x y. block x y old) ea w.back ∙ p.back) in
    let et : to ≡ 16 + 2 * length (drop i m) = omega (arith, w.left) in
    moved fresh s (n - i) (drop i m) (sym w.left)
    (record {
      size = put-length fresh to b y (omega (arith, fits, size)) ∙ size;
      row = subst (λ t. Stands t b s) et (put-same fresh to b y (omega (arith, fits, size)));
      room = omega (arith, et, fits);
      limits = (AreWithin-parts (take i m) (drop i m) (subst (λ t. AreWithin t) (sym (take-append-drop i m)) h.holds.limits)).1;
      rises = (Rises-parts (take i m) (drop i m) (subst (λ t. Rises t) (sym (take-append-drop i m)) h.holds.rises)).1;
    })
    (put-next fresh to b y (omega arith) (omega (arith, fits, size)))

pub front-done : (old : List ℕ) (i n at end : ℕ) (s : List ℕ) → IsLeaf old → n ≡ length (entries_of old) → IsSplitting old i n at end
    → s ≡ pasted old (16 + 2 * i) (block (16 + 2 * n) (at - (16 + 2 * n)) old) → IsMoved old s i (take i (entries_of old))
front-done old i n at end s h en w q =
    let m = entries_of old in
    let a = cells (take i m) in
    let p = leaf-parts old i h in
    let to = 16 + 2 * i in
    let es : 16 + 2 * n ≡ 16 + 2 * length m = omega (arith, en) in
    let fits : to + length a ≤ 4096 = omega (arith, w.start, w.order, w.all, w.front, w.within) in
    let y : s ≡ pasted old to a = q ∙ ap (λ t. pasted old to t) (ap₂ (λ x y. block x y old) es w.front ∙ p.front) in
    let et : to ≡ 16 + 2 * length (take i m) = omega (arith, w.taken) in
    moved old s i (take i m) (sym w.taken)
    (record {
      size = put-length old to a y (omega (arith, fits, h.size)) ∙ h.size;
      row = subst (λ t. Stands t a s) et (put-same old to a y (omega (arith, fits, h.size)));
      room = omega (arith, et, fits);
      limits = (AreWithin-parts (take i m) (drop i m) (subst (λ t. AreWithin t) (sym (take-append-drop i m)) h.holds.limits)).0;
      rises = (Rises-parts (take i m) (drop i m) (subst (λ t. Rises t) (sym (take-append-drop i m)) h.holds.rises)).0;
    })
    (put-next old to a y (omega arith) (omega (arith, fits, h.size)))
