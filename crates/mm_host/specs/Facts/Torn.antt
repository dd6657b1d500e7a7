-- What a crash leaves of a write that it cuts short, and of the sync behind it.
use Rattle.std.proofs.Common.{◌≡◌, ◌≤◌, ◌<◌, ◌+◌, ℕ, List, [], ◌∷◌, length, get_or, max, ap, sym, subst, ◌∙◌, arith, ◌⊎◌, inl, inr, refl}
use Rattle.std.proofs.lemmas.List.{ext_get_or}
use Rattle.mm_host.specs.declared.area.Area.{Area}
use Rattle.mm_host.specs.declared.area.Area.TheVariants.{Pages, Journal}
use Rattle.mm_host.specs.Disk.{Range, AreaState, DiskState, Image, IsImage, MayLeave, IsOutside, IsSynced, IsWrittenInPart, IsCutShort, TornLeaves, area_of, with_area, image_now, furthest, put_bytes, after_read, after_write, after_sync, torn}
use Rattle.mm_host.specs.Facts.Replay.{length-put}

furthest-wide : (n m e : ℕ) (rs : List Range) → n ≤ max e m → furthest n rs ≤ max e (furthest m rs)
furthest-wide n m e [] le = le
furthest-wide n m e (r ∷ rs) le = let ih = furthest-wide n m e rs le in omega (arith, ih)

torn-before : (a : AreaState) (at n : ℕ) (c : List ℕ) → IsImage a c → IsImage (torn a at n) c
torn-before a at n c i = record {
  no_shorter = i.no_shorter;
  no_longer = omega (arith, i.no_longer);
  same = λ k h o. i.same k h o.1;
}

torn-written : (a : AreaState) (at : ℕ) (bytes c : List ℕ) → IsImage (after_write a at bytes) c → IsImage (torn a at (length bytes)) c
torn-written a at bytes c i = record {
  no_shorter = i.no_shorter;
  no_longer = omega (arith, i.no_longer, furthest-wide (length (put_bytes a.now at bytes)) (length a.now) (at + length bytes) a.loose (omega (arith, length-put a.now at bytes)));
  same = i.same;
}

torn-part : (a new : AreaState) (at n : ℕ) (c : List ℕ) → IsWrittenInPart at n a new → IsImage new c → IsImage (torn a at n) c
torn-part a new at n c p i = record {
  no_shorter = subst (λ (l : List ℕ). length l ≤ length c) p.stable i.no_shorter;
  no_longer = omega (arith, subst (λ l. length c ≤ furthest (length new.now) l) p.loose i.no_longer, furthest-wide (length new.now) (length a.now) (at + n) a.loose (omega (arith, p.no_longer)));
  same = λ k h o. i.same k (subst (λ (l : List ℕ). k < length l) (sym p.stable) h) (subst (λ l. IsOutside l k) (sym p.loose) o) ∙ ap (λ (l : List ℕ). get_or l k 0) p.stable;
}

-- of an area that is all stable a crash leaves what a read gives
pub synced-image : (a : AreaState) (c : List ℕ) → IsSynced a → IsImage a c → c ≡ a.now
synced-image a c q i =
    let long : length a.stable ≡ length a.now = ap (λ (l : List ℕ). length l) q.stable in
    let near : length c ≤ length a.now = subst (λ l. length c ≤ furthest (length a.now) l) q.loose i.no_longer in
    ext_get_or 0 c a.now (omega (arith, i.no_shorter, long, near))
    (λ k h. i.same k (omega (arith, h, long, near)) (subst (λ l. IsOutside l k) (sym q.loose) tt) ∙ ap (λ (l : List ℕ). get_or l k 0) q.stable)

-- after a good sync
pub after_sync-synced : (a b : AreaState) → b ≡ after_sync a → IsSynced b
after_sync-synced a b e = record { stable = ap (λ (s : AreaState). s.stable) e ∙ sym (ap (λ (s : AreaState). s.now) e); loose = ap (λ (s : AreaState). s.loose) e }

-- before the write
pub leaves-before : (s : DiskState) (area : Area) (at n : ℕ) (i : Image) → MayLeave s i → TornLeaves s area at n i
leaves-before s Pages at n i m = record { pages = torn-before s.pages at n i.pages m.pages; journal = m.journal }
leaves-before s Journal at n i m = record { pages = m.pages; journal = torn-before s.journal at n i.journal m.journal }

-- after one that failed
pub leaves-part : {P : Type 0} (s s' : DiskState) (area : Area) (at n : ℕ) (i : Image) → IsCutShort area at n s s' ⊎ ((s' ≡ s) × P) → MayLeave s' i → TornLeaves s area at n i
leaves-part s s' area at n i (inr (same, p)) may = leaves-before s area at n i (subst (λ d. MayLeave d i) same may)
leaves-part s s' Pages at n i (inl (a, is, part)) may = let m = subst (λ d. MayLeave d i) is may in record { pages = torn-part s.pages a at n i.pages part m.pages; journal = m.journal }
leaves-part s s' Journal at n i (inl (a, is, part)) may = let m = subst (λ d. MayLeave d i) is may in record { pages = m.pages; journal = torn-part s.journal a at n i.journal part m.journal }

-- after a good one
pub leaves-written : (s s' : DiskState) (area : Area) (at : ℕ) (bytes : List ℕ) (i : Image) → s' ≡ with_area s area (after_write (area_of s area) at bytes) → MayLeave s' i → TornLeaves s area at (length bytes) i
leaves-written s s' Pages at bytes i is may = let m = subst (λ d. MayLeave d i) is may in record { pages = torn-written s.pages at bytes i.pages m.pages; journal = m.journal }
leaves-written s s' Journal at bytes i is may = let m = subst (λ d. MayLeave d i) is may in record { pages = m.pages; journal = torn-written s.journal at bytes i.journal m.journal }

-- after a good sync a crash leaves what it might have left before
pub leaves-synced : (s s' : DiskState) (area : Area) (i : Image) → s' ≡ with_area s area (after_sync (area_of s area)) → MayLeave s (image_now s) → MayLeave s' i → MayLeave s i
leaves-synced s s' Pages i is here may =
    let m = subst (λ d. MayLeave d i) is may in
    let same : i.pages ≡ s.pages.now = synced-image (after_sync s.pages) i.pages (after_sync-synced s.pages (after_sync s.pages) refl) m.pages in
    record { pages = subst (λ l. IsImage s.pages l) (sym same) here.pages; journal = m.journal }
leaves-synced s s' Journal i is here may =
    let m = subst (λ d. MayLeave d i) is may in
    let same : i.journal ≡ s.journal.now = synced-image (after_sync s.journal) i.journal (after_sync-synced s.journal (after_sync s.journal) refl) m.journal in
    record { pages = m.pages; journal = subst (λ l. IsImage s.journal l) (sym same) here.journal }

-- a good read changes nothing of it
pub leaves-read : (s s' : DiskState) (i : Image) → s' ≡ after_read s → MayLeave s' i → MayLeave s i
leaves-read s s' i is may = let m = subst (λ d. MayLeave d i) is may in record { pages = m.pages; journal = m.journal }
