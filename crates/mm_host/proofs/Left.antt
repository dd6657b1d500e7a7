-- What a crash leaves of an area, by the calls before it.
use Rattle.std.proofs.Common.{◌≡◌, ◌≤◌, ◌<◌, ◌+◌, ◌-◌, ◌⊎◌, ℕ, zero, suc, Bool, true, false, cond, List, [], ◌∷◌, ◌++◌, length, take, drop, get_or, refl, sym, ap, subst, ◌∙◌, inl, inr, arith, length-append, length-take, replicate, Result, Ok, Err}
use Rattle.std.specs.Prelude.{nat_lt, nat_le, IfOk}
use Rattle.std.proofs.lemmas.Bool.Decides.{nat_tests}
use Rattle.std.proofs.lemmas.List.{take_all, take-append-le, append-nil, append_assoc, length-replicate, take-append-drop, drop-drop, drop_all, drop_more, take_more, take-replicate}
use Rattle.mm_host.specs.Disk.{Range, IsSynced, AreaState, DiskState, Image, IsImage, MayLeave, IsInside, IsOutside, area_of, fresh_area, fresh_disk, image_now, furthest, put_bytes, range_at}
use Rattle.mm_host.specs.MemoryDisk.{Past, MemDiskState, IsDue, after_ok, Piece, put_of, after_put, after_call, after_calls, state_of, noted, bytes_in, same_area, syncs, is_synced, unsynced, with_front, IsFilled, IsLeft}
use Rattle.mm_host.specs.Inside.Holding.{AreaBytes, FollowsFromCalls, past_of, put_in, bytes_after, bytes_after_all, ranges_after, ranges_after_all, IsLast, is_in, is_inside}
use Rattle.mm_host.specs.Facts.Replay.{length-put, put-outside, length-put_of, furthest-least, furthest-grows, after-append, after-noted, now-left}
use Rattle.mm_host.specs.declared.area.Area.{Area}
use Rattle.mm_host.specs.declared.area.Area.TheVariants.{Pages, Journal}
use Rattle.mm_host.specs.declared.call.Call.{Call}
use Rattle.mm_host.specs.declared.call.Call.TheVariants.{Other, Read, Write, Sync}
use Rattle.mm_host.specs.declared.pick.Pick.{Pick}
use Rattle.mm_host.specs.declared.pick.Pick.TheVariants.{Lost, Kept, Filled, Front}

fresh-area : (i : Image) (area : Area) → area_of (fresh_disk i) area ≡ fresh_area (bytes_in i area)
fresh-area i Pages = refl
fresh-area i Journal = refl

-- an area that was just made, or synced, is all stable
fresh-synced : (i : Image) (area : Area) → IsSynced (area_of (fresh_disk i) area)
fresh-synced i area = record { stable = ap (λ (a : AreaState). a.stable) (fresh-area i area) ∙ sym (ap (λ (a : AreaState). a.now) (fresh-area i area)); loose = ap (λ (a : AreaState). a.loose) (fresh-area i area) }

call-now : (s : DiskState) (c : Call) (area : Area) → (area_of (after_call s c) area).now ≡ bytes_after area c (area_of s area).now
call-now s Other area = refl
call-now s Read Pages = refl
call-now s Read Journal = refl
call-now s (Write Pages at bytes failed) Pages = refl
call-now s (Write Pages at bytes failed) Journal = refl
call-now s (Write Journal at bytes failed) Pages = refl
call-now s (Write Journal at bytes failed) Journal = refl
call-now s (Sync Pages) Pages = refl
call-now s (Sync Pages) Journal = refl
call-now s (Sync Journal) Pages = refl
call-now s (Sync Journal) Journal = refl

calls-now : (s : DiskState) (cs : List Call) (area : Area) → (area_of (after_calls s cs) area).now ≡ bytes_after_all area cs (area_of s area).now
calls-now s [] area = refl
calls-now s (c ∷ cs) area = calls-now (after_call s c) cs area ∙ ap (bytes_after_all area cs) (call-now s c area)

call-stable : (s : DiskState) (c : Call) (area : Area) → syncs area c ≡ false → (area_of (after_call s c) area).stable ≡ (area_of s area).stable
call-stable s Other area e = refl
call-stable s Read Pages e = refl
call-stable s Read Journal e = refl
call-stable s (Write Pages at bytes failed) Pages e = refl
call-stable s (Write Pages at bytes failed) Journal e = refl
call-stable s (Write Journal at bytes failed) Pages e = refl
call-stable s (Write Journal at bytes failed) Journal e = refl
call-stable s (Sync Pages) Pages e = absurd cc
call-stable s (Sync Pages) Journal e = refl
call-stable s (Sync Journal) Pages e = refl
call-stable s (Sync Journal) Journal e = absurd cc

call-loose : (s : DiskState) (c : Call) (area : Area) → syncs area c ≡ false → (area_of (after_call s c) area).loose ≡ ranges_after area c (area_of s area).loose
call-loose s Other area e = refl
call-loose s Read Pages e = refl
call-loose s Read Journal e = refl
call-loose s (Write Pages at bytes failed) Pages e = refl
call-loose s (Write Pages at bytes failed) Journal e = refl
call-loose s (Write Journal at bytes failed) Pages e = refl
call-loose s (Write Journal at bytes failed) Journal e = refl
call-loose s (Sync Pages) Pages e = absurd cc
call-loose s (Sync Pages) Journal e = refl
call-loose s (Sync Journal) Pages e = refl
call-loose s (Sync Journal) Journal e = absurd cc

call-synced : (s : DiskState) (c : Call) (area : Area) → syncs area c ≡ true → IsSynced (area_of (after_call s c) area)
call-synced s Other area e = absurd cc
call-synced s Read area e = absurd cc
call-synced s (Write written at bytes failed) area e = absurd cc
call-synced s (Sync Pages) Pages e = record { stable = refl; loose = refl }
call-synced s (Sync Pages) Journal e = absurd cc
call-synced s (Sync Journal) Pages e = absurd cc
call-synced s (Sync Journal) Journal e = record { stable = refl; loose = refl }

-- where no call made sure of the area, the first of them didn't, nor did those behind it
neither : (area : Area) (c : Call) (cs : List Call) → is_synced area (c ∷ cs) ≡ false → (syncs area c ≡ false) × (is_synced area cs ≡ false)
neither area c cs e = by (syncs area c) refl e
  where
    by : (b : Bool) → syncs area c ≡ b → cond b true (is_synced area cs) ≡ false → (syncs area c ≡ false) × (is_synced area cs ≡ false)
    by true q e = absurd cc
    by false q e = (q, e)

calls-stable : (s : DiskState) (cs : List Call) (area : Area) → is_synced area cs ≡ false → (area_of (after_calls s cs) area).stable ≡ (area_of s area).stable
calls-stable s [] area e = refl
calls-stable s (c ∷ cs) area e = let n = neither area c cs e in calls-stable (after_call s c) cs area n.1 ∙ call-stable s c area n.0

calls-loose : (s : DiskState) (cs : List Call) (area : Area) → is_synced area cs ≡ false → (area_of (after_calls s cs) area).loose ≡ ranges_after_all area cs (area_of s area).loose
calls-loose s [] area e = refl
calls-loose s (c ∷ cs) area e = let n = neither area c cs e in calls-loose (after_call s c) cs area n.1 ∙ ap (ranges_after_all area cs) (call-loose s c area n.0)

last-synced : (s : DiskState) (cs : List Call) (area : Area) (from : ℕ) → IsSynced (area_of s area) → IsLast area cs from → IsSynced (area_of (after_calls s (take from cs)) area)
last-synced s cs area zero quiet last = quiet
last-synced s cs area (suc k) quiet last =
    let within : k < length cs = omega (arith, last.within) in
    let c = get_or cs k Other in
    let split : drop k cs ≡ c ∷ drop (k + 1) cs = drop_more cs k Other within in
    let here : is_synced area (c ∷ drop (k + 1) cs) ≡ true = subst (λ (l : List Call). is_synced area l ≡ true) split (last.before k (omega arith)) in
    let behind : is_synced area (drop (k + 1) cs) ≡ false = last.behind (k + 1) (omega arith) in
    let one_more : suc k ≡ k + 1 = omega arith in
    let front : take (suc k) cs ≡ take k cs ++ c ∷ [] = ap (λ (n : ℕ). take n cs) one_more ∙ take_more cs k Other within in
    subst (λ (l : List Call). IsSynced (area_of (after_calls s l) area)) (sym front)
    (subst (λ (d : DiskState). IsSynced (area_of d area)) (sym (after-append s (take k cs) (c ∷ []))) (call-synced (after_calls s (take k cs)) c area (first area c (drop (k + 1) cs) here behind)))
  where
    first : (area : Area) (c : Call) (rest : List Call) → is_synced area (c ∷ rest) ≡ true → is_synced area rest ≡ false → syncs area c ≡ true
    first area c rest e behind = by (syncs area c) refl e
      where
        by : (b : Bool) → syncs area c ≡ b → cond b true (is_synced area rest) ≡ true → syncs area c ≡ true
        by true q e = q
        by false q e = absurd cc

module _ (past : Past) (area : Area) (made : List ℕ) (cs : List Call) (is_made : bytes_in past.made area ≡ made) (are_calls : past.calls ≡ cs) where
  made-now : (area_of (fresh_disk past.made) area).now ≡ made
  made-now = ap (λ (a : AreaState). a.now) (fresh-area past.made area) ∙ is_made

  -- what a read gives is what the calls put
  pub kept-bytes : (bytes : List ℕ) → bytes ≡ bytes_after_all area cs made → bytes ≡ (area_of (state_of past) area).now
  kept-bytes bytes e =
      e ∙ ap (bytes_after_all area cs) (sym made-now) ∙ sym (calls-now (fresh_disk past.made) cs area)
      ∙ ap (λ (l : List Call). (area_of (after_calls (fresh_disk past.made) l) area).now) (sym are_calls)

  module _ (from : ℕ) (last : IsLast area cs from) where
    mid-synced : IsSynced (area_of (after_calls (fresh_disk past.made) (take from cs)) area)
    mid-synced = last-synced (fresh_disk past.made) cs area from (fresh-synced past.made area) last

    whole : state_of past ≡ after_calls (after_calls (fresh_disk past.made) (take from cs)) (drop from cs)
    whole = ap (after_calls (fresh_disk past.made)) (are_calls ∙ sym (take-append-drop from cs)) ∙ after-append (fresh_disk past.made) (take from cs) (drop from cs)

    -- what is stable is what the calls up to the last sync put
    pub stable-bytes : (bytes : List ℕ) → bytes ≡ bytes_after_all area (take from cs) made → bytes ≡ (area_of (state_of past) area).stable
    stable-bytes bytes e =
        let mid = after_calls (fresh_disk past.made) (take from cs) in
        let is_stable : (area_of (state_of past) area).stable ≡ (area_of mid area).now =
        ap (λ (d : DiskState). (area_of d area).stable) whole ∙ calls-stable mid (drop from cs) area (last.behind from (omega arith)) ∙ mid-synced.stable in
        e ∙ ap (bytes_after_all area (take from cs)) (sym made-now) ∙ sym (calls-now (fresh_disk past.made) (take from cs) area) ∙ sym is_stable

    -- what is loose is what was written since
    pub loose-ranges : (area_of (state_of past) area).loose ≡ ranges_after_all area (drop from cs) []
    loose-ranges =
        let mid = after_calls (fresh_disk past.made) (take from cs) in
        ap (λ (d : DiskState). (area_of d area).loose) whole ∙ calls-loose mid (drop from cs) area (last.behind from (omega arith)) ∙ ap (ranges_after_all area (drop from cs)) mid-synced.loose

-- a range has the places from its first up to its end
in-true : (r : Range) (k : ℕ) → r.from ≤ k → k < r.end → is_in r k ≡ true
in-true r k le lt =
    let first : nat_le r.from k ≡ true = grind (arith, nat_tests) in
    let second : nat_lt k r.end ≡ true = grind (arith, nat_tests) in
    ap (λ (b : Bool). cond b (nat_lt k r.end) false) first ∙ second

in-false : (r : Range) (k : ℕ) → (k < r.from) ⊎ (r.end ≤ k) → is_in r k ≡ false
in-false r k (inl lt) =
    let first : nat_le r.from k ≡ false = grind (arith, nat_tests) in
    ap (λ (b : Bool). cond b (nat_lt k r.end) false) first
in-false r k (inr le) = by (nat_le r.from k)
  where
    second : nat_lt k r.end ≡ false
    second = grind (arith, nat_tests)

    by : (b : Bool) → cond b (nat_lt k r.end) false ≡ false
    by true = second
    by false = refl

inside-true : (rs : List Range) (k : ℕ) → IsInside rs k → is_inside rs k ≡ true
inside-true [] k h = absurd h
inside-true (r ∷ rs) k (inl here) = ap (λ (b : Bool). cond b true (is_inside rs k)) (in-true r k here.0 here.1)
inside-true (r ∷ rs) k (inr later) = by (is_in r k) (inside-true rs k later)
  where
    by : (b : Bool) → is_inside rs k ≡ true → cond b true (is_inside rs k) ≡ true
    by true e = refl
    by false e = e

outside-false : (rs : List Range) (k : ℕ) → IsOutside rs k → is_inside rs k ≡ false
outside-false [] k h = refl
outside-false (r ∷ rs) k h = ap (λ (b : Bool). cond b true (is_inside rs k)) (in-false r k h.0) ∙ outside-false rs k h.1

-- the bytes of now, with the loose ranges filled, and then all behind the stable length
pub filled-bytes : (byte : ℕ) (a : AreaState) (ranged bytes : List ℕ) (count : ℕ) → length ranged ≡ length a.now → length bytes ≡ length ranged → count ≡ length ranged
    → ((k : ℕ) → k < length a.now → get_or ranged k 0 ≡ cond (is_inside a.loose k) byte (get_or a.now k 0))
    → ((k : ℕ) → k < length ranged → get_or bytes k 0 ≡ cond (is_inside (range_at (length a.stable) count ∷ []) k) byte (get_or ranged k 0)) → IsFilled byte a bytes
filled-bytes byte a ranged bytes count same_length same_length' is_count first second = record {
  long = same_length' ∙ same_length;
  filled = λ k h o. second k (omega (arith, h, same_length')) ∙ one k (omega (arith, h, same_length')) o;
  same = λ k h o lt.
      second k (omega (arith, h, same_length')) ∙ ap (λ (b : Bool). cond b byte (get_or ranged k 0)) (outside-false (range_at (length a.stable) count ∷ []) k (inl lt, tt))
      ∙ first k (omega (arith, h, same_length, same_length')) ∙ ap (λ (b : Bool). cond b byte (get_or a.now k 0)) (outside-false a.loose k o);
}
  where
    either : (b : Bool) → cond b byte byte ≡ byte
    either true = refl
    either false = refl

    one : (k : ℕ) → k < length ranged → IsInside a.loose k ⊎ (length a.stable ≤ k) → cond (is_inside (range_at (length a.stable) count ∷ []) k) byte (get_or ranged k 0) ≡ byte
    one k h (inl inside) =
        ap (λ (x : ℕ). cond (is_inside (range_at (length a.stable) count ∷ []) k) byte x) (first k (omega (arith, h, same_length)) ∙ ap (λ (b : Bool). cond b byte (get_or a.now k 0)) (inside-true a.loose k inside))
        ∙ either (is_inside (range_at (length a.stable) count ∷ []) k)
    one k h (inr le) = ap (λ (b : Bool). cond b byte (get_or ranged k 0)) (inside-true (range_at (length a.stable) count ∷ []) k (inl (le, omega (arith, h, is_count))))

-- a range of bytes stands where a crash may leave anything
record IsCovered (a : AreaState) (at n : ℕ) : Type 0 where
  outside : (k : ℕ) → IsOutside a.loose k → (k < at) ⊎ (at + n ≤ k)
  near : at + n ≤ furthest (length a.now) a.loose

abbrev AreCovered : AreaState → Area → List Piece → Type 0
AreCovered a area [] = Unit {0}
AreCovered a area (p ∷ ps) = (same_area p.area area ≡ true → IsCovered a p.at (length p.bytes)) × AreCovered a area ps

put-covered : (a : AreaState) (to : ℕ) (bytes : List ℕ) (failed : Bool) (at n : ℕ) → IsCovered a at n → IsCovered (after_put a to bytes failed) at n
put-covered a to bytes failed at n c =
    let grown = furthest-grows (length a.now) (length (put_bytes a.now to (put_of failed bytes))) a.loose (omega (arith, length-put a.now to (put_of failed bytes))) in
    record { outside = λ k o. c.outside k o.1; near = omega (arith, c.near, grown) }

put-here : (a : AreaState) (at : ℕ) (bytes : List ℕ) (failed : Bool) → IsCovered (after_put a at bytes failed) at (length (put_of failed bytes))
put-here a at bytes failed =
    let short = length-put_of failed bytes in
    record {
      outside = λ k o. elim o.0 [ inl lt ↦ inl lt | inr le ↦ inr (omega (arith, le, short)) ];
      near = omega (arith, short);
    }

stable-image : (a : AreaState) → IsImage a a.now → IsImage a a.stable
stable-image a i = record { no_shorter = omega arith; no_longer = omega (arith, i.no_shorter, furthest-least (length a.now) a.loose); same = λ k h o. refl }

-- no call that leaves an area unsynced uncovers a range of it
call-covered : (s : DiskState) (c : Call) (area : Area) (at n : ℕ) → syncs area c ≡ false → IsCovered (area_of s area) at n → IsCovered (area_of (after_call s c) area) at n
call-covered s Other area at n e c = c
call-covered s Read Pages at n e c = c
call-covered s Read Journal at n e c = c
call-covered s (Write Pages to bytes failed) Pages at n e c = put-covered s.pages to bytes failed at n c
call-covered s (Write Pages to bytes failed) Journal at n e c = c
call-covered s (Write Journal to bytes failed) Pages at n e c = c
call-covered s (Write Journal to bytes failed) Journal at n e c = put-covered s.journal to bytes failed at n c
call-covered s (Sync Pages) Pages at n e c = absurd cc
call-covered s (Sync Pages) Journal at n e c = c
call-covered s (Sync Journal) Pages at n e c = c
call-covered s (Sync Journal) Journal at n e c = absurd cc

calls-covered : (s : DiskState) (cs : List Call) (area : Area) (at n : ℕ) → is_synced area cs ≡ false → IsCovered (area_of s area) at n → IsCovered (area_of (after_calls s cs) area) at n
calls-covered s [] area at n e c = c
calls-covered s (call ∷ cs) area at n e c = let b = neither area call cs e in calls-covered (after_call s call) cs area at n b.1 (call-covered s call area at n b.0 c)

written-covered : (s : DiskState) (written area : Area) (at : ℕ) (bytes : List ℕ) (failed : Bool) → same_area written area ≡ true
    → IsCovered (area_of (after_call s (Write written at bytes failed)) area) at (length (put_of failed bytes))
written-covered s Pages Pages at bytes failed e = put-here s.pages at bytes failed
written-covered s Pages Journal at bytes failed e = absurd cc
written-covered s Journal Pages at bytes failed e = absurd cc
written-covered s Journal Journal at bytes failed e = put-here s.journal at bytes failed

same-synced : (written area : Area) (cs : List Call) → same_area written area ≡ true → is_synced written cs ≡ false → is_synced area cs ≡ false
same-synced Pages Pages cs same e = e
same-synced Pages Journal cs same e = absurd cc
same-synced Journal Pages cs same e = absurd cc
same-synced Journal Journal cs same e = e

unsynced-covered : (s : DiskState) (cs : List Call) (area : Area) → AreCovered (area_of (after_calls s cs) area) area (unsynced cs)
unsynced-covered s [] area = tt
unsynced-covered s (Other ∷ cs) area = unsynced-covered s cs area
unsynced-covered s (Read ∷ cs) area = unsynced-covered (after_call s Read) cs area
unsynced-covered s (Sync synced ∷ cs) area = unsynced-covered (after_call s (Sync synced)) cs area
unsynced-covered s (Write written at bytes failed ∷ cs) area = by (is_synced written cs) refl (unsynced-covered (after_call s (Write written at bytes failed)) cs area)
  where
    by : (b : Bool) → is_synced written cs ≡ b → AreCovered (area_of (after_calls (after_call s (Write written at bytes failed)) cs) area) area (unsynced cs)
        → AreCovered (area_of (after_calls (after_call s (Write written at bytes failed)) cs) area) area (cond b (unsynced cs) (record { area = written; at = at; bytes = put_of failed bytes } ∷ unsynced cs))
    by true e others = others
    by false e others = (
      λ same. calls-covered (after_call s (Write written at bytes failed)) cs area at (length (put_of failed bytes)) (same-synced written area cs same e) (written-covered s written area at bytes failed same),
      others,
    )

put-image : (a : AreaState) (at n : ℕ) (piece bytes : List ℕ) → IsCovered a at n → length piece ≤ n → IsImage a bytes → IsImage a (put_bytes bytes at piece)
put-image a at n piece bytes c le i =
    let long = length-put bytes at piece in
    record {
      no_shorter = omega (arith, long, i.no_shorter);
      no_longer = omega (arith, long, i.no_longer, c.near, le);
      same = λ k h o. put-outside bytes at piece k (omega (arith, h, i.no_shorter)) (elim (c.outside k o) [ inl lt ↦ inl lt | inr far ↦ inr (omega (arith, far, le)) ]) ∙ i.same k h o;
    }

front-image : (a : AreaState) (area : Area) (n : ℕ) (ps : List Piece) (bytes : List ℕ) → AreCovered a area ps → IsImage a bytes → IsImage a (with_front area n ps bytes)
front-image a area n [] bytes c i = i
front-image a area n (p ∷ ps) bytes c i =
    let put = cond (same_area p.area area) (put_bytes bytes p.at (take n p.bytes)) bytes in
    by (nat_lt 0 n) (front-image a area (n - length p.bytes) ps put c.1 (next (same_area p.area area) refl))
  where
    next : (b : Bool) → same_area p.area area ≡ b → IsImage a (cond b (put_bytes bytes p.at (take n p.bytes)) bytes)
    next true e = put-image a p.at (length p.bytes) (take n p.bytes) bytes (c.0 e) (omega (arith, length-take n p.bytes)) i
    next false e = i

    by : (b : Bool) → IsImage a (with_front area (n - length p.bytes) ps (cond (same_area p.area area) (put_bytes bytes p.at (take n p.bytes)) bytes))
        → IsImage a (cond b (with_front area (n - length p.bytes) ps (cond (same_area p.area area) (put_bytes bytes p.at (take n p.bytes)) bytes)) bytes)
    by true h = h
    by false h = i

area-now : (s : DiskState) (area : Area) → MayLeave s (image_now s) → IsImage (area_of s area) (area_of s area).now
area-now s Pages m = m.pages
area-now s Journal m = m.journal

-- each pick is one of the images
left-image : (pick : Pick) (past : Past) (area : Area) (bytes : List ℕ) → IsLeft pick past area bytes → IsImage (area_of (state_of past) area) bytes
left-image Lost past area bytes e =
    let a = area_of (state_of past) area in
    subst (IsImage a) (sym e) (stable-image a (area-now (state_of past) area (now-left past)))
left-image Kept past area bytes e = subst (IsImage (area_of (state_of past) area)) (sym e) (area-now (state_of past) area (now-left past))
left-image (Filled byte) past area bytes f =
    let a = area_of (state_of past) area in
    let now = area-now (state_of past) area (now-left past) in
    record {
      no_shorter = omega (arith, now.no_shorter, f.long);
      no_longer = omega (arith, now.no_longer, f.long);
      same = λ k h o. f.same k (omega (arith, h, now.no_shorter, f.long)) o h ∙ now.same k h o;
    }
left-image (Front n) past area bytes e =
    let a = area_of (state_of past) area in
    subst (IsImage a) (sym e) (front-image a area n (unsynced past.calls) a.stable (unsynced-covered (fresh_disk past.made) past.calls area) (stable-image a (area-now (state_of past) area (now-left past))))

pub left-both : (pick : Pick) (past : Past) (pages journal : List ℕ) → IsLeft pick past Pages pages → IsLeft pick past Journal journal → MayLeave (state_of past) (record { pages = pages; journal = journal })
left-both pick past pages journal p j = record { pages = left-image pick past Pages pages p; journal = left-image pick past Journal journal j }

-- nothing is left to put
pub front-none : (area : Area) (ps : List Piece) (bytes : List ℕ) → with_front area 0 ps bytes ≡ bytes
front-none area [] bytes = refl
front-none area (p ∷ ps) bytes = refl

pub write-puts : (s : DiskState) (area : Area) (at : ℕ) (bytes : List ℕ) (failed : Bool) → image_now (after_call s (Write area at bytes failed)) ≡ put_in (image_now s) area at (put_of failed bytes)
write-puts s Pages at bytes failed = refl
write-puts s Journal at bytes failed = refl

-- a read changes no bytes
read-now : (s : DiskState) (area : Area) → (area_of (after_call s Read) area).now ≡ (area_of s area).now
read-now s Pages = refl
read-now s Journal = refl

-- bytes put where zero bytes were added up to the range's end
take-both : (n : ℕ) (xs ys : List ℕ) → take n (xs ++ ys) ≡ take n xs ++ take (n - length xs) ys
take-both zero xs ys = ap (λ (k : ℕ). take k ys) (nothing xs)
  where
    nothing : (xs : List ℕ) → 0 ≡ 0 - length xs
    nothing xs = omega arith
take-both (suc n) [] ys = ap (λ (k : ℕ). take k ys) (whole n)
  where
    whole : (n : ℕ) → suc n ≡ suc n - 0
    whole n = omega arith
take-both (suc n) (x ∷ xs) ys = ap (λ (l : List ℕ). x ∷ l) (take-both n xs ys ∙ ap (λ (k : ℕ). take n xs ++ take k ys) (less n xs))
  where
    less : (n : ℕ) (xs : List ℕ) → n - length xs ≡ suc n - suc (length xs)
    less n xs = omega arith

drop-zeros : (e : ℕ) (old : List ℕ) → drop e (old ++ replicate (e - length old) 0) ≡ drop e old
drop-zeros e old = by (nat_lt (length old) e) refl
  where
    by : (b : Bool) → nat_lt (length old) e ≡ b → drop e (old ++ replicate (e - length old) 0) ≡ drop e old
    by true q =
        let lt : length old < e = grind (arith, nat_tests) in
        drop_all e (old ++ replicate (e - length old) 0) (omega (arith, lt, length-append old (replicate (e - length old) 0), length-replicate {A = ℕ} (e - length old) 0)) ∙ sym (drop_all e old (omega (arith, lt)))
    by false q =
        let le : e ≤ length old = grind (arith, nat_tests) in
        let none : e - length old ≡ 0 = omega (arith, le) in
        ap (drop e) (ap (λ (n : ℕ). old ++ replicate n 0) none ∙ append-nil old)

pub put-grown : (old grown piece : List ℕ) (at : ℕ) → grown ≡ old ++ replicate (at + length piece - length old) 0 → take at grown ++ (piece ++ drop (length piece) (drop at grown)) ≡ put_bytes old at piece
put-grown old grown piece at is =
    let end = at + length piece in
    let zeros : take (at - length old) (replicate (end - length old) 0) ≡ replicate (at - length old) 0 = take-replicate (at - length old) (end - length old) 0 (omega arith) in
    let front : take at grown ≡ take at old ++ replicate (at - length old) 0 = ap (take at) is ∙ take-both at old (replicate (end - length old) 0) ∙ ap (λ (l : List ℕ). take at old ++ l) zeros in
    let back : drop (length piece) (drop at grown) ≡ drop end old = drop-drop (length piece) at grown ∙ ap (drop end) is ∙ drop-zeros end old in
    ap (λ (l : List ℕ). l ++ (piece ++ drop (length piece) (drop at grown))) front ∙ ap (λ (l : List ℕ). take at old ++ replicate (at - length old) 0 ++ (piece ++ l)) back
    ∙ sym (append_assoc (take at old ++ replicate (at - length old) 0) piece (drop end old))

-- the bytes that a vector holds after all of it was written over
pub written-back : (old grown new piece : List ℕ) (at n : ℕ) → new ≡ put_bytes old at piece → grown ≡ old ++ replicate (at + length piece - length old) 0 → n ≡ length grown → take n (new ++ drop (length new) grown) ≡ put_bytes old at piece
written-back old grown new piece at n put is long =
    let longer : length grown ≡ length old + (at + length piece - length old) = ap length is ∙ length-append old (replicate (at + length piece - length old) 0) ∙ ap (λ k. length old + k) (length-replicate {A = ℕ} (at + length piece - length old) 0) in
    let same : n ≡ length new = omega (arith, long, longer, ap length put, length-put old at piece) in
    take-append-le n new (drop (length new) grown) (omega (arith, same)) ∙ take_all n new (omega (arith, same)) ∙ put

-- a call that puts no bytes is noted
pub note-follows : (pages journal : AreaBytes) (cs : List Call) (c : Call) → FollowsFromCalls pages journal cs → ((s : DiskState) → image_now (after_call s c) ≡ image_now s) → FollowsFromCalls pages journal (cs ++ c ∷ [])
note-follows pages journal cs c f quiet = record { now = ap image_now (after-noted (past_of pages journal cs) c) ∙ quiet (state_of (past_of pages journal cs)) ∙ f.now }

abbrev past_from : List ℕ → List ℕ → List Call → Past
past_from pages journal cs = record { made = record { pages = pages; journal = journal }; calls = cs }

-- a write is done, and noted
pub write-follows : (pages journal pages' journal' : AreaBytes) (cs : List Call) (area : Area) (at : ℕ) (bytes : List ℕ) (failed : Bool) → FollowsFromCalls pages journal cs
    → pages'.made ≡ pages.made → journal'.made ≡ journal.made
    → record { pages = pages'.current; journal = journal'.current } ≡ put_in (record { pages = pages.current; journal = journal.current }) area at (put_of failed bytes)
    → FollowsFromCalls pages' journal' (cs ++ Write area at bytes failed ∷ [])
write-follows pages journal pages' journal' cs area at bytes failed f p j put =
    let c = Write area at bytes failed in
    let same : past_of pages' journal' (cs ++ c ∷ []) ≡ noted (past_of pages journal cs) c =
    ap (λ (m : List ℕ). past_from m journal'.made (cs ++ c ∷ [])) p ∙ ap (λ (m : List ℕ). past_from pages.made m (cs ++ c ∷ [])) j in
    record {
      now = ap (λ (past : Past). image_now (state_of past)) same ∙ ap image_now (after-noted (past_of pages journal cs) c) ∙ write-puts (state_of (past_of pages journal cs)) area at bytes failed
          ∙ ap (λ (i : Image). put_in i area at (put_of failed bytes)) f.now ∙ sym put;
    }

synced-rest : (area : Area) (n : ℕ) (cs : List Call) → is_synced area (drop n cs) ≡ true → is_synced area cs ≡ true
synced-rest area zero cs e = e
synced-rest area (suc n) [] e = e
synced-rest area (suc n) (c ∷ cs) e = by (syncs area c) (synced-rest area n cs e)
  where
    by : (b : Bool) → is_synced area cs ≡ true → cond b true (is_synced area cs) ≡ true
    by true h = refl
    by false h = h

-- the place behind a call that made sure of the area, where none behind it did
pub last-here : (area : Area) (cs : List Call) (from : ℕ) (c : Call) → 0 < from → from ≤ length cs → c ≡ get_or cs (from - 1) c → syncs area c ≡ true
    → ((k : ℕ) → from ≤ k → is_synced area (drop k cs) ≡ false) → IsLast area cs from
last-here area cs from c some within read is_here behind = record { within = within; before = before; behind = behind }
  where
    split : drop (from - 1) cs ≡ c ∷ drop from cs
    split =
        let place : from - 1 + 1 ≡ from = omega (arith, some) in
        drop_more cs (from - 1) c (omega (arith, some, within)) ∙ ap (λ (x : Call). x ∷ drop (from - 1 + 1) cs) (sym read) ∙ ap (λ (n : ℕ). c ∷ drop n cs) place

    here : is_synced area (drop (from - 1) cs) ≡ true
    here = ap (is_synced area) split ∙ ap (λ (b : Bool). cond b true (is_synced area (drop from cs))) is_here

    before : (k : ℕ) → k < from → is_synced area (drop k cs) ≡ true
    before k lt =
        let place : k + (from - 1 - k) ≡ from - 1 = omega (arith, lt) in
        synced-rest area (from - 1 - k) (drop k cs) (ap (is_synced area) (drop-drop (from - 1 - k) k cs ∙ ap (λ (n : ℕ). drop n cs) place) ∙ here)

ranges-append : (area : Area) (xs ys : List Call) (rs : List Range) → ranges_after_all area (xs ++ ys) rs ≡ ranges_after_all area ys (ranges_after_all area xs rs)
ranges-append area [] ys rs = refl
ranges-append area (c ∷ xs) ys rs = ranges-append area xs ys (ranges_after area c rs)

twice : (a b : Bool) (x y : ℕ) → cond a x (cond b x y) ≡ cond (cond a true b) x y
twice true b x y = refl
twice false b x y = refl

inside-more : (area : Area) (c : Call) (rs : List Range) (k : ℕ) → is_inside (ranges_after area c rs) k ≡ cond (is_inside (ranges_after area c []) k) true (is_inside rs k)
inside-more area Other rs k = refl
inside-more area Read rs k = refl
inside-more area (Sync synced) rs k = refl
inside-more area (Write written at bytes failed) rs k = by (same_area written area)
  where
    one : (a : Bool) → cond a true (is_inside rs k) ≡ cond (cond a true false) true (is_inside rs k)
    one true = refl
    one false = refl

    by : (b : Bool) → is_inside (cond b (range_at at (length bytes) ∷ rs) rs) k ≡ cond (is_inside (cond b (range_at at (length bytes) ∷ []) []) k) true (is_inside rs k)
    by true = one (is_in (range_at at (length bytes)) k)
    by false = refl

-- the range of one call more is filled
pub fill-step : (area : Area) (cs : List Call) (i : ℕ) (c : Call) (byte old mid new k : ℕ) → i < length cs → c ≡ get_or cs i c
    → mid ≡ cond (is_inside (ranges_after_all area (take i cs) []) k) byte old → new ≡ cond (is_inside (ranges_after area c []) k) byte mid
    → new ≡ cond (is_inside (ranges_after_all area (take (i + 1) cs) []) k) byte old
fill-step area cs i c byte old mid new k within read before here =
    let rs = ranges_after_all area (take i cs) [] in
    let front : take (i + 1) cs ≡ take i cs ++ c ∷ [] = take_more cs i c within ∙ ap (λ (x : Call). take i cs ++ x ∷ []) (sym read) in
    let more : ranges_after_all area (take (i + 1) cs) [] ≡ ranges_after area c rs = ap (λ (l : List Call). ranges_after_all area l []) front ∙ ranges-append area (take i cs) (c ∷ []) [] in
    here ∙ ap (λ (x : ℕ). cond (is_inside (ranges_after area c []) k) byte x) before ∙ twice (is_inside (ranges_after area c []) k) (is_inside rs k) byte old
    ∙ ap (λ (b : Bool). cond b byte old) (sym (inside-more area c rs k)) ∙ sym (ap (λ (l : List Range). cond (is_inside l k) byte old) more)

-- what a read that answered Ok found
pub read-bytes : (old new : MemDiskState) (area : Area) (bytes : List ℕ) → bytes ≡ (area_of (state_of new.past) area).now → (IsDue old → ⊥) × (new ≡ after_ok old Read) → bytes ≡ (area_of (state_of old.past) area).now
read-bytes old new area bytes e g =
    e ∙ ap (λ (d : MemDiskState). (area_of (state_of d.past) area).now) g.1 ∙ ap (λ (s : DiskState). (area_of s area).now) (after-noted old.past Read) ∙ read-now (state_of old.past) area

pub if-ok : {T E : Type 0} {P Q : T → Type 0} (r : Result T E) → ((x : T) → P x → Q x) → IfOk r P → IfOk r Q
if-ok (Ok x) f p = f x p
if-ok (Err e) f p = tt

same-test : (j a b : ℕ) → (j < a → j < b) → (j < b → j < a) → nat_lt j a ≡ nat_lt j b
same-test j a b to from = by (nat_lt j a) refl (nat_lt j b) refl
  where
    by : (x : Bool) → nat_lt j a ≡ x → (y : Bool) → nat_lt j b ≡ y → x ≡ y
    by true p true q = refl
    by false p false q = refl
    by true p false q =
        let lt : j < a = grind (arith, nat_tests) in
        let le : b ≤ j = grind (arith, nat_tests) in
        absurd (omega (arith, to lt, le))
    by false p true q =
        let lt : j < b = grind (arith, nat_tests) in
        let le : a ≤ j = grind (arith, nat_tests) in
        absurd (omega (arith, from lt, le))

-- all places of the range were filled
pub fill-all : (from count last byte new old j : ℕ) → (from ≤ j → j < last → j < from + count) → (from ≤ j → j < from + count → j < last)
    → new ≡ cond (nat_le from j) (cond (nat_lt j last) byte old) old → new ≡ cond (is_inside (range_at from count ∷ []) j) byte old
fill-all from count last byte new old j near far is = by (nat_le from j) refl is
  where
    idle : (b : Bool) → cond b byte old ≡ cond (cond b true false) byte old
    idle true = refl
    idle false = refl

    by : (b : Bool) → nat_le from j ≡ b → new ≡ cond b (cond (nat_lt j last) byte old) old → new ≡ cond (cond (cond b (nat_lt j (from + count)) false) true false) byte old
    by true q h =
        let le : from ≤ j = grind (arith, nat_tests) in
        h ∙ ap (λ (b : Bool). cond b byte old) (same-test j last (from + count) (near le) (far le)) ∙ idle (nat_lt j (from + count))
    by false q h = h
