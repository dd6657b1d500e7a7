-- What follows from the calls of a disk, one after the other.
use Rattle.std.proofs.Common.{◌≡◌, ◌≤◌, ◌<◌, ◌+◌, ◌-◌, ◌/◌, ◌⊎◌, ℕ, Bool, true, false, List, [], ◌∷◌, ◌++◌, length, take, drop, get_or, replicate, max, refl, sym, ap, subst, ◌∙◌, inl, inr, arith, Result, Ok, Err, length-append, length-take, length-drop}
use Rattle.std.specs.Prelude.{nat_lt, OnOk, OnErr}
use Rattle.std.proofs.lemmas.Bool.Decides.{nat_tests}
use Rattle.std.proofs.lemmas.List.{take_all, take-append-le, length-replicate, get_or_append_left, get_or-append_right, get_or-take, get_or-drop}
use Rattle.mm_host.specs.Causes.{Rose, HasDiskCause}
use Rattle.mm_host.specs.Moments.{Elapses}
use Rattle.mm_host.specs.Disk.{Range, AreaState, DiskState, Image, IsImage, MayLeave, IsWrittenInPart, IsCutShort, area_of, fresh_area, fresh_disk, image_now, furthest, put_bytes, after_sync}
use Rattle.mm_host.specs.MemoryDisk.{Past, MemDiskState, put_of, after_put, after_call, after_calls, state_of, until, LeftSince, noted, Goes}
use Rattle.mm_host.specs.declared.area.Area.{Area}
use Rattle.mm_host.specs.declared.area.Area.TheVariants.{Pages, Journal}
use Rattle.mm_host.specs.declared.call.Call.{Call}
use Rattle.mm_host.specs.declared.call.Call.TheVariants.{Other, Read, Write, Sync}

pub length-put : (old : List ℕ) (at : ℕ) (bytes : List ℕ) → length (put_bytes old at bytes) ≡ max (length old) (at + length bytes)
length-put old at bytes = omega (arith, length-append (take at old ++ replicate (at - length old) 0 ++ bytes) (drop (at + length bytes) old), length-append (take at old ++ replicate (at - length old) 0) bytes, length-append (take at old) (replicate (at - length old) 0), length-take at old, length-drop (at + length bytes) old, length-replicate {A = ℕ} (at - length old) 0)

-- a place outside the range keeps its byte
pub put-outside : (old : List ℕ) (at : ℕ) (bytes : List ℕ) (k : ℕ) → k < length old → (k < at) ⊎ (at + length bytes ≤ k) → get_or (put_bytes old at bytes) k 0 ≡ get_or old k 0
put-outside old at bytes k within (inl lt) =
    let head = length-append (take at old) (replicate (at - length old) 0) in
    let front = length-append (take at old ++ replicate (at - length old) 0) bytes in
    let taken = length-take at old in
    get_or_append_left (take at old ++ replicate (at - length old) 0 ++ bytes) (drop (at + length bytes) old) 0 k (omega (arith, head, front, taken))
    ∙ get_or_append_left (take at old ++ replicate (at - length old) 0) bytes 0 k (omega (arith, head, taken))
    ∙ get_or_append_left (take at old) (replicate (at - length old) 0) 0 k (omega (arith, taken))
    ∙ get_or-take at old k 0 lt
put-outside old at bytes k within (inr le) =
    let head = length-append (take at old) (replicate (at - length old) 0) in
    let front = length-append (take at old ++ replicate (at - length old) 0) bytes in
    let taken = length-take at old in
    let zeros = length-replicate {A = ℕ} (at - length old) 0 in
    let same_place : at + length bytes + (k - (at + length bytes)) ≡ k = omega (arith, le) in
    get_or-append_right (take at old ++ replicate (at - length old) 0 ++ bytes) (drop (at + length bytes) old) (at + length bytes) k 0 (omega (arith, head, front, taken, zeros)) le
    ∙ get_or-drop (at + length bytes) old (k - (at + length bytes)) 0
    ∙ ap (λ (n : ℕ). get_or old n 0) same_place

pub length-put_of : (failed : Bool) (bytes : List ℕ) → length (put_of failed bytes) ≤ length bytes
length-put_of true bytes = omega (arith, length-take (length bytes / 2) bytes)
length-put_of false bytes = omega arith

pub furthest-least : (n : ℕ) (rs : List Range) → n ≤ furthest n rs
furthest-least n [] = omega arith
furthest-least n (r ∷ rs) = let ih = furthest-least n rs in omega arith

pub furthest-grows : (n m : ℕ) (rs : List Range) → n ≤ m → furthest n rs ≤ furthest m rs
furthest-grows n m [] le = le
furthest-grows n m (r ∷ rs) le = let ih = furthest-grows n m rs le in omega arith

-- calls in two parts
pub after-append : (s : DiskState) (xs ys : List Call) → after_calls s (xs ++ ys) ≡ after_calls (after_calls s xs) ys
after-append s [] ys = refl
after-append s (x ∷ xs) ys = after-append (after_call s x) xs ys

pub after-noted : (past : Past) (c : Call) → state_of (noted past c) ≡ after_call (state_of past) c
after-noted past c = after-append (fresh_disk past.made) past.calls (c ∷ [])

until-all : (past : Past) → state_of (until (length past.calls) past) ≡ state_of past
until-all past = ap (λ (cs : List Call). after_calls (fresh_disk past.made) cs) (take_all (length past.calls) past.calls (omega arith))

until-noted : (past : Past) (c : Call) (n : ℕ) → n ≤ length past.calls → state_of (until n (noted past c)) ≡ state_of (until n past)
until-noted past c n le = ap (λ (cs : List Call). after_calls (fresh_disk past.made) cs) (take-append-le n past.calls (c ∷ []) le)

pub left-counts : (past : Past) (t : ℕ) (i : Image) → t ≤ length past.calls → MayLeave (state_of past) i → LeftSince past t i
left-counts past t i le may = (length past.calls, le, omega arith, subst (λ s. MayLeave s i) (sym (until-all past)) may)

pub left-only : (past : Past) (i : Image) → LeftSince past (length past.calls) i → MayLeave (state_of past) i
left-only past i left =
    let same : left.0 ≡ length past.calls = omega (arith, left.1, left.2) in
    subst (λ s. MayLeave s i) (ap (λ (n : ℕ). state_of (until n past)) same ∙ until-all past) left.3

last-or-before : (n m : ℕ) → n ≤ m + 1 → (n ≤ m) ⊎ (n ≡ m + 1)
last-or-before n m le = by (nat_lt m n) refl
  where
    by : (b : Bool) → nat_lt m n ≡ b → (n ≤ m) ⊎ (n ≡ m + 1)
    by true e = inr (grind (arith, nat_tests))
    by false e = inl (grind (arith, nat_tests))

pub noted-elapses : (past : Past) (c : Call) → Elapses (length past.calls) (length (noted past c).calls) (LeftSince past) (LeftSince (noted past c)) (MayLeave (state_of (noted past c)))
noted-elapses past c =
    let more : length (past.calls ++ c ∷ []) ≡ length past.calls + 1 = omega (arith, length-append past.calls (c ∷ [])) in
    record {
      later = omega (arith, more);
      nothing_else = λ t i le left. elim (last-or-before left.0 (length past.calls) (omega (arith, left.2, more))) [
        | inl before ↦ inl (left.0, left.1, before, subst (λ s. MayLeave s i) (until-noted past c left.0 before) left.3)
        | inr last ↦ inr (subst (λ s. MayLeave s i) (ap (λ (n : ℕ). state_of (until n (noted past c))) (last ∙ sym more) ∙ until-all (noted past c)) left.3)
      ];
      keeps = λ t i le left. (left.0, left.1, omega (arith, left.2, more), subst (λ s. MayLeave s i) (sym (until-noted past c left.0 left.2)) left.3);
    }

pub same-elapses : (past : Past) → Elapses (length past.calls) (length past.calls) (LeftSince past) (LeftSince past) (MayLeave (state_of past))
same-elapses past = record { later = omega arith; nothing_else = λ t i le left. inl left; keeps = λ t i le left. left }

fresh-now : (bytes : List ℕ) → IsImage (fresh_area bytes) bytes
fresh-now bytes = record { no_shorter = omega arith; no_longer = omega arith; same = λ k h o. refl }

sync-now : (a : AreaState) → IsImage (after_sync a) a.now
sync-now a = record { no_shorter = omega arith; no_longer = omega arith; same = λ k h o. refl }

put-now : (a : AreaState) (at : ℕ) (bytes : List ℕ) (failed : Bool) → IsImage a a.now → IsImage (after_put a at bytes failed) (put_bytes a.now at (put_of failed bytes))
put-now a at bytes failed i =
    let long = length-put a.now at (put_of failed bytes) in
    let short = length-put_of failed bytes in
    record {
      no_shorter = omega (arith, i.no_shorter, long);
      no_longer = furthest-least (length (put_bytes a.now at (put_of failed bytes))) (after_put a at bytes failed).loose;
      same = λ k h o. put-outside a.now at (put_of failed bytes) k (omega (arith, h, i.no_shorter)) (elim o.0 [ inl lt ↦ inl lt | inr le ↦ inr (omega (arith, le, short)) ]) ∙ i.same k h o.1;
    }

call-now_left : (s : DiskState) (c : Call) → MayLeave s (image_now s) → MayLeave (after_call s c) (image_now (after_call s c))
call-now_left s Other m = m
call-now_left s Read m = record { pages = m.pages; journal = m.journal }
call-now_left s (Write Pages at bytes failed) m = record { pages = put-now s.pages at bytes failed m.pages; journal = m.journal }
call-now_left s (Write Journal at bytes failed) m = record { pages = m.pages; journal = put-now s.journal at bytes failed m.journal }
call-now_left s (Sync Pages) m = record { pages = sync-now s.pages; journal = m.journal }
call-now_left s (Sync Journal) m = record { pages = m.pages; journal = sync-now s.journal }

calls-now_left : (s : DiskState) (cs : List Call) → MayLeave s (image_now s) → MayLeave (after_calls s cs) (image_now (after_calls s cs))
calls-now_left s [] m = m
calls-now_left s (c ∷ cs) m = calls-now_left (after_call s c) cs (call-now_left s c m)

-- a crash may leave what a read gives
pub now-left : (past : Past) → MayLeave (state_of past) (image_now (state_of past))
now-left past = calls-now_left (fresh_disk past.made) past.calls (record { pages = fresh-now past.made.pages; journal = fresh-now past.made.journal })

-- a write that failed
pub part-written : (a : AreaState) (at : ℕ) (bytes : List ℕ) → IsWrittenInPart at (length bytes) a (after_put a at bytes true)
part-written a at bytes =
    let long = length-put a.now at (put_of true bytes) in
    let short = length-put_of true bytes in
    record {
      stable = refl;
      loose = refl;
      no_shorter = omega (arith, long);
      no_longer = omega (arith, long, short);
      same = λ k h o. put-outside a.now at (put_of true bytes) k h (elim o [ inl lt ↦ inl lt | inr le ↦ inr (omega (arith, le, short)) ]);
      counted = omega arith;
      counted_most = omega (arith, short);
    }

-- how a call goes, in the words of any disk
elapses-to : (old new past : Past) → new ≡ past → Elapses (length old.calls) (length past.calls) (LeftSince old) (LeftSince past) (MayLeave (state_of past))
    → Elapses (length old.calls) (length new.calls) (LeftSince old) (LeftSince new) (MayLeave (state_of new))
elapses-to old new past is e = subst (λ (p : Past). Elapses (length old.calls) (length p.calls) (LeftSince old) (LeftSince p) (MayLeave (state_of p))) (sym is) e

pub goes-elapses : {T E : Type 0} (old new : MemDiskState) (whole cut : Call) (r : Result T E) → Goes old new whole cut r
    → Elapses (length old.past.calls) (length new.past.calls) (LeftSince old.past) (LeftSince new.past) (MayLeave (state_of new.past))
goes-elapses old new whole cut (Ok x) g = elapses-to old.past new.past (noted old.past whole) (ap (λ (d : MemDiskState). d.past) g.1) (noted-elapses old.past whole)
goes-elapses old new whole cut (Err e) (inl g) = elapses-to old.past new.past (noted old.past cut) (ap (λ (d : MemDiskState). d.past) g.1) (noted-elapses old.past cut)
goes-elapses old new whole cut (Err e) (inr g) = elapses-to old.past new.past old.past (ap (λ (d : MemDiskState). d.past) g) (same-elapses old.past)

pub goes-cause : {T E : Type 0} (old new : MemDiskState) (whole cut : Call) (r : Result T E) → Goes old new whole cut r → old.faults ≤ new.faults → old.wants ≤ new.wants
    → HasDiskCause old.faults new.faults old.wants new.wants r
goes-cause old new whole cut (Ok x) g f w = record { faults_later = f; wants_later = w; answered = (ap (λ (d : MemDiskState). d.faults) g.1, ap (λ (d : MemDiskState). d.wants) g.1); failed = tt }
goes-cause old new whole cut (Err e) (inl g) f w = record { faults_later = f; wants_later = w; answered = tt; failed = inl (omega (arith, ap (λ (d : MemDiskState). d.faults) g.1)) }
goes-cause old new whole cut (Err e) (inr g) f w = record { faults_later = f; wants_later = w; answered = tt; failed = inr (omega (arith, ap (λ (d : MemDiskState). d.wants) g)) }

pub goes-ok : {T E : Type 0} (old new : MemDiskState) (whole cut : Call) (r : Result T E) → Goes old new whole cut r → OnOk r (state_of new.past ≡ after_call (state_of old.past) whole)
goes-ok old new whole cut (Ok x) g = ap (λ (d : MemDiskState). state_of d.past) g.1 ∙ after-noted old.past whole
goes-ok old new whole cut (Err e) g = tt

-- a failed call that puts no bytes changes nothing
pub goes-same : {T E : Type 0} (old new : MemDiskState) (whole : Call) (r : Result T E) → Goes old new whole Other r → OnErr r (state_of new.past ≡ state_of old.past)
goes-same old new whole (Ok x) g = tt
goes-same old new whole (Err e) (inl g) = ap (λ (d : MemDiskState). state_of d.past) g.1 ∙ after-noted old.past Other
goes-same old new whole (Err e) (inr g) = ap (λ (d : MemDiskState). state_of d.past) g

-- a failed write is cut short, or found no memory
pub goes-cut : {T E : Type 0} (old new : MemDiskState) (whole : Call) (area : Area) (at : ℕ) (bytes : List ℕ) (r : Result T E) → Goes old new whole (Write area at bytes true) r
    → OnErr r (IsCutShort area at (length bytes) (state_of old.past) (state_of new.past) ⊎ ((state_of new.past ≡ state_of old.past) × Rose old.wants new.wants))
goes-cut old new whole area at bytes (Ok x) g = tt
goes-cut old new whole area at bytes (Err e) (inl g) =
    inl (after_put (area_of (state_of old.past) area) at bytes true, ap (λ (d : MemDiskState). state_of d.past) g.1 ∙ after-noted old.past (Write area at bytes true), part-written (area_of (state_of old.past) area) at bytes)
goes-cut old new whole area at bytes (Err e) (inr g) = inr (ap (λ (d : MemDiskState). state_of d.past) g, omega (arith, ap (λ (d : MemDiskState). d.wants) g))
