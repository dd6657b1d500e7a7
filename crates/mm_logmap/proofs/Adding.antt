-- A record more, in a journal that may be unbegun.
use Rattle.std.proofs.Common.{◌≡◌, ◌≤◌, ℕ, List, [], length, Bool, true, false, refl, ap, sym, ◌∙◌, arith, inl, inr, nat_le, if◌then◌else◌, Result, Ok, Err, OnOk}
use Rattle.std.proofs.lemmas.Bool.{leb-false}
use Rattle.mm_host.specs.Disk.{DiskState, Image, MayLeave, image_now}
use Rattle.mm_journal.specs.Records.{records, walk, with_record}
use Rattle.mm_journal.specs.Records.Read.{Whole}
use Rattle.mm_journal.specs.Settled.{JournalState, Content, IsAt, NoneLeft, AppendLeaves, placed}
use Rattle.mm_logmap.specs.Inside.Sound.{Adds, KeepsOrAdds}

-- at most one byte, no records
blank : (journal : List ℕ) → length journal ≤ 1 → records journal ≡ Whole []
unfolding records
blank journal short = by (nat_le (length journal) 1) refl
  where
    by : (b : Bool) → nat_le (length journal) 1 ≡ b → (if b then Whole [] else walk (length journal) 0 journal) ≡ Whole []
    by true e = refl
    by false e = absurd (omega (arith, short, leb-false (length journal) 1 e))

pub on-ok : {T E : Type 0} {A B : Type 0} (r : Result T E) → OnOk r A → (A → B) → OnOk r B
on-ok (Ok x) h f = f h
on-ok (Err e) h f = h

-- what a begun journal adds
pub adds : (s s1 : DiskState) (gate : ℕ) (c : Content) (i : Image) → records s1.journal.now ≡ records s.journal.now
    → records i.journal ≡ with_record (records s1.journal.now) (placed gate c) → Adds s c i
adds s s1 gate c i same h = (gate, h ∙ ap (λ x. with_record x (placed gate c)) same)

pub append-adds : (s s1 : DiskState) (gate : ℕ) (c : Content) (i : Image) → records s1.journal.now ≡ records s.journal.now → AppendLeaves s1 (placed gate c) i → KeepsOrAdds s c i
append-adds s s1 gate c i same (_, inl h) = inl (h ∙ same)
append-adds s s1 gate c i same (_, inr h) = inr (adds s s1 gate c i same h)

pub begin-keeps : (j : JournalState) (s : DiskState) (c : Content) (i : Image) → IsAt j s.journal → j.is_begun ≡ false → NoneLeft s i → KeepsOrAdds s c i
begin-keeps j s c i place unbegun (_, none) = inl (none ∙ sym (blank s.journal.now (place.blank unbegun)))

-- a journal that was begun in the call
pub then-begun : (j : JournalState) (s s1 : DiskState) → IsAt j s.journal → j.is_begun ≡ false → ((i : Image) → MayLeave s1 i → records i.journal ≡ Whole []) → MayLeave s1 (image_now s1)
    → records s1.journal.now ≡ records s.journal.now
then-begun j s s1 place unbegun none here = none (image_now s1) here ∙ sym (blank s.journal.now (place.blank unbegun))
