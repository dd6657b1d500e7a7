-- What is staged, and what a record of it makes of a log.
use Rattle.std.proofs.Common.{◌≡◌, ◌≤◌, ◌+◌, ◌⊎◌, inl, inr, ℕ, List, [], ◌∷◌, ◌++◌, length, refl, ap, sym, subst, ◌∙◌, arith, length-append, append-nil, Option, Some, None, ◌==◌, if◌then◌else◌, Bool, true, false}
use Rattle.std.proofs.Math.Logic.{∥∥₁_map}
use Rattle.std.specs.Option.{unwrap_or}
use Rattle.mm_host.specs.declared.damage.Damage.TheVariants.{Sort}
use Rattle.mm_host.specs.Disk.{AreaState, Image, DiskState, MayLeave, image_now}
use Rattle.byteorder.specs.Endian.{big_bytes}
use Rattle.byteorder.specs.Numbers.{length-bytes_high_first}
use Rattle.mm_host.specs.Moments.{LeavesOnly}
use Rattle.mm_host.specs.Facts.Moments.{started}
use Rattle.mm_keeper.specs.Entries.{Entries, put, without, has}
use Rattle.mm_keeper.specs.Facts.Keys.{without-at}
use Rattle.mm_journal.specs.Records.{Read, and_then, records, with_record, sorts}
use Rattle.mm_journal.specs.Records.Read.{Whole, Wrong}
use Rattle.mm_journal.specs.Settled.{JournalState, IsAt}
use Rattle.mm_journal.specs.declared.payload.Payload.{Payload}
use Rattle.mm_logmap.specs.Batches.{changed, encoded, value_mark, value_bytes, changes, batch}
use Rattle.mm_logmap.specs.Log.{batches, map_of_records, log, whole_of, kept_in, map_in, MapsSince}
use Rattle.mm_logmap.specs.Inside.Spelled.{Change, IsFit, AllFit, encode, applied}
use Rattle.mm_logmap.specs.Inside.Sound.{Staged, IsCurrent, Adds, KeepsOrAdds, changes_in}
use Rattle.mm_logmap.specs.Facts.Sound.{maps_same, entries_same, kept-is, only-kept}
use Rattle.mm_logmap.proofs.Encoding.{changes-encode, encode-append, applied-append, fit-append}

-- one change more
staged-more : (journal staged staged' : List ℕ) (now now' : Entries) (c : Change) → IsFit c → staged' ≡ staged ++ encoded c.0 c.1 → now' ≡ changed now c.0 c.1
    → Staged journal staged now → Staged journal staged' now'
staged-more journal staged staged' now now' c fit e e' h = record {
  kept = h.kept;
  whole = h.whole;
  changes = h.changes ++ c ∷ [];
  fit = fit-append h.changes (c ∷ []) h.fit (fit, tt);
  spelled = e ∙ ap (λ (s : List ℕ). s ++ encoded c.0 c.1) h.spelled
      ∙ ap (λ (s : List ℕ). encode h.changes ++ s) (sym (append-nil (encoded c.0 c.1))) ∙ sym (encode-append h.changes (c ∷ []));
  makes = e' ∙ ap (λ (m : Entries). changed m c.0 c.1) h.makes ∙ sym (applied-append h.changes (c ∷ []) h.kept);
}

pub put-current : (j : JournalState) (a : AreaState) (staged staged' : List ℕ) (now now' : Entries) (key value : List ℕ) → (1 ≤ length key) × (length key ≤ 800) → length value ≤ 1024
    → staged' ≡ staged ++ encoded key (Some value) → now' ≡ put now key value → ∥ IsCurrent j a staged now ∥₁ → ∥ IsCurrent j a staged' now' ∥₁
put-current j a staged staged' now now' key value fit small e e' t = ∥∥₁_map t (λ h. (h.0, staged-more a.now staged staged' now now' (key, Some value) (fit.0, fit.1, small) e e' h.1))

pub remove-current : (j : JournalState) (a : AreaState) (staged staged' : List ℕ) (now now' : Entries) (key : List ℕ) (held : Bool) → (held ≡ true → (1 ≤ length key) × (length key ≤ 800))
    → held ≡ has now key → staged' ≡ (if held then staged ++ encoded key None else staged) → now' ≡ without now key → ∥ IsCurrent j a staged now ∥₁ → ∥ IsCurrent j a staged' now' ∥₁
remove-current j a staged staged' now now' key true fit is e e' t = ∥∥₁_map t (λ h. (h.0, staged-more a.now staged staged' now now' (key, None) ((fit refl).0, (fit refl).1, omega arith) e e' h.1))
remove-current j a staged staged' now now' key false fit is e e' t =
    let same : now' ≡ now = e' ∙ (without-at key now).1 (sym is) in
    subst (λ s. ∥ IsCurrent j a s now' ∥₁) (sym e) (subst (λ m. ∥ IsCurrent j a staged m ∥₁) (sym same) t)

sorts-append : (ps : List Payload) (p : Payload) → sorts 1 ps ≡ Whole tt → p.sort ≡ 1 → sorts 1 (ps ++ p ∷ []) ≡ Whole tt
unfolding sorts
sorts-append [] p h is = ap (λ (n : ℕ). if n == 1 then sorts 1 [] else Wrong (Sort p.at p.sort 1)) is
sorts-append (q ∷ ps) p h is = by (q.sort == 1) (λ e. sorts-append ps p e is) h
  where
    by : (b : Bool) → (sorts 1 ps ≡ Whole tt → sorts 1 (ps ++ p ∷ []) ≡ Whole tt) → (if b then sorts 1 ps else Wrong (Sort q.at q.sort 1)) ≡ Whole tt → (if b then sorts 1 (ps ++ p ∷ []) else Wrong (Sort q.at q.sort 1)) ≡ Whole tt
    by true go h = go h
    by false go h = cc

batches-append : (ps : List Payload) (p : Payload) (map : Entries) → batches (ps ++ p ∷ []) map ≡ and_then (batches ps map) (batch (p.at + 10) p.bytes)
unfolding batches
batches-append [] p map = by (batch (p.at + 10) p.bytes map)
  where
    by : (x : Read Entries) → and_then x (batches []) ≡ x
    by (Whole m) = refl
    by (Wrong d) = refl
batches-append (q ∷ ps) p map = by (λ m. batches-append ps p m) (batch (q.at + 10) q.bytes map)
  where
    by : ((m : Entries) → batches (ps ++ p ∷ []) m ≡ and_then (batches ps m) (batch (p.at + 10) p.bytes)) → (x : Read Entries) → and_then x (batches (ps ++ p ∷ [])) ≡ and_then (and_then x (batches ps)) (batch (p.at + 10) p.bytes)
    by go (Whole m) = go m
    by go (Wrong d) = refl

-- one record of these changes more
more : (found : Read (List Payload)) (at : ℕ) (bytes : List ℕ) (kept : Entries) (cs : List Change) → and_then found map_of_records ≡ Whole kept → AllFit cs → bytes ≡ encode cs
    → and_then (with_record found (record { at = at; sort = 1; bytes = bytes })) map_of_records ≡ Whole (applied kept cs)
more (Wrong d) at bytes kept cs h fit spelled = cc
more (Whole ps) at bytes kept cs h fit spelled = by (sorts 1 ps) refl h
  where
    p : Payload
    p = record { at = at; sort = 1; bytes = bytes }

    by : (s : Read (Unit {0})) → sorts 1 ps ≡ s → and_then s (λ _. batches ps []) ≡ Whole kept → and_then (sorts 1 (ps ++ p ∷ [])) (λ _. batches (ps ++ p ∷ []) []) ≡ Whole (applied kept cs)
    by (Wrong d) e h = cc
    by (Whole u) e h =
        ap (λ (s : Read (Unit {0})). and_then s (λ _. batches (ps ++ p ∷ []) [])) (sorts-append ps p e refl)
        ∙ batches-append ps p [] ∙ ap (λ (x : Read Entries). and_then x (batch (at + 10) bytes)) h
        ∙ ap (λ (b : List ℕ). changes (length b) (at + 10) b kept) spelled
        ∙ changes-encode cs (length (encode cs)) (at + 10) kept fit (omega arith)

-- the log with the staged changes as one record more
pub added : (s : DiskState) (staged : List ℕ) (now : Entries) (i : Image) → Staged s.journal.now staged now → Adds s (record { sort = 1; bytes = staged }) i → log i.journal ≡ Whole now
added s staged now i h a = ap (λ found. and_then found map_of_records) a.1 ∙ more (records s.journal.now) a.0 staged h.kept h.changes h.whole h.fit h.spelled ∙ ap (λ m. Whole m) (sym h.makes)

-- what a commit leaves, in words of maps
pub leaves : (j : JournalState) (s : DiskState) (staged : List ℕ) (now : Entries) (i : Image) → ∥ IsCurrent j s.journal staged now ∥₁ → KeepsOrAdds s (record { sort = 1; bytes = staged }) i
    → (map_in i ≡ Some (kept_in s.journal.now)) ⊎ (map_in i ≡ Some now)
leaves j s staged now i t (inl same) = inl (maps_same _ _ t (λ h. ap (λ found. whole_of (and_then found map_of_records)) same ∙ kept-is s.journal.now h.1.kept h.1.whole))
leaves j s staged now i t (inr adds) = inr (maps_same _ _ t (λ h. ap whole_of (added s staged now i h.1 adds)))

-- after a commit
pub committed : (j j' : JournalState) (s s' : DiskState) (staged : List ℕ) (now : Entries) → IsAt j' s'.journal → Adds s (record { sort = 1; bytes = staged }) (image_now s')
    → ∥ IsCurrent j s.journal staged now ∥₁ → ∥ IsCurrent j' s'.journal [] now ∥₁
committed j j' s s' staged now at adds t = ∥∥₁_map t (λ h. (at, record { kept = now; whole = added s staged now (image_now s') h.1 adds; changes = []; fit = tt; spelled = refl; makes = refl }))

-- what is then kept
pub kept-now : (j : JournalState) (s s' : DiskState) (staged : List ℕ) (now : Entries) → Adds s (record { sort = 1; bytes = staged }) (image_now s')
    → ∥ IsCurrent j s.journal staged now ∥₁ → kept_in s'.journal.now ≡ now
kept-now j s s' staged now adds t = entries_same (kept_in s'.journal.now) now t (λ h. ap (λ r. unwrap_or (whole_of r) []) (added s staged now (image_now s') h.1 adds))

-- from what crashes leave on the disk to what they leave of the map
pub lifted : {D : Type 0} (moment : D → ℕ) (left_since : D → ℕ → Image → Type 0) (old new : D) (P : Image → Type 0) (Q : Option Entries → Type 0)
    → LeavesOnly moment left_since old new P → ((i : Image) → P i → Q (map_in i)) → LeavesOnly moment (MapsSince left_since) old new Q
lifted moment left_since old new P Q h f = record {
  later = h.later;
  each = λ map m. subst Q (sym m.2) (f m.0 (h.each m.0 m.1));
  before = λ t map le m. elim (h.before t m.0 le m.1) [
    | inl past ↦ inl (m.0, past, m.2)
    | inr p ↦ inr (subst Q (sym m.2) (f m.0 p))
  ];
}

-- a call that leaves the disk as it was
pub stays : {D : Type 0} (moment : D → ℕ) (left_since : D → ℕ → Image → Type 0) (d : D) (s : DiskState) (j : JournalState) (staged : List ℕ) (now : Entries)
    → ((i : Image) → left_since d (moment d) i → MayLeave s i) → ∥ IsCurrent j s.journal staged now ∥₁ → LeavesOnly moment (MapsSince left_since) d d (λ m. m ≡ Some (kept_in s.journal.now))
stays moment left_since d s j staged now only t =
    started moment (MapsSince left_since) d (λ m. m ≡ Some (kept_in s.journal.now)) (λ m left. only-kept moment left_since d s j staged now m only t left)

pub changes-more : (m n : ℕ) → n ≤ m + 1828 → changes_in n ≤ changes_in m + 1
changes-more m n h = omega (arith, h)

pub change-length : (key : List ℕ) (value : Option (List ℕ)) → length (encoded key value) ≡ 4 + length key + length (value_bytes value)
unfolding encoded
change-length key value =
    let a = big_bytes 2 (length key) in
    let b = big_bytes 2 (value_mark value) in
    omega (arith, length-append (a ++ b) (key ++ value_bytes value), length-append a b, length-append key (value_bytes value), length-bytes_high_first 2 (length key), length-bytes_high_first 2 (value_mark value))

-- how many bytes are staged after a change
pub count-put : (staged staged' key value : List ℕ) → length key ≤ 800 → length value ≤ 1024 → staged' ≡ staged ++ encoded key (Some value) → changes_in (length staged') ≤ changes_in (length staged) + 1
count-put staged staged' key value k v e = changes-more (length staged) (length staged') (omega (arith, k, v, ap length e, length-append staged (encoded key (Some value)), change-length key (Some value)))

pub count-remove : (staged staged' key : List ℕ) (held : Bool) → (held ≡ true → length key ≤ 800) → staged' ≡ (if held then staged ++ encoded key None else staged) → changes_in (length staged') ≤ changes_in (length staged) + 1
count-remove staged staged' key true k e = changes-more (length staged) (length staged') (omega (arith, k refl, ap length e, length-append staged (encoded key None), change-length key None))
count-remove staged staged' key false k e = changes-more (length staged) (length staged') (omega (arith, ap length e))

-- nothing is staged on a journal that stands for this map
pub opened : (j : JournalState) (a : AreaState) (staged : List ℕ) (now : Entries) → IsAt j a → log a.now ≡ Whole now → staged ≡ [] → ∥ IsCurrent j a staged now ∥₁
opened j a staged now at whole none = ∣ (at, record { kept = now; whole = whole; changes = []; fit = tt; spelled = none; makes = refl }) ∣₁
