-- That a journal agrees with its area, from that it does so in some way.
use Rattle.std.proofs.Common.{◌≡◌, ◌+◌, ◌++◌, ℕ, List, [], ◌∷◌, length, take, drop, get_or, refl, sym, ap, subst, ◌∙◌}
use Rattle.std.proofs.Math.Seq.{take-append_seam, drop-append_seam}
use Rattle.std.proofs.Math.Logic.{∥∥₁_elim, ∥∥₁_map}
use Rattle.std.specs.Coded.{coded_ℕ, coded_list}
use native.Mathlib.Bridge.{le_prop}
use base.Stored.{Coded-set}
use Rattle.mm_host.specs.Disk.{AreaState, Range}
use Rattle.mm_journal.specs.Records.{Read, records}
use Rattle.mm_journal.specs.Records.Read.{Whole, Wrong}
use Rattle.mm_journal.specs.Settled.{JournalState, IsAt, IsBody, AreRecords, IsClosedAt}
use Rattle.mm_journal.specs.declared.payload.Payload.{Payload}

bytes_same : {A : Type 0} (xs ys : List ℕ) → ∥ A ∥₁ → (A → xs ≡ ys) → xs ≡ ys
bytes_same xs ys t f = ∥∥₁_elim t (Coded-set (coded_list coded_ℕ) xs ys) f

number_same : {A : Type 0} (m n : ℕ) → ∥ A ∥₁ → (A → m ≡ n) → m ≡ n
number_same m n t f = ∥∥₁_elim t (Coded-set coded_ℕ m n) f

never : {A : Type 0} → ∥ A ∥₁ → (A → ⊥) → ⊥
never t f = ∥∥₁_elim t (λ x y. absurd x) f

past : (n : ℕ) (xs ys : List ℕ) → n ≡ length xs → drop n (xs ++ ys) ≡ ys
past n xs ys e = ap (λ (k : ℕ). drop k (xs ++ ys)) e ∙ drop-append_seam xs ys

first : (n : ℕ) (xs ys : List ℕ) → n ≡ length xs → take n (xs ++ ys) ≡ xs
first n xs ys e = ap (λ (k : ℕ). take k (xs ++ ys)) e ∙ take-append_seam xs ys

body-again : (at : ℕ) (body : List ℕ) (p : Payload) → ∥ IsBody at body p ∥₁ → IsBody at body p
body-again at body p t = record {
  long = number_same (length body) (41 + length p.bytes) t (λ h. h.long);
  size = number_same _ _ t (λ h. h.size);
  digest = bytes_same _ _ t (λ h. h.digest);
  is =
      let a = number_same p.at at t (λ h. ap (λ (q : Payload). q.at) h.is) in
      let s = number_same p.sort (get_or body 8 0) t (λ h. ap (λ (q : Payload). q.sort) h.is) in
      let b = bytes_same p.bytes (take (length p.bytes) (drop 9 body)) t (λ h. ap (λ (q : Payload). q.bytes) h.is) in
      λ i. record { at = a i; sort = s i; bytes = b i };
}

-- the parts of a record in front, by the length of its payload
body_is : (bytes body rest : List ℕ) (n : ℕ) → bytes ≡ 165 ∷ (body ++ rest) → length body ≡ n → (body ≡ take n (drop 1 bytes)) × (rest ≡ drop n (drop 1 bytes))
body_is bytes body rest n e l =
    let d : drop 1 bytes ≡ body ++ rest = ap (λ (b : List ℕ). drop 1 b) e in
    (sym (ap (take n) d ∙ first n body rest (sym l)), sym (ap (drop n) d ∙ past n body rest (sym l)))

read-again : (at : ℕ) (bytes : List ℕ) (ps : List Payload) → ∥ AreRecords at bytes ps ∥₁ → AreRecords at bytes ps
read-again at bytes [] t = bytes_same bytes [] t (λ h. h)
read-again at bytes (p ∷ ps) t = (
  take n (drop 1 bytes),
  drop n (drop 1 bytes),
  bytes_same bytes (165 ∷ (take n (drop 1 bytes) ++ drop n (drop 1 bytes))) t (λ h. let e = parts h in h.2 ∙ ap (λ (b : List ℕ). 165 ∷ (b ++ h.1)) e.0 ∙ ap (λ (r : List ℕ). 165 ∷ (take n (drop 1 bytes) ++ r)) e.1),
  body-again at (take n (drop 1 bytes)) p (∥∥₁_map t (λ h. subst (λ (b : List ℕ). IsBody at b p) (parts h).0 h.3)),
  read-again (at + (42 + length p.bytes)) (drop n (drop 1 bytes)) ps (∥∥₁_map t (λ h. subst (λ (r : List ℕ). AreRecords (at + (42 + length p.bytes)) r ps) (parts h).1 h.4)),
)
  where
    n : ℕ
    n = 41 + length p.bytes

    parts : (h : AreRecords at bytes (p ∷ ps)) → (h.0 ≡ take n (drop 1 bytes)) × (h.1 ≡ drop n (drop 1 bytes))
    parts h = body_is bytes h.0 h.1 n h.2 h.3.long

closed-again : (gate : ℕ) (journal : List ℕ) (ps : List Payload) → ∥ IsClosedAt gate journal ps ∥₁ → IsClosedAt gate journal ps
closed-again gate journal ps t = record {
  front = take gate journal;
  closed = get_or (drop gate journal) 0 0;
  tail = drop 1 (drop gate journal);
  bytes = bytes_same journal (take gate journal ++ get_or (drop gate journal) 0 0 ∷ drop 1 (drop gate journal)) t
      (λ h. h.bytes ∙ ap (λ (f : List ℕ). f ++ h.closed ∷ h.tail) (front h) ∙ ap (λ (b : List ℕ). take gate journal ++ get_or b 0 0 ∷ drop 1 b) (sym (behind h)));
  read = read-again 0 (take gate journal) ps (∥∥₁_map t (λ h. subst (λ (f : List ℕ). AreRecords 0 f ps) (front h) h.read));
  shut = λ open_. never t (λ h. h.shut (sym (ap (λ (b : List ℕ). get_or b 0 0) (behind h)) ∙ open_));
  place = number_same gate (length (take gate journal)) t (λ h. h.place ∙ ap length (front h));
}
  where
    front : (h : IsClosedAt gate journal ps) → h.front ≡ take gate journal
    front h = sym (ap (take gate) h.bytes ∙ first gate h.front (h.closed ∷ h.tail) h.place)

    behind : (h : IsClosedAt gate journal ps) → drop gate journal ≡ h.closed ∷ h.tail
    behind h = ap (drop gate) h.bytes ∙ past gate h.front (h.closed ∷ h.tail) h.place

-- What journals and areas have in common says all of how they agree.
pub at-again : (j : JournalState) (a : AreaState) → ∥ IsAt j a ∥₁ → IsAt j a
at-again j a t = by (records a.now) refl
  where
    loose : (rs : List Range) → a.loose ≡ rs → a.loose ≡ []
    loose [] e = e
    loose (r ∷ rs) e = absurd (never t (λ h. let q : r ∷ rs ≡ [] = sym e ∙ h.synced.loose in absurd cc))

    by : (r : Read (List Payload)) → records a.now ≡ r → IsAt j a
    by (Wrong d) e = absurd (never t (λ h. let q : Wrong d ≡ Whole h.found = sym e ∙ h.whole in absurd cc))
    by (Whole ps) e = record {
      found = ps;
      whole = e;
      synced = record { stable = bytes_same a.stable a.now t (λ h. h.synced.stable); loose = loose a.loose refl };
      closed = λ begun. closed-again j.gate a.now ps (∥∥₁_map t (λ h. subst (IsClosedAt j.gate a.now) (let q : Whole h.found ≡ Whole ps = sym h.whole ∙ e in cc) (h.closed begun)));
      blank = λ unbegun. ∥∥₁_elim t le_prop (λ h. h.blank unbegun);
    }
