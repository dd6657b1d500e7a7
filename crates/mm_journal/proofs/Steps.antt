-- The steps of an append.
use Rattle.std.proofs.Common.{◌≡◌, ◌≤◌, ◌<◌, ◌+◌, ◌-◌, ◌^◌, ℕ, List, [], ◌∷◌, ◌++◌, length, take, drop, get_or, refl, ap, sym, subst, ◌∙◌, arith, max, append_assoc, append-nil, length-append, length-take, length-drop, replicate, ◌⊎◌, inl, inr, ◌==◌, Bool, true, false, nat_le, if◌then◌else◌, zero, suc, Result, Ok, Err, OnOk}
use Rattle.std.proofs.lemmas.List.{ext_get_or, get_or-take, get_or-drop, get_or_append_left, take-append-drop, drop_more}
use Rattle.std.proofs.lemmas.Bool.{eqb-true, eqb-false, leb-false, true≢false}
use Rattle.std.proofs.Math.Seq.{take-append_seam, drop-append_seam, drop-append-add}
use Rattle.byteorder.specs.Endian.{big_number, big_bytes}
use Rattle.byteorder.specs.Numbers.{big_number-reads_back, length-bytes_high_first}
use Rattle.sha2.specs.Sha256.{sha256}
use Rattle.sha2.proofs.Facts256.{length-sha256}
use Rattle.mm_host.specs.declared.area.Area.TheVariants.{Journal}
use Rattle.mm_host.specs.Disk.{AreaState, DiskState, Image, IsImage, MayLeave, IsOutside, IsSynced, TornLeaves, furthest, put_bytes, after_write, after_sync, torn}
use Rattle.mm_host.specs.Facts.Torn.{synced-image, after_sync-synced}
use Rattle.mm_journal.specs.Records.{records, walk, with_record}
use Rattle.mm_journal.specs.Records.Read.{Whole}
use Rattle.mm_journal.specs.Settled.{Content, JournalState, IsBody, AreRecords, IsClosedAt, IsSealed, IsAt, AppendLeaves, ResetLeaves, NoneLeft, placed}
use Rattle.mm_journal.specs.Inside.Bodies.{IsSettled, AddsOrNot, content_of}
use Rattle.mm_journal.specs.declared.payload.Payload.{Payload}
use Rattle.mm_journal.proofs.Walking.{front-more, closed-read, inner}

-- bytes that are put behind a front
put-behind : (front rest bytes : List ℕ) → put_bytes (front ++ rest) (length front) bytes ≡ front ++ (bytes ++ drop (length bytes) rest)
put-behind front rest bytes =
    ap (λ l. l ++ replicate (length front - length (front ++ rest)) 0 ++ bytes ++ drop (length front + length bytes) (front ++ rest)) (take-append_seam front rest)
    ∙ ap (λ (k : ℕ). front ++ replicate k 0 ++ bytes ++ drop (length front + length bytes) (front ++ rest)) none
    ∙ ap (λ l. l ++ bytes ++ drop (length front + length bytes) (front ++ rest)) (append-nil front)
    ∙ ap (λ l. front ++ bytes ++ l) (drop-append-add front rest (length bytes))
    ∙ append_assoc front bytes (drop (length bytes) rest)
  where
    none : length front - length (front ++ rest) ≡ 0
    none = omega (arith, length-append front rest)

-- a list by its front, its item at a place, and what stands behind
around : (c : List ℕ) (k : ℕ) → k < length c → c ≡ take k c ++ get_or c k 0 ∷ drop (k + 1) c
around c k h = sym (take-append-drop k c) ∙ ap (λ l. take k c ++ l) (drop_more c k 0 h)

-- the same front
same-front : (c front rest : List ℕ) → length front ≤ length c → ((k : ℕ) → k < length front → get_or c k 0 ≡ get_or (front ++ rest) k 0) → take (length front) c ≡ front
same-front c front rest long same =
    ext_get_or 0 (take (length front) c) front (omega (arith, length-take (length front) c, long))
    (λ k h. let k_in : k < length front = omega (arith, h, length-take (length front) c) in get_or-take (length front) c k 0 k_in ∙ same k k_in ∙ get_or_append_left front rest 0 k k_in)

item : (front tail : List ℕ) (x : ℕ) → get_or (front ++ x ∷ tail) (length front) 0 ≡ x
item [] tail x = refl
item (y ∷ front) tail x = item front tail x

-- A journal is determined by its bytes up to the closed gate, whatever stands behind it and however long it is.
pub same-closed : (gate : ℕ) (j c : List ℕ) (rs : List Payload) → IsClosedAt gate j rs → gate < length c → ((k : ℕ) → k < gate + 1 → get_or c k 0 ≡ get_or j k 0) → IsClosedAt gate c rs
same-closed gate j c rs q long same = record {
  front = q.front;
  closed = q.closed;
  tail = drop (gate + 1) c;
  bytes = around c gate long ∙ ap (λ l. l ++ get_or c gate 0 ∷ drop (gate + 1) c) front_is ∙ ap (λ (x : ℕ). q.front ++ x ∷ drop (gate + 1) c) gate_is;
  read = q.read;
  shut = q.shut;
  place = q.place;
}
  where
    front_is : take gate c ≡ q.front
    front_is = ap (λ (k : ℕ). take k c) q.place ∙ same-front c q.front (q.closed ∷ q.tail) (omega (arith, long, q.place)) (λ k h. same k (omega (arith, h, q.place)) ∙ ap (λ (l : List ℕ). get_or l k 0) q.bytes)

    gate_is : get_or c gate 0 ≡ q.closed
    gate_is = same gate (omega arith) ∙ ap (λ (l : List ℕ). get_or l gate 0) q.bytes ∙ ap (λ (k : ℕ). get_or (q.front ++ q.closed ∷ q.tail) k 0) q.place ∙ item q.front q.tail q.closed

closed-length : (gate : ℕ) (j : List ℕ) (rs : List Payload) → IsClosedAt gate j rs → gate < length j
closed-length gate j rs q = omega (arith, q.place, ap (λ (l : List ℕ). length l) q.bytes, length-append q.front (q.closed ∷ q.tail))

-- A torn write behind the gate leaves the records.
pub stage-leaves : (gate n : ℕ) (a : AreaState) (rs : List Payload) (c : List ℕ) → IsSettled gate a rs → IsImage (torn a (gate + 1) n) c → IsClosedAt gate c rs
stage-leaves gate n a rs c q i =
    let long : gate < length a.stable = subst (λ (l : List ℕ). gate < length l) (sym q.synced.stable) (closed-length gate a.now rs q.closed) in
    same-closed gate a.now c rs q.closed (omega (arith, long, i.no_shorter))
    (λ k h. i.same k (omega (arith, long, h)) (inl h, subst (λ l. IsOutside l k) (sym q.synced.loose) tt) ∙ ap (λ (l : List ℕ). get_or l k 0) q.synced.stable)

-- A record stands whole behind the closed gate.
pub record IsStaged (gate : ℕ) (a : AreaState) (rs : List Payload) (body : List ℕ) : Type 0 where
  pub front : List ℕ
  pub closed : ℕ
  pub tail : List ℕ
  pub bytes : a.now ≡ front ++ closed ∷ (body ++ 0 ∷ tail)
  pub read : AreRecords 0 front rs
  pub shut : closed ≡ 165 → ⊥
  pub place : gate ≡ length front
  pub synced : IsSynced a

pub staged : (gate : ℕ) (a b : AreaState) (rs : List Payload) (sealed body : List ℕ) → IsSettled gate a rs → sealed ≡ body ++ 0 ∷ [] → b ≡ after_sync (after_write a (gate + 1) sealed) → IsStaged gate b rs body
staged gate a b rs sealed body q is e = record {
  front = f;
  closed = x;
  tail = drop (length sealed) q.closed.tail;
  bytes = ap (λ (s : AreaState). s.now) e ∙ ap (λ l. put_bytes l (gate + 1) sealed) (q.closed.bytes ∙ sym (append_assoc f (x ∷ []) q.closed.tail))
      ∙ ap (λ (k : ℕ). put_bytes ((f ++ x ∷ []) ++ q.closed.tail) k sealed) (omega (arith, q.closed.place, length-append f (x ∷ [])))
      ∙ put-behind (f ++ x ∷ []) q.closed.tail sealed
      ∙ append_assoc f (x ∷ []) (sealed ++ drop (length sealed) q.closed.tail)
      ∙ ap (λ l. f ++ x ∷ l) (ap (λ l. l ++ drop (length sealed) q.closed.tail) is ∙ append_assoc body (0 ∷ []) (drop (length sealed) q.closed.tail));
  read = q.closed.read;
  shut = q.closed.shut;
  place = q.closed.place;
  synced = after_sync-synced (after_write a (gate + 1) sealed) b e;
}
  where
    f : List ℕ
    f = q.closed.front

    x : ℕ
    x = q.closed.closed

-- the gate before it is opened
still-closed : (gate : ℕ) (c : List ℕ) (rs : List Payload) (front : List ℕ) (x : ℕ) (rest : List ℕ) → c ≡ front ++ x ∷ rest → AreRecords 0 front rs → (x ≡ 165 → ⊥) → gate ≡ length front → IsClosedAt gate c rs
still-closed gate c rs front x rest e read shut place = record { front = front; closed = x; tail = rest; bytes = e; read = read; shut = shut; place = place }

zero_odd : {n : ℕ} → n ≡ 0 → n ≡ 165 → ⊥
zero_odd e is = absurd (omega (arith, e, is))

-- and after
pub now-open : (gate : ℕ) (c : List ℕ) (rs : List Payload) (front body tail : List ℕ) (r : Payload) → c ≡ front ++ 165 ∷ (body ++ 0 ∷ tail) → AreRecords 0 front rs → IsBody gate body r → gate ≡ length front
    → IsClosedAt (gate + (1 + length body)) c (rs ++ r ∷ [])
now-open gate c rs front body tail r e read b place = record {
  front = front ++ 165 ∷ body;
  closed = 0;
  tail = tail;
  bytes = e ∙ sym (append_assoc front (165 ∷ body) (0 ∷ tail));
  read = front-more 0 front rs body r read (subst (λ (k : ℕ). IsBody k body r) (place ∙ omega arith) b);
  shut = zero_odd {n = 0} refl;
  place = omega (arith, place, length-append front (165 ∷ body));
}

-- A torn write of the gate leaves the records before, or these and the new one.
pub gate-leaves : (gate : ℕ) (b : AreaState) (rs : List Payload) (body : List ℕ) (r : Payload) (c : List ℕ) → IsStaged gate b rs body → IsBody gate body r → IsImage (torn b gate 1) c
    → IsClosedAt gate c rs ⊎ IsClosedAt (gate + (1 + length body)) c (rs ++ r ∷ [])
gate-leaves gate b rs body r c q h i = by_gate (get_or c gate 0 == 165) refl
  where
    rest : List ℕ
    rest = body ++ 0 ∷ q.tail

    long : length b.now ≡ length q.front + (1 + length rest)
    long = ap (λ (l : List ℕ). length l) q.bytes ∙ length-append q.front (q.closed ∷ rest) ∙ omega arith

    stable_long : length b.stable ≡ length b.now
    stable_long = ap (λ (l : List ℕ). length l) q.synced.stable

    c_long : length c ≡ length b.now
    c_long = omega (arith, i.no_shorter, stable_long, long, q.place, subst (λ l. length c ≤ max (gate + 1) (furthest (length b.now) l)) q.synced.loose i.no_longer)

    same : (k : ℕ) → k < length b.now → (k < gate) ⊎ (gate + 1 ≤ k) → get_or c k 0 ≡ get_or (q.front ++ q.closed ∷ rest) k 0
    same k k_in out = i.same k (omega (arith, k_in, stable_long)) (out, subst (λ l. IsOutside l k) (sym q.synced.loose) tt) ∙ ap (λ (l : List ℕ). get_or l k 0) (q.synced.stable ∙ q.bytes)

    front_is : take gate c ≡ q.front
    front_is = ap (λ (k : ℕ). take k c) q.place ∙ same-front c q.front (q.closed ∷ rest) (omega (arith, c_long, long)) (λ k k_in. same k (omega (arith, k_in, long)) (inl (omega (arith, k_in, q.place))))

    behind : drop (gate + 1) (q.front ++ q.closed ∷ rest) ≡ rest
    behind = ap (λ (k : ℕ). drop (k + 1) (q.front ++ q.closed ∷ rest)) q.place ∙ drop-append-add q.front (q.closed ∷ rest) 1

    rest_is : drop (gate + 1) c ≡ rest
    rest_is = ext_get_or 0 (drop (gate + 1) c) (drop (gate + 1) (q.front ++ q.closed ∷ rest)) (length-drop (gate + 1) c ∙ omega (arith, c_long, long, q.place, ap (λ (l : List ℕ). length l) behind))
        (λ k k_in. get_or-drop (gate + 1) c k 0 ∙ same (gate + 1 + k) (omega (arith, k_in, length-drop (gate + 1) c, c_long)) (inr (omega arith)) ∙ sym (get_or-drop (gate + 1) (q.front ++ q.closed ∷ rest) k 0)) ∙ behind

    c_is : c ≡ q.front ++ get_or c gate 0 ∷ rest
    c_is = around c gate (omega (arith, c_long, long, q.place)) ∙ ap (λ l. l ++ get_or c gate 0 ∷ drop (gate + 1) c) front_is ∙ ap (λ l. q.front ++ get_or c gate 0 ∷ l) rest_is

    by_gate : (d : Bool) → (get_or c gate 0 == 165) ≡ d → IsClosedAt gate c rs ⊎ IsClosedAt (gate + (1 + length body)) c (rs ++ r ∷ [])
    by_gate true e = inr (now-open gate c rs q.front body q.tail r (c_is ∙ ap (λ (x : ℕ). q.front ++ x ∷ rest) (eqb-true (get_or c gate 0) 165 e)) q.read h q.place)
    by_gate false e = inl (still-closed gate c rs q.front (get_or c gate 0) rest c_is q.read (eqb-false (get_or c gate 0) 165 e) q.place)

-- The gate was opened: these records and the new one are there.
pub opened : (gate : ℕ) (b d : AreaState) (rs : List Payload) (body : List ℕ) (r : Payload) → IsStaged gate b rs body → IsBody gate body r → d ≡ after_sync (after_write b gate (165 ∷ []))
    → IsSettled (gate + (1 + length body)) d (rs ++ r ∷ [])
opened gate b d rs body r q h e = record {
  closed = now-open gate d.now rs q.front body q.tail r
      (ap (λ (s : AreaState). s.now) e ∙ ap (λ l. put_bytes l gate (165 ∷ [])) q.bytes ∙ ap (λ (k : ℕ). put_bytes (q.front ++ q.closed ∷ (body ++ 0 ∷ q.tail)) k (165 ∷ [])) q.place
      ∙ put-behind q.front (q.closed ∷ (body ++ 0 ∷ q.tail)) (165 ∷ []))
      q.read h q.place;
  synced = after_sync-synced (after_write b gate (165 ∷ [])) d e;
}

-- What is sealed is a record.
pub sealed-body : (at sort : ℕ) (payload covered : List ℕ) → length payload < 256 ^ 8 → covered ≡ big_bytes 8 (length payload) ++ sort ∷ payload
    → IsBody at (covered ++ sha256 covered) (record { at = at; sort = sort; bytes = payload })
sealed-body at sort payload covered fits is = record {
  long = length-append covered (sha256 covered) ∙ omega (arith, cl, length-sha256 covered);
  size = ap (big_number 8) whole ∙ big_number-reads_back 8 (length payload) ((sort ∷ payload) ++ sha256 covered) fits;
  digest = ap (take 32) (ap (λ (k : ℕ). drop k (covered ++ sha256 covered)) (sym cl) ∙ drop-append_seam covered (sha256 covered)) ∙ ap (λ (k : ℕ). take k (sha256 covered)) (sym (length-sha256 covered)) ∙ all (sha256 covered)
      ∙ ap sha256 (sym (ap (λ (k : ℕ). take k (covered ++ sha256 covered)) (sym cl) ∙ take-append_seam covered (sha256 covered)));
  is = ap (λ (s : ℕ). record { at = at; sort = s; bytes = payload }) (sym sort_is) ∙ ap (λ l. record { at = at; sort = get_or (covered ++ sha256 covered) 8 0; bytes = l }) (sym payload_is);
}
  where
    front : List ℕ
    front = big_bytes 8 (length payload)

    fl : length front ≡ 8
    fl = length-bytes_high_first 8 (length payload)

    cl : length covered ≡ 9 + length payload
    cl = ap (λ (l : List ℕ). length l) is ∙ length-append front (sort ∷ payload) ∙ omega (arith, fl)

    all : (l : List ℕ) → take (length l) l ≡ l
    all l = ap (take (length l)) (sym (append-nil l)) ∙ take-append_seam l []

    whole : covered ++ sha256 covered ≡ front ++ ((sort ∷ payload) ++ sha256 covered)
    whole = ap (λ l. l ++ sha256 covered) is ∙ append_assoc front (sort ∷ payload) (sha256 covered)

    sort_is : get_or (covered ++ sha256 covered) 8 0 ≡ sort
    sort_is = ap (λ (l : List ℕ). get_or l 8 0) whole ∙ ap (λ (k : ℕ). get_or (front ++ sort ∷ (payload ++ sha256 covered)) k 0) (sym fl) ∙ item front (payload ++ sha256 covered) sort

    payload_is : take (length payload) (drop 9 (covered ++ sha256 covered)) ≡ payload
    payload_is = ap (λ l. take (length payload) (drop 9 l)) whole
        ∙ ap (λ (k : ℕ). take (length payload) (drop (k + 1) (front ++ sort ∷ (payload ++ sha256 covered)))) (sym fl)
        ∙ ap (take (length payload)) (drop-append-add front (sort ∷ (payload ++ sha256 covered)) 1) ∙ take-append_seam payload (sha256 covered)

pub sealed-bytes : (sort : ℕ) (payload size v0 v1 v2 digest v3 v4 : List ℕ) → size ≡ big_bytes 8 (length payload) ++ [] → v0 ≡ size → v1 ≡ v0 ++ sort ∷ [] → v2 ≡ v1 ++ payload → digest ≡ sha256 v2
    → v3 ≡ v2 ++ digest → v4 ≡ v3 ++ 0 ∷ [] → length payload < 256 ^ 8 → IsSealed v4 (record { sort = sort; bytes = payload })
sealed-bytes sort payload size v0 v1 v2 digest v3 v4 es e0 e1 e2 ed e3 e4 fits = record {
  body = v2 ++ sha256 v2;
  bytes = e4 ∙ ap (λ l. l ++ 0 ∷ []) (e3 ∙ ap (λ l. v2 ++ l) ed);
  is = λ at. sealed-body at sort payload v2 fits
      (e2 ∙ ap (λ l. l ++ payload) (e1 ∙ ap (λ l. l ++ sort ∷ []) (e0 ∙ es ∙ append-nil (big_bytes 8 (length payload)))) ∙ append_assoc (big_bytes 8 (length payload)) (sort ∷ []) payload);
}

-- Blank bytes, and a closed first gate put there.
pub blank-records : (c : List ℕ) → length c ≤ 1 → records c ≡ Whole []
unfolding records
blank-records c short = by_length (nat_le (length c) 1) refl
  where
    by_length : (b : Bool) → nat_le (length c) 1 ≡ b → (if nat_le (length c) 1 then Whole [] else walk (length c) 0 c) ≡ Whole []
    by_length true e = ap (λ b. if b then Whole [] else walk (length c) 0 c) e
    by_length false e = absurd (omega (arith, short, leb-false (length c) 1 e))

pub begin-leaves : (a : AreaState) (c : List ℕ) → length a.now ≤ 1 → IsSynced a → IsImage (torn a 0 1) c → records c ≡ Whole []
begin-leaves a c short q i = blank-records c (omega (arith, short, subst (λ l. length c ≤ max 1 (furthest (length a.now) l)) q.loose i.no_longer))

-- a closed first gate, whatever stands behind it
pub first-closed : (x : ℕ) (rest : List ℕ) → (x ≡ 165 → ⊥) → IsClosedAt 0 (x ∷ rest) []
first-closed x rest shut = record { front = []; closed = x; tail = rest; bytes = refl; read = refl; shut = shut; place = refl }

pub gate-shut : (a b : AreaState) → b ≡ after_sync (after_write a 0 (0 ∷ [])) → IsSettled 0 b []
gate-shut a b e = record {
  closed = subst (λ l. IsClosedAt 0 l []) (sym (ap (λ (s : AreaState). s.now) e ∙ put-behind [] a.now (0 ∷ []))) (first-closed 0 (drop 1 a.now) (zero_odd {n = 0} refl));
  synced = after_sync-synced (after_write a 0 (0 ∷ [])) b e;
}

-- A torn reset leaves all records or none, where there is a record.
pub reset-leaves : (gate : ℕ) (a : AreaState) (rs : List Payload) (c : List ℕ) → 0 < gate → IsSettled gate a rs → IsImage (torn a 0 1) c → (records c ≡ Whole rs) ⊎ (records c ≡ Whole [])
reset-leaves gate a rs c some q i = by_gate (get_or c 0 0 == 165) refl
  where
    stable_long : length a.stable ≡ length a.now
    stable_long = ap (λ (l : List ℕ). length l) q.synced.stable

    long : gate < length a.now
    long = closed-length gate a.now rs q.closed

    c_long : length c ≡ length a.now
    c_long = omega (arith, i.no_shorter, stable_long, long, subst (λ l. length c ≤ max 1 (furthest (length a.now) l)) q.synced.loose i.no_longer)

    same : (k : ℕ) → k < length a.now → 1 ≤ k → get_or c k 0 ≡ get_or a.now k 0
    same k k_in out = i.same k (omega (arith, k_in, stable_long)) (inr out, subst (λ l. IsOutside l k) (sym q.synced.loose) tt) ∙ ap (λ (l : List ℕ). get_or l k 0) q.synced.stable

    first : (front : List ℕ) (qs : List Payload) (l : List ℕ) → AreRecords 0 front qs → 0 < length front → get_or (front ++ l) 0 0 ≡ 165
    first front [] l read some = absurd (omega (arith, some, ap (λ (l : List ℕ). length l) read))
    first front (r ∷ qs) l (body, rest, e, b, read) some = ap (λ (f : List ℕ). get_or (f ++ l) 0 0) e

    is_open : get_or a.now 0 0 ≡ 165
    is_open = ap (λ (l : List ℕ). get_or l 0 0) q.closed.bytes ∙ first q.closed.front rs (q.closed.closed ∷ q.closed.tail) q.closed.read (omega (arith, some, q.closed.place))

    at_gate : get_or c 0 0 ≡ 165 → (k : ℕ) → k < gate + 1 → get_or c k 0 ≡ get_or a.now k 0
    at_gate e zero h = e ∙ sym is_open
    at_gate e (suc k) h = same (suc k) (omega (arith, h, long)) (omega arith)

    by_gate : (d : Bool) → (get_or c 0 0 == 165) ≡ d → (records c ≡ Whole rs) ⊎ (records c ≡ Whole [])
    by_gate true e = inl (closed-read gate c rs (same-closed gate a.now c rs q.closed (omega (arith, c_long, long)) (at_gate (eqb-true (get_or c 0 0) 165 e))))
    by_gate false e = inr (closed-read 0 c [] (subst (λ l. IsClosedAt 0 l []) (sym (around c 0 (omega (arith, c_long, long)))) (first-closed (get_or c 0 0) (drop 1 c) (eqb-false (get_or c 0 0) 165 e))))

-- what sealed bytes hold
pub content-sealed : (sealed : List ℕ) (c : Content) → IsSealed sealed c → content_of sealed ≡ c
content-sealed sealed c h = ap (λ (s : ℕ). record { sort = s; bytes = take (length sealed - 42) (drop 9 sealed) }) sort_is ∙ ap (λ (l : List ℕ). record { sort = c.sort; bytes = l }) bytes_are
  where
    b : IsBody 0 h.body (placed 0 c)
    b = h.is 0

    sort_is : get_or sealed 8 0 ≡ c.sort
    sort_is = ap (λ (l : List ℕ). get_or l 8 0) h.bytes ∙ get_or_append_left h.body (0 ∷ []) 0 8 (omega (arith, b.long)) ∙ sym (ap (λ (p : Payload). p.sort) b.is)

    count : length sealed - 42 ≡ length c.bytes
    count = omega (arith, ap (λ (l : List ℕ). length l) h.bytes, length-append h.body (0 ∷ []), b.long)

    bytes_are : take (length sealed - 42) (drop 9 sealed) ≡ c.bytes
    bytes_are =
        ap (λ (k : ℕ). take k (drop 9 sealed)) count ∙ ap (λ (l : List ℕ). take (length c.bytes) (drop 9 l)) h.bytes
        ∙ inner 9 (length c.bytes) h.body (0 ∷ []) (omega (arith, b.long)) ∙ sym (ap (λ (p : Payload). p.bytes) b.is)

pub sealed-length : (sealed : List ℕ) (c : Content) → IsSealed sealed c → length sealed ≡ 42 + length c.bytes
sealed-length sealed c h = let b = h.is 0 in omega (arith, ap (λ (l : List ℕ). length l) h.bytes, length-append h.body (0 ∷ []), b.long)

-- The two writes of an append, as a crash cuts them short.
pub append-first : (gate n : ℕ) (s : DiskState) (ps : List Payload) (p : Payload) (i : Image) → IsSettled gate s.journal ps → TornLeaves s Journal (gate + 1) n i → AddsOrNot s ps p i
append-first gate n s ps p i q left = (left.pages, inl (closed-read gate i.journal ps (stage-leaves gate n s.journal ps i.journal q left.journal)))

pub append-second : (gate : ℕ) (s s1 : DiskState) (ps : List Payload) (sealed : List ℕ) (c : Content) (i : Image) → IsSettled gate s.journal ps → IsSealed sealed c
    → s1.journal ≡ after_sync (after_write s.journal (gate + 1) sealed) → s1.pages ≡ s.pages → TornLeaves s1 Journal gate 1 i → AddsOrNot s ps (placed gate c) i
append-second gate s s1 ps sealed c i q h e pages left =
    let st = staged gate s.journal s1.journal ps sealed h.body q h.bytes e in (
      subst (λ a. IsImage a i.pages) pages left.pages,
      elim (gate-leaves gate s1.journal ps h.body (placed gate c) i.journal st (h.is gate) left.journal) [
        | inl old ↦ inl (closed-read gate i.journal ps old)
        | inr new ↦ inr (closed-read (gate + (1 + length h.body)) i.journal (ps ++ placed gate c ∷ []) new)
      ],
    )

pub append-settles : (gate : ℕ) (a b d : AreaState) (ps : List Payload) (sealed : List ℕ) (c : Content) → IsSettled gate a ps → IsSealed sealed c
    → b ≡ after_sync (after_write a (gate + 1) sealed) → d ≡ after_sync (after_write b gate (165 ∷ [])) → IsSettled (gate + length sealed) d (ps ++ placed gate c ∷ [])
append-settles gate a b d ps sealed c q h e f =
    let long : gate + (1 + length h.body) ≡ gate + length sealed = omega (arith, ap (λ (l : List ℕ). length l) h.bytes, length-append h.body (0 ∷ [])) in
    subst (λ (k : ℕ). IsSettled k d (ps ++ placed gate c ∷ [])) long (opened gate b d ps h.body (placed gate c) (staged gate a b ps sealed h.body q h.bytes e) (h.is gate) f)

-- In the words of a journal.
pub at-settled : (j : JournalState) (a : AreaState) (q : IsAt j a) → j.is_begun ≡ true → IsSettled j.gate a q.found
at-settled j a q b = record { closed = q.closed b; synced = q.synced }

pub settled-here : (j : JournalState) (gate : ℕ) (a : AreaState) (q : IsAt j a) → gate ≡ j.gate → j.is_begun ≡ true → IsSettled gate a q.found
settled-here j gate a q same b = subst (λ (k : ℕ). IsSettled k a q.found) (sym same) (at-settled j a q b)

pub settled-at : (j : JournalState) (a : AreaState) (ps : List Payload) → j.is_begun ≡ true → IsSettled j.gate a ps → IsAt j a
settled-at j a ps b q = record { found = ps; whole = closed-read j.gate a.now ps q.closed; synced = q.synced; closed = λ _. q.closed; blank = λ is. absurd (true≢false (sym b ∙ is)) }

pub blank-at : (j : JournalState) (a : AreaState) → j.is_begun ≡ false → length a.now ≤ 1 → IsSynced a → IsAt j a
blank-at j a b short q = record { found = []; whole = blank-records a.now short; synced = q; closed = λ is. absurd (true≢false (sym is ∙ b)); blank = λ _. short }

-- every crash leaves what is settled
pub settled-leaves : (gate : ℕ) (s : DiskState) (ps : List Payload) (i : Image) → IsSettled gate s.journal ps → MayLeave s i → records i.journal ≡ Whole ps
settled-leaves gate s ps i q may = ap records (synced-image s.journal i.journal q.synced may.journal) ∙ closed-read gate s.journal.now ps q.closed

pub append-leaves : (s : DiskState) (ps : List Payload) (p : Payload) (i : Image) → records s.journal.now ≡ Whole ps → AddsOrNot s ps p i → AppendLeaves s p i
append-leaves s ps p i whole left = (
  left.0,
  elim left.1 [
    | inl old ↦ inl (old ∙ sym whole)
    | inr new ↦ inr (new ∙ ap (λ x. with_record x p) (sym whole))
  ],
)

pub none-leaves : (s : DiskState) (i : Image) → length s.journal.now ≤ 1 → IsSynced s.journal → TornLeaves s Journal 0 1 i → NoneLeft s i
none-leaves s i short q left = (left.pages, begin-leaves s.journal i.journal short q left.journal)

pub all-or-none : (gate : ℕ) (s : DiskState) (ps : List Payload) (i : Image) → 0 < gate → IsSettled gate s.journal ps → TornLeaves s Journal 0 1 i → ResetLeaves s i
all-or-none gate s ps i some q left = (
  left.pages,
  elim (reset-leaves gate s.journal ps i.journal some q left.journal) [
    | inl all ↦ inl (all ∙ sym (closed-read gate s.journal.now ps q.closed))
    | inr none ↦ inr none
  ],
)

pub on-ok : {T E P Q : Type 0} (r : Result T E) → (P → Q) → OnOk r P → OnOk r Q
on-ok (Ok x) f p = f p
on-ok (Err e) f p = tt
