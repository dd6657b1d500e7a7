-- Records and then a closed gate are read as these records.
use Rattle.std.proofs.Common.{◌≡◌, ◌≤◌, ◌<◌, ◌+◌, ◌==◌, ℕ, zero, suc, List, [], ◌∷◌, ◌++◌, length, take, drop, get_or, refl, ap, sym, subst, ◌∙◌, arith, append_assoc, append-nil, length-append, length-take, length-drop, nat_lt, nat_le, Bool, true, false, if◌then◌else◌, All}
use Rattle.std.proofs.lemmas.Bool.{le-ltb, lt-leb, leb-true, ne_eqb}
use Rattle.std.proofs.lemmas.List.{take-append-drop, take-append-le, drop-append-le, get_or_append_left}
use Rattle.std.proofs.Math.Seq.{drop-append_seam}
use Rattle.std.proofs.lemmas.Slice.Eq.{bytes_eq-Decides}
use Rattle.std.specs.Str.{bytes_eq}
use Rattle.byteorder.specs.Endian.{big_number}
use Rattle.byteorder.specs.Numbers.{big_from-append}
use Rattle.sha2.specs.Sha256.{sha256}
use Rattle.mm_host.specs.declared.damage.Damage.{Damage}
use Rattle.mm_journal.specs.Records.{Read, and_then, record_of_size, record_at, walk, records}
use Rattle.mm_journal.specs.Records.Read.{Whole, Wrong}
use Rattle.mm_journal.specs.declared.payload.Payload.{Payload}
use Rattle.mm_journal.specs.Facts.Between.{no-records}
use Rattle.mm_journal.specs.Settled.{IsBody, AreRecords, IsClosedAt, IsNear, MayAnswer}
use Rattle.mm_host.specs.declared.damage.Fault.{Fault}
use Rattle.mm_host.specs.declared.damage.Fault.TheVariants.{DiskFault, Damaged, Memory, Spent}
use Rattle.std.proofs.lemmas.List.Elements.{All-append}

if_no : {A : Type 0} (b : Bool) (x y : A) → b ≡ false → (if b then x else y) ≡ y
if_no false x y e = refl
if_no true x y e = cc

if_yes : {A : Type 0} (b : Bool) (x y : A) → b ≡ true → (if b then x else y) ≡ x
if_yes true x y e = refl
if_yes false x y e = cc

-- a whole record
of_size : (next : ℕ → List ℕ → Read (List Payload)) (at : ℕ) (rest : List ℕ) (n : ℕ) → 42 + n ≤ length rest → take 32 (drop (9 + n) rest) ≡ sha256 (take (9 + n) rest)
    → record_of_size next at rest n ≡ and_then (next (at + (42 + n)) (drop (41 + n) rest)) (λ rs. Whole (record { at = at; sort = get_or rest 8 0; bytes = take n (drop 9 rest) } ∷ rs))
unfolding record_of_size
of_size next at rest n long same =
    if_no (nat_lt (1 + length rest) 43) _ _ (le-ltb (1 + length rest) 43 (omega (arith, long)))
    ∙ if_no (nat_lt (1 + length rest) (43 + n)) _ _ (le-ltb (1 + length rest) (43 + n) (omega (arith, long)))
    ∙ if_yes (bytes_eq (take 32 (drop (9 + n) rest)) (sha256 (take (9 + n) rest))) _ _ ((bytes_eq-Decides (take 32 (drop (9 + n) rest)) (sha256 (take (9 + n) rest))).1 same)

-- what stands behind a body isn't its own
pub inner : (i n : ℕ) (body rest : List ℕ) → i + n ≤ length body → take n (drop i (body ++ rest)) ≡ take n (drop i body)
inner i n body rest le = ap (take n) (drop-append-le i body rest (omega (arith, le))) ∙ take-append-le n (drop i body) rest (omega (arith, le, length-drop i body))

-- a body with what follows it
record-next : (next : ℕ → List ℕ → Read (List Payload)) (at : ℕ) (body rest : List ℕ) (r : Payload) → IsBody at body r → 0 < length rest
    → record_at next at (body ++ rest) ≡ and_then (next (at + (42 + length r.bytes)) rest) (λ rs. Whole (r ∷ rs))
unfolding record_at
record-next next at body rest r b some =
    ap (record_of_size next at (body ++ rest)) (big_from-append 8 body rest (omega (arith, b.long)) ∙ b.size)
    ∙ of_size next at (body ++ rest) n (omega (arith, b.long, some, length-append body rest))
    (inner (9 + n) 32 body rest (omega (arith, b.long)) ∙ b.digest ∙ ap sha256 (sym (take-append-le (9 + n) body rest (omega (arith, b.long)))))
    ∙ ap (λ l. and_then (next (at + (42 + n)) l) (λ rs. Whole (record { at = at; sort = get_or (body ++ rest) 8 0; bytes = take n (drop 9 (body ++ rest)) } ∷ rs)))
    (ap (λ (k : ℕ). drop k (body ++ rest)) (sym b.long) ∙ drop-append_seam body rest)
    ∙ ap (λ s. and_then (next (at + (42 + n)) rest) (λ rs. Whole (record { at = at; sort = s; bytes = take n (drop 9 (body ++ rest)) } ∷ rs)))
    (get_or_append_left body rest 0 8 (omega (arith, b.long)))
    ∙ ap (λ p. and_then (next (at + (42 + n)) rest) (λ rs. Whole (record { at = at; sort = get_or body 8 0; bytes = p } ∷ rs)))
    (inner 9 n body rest (omega (arith, b.long)))
    ∙ ap (λ q. and_then (next (at + (42 + n)) rest) (λ rs. Whole (q ∷ rs))) (sym b.is)
  where
    n : ℕ
    n = length r.bytes

-- what was read is a body
pub body-read : (at n : ℕ) (behind : List ℕ) → 41 + n ≤ length behind → big_number 8 behind ≡ n → take 32 (drop (9 + n) behind) ≡ sha256 (take (9 + n) behind)
    → (r : Payload) → r ≡ record { at = at; sort = get_or behind 8 0; bytes = take n (drop 9 behind) } → (length r.bytes ≡ n) × IsBody at (take (41 + n) behind) r
body-read at n behind long size same r is = (
  len,
  record {
    long = length-take (41 + n) behind ∙ omega (arith, long, len);
    size = sym (big_from-append 8 body rest (omega (arith, lb))) ∙ ap (big_number 8) whole ∙ size ∙ sym len;
    digest = ap (λ (k : ℕ). take 32 (drop (9 + k) body)) len ∙ sym (inner (9 + n) 32 body rest (omega (arith, lb))) ∙ ap (λ l. take 32 (drop (9 + n) l)) whole ∙ same
        ∙ ap (λ l. sha256 (take (9 + n) l)) (sym whole) ∙ ap sha256 (take-append-le (9 + n) body rest (omega (arith, lb))) ∙ ap (λ (k : ℕ). sha256 (take (9 + k) body)) (sym len);
    is = is ∙ ap (λ l. record { at = at; sort = get_or l 8 0; bytes = take n (drop 9 l) }) (sym whole)
        ∙ ap (λ s. record { at = at; sort = s; bytes = take n (drop 9 (body ++ rest)) }) (get_or_append_left body rest 0 8 (omega (arith, lb)))
        ∙ ap (λ p. record { at = at; sort = get_or body 8 0; bytes = p }) (inner 9 n body rest (omega (arith, lb)))
        ∙ ap (λ (k : ℕ). record { at = at; sort = get_or body 8 0; bytes = take k (drop 9 body) }) (sym len);
  },
)
  where
    body : List ℕ
    body = take (41 + n) behind

    rest : List ℕ
    rest = drop (41 + n) behind

    whole : body ++ rest ≡ behind
    whole = take-append-drop (41 + n) behind

    lb : length body ≡ 41 + n
    lb = length-take (41 + n) behind ∙ omega (arith, long)

    len : length r.bytes ≡ n
    len = ap (λ (q : Payload). length q.bytes) is ∙ length-take n (drop 9 behind) ∙ omega (arith, long, length-drop 9 behind)

then-whole : (x : Read (List Payload)) → and_then x (λ qs. Whole ([] ++ qs)) ≡ x
then-whole (Whole rs) = refl
then-whole (Wrong d) = refl

then-cons : (x : Read (List Payload)) (r : Payload) (rs : List Payload) → and_then (and_then x (λ qs. Whole (rs ++ qs))) (λ qs. Whole (r ∷ qs)) ≡ and_then x (λ qs. Whole ((r ∷ rs) ++ qs))
then-cons (Whole qs) r rs = refl
then-cons (Wrong d) r rs = refl

-- past whole records the walk goes on behind them, and there is fuel for the rest
pub walk-front : (most at : ℕ) (front : List ℕ) (rs : List Payload) (rest : List ℕ) → AreRecords at front rs → 0 < length rest → length front + length rest ≤ most
    → (n : ℕ) × (length rest ≤ n) × (walk most at (front ++ rest) ≡ and_then (walk n (at + length front) rest) (λ qs. Whole (rs ++ qs)))
unfolding walk
walk-front most at front [] rest read some fits = (
  most,
  omega (arith, fits),
  ap (λ l. walk most at (l ++ rest)) read ∙ sym (then-whole (walk most at rest)) ∙ ap (λ (k : ℕ). and_then (walk most k rest) (λ qs. Whole ([] ++ qs))) (omega (arith, ap length read)),
)
walk-front zero at front (r ∷ rs) rest read some fits = absurd (omega (arith, some, fits))
walk-front (suc m) at front (r ∷ rs) rest (body, more, e, b, read) some fits =
    let long : length front ≡ 1 + (length body + length more) = ap length e ∙ omega (arith, length-append body more) in
    let ih = walk-front m (at + (42 + length r.bytes)) more rs rest read some (omega (arith, fits, long)) in (
      ih.0,
      ih.1,
      ap (λ l. walk (suc m) at (l ++ rest)) e
          ∙ ap (record_at (walk m) at) (append_assoc body more rest)
          ∙ record-next (walk m) at body (more ++ rest) r b (omega (arith, some, length-append more rest))
          ∙ ap (λ x. and_then x (λ qs. Whole (r ∷ qs))) ih.2
          ∙ then-cons (walk ih.0 (at + (42 + length r.bytes) + length more) rest) r rs
          ∙ ap (λ (k : ℕ). and_then (walk ih.0 k rest) (λ qs. Whole ((r ∷ rs) ++ qs))) (omega (arith, long, b.long)),
    )

-- one record more
pub front-more : (at : ℕ) (front : List ℕ) (rs : List Payload) (body : List ℕ) (r : Payload) → AreRecords at front rs → IsBody (at + length front) body r
    → AreRecords at (front ++ 165 ∷ body) (rs ++ r ∷ [])
front-more at front [] body r read b =
    (body, [], ap (λ l. l ++ 165 ∷ body) read ∙ ap (λ l. 165 ∷ l) (sym (append-nil body)), subst (λ (k : ℕ). IsBody k body r) (omega (arith, ap length read)) b, refl)
front-more at front (q ∷ qs) body r (first, more, e, a, read) b =
    let long : length front ≡ 1 + (length first + length more) = ap length e ∙ omega (arith, length-append first more) in (
      first,
      more ++ 165 ∷ body,
      ap (λ l. l ++ 165 ∷ body) e ∙ ap (λ l. 165 ∷ l) (append_assoc first more (165 ∷ body)),
      a,
      front-more (at + (42 + length q.bytes)) more qs body r read (subst (λ (k : ℕ). IsBody k body r) (omega (arith, long, a.long)) b),
    )

walk-closed : (n at closed : ℕ) (tail : List ℕ) → (closed ≡ 165 → ⊥) → walk n at (closed ∷ tail) ≡ Whole []
unfolding walk
walk-closed zero at closed tail shut = refl
walk-closed (suc n) at closed tail shut = if_no (closed == 165) _ _ (ne_eqb closed 165 shut)

walk-open : (n at : ℕ) (behind : List ℕ) (d : Damage) → length (165 ∷ behind) ≤ n → ((next : ℕ → List ℕ → Read (List Payload)) → record_at next at behind ≡ Wrong d) → walk n at (165 ∷ behind) ≡ Wrong d
unfolding walk
walk-open zero at behind d fits wrong = absurd (omega (arith, fits))
walk-open (suc n) at behind d fits wrong = wrong (walk n)

-- Records and then a closed gate, whatever stands behind it.
pub closed-read : (gate : ℕ) (journal : List ℕ) (rs : List Payload) → IsClosedAt gate journal rs → records journal ≡ Whole rs
unfolding records
closed-read gate journal rs c = by_length (nat_le (length journal) 1) refl
  where
    long : length journal ≡ length c.front + (1 + length c.tail)
    long = ap length c.bytes ∙ length-append c.front (c.closed ∷ c.tail) ∙ omega arith

    walked : walk (length journal) 0 journal ≡ Whole rs
    walked =
        let w = walk-front (length journal) 0 c.front rs (c.closed ∷ c.tail) c.read (omega arith) (omega (arith, long)) in
        ap (walk (length journal) 0) c.bytes ∙ w.2 ∙ ap (λ x. and_then x (λ qs. Whole (rs ++ qs))) (walk-closed w.0 (0 + length c.front) c.closed c.tail c.shut) ∙ ap (λ l. Whole l) (append-nil rs)

    by_length : (b : Bool) → nat_le (length journal) 1 ≡ b → (if nat_le (length journal) 1 then Whole [] else walk (length journal) 0 journal) ≡ Whole rs
    by_length false e = if_no (nat_le (length journal) 1) _ _ e ∙ walked
    by_length true e = if_yes (nat_le (length journal) 1) _ _ e ∙ ap (λ l. Whole l) (sym (no-records c.front rs c.read (omega (arith, long, leb-true (length journal) 1 e))))

-- The first damage behind whole records is the journal's.
pub damaged-read : (journal front : List ℕ) (rs : List Payload) (behind : List ℕ) (d : Damage) → 1 < length journal → journal ≡ front ++ 165 ∷ behind → AreRecords 0 front rs
    → ((next : ℕ → List ℕ → Read (List Payload)) → record_at next (length front) behind ≡ Wrong d) → records journal ≡ Wrong d
unfolding records
damaged-read journal front rs behind d some is read wrong =
    let long : length journal ≡ length front + (1 + length behind) = ap length is ∙ length-append front (165 ∷ behind) ∙ omega arith in
    let w = walk-front (length journal) 0 front rs (165 ∷ behind) read (omega arith) (omega (arith, long)) in
    if_no (nat_le (length journal) 1) _ _ (lt-leb (length journal) 1 some)
    ∙ ap (walk (length journal) 0) is ∙ w.2 ∙ ap (λ x. and_then x (λ qs. Whole (rs ++ qs))) (walk-open w.0 (0 + length front) behind d w.1 (λ next. ap (λ (k : ℕ). record_at next k behind) (omega arith) ∙ wrong next))

-- The bytes are read up to a place: whole records, and then the rest.
pub record IsReadTo (bytes : List ℕ) (at : ℕ) (rest : List ℕ) (rs : List Payload) : Type 0 where
  pub front : List ℕ
  pub are : bytes ≡ front ++ rest
  pub place : at ≡ length front
  pub read : AreRecords 0 front rs

first-and : (rest : List ℕ) → 0 < length rest → rest ≡ get_or rest 0 0 ∷ drop 1 rest
first-and [] some = absurd (omega (arith, some))
first-and (x ∷ rest) some = refl

pub read-next : (bytes : List ℕ) (at : ℕ) (rest behind rest' : List ℕ) (rs : List Payload) (r : Payload) → IsReadTo bytes at rest rs → 0 < length rest → get_or rest 0 0 ≡ 165 → behind ≡ drop 1 rest
    → 42 + length r.bytes ≤ length behind → IsBody at (take (41 + length r.bytes) behind) r → rest' ≡ drop (41 + length r.bytes) behind
    → IsReadTo bytes (at + (42 + length r.bytes)) rest' (rs ++ r ∷ [])
read-next bytes at rest behind rest' rs r q some is_open b long body e = record {
  front = q.front ++ 165 ∷ taken;
  are = q.are ∙ ap (λ l. q.front ++ l) (first-and rest some ∙ ap (λ (x : ℕ). x ∷ drop 1 rest) is_open ∙ ap (λ l. 165 ∷ l) (sym b ∙ sym (take-append-drop (41 + length r.bytes) behind) ∙ ap (λ l. taken ++ l) (sym e)))
      ∙ sym (append_assoc q.front (165 ∷ taken) rest');
  place = omega (arith, q.place, length-append q.front (165 ∷ taken), length-take (41 + length r.bytes) behind, long);
  read = front-more 0 q.front rs taken r q.read (subst (λ (k : ℕ). IsBody k taken r) (q.place ∙ omega arith) body);
}
  where
    taken : List ℕ
    taken = take (41 + length r.bytes) behind

pub read-wrong : (bytes : List ℕ) (at : ℕ) (rest behind : List ℕ) (rs : List Payload) (d : Damage) → IsReadTo bytes at rest rs → 1 < length bytes → 0 < length rest → get_or rest 0 0 ≡ 165 → behind ≡ drop 1 rest
    → ((next : ℕ → List ℕ → Read (List Payload)) → record_at next at behind ≡ Wrong d) → records bytes ≡ Wrong d
read-wrong bytes at rest behind rs d q long some is_open b wrong =
    damaged-read bytes q.front rs behind d long (q.are ∙ ap (λ l. q.front ++ l) (first-and rest some ∙ ap (λ (x : ℕ). x ∷ drop 1 rest) is_open ∙ ap (λ l. 165 ∷ l) (sym b))) q.read
    (λ next. ap (λ (k : ℕ). record_at next k behind) (sym q.place) ∙ wrong next)

pub near-more : (ps : List Payload) (p : Payload) → All IsNear ps → IsNear p → All IsNear (ps ++ p ∷ [])
near-more ps p near h = All-append IsNear ps (p ∷ []) near one
  where
    one : All IsNear (p ∷ [])
    one zero d lt = h
    one (suc k) d lt = absurd (omega (arith, lt))

-- another thing of each damage
pub answer-more : (F : Type 0) {P Q : Damage → Type 0} (fault : Fault) → ((d : Damage) → P d → Q d) → MayAnswer F P fault → MayAnswer F Q fault
answer-more F DiskFault f h = h
answer-more F (Damaged d) f h = f d h
answer-more F Memory f h = h
answer-more F Spent f h = h
