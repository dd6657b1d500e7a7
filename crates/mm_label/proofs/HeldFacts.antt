-- What a label's bytes tell of its components.
use Rattle.std.specs.Prelude.{Result, Ok, Err, Vec, IfOk}
use Rattle.std.specs.Global.{Global}
use Rattle.std.proofs.Common.{◌-◌, ◌⊎◌, inl, inr, ◌≡◌, ◌≢◌, ℕ, ◌+◌, ◌<◌, ◌≤◌, Bool, true, false, not, ◌&&◌, IsTrue, ◌↔◌, List, [], ◌∷◌, ◌++◌, length, take, drop, eqb, nat_cmp, int_cmp, int_eq, refl, sym, ap, ap₂, subst, ◌∙◌, arith, ℤ, pos, negsuc, get_or, append_assoc, append-nil, zero-add, count_by, cond, get_or-append-add, MatchBool, Some, None, length-append, take_at}
use Rattle.std.proofs.Math.Seq.{take-length}
use Rattle.std.proofs.lemmas.List.{drop_at}
use Rattle.std.proofs.lemmas.List.Sums.{count_by-le-length, sum_by-append}
use Rattle.std.specs.Cmp.Lexicographic.{slice_cmp, pointwise}
use Rattle.std.specs.List.{starts_with}
use Rattle.std.proofs.lemmas.Bool.{eqb-true, and_parts, and_from}
use Rattle.std.proofs.lemmas.Bool.Decides.{Decides-eqb, Decides-int_eq, same_from_decides, Decides-like}
use Rattle.std.proofs.lemmas.Slice.Eq.{starts_is, slice_eq-Decides}
use Rattle.mm_label.specs.Facts.Levels.{level-cons}
use Rattle.mm_label.specs.Bytes.{spell, bytes_of}
use Rattle.mm_label.specs.Facts.Order.{splits}
use Rattle.mm_label.specs.Label.{IsLabel, IsAncestorOrSelf, all_in_range, is_in_range, is_odd, last_odd, is_segment, is_empty, level, IsSegment, IsLastSegment, IsParent}
use Rattle.mm_label.specs.Components.{component_at, components, Found}
use Rattle.mm_label.specs.Inside.Reading.{IsSpelled, StartsLastSegment}
use Rattle.mm_label.proofs.Order.{IsInRange}
use Rattle.mm_label.proofs.ByteLaws.{in_range_is, same_order, front_from_bytes, spelled_once, bytes_of-append}
use Rattle.mm_label.proofs.Readback.{yes, components_again, read_again, read_takes, spells_some}

-- the bytes are those of the value
pub bytes_are : (x : List ℕ) (a : List ℤ) → IsSpelled x → components x ≡ a → x ≡ bytes_of a
bytes_are x a h e = sym h.spelled ∙ ap bytes_of e

pub label_is : (x : List ℕ) (a : List ℤ) → IsSpelled x → components x ≡ a → IsLabel a
label_is x a h e = subst IsLabel e h.label

pub spelled_is : (cs : List ℤ) → IsLabel cs → IsSpelled (bytes_of cs)
spelled_is cs h =
    let e = components_again cs h.in_range in
    record { spelled = ap bytes_of e; label = subst IsLabel (sym e) h }

pub prefix_is : (x y : List ℕ) (a b : List ℤ) (r : Bool) → IsSpelled x → IsSpelled y → components x ≡ a → components y ≡ b → r ≡ starts_with eqb y x → IsTrue r ↔ IsAncestorOrSelf a b
prefix_is x y a b r h k e f s =
    let t = starts_is Decides-eqb y x r s in
    let p = bytes_are x a h e in let q = bytes_are y b k f in (
      λ w. (splits a b).1 (front_from_bytes a b (drop (length x) y) (label_is x a h e).in_range (label_is y b k f).in_range (sym q ∙ t.0 w ∙ ap (λ zs. zs ++ drop (length x) y) p)),
      λ w. let r = (splits a b).0 w in t.1 (bytes_of r.0) (q ∙ ap bytes_of r.1 ∙ bytes_of-append a r.0 ∙ ap (λ zs. zs ++ bytes_of r.0) (sym p)),
    )

pub cmp_is : (x y : List ℕ) (a b : List ℤ) → IsSpelled x → IsSpelled y → components x ≡ a → components y ≡ b → slice_cmp nat_cmp x y ≡ slice_cmp int_cmp a b
cmp_is x y a b h k e f =
    ap₂ (λ u v. slice_cmp nat_cmp u v) (bytes_are x a h e) (bytes_are y b k f) ∙ same_order a b (label_is x a h e).in_range (label_is y b k f).in_range

pub eq_is : (x y : List ℕ) (a b : List ℤ) (r : Bool) → IsSpelled x → IsSpelled y → components x ≡ a → components y ≡ b → r ≡ pointwise eqb x y → r ≡ pointwise int_eq a b
eq_is x y a b r h k e f s =
    let p = bytes_are x a h e in let q = bytes_are y b k f in
    same_from_decides r (pointwise int_eq a b)
    (Decides-like r
    (λ w. spelled_once a b (label_is x a h e).in_range (label_is y b k f).in_range (sym p ∙ w ∙ q))
    (λ w. p ∙ ap bytes_of w ∙ sym q)
    (slice_eq-Decides Decides-eqb x y r s))
    (slice_eq-Decides Decides-int_eq a b (pointwise int_eq a b) refl)

-- ---- reading all of the bytes

-- the bytes up to the rest spell these components
pub record SpelledSoFar (bytes : List ℕ) (rest : List ℕ) (odd : Bool) : Type 0 where
  pub front : List ℤ
  pub parts : bytes ≡ bytes_of front ++ rest
  pub in_range : IsTrue (all_in_range front)
  pub odd_is : odd ≡ last_odd false front

pub last_odd-append : (b : Bool) (cs : List ℤ) (c : ℤ) → last_odd b (cs ++ c ∷ []) ≡ is_odd c
last_odd-append b [] c = refl
last_odd-append b (d ∷ cs) c = last_odd-append (is_odd d) cs c

is_in_range_is : (c : ℤ) → IsInRange c → is_in_range c ≡ true
is_in_range_is (pos n) h = yes n 4294975552 h
is_in_range_is (negsuc n) h = yes n 4294975552 h

pub all_in_range-append : (a b : List ℤ) → IsTrue (all_in_range a) → IsTrue (all_in_range b) → IsTrue (all_in_range (a ++ b))
all_in_range-append [] b h k = k
all_in_range-append (c ∷ a) b h k =
    let p = and_parts (is_in_range c) (all_in_range a) h in and_from (is_in_range c) (all_in_range (a ++ b)) p.0 (all_in_range-append a b p.1 k)

pub spells_none : (bytes : List ℕ) → SpelledSoFar bytes bytes false
spells_none bytes = record { front = []; parts = refl; in_range = refl; odd_is = refl }

pub spells_more : (bytes rest after : List ℕ) (b odd : Bool) (c : ℤ) → ((k : ℕ) → get_or rest k 0 < 256) → component_at rest ≡ Some (c, after) → odd ≡ is_odd c → SpelledSoFar bytes rest b → SpelledSoFar bytes after odd
spells_more bytes rest after b odd c t e o s =
    let r = read_takes rest (c, after) t e in
    record {
      front = s.front ++ c ∷ [];
      parts = s.parts ∙ ap (λ zs. bytes_of s.front ++ zs) r.parts ∙ sym (append_assoc (bytes_of s.front) (spell c) after)
          ∙ ap (λ zs. (bytes_of s.front ++ zs) ++ after) (sym (append-nil (spell c))) ∙ ap (λ zs. zs ++ after) (sym (bytes_of-append s.front (c ∷ [])));
      in_range = all_in_range-append s.front (c ∷ []) s.in_range (and_from (is_in_range c) true (is_in_range_is c r.in_range) refl);
      odd_is = o ∙ sym (last_odd-append false s.front c);
    }

pub shorter_rest : (rest after : List ℕ) (c : ℤ) → ((k : ℕ) → get_or rest k 0 < 256) → component_at rest ≡ Some (c, after) → length after < length rest
shorter_rest rest after c t e =
    let r = read_takes rest (c, after) t e in
    omega (arith, ap (λ (zs : List ℕ). length zs) r.parts, length-append (spell c) after, spells_some c r.in_range)

append_left : (xs ys zs : List ℕ) → xs ++ ys ≡ xs ++ zs → ys ≡ zs
append_left [] ys zs e = e
append_left (x ∷ xs) ys zs e = append_left xs ys zs (cc)

abbrev none_found : Found
none_found = None

-- no label is spelled where no component is
pub stops : (bytes rest : List ℕ) (b : Bool) → SpelledSoFar bytes rest b → rest ≢ [] → component_at rest ≡ None → (cs : List ℤ) → IsLabel cs → bytes_of cs ≢ bytes
stops bytes rest b s ne none cs h e =
    let f = front_from_bytes s.front cs rest s.in_range h.in_range (e ∙ s.parts) in
    by_tail f.0 (all_of s.front f.0 (subst (λ zs. IsTrue (all_in_range zs)) f.1 h.in_range))
    (append_left (bytes_of s.front) (bytes_of f.0) rest (sym (bytes_of-append s.front f.0) ∙ ap bytes_of (sym f.1) ∙ e ∙ s.parts))
  where
    all_of : (a b : List ℤ) → IsTrue (all_in_range (a ++ b)) → IsTrue (all_in_range b)
    all_of [] b h = h
    all_of (c ∷ a) b h = all_of a b (and_parts (is_in_range c) (all_in_range (a ++ b)) h).1

    by_tail : (tail : List ℤ) → IsTrue (all_in_range tail) → bytes_of tail ≡ rest → ⊥
    by_tail [] h e = ne (sym e)
    by_tail (c ∷ tail) h e =
        let k : none_found ≡ Some (c, bytes_of tail) = sym none ∙ ap component_at (sym e) ∙ read_again c (bytes_of tail) (in_range_is c (and_parts (is_in_range c) (all_in_range tail) h).0) in cc

-- the whole bytes
pub spells_all : (bytes rest : List ℕ) (odd : Bool) → SpelledSoFar bytes rest odd → rest ≡ [] → odd ≡ true → length bytes ≤ 512 → IsSpelled bytes
spells_all bytes rest odd s e o le =
    let p : bytes ≡ bytes_of s.front = s.parts ∙ ap (λ zs. bytes_of s.front ++ zs) e ∙ append-nil (bytes_of s.front) in
    subst IsSpelled (sym p) (spelled_is s.front (record { in_range = s.in_range; ends_odd = sym s.odd_is ∙ o; short = subst (λ (zs : List ℕ). length zs ≤ 512) p le }))

pub even_end : (bytes rest : List ℕ) (odd : Bool) → SpelledSoFar bytes rest odd → rest ≡ [] → odd ≡ false → (cs : List ℤ) → IsLabel cs → bytes_of cs ≢ bytes
even_end bytes rest odd s e o cs h f =
    let p : bytes ≡ bytes_of s.front = s.parts ∙ ap (λ zs. bytes_of s.front ++ zs) e ∙ append-nil (bytes_of s.front) in
    let same = spelled_once cs s.front h.in_range s.in_range (f ∙ p) in
    let k : false ≡ true = sym o ∙ s.odd_is ∙ ap (λ zs. last_odd false zs) (sym same) ∙ h.ends_odd in cc

pub too_long : (bytes : List ℕ) → 512 < length bytes → (cs : List ℤ) → IsLabel cs → bytes_of cs ≢ bytes
too_long bytes lt cs h e = absurd (omega (arith, h.short, ap (λ (zs : List ℕ). length zs) e))

pub rest_bytes : (bytes rest : List ℕ) (odd : Bool) → SpelledSoFar bytes rest odd → ((k : ℕ) → get_or bytes k 0 < 256) → (k : ℕ) → get_or rest k 0 < 256
rest_bytes bytes rest odd s t k =
    subst (λ m. m < 256) (ap (λ (zs : List ℕ). get_or zs (length (bytes_of s.front) + k) 0) s.parts ∙ get_or-append-add (bytes_of s.front) rest k 0) (t (length (bytes_of s.front) + k))

pub ends : (bytes rest : List ℕ) (odd : Bool) → SpelledSoFar bytes rest odd → rest ≡ [] → length bytes ≤ 512 → MatchBool odd (IsSpelled bytes) ((cs : List ℤ) → IsLabel cs → bytes_of cs ≢ bytes)
ends bytes rest true s e le = spells_all bytes rest true s e refl le
ends bytes rest false s e le = even_end bytes rest false s e refl

-- ---- counting segments

-- the bytes up to the rest hold so many odd components
pub record Counted (bytes rest : List ℕ) (n : ℕ) : Type 0 where
  pub odd : Bool
  pub spells : SpelledSoFar bytes rest odd
  pub count : n ≡ count_by is_odd spells.front

pub none_left : (xs : List ℕ) → true ≡ eqb (length xs) 0 → xs ≡ []
none_left [] e = refl
none_left (x ∷ xs) e = absurd (let n : length (x ∷ xs) ≡ 0 = eqb-true (length (x ∷ xs)) 0 (sym e) in omega arith)

pub some_left : (xs : List ℕ) → false ≡ eqb (length xs) 0 → xs ≢ []
some_left [] e f = cc
some_left (x ∷ xs) e f = cc

count_last : (p : ℤ → Bool) (cs : List ℤ) (c : ℤ) → count_by p (cs ++ c ∷ []) ≡ count_by p cs + cond (p c) 1 0
count_last p cs c = sum_by-append (λ x. cond (p x) 1 0) cs (c ∷ []) ∙ ap (λ k. count_by p cs + k) (zero-add (cond (p c) 1 0))

pub counted_none : (bytes : List ℕ) → Counted bytes bytes 0
unfolding spells_none
counted_none bytes = record { odd = false; spells = spells_none bytes; count = refl }

pub counted_more : (bytes rest after : List ℕ) (n m : ℕ) (odd : Bool) (c : ℤ) → ((k : ℕ) → get_or bytes k 0 < 256) → component_at rest ≡ Some (c, after) → odd ≡ is_odd c
    → m ≡ n + cond odd 1 0 → Counted bytes rest n → Counted bytes after m
unfolding spells_more
counted_more bytes rest after n m odd c t e o more s = record {
  odd = odd;
  spells = spells_more bytes rest after s.odd odd c (rest_bytes bytes rest s.odd s.spells t) e o s.spells;
  count = more ∙ ap₂ (λ a b. a + cond b 1 0) s.count o ∙ sym (count_last is_odd s.spells.front c);
}

pub counted_bound : (bytes rest : List ℕ) (n : ℕ) → IsSpelled bytes → Counted bytes rest n → n ≤ 512
counted_bound bytes rest n h s =
    omega (arith, s.count, count_by-le-length is_odd s.spells.front, long_front s.spells.front s.spells.in_range, length-append (bytes_of s.spells.front) rest, ap (λ (zs : List ℕ). length zs) s.spells.parts, ap (λ (zs : List ℕ). length zs) h.spelled, h.label.short)
  where
    long_front : (cs : List ℤ) → IsTrue (all_in_range cs) → length cs ≤ length (bytes_of cs)
    long_front [] h = omega arith
    long_front (c ∷ cs) h =
        let p = and_parts (is_in_range c) (all_in_range cs) h in
        omega (arith, long_front cs p.1, spells_some c (in_range_is c p.0), length-append (spell c) (bytes_of cs))

is_nil_or_not : (xs : List ℕ) → (xs ≡ []) ⊎ (xs ≢ [])
is_nil_or_not [] = inl refl
is_nil_or_not (x ∷ xs) = inr (λ e. cc)

pub counted_all : (bytes rest : List ℕ) (n : ℕ) → IsSpelled bytes → Counted bytes rest n → component_at rest ≡ None → n ≡ count_by is_odd (components bytes)
counted_all bytes rest n h s none = by_rest (is_nil_or_not rest)
  where
    by_rest : ((rest ≡ []) ⊎ (rest ≢ [])) → n ≡ count_by is_odd (components bytes)
    by_rest (inl e) =
        let p : bytes ≡ bytes_of s.spells.front = s.spells.parts ∙ ap (λ zs. bytes_of s.spells.front ++ zs) e ∙ append-nil (bytes_of s.spells.front) in
        s.count ∙ ap (λ zs. count_by is_odd zs) (spelled_once s.spells.front (components bytes) s.spells.in_range h.label.in_range (sym p ∙ sym h.spelled))
    by_rest (inr ne) = absurd (stops bytes rest s.odd s.spells ne none (components bytes) h.label h.spelled)

-- ---- a segment more

segment_ends : (b : Bool) (seg : List ℤ) → is_segment seg ≡ true → last_odd b seg ≡ true
segment_ends b [] h = absurd cc
segment_ends b (c ∷ cs) h = by_test (is_odd c) cs h (segment_ends (is_odd c) cs) refl
  where
    by_test : (t : Bool) (cs : List ℤ) → cond t (is_empty cs) (is_segment cs) ≡ true → (is_segment cs ≡ true → last_odd (is_odd c) cs ≡ true) → is_odd c ≡ t → last_odd (is_odd c) cs ≡ true
    by_test true [] h rest e = e
    by_test true (d ∷ ds) h rest e = absurd cc
    by_test false cs h rest e = rest h

ends_behind : (b : Bool) (front seg : List ℤ) → is_segment seg ≡ true → last_odd b (front ++ seg) ≡ true
ends_behind b [] seg h = segment_ends b seg h
ends_behind b (c ∷ cs) seg h = ends_behind (is_odd c) cs seg h

pub record IsMade (bytes : List ℕ) (x : List ℤ) : Type 0 where
  pub spelled : IsSpelled bytes
  pub same : components bytes ≡ x
  pub label : IsLabel x

-- bytes that are those of a label stand for it
pub made_is : (x : List ℤ) (bytes : List ℕ) → IsLabel x → bytes ≡ bytes_of x → IsMade bytes x
made_is x bytes h e = record { spelled = subst IsSpelled (sym e) (spelled_is x h); same = ap components e ∙ components_again x h.in_range; label = h }

pub child_is : (front seg : List ℤ) (start bytes : List ℕ) → start ≡ bytes_of front → bytes ≡ start ++ bytes_of seg → IsTrue (all_in_range front) → IsTrue (all_in_range seg) → IsTrue (is_segment seg) → length bytes ≤ 512 → IsMade bytes (front ++ seg)
child_is front seg start bytes e f h k s le =
    let p : bytes ≡ bytes_of (front ++ seg) = f ∙ ap (λ zs. zs ++ bytes_of seg) e ∙ sym (bytes_of-append front seg) in
    let l : IsLabel (front ++ seg) = record { in_range = all_in_range-append front seg h k; ends_odd = ends_behind false front seg s; short = subst (λ (zs : List ℕ). length zs ≤ 512) p le } in
    record { spelled = subst IsSpelled (sym p) (spelled_is (front ++ seg) l); same = ap components p ∙ components_again (front ++ seg) l.in_range; label = l }

-- ---- where the last segment begins

abbrev pub all_even : List ℤ → Bool
all_even [] = true
all_even (c ∷ cs) = not (is_odd c) && all_even cs

abbrev is_open : Bool → List ℤ → Bool
is_open odd seg = cond odd (is_segment seg) (all_even seg)

pub record Cutting (bytes rest : List ℕ) (cut : ℕ) (odd : Bool) : Type 0 where
  pub front : List ℤ
  pub seg : List ℤ
  pub parts : bytes ≡ bytes_of (front ++ seg) ++ rest
  pub in_range : IsTrue (all_in_range (front ++ seg))
  pub size : cut ≡ length (bytes_of front)
  pub before : (front ≡ []) ⊎ (last_odd false front ≡ true)
  pub open_is : is_open odd seg ≡ true
  pub some : seg ≡ [] → front ≡ []

pub cutting_none : (bytes : List ℕ) → Cutting bytes bytes 0 false
cutting_none bytes = record { front = []; seg = []; parts = refl; in_range = refl; size = refl; before = inl refl; open_is = refl; some = λ e. refl }

even_push : (seg : List ℤ) (c : ℤ) (t : Bool) → is_odd c ≡ t → all_even seg ≡ true → is_open t (seg ++ c ∷ []) ≡ true
even_push [] c true e h = rw e refl
even_push [] c false e h = rw e refl
even_push (d ∷ seg) c t e h =
    let p = and_parts (not (is_odd d)) (all_even seg) h in more t (is_odd d) p.0 (even_push seg c t e p.1)
  where
    more : (t o : Bool) → not o ≡ true → is_open t (seg ++ c ∷ []) ≡ true → cond t (cond o (is_empty (seg ++ c ∷ [])) (is_segment (seg ++ c ∷ []))) (not o && all_even (seg ++ c ∷ [])) ≡ true
    more t true n k = absurd cc
    more true false n k = k
    more false false n k = k

pub step_parts : (bytes rest after : List ℕ) (cs : List ℤ) (c : ℤ) → ((k : ℕ) → get_or bytes k 0 < 256) → component_at rest ≡ Some (c, after) → bytes ≡ bytes_of cs ++ rest → IsTrue (all_in_range cs)
    → (bytes ≡ bytes_of (cs ++ c ∷ []) ++ after) × IsTrue (all_in_range (cs ++ c ∷ []))
unfolding spells_more
step_parts bytes rest after cs c t e p h =
    let a : SpelledSoFar bytes rest (last_odd false cs) = record { front = cs; parts = p; in_range = h; odd_is = refl } in
    let b = spells_more bytes rest after (last_odd false cs) (is_odd c) c (rest_bytes bytes rest (last_odd false cs) a t) e refl a in
    (b.parts, b.in_range)

pushed_some : (seg : List ℤ) (c : ℤ) → seg ++ c ∷ [] ≡ [] → ⊥
pushed_some [] c e = cc
pushed_some (d ∷ seg) c e = cc

pub cutting_even : (bytes rest after : List ℕ) (cut : ℕ) (odd : Bool) (c : ℤ) → ((k : ℕ) → get_or bytes k 0 < 256) → component_at rest ≡ Some (c, after) → odd ≡ is_odd c → Cutting bytes rest cut false → Cutting bytes after cut odd
cutting_even bytes rest after cut odd c t e o s =
    let p = step_parts bytes rest after (s.front ++ s.seg) c t e s.parts s.in_range in
    let assoc = append_assoc s.front s.seg (c ∷ []) in
    record {
      front = s.front;
      seg = s.seg ++ c ∷ [];
      parts = subst (λ zs. bytes ≡ bytes_of zs ++ after) assoc p.0;
      in_range = subst (λ zs. IsTrue (all_in_range zs)) assoc p.1;
      size = s.size;
      before = s.before;
      open_is = even_push s.seg c odd (sym o) s.open_is;
      some = λ e. absurd (pushed_some s.seg c e);
    }

alone : (c : ℤ) (t : Bool) → is_odd c ≡ t → is_open t (c ∷ []) ≡ true
alone c true e = rw e refl
alone c false e = rw e refl

pub cutting_odd : (bytes rest after : List ℕ) (cut now : ℕ) (odd : Bool) (c : ℤ) → ((k : ℕ) → get_or bytes k 0 < 256) → component_at rest ≡ Some (c, after) → odd ≡ is_odd c → now + length rest ≡ length bytes → Cutting bytes rest cut true → Cutting bytes after now odd
cutting_odd bytes rest after cut now odd c t e o n s =
    let p = step_parts bytes rest after (s.front ++ s.seg) c t e s.parts s.in_range in
    record {
      front = s.front ++ s.seg;
      seg = c ∷ [];
      parts = p.0;
      in_range = p.1;
      size = omega (arith, n, ap (λ (zs : List ℕ). length zs) s.parts, length-append (bytes_of (s.front ++ s.seg)) rest);
      before = inr (ends_behind false s.front s.seg s.open_is);
      open_is = alone c odd (sym o);
      some = λ e. absurd (pushed_some [] c e);
    }

even_last : (b : Bool) (d : ℤ) (ds : List ℤ) → all_even (d ∷ ds) ≡ true → last_odd b (d ∷ ds) ≡ false
even_last b d [] h = not_is (is_odd d) (and_parts (not (is_odd d)) true h).0
  where
    not_is : (o : Bool) → not o ≡ true → o ≡ false
    not_is true e = absurd cc
    not_is false e = refl
even_last b d (c ∷ ds) h = even_last (is_odd d) c ds (and_parts (not (is_odd d)) (all_even (c ∷ ds)) h).1

even_behind : (b : Bool) (front : List ℤ) (d : ℤ) (ds : List ℤ) → all_even (d ∷ ds) ≡ true → last_odd b (front ++ d ∷ ds) ≡ false
even_behind b [] d ds h = even_last b d ds h
even_behind b (c ∷ front) d ds h = even_behind (is_odd c) front d ds h

not_even : (front seg : List ℤ) → (seg ≡ [] → front ≡ []) → all_even seg ≡ true → last_odd false (front ++ seg) ≡ true → ⊥
not_even front [] some h k = let e : false ≡ true = ap (λ zs. last_odd false (zs ++ [])) (sym (some refl)) ∙ k in cc
not_even front (d ∷ ds) some h k = let e : false ≡ true = sym (even_behind false front d ds h) ∙ k in cc

pub cutting_all : (bytes rest : List ℕ) (cut : ℕ) (odd : Bool) → IsSpelled bytes → Cutting bytes rest cut odd → component_at rest ≡ None → StartsLastSegment bytes cut
cutting_all bytes rest cut odd h s none = by_rest (is_nil_or_not rest)
  where
    a : SpelledSoFar bytes rest (last_odd false (s.front ++ s.seg))
    a = record { front = s.front ++ s.seg; parts = s.parts; in_range = s.in_range; odd_is = refl }

    by_odd : (t : Bool) → is_open t s.seg ≡ true → components bytes ≡ s.front ++ s.seg → IsTrue (is_segment s.seg)
    by_odd true o e = o
    by_odd false o e = absurd (not_even s.front s.seg s.some o (ap (λ zs. last_odd false zs) (sym e) ∙ h.label.ends_odd))

    by_rest : ((rest ≡ []) ⊎ (rest ≢ [])) → StartsLastSegment bytes cut
    by_rest (inl e) =
        let p : bytes ≡ bytes_of (s.front ++ s.seg) = s.parts ∙ ap (λ zs. bytes_of (s.front ++ s.seg) ++ zs) e ∙ append-nil (bytes_of (s.front ++ s.seg)) in
        let same : components bytes ≡ s.front ++ s.seg = spelled_once (components bytes) (s.front ++ s.seg) h.label.in_range s.in_range (h.spelled ∙ p) in
        record { front = s.front; seg = s.seg; last = record { parts = same; one = by_odd odd s.open_is same; before = s.before }; size = s.size }
    by_rest (inr ne) = absurd (stops bytes rest (last_odd false (s.front ++ s.seg)) a ne none (components bytes) h.label h.spelled)

pub rest_fits : (bytes rest : List ℕ) (cut : ℕ) (odd : Bool) → Cutting bytes rest cut odd → length rest ≤ length bytes
rest_fits bytes rest cut odd s = omega (arith, ap (λ (zs : List ℕ). length zs) s.parts, length-append (bytes_of (s.front ++ s.seg)) rest)

pub record CutFacts (bytes : List ℕ) (n : ℕ) (front : List ℤ) : Type 0 where
  pub fits : n ≤ length bytes
  pub taken : take n bytes ≡ bytes_of front

pub cut_facts : (bytes : List ℕ) (n : ℕ) → IsSpelled bytes → (k : StartsLastSegment bytes n) → CutFacts bytes n k.front
cut_facts bytes n h k =
    let e : bytes ≡ bytes_of k.front ++ bytes_of k.seg = sym h.spelled ∙ ap bytes_of k.last.parts ∙ bytes_of-append k.front k.seg in
    record {
      fits = omega (arith, k.size, ap (λ (zs : List ℕ). length zs) e, length-append (bytes_of k.front) (bytes_of k.seg));
      taken = ap (λ zs. take n zs) e ∙ take_at (bytes_of k.front) (bytes_of k.seg) n (sym k.size);
    }

pub front_all : (a b : List ℤ) → IsTrue (all_in_range (a ++ b)) → IsTrue (all_in_range a)
front_all [] b h = refl
front_all (c ∷ a) b h = let p = and_parts (is_in_range c) (all_in_range (a ++ b)) h in and_from (is_in_range c) (all_in_range a) p.0 (front_all a b p.1)

pub parent_label : (bytes : List ℕ) (n : ℕ) → IsSpelled bytes → (k : StartsLastSegment bytes n) → n ≢ 0 → IsLabel k.front
parent_label bytes n h k ne = by_before k.last.before
  where
    by_before : ((k.front ≡ []) ⊎ (last_odd false k.front ≡ true)) → IsLabel k.front
    by_before (inl e) = absurd (ne (k.size ∙ ap (λ zs. length (bytes_of zs)) e))
    by_before (inr o) = record {
      in_range = front_all k.front k.seg (subst (λ zs. IsTrue (all_in_range zs)) k.last.parts h.label.in_range);
      ends_odd = o;
      short = omega (arith, k.size, (cut_facts bytes n h k).fits, h.label.short, ap (λ (zs : List ℕ). length zs) h.spelled);
    }

pub parent_made : (bytes cut : List ℕ) (n : ℕ) → IsSpelled bytes → (k : StartsLastSegment bytes n) → n ≢ 0 → cut ≡ take n bytes → IsMade cut k.front
parent_made bytes cut n h k ne e =
    let l = parent_label bytes n h k ne in
    let p : cut ≡ bytes_of k.front = e ∙ (cut_facts bytes n h k).taken in
    record { spelled = subst IsSpelled (sym p) (spelled_is k.front l); same = ap components p ∙ components_again k.front l.in_range; label = l }

-- one segment is one level
pub one_level : (seg : List ℤ) → is_segment seg ≡ true → level seg ≡ 1
one_level [] h = absurd cc
one_level (c ∷ cs) h = level-cons c cs ∙ by_test (is_odd c) cs h (one_level cs)
  where
    by_test : (t : Bool) (cs : List ℤ) → cond t (is_empty cs) (is_segment cs) ≡ true → (is_segment cs ≡ true → level cs ≡ 1) → cond t 1 0 + level cs ≡ 1
    by_test true [] h rest = refl
    by_test true (d ∷ ds) h rest = absurd cc
    by_test false cs h rest = zero-add (level cs) ∙ rest h

pub no_parent : (bytes : List ℕ) (n : ℕ) (a : List ℤ) → IsSpelled bytes → StartsLastSegment bytes n → n ≡ 0 → components bytes ≡ a → level a ≡ 1
no_parent bytes n a h k z v = by_front k.front k.last k.size (front_all k.front k.seg (subst (λ zs. IsTrue (all_in_range zs)) k.last.parts h.label.in_range))
  where
    by_front : (front : List ℤ) → IsLastSegment (components bytes) front k.seg → n ≡ length (bytes_of front) → IsTrue (all_in_range front) → level a ≡ 1
    by_front [] l s r = ap level (sym v ∙ l.parts) ∙ one_level k.seg l.one
    by_front (c ∷ cs) l s r = absurd (let p = spells_some c (in_range_is c (and_parts (is_in_range c) (all_in_range cs) r).0) in omega (arith, s, z, p, length-append (spell c) (bytes_of cs)))

pub parent_gives : (bytes cut : List ℕ) (n : ℕ) (a : List ℤ) → IsSpelled bytes → (k : StartsLastSegment bytes n) → n ≢ 0 → cut ≡ take n bytes → components bytes ≡ a → IsParent (components cut) a
parent_gives bytes cut n a h k ne e v =
    let m = parent_made bytes cut n h k ne e in
    record {
      label = subst IsLabel (sym m.same) m.label;
      segment = k.seg;
      one = k.last.one;
      parts = sym v ∙ k.last.parts ∙ ap (λ zs. zs ++ k.seg) (sym m.same);
    }

-- ---- reading the last segment

back_all : (a b : List ℤ) → IsTrue (all_in_range (a ++ b)) → IsTrue (all_in_range b)
back_all [] b h = h
back_all (c ∷ a) b h = back_all a b (and_parts (is_in_range c) (all_in_range (a ++ b)) h).1

pub record ReadsSegment (a x : List ℤ) : Type 0 where
  pub front : List ℤ
  pub last : IsLastSegment a front x
  pub segment : IsSegment x

segment_bytes : (bytes : List ℕ) (n : ℕ) → IsSpelled bytes → (k : StartsLastSegment bytes n) → take (length bytes - n) (drop n bytes) ≡ bytes_of k.seg
segment_bytes bytes n h k =
    let e : bytes ≡ bytes_of k.front ++ bytes_of k.seg = sym h.spelled ∙ ap bytes_of k.last.parts ∙ bytes_of-append k.front k.seg in
    let d : drop n bytes ≡ bytes_of k.seg = ap (λ zs. drop n zs) e ∙ drop_at (bytes_of k.front) (bytes_of k.seg) n (sym k.size) in
    let m : length bytes - n ≡ length (bytes_of k.seg) = omega (arith, k.size, ap (λ (zs : List ℕ). length zs) e, length-append (bytes_of k.front) (bytes_of k.seg)) in
    ap₂ (λ i zs. take i zs) m d ∙ take-length (bytes_of k.seg)

pub segment_reads : (bytes : List ℕ) (n : ℕ) (a : List ℤ) → IsSpelled bytes → components bytes ≡ a → StartsLastSegment bytes n → ReadsSegment a (components (take (length bytes - n) (drop n bytes)))
segment_reads bytes n a h v k =
    let r = back_all k.front k.seg (subst (λ zs. IsTrue (all_in_range zs)) k.last.parts h.label.in_range) in
    let same : components (take (length bytes - n) (drop n bytes)) ≡ k.seg = ap components (segment_bytes bytes n h k) ∙ components_again k.seg r in
    subst (λ zs. ReadsSegment a zs) (sym same) (record {
      front = k.front;
      last = subst (λ zs. IsLastSegment zs k.front k.seg) v k.last;
      segment = record { in_range = r; one = k.last.one };
    })

pub given_last : {E : Type 0} (r : Result (Vec ℤ Global) E) (x a : List ℤ) → IfOk r (λ v. v.items ≡ x) → ReadsSegment a x → IfOk r (λ v. (front : List ℤ) × IsLastSegment a front v.items)
given_last (Ok v) x a h k = subst (λ zs. (front : List ℤ) × IsLastSegment a front zs) (sym h) (k.front, k.last)
given_last (Err e) x a h k = tt

pub given_segment : {E : Type 0} (r : Result (Vec ℤ Global) E) (x a : List ℤ) → IfOk r (λ v. v.items ≡ x) → ReadsSegment a x → IfOk r (λ v. IsSegment v.items)
given_segment (Ok v) x a h k = subst IsSegment (sym h) k.segment
given_segment (Err e) x a h k = tt
