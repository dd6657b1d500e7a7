-- A text, and the characters that its bytes stand for.
use Rattle.std.proofs.Common.{◌≡◌, ◌≢◌, refl, sym, ap, subst, ◌∙◌, ℕ, zero, suc, ◌+◌, ◌-◌, ◌<◌, ◌≤◌, Bool, true, false, cond, not, eqb, eqb-true, List, [], ◌∷◌, ◌++◌, length, take, drop, Option, Some, None, append_assoc, arith}
use Rattle.std.specs.Prelude.{encode_utf8, Result, Ok, Err, IfOk, OnOk, is_ok}
use Rattle.std.specs.Char.{IsScalar}
use Rattle.std.specs.Str.{chars, IsUtf8, IsCharBoundary, bytes_eq, encode_utf8_all, NonePass, NoCharPasses}
use Rattle.std.specs.Str.Pattern.{FindsChar, FindsText, FindsTextPrefix, HasMatch, LacksTextAt, StripsPrefix, SplitsAroundMatch}
use Rattle.std.specs.Bool.{MatchBool}
use Rattle.std.specs.Option.{MatchOption}
use Rattle.std.specs.Borrow.{Bor}
use Rattle.std.proofs.lemmas.Bool.Decides.{nat_tests}
use Rattle.std.proofs.lemmas.List.{append-nil, take-append-drop, drop_at, take_at, length-append}
use Rattle.std.proofs.Math.Seq.{drop-append-add}
use Rattle.std.proofs.lemmas.Slice.Eq.{bytes_eq-Decides}
use Rattle.std.proofs.lemmas.Str.{chars-nil, chars-append, chars-IsAscii, chars_past_char, chars_from_encodes, encodes-chars, encodes-append, IsUtf8-encode, IsUtf8-from_ascii, IsUtf8-append, IsUtf8-take, IsUtf8-drop, IsCharBoundary-at_seam, length-encode, len_utf8_bounds, length-le-encodes}
use Rattle.std.proofs.lemmas.Bool.{and_from}
use Rattle.mm_xml.specs.Letters.{starts, is_free, is_ascii}
use Rattle.mm_xml.specs.Facts.Characters.{each_below, spelled_ascii, spelled_front}
use Rattle.mm_xml.specs.Inside.Lexing.{up_to}
use Rattle.mm_xml.specs.Grammar.{normal}
use Rattle.mm_xml.specs.Inside.Lexemes.{Rests, Splits}
use Rattle.mm_xml.specs.Inside.Prefix.{stripped}
use Rattle.mm_xml.proofs.Spans.{taken, some_is, starts_takes, up_to_takes, up_to_again}

-- ---- no characters

pub counts_none : (bs : List ℕ) → IsUtf8 bs → eqb (length bs) 0 ≡ eqb (length (chars bs)) 0
counts_none [] utf8 = ap (λ (cs : List ℕ). eqb (length cs) 0) (sym chars-nil)
counts_none (b ∷ bs) utf8 = filled (chars (b ∷ bs)) (encodes-chars (b ∷ bs) utf8)
  where
    filled : (cs : List ℕ) → encode_utf8_all cs ≡ b ∷ bs → eqb (length (b ∷ bs)) 0 ≡ eqb (length cs) 0
    filled [] e = absurd cc
    filled (c ∷ cs) e = grind (arith, nat_tests)

pub few : (bs : List ℕ) → IsUtf8 bs → length (chars bs) ≤ length bs
few bs utf8 = omega (arith, length-le-encodes (chars bs), ap length (encodes-chars bs utf8))

-- ---- ASCII

pub ascii_front : (p rest : List ℕ) → is_ascii p ≡ true → chars (p ++ rest) ≡ p ++ chars rest
ascii_front p rest h = chars-append p rest (IsUtf8-from_ascii p (each_below p h)) ∙ ap (λ (r : List ℕ). r ++ chars rest) (chars-IsAscii p (each_below p h))

-- ---- a text of ASCII

both_ways : (x y xs ys : List ℕ) → (x ≡ xs → y ≡ ys) → (y ≡ ys → x ≡ xs) → bytes_eq x xs ≡ bytes_eq y ys
both_ways x y xs ys there back = decided (bytes_eq x xs) (bytes_eq y ys) (bytes_eq-Decides x xs) (bytes_eq-Decides y ys)
  where
    decided : (b d : Bool) → ((b ≡ true → x ≡ xs) × (x ≡ xs → b ≡ true)) → ((d ≡ true → y ≡ ys) × (y ≡ ys → d ≡ true)) → b ≡ d
    decided true d h k = sym (k.1 (there (h.0 refl)))
    decided false true h k = h.1 (back (k.0 refl))
    decided false false h k = refl

pub same_text : (bs p : List ℕ) → IsUtf8 bs → is_ascii p ≡ true → bytes_eq bs p ≡ bytes_eq (chars bs) p
same_text bs p utf8 h = both_ways bs (chars bs) p p
    (λ e. ap chars e ∙ chars-IsAscii p (each_below p h))
    (λ e. sym (encodes-chars bs utf8) ∙ ap encode_utf8_all e ∙ spelled_ascii p h)

-- ---- a pattern at the front

strip_front : (p cs : List ℕ) → stripped p (p ++ cs) ≡ Some cs
strip_front [] cs = refl
strip_front (b ∷ p) cs = rw (itself b) (strip_front p cs)
  where
    itself : (n : ℕ) → eqb n n ≡ true
    itself n = grind arith

strip_takes : (p cs r : List ℕ) → stripped p cs ≡ Some r → cs ≡ p ++ r
strip_takes [] cs r e = some_is cs r e
strip_takes (b ∷ p) [] r e = absurd cc
strip_takes (b ∷ p) (c ∷ cs) r e =
    let t = taken (eqb b c) (stripped p cs) r e in
    rw (eqb-true b c t.0) (ap (λ (y : List ℕ). c ∷ y) (strip_takes p cs r t.1))

pub strips_some : (p bs rest : List ℕ) → is_ascii p ≡ true → bs ≡ p ++ rest → stripped p (chars bs) ≡ Some (chars rest)
strips_some p bs rest h e = ap (λ (cs : List ℕ). stripped p cs) (ap chars e ∙ ascii_front p rest h) ∙ strip_front p (chars rest)

pub strips_none : (p bs : List ℕ) → is_ascii p ≡ true → IsUtf8 bs → ((rest : List ℕ) → bs ≢ p ++ rest) → stripped p (chars bs) ≡ None
strips_none p bs h utf8 other = elim (stripped p (chars bs)) as (λ o. stripped p (chars bs) ≡ o → o ≡ None) [
  | None ↦ λ e. refl
  | Some r ↦ λ e. absurd (other (encode_utf8_all r) (sym (encodes-chars bs utf8) ∙ ap encode_utf8_all (strip_takes p (chars bs) r e) ∙ spelled_front p r h))
] refl

-- ---- up to a pattern

regroup : (a p back : List ℕ) → a ++ (p ++ back) ≡ (a ++ p) ++ back
regroup a p back = sym (append_assoc a p back)

long : (c : ℕ) → 0 < length (encode_utf8 c)
long c = omega (arith, length-encode c, (len_utf8_bounds c).0)

not_true : (b : Bool) → (b ≡ true → ⊥) → not b ≡ true
not_true true h = absurd (h refl)
not_true false h = refl

-- where the pattern stands at no byte before its place, it stands at no character before it
free : (p front back : List ℕ) → is_ascii p ≡ true → ((i : ℕ) → i < length (encode_utf8_all front) → LacksTextAt p (encode_utf8_all front ++ (p ++ back)) i) → is_free p front ≡ true
free p [] back h lacks = refl
free p (c ∷ front) back h lacks = and_from _ _ (not_true _ here) (free p front back h later)
  where
    here : starts p (c ∷ (front ++ p)) ≡ true → ⊥
    here s =
        let d = drop (length p) (c ∷ (front ++ p)) in
        let bytes : encode_utf8_all (c ∷ front) ++ p ≡ p ++ encode_utf8_all d =
        ap (λ (r : List ℕ). encode_utf8_all (c ∷ front) ++ r) (sym (spelled_ascii p h)) ∙ sym (encodes-append (c ∷ front) p) ∙ ap encode_utf8_all (starts_takes p (c ∷ (front ++ p)) s) ∙ spelled_front p d h in
        lacks 0 (omega (arith, long c, length-append (encode_utf8 c) (encode_utf8_all front))) (encode_utf8_all d ++ back)
        (regroup (encode_utf8_all (c ∷ front)) p back ∙ ap (λ (r : List ℕ). r ++ back) bytes ∙ append_assoc p (encode_utf8_all d) back)

    later : (i : ℕ) → i < length (encode_utf8_all front) → LacksTextAt p (encode_utf8_all front ++ (p ++ back)) i
    later i lt rest e =
        lacks (length (encode_utf8 c) + i) (omega (arith, lt, length-append (encode_utf8 c) (encode_utf8_all front))) rest
        (ap (λ (r : List ℕ). drop (length (encode_utf8 c) + i) r) (append_assoc (encode_utf8 c) (encode_utf8_all front) (p ++ back)) ∙ drop-append-add (encode_utf8 c) (encode_utf8_all front ++ (p ++ back)) i ∙ e)

split_found : (p front back : List ℕ) → 0 < length p → is_free p front ≡ true → up_to p (front ++ (p ++ back)) ≡ Some (front, back)
split_found [] front back some_pattern h = absurd (omega (arith, some_pattern))
split_found (b ∷ p) front back some_pattern h = up_to_again (b ∷ p) front back b p refl h

pub splits_some : (p bs front back : List ℕ) → is_ascii p ≡ true → 0 < length p → IsUtf8 front → IsUtf8 back → bs ≡ front ++ (p ++ back) → ((i : ℕ) → i < length front → LacksTextAt p bs i) → up_to p (chars bs) ≡ Some (chars front, chars back)
splits_some p bs front back h some_pattern utf8 utf8_back e lacks =
    let same : encode_utf8_all (chars front) ≡ front = encodes-chars front utf8 in
    let whole : bs ≡ encode_utf8_all (chars front) ++ (p ++ back) = e ∙ ap (λ (r : List ℕ). r ++ (p ++ back)) (sym same) in
    ap (λ (cs : List ℕ). up_to p cs) (ap chars e ∙ chars-append front (p ++ back) utf8 ∙ ap (λ (r : List ℕ). chars front ++ r) (ascii_front p back h))
    ∙ split_found p (chars front) (chars back) some_pattern (free p (chars front) back h (λ i lt. subst (λ (w : List ℕ). LacksTextAt p w i) whole (lacks i (omega (arith, lt, ap length same)))))

pub splits_none : (p bs : List ℕ) → is_ascii p ≡ true → IsUtf8 bs → ((i : ℕ) → i ≤ length bs → LacksTextAt p bs i) → up_to p (chars bs) ≡ None
splits_none p bs h utf8 lacks = elim (up_to p (chars bs)) as (λ o. up_to p (chars bs) ≡ o → o ≡ None) [
  | None ↦ λ e. refl
  | Some x ↦ λ e.
      let bytes : bs ≡ encode_utf8_all x.0 ++ (p ++ encode_utf8_all x.1) = sym (encodes-chars bs utf8) ∙ ap encode_utf8_all (up_to_takes p (chars bs) x e).parts ∙ encodes-append x.0 (p ++ x.1) ∙ ap (λ (r : List ℕ). encode_utf8_all x.0 ++ r) (spelled_front p x.1 h) in
      absurd (lacks (length (encode_utf8_all x.0)) (omega (arith, ap length bytes, length-append (encode_utf8_all x.0) (p ++ encode_utf8_all x.1))) (encode_utf8_all x.1)
      (ap (λ (r : List ℕ). drop (length (encode_utf8_all x.0)) r) bytes ∙ drop_at (encode_utf8_all x.0) (p ++ encode_utf8_all x.1) (length (encode_utf8_all x.0)) refl))
] refl

-- as the code finds it
pub strips : (p bs : List ℕ) (r : Option (Bor (List ℕ))) → is_ascii p ≡ true → IsUtf8 bs → MatchOption r (FindsTextPrefix p bs None) (λ x. StripsPrefix (FindsTextPrefix p) bs x.now) → Rests r (stripped p (chars bs))
strips p bs None h utf8 found = strips_none p bs h utf8 found
strips p bs (Some x) h utf8 found = strips_some p bs x.now h (found.1.1 ∙ ap (λ (r : List ℕ). p ++ r) (sym found.2))

pub splits : (p bs : List ℕ) (r : Option (Bor (List ℕ) × Bor (List ℕ))) → is_ascii p ≡ true → 0 < length p → IsUtf8 bs
    → MatchOption r (FindsText p bs None) (λ x. SplitsAroundMatch (FindsText p) bs x.0.now x.1.now) → Splits r (up_to p (chars bs))
splits p bs None h some_pattern utf8 found = splits_none p bs h utf8 found
splits p bs (Some x) h some_pattern utf8 found =
    let i = found.0 in
    let at = found.2.1 in
    let front = x.0.now in
    let back = x.1.now in
    let here : drop i bs ≡ p ++ back = at.split ∙ ap (λ (r : List ℕ). p ++ r) (sym found.4) in
    let whole : bs ≡ front ++ (p ++ back) = sym (take-append-drop i bs) ∙ (λ j. sym found.3 j ++ here j) in
    let utf8_back : IsUtf8 back = subst (λ (r : List ℕ). IsUtf8 r) (ap (λ k. drop k bs) (sym at.ends) ∙ sym found.4) (IsUtf8-drop bs (i + length p) utf8 at.after) in
    let boundary : IsCharBoundary bs (length front) = IsCharBoundary-at_seam bs front (p ++ back) whole (IsUtf8-append p back (IsUtf8-from_ascii p (each_below p h)) utf8_back) in
    let utf8_front : IsUtf8 front = subst (λ (r : List ℕ). IsUtf8 r) (ap (λ (r : List ℕ). take (length front) r) whole ∙ take_at front (p ++ back) (length front) refl) (IsUtf8-take bs (length front) utf8 boundary) in
    splits_some p bs front back h some_pattern utf8_front utf8_back whole (λ k lt. found.2.0 k (omega (arith, lt, found.6)))

-- ---- so many characters

pub record Cut (text rest : List ℕ) (n : ℕ) : Type 0 where
  pub within : length rest ≤ length text
  pub boundary : IsCharBoundary text (length text - length rest)
  pub front : chars (take (length text - length rest) text) ≡ take n (chars text)
  pub back : drop (length text - length rest) text ≡ rest

pub cut : (text rest : List ℕ) (n : ℕ) → IsUtf8 text → IsUtf8 rest → chars rest ≡ drop n (chars text) → Cut text rest n
cut text rest n utf8 utf8_rest e =
    let x = encode_utf8_all (take n (chars text)) in
    let whole : text ≡ x ++ rest =
    sym (encodes-chars text utf8) ∙ ap encode_utf8_all (sym (take-append-drop n (chars text))) ∙ encodes-append (take n (chars text)) (drop n (chars text))
    ∙ ap (λ (r : List ℕ). x ++ r) (ap encode_utf8_all (sym e) ∙ encodes-chars rest utf8_rest) in
    let size : length text ≡ length x + length rest = ap length whole ∙ length-append x rest in
    let place : length x ≡ length text - length rest = omega (arith, size) in
    let boundary : IsCharBoundary text (length x) = IsCharBoundary-at_seam text x rest whole utf8_rest in
    let front : take (length x) text ≡ x = ap (λ (r : List ℕ). take (length x) r) whole ∙ take_at x rest (length x) refl in
    let text_front : IsUtf8 x = subst (λ (r : List ℕ). IsUtf8 r) front (IsUtf8-take text (length x) utf8 boundary) in
    record {
      within = omega (arith, size);
      boundary = subst (λ (k : ℕ). IsCharBoundary text k) place boundary;
      front = ap (λ (k : ℕ). chars (take k text)) (sym place) ∙ ap chars front ∙ sym (chars_from_encodes (take n (chars text)) x text_front refl);
      back = ap (λ (k : ℕ). drop k text) (sym place) ∙ ap (λ (r : List ℕ). drop (length x) r) whole ∙ drop_at x rest (length x) refl;
    }

next : (cs rest : List ℕ) (n c : ℕ) → c ∷ rest ≡ drop n cs → rest ≡ drop (n + 1) cs
next [] rest zero c e = absurd cc
next [] rest (suc n) c e = absurd cc
next (d ∷ cs) rest zero c e = ap (λ (r : List ℕ). drop 1 r) e
next (d ∷ cs) rest (suc n) c e = next cs rest n c e ∙ ap (λ k. drop k (d ∷ cs)) (more n)
  where
    more : (n : ℕ) → suc (n + 1) ≡ suc n + 1
    more n = omega arith

pub one_behind : (cs here rest : List ℕ) (n c : ℕ) → here ≡ drop n cs → here ≡ c ∷ rest → rest ≡ drop (n + 1) cs
one_behind cs here rest n c e first = next cs rest n c (sym first ∙ e)

pub record All (cs : List ℕ) (n : ℕ) : Type 0 where
  pub front : cs ≡ take n cs
  pub back : [] ≡ drop n cs

pub all_there : (cs : List ℕ) (k n : ℕ) → [] ≡ drop k cs → k ≤ n → All cs n
all_there [] k zero e le = record { front = refl; back = refl }
all_there [] k (suc n) e le = record { front = refl; back = refl }
all_there (c ∷ cs) zero n e le = absurd cc
all_there (c ∷ cs) (suc k) zero e le = absurd (omega (arith, le))
all_there (c ∷ cs) (suc k) (suc n) e le = let more = all_there cs k n e (omega (arith, le)) in record { front = ap (λ (r : List ℕ). c ∷ r) more.front; back = more.back }

-- ---- a text that grows

pub pushed : (new old : List ℕ) (c : ℕ) → IsUtf8 old → IsScalar c → new ≡ old ++ encode_utf8 c → chars new ≡ chars old ++ c ∷ []
pushed new old c utf8 scalar e =
    ap chars e ∙ chars-append old (encode_utf8 c) utf8
    ∙ ap (λ (r : List ℕ). chars old ++ r) (chars_past_char (encode_utf8 c) [] c (IsUtf8-encode c scalar) (sym (append-nil (encode_utf8 c))) ∙ ap (λ (r : List ℕ). c ∷ r) chars-nil)

-- ---- line ends

line_feeds : (cs : List ℕ) → NonePass (λ d. eqb d 13) cs → normal false cs ≡ cs
line_feeds [] h = refl
line_feeds (c ∷ cs) h = rw h.0 (ap (λ (r : List ℕ). c ∷ r) (line_feeds cs h.1))

pub same_lines : (bs : List ℕ) → IsUtf8 bs → NoCharPasses (λ d. eqb d 13) bs → normal false (chars bs) ≡ chars bs
same_lines bs utf8 h = subst (λ (cs : List ℕ). normal false cs ≡ cs) (chars_from_encodes h.0 bs utf8 h.1) (line_feeds h.0 h.2)

-- ---- as the code has them

pub grows : {U E : Type 0} (r : Result U E) (new old : List ℕ) (c : ℕ) → IsUtf8 old → IsScalar c → new ≡ cond (is_ok r) (old ++ encode_utf8 c) old → OnOk r (chars new ≡ chars old ++ c ∷ [])
grows (Ok u) new old c utf8 scalar e = pushed new old c utf8 scalar e
grows (Err x) new old c utf8 scalar e = tt

pub grows_by : {U E : Type 0} (r : Result U E) (new old more : List ℕ) → IsUtf8 old → new ≡ cond (is_ok r) (old ++ more) old → OnOk r (chars new ≡ chars old ++ chars more)
grows_by (Ok u) new old more utf8 e = ap chars e ∙ chars-append old more utf8
grows_by (Err x) new old more utf8 e = tt

pub as_text : {E : Type 0} (r : Result (List ℕ) E) (bs : List ℕ) → IsUtf8 bs → IfOk r (λ t. t ≡ bs) → IfOk r (λ t. t ≡ encode_utf8_all (chars bs))
as_text (Ok t) bs utf8 e = e ∙ sym (encodes-chars bs utf8)
as_text (Err x) bs utf8 e = tt

pub has_line_feeds : (bs : List ℕ) (b : Bool) → IsUtf8 bs → MatchBool b (HasMatch (FindsChar 13) bs) (FindsChar 13 bs None) → not b ≡ true → normal false (chars bs) ≡ chars bs
has_line_feeds bs true utf8 found e = absurd cc
has_line_feeds bs false utf8 found e = same_lines bs utf8 found
