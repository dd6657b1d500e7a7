-- The text of components, piece by piece.
use Rattle.std.proofs.Common.{◌≡◌, ℕ, suc, ◌<◌, ◌≤◌, ◌^◌, Bool, true, false, ◌&&◌, IsTrue, T, ℤ, pos, negsuc, List, [], ◌∷◌, ◌++◌, length, map, refl, sym, ap, ap₂, subst, ◌∙◌, arith, flat_map, append-nil, append_assoc, eqb, w64, All, get_or, drop, add-one, ◌+◌, drop-cons, not}
use Rattle.std.specs.Borrow.{Bor}
use Rattle.std.proofs.Math.ListN.{drop_of_length-le}
use Rattle.std.specs.Prelude.{Option, Some, None, Result, Ok, Err, Vec, IfOk, option_map}
use Rattle.std.specs.Global.{Global}
use Rattle.std.specs.List.{slice_split}
use Rattle.std.specs.Fmt.{signed_decimal, decimal}
use Rattle.std.specs.Str.Parse.{AllDigits, ParsesSigned}
use Rattle.std.proofs.Math.Facts.{sfits_lit}
use Rattle.std.proofs.lemmas.Bool.{ltb-true, and_parts}
use Rattle.std.proofs.lemmas.Bool.Decides.{nat_tests, Decides-eqb}
use Rattle.std.proofs.lemmas.Fmt.{decimal_is_IsNumeral, parse-signed_decimal, signed_decimal_injective}
use Rattle.std.proofs.lemmas.List.Elements.{All-nil, All-cons}
use Rattle.std.proofs.lemmas.List.Splits.{slice_split_none, slice_split_at}
use Rattle.std.proofs.lemmas.Str.Parse.{digit_from_value}
use lib.Signed.{mag}
use mir.Val.{SFits}
use Rattle.std.specs.Cmp.Lexicographic.{pointwise}
use Rattle.std.proofs.lemmas.Slice.Eq.{slice_eq-Decides}
use Rattle.mm_label.specs.Bytes.{bytes_of}
use Rattle.mm_label.specs.Components.{components}
use Rattle.mm_label.specs.Label.{IsLabel, is_in_range, all_in_range}
use Rattle.mm_label.specs.Text.{text_of, dotted}
use Rattle.mm_label.specs.Inside.Numbers.{IsOnlyNumber, AreOnlyNumbers, IsOnlyReading}
use Rattle.mm_label.proofs.Readback.{yes, components_again}
use Rattle.mm_label.proofs.HeldFacts.{all_in_range-append}

-- the first component, and the others each behind a full stop
pub text_of-cons : (c : ℤ) (cs : List ℤ) → text_of (c ∷ cs) ≡ signed_decimal c ++ flat_map dotted cs
text_of-cons c [] = sym (append-nil (signed_decimal c))
text_of-cons c (d ∷ cs) = ap (λ zs. signed_decimal c ++ (46 ∷ zs)) (text_of-cons d cs)

pub text_of_none : (cs : List ℤ) → length cs < 1 → text_of cs ≡ []
text_of_none [] h = refl
text_of_none (c ∷ cs) h = absurd (omega arith)

pub text_made : (start mid end : List ℕ) (c : ℤ) (rest cs : List ℤ) → start ≡ [] → mid ≡ start ++ signed_decimal c → end ≡ mid ++ flat_map dotted rest → cs ≡ c ∷ rest → end ≡ text_of cs
text_made start mid end c rest cs e f g h =
    g ∙ ap (λ zs. zs ++ flat_map dotted rest) (f ∙ ap (λ zs. zs ++ signed_decimal c) e) ∙ sym (text_of-cons c rest) ∙ ap text_of (sym h)

-- ---- where a text is cut

abbrev is_stop : ℕ → Bool
is_stop b = eqb b 46

-- no byte is a full stop
abbrev StopLess : List ℕ → Type 0
StopLess bs = All (λ b. is_stop b ≡ false) bs

no_stop : (d : ℕ) → 48 ≤ d → is_stop d ≡ false
no_stop d h = grind (arith, nat_tests)

digits_stop : (ds : List ℕ) → AllDigits 10 ds → StopLess ds
digits_stop [] h = All-nil (λ b. is_stop b ≡ false)
digits_stop (d ∷ ds) h = All-cons (λ b. is_stop b ≡ false) d ds (no_stop d (digit_from_value d h.0).0) (digits_stop ds h.1)

decimal_stop : (n : ℕ) → n < 2 ^ 64 → StopLess (decimal n)
decimal_stop n h = digits_stop (decimal n) (decimal_is_IsNumeral n h).0.1

signed_stop : (c : ℤ) → is_in_range c ≡ true → StopLess (signed_decimal c)
signed_stop (pos n) h = decimal_stop n (omega (arith, ltb-true n 4294975552 h))
signed_stop (negsuc n) h = All-cons (λ b. is_stop b ≡ false) 45 (decimal (suc n)) refl (decimal_stop (suc n) (omega (arith, ltb-true n 4294975552 h)))

split_text : (c : ℤ) (cs : List ℤ) → IsTrue (all_in_range (c ∷ cs)) → slice_split is_stop (text_of (c ∷ cs)) ≡ map signed_decimal (c ∷ cs)
split_text c [] h = slice_split_none is_stop (signed_decimal c) (signed_stop c (and_parts (is_in_range c) true h).0)
split_text c (d ∷ cs) h =
    let p = and_parts (is_in_range c) (all_in_range (d ∷ cs)) h in
    slice_split_at is_stop (signed_decimal c) 46 (text_of (d ∷ cs)) (signed_stop c p.0) refl ∙ ap (λ zs. signed_decimal c ∷ zs) (split_text d cs p.1)

split_label : (cs : List ℤ) → IsLabel cs → slice_split is_stop (text_of cs) ≡ map signed_decimal cs
split_label [] h = absurd (let k : false ≡ true = h.ends_odd in cc)
split_label (c ∷ cs) h = split_text c cs h.in_range

range_mag : (c : ℤ) → is_in_range c ≡ true → mag c < 4294975552
range_mag (pos n) h = ltb-true n 4294975552 h
range_mag (negsuc n) h = ltb-true n 4294975552 h

head_same : (x y : List ℕ) (xs ys : List (List ℕ)) → x ∷ xs ≡ y ∷ ys → (x ≡ y) × (xs ≡ ys)
head_same x y xs ys e = (cc, cc)

same_components : (a b : List ℤ) → IsTrue (all_in_range a) → IsTrue (all_in_range b) → map signed_decimal a ≡ map signed_decimal b → a ≡ b
same_components [] [] h k e = refl
same_components [] (d ∷ b) h k e = absurd cc
same_components (c ∷ a) [] h k e = absurd cc
same_components (c ∷ a) (d ∷ b) h k e =
    let p = and_parts (is_in_range c) (all_in_range a) h in let q = and_parts (is_in_range d) (all_in_range b) k in
    let s = head_same (signed_decimal c) (signed_decimal d) (map signed_decimal a) (map signed_decimal b) e in
    ap₂ (λ x zs. x ∷ zs) (signed_decimal_injective c d (omega (arith, range_mag c p.0)) (omega (arith, range_mag d q.0)) s.0) (same_components a b p.1 q.1 s.1)

pub one_text : (a b : List ℤ) → IsLabel a → IsLabel b → text_of a ≡ text_of b → a ≡ b
one_text a b h k e =
    same_components a b h.in_range k.in_range (sym (split_label a h) ∙ ap (λ zs. slice_split is_stop zs) e ∙ split_label b k)

-- ---- what a piece is read as

range_fits : (c : ℤ) → is_in_range c ≡ true → SFits w64 c
range_fits c h = sfits_lit (subst T (sym (yes (mag c) (2 ^ 63) (omega (arith, range_mag c h)))) tt)

-- a component whose text this is is read
pub number_read : {E : Type 0} (text : List ℕ) (r : Result ℤ E) → ParsesSigned w64 10 text r → (c : ℤ) → is_in_range c ≡ true → signed_decimal c ≡ text → r ≡ Ok c
number_read text r p c h e = parse-signed_decimal w64 c text r (range_fits c h) (omega (arith, range_mag c h)) (sym e) p

pub read_one : {E : Type 0} (text : List ℕ) (r : Result ℤ E) (n : ℤ) → ParsesSigned w64 10 text r → r ≡ Ok n → is_in_range n ≡ true → IsOnlyNumber (Some n) text
read_one text r n p e h = (h, λ c k f. let g = number_read text r p c k f in cc)

pub read_out : {E : Type 0} (text : List ℕ) (r : Result ℤ E) (n : ℤ) → ParsesSigned w64 10 text r → r ≡ Ok n → is_in_range n ≡ false → IsOnlyNumber None text
read_out text r n p e h = λ c k f. let g = number_read text r p c k f in let s : c ≡ n = cc in let z : false ≡ true = sym h ∙ ap is_in_range (sym s) ∙ k in cc

pub read_error : {E : Type 0} (text : List ℕ) (r : Result ℤ E) (x : E) → ParsesSigned w64 10 text r → r ≡ Err x → IsOnlyNumber None text
read_error text r x p e = λ c k f. let g = number_read text r p c k f in cc

-- ---- piece by piece

-- numbers that can have the texts begin with those found, and the others have the texts that are left
pub record Rest (left : List (List ℕ)) (cs found : List ℤ) : Type 0 where
  pub rest : List ℤ
  pub parts : cs ≡ found ++ rest
  pub same : map signed_decimal rest ≡ left

pub record FoundSoFar (texts left : List (List ℕ)) (found : List ℤ) : Type 0 where
  pub in_range : IsTrue (all_in_range found)
  pub only : (cs : List ℤ) → IsTrue (all_in_range cs) → map signed_decimal cs ≡ texts → Rest left cs found

pub found_none : (texts : List (List ℕ)) → FoundSoFar texts texts []
found_none texts = record { in_range = refl; only = λ cs h e. record { rest = cs; parts = refl; same = e } }

middle_in_range : (found : List ℤ) (c : ℤ) (rest : List ℤ) → IsTrue (all_in_range (found ++ c ∷ rest)) → is_in_range c ≡ true
middle_in_range [] c rest h = (and_parts (is_in_range c) (all_in_range rest) h).0
middle_in_range (d ∷ found) c rest h = middle_in_range found c rest (and_parts (is_in_range d) (all_in_range (found ++ c ∷ rest)) h).1

pub found_more : (texts left : List (List ℕ)) (t : List ℕ) (found new : List ℤ) (n : ℤ) → IsOnlyNumber (Some n) t → new ≡ found ++ n ∷ [] → FoundSoFar texts (t ∷ left) found → FoundSoFar texts left new
found_more texts left t found new n o e s = subst (λ zs. FoundSoFar texts left zs) (sym e) (record {
  in_range = all_in_range-append found (n ∷ []) s.in_range (ap (λ b. b && true) o.0);
  only = λ cs h f. let r = s.only cs h f in by_rest cs h r.rest r.parts r.same;
})
  where
    by_rest : (cs : List ℤ) → IsTrue (all_in_range cs) → (rest : List ℤ) → cs ≡ found ++ rest → map signed_decimal rest ≡ t ∷ left → Rest left cs (found ++ n ∷ [])
    by_rest cs h [] p q = absurd cc
    by_rest cs h (c ∷ rest) p q =
        let u = head_same (signed_decimal c) t (map signed_decimal rest) left q in
        let k = o.1 c (middle_in_range found c rest (subst (λ zs. IsTrue (all_in_range zs)) p h)) u.0 in
        record { rest = rest; parts = p ∙ ap (λ z. found ++ z ∷ rest) k ∙ sym (append_assoc found (n ∷ []) rest); same = u.1 }

pub found_stop : (texts left : List (List ℕ)) (t : List ℕ) (found : List ℤ) → IsOnlyNumber None t → FoundSoFar texts (t ∷ left) found → AreOnlyNumbers None texts
found_stop texts left t found o s = λ cs h e. let r = s.only cs h e in by_rest cs h r.rest r.parts r.same
  where
    by_rest : (cs : List ℤ) → IsTrue (all_in_range cs) → (rest : List ℤ) → cs ≡ found ++ rest → map signed_decimal rest ≡ t ∷ left → ⊥
    by_rest cs h [] p q = absurd cc
    by_rest cs h (c ∷ rest) p q =
        let u = head_same (signed_decimal c) t (map signed_decimal rest) left q in
        o c (middle_in_range found c rest (subst (λ zs. IsTrue (all_in_range zs)) p h)) u.0

pub found_all : (texts left : List (List ℕ)) (found : List ℤ) → left ≡ [] → FoundSoFar texts left found → AreOnlyNumbers (Some found) texts
found_all texts left found z s = (s.in_range, λ cs h e. let r = s.only cs h e in by_rest cs r.rest r.parts (r.same ∙ z))
  where
    by_rest : (cs rest : List ℤ) → cs ≡ found ++ rest → map signed_decimal rest ≡ [] → cs ≡ found
    by_rest cs [] p q = p ∙ append-nil found
    by_rest cs (c ∷ rest) p q = absurd cc

-- the same of the pieces behind references
abbrev piece_bytes : List (Bor (List ℕ)) → List (List ℕ)
piece_bytes ps = map (λ piece. piece.now) ps

dropped : (ps : List (Bor (List ℕ))) (i : ℕ) (d : Bor (List ℕ)) → i < length ps → piece_bytes (drop i ps) ≡ (get_or ps i d).now ∷ piece_bytes (drop (i + 1) ps)
dropped ps i d h = ap piece_bytes (drop-cons ps i d h) ∙ ap (λ k. (get_or ps i d).now ∷ piece_bytes (drop k ps)) (sym (add-one i))

pub piece_more : (ps : List (Bor (List ℕ))) (i : ℕ) (d : Bor (List ℕ)) (found new : List ℤ) (r : Option ℤ) (n : ℤ) → i < length ps → r ≡ Some n → IsOnlyNumber r (get_or ps i d).now → new ≡ found ++ n ∷ []
    → FoundSoFar (piece_bytes ps) (piece_bytes (drop i ps)) found → FoundSoFar (piece_bytes ps) (piece_bytes (drop (i + 1) ps)) new
piece_more ps i d found new r n h e o f s =
    found_more (piece_bytes ps) (piece_bytes (drop (i + 1) ps)) (get_or ps i d).now found new n (subst (λ x. IsOnlyNumber x (get_or ps i d).now) e o) f
    (subst (λ zs. FoundSoFar (piece_bytes ps) zs found) (dropped ps i d h) s)

pub piece_stop : (ps : List (Bor (List ℕ))) (i : ℕ) (d : Bor (List ℕ)) (found : List ℤ) (r : Option ℤ) → i < length ps → r ≡ None → IsOnlyNumber r (get_or ps i d).now
    → FoundSoFar (piece_bytes ps) (piece_bytes (drop i ps)) found → AreOnlyNumbers None (piece_bytes ps)
piece_stop ps i d found r h e o s =
    found_stop (piece_bytes ps) (piece_bytes (drop (i + 1) ps)) (get_or ps i d).now found (subst (λ x. IsOnlyNumber x (get_or ps i d).now) e o)
    (subst (λ zs. FoundSoFar (piece_bytes ps) zs found) (dropped ps i d h) s)

pub pieces_all : (ps : List (Bor (List ℕ))) (i : ℕ) (found : List ℤ) → length ps ≤ i → FoundSoFar (piece_bytes ps) (piece_bytes (drop i ps)) found → AreOnlyNumbers (Some found) (piece_bytes ps)
pieces_all ps i found h s = found_all (piece_bytes ps) (piece_bytes (drop i ps)) found (ap piece_bytes (drop_of_length-le ps h)) s

-- ---- the whole text

only_reading : (o : Option (List ℤ)) (texts : List (List ℕ)) (text : List ℕ) → texts ≡ slice_split is_stop text → AreOnlyNumbers o texts → IsOnlyReading o text
only_reading None texts text e h = λ cs l f. h cs l.in_range (sym (split_label cs l) ∙ ap (λ zs. slice_split is_stop zs) f ∙ sym e)
only_reading (Some found) texts text e h = (h.0, λ cs l f. h.1 cs l.in_range (sym (split_label cs l) ∙ ap (λ zs. slice_split is_stop zs) f ∙ sym e))

pub given_reading : {E : Type 0} (r : Result (Option (Vec ℤ Global)) E) (texts : List (List ℕ)) (text : List ℕ) → texts ≡ slice_split is_stop text
    → IfOk r (λ o. AreOnlyNumbers (option_map (λ v. v.items) o) texts) → IfOk r (λ o. IsOnlyReading (option_map (λ v. v.items) o) text)
given_reading (Ok o) texts text e h = only_reading (option_map (λ v. v.items) o) texts text e h
given_reading (Err x) texts text e h = tt

not_false : (b : Bool) → not b ≡ false → b ≡ true
not_false true e = refl
not_false false e = absurd cc

-- where the canonical text does not differ from the text, it is that text
pub parsed_text : (items : List ℤ) (shown text : List ℕ) (r : Bool) → shown ≡ text_of items → r ≡ not (pointwise eqb shown text) → r ≡ false → text_of items ≡ text
parsed_text items shown text r e f g = sym e ∙ (slice_eq-Decides Decides-eqb shown text (pointwise eqb shown text) refl).0 (not_false (pointwise eqb shown text) (sym f ∙ g))

-- the bytes that were pushed stand for the components
pub pushed_components : (items : List ℤ) (start bytes : List ℕ) → IsTrue (all_in_range items) → start ≡ [] → bytes ≡ start ++ bytes_of items → components bytes ≡ items
pushed_components items start bytes h e f = ap components (f ∙ ap (λ zs. zs ++ bytes_of items) e) ∙ components_again items h
