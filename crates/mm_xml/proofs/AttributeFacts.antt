-- Values and attributes, one part after the other.
use Rattle.std.proofs.Common.{◌≡◌, refl, sym, ap, ◌∙◌, ℕ, zero, suc, ◌≤◌, Bool, true, false, cond, eqb, List, [], ◌∷◌, ◌++◌, length, Option, Some, None, append_assoc, arith}
use Rattle.std.specs.Prelude.{map}
use Rattle.std.specs.List.{flat_map, list_all}
use Rattle.std.specs.Str.{chars, encode_utf8_all}
use Rattle.std.proofs.lemmas.List.{append-nil}
use Rattle.std.proofs.lemmas.Bool.{eqb-true}
use Rattle.std.proofs.lemmas.Bool.Decides.{nat_tests}
use Rattle.mm_tree.specs.declared.Attribute.{Attribute}
use Rattle.mm_tree.specs.Characters.{is_space, is_name_char, is_short_name}
use Rattle.mm_xml.specs.Letters.{is_gap}
use Rattle.mm_xml.specs.Syntax.{Part, Written, meant_in_value, attribute_of}
use Rattle.mm_xml.specs.Inside.Lexing.{◌>>=◌, Found, span, after, part_at, parts_at, value_at, written_at, attributes_at, starts_name}
use Rattle.mm_xml.specs.Inside.Telling.{tell_parts, tell_character, tell_value, tell_attributes, attribute_at}
use Rattle.std.specs.Borrow.{Bor}
use Rattle.mm_xml.specs.Inside.Lexemes.{Gets}
use Rattle.mm_xml.proofs.Enough.{parts_enough, attributes_enough}
use Rattle.mm_xml.proofs.Spans.{some, no, some_is, span_all}

-- ---- the characters of a value

abbrev ahead : List ℕ → ℕ → ℕ → List ℕ × List ℕ → Found (List ℕ)
ahead acc n q x = tell_parts (acc ++ x.0) (parts_at n q x.1)

parts_step : (acc : List ℕ) (n q : ℕ) (found : Found Part) → tell_parts acc (found >>= λ x. parts_at n q x.1 >>= λ y. Some (x.0 ∷ y.0, y.1)) ≡ (tell_character found >>= λ x. ahead acc n q x)
parts_step acc n q None = refl
parts_step acc n q (Some x) = each (parts_at n q x.1)
  where
    each : (o : Found (List Part)) → tell_parts acc (o >>= λ y. Some (x.0 ∷ y.0, y.1)) ≡ tell_parts (acc ++ meant_in_value x.0) o
    each None = refl
    each (Some y) = ap (λ (r : List ℕ). some (r, y.1)) (sym (append_assoc acc (meant_in_value x.0) (flat_map meant_in_value y.0)))

parts_on : (acc : List ℕ) (n q c : ℕ) (cs : List ℕ) → eqb c q ≡ false → tell_parts acc (parts_at (suc n) q (c ∷ cs)) ≡ (tell_character (part_at (c ∷ cs)) >>= λ x. ahead acc n q x)
parts_on acc n q c cs h =
    ap (λ b. tell_parts acc (cond b (some ([], cs)) (part_at (c ∷ cs) >>= λ x. parts_at n q x.1 >>= λ y. some (x.0 ∷ y.0, y.1)))) h ∙ parts_step acc n q (part_at (c ∷ cs))

abbrev Found2 : Type 0
Found2 = Option (List ℕ × List ℕ)

-- where the value begins
pub value_begins : (acc : List ℕ) (k q : ℕ) (cs : List ℕ) → acc ≡ [] → length cs ≤ k → tell_parts acc (parts_at k q cs) ≡ tell_parts [] (parts_at (length cs) q cs)
value_begins acc k q cs none enough = ap (λ (r : List ℕ). tell_parts r (parts_at k q cs)) none ∙ ap (λ (o : Found (List Part)). tell_parts [] o) (parts_enough k (length cs) q cs enough (omega arith))

-- where the quote stands
pub value_ends : (acc : List ℕ) (k m q c : ℕ) (rest cs : List ℕ) (total : Found2) → k ≡ suc m → rest ≡ c ∷ cs → eqb c q ≡ true → tell_parts acc (parts_at k q rest) ≡ total → total ≡ Some (acc, cs)
value_ends acc k m q c rest cs total count is h e =
    sym e ∙ ap (λ n. tell_parts acc (parts_at n q rest)) count ∙ ap (λ (r : List ℕ). tell_parts acc (parts_at (suc m) q r)) is
    ∙ ap (λ b. tell_parts acc (cond b (some ([], cs)) (part_at (c ∷ cs) >>= λ x. parts_at m q x.1 >>= λ y. some (x.0 ∷ y.0, y.1)))) h
    ∙ ap (λ (r : List ℕ). some (r, cs)) (append-nil acc)

-- where no character stands
pub value_stops : (acc : List ℕ) (k m q c : ℕ) (rest cs : List ℕ) (total : Found2) → k ≡ suc m → rest ≡ c ∷ cs → eqb c q ≡ false → tell_character (part_at rest) ≡ None → tell_parts acc (parts_at k q rest) ≡ total → total ≡ None
value_stops acc k m q c rest cs total count is h none e =
    sym e ∙ ap (λ n. tell_parts acc (parts_at n q rest)) count ∙ ap (λ (r : List ℕ). tell_parts acc (parts_at (suc m) q r)) is
    ∙ parts_on acc m q c cs h ∙ ap (λ (o : Found (List ℕ)). o >>= λ x. ahead acc m q x) (ap (λ (r : List ℕ). tell_character (part_at r)) (sym is) ∙ none)

-- one character further
pub value_goes_on : (acc more : List ℕ) (k m q c : ℕ) (rest cs behind : List ℕ) (total : Found2) → k ≡ suc m → rest ≡ c ∷ cs → eqb c q ≡ false → tell_character (part_at rest) ≡ Some (more, behind)
    → tell_parts acc (parts_at k q rest) ≡ total → tell_parts (acc ++ more) (parts_at m q behind) ≡ total
value_goes_on acc more k m q c rest cs behind total count is h found e =
    sym (ap (λ n. tell_parts acc (parts_at n q rest)) count ∙ ap (λ (r : List ℕ). tell_parts acc (parts_at (suc m) q r)) is
    ∙ parts_on acc m q c cs h ∙ ap (λ (o : Found (List ℕ)). o >>= λ x. ahead acc m q x) (ap (λ (r : List ℕ). tell_character (part_at r)) (sym is) ∙ found)) ∙ e

-- ---- an attribute

abbrev to_attribute : Found Written → Found Attribute
to_attribute o = o >>= λ x. Some (attribute_of x.0, x.1)

abbrev as_written : (gap name before space : List ℕ) → (ℕ × List Part) × List ℕ → Found Written
as_written gap name before space v = Some (record { gap = gap; name = name; before = before; after = space; quote = v.0.0; parts = v.0.1 }, v.1)

abbrev as_attribute : List ℕ → List ℕ × List ℕ → Found Attribute
as_attribute name v = Some (record { name = encode_utf8_all name; value = v.0 }, v.1)

abbrev rest_is : List ℕ → Option (List ℕ)
rest_is r = Some (span is_space r).1

valued : (gap name before space : List ℕ) (o : Found (ℕ × List Part)) → to_attribute (o >>= λ v. as_written gap name before space v) ≡ (tell_value o >>= λ v. as_attribute name v)
valued gap name before space None = refl
valued gap name before space (Some v) = refl

equals : (gap name before : List ℕ) (o : Option (List ℕ)) → to_attribute (o >>= λ r. value_at (span is_space r).1 >>= λ v. as_written gap name before (span is_space r).0 v) ≡ ((o >>= λ r. rest_is r) >>= λ r. tell_value (value_at r) >>= λ v. as_attribute name v)
equals gap name before None = refl
equals gap name before (Some r) = valued gap name before (span is_space r).0 (value_at (span is_space r).1)

named_so : (b : Bool) (gap name before : List ℕ) (o : Option (List ℕ)) → to_attribute (cond b (o >>= λ r. value_at (span is_space r).1 >>= λ v. as_written gap name before (span is_space r).0 v) None) ≡ cond b ((o >>= λ r. rest_is r) >>= λ r. tell_value (value_at r) >>= λ v. as_attribute name v) None
named_so true gap name before o = equals gap name before o
named_so false gap name before o = refl

written_told : (gap : List ℕ) (cs : List ℕ) → to_attribute (written_at gap cs) ≡ attribute_at cs
unfolding written_at
written_told gap cs =
    let name = (span is_name_char cs).0 in
    let more = (span is_name_char cs).1 in
    named_so (is_short_name name) gap name (span is_space more).0 (after 61 (span is_space more).1)

-- ---- the attributes of a start tag

abbrev behind_one : List Attribute → ℕ → Attribute × List ℕ → Found (List Attribute)
behind_one acc n x = tell_attributes (acc ++ x.0 ∷ []) (attributes_at n x.1)

attributes_step : (acc : List Attribute) (n : ℕ) (found : Found Written) → tell_attributes acc (found >>= λ w. attributes_at n w.1 >>= λ y. Some (w.0 ∷ y.0, y.1)) ≡ (to_attribute found >>= λ x. behind_one acc n x)
attributes_step acc n None = refl
attributes_step acc n (Some x) = each (attributes_at n x.1)
  where
    each : (o : Found (List Written)) → tell_attributes acc (o >>= λ y. Some (x.0 ∷ y.0, y.1)) ≡ tell_attributes (acc ++ attribute_of x.0 ∷ []) o
    each None = refl
    each (Some y) = ap (λ (r : List Attribute). some (r, y.1)) (sym (append_assoc acc (attribute_of x.0 ∷ []) (map attribute_of y.0)))

abbrev Found3 : Type 0
Found3 = Found (List Attribute)

abbrev some3 : List Attribute × List ℕ → Found3
some3 x = Some x

-- before the first attribute
pub attributes_begin : (acc : List Attribute) (k : ℕ) (cs : List ℕ) → acc ≡ [] → length cs ≤ k → tell_attributes acc (attributes_at k cs) ≡ tell_attributes [] (attributes_at (length cs) cs)
attributes_begin acc k cs none enough = ap (λ (r : List Attribute). tell_attributes r (attributes_at k cs)) none ∙ ap (λ (o : Found (List Written)). tell_attributes [] o) (attributes_enough k (length cs) cs enough (omega arith))

-- no name stands behind the white space
pub attributes_end : (acc : List Attribute) (k : ℕ) (cs : List ℕ) (total : Found3) → starts_name (span is_space cs).1 ≡ false → tell_attributes acc (attributes_at k cs) ≡ total → total ≡ Some (acc, cs)
attributes_end acc zero cs total h e = sym e ∙ ap (λ (r : List Attribute). some3 (r, cs)) (append-nil acc)
attributes_end acc (suc n) cs total h e =
    sym e ∙ ap (λ b. tell_attributes acc (cond b (cond (is_gap (span is_space cs).0) (written_at (span is_space cs).0 (span is_space cs).1 >>= λ w. attributes_at n w.1 >>= λ y. some (w.0 ∷ y.0, y.1)) no) (some ([], cs)))) h
    ∙ ap (λ (r : List Attribute). some3 (r, cs)) (append-nil acc)

-- no attribute is left to count
pub attributes_full : (acc : List Attribute) (k : ℕ) (cs : List ℕ) (total : Found3) → k ≡ 0 → tell_attributes acc (attributes_at k cs) ≡ total → total ≡ Some (acc, cs)
attributes_full acc k cs total count e = sym e ∙ ap (λ n. tell_attributes acc (attributes_at n cs)) count ∙ ap (λ (r : List Attribute). some3 (r, cs)) (append-nil acc)

gap_is : (g : List ℕ) → list_all is_space g ≡ true → (g ≡ [] → ⊥) → is_gap g ≡ true
gap_is [] h some_space = absurd (some_space refl)
gap_is (c ∷ cs) h some_space = h

-- a name stands there, without white space before it
pub attributes_stop : (acc : List Attribute) (k m : ℕ) (cs : List ℕ) (total : Found3) → k ≡ suc m → starts_name (span is_space cs).1 ≡ true → (span is_space cs).0 ≡ [] → tell_attributes acc (attributes_at k cs) ≡ total → total ≡ None
attributes_stop acc k m cs total count h none e =
    sym e ∙ ap (λ n. tell_attributes acc (attributes_at n cs)) count
    ∙ ap (λ b. tell_attributes acc (cond b (cond (is_gap (span is_space cs).0) (written_at (span is_space cs).0 (span is_space cs).1 >>= λ w. attributes_at m w.1 >>= λ y. some (w.0 ∷ y.0, y.1)) no) (some ([], cs)))) h
    ∙ ap (λ (g : List ℕ). tell_attributes acc (cond (is_gap g) (written_at (span is_space cs).0 (span is_space cs).1 >>= λ w. attributes_at m w.1 >>= λ y. some (w.0 ∷ y.0, y.1)) no)) none

attributes_on : (acc : List Attribute) (m : ℕ) (cs : List ℕ) → starts_name (span is_space cs).1 ≡ true → ((span is_space cs).0 ≡ [] → ⊥) → tell_attributes acc (attributes_at (suc m) cs) ≡ (attribute_at (span is_space cs).1 >>= λ x. behind_one acc m x)
attributes_on acc m cs h gap =
    let g = (span is_space cs).0 in
    let more = (span is_space cs).1 in
    ap (λ b. tell_attributes acc (cond b (cond (is_gap g) (written_at g more >>= λ w. attributes_at m w.1 >>= λ y. some (w.0 ∷ y.0, y.1)) no) (some ([], cs)))) h
    ∙ ap (λ b. tell_attributes acc (cond b (written_at g more >>= λ w. attributes_at m w.1 >>= λ y. some (w.0 ∷ y.0, y.1)) no)) (gap_is g (span_all is_space cs) gap)
    ∙ attributes_step acc m (written_at g more)
    ∙ ap (λ (o : Found Attribute). o >>= λ x. behind_one acc m x) (written_told g more)

-- no attribute stands there
pub attributes_none : (acc : List Attribute) (k m : ℕ) (cs : List ℕ) (total : Found3) → k ≡ suc m → starts_name (span is_space cs).1 ≡ true → ((span is_space cs).0 ≡ [] → ⊥) → attribute_at (span is_space cs).1 ≡ None
    → tell_attributes acc (attributes_at k cs) ≡ total → total ≡ None
attributes_none acc k m cs total count h gap none e =
    sym e ∙ ap (λ n. tell_attributes acc (attributes_at n cs)) count ∙ attributes_on acc m cs h gap ∙ ap (λ (o : Found Attribute). o >>= λ x. behind_one acc m x) none

-- one attribute further
pub attributes_go_on : (acc : List Attribute) (a : Attribute) (k m : ℕ) (cs behind : List ℕ) (total : Found3) → k ≡ suc m → starts_name (span is_space cs).1 ≡ true → ((span is_space cs).0 ≡ [] → ⊥) → attribute_at (span is_space cs).1 ≡ Some (a, behind)
    → tell_attributes acc (attributes_at k cs) ≡ total → tell_attributes (acc ++ a ∷ []) (attributes_at m behind) ≡ total
attributes_go_on acc a k m cs behind total count h gap found e =
    sym (ap (λ n. tell_attributes acc (attributes_at n cs)) count ∙ attributes_on acc m cs h gap ∙ ap (λ (o : Found Attribute). o >>= λ x. behind_one acc m x) found) ∙ e

-- ---- as the code has them

pub is_equal : (c q : ℕ) → c ≡ q → eqb c q ≡ true
is_equal c q e = grind (arith, nat_tests)

pub is_other : (c q : ℕ) → (c ≡ q → ⊥) → eqb c q ≡ false
is_other c q e = elim (eqb c q) as (λ b. eqb c q ≡ b → b ≡ false) [ true ↦ λ h. absurd (e (eqb-true c q h)) | false ↦ λ h. refl ] refl

nothing_left : (g : List ℕ) (b : Bool) → b ≡ eqb (length g) 0 → b ≡ true → g ≡ []
nothing_left [] b e h = refl
nothing_left (x ∷ g) b e h = absurd (filled (length g) (sym h ∙ e))
  where
    filled : (n : ℕ) → true ≡ eqb (suc n) 0 → ⊥
    filled n h = grind arith

something_left : (g : List ℕ) (b : Bool) → b ≡ eqb (length g) 0 → b ≡ false → g ≡ [] → ⊥
something_left [] b e h k = let both_ways : true ≡ false = sym e ∙ h in cc
something_left (x ∷ g) b e h k = absurd cc

-- white space, and what comes after it
pub record Parted (cs gap more : List ℕ) : Type 0 where
  pub front : gap ≡ (span is_space cs).0
  pub back : more ≡ (span is_space cs).1

starts : (cs gap more : List ℕ) (b t : Bool) → Parted cs gap more → b ≡ starts_name more → b ≡ t → starts_name (span is_space cs).1 ≡ t
starts cs gap more b t p e h = ap starts_name (sym p.back) ∙ sym e ∙ h

pub no_name : (acc : List Attribute) (k : ℕ) (cs gap more : List ℕ) (b : Bool) (total : Found3) → Parted cs gap more → b ≡ starts_name more → b ≡ false → tell_attributes acc (attributes_at k cs) ≡ total → total ≡ Some (acc, cs)
no_name acc k cs gap more b total p e h same = attributes_end acc k cs total (starts cs gap more b false p e h) same

pub no_gap : (acc : List Attribute) (k m : ℕ) (cs gap more : List ℕ) (b d : Bool) (total : Found3) → k ≡ suc m → Parted cs gap more → b ≡ starts_name more → b ≡ true → d ≡ eqb (length gap) 0 → d ≡ true
    → tell_attributes acc (attributes_at k cs) ≡ total → total ≡ None
no_gap acc k m cs gap more b d total count p e h f g same = attributes_stop acc k m cs total count (starts cs gap more b true p e h) (sym p.front ∙ nothing_left gap d f g) same

pub no_attribute : (acc : List Attribute) (k m : ℕ) (cs gap more : List ℕ) (b d : Bool) (total : Found3) → k ≡ suc m → Parted cs gap more → b ≡ starts_name more → b ≡ true → d ≡ eqb (length gap) 0 → d ≡ false
    → attribute_at more ≡ None → tell_attributes acc (attributes_at k cs) ≡ total → total ≡ None
no_attribute acc k m cs gap more b d total count p e h f g none same =
    attributes_none acc k m cs total count (starts cs gap more b true p e h) (λ empty. something_left gap d f g (p.front ∙ empty)) (ap (λ (r : List ℕ). attribute_at r) (sym p.back) ∙ none) same

pub next_attribute : (acc all : List Attribute) (a : Attribute) (k m : ℕ) (cs gap more behind : List ℕ) (b d : Bool) (total : Found3) → k ≡ suc m → Parted cs gap more → b ≡ starts_name more → b ≡ true → d ≡ eqb (length gap) 0 → d ≡ false
    → attribute_at more ≡ Some (a, behind) → all ≡ acc ++ a ∷ [] → tell_attributes acc (attributes_at k cs) ≡ total → tell_attributes all (attributes_at m behind) ≡ total
next_attribute acc all a k m cs gap more behind b d total count p e h f g found grown same =
    ap (λ (r : List Attribute). tell_attributes r (attributes_at m behind)) grown
    ∙ attributes_go_on acc a k m cs behind total count (starts cs gap more b true p e h) (λ empty. something_left gap d f g (p.front ∙ empty)) (ap (λ (r : List ℕ). attribute_at r) (sym p.back) ∙ found) same

pub gets_none : {A : Type 0} (r : Option (A × Bor (List ℕ))) (found : Found A) → r ≡ None → Gets r found → found ≡ None
gets_none None found e h = h
gets_none (Some x) found e h = absurd cc

pub gets_some : {A : Type 0} (r : Option (A × Bor (List ℕ))) (a : A) (rest : Bor (List ℕ)) (found : Found A) → r ≡ Some (a, rest) → Gets r found → found ≡ Some (a, chars rest.now)
gets_some None a rest found e h = absurd cc
gets_some {A = A} (Some x) a rest found e h = h ∙ ap (λ (y : A × Bor (List ℕ)). some (y.0, chars y.1.now)) (some_is x (a, rest) e)
