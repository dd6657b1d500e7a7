-- A content is read back, and what is read is a content.
use Rattle.std.proofs.Common.{◌≡◌, ℕ, zero, suc, ◌+◌, ◌/◌, ◌%◌, ◌<◌, ◌≤◌, Bool, true, false, cond, ◌&&◌, ◌||◌, not, List, [], ◌∷◌, ◌++◌, map, length, get_or, take, drop, refl, ap, ap₂, sym, subst, ◌∙◌, Option, Some, None, append-nil, append_assoc, arith}
use Rattle.std.specs.Prelude.{flat_map, nat_le, nat_lt, ◌==◌}
use Rattle.std.specs.List.{list_all, list_any}
use Rattle.std.specs.Str.{bytes_eq, chars, is_utf8}
use Rattle.std.proofs.lemmas.Bool.{and_parts, and_from}
use Rattle.std.proofs.lemmas.Bool.Decides.{nat_tests}
use Rattle.std.proofs.lemmas.List.{length-append, take-append-drop, length-take-le, take_at, drop_at, get_or-drop}
use Rattle.byteorder.specs.Endian.{big_bytes, big_number}
use Rattle.byteorder.specs.Numbers.{big_number-reads_back}
use Rattle.mm_tree.specs.declared.plain.Attribute.{Attribute}
use Rattle.mm_tree.specs.declared.plain.Kind.{Kind}
use Rattle.mm_tree.specs.declared.plain.Kind.TheVariants.{Element, Words}
use Rattle.mm_tree.specs.Validity.{are_chars, are_distinct, has_valid_parts, is_node_name, is_valid_attribute}
use Rattle.std.proofs.lemmas.Slice.Eq.{bytes_eq-Decides}
use Rattle.mm_image.specs.Content.{IsContent, IsKindOf, attribute_bytes, content, sized}
use Rattle.mm_image.proofs.ChunkFacts.{few_attributes, name_short, valid_attributes, valid_name, value_fits}
use Rattle.mm_image.proofs.KeyFacts.{four_bytes}
use Rattle.mm_image.specs.Fields.{Field, Short, Wrong, Right, ◌>>=◌, given, checked, is_name_length, is_new, number_at, bytes_at, name_at, value_at, attribute_at, attributes_at, element_at, ended, standing, is_text, kind_told, kind_in}

-- ---- names

name_some : (name : List ℕ) → is_node_name name ≡ true → 1 ≤ length name
unfolding is_utf8 chars
name_some [] h = absurd cc
name_some (b ∷ name) h = omega arith

-- names that differ from these and from each other
abbrev pub AllNew : List (List ℕ) → List Attribute → Type 0
AllNew seen [] = Unit {0}
AllNew seen (a ∷ rest) = (is_new a.name seen ≡ true) × AllNew (a.name ∷ seen) rest

-- names that differ from these
abbrev AllFresh : List (List ℕ) → List Attribute → Type 0
AllFresh seen [] = Unit {0}
AllFresh seen (a ∷ rest) = (is_new a.name seen ≡ true) × AllFresh seen rest

abbrev names : List Attribute → List (List ℕ)
names attributes = map (λ a. a.name) attributes

pub unlike : (a b : List ℕ) → bytes_eq a b ≡ false → bytes_eq b a ≡ false
unlike a b e = by (bytes_eq b a) refl
  where
    clash : (a b : List ℕ) → bytes_eq a b ≡ false → a ≡ b → ⊥
    clash a b e f = let g : bytes_eq a b ≡ true = (bytes_eq-Decides a b).1 f in absurd cc

    by : (t : Bool) → bytes_eq b a ≡ t → t ≡ false
    by true q = absurd (clash a b e (sym ((bytes_eq-Decides b a).0 q)))
    by false q = refl

one_more_new : (x y : Bool) → x ≡ false → not y ≡ true → not (x || y) ≡ true
one_more_new true y e f = absurd cc
one_more_new false y e f = f

or_parts : (x y : Bool) → not (x || y) ≡ true → (x ≡ false) × (not y ≡ true)
or_parts true y e = absurd cc
or_parts false y e = (refl, e)

fresh_more : (n : List ℕ) (seen : List (List ℕ)) (attributes : List Attribute) → not (list_any (bytes_eq n) (names attributes)) ≡ true → AllFresh seen attributes → AllFresh (n ∷ seen) attributes
fresh_more n seen [] e f = tt
fresh_more n seen (a ∷ rest) e f =
    let p = or_parts (bytes_eq n a.name) (list_any (bytes_eq n) (names rest)) e in
    (one_more_new (bytes_eq a.name n) (list_any (bytes_eq a.name) seen) (unlike n a.name p.0) f.0, fresh_more n seen rest p.1 f.1)

distinct_from : (seen : List (List ℕ)) (attributes : List Attribute) → are_distinct (names attributes) ≡ true → AllFresh seen attributes → AllNew seen attributes
distinct_from seen [] d f = tt
distinct_from seen (a ∷ rest) d f =
    let p = and_parts (not (list_any (bytes_eq a.name) (names rest))) _ d in
    (f.0, distinct_from (a.name ∷ seen) rest p.1 (fresh_more a.name seen rest p.0 f.1))

none_seen : (attributes : List Attribute) → AllFresh [] attributes
none_seen [] = tt
none_seen (a ∷ rest) = (refl, none_seen rest)

distinct_new : (attributes : List Attribute) → are_distinct (names attributes) ≡ true → AllNew [] attributes
distinct_new attributes d = distinct_from [] attributes d (none_seen attributes)

fresh_less : (n : List ℕ) (seen : List (List ℕ)) (attributes : List Attribute) → AllFresh (n ∷ seen) attributes → (not (list_any (bytes_eq n) (names attributes)) ≡ true) × AllFresh seen attributes
fresh_less n seen [] f = (refl, tt)
fresh_less n seen (a ∷ rest) f =
    let p = or_parts (bytes_eq a.name n) (list_any (bytes_eq a.name) seen) f.0 in
    let t = fresh_less n seen rest f.1 in
    (one_more_new (bytes_eq n a.name) (list_any (bytes_eq n) (names rest)) (unlike a.name n p.0) t.0, (p.1, t.1))

new_distinct : (seen : List (List ℕ)) (attributes : List Attribute) → AllNew seen attributes → (are_distinct (names attributes) ≡ true) × AllFresh seen attributes
new_distinct seen [] n = (refl, tt)
new_distinct seen (a ∷ rest) n =
    let t = new_distinct (a.name ∷ seen) rest n.1 in
    let f = fresh_less a.name seen rest t.1 in
    (and_from (not (list_any (bytes_eq a.name) (names rest))) (are_distinct (names rest)) f.0 t.0, (n.0, f.1))

valid_distinct : (name : List ℕ) (attributes : List Attribute) → has_valid_parts (Element name attributes) ≡ true → are_distinct (names attributes) ≡ true
valid_distinct name attributes h = (and_parts (are_distinct (names attributes)) _ (and_parts (list_all is_valid_attribute attributes) _ (and_parts (is_node_name name) _ h).1).1).0

-- ---- what was written is read

yes_le : (a b : ℕ) → a ≤ b → nat_le a b ≡ true
yes_le a b h = grind (arith, nat_tests)

numbered_two : (n : ℕ) (r : List ℕ) → n < 65536 → number_at 2 (big_bytes 2 n ++ r) ≡ Right n r
numbered_two n r h =
    let l : length (big_bytes 2 n ++ r) ≡ suc (suc (length r)) = refl in
    ap (λ (b : Bool). cond b (Right (big_number 2 (big_bytes 2 n ++ r)) r) Short) (yes_le 2 (length (big_bytes 2 n ++ r)) (omega (arith, l)))
    ∙ ap (λ (k : ℕ). Right k r) (big_number-reads_back 2 n r h)

numbered_four : (n : ℕ) (r : List ℕ) → n < 4294967296 → number_at 4 (big_bytes 4 n ++ r) ≡ Right n r
numbered_four n r h =
    let l : length (big_bytes 4 n ++ r) ≡ suc (suc (suc (suc (length r)))) = refl in
    ap (λ (b : Bool). cond b (Right (big_number 4 (big_bytes 4 n ++ r)) r) Short) (yes_le 4 (length (big_bytes 4 n ++ r)) (omega (arith, l)))
    ∙ ap (λ (k : ℕ). Right k r) (big_number-reads_back 4 n r h)

bytes_read : (x r : List ℕ) → bytes_at (length x) (x ++ r) ≡ Right x r
bytes_read x r =
    let l = length-append x r in
    ap (λ (b : Bool). cond b (Right (take (length x) (x ++ r)) (drop (length x) (x ++ r))) Short) (yes_le (length x) (length (x ++ r)) (omega (arith, l)))
    ∙ ap₂ Right (take_at x r (length x) refl) (drop_at x r (length x) refl)

given_yes : {A : Type 0} (t : Bool) (x : A) (r : List ℕ) → t ≡ true → given t x r ≡ Right x r
given_yes true x r e = refl
given_yes false x r e = absurd cc

fits : (n : ℕ) → 1 ≤ n → n ≤ 512 → is_name_length n ≡ true
fits n a b = and_from (nat_le 1 n) (nat_le n 512) (grind (arith, nat_tests)) (grind (arith, nat_tests))

name_read : (seen : List (List ℕ)) (name r : List ℕ) → is_node_name name ≡ true → is_new name seen ≡ true → name_at seen (sized 2 name ++ r) ≡ Right name r
name_read seen name r g n =
    let some = name_some name g in
    let short = name_short name g in
    let a : checked is_name_length (number_at 2 (sized 2 name ++ r)) ≡ Right (length name) (name ++ r) =
    ap (checked is_name_length) (numbered_two (length name) (name ++ r) (omega (arith, short))) ∙ given_yes (is_name_length (length name)) (length name) (name ++ r) (fits (length name) some short) in
    ap (λ (t : Field ℕ). checked (λ name. is_node_name name && is_new name seen) (t >>= bytes_at)) a
    ∙ ap (checked (λ name. is_node_name name && is_new name seen)) (bytes_read name r)
    ∙ given_yes (is_node_name name && is_new name seen) name r (and_from (is_node_name name) (is_new name seen) g n)

value_read : (value r : List ℕ) → are_chars value ≡ true → length value < 4294967296 → value_at (sized 4 value ++ r) ≡ Right value r
value_read value r c h =
    ap (λ (t : Field ℕ). checked are_chars (t >>= bytes_at)) (numbered_four (length value) (value ++ r) h)
    ∙ ap (checked are_chars) (bytes_read value r)
    ∙ given_yes (are_chars value) value r c

attribute_read : (seen : List (List ℕ)) (a : Attribute) (r : List ℕ) → is_valid_attribute a ≡ true → is_new a.name seen ≡ true → attribute_at seen (attribute_bytes a ++ r) ≡ Right a r
attribute_read seen a r g n =
    let p = and_parts (is_node_name a.name) _ g in
    ap (λ (l : List ℕ). attribute_at seen l) (append_assoc (sized 2 a.name) (sized 4 a.value) r)
    ∙ ap (λ (t : Field (List ℕ)). t >>= λ name rest. value_at rest >>= λ value rest. Right (record { name = name; value = value }) rest) (name_read seen a.name (sized 4 a.value ++ r) p.0 n)
    ∙ ap (λ (t : Field (List ℕ)). t >>= λ value rest. Right (record { name = a.name; value = value }) rest) (value_read a.value r (and_parts (are_chars a.value) _ p.1).0 (value_fits a g))

attributes_read : (seen : List (List ℕ)) (attrs : List Attribute) (r : List ℕ) → list_all is_valid_attribute attrs ≡ true → AllNew seen attrs → attributes_at (length attrs) seen (flat_map attribute_bytes attrs ++ r) ≡ Right attrs r
attributes_read seen [] r g n = refl
attributes_read seen (a ∷ attrs) r g n =
    let p = and_parts (is_valid_attribute a) _ g in
    ap (λ (l : List ℕ). attributes_at (length (a ∷ attrs)) seen l) (append_assoc (attribute_bytes a) (flat_map attribute_bytes attrs) r)
    ∙ ap (λ (t : Field Attribute). t >>= λ a rest. attributes_at (length attrs) (a.name ∷ seen) rest >>= λ others rest. Right (a ∷ others) rest) (attribute_read seen a (flat_map attribute_bytes attrs ++ r) p.0 n.0)
    ∙ ap (λ (t : Field (List Attribute)). t >>= λ others rest. Right (a ∷ others) rest) (attributes_read (a.name ∷ seen) attrs r p.1 n.1)

element_read : (name : List ℕ) (attributes : List Attribute) → has_valid_parts (Element name attributes) ≡ true → AllNew [] attributes → element_at (sized 2 name ++ (big_bytes 4 (length attributes) ++ flat_map attribute_bytes attributes)) ≡ Right (Element name attributes) []
unfolding element_at
element_read name attributes g n =
    ap (λ (t : Field (List ℕ)). t >>= λ name rest. number_at 4 rest >>= λ n rest. attributes_at n [] rest >>= λ attributes rest. Right (Element name attributes) rest) (name_read [] name (big_bytes 4 (length attributes) ++ flat_map attribute_bytes attributes) (valid_name name attributes g) refl)
    ∙ ap (λ (t : Field ℕ). t >>= λ n rest. attributes_at n [] rest >>= λ attributes rest. Right (Element name attributes) rest) (numbered_four (length attributes) (flat_map attribute_bytes attributes) (few_attributes name attributes g))
    ∙ ap (λ (t : Field (List Attribute)). t >>= λ attributes rest. Right (Element name attributes) rest) (ap (attributes_at (length attributes) []) (sym (append-nil (flat_map attribute_bytes attributes))) ∙ attributes_read [] attributes [] (valid_attributes name attributes g) n)

-- a content is read back
pub content_read : (k : Kind) → has_valid_parts k ≡ true → kind_in (content k) ≡ Some k
unfolding standing
content_read (Element name attributes) g = ap (λ (f : Field Kind). kind_told (ended f)) (element_read name attributes g (distinct_new attributes (valid_distinct name attributes g)))
content_read (Words text) g = ap (λ (b : Bool). cond b (Some (Words text)) None) g

-- ---- what is read was written

abbrev pub AreBytes : List ℕ → Type 0
AreBytes bs = (i : ℕ) → get_or bs i 0 < 256

bytes_behind : (n : ℕ) (bs : List ℕ) → AreBytes bs → AreBytes (drop n bs)
bytes_behind n bs a i = subst (λ (x : ℕ). x < 256) (sym (get_or-drop n bs i 0)) (a (n + i))

record Parts {A B : Type 0} (p : Field A) (f : A → List ℕ → Field B) (y : B) (s : List ℕ) : Type 0 where
  x : A
  r : List ℕ
  first : p ≡ Right x r
  second : f x r ≡ Right y s

bind_parts : {A B : Type 0} (p : Field A) (f : A → List ℕ → Field B) (y : B) (s : List ℕ) → (p >>= f) ≡ Right y s → Parts p f y s
bind_parts Short f y s e = absurd cc
bind_parts Wrong f y s e = absurd cc
bind_parts (Right x r) f y s e = record { x = x; r = r; first = refl; second = e }

given_parts : {A : Type 0} (t : Bool) (x y : A) (r s : List ℕ) → given t x r ≡ Right y s → (t ≡ true) × (x ≡ y) × (r ≡ s)
given_parts true x y r s e = (refl, cc, cc)
given_parts false x y r s e = absurd cc

pub checked_parts : {A : Type 0} (test : A → Bool) (p : Field A) (y : A) (s : List ℕ) → checked test p ≡ Right y s → (p ≡ Right y s) × (test y ≡ true)
checked_parts test p y s e =
    let b = bind_parts p (λ x rest. given (test x) x rest) y s e in
    let g = given_parts (test b.x) b.x y b.r s b.second in
    (b.first ∙ ap₂ Right g.1 g.2, sym (ap test g.1) ∙ g.0)

record ReadNumber (width n : ℕ) (bs r : List ℕ) : Type 0 where
  is : bs ≡ big_bytes width n ++ r
  rest : AreBytes r

short_is : {A : Type 0} (t : Bool) (x y : A) (r s : List ℕ) → cond t (Right x r) Short ≡ Right y s → (t ≡ true) × (x ≡ y) × (r ≡ s)
short_is true x y r s e = (refl, cc, cc)
short_is false x y r s e = absurd cc

two_parts : (bs : List ℕ) (n : ℕ) (r : List ℕ) → number_at 2 bs ≡ Right n r → AreBytes bs → ReadNumber 2 n bs r
two_parts [] n r e a = absurd cc
two_parts (x ∷ []) n r e a = absurd cc
two_parts (x ∷ y ∷ bs) n r e a =
    let t = short_is (nat_le 2 (length (x ∷ y ∷ bs))) (big_number 2 (x ∷ y ∷ bs)) n bs r e in
    let v = t.1 in
    let p = a 0 in
    let q = a 1 in
    let u : n / 256 % 256 ≡ x = omega arith in
    let w : n % 256 ≡ y = omega arith in
    record { is = λ i. sym u i ∷ sym w i ∷ t.2 i; rest = subst AreBytes t.2 (bytes_behind 2 (x ∷ y ∷ bs) a) }

four_parts : (bs : List ℕ) (n : ℕ) (r : List ℕ) → number_at 4 bs ≡ Right n r → AreBytes bs → ReadNumber 4 n bs r × (n < 4294967296)
four_parts [] n r e a = absurd cc
four_parts (x ∷ []) n r e a = absurd cc
four_parts (x ∷ y ∷ []) n r e a = absurd cc
four_parts (x ∷ y ∷ z ∷ []) n r e a = absurd cc
four_parts (x ∷ y ∷ z ∷ w ∷ bs) n r e a =
    let t = short_is (nat_le 4 (length (x ∷ y ∷ z ∷ w ∷ bs))) (big_number 4 (x ∷ y ∷ z ∷ w ∷ bs)) n bs r e in
    let v = t.1 in
    let p = a 0 in
    let q = a 1 in
    let m = a 2 in
    let l = a 3 in
    let back : big_bytes 4 n ≡ x ∷ y ∷ z ∷ w ∷ [] = four_bytes x y z w n p q m l (omega arith) in
    (record { is = ap₂ (λ (c d : List ℕ). c ++ d) (sym back) t.2; rest = subst AreBytes t.2 (bytes_behind 4 (x ∷ y ∷ z ∷ w ∷ bs) a) }, omega arith)

bytes_parts : (n : ℕ) (bs x r : List ℕ) → bytes_at n bs ≡ Right x r → (bs ≡ x ++ r) × (length x ≡ n) × (drop n bs ≡ r)
bytes_parts n bs x r e =
    let t = short_is (nat_le n (length bs)) (take n bs) x (drop n bs) r e in
    (sym (take-append-drop n bs) ∙ ap₂ (λ (c d : List ℕ). c ++ d) t.1 t.2, sym (ap length t.1) ∙ length-take-le n bs (no_more n (length bs) t.0), t.2)
  where
    no_more : (a b : ℕ) → nat_le a b ≡ true → a ≤ b
    no_more a b e = grind (arith, nat_tests)

record ReadName (seen : List (List ℕ)) (bs name r : List ℕ) : Type 0 where
  is : bs ≡ sized 2 name ++ r
  good : is_node_name name ≡ true
  new : is_new name seen ≡ true
  rest : AreBytes r

name_parts : (seen : List (List ℕ)) (bs name r : List ℕ) → name_at seen bs ≡ Right name r → AreBytes bs → ReadName seen bs name r
name_parts seen bs name r e a =
    let c = checked_parts (λ name. is_node_name name && is_new name seen) (checked is_name_length (number_at 2 bs) >>= bytes_at) name r e in
    let t = and_parts (is_node_name name) (is_new name seen) c.1 in
    let b = bind_parts (checked is_name_length (number_at 2 bs)) bytes_at name r c.0 in
    let d = checked_parts is_name_length (number_at 2 bs) b.x b.r b.first in
    let n = two_parts bs b.x b.r d.0 a in
    let m = bytes_parts b.x b.r name r b.second in
    record {
      is = n.is ∙ ap₂ (λ (u : ℕ) (v : List ℕ). big_bytes 2 u ++ v) (sym m.1) m.0;
      good = t.0;
      new = t.1;
      rest = subst AreBytes m.2 (bytes_behind b.x b.r n.rest);
    }

record ReadValue (bs value r : List ℕ) : Type 0 where
  is : bs ≡ sized 4 value ++ r
  chars : are_chars value ≡ true
  short : nat_lt (length value) 4294967296 ≡ true
  rest : AreBytes r

less : (a b : ℕ) → a < b → nat_lt a b ≡ true
less a b h = grind (arith, nat_tests)

value_parts : (bs value r : List ℕ) → value_at bs ≡ Right value r → AreBytes bs → ReadValue bs value r
value_parts bs value r e a =
    let c = checked_parts are_chars (number_at 4 bs >>= bytes_at) value r e in
    let b = bind_parts (number_at 4 bs) bytes_at value r c.0 in
    let n = four_parts bs b.x b.r b.first a in
    let m = bytes_parts b.x b.r value r b.second in
    let h = n.1 in
    let k = m.1 in
    record {
      is = n.0.is ∙ ap₂ (λ (u : ℕ) (v : List ℕ). big_bytes 4 u ++ v) (sym m.1) m.0;
      chars = c.1;
      short = less (length value) 4294967296 (omega arith);
      rest = subst AreBytes m.2 (bytes_behind b.x b.r n.0.rest);
    }

record ReadAttribute (seen : List (List ℕ)) (bs : List ℕ) (a : Attribute) (r : List ℕ) : Type 0 where
  is : bs ≡ attribute_bytes a ++ r
  good : is_valid_attribute a ≡ true
  new : is_new a.name seen ≡ true
  rest : AreBytes r

attribute_parts : (seen : List (List ℕ)) (bs : List ℕ) (a : Attribute) (r : List ℕ) → attribute_at seen bs ≡ Right a r → AreBytes bs → ReadAttribute seen bs a r
attribute_parts seen bs a r e k =
    let b = bind_parts (name_at seen bs) (λ name rest. value_at rest >>= λ value rest. Right (record { name = name; value = value }) rest) a r e in
    let n = name_parts seen bs b.x b.r b.first k in
    let c = bind_parts (value_at b.r) (λ value rest. Right (record { name = b.x; value = value }) rest) a r b.second in
    let v = value_parts b.r c.x c.r c.first n.rest in
    let made : Attribute = record { name = b.x; value = c.x } in
    let s = c.second in
    let p : made ≡ a = cc in
    let q : c.r ≡ r = cc in
    subst (λ (z : Attribute). ReadAttribute seen bs z r) p (subst (λ (z : List ℕ). ReadAttribute seen bs made z) q (record {
      is = n.is ∙ ap (λ (l : List ℕ). sized 2 b.x ++ l) v.is ∙ sym (append_assoc (sized 2 b.x) (sized 4 c.x) c.r);
      good = and_from (is_node_name b.x) _ n.good (and_from (are_chars c.x) _ v.chars v.short);
      new = n.new;
      rest = v.rest;
    }))

record ReadAttributes (n : ℕ) (seen : List (List ℕ)) (bs : List ℕ) (attrs : List Attribute) (r : List ℕ) : Type 0 where
  is : bs ≡ flat_map attribute_bytes attrs ++ r
  count : length attrs ≡ n
  good : list_all is_valid_attribute attrs ≡ true
  new : AllNew seen attrs
  rest : AreBytes r

attributes_parts : (n : ℕ) (seen : List (List ℕ)) (bs : List ℕ) (attrs : List Attribute) (r : List ℕ) → attributes_at n seen bs ≡ Right attrs r → AreBytes bs → ReadAttributes n seen bs attrs r
attributes_parts zero seen bs attrs r e k =
    let p : [] ≡ attrs = cc in
    let q : bs ≡ r = cc in
    subst (λ (z : List Attribute). ReadAttributes 0 seen bs z r) p (subst (λ (z : List ℕ). ReadAttributes 0 seen bs [] z) q (record { is = refl; count = refl; good = refl; new = tt; rest = k }))
attributes_parts (suc n) seen bs attrs r e k =
    let b = bind_parts (attribute_at seen bs) (λ a rest. attributes_at n (a.name ∷ seen) rest >>= λ others rest. Right (a ∷ others) rest) attrs r e in
    let h = attribute_parts seen bs b.x b.r b.first k in
    let c = bind_parts (attributes_at n (b.x.name ∷ seen) b.r) (λ others rest. Right (b.x ∷ others) rest) attrs r b.second in
    let i = attributes_parts n (b.x.name ∷ seen) b.r c.x c.r c.first h.rest in
    let s = c.second in
    let p : b.x ∷ c.x ≡ attrs = cc in
    let q : c.r ≡ r = cc in
    subst (λ (z : List Attribute). ReadAttributes (suc n) seen bs z r) p (subst (λ (z : List ℕ). ReadAttributes (suc n) seen bs (b.x ∷ c.x) z) q (record {
      is = h.is ∙ ap (λ (l : List ℕ). attribute_bytes b.x ++ l) i.is ∙ sym (append_assoc (attribute_bytes b.x) (flat_map attribute_bytes c.x) c.r);
      count = ap suc i.count;
      good = and_from (is_valid_attribute b.x) _ h.good i.good;
      new = (h.new, i.new);
      rest = i.rest;
    }))

element_parts : (bs : List ℕ) (k : Kind) (r : List ℕ) → element_at bs ≡ Right k r → AreBytes bs → r ≡ [] → IsContent (69 ∷ bs) k
unfolding element_at
element_parts bs k r e a z =
    let b = bind_parts (name_at [] bs) (λ name rest. number_at 4 rest >>= λ n rest. attributes_at n [] rest >>= λ attributes rest. Right (Element name attributes) rest) k r e in
    let n = name_parts [] bs b.x b.r b.first a in
    let c = bind_parts (number_at 4 b.r) (λ n rest. attributes_at n [] rest >>= λ attributes rest. Right (Element b.x attributes) rest) k r b.second in
    let f = four_parts b.r c.x c.r c.first n.rest in
    let d = bind_parts (attributes_at c.x [] c.r) (λ attributes rest. Right (Element b.x attributes) rest) k r c.second in
    let i = attributes_parts c.x [] c.r d.x d.r d.first f.0.rest in
    let s = d.second in
    let p : Element b.x d.x ≡ k = cc in
    let q : d.r ≡ [] = cc in
    let w = f.1 in
    let v = i.count in
    subst (IsContent (69 ∷ bs)) p (record {
      is = ap (λ (l : List ℕ). 69 ∷ l) (n.is ∙ ap (λ (l : List ℕ). sized 2 b.x ++ l) (f.0.is ∙ ap₂ (λ (u : ℕ) (l : List ℕ). big_bytes 4 u ++ l) (sym i.count) (i.is ∙ ap (λ (l : List ℕ). flat_map attribute_bytes d.x ++ l) q ∙ append-nil (flat_map attribute_bytes d.x))));
      good = and_from (is_node_name b.x) _ n.good (and_from (list_all is_valid_attribute d.x) _ i.good (and_from (are_distinct (names d.x)) _ (new_distinct [] d.x i.new).0 (less (length d.x) 4294967296 (omega arith))));
    })

pub no_words : (bs text : List ℕ) (r : List ℕ) → element_at bs ≡ Right (Words text) r → ⊥
unfolding element_at
no_words bs text r e =
    let k : Kind = Words text in
    let b = bind_parts (name_at [] bs) (λ name rest. number_at 4 rest >>= λ n rest. attributes_at n [] rest >>= λ attributes rest. Right (Element name attributes) rest) k r e in
    let c = bind_parts (number_at 4 b.r) (λ n rest. attributes_at n [] rest >>= λ attributes rest. Right (Element b.x attributes) rest) k r b.second in
    let d = bind_parts (attributes_at c.x [] c.r) (λ attributes rest. Right (Element b.x attributes) rest) k r c.second in
    let s = d.second in
    cc

element_told : (f : Field Kind) (bs : List ℕ) (k : Kind) → element_at bs ≡ f → AreBytes bs → kind_told (ended f) ≡ Some k → IsContent (69 ∷ bs) k
element_told Short bs k q a e = absurd cc
element_told Wrong bs k q a e = absurd cc
element_told (Right (Element name attributes) []) bs k q a e = let p : Element name attributes ≡ k = cc in subst (IsContent (69 ∷ bs)) p (element_parts bs (Element name attributes) [] q a refl)
element_told (Right (Words text) []) bs k q a e = absurd (no_words bs text [] q)
element_told (Right x (b ∷ rest)) bs k q a e = absurd cc

text_told : (bs : List ℕ) (k : Kind) (t : Bool) → is_text bs ≡ t → cond t (Some (Words bs)) None ≡ Some k → IsContent (84 ∷ bs) k
text_told bs k true q e = let p : Words bs ≡ k = cc in subst (IsContent (84 ∷ bs)) p (record { is = refl; good = q })
text_told bs k false q e = absurd cc

same_byte : (b c : ℕ) → (b == c) ≡ true → b ≡ c
same_byte b c e = grind (arith, nat_tests)

-- what is read whole is a content
pub read_content : (bs : List ℕ) (k : Kind) → AreBytes bs → kind_in bs ≡ Some k → IsContent bs k
unfolding standing
read_content [] k a e = absurd cc
read_content (b ∷ bs) k a e = by (b == 84) refl (b == 69) refl e
  where
    by : (t : Bool) → (b == 84) ≡ t → (u : Bool) → (b == 69) ≡ u → kind_told (cond t (Right (Words bs) []) (cond u (ended (element_at bs)) Wrong)) ≡ Some k → IsContent (b ∷ bs) k
    by true p u q e = subst (λ (c : ℕ). IsContent (c ∷ bs) k) (sym (same_byte b 84 p)) (text_told bs k (is_text bs) refl e)
    by false p true q e = subst (λ (c : ℕ). IsContent (c ∷ bs) k) (sym (same_byte b 69 q)) (element_told (element_at bs) bs k refl (bytes_behind 1 (b ∷ bs) a) e)
    by false p false q e = absurd cc

pub kind_of : (bs : List ℕ) (o : Option Kind) → AreBytes bs → o ≡ kind_in bs → IsKindOf bs o
kind_of bs None a e = λ k c. let t : None ≡ Some k = e ∙ ap kind_in c.is ∙ content_read k c.good in absurd cc
kind_of bs (Some k) a e = read_content bs k a (sym e)
