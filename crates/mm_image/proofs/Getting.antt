-- What readers of single fields give together.
use Rattle.std.proofs.Common.{◌≡◌, inl, inr, ◌⊎◌, subst, ℕ, suc, ◌+◌, ◌-◌, ◌<◌, ◌≤◌, Bool, true, false, cond, ◌&&◌, ◌||◌, not, List, [], ◌∷◌, ◌++◌, length, refl, ap, sym, ◌∙◌, Option, Some, BTreeMap, nat_cmp, append-nil, append_assoc, arith}
use Rattle.std.specs.Prelude.{is_some, nat_le, ◌==◌}
use Rattle.std.specs.List.{list_all, list_any}
use Rattle.std.specs.Str.{bytes_eq, IsUtf8, chars, is_utf8}
use Rattle.std.specs.Borrow.{Bor}
use Rattle.std.specs.Cmp.Lexicographic.{slice_cmp}
use Rattle.std.specs.BTreeMap.{get_by, UpdatesBy}
use Rattle.std.proofs.lemmas.Bool.{and_from, and_parts}
use Rattle.std.proofs.lemmas.Bool.Decides.{nat_tests}
use Rattle.std.proofs.lemmas.Map.Text.{btree_map_updates_str}
use Rattle.std.proofs.lemmas.Str.{IsUtf8-from_is_utf8, is_utf8-from_IsUtf8}
use Rattle.std.proofs.lemmas.Slice.Eq.{bytes_eq-Decides}
use Rattle.mm_image.proofs.Contents.{checked_parts, no_words, unlike}
use Rattle.mm_tree.specs.declared.plain.Attribute.{Attribute}
use Rattle.mm_tree.specs.declared.plain.Kind.{Kind}
use Rattle.mm_tree.specs.declared.plain.Kind.TheVariants.{Element, Words}
use Rattle.mm_tree.specs.Characters.{is_char, is_short_name}
use Rattle.mm_tree.specs.Validity.{are_chars, is_node_name}
use Rattle.mm_image.specs.declared.fields.Lack.{Lack}
use Rattle.mm_image.specs.declared.fields.Lack.TheVariants as lack
use Rattle.mm_image.specs.Fields.{Field, Short, Wrong, Right, ◌>>=◌, attributes_at, bytes_at, checked, element_at, ended, given, kind_told, standing, is_name_length, is_new, name_at, number_at, value_at}
use Rattle.mm_image.specs.Inside.Getting.{Lacks, LacksIfRoom}
use Rattle.mm_image.proofs.Lacking.{by_lack, lacks_on, room, room_ended, room_on}

name_length : (n : ℕ) → (n ≡ 0 → ⊥) → n ≤ 512 → is_name_length n ≡ true
name_length n a b = and_from (nat_le 1 n) (nat_le n 512) (grind (arith, nat_tests)) (grind (arith, nat_tests))

no_length : (n : ℕ) → (n ≡ 0) ⊎ (512 < n) → is_name_length n ≡ false
no_length n h = by (nat_le 1 n) refl (nat_le n 512) refl
  where
    by : (a : Bool) → nat_le 1 n ≡ a → (b : Bool) → nat_le n 512 ≡ b → (a && b) ≡ false
    by false e b f = refl
    by true e false f = refl
    by true e true f = absurd (elim h [ inl q ↦ grind (arith, nat_tests) | inr q ↦ grind (arith, nat_tests) ])

and_true : (b : Bool) → (b && true) ≡ b
and_true true = refl
and_true false = refl

abbrev as_name : Field (List ℕ) → Field (List ℕ)
as_name f = checked (λ name. is_node_name name && is_new name []) f

abbrev as_size : Field ℕ → Field (List ℕ)
as_size f = checked is_name_length f >>= bytes_at

pub name_no_size : (l : Lack) (bs : List ℕ) → Lacks l (number_at 2 bs) → Lacks l (name_at [] bs)
name_no_size l bs e = by_lack l (number_at 2 bs) (name_at [] bs) (ap (λ (t : Field ℕ). as_name (as_size t))) (ap (λ (t : Field ℕ). as_name (as_size t))) e

-- a length that is no name's
pub name_no_length : (bs : List ℕ) (n : ℕ) (r : List ℕ) → number_at 2 bs ≡ Right n r → (n ≡ 0) ⊎ (512 < n) → name_at [] bs ≡ Wrong
name_no_length bs n r e h = ap (λ (t : Field ℕ). as_name (as_size t)) e ∙ ap (λ (t : Bool). as_name (given t n r >>= bytes_at)) (no_length n h)

-- a name whose length is right
name_is : (bs : List ℕ) (n : ℕ) (r : List ℕ) → number_at 2 bs ≡ Right n r → (n ≡ 0 → ⊥) → n ≤ 512 → name_at [] bs ≡ as_name (bytes_at n r)
name_is bs n r e a b = ap (λ (t : Field ℕ). as_name (as_size t)) e ∙ ap (λ (t : Bool). as_name (given t n r >>= bytes_at)) (name_length n a b)

pub name_no_bytes : (l : Lack) (bs : List ℕ) (n : ℕ) (r : List ℕ) → number_at 2 bs ≡ Right n r → (n ≡ 0 → ⊥) → n ≤ 512 → Lacks l (bytes_at n r) → Lacks l (name_at [] bs)
name_no_bytes l bs n r e a b f = subst (Lacks l) (sym (name_is bs n r e a b)) (lacks_on l (bytes_at n r) (λ name rest. given (is_node_name name && is_new name []) name rest) f)

pub name_got : (bs : List ℕ) (n : ℕ) (r name s : List ℕ) → number_at 2 bs ≡ Right n r → (n ≡ 0 → ⊥) → n ≤ 512 → bytes_at n r ≡ Right name s → name_at [] bs ≡ given (is_node_name name) name s
name_got bs n r name s e a b f = name_is bs n r e a b ∙ ap as_name f ∙ ap (λ (t : Bool). given t name s) (and_true (is_node_name name))

pub value_no_size : (l : Lack) (bs : List ℕ) → Lacks l (number_at 4 bs) → Lacks l (value_at bs)
value_no_size l bs e = by_lack l (number_at 4 bs) (value_at bs) (ap (λ (t : Field ℕ). checked are_chars (t >>= bytes_at))) (ap (λ (t : Field ℕ). checked are_chars (t >>= bytes_at))) e

value_is : (bs : List ℕ) (n : ℕ) (r : List ℕ) → number_at 4 bs ≡ Right n r → value_at bs ≡ checked are_chars (bytes_at n r)
value_is bs n r e = ap (λ (t : Field ℕ). checked are_chars (t >>= bytes_at)) e

pub value_no_bytes : (l : Lack) (bs : List ℕ) (n : ℕ) (r : List ℕ) → number_at 4 bs ≡ Right n r → Lacks l (bytes_at n r) → Lacks l (value_at bs)
value_no_bytes l bs n r e f = subst (Lacks l) (sym (value_is bs n r e)) (lacks_on l (bytes_at n r) (λ value rest. given (are_chars value) value rest) f)

pub value_got : (bs : List ℕ) (n : ℕ) (r value s : List ℕ) → number_at 4 bs ≡ Right n r → bytes_at n r ≡ Right value s → value_at bs ≡ given (are_chars value) value s
value_got bs n r value s e f = value_is bs n r e ∙ ap (checked are_chars) f

-- ---- attributes one after the other

-- a name once more, among those seen
name_seen : (seen : List (List ℕ)) (bs name r : List ℕ) → name_at [] bs ≡ Right name r → name_at seen bs ≡ given (is_new name seen) name r
name_seen seen bs name r e =
    let c = checked_parts (λ x. is_node_name x && is_new x []) (as_size (number_at 2 bs)) name r e in
    let n = and_parts (is_node_name name) true c.1 in
    ap (checked (λ x. is_node_name x && is_new x seen)) c.0 ∙ ap (λ (b : Bool). given (b && is_new name seen) name r) n.0

-- what a test doesn't let through, a stricter one doesn't either
tested_short : (p q : List ℕ → Bool) (f : Field (List ℕ)) → checked p f ≡ Short → checked q f ≡ Short
tested_short p q Short e = refl
tested_short p q Wrong e = absurd cc
tested_short p q (Right x r) e = absurd (never (p x) e)
  where
    never : (b : Bool) → given b x r ≡ Short → ⊥
    never true e = cc
    never false e = cc

tested_wrong : (p q : List ℕ → Bool) (f : Field (List ℕ)) → ((x : List ℕ) → p x ≡ false → q x ≡ false) → checked p f ≡ Wrong → checked q f ≡ Wrong
tested_wrong p q Short h e = absurd cc
tested_wrong p q Wrong h e = refl
tested_wrong p q (Right x r) h e = by (p x) refl e
  where
    by : (b : Bool) → p x ≡ b → given b x r ≡ Wrong → given (q x) x r ≡ Wrong
    by true w e = absurd cc
    by false w e = ap (λ (b : Bool). given b x r) (h x w)

name_lacks : (l : Lack) (seen : List (List ℕ)) (bs : List ℕ) → Lacks l (name_at [] bs) → Lacks l (name_at seen bs)
name_lacks l seen bs e =
    by_lack l (name_at [] bs) (name_at seen bs) (tested_short (λ x. is_node_name x && is_new x []) (λ x. is_node_name x && is_new x seen) (as_size (number_at 2 bs)))
    (tested_wrong (λ x. is_node_name x && is_new x []) (λ x. is_node_name x && is_new x seen) (as_size (number_at 2 bs)) (λ x h. by (is_node_name x) (is_new x seen) h)) e
  where
    by : (a b : Bool) → (a && true) ≡ false → (a && b) ≡ false
    by true b h = absurd cc
    by false b h = refl

-- with these in front
abbrev pub put_before : List Attribute → Field (List Attribute) → Field (List Attribute)
put_before front field = field >>= λ others rest. Right (front ++ others) rest

abbrev with_value : List ℕ → List ℕ → Field Attribute
with_value name rest = value_at rest >>= λ value rest. Right (record { name = name; value = value }) rest

abbrev then_others : ℕ → List (List ℕ) → Attribute → List ℕ → Field (List Attribute)
then_others n seen a rest = attributes_at n (a.name ∷ seen) rest >>= λ others rest. Right (a ∷ others) rest

-- a new name, and what follows it
attribute_named : (n : ℕ) (seen : List (List ℕ)) (bs name r : List ℕ) → name_at [] bs ≡ Right name r → list_any (bytes_eq name) seen ≡ false → attributes_at (suc n) seen bs ≡ with_value name r >>= then_others n seen
attribute_named n seen bs name r e f =
    ap (λ (t : Field (List ℕ)). (t >>= with_value) >>= then_others n seen) (name_seen seen bs name r e) ∙ ap (λ (b : Bool). (given (not b) name r >>= with_value) >>= then_others n seen) f

attribute_more : (n : ℕ) (seen : List (List ℕ)) (bs name r value s : List ℕ) → name_at [] bs ≡ Right name r → list_any (bytes_eq name) seen ≡ false → value_at r ≡ Right value s
    → attributes_at (suc n) seen bs ≡ put_before (record { name = name; value = value } ∷ []) (attributes_at n (name ∷ seen) s)
attribute_more n seen bs name r value s e f g =
    attribute_named n seen bs name r e f
    ∙ ap (λ (t : Field (List ℕ)). (t >>= λ value rest. Right (record { name = name; value = value }) rest) >>= then_others n seen) g

no_name : (l : Lack) (n : ℕ) (seen : List (List ℕ)) (bs : List ℕ) → Lacks l (name_at [] bs) → Lacks l (attributes_at (suc n) seen bs)
no_name l n seen bs e = lacks_on l (name_at seen bs >>= with_value) (then_others n seen) (lacks_on l (name_at seen bs) with_value (name_lacks l seen bs e))

same_name : (n : ℕ) (seen : List (List ℕ)) (bs name r : List ℕ) → name_at [] bs ≡ Right name r → list_any (bytes_eq name) seen ≡ true → attributes_at (suc n) seen bs ≡ Wrong
same_name n seen bs name r e f =
    ap (λ (t : Field (List ℕ)). (t >>= with_value) >>= then_others n seen) (name_seen seen bs name r e)
    ∙ ap (λ (b : Bool). (given (not b) name r >>= with_value) >>= then_others n seen) f

no_value : (l : Lack) (n : ℕ) (seen : List (List ℕ)) (bs name r : List ℕ) → name_at [] bs ≡ Right name r → list_any (bytes_eq name) seen ≡ false → Lacks l (value_at r) → Lacks l (attributes_at (suc n) seen bs)
no_value l n seen bs name r e f g =
    subst (Lacks l) (sym (attribute_named n seen bs name r e f)) (lacks_on l (with_value name r) (then_others n seen) (lacks_on l (value_at r) (λ value rest. Right (record { name = name; value = value }) rest) g))

put_twice : (xs ys : List Attribute) (f : Field (List Attribute)) → put_before xs (put_before ys f) ≡ put_before (xs ++ ys) f
put_twice xs ys Short = refl
put_twice xs ys Wrong = refl
put_twice xs ys (Right x r) = ap (λ (z : List Attribute). Right z r) (sym (append_assoc xs ys x))

put_none : (f : Field (List Attribute)) → put_before [] f ≡ f
put_none Short = refl
put_none Wrong = refl
put_none (Right x r) = refl

-- ---- the names in a map

abbrev Names : Type 0
Names = BTreeMap (Bor (List ℕ)) (Unit {0})

abbrev pub Holds : Names → List (List ℕ) → Type 0
Holds m names = (q : List ℕ) → is_some (get_by (λ k. slice_cmp nat_cmp q k.now) m) ≡ list_any (bytes_eq q) names

added : (b : Bool) (o : Option (Unit {0})) → is_some (cond b (Some tt) o) ≡ (b || is_some o)
added true o = refl
added false o = refl

flip : (n m : List ℕ) → bytes_eq n m ≡ bytes_eq m n
flip n m = by (bytes_eq n m) refl
  where
    by : (b : Bool) → bytes_eq n m ≡ b → b ≡ bytes_eq m n
    by true e = sym ((bytes_eq-Decides m n).1 (sym ((bytes_eq-Decides n m).0 e)))
    by false e = sym (unlike n m e)

pub holds_more : (n : List ℕ) (names : List (List ℕ)) (m m' : Names) → UpdatesBy (λ x y. slice_cmp nat_cmp x.now y.now) (λ k. slice_cmp nat_cmp n k.now) m m' (Some tt) → Holds m names → Holds m' (n ∷ names)
holds_more n names m m' u h q =
    ap is_some (btree_map_updates_str n m m' (Some tt) u q)
    ∙ added (bytes_eq n q) (get_by (λ k. slice_cmp nat_cmp q k.now) m)
    ∙ (λ j. flip n q j || h q j)

-- ---- while attributes are read

pub record Going (count counter : ℕ) (bytes : List ℕ) (seen : Names) (attributes : List Attribute) (rest : List ℕ) : Type 0 where
  pub names : List (List ℕ)
  pub holds : Holds seen names
  pub within : counter ≤ count
  pub gives : put_before attributes (attributes_at (count - counter) names rest) ≡ attributes_at count [] bytes

none_off : (count : ℕ) → count - 0 ≡ count
none_off count = omega arith

pub going_first : (count : ℕ) (bytes : List ℕ) (seen : Names) → Holds seen [] → Going count 0 bytes seen [] bytes
going_first count bytes seen h = record { names = []; holds = h; within = omega arith; gives = put_none (attributes_at (count - 0) [] bytes) ∙ ap (λ (k : ℕ). attributes_at k [] bytes) (none_off count) }

pub going_ended : (count counter : ℕ) (bytes : List ℕ) (seen : Names) (attributes : List Attribute) (rest : List ℕ) → Going count counter bytes seen attributes rest → count ≤ counter → attributes_at count [] bytes ≡ Right attributes rest
going_ended count counter bytes seen attributes rest g l =
    let w = g.within in
    let z : count - counter ≡ 0 = omega arith in
    sym g.gives ∙ ap (λ (k : ℕ). put_before attributes (attributes_at k g.names rest)) z ∙ ap (λ (xs : List Attribute). Right xs rest) (append-nil attributes)

one_left : (count counter : ℕ) → counter < count → count - counter ≡ suc (count - (counter + 1))
one_left count counter l = omega arith

pub going_more : (count counter : ℕ) (bytes : List ℕ) (seen seen' : Names) (attributes more : List Attribute) (rest name r value s : List ℕ) → Going count counter bytes seen attributes rest → counter < count
    → (was : Option (Unit {0})) → was ≡ get_by (λ k. slice_cmp nat_cmp name k.now) seen → is_some was ≡ false → UpdatesBy (λ x y. slice_cmp nat_cmp x.now y.now) (λ k. slice_cmp nat_cmp name k.now) seen seen' (Some tt)
    → name_at [] rest ≡ Right name r → value_at r ≡ Right value s → more ≡ attributes ++ record { name = name; value = value } ∷ [] → Going count (counter + 1) bytes seen' more s
going_more count counter bytes seen seen' attributes more rest name r value s g l was w f u e v m =
    let new : list_any (bytes_eq name) g.names ≡ false = sym (g.holds name) ∙ sym (ap is_some w) ∙ f in
    let a : List Attribute = record { name = name; value = value } ∷ [] in
    record {
      names = name ∷ g.names;
      holds = holds_more name g.names seen seen' u g.holds;
      within = omega arith;
      gives = ap (λ (xs : List Attribute). put_before xs (attributes_at (count - (counter + 1)) (name ∷ g.names) s)) m
          ∙ sym (put_twice attributes a (attributes_at (count - (counter + 1)) (name ∷ g.names) s))
          ∙ ap (put_before attributes) (sym (attribute_more (count - (counter + 1)) g.names rest name r value s e new v))
          ∙ ap (λ (k : ℕ). put_before attributes (attributes_at k g.names rest)) (sym (one_left count counter l))
          ∙ g.gives;
    }

-- where the next attribute isn't right, the attributes aren't
going_lacks : (l : Lack) (count counter : ℕ) (bytes : List ℕ) (seen : Names) (attributes : List Attribute) (rest : List ℕ) (g : Going count counter bytes seen attributes rest) → counter < count → Lacks l (attributes_at (suc (count - (counter + 1))) g.names rest) → LacksIfRoom l (attributes_at count [] bytes)
going_lacks l count counter bytes seen attributes rest g b e =
    room l (attributes_at count [] bytes)
    (subst (Lacks l) g.gives
    (lacks_on l (attributes_at (count - counter) g.names rest) (λ others rest. Right (attributes ++ others) rest)
    (subst (λ (k : ℕ). Lacks l (attributes_at k g.names rest)) (sym (one_left count counter b)) e)))

pub going_no_name : (l : Lack) (count counter : ℕ) (bytes : List ℕ) (seen : Names) (attributes : List Attribute) (rest : List ℕ) → Going count counter bytes seen attributes rest → counter < count → Lacks l (name_at [] rest) → LacksIfRoom l (attributes_at count [] bytes)
going_no_name l count counter bytes seen attributes rest g b e = going_lacks l count counter bytes seen attributes rest g b (no_name l (count - (counter + 1)) g.names rest e)

pub going_same_name : (count counter : ℕ) (bytes : List ℕ) (seen : Names) (attributes : List Attribute) (rest name r : List ℕ) → Going count counter bytes seen attributes rest → counter < count → (was : Option (Unit {0})) → was ≡ get_by (λ k. slice_cmp nat_cmp name k.now) seen → is_some was ≡ true
    → name_at [] rest ≡ Right name r → attributes_at count [] bytes ≡ Wrong
going_same_name count counter bytes seen attributes rest name r g b was w f e =
    going_lacks lack.Wrong count counter bytes seen attributes rest g b (same_name (count - (counter + 1)) g.names rest name r e (sym (g.holds name) ∙ sym (ap is_some w) ∙ f))

pub going_no_value : (l : Lack) (count counter : ℕ) (bytes : List ℕ) (seen : Names) (attributes : List Attribute) (rest name r : List ℕ) → Going count counter bytes seen attributes rest → counter < count → (was : Option (Unit {0})) → was ≡ get_by (λ k. slice_cmp nat_cmp name k.now) seen → is_some was ≡ false
    → name_at [] rest ≡ Right name r → Lacks l (value_at r) → LacksIfRoom l (attributes_at count [] bytes)
going_no_value l count counter bytes seen attributes rest name r g b was w f e v =
    going_lacks l count counter bytes seen attributes rest g b (no_value l (count - (counter + 1)) g.names rest name r e (sym (g.holds name) ∙ sym (ap is_some w) ∙ f) v)

-- ---- texts

pub chars_yes : (bs : List ℕ) → IsUtf8 bs → list_all is_char (chars bs) ≡ true → are_chars bs ≡ true
chars_yes bs u e = and_from (is_utf8 bs) _ (is_utf8-from_IsUtf8 bs u) e

pub chars_no : (bs : List ℕ) → list_all is_char (chars bs) ≡ false → are_chars bs ≡ false
chars_no bs e = by (is_utf8 bs) (list_all is_char (chars bs)) e
  where
    by : (a b : Bool) → b ≡ false → (a && b) ≡ false
    by true b e = e
    by false b e = refl

pub chars_none : (bs : List ℕ) → (IsUtf8 bs → ⊥) → are_chars bs ≡ false
chars_none bs n = by (is_utf8 bs) refl
  where
    by : (a : Bool) → is_utf8 bs ≡ a → (a && list_all is_char (chars bs)) ≡ false
    by true e = absurd (n (IsUtf8-from_is_utf8 bs e))
    by false e = refl

pub name_yes : (name : List ℕ) → IsUtf8 name → is_short_name (chars name) ≡ true → is_node_name name ≡ true
name_yes name u e = and_from (is_utf8 name) _ (is_utf8-from_IsUtf8 name u) e

-- ---- elements

abbrev with_attributes : List ℕ → ℕ → List ℕ → Field Kind
with_attributes name n rest = attributes_at n [] rest >>= λ attributes rest. Right (Element name attributes) rest

abbrev with_count : List ℕ → List ℕ → Field Kind
with_count name rest = number_at 4 rest >>= with_attributes name

pub element_no_name : (l : Lack) (bs : List ℕ) → Lacks l (name_at [] bs) → LacksIfRoom l (ended (element_at bs))
unfolding element_at
element_no_name l bs e = room_ended l (name_at [] bs >>= with_count) (room l (name_at [] bs >>= with_count) (lacks_on l (name_at [] bs) with_count e))

element_named : (bs name r : List ℕ) → name_at [] bs ≡ Right name r → element_at bs ≡ with_count name r
unfolding element_at
element_named bs name r e = ap (λ (t : Field (List ℕ)). t >>= with_count) e

pub element_no_count : (l : Lack) (bs name r : List ℕ) → name_at [] bs ≡ Right name r → Lacks l (number_at 4 r) → LacksIfRoom l (ended (element_at bs))
element_no_count l bs name r e f =
    subst (λ (t : Field Kind). LacksIfRoom l (ended t)) (sym (element_named bs name r e)) (room_ended l (with_count name r) (room l (with_count name r) (lacks_on l (number_at 4 r) (with_attributes name) f)))

element_is : (bs name r : List ℕ) (n : ℕ) (s : List ℕ) → name_at [] bs ≡ Right name r → number_at 4 r ≡ Right n s → element_at bs ≡ with_attributes name n s
element_is bs name r n s e f = element_named bs name r e ∙ ap (λ (t : Field ℕ). t >>= with_attributes name) f

pub element_no_attributes : (l : Lack) (bs name r : List ℕ) (n : ℕ) (s : List ℕ) → name_at [] bs ≡ Right name r → number_at 4 r ≡ Right n s → LacksIfRoom l (attributes_at n [] s) → LacksIfRoom l (ended (element_at bs))
element_no_attributes l bs name r n s e f g =
    subst (λ (t : Field Kind). LacksIfRoom l (ended t)) (sym (element_is bs name r n s e f))
    (room_ended l (with_attributes name n s) (room_on l (attributes_at n [] s) (λ attributes rest. Right (Element name attributes) rest) g))

element_whole : (bs name r : List ℕ) (n : ℕ) (s : List ℕ) (attributes : List Attribute) (rest : List ℕ) → name_at [] bs ≡ Right name r → number_at 4 r ≡ Right n s → attributes_at n [] s ≡ Right attributes rest
    → ended (element_at bs) ≡ ended (Right (Element name attributes) rest)
element_whole bs name r n s attributes rest e f g =
    ap ended (element_is bs name r n s e f)
    ∙ ap (λ (t : Field (List Attribute)). ended (t >>= λ attributes rest. Right (Element name attributes) rest)) g

pub element_more : (bs name r : List ℕ) (n : ℕ) (s : List ℕ) (attributes : List Attribute) (rest : List ℕ) → name_at [] bs ≡ Right name r → number_at 4 r ≡ Right n s → attributes_at n [] s ≡ Right attributes rest
    → (length rest == 0) ≡ false → ended (element_at bs) ≡ Wrong
element_more bs name r n s attributes [] e f g h = absurd cc
element_more bs name r n s attributes (b ∷ rest) e f g h = element_whole bs name r n s attributes (b ∷ rest) e f g

pub element_ends : (bs name r : List ℕ) (n : ℕ) (s : List ℕ) (attributes : List Attribute) (rest : List ℕ) → name_at [] bs ≡ Right name r → number_at 4 r ≡ Right n s → attributes_at n [] s ≡ Right attributes rest
    → (length rest == 0) ≡ true → ended (element_at bs) ≡ Right (Element name attributes) []
element_ends bs name r n s attributes [] e f g h = element_whole bs name r n s attributes [] e f g
element_ends bs name r n s attributes (b ∷ rest) e f g h = absurd (some_left (length rest) h)
  where
    some_left : (n : ℕ) → (suc n == 0) ≡ true → ⊥
    some_left n e = grind (arith, nat_tests)

-- what is read is an element
pub element_told : (bs : List ℕ) (k : Kind) → ended (element_at bs) ≡ Right k [] → Some k ≡ kind_told (ended (element_at bs))
element_told bs k e = by k e ∙ sym (ap kind_told e)
  where
    before_end : (f : Field Kind) (k : Kind) → ended f ≡ Right k [] → f ≡ Right k []
    before_end Short k e = absurd cc
    before_end Wrong k e = absurd cc
    before_end (Right x []) k e = e
    before_end (Right x (b ∷ r)) k e = absurd cc

    by : (k : Kind) → ended (element_at bs) ≡ Right k [] → Some k ≡ kind_told (Right k [])
    by (Element name attributes) e = refl
    by (Words text) e = absurd (no_words bs text [] (before_end (element_at bs) (Words text) e))

-- ---- contents

pub text_standing : (bs : List ℕ) → standing (84 ∷ bs) ≡ Right (Words bs) []
unfolding standing
text_standing bs = refl

pub element_standing : (bs : List ℕ) → standing (69 ∷ bs) ≡ ended (element_at bs)
unfolding standing
element_standing bs = refl

pub none_standing : standing [] ≡ Short
unfolding standing
none_standing = refl

pub other_standing : (b : ℕ) (bs : List ℕ) → (b ≡ 84 → ⊥) → (b ≡ 69 → ⊥) → standing (b ∷ bs) ≡ Wrong
unfolding standing
other_standing b bs m n =
    ap (λ (t : Bool). cond t (Right (Words bs) []) (cond (b == 69) (ended (element_at bs)) Wrong)) (apart b 84 m)
    ∙ ap (λ (t : Bool). cond t (ended (element_at bs)) Wrong) (apart b 69 n)
  where
    apart : (b c : ℕ) → (b ≡ c → ⊥) → (b == c) ≡ false
    apart b c n = grind (arith, nat_tests)

pub no_bytes : (bs : List ℕ) → length bs ≡ 0 → bs ≡ []
no_bytes [] e = refl
no_bytes (b ∷ bs) e = absurd (omega arith)
