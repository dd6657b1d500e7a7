-- A content that is wrong stays so with all bytes behind it.
use Rattle.std.proofs.Common.{◌≡◌, ℕ, zero, suc, ◌≤◌, Bool, true, false, cond, ◌&&◌, List, [], ◌∷◌, ◌++◌, length, take, drop, refl, ap, ap₂, sym, subst, ◌∙◌, arith}
use Rattle.std.specs.Prelude.{◌==◌, nat_le}
use Rattle.std.proofs.lemmas.List.{length-append}
use Rattle.byteorder.specs.Endian.{big_number}
use Rattle.mm_tree.specs.declared.plain.Kind.{Kind}
use Rattle.mm_tree.specs.declared.plain.Kind.TheVariants.{Element, Words}
use Rattle.mm_tree.specs.Validity.{are_chars, is_node_name}
use Rattle.mm_image.specs.Fields.{Field, Short, Wrong, Right, ◌>>=◌, given, checked, is_name_length, is_new, number_at, bytes_at, name_at, value_at, attribute_at, attributes_at, element_at, ended, standing}
use Rattle.mm_check.proofs.Parts.{at_most, no_more}

-- with more bytes, what was wrong is wrong, and what was right is right with more behind it
abbrev Lasts : {A : Type 0} → List ℕ → Field A → Field A → Type 0
Lasts more Short q = Unit {0}
Lasts more Wrong q = q ≡ Wrong
Lasts more (Right x r) q = q ≡ Right x (r ++ more)

bind_lasts : {A B : Type 0} (more : List ℕ) (p q : Field A) (f : A → List ℕ → Field B) → Lasts more p q → ((x : A) (r : List ℕ) → Lasts more (f x r) (f x (r ++ more))) → Lasts more (p >>= f) (q >>= f)
bind_lasts more Short q f l g = tt
bind_lasts more Wrong q f l g = ap (λ z. z >>= f) l
bind_lasts more (Right x r) q f l g = subst (λ z. Lasts more (f x r) (z >>= f)) (sym l) (g x r)

given_lasts : {A : Type 0} (more : List ℕ) (t : Bool) (x : A) (r : List ℕ) → Lasts more (given t x r) (given t x (r ++ more))
given_lasts more true x r = refl
given_lasts more false x r = refl

checked_lasts : {A : Type 0} (more : List ℕ) (test : A → Bool) (p q : Field A) → Lasts more p q → Lasts more (checked test p) (checked test q)
checked_lasts more test p q l = bind_lasts more p q (λ x rest. given (test x) x rest) l (λ x r. given_lasts more (test x) x r)

if_lasts : {A : Type 0} (more : List ℕ) (t u : Bool) (x y : A) (r s : List ℕ) → (t ≡ true → (u ≡ true) × (y ≡ x) × (s ≡ r ++ more)) → Lasts more (cond t (Right x r) Short) (cond u (Right y s) Short)
if_lasts more true u x y r s h = let k = h refl in ap (λ (b : Bool). cond b (Right y s) Short) k.0 ∙ ap₂ Right k.1 k.2
if_lasts more false u x y r s h = tt

-- ---- the readers one by one

pub drop_front : (n : ℕ) (bs more : List ℕ) → n ≤ length bs → drop n (bs ++ more) ≡ drop n bs ++ more
drop_front zero bs more h = refl
drop_front (suc n) [] more h = absurd (omega arith)
drop_front (suc n) (b ∷ bs) more h = drop_front n bs more (omega arith)

pub take_front : (n : ℕ) (bs more : List ℕ) → n ≤ length bs → take n (bs ++ more) ≡ take n bs
take_front zero bs more h = refl
take_front (suc n) [] more h = absurd (omega arith)
take_front (suc n) (b ∷ bs) more h = ap (λ (z : List ℕ). b ∷ z) (take_front n bs more (omega arith))

still : (n : ℕ) (bs more : List ℕ) → n ≤ length bs → nat_le n (length (bs ++ more)) ≡ true
still n bs more h = let l = length-append bs more in at_most n (length (bs ++ more)) (omega (arith, l, h))

same_two : (bs more : List ℕ) → 2 ≤ length bs → big_number 2 (bs ++ more) ≡ big_number 2 bs
same_two [] more h = absurd (omega arith)
same_two (a ∷ []) more h = absurd (omega arith)
same_two (a ∷ b ∷ bs) more h = refl

same_four : (bs more : List ℕ) → 4 ≤ length bs → big_number 4 (bs ++ more) ≡ big_number 4 bs
same_four [] more h = absurd (omega arith)
same_four (a ∷ []) more h = absurd (omega arith)
same_four (a ∷ b ∷ []) more h = absurd (omega arith)
same_four (a ∷ b ∷ c ∷ []) more h = absurd (omega arith)
same_four (a ∷ b ∷ c ∷ d ∷ bs) more h = refl

two_lasts : (more bs : List ℕ) → Lasts more (number_at 2 bs) (number_at 2 (bs ++ more))
two_lasts more bs = if_lasts more (nat_le 2 (length bs)) (nat_le 2 (length (bs ++ more))) (big_number 2 bs) (big_number 2 (bs ++ more)) (drop 2 bs) (drop 2 (bs ++ more))
    (λ e. let l = no_more 2 (length bs) e in (still 2 bs more l, same_two bs more l, drop_front 2 bs more l))

four_lasts : (more bs : List ℕ) → Lasts more (number_at 4 bs) (number_at 4 (bs ++ more))
four_lasts more bs = if_lasts more (nat_le 4 (length bs)) (nat_le 4 (length (bs ++ more))) (big_number 4 bs) (big_number 4 (bs ++ more)) (drop 4 bs) (drop 4 (bs ++ more))
    (λ e. let l = no_more 4 (length bs) e in (still 4 bs more l, same_four bs more l, drop_front 4 bs more l))

bytes_last : (more : List ℕ) (n : ℕ) (bs : List ℕ) → Lasts more (bytes_at n bs) (bytes_at n (bs ++ more))
bytes_last more n bs = if_lasts more (nat_le n (length bs)) (nat_le n (length (bs ++ more))) (take n bs) (take n (bs ++ more)) (drop n bs) (drop n (bs ++ more))
    (λ e. let l = no_more n (length bs) e in (still n bs more l, take_front n bs more l, drop_front n bs more l))

name_lasts : (more : List ℕ) (seen : List (List ℕ)) (bs : List ℕ) → Lasts more (name_at seen bs) (name_at seen (bs ++ more))
name_lasts more seen bs =
    checked_lasts more (λ name. is_node_name name && is_new name seen) (checked is_name_length (number_at 2 bs) >>= bytes_at) (checked is_name_length (number_at 2 (bs ++ more)) >>= bytes_at)
    (bind_lasts more (checked is_name_length (number_at 2 bs)) (checked is_name_length (number_at 2 (bs ++ more))) bytes_at (checked_lasts more is_name_length (number_at 2 bs) (number_at 2 (bs ++ more)) (two_lasts more bs)) (λ n r. bytes_last more n r))

value_lasts : (more bs : List ℕ) → Lasts more (value_at bs) (value_at (bs ++ more))
value_lasts more bs =
    checked_lasts more are_chars (number_at 4 bs >>= bytes_at) (number_at 4 (bs ++ more) >>= bytes_at) (bind_lasts more (number_at 4 bs) (number_at 4 (bs ++ more)) bytes_at (four_lasts more bs) (λ n r. bytes_last more n r))

attribute_lasts : (more : List ℕ) (seen : List (List ℕ)) (bs : List ℕ) → Lasts more (attribute_at seen bs) (attribute_at seen (bs ++ more))
attribute_lasts more seen bs =
    bind_lasts more (name_at seen bs) (name_at seen (bs ++ more)) (λ name rest. value_at rest >>= λ value rest. Right (record { name = name; value = value }) rest) (name_lasts more seen bs)
    (λ name r. bind_lasts more (value_at r) (value_at (r ++ more)) (λ value rest. Right (record { name = name; value = value }) rest) (value_lasts more r) (λ value s. refl))

attributes_last : (more : List ℕ) (n : ℕ) (seen : List (List ℕ)) (bs : List ℕ) → Lasts more (attributes_at n seen bs) (attributes_at n seen (bs ++ more))
attributes_last more zero seen bs = refl
attributes_last more (suc n) seen bs =
    bind_lasts more (attribute_at seen bs) (attribute_at seen (bs ++ more)) (λ a rest. attributes_at n (a.name ∷ seen) rest >>= λ others rest. Right (a ∷ others) rest) (attribute_lasts more seen bs)
    (λ a r. bind_lasts more (attributes_at n (a.name ∷ seen) r) (attributes_at n (a.name ∷ seen) (r ++ more)) (λ others rest. Right (a ∷ others) rest) (attributes_last more n (a.name ∷ seen) r) (λ others s. refl))

element_lasts : (more bs : List ℕ) → Lasts more (element_at bs) (element_at (bs ++ more))
unfolding element_at
element_lasts more bs =
    bind_lasts more (name_at [] bs) (name_at [] (bs ++ more)) (λ name rest. number_at 4 rest >>= λ n rest. attributes_at n [] rest >>= λ attributes rest. Right (Element name attributes) rest) (name_lasts more [] bs)
    (λ name r. bind_lasts more (number_at 4 r) (number_at 4 (r ++ more)) (λ n rest. attributes_at n [] rest >>= λ attributes rest. Right (Element name attributes) rest) (four_lasts more r)
    (λ n s. bind_lasts more (attributes_at n [] s) (attributes_at n [] (s ++ more)) (λ attributes rest. Right (Element name attributes) rest) (attributes_last more n [] s) (λ attributes u. refl)))

-- ---- the whole

ended_lasts : (more : List ℕ) (p q : Field Kind) → Lasts more p q → ended p ≡ Wrong → ended q ≡ Wrong
ended_lasts more Short q l e = absurd cc
ended_lasts more Wrong q l e = ap ended l
ended_lasts more (Right x []) q l e = absurd cc
ended_lasts more (Right x (b ∷ r)) q l e = ap ended l

pub wrong_stays : (bs more : List ℕ) → standing bs ≡ Wrong → standing (bs ++ more) ≡ Wrong
unfolding standing
wrong_stays [] more e = absurd cc
wrong_stays (b ∷ bs) more e = by (b == 84) (b == 69) e
  where
    by : (t u : Bool) → cond t (Right (Words bs) []) (cond u (ended (element_at bs)) Wrong) ≡ Wrong → cond t (Right (Words (bs ++ more)) []) (cond u (ended (element_at (bs ++ more))) Wrong) ≡ Wrong
    by true u e = absurd cc
    by false true e = ended_lasts more (element_at bs) (element_at (bs ++ more)) (element_lasts more bs) e
    by false false e = refl
