-- The parts of what the steps of the reading tell.
use Rattle.std.proofs.Common.{◌≡◌, ℕ, ℤ, zero, suc, ◌<◌, ◌≤◌, Bool, true, false, cond, List, [], ◌∷◌, ◌++◌, length, get_or, refl, subst, Some, None, Result, Ok, Err, arith}
use Rattle.std.specs.Prelude.{◌==◌, nat_le, nat_lt}
use Rattle.std.proofs.lemmas.Bool.{and_from, and_parts}
use Rattle.std.proofs.lemmas.Bool.Decides.{nat_tests}
use Rattle.std.proofs.lemmas.Slice.Eq.{bytes_eq-Decides}
use Rattle.mm_label.specs.Bytes.{bytes_of}
use Rattle.mm_label.specs.Label.{IsLabel, all_in_range, last_odd}
use Rattle.mm_image.specs.Content.{piece_limit}
use Rattle.mm_image.specs.Keys.{chunk_key}
use Rattle.mm_check.specs.Laws.{AreBytes}
use Rattle.mm_check.specs.declared.verdict.Named.{Named}
use Rattle.mm_check.specs.Reading.{Place, ◌&>◌, is_label, is_piece, is_place, ok_if, place_in, place_of}

-- ---- one after the other

pub record Then {A B : Type 0} (r : Result A Named) (f : A → Result B Named) (y : B) : Type 0 where
  pub x : A
  pub first : r ≡ Ok x
  pub second : f x ≡ Ok y

pub then_parts : {A B : Type 0} (r : Result A Named) (f : A → Result B Named) (y : B) → (r &> f) ≡ Ok y → Then r f y
then_parts (Ok x) f y e = record { x = x; first = refl; second = e }
then_parts (Err b) f y e = absurd cc

pub ok_parts : {A : Type 0} (t : Bool) (x y : A) (b : Named) → ok_if t x b ≡ Ok y → (t ≡ true) × (x ≡ y)
ok_parts true x y b e = (refl, cc)
ok_parts false x y b e = absurd cc

pub ok_yes : {A : Type 0} (t : Bool) (x : A) (b : Named) → t ≡ true → ok_if t x b ≡ Ok x
ok_yes true x b e = refl
ok_yes false x b e = absurd cc

-- ---- numbers

pub same_number : (b c : ℕ) → (b == c) ≡ true → b ≡ c
same_number b c e = grind (arith, nat_tests)

pub yes_eq : (b c : ℕ) → b ≡ c → (b == c) ≡ true
yes_eq b c e = grind (arith, nat_tests)

pub no_more : (a b : ℕ) → nat_le a b ≡ true → a ≤ b
no_more a b e = grind (arith, nat_tests)

pub at_most : (a b : ℕ) → a ≤ b → nat_le a b ≡ true
at_most a b h = grind (arith, nat_tests)

pub less_of : (a b : ℕ) → nat_lt a b ≡ true → a < b
less_of a b e = grind (arith, nat_tests)

pub less : (a b : ℕ) → a < b → nat_lt a b ≡ true
less a b h = grind (arith, nat_tests)

-- ---- labels

pub label_of : (l : List ℤ) → is_label l ≡ true → IsLabel l
label_of l e =
    let a = and_parts (last_odd false l) _ e in
    let b = and_parts (all_in_range l) _ a.1 in
    record { in_range = b.0; ends_odd = a.0; short = no_more (length (bytes_of l)) 512 b.1 }

pub is_label_of : (l : List ℤ) → IsLabel l → is_label l ≡ true
is_label_of l g = and_from (last_odd false l) _ g.ends_odd (and_from (all_in_range l) _ g.in_range (at_most (length (bytes_of l)) 512 g.short))

-- ---- places

pub record IsPlaced (key : List ℕ) (p : Place) : Type 0 where
  pub label : is_label p.label ≡ true
  pub number : p.number < 4294967296
  pub is : chunk_key p.label p.number ≡ key

pub placed : (key : List ℕ) (p : Place) → place_of key ≡ Some p → IsPlaced key p
unfolding place_of
placed key p e = by (is_place (place_in key) key) refl e
  where
    parts : (q : Place) → is_place q key ≡ true → IsPlaced key q
    parts q e =
        let a = and_parts (is_label q.label) _ e in
        let b = and_parts (nat_lt q.number 4294967296) _ a.1 in
        record { label = a.0; number = less_of q.number 4294967296 b.0; is = (bytes_eq-Decides (chunk_key q.label q.number) key).0 b.1 }

    by : (t : Bool) → is_place (place_in key) key ≡ t → cond t (Some (place_in key)) None ≡ Some p → IsPlaced key p
    by true q e = let h : place_in key ≡ p = cc in subst (IsPlaced key) h (parts (place_in key) q)
    by false q e = absurd cc

-- ---- bytes

pub bytes_joined : (x y : List ℕ) → AreBytes x → AreBytes y → AreBytes (x ++ y)
bytes_joined [] y a b = b
bytes_joined (c ∷ x) y a b = (a.0, bytes_joined x y a.1 b)

pub byte_at : (x : List ℕ) → AreBytes x → (i : ℕ) → get_or x i 0 < 256
byte_at [] a i = omega arith
byte_at (c ∷ x) a zero = a.0
byte_at (c ∷ x) a (suc i) = byte_at x a.1 i

pub piece_size : (v : List ℕ) → is_piece v ≡ true → (1 ≤ length v) × (length v ≤ 1000)
piece_size v e = let t = and_parts (nat_le 1 (length v)) (nat_le (length v) piece_limit) e in (no_more 1 (length v) t.0, no_more (length v) 1000 t.1)

pub piece_yes : (v : List ℕ) → 1 ≤ length v → length v ≤ 1000 → is_piece v ≡ true
piece_yes v a b = and_from (nat_le 1 (length v)) (nat_le (length v) piece_limit) (at_most 1 (length v) a) (at_most (length v) 1000 b)
