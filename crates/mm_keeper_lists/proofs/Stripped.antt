-- A key with a word behind 02 and 00 behind the word.
use Rattle.std.proofs.Common.{◌≡◌, ℕ, Bool, true, false, nat_eq, List, [], ◌∷◌, ◌++◌, refl, ap, sym, subst, ◌∙◌, length, take, drop, ◌&&◌, arith}
use Rattle.std.specs.Cmp.Lexicographic.{pointwise}
use Rattle.std.proofs.lemmas.Bool.{and_parts}

itself : (x : ℕ) → nat_eq x x ≡ true
itself x = grind arith

same : (x y : ℕ) → nat_eq x y ≡ true → x ≡ y
same x y e = grind arith

strips : (w b r : List ℕ) → b ≡ w ++ r → pointwise nat_eq (take (length w) b) w ≡ true
strips [] b r e = refl
strips (x ∷ w) [] r e = absurd cc
strips (x ∷ w) (y ∷ b) r e =
    let p : y ≡ x = cc in
    let q : b ≡ w ++ r = cc in
    subst (λ (z : ℕ). pointwise nat_eq (take (length (x ∷ w)) (z ∷ b)) (x ∷ w) ≡ true) (sym p) (both (itself x) (strips w b r q))
  where
    both : {a c : Bool} → a ≡ true → c ≡ true → a && c ≡ true
    both e f = cc

stripped : (w b : List ℕ) → pointwise nat_eq (take (length w) b) w ≡ true → b ≡ w ++ drop (length w) b
stripped [] b e = refl
stripped (x ∷ w) [] e = absurd cc
stripped (x ∷ w) (y ∷ b) e =
    let t = and_parts (nat_eq y x) _ e in
    let p = same y x t.0 in
    let q = stripped w b t.1 in cc

pub strip_no : (key b w : List ℕ) (x : ℕ) → key ≡ x ∷ b → pointwise nat_eq (take (length w) b) w ≡ false → (r : List ℕ) → key ≡ 2 ∷ w ++ (0 ∷ r) → ⊥
strip_no key b w x h e r k = let q : b ≡ w ++ (0 ∷ r) = cc in let t = strips w b (0 ∷ r) q in absurd cc

pub strip_yes : (key b w rest bytes : List ℕ) (x z : ℕ) → key ≡ x ∷ b → x ≡ 2 → pointwise nat_eq (take (length w) b) w ≡ true → rest ≡ drop (length w) b → rest ≡ z ∷ bytes → z ≡ 0 → key ≡ 2 ∷ w ++ (0 ∷ bytes)
strip_yes key b w rest bytes x z h e p q r s =
    let t = stripped w b p in
    let u : drop (length w) b ≡ 0 ∷ bytes = cc in
    let v : b ≡ w ++ (0 ∷ bytes) = t ∙ ap (λ (y : List ℕ). w ++ y) u in cc
