-- Lists of flags, one for each word of a query.
use Rattle.std.proofs.Common.{◌≡◌, ℕ, zero, suc, ◌<◌, Bool, true, false, ◌||◌, List, [], ◌∷◌, length, get_or, take, map, replicate, ap, ap₂, refl, ◌∙◌, arith, slice_set}
use Rattle.std.proofs.Math.Bool.{or-true}
use Rattle.mm_tree.specs.Inside.Searching.{either}

pub length-either : (flags others : List Bool) → length (either flags others) ≡ length flags
length-either [] others = refl
length-either (f ∷ flags) [] = refl
length-either (f ∷ flags) (o ∷ others) = ap suc (length-either flags others)

pub either-none : (flags : List Bool) → either flags [] ≡ flags
either-none [] = refl
either-none (f ∷ flags) = refl

pub or_false : (b : Bool) → (b || false) ≡ b
or_false true = refl
or_false false = refl

-- the next of the others isn't set, or is
pub either_same : (flags others : List Bool) (i : ℕ) → i < length others → get_or others i false ≡ false → either flags (take (suc i) others) ≡ either flags (take i others)
either_same [] others i h e = refl
either_same (f ∷ flags) [] i h e = absurd (omega (arith, h))
either_same (f ∷ flags) (o ∷ others) zero h e = ap₂ (λ b bs. b ∷ bs) (ap (λ b. f || b) e ∙ or_false f) (either-none flags)
either_same (f ∷ flags) (o ∷ others) (suc i) h e = ap (λ bs. (f || o) ∷ bs) (either_same flags others i (omega (arith, h)) e)

pub either_set : (flags others : List Bool) (i : ℕ) → i < length others → get_or others i false ≡ true → either flags (take (suc i) others) ≡ slice_set (either flags (take i others)) i true
either_set [] others i h e = refl
either_set (f ∷ flags) [] i h e = absurd (omega (arith, h))
either_set (f ∷ flags) (o ∷ others) zero h e = ap₂ (λ b bs. b ∷ bs) (ap (λ b. f || b) e ∙ or-true f) (either-none flags)
either_set (f ∷ flags) (o ∷ others) (suc i) h e = ap (λ bs. (f || o) ∷ bs) (either_set flags others i (omega (arith, h)) e)

-- flags of two tests
pub either_tests : {A : Type 0} (p q : A → Bool) (xs : List A) → either (map p xs) (map q xs) ≡ map (λ x. p x || q x) xs
either_tests p q [] = refl
either_tests p q (x ∷ xs) = ap (λ bs. (p x || q x) ∷ bs) (either_tests p q xs)

pub or_assoc : (a b c : Bool) → ((a || b) || c) ≡ (a || (b || c))
or_assoc true b c = refl
or_assoc false b c = refl

pub either_twice : {A : Type 0} (p q : A → Bool) (flags : List Bool) (xs : List A) → either (either flags (map p xs)) (map q xs) ≡ either flags (map (λ x. p x || q x) xs)
either_twice p q [] xs = refl
either_twice p q (f ∷ flags) [] = refl
either_twice p q (f ∷ flags) (x ∷ xs) = ap₂ (λ b bs. b ∷ bs) (or_assoc f (p x) (q x)) (either_twice p q flags xs)

pub either_never : {A : Type 0} (flags : List Bool) (xs : List A) → either flags (map (λ x. false) xs) ≡ flags
either_never [] xs = refl
either_never (f ∷ flags) [] = refl
either_never (f ∷ flags) (x ∷ xs) = ap₂ (λ b bs. b ∷ bs) (or_false f) (either_never flags xs)

pub never_either : {A : Type 0} (q : A → Bool) (xs : List A) → either (map (λ x. false) xs) (map q xs) ≡ map q xs
never_either q [] = refl
never_either q (x ∷ xs) = ap (λ bs. q x ∷ bs) (never_either q xs)

each_unset : {A : Type 0} (xs : List A) → replicate (length xs) false ≡ map (λ x. false) xs
each_unset [] = refl
each_unset (x ∷ xs) = ap (λ bs. false ∷ bs) (each_unset xs)

pub no_flag_set : {A : Type 0} (xs : List A) (n : ℕ) → n ≡ length xs → replicate n false ≡ map (λ x. false) xs
no_flag_set xs n e = ap (λ m. replicate m false) e ∙ each_unset xs
