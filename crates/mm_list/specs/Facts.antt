-- What follows from std's definitions on lists, for the proofs of the crates above.
use Rattle.std.proofs.Common.{◌≡◌, ℕ, ◌+◌, ◌<◌, List, ◌∷◌, length, get_or, drop, drop-cons, add-one, map, refl, ap, sym, ◌∙◌}
use Rattle.std.specs.Prelude.{flat_map, [], ◌++◌}

-- from place i on a list is its item there and what stands behind
pub drop_at : {A : Type 0} (xs : List A) (i : ℕ) (x : A) → i < length xs → x ≡ get_or xs i x → drop i xs ≡ x ∷ drop (i + 1) xs
drop_at xs i x h e = drop-cons xs i x h ∙ (λ j. sym e j ∷ drop (sym (add-one i) j) xs)

-- ---- one map after the other

pub flat_map_mapped : {A B C : Type 0} (f : B → List C) (g : A → B) (xs : List A) → flat_map f (map g xs) ≡ flat_map (λ x. f (g x)) xs
flat_map_mapped f g [] = refl
flat_map_mapped f g (x ∷ xs) = ap (λ z. f (g x) ++ z) (flat_map_mapped f g xs)

pub map_mapped : {A B C : Type 0} (f : B → C) (g : A → B) (xs : List A) → map f (map g xs) ≡ map (λ x. f (g x)) xs
map_mapped f g [] = refl
map_mapped f g (x ∷ xs) = ap (λ z. f (g x) ∷ z) (map_mapped f g xs)
