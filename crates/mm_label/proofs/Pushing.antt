-- What is pushed component by component.
use Rattle.std.proofs.Common.{◌≡◌, ◌≢◌, ℕ, ◌-◌, ◌≤◌, List, [], ◌∷◌, ◌++◌, length, get_or, take, drop, ℤ, pos, Bool, true, false, cond, int_eq, refl, sym, ap, ap₂, ◌∙◌, append_assoc, Option, IsTrue, subst, ◌<◌, ◌+◌, drop-cons, add-one}
use Rattle.std.proofs.lemmas.Slice.{first_rest}
use Rattle.std.proofs.lemmas.Bool.Decides.{Decides-int_eq}
use Rattle.std.proofs.lemmas.Bool.{and_parts}
use Rattle.mm_label.specs.Bytes.{rank, spelling, spell, bytes_of}
use Rattle.mm_label.specs.Label.{is_in_range, all_in_range}
use Rattle.mm_label.specs.Between.{apart, inside, one_or_two}

pub cut_first : (cs : List ℤ) → 1 ≤ length cs → cs ≡ get_or cs 0 (pos 0) ∷ take (length cs - 1) (drop 1 cs)
cut_first cs h = first_rest cs (pos 0) h

-- what is left to be spelled after one component more
pub pushed_next : (cs : List ℤ) (i : ℕ) (out new start : List ℕ) (n : ℕ) → i < length cs → n ≡ rank (get_or cs i (pos 0)) → new ≡ out ++ spelling n
    → IsTrue (all_in_range (drop i cs)) × (out ++ bytes_of (drop i cs) ≡ start) → IsTrue (all_in_range (drop (i + 1) cs)) × (new ++ bytes_of (drop (i + 1) cs) ≡ start)
pushed_next cs i out new start n h f g s =
    let x = get_or cs i (pos 0) in let rest = drop (i + 1) cs in
    let e : drop i cs ≡ x ∷ rest = drop-cons cs i (pos 0) h ∙ ap (λ k. x ∷ drop k cs) (sym (add-one i)) in (
      (and_parts (is_in_range x) (all_in_range rest) (subst (λ zs. IsTrue (all_in_range zs)) e s.0)).1,
      ap (λ zs. zs ++ bytes_of rest) (g ∙ ap (λ k. out ++ spelling k) f) ∙ append_assoc out (spell x) (bytes_of rest) ∙ ap (λ zs. out ++ bytes_of zs) (sym e) ∙ s.1,
    )

apart_is : (a b : ℤ) (l r : List ℤ) → a ≢ b → inside (a ∷ l) (b ∷ r) ≡ apart a l b r
apart_is a b l r ne = by_test (int_eq a b) refl
  where
    by_test : (t : Bool) → int_eq a b ≡ t → cond t (a ∷ inside l r) (apart a l b r) ≡ apart a l b r
    by_test true e = absurd (ne ((Decides-int_eq a b).0 e))
    by_test false e = refl

-- ---- what is taken between two neighbours, number by number

-- the two differ here
pub parted : (left right l m old new total : List ℤ) (x : ℤ × Option ℤ) (a b : ℤ) → left ≡ a ∷ l → right ≡ b ∷ m → a ≢ b → one_or_two x ≡ apart a l b m → new ≡ old ++ one_or_two x
    → old ++ inside left right ≡ total → new ≡ total
parted left right l m old new total x a b e f ne g h s = h ∙ ap (λ zs. old ++ zs) (g ∙ sym (apart_is a b l m ne) ∙ sym (ap₂ inside e f)) ∙ s

together : (a b : ℤ) (l m : List ℤ) → a ≡ b → inside (a ∷ l) (b ∷ m) ≡ a ∷ inside l m
together a b l m e = ap (λ t. cond t (a ∷ inside l m) (apart a l b m)) ((Decides-int_eq a b).1 e)

rest_in_range : (cs l : List ℤ) (a : ℤ) → cs ≡ a ∷ l → IsTrue (all_in_range cs) → IsTrue (all_in_range l)
rest_in_range cs l a e h = (and_parts (is_in_range a) (all_in_range l) (subst (λ zs. IsTrue (all_in_range zs)) e h)).1

-- they go on with one number
pub shared_on : (left right l m old new total : List ℤ) (a b : ℤ) → left ≡ a ∷ l → right ≡ b ∷ m → a ≡ b → new ≡ old ++ a ∷ []
    → IsTrue (all_in_range left) × IsTrue (all_in_range right) × (old ++ inside left right ≡ total) → IsTrue (all_in_range l) × IsTrue (all_in_range m) × (new ++ inside l m ≡ total)
shared_on left right l m old new total a b e f same h s = (
  rest_in_range left l a e s.0,
  rest_in_range right m b f s.1,
  ap (λ zs. zs ++ inside l m) h ∙ append_assoc old (a ∷ []) (inside l m) ∙ ap (λ zs. old ++ zs) (sym (together a b l m same) ∙ sym (ap₂ inside e f)) ∙ s.2,
)
