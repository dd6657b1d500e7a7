-- The three laws of the bytes of labels.
use Rattle.std.proofs.Common.{◌≡◌, ℕ, true, IsTrue, List, [], ◌∷◌, ◌++◌, nat_cmp, int_cmp, Ordering, Less, Equal, Greater, refl, sym, ap, ap₂, ◌∙◌, ℤ, pos, negsuc, append_assoc}
use Rattle.std.specs.Cmp.Lexicographic.{slice_cmp}
use Rattle.std.specs.Ordering.{ordering_then}
use Rattle.std.proofs.lemmas.Bool.{ltb-true, and_parts}
use Rattle.std.proofs.lemmas.Cmp.{nat_list_cmp_total, tied_itself}
use Rattle.std.proofs.lemmas.Map.Lookups.{exact_bytes, exact_signed}
use Rattle.mm_label.specs.Bytes.{rank, spell, bytes_of}
use Rattle.mm_label.specs.Facts.Order.{splits}
use Rattle.mm_label.specs.Label.{is_in_range, all_in_range, IsAncestorOrSelf, IsPrefix}
use Rattle.mm_label.proofs.Order.{IsInRange, rank_below, spell_order, spelling_begins}

pub in_range_is : (c : ℤ) → is_in_range c ≡ true → IsInRange c
in_range_is (pos n) h = ltb-true n 4294975552 h
in_range_is (negsuc n) h = ltb-true n 4294975552 h

empty_less : (c : ℤ) → IsInRange c → (xs : List ℕ) → slice_cmp nat_cmp [] (spell c ++ xs) ≡ Less
empty_less c h xs = let s = spelling_begins (rank c) (rank_below c h) in ap (λ zs. slice_cmp nat_cmp [] (zs ++ xs)) s.is

empty_greater : (c : ℤ) → IsInRange c → (xs : List ℕ) → slice_cmp nat_cmp (spell c ++ xs) [] ≡ Greater
empty_greater c h xs = let s = spelling_begins (rank c) (rank_below c h) in ap (λ zs. slice_cmp nat_cmp (zs ++ xs) []) s.is

-- byte order is label order
pub same_order : (a b : List ℤ) → IsTrue (all_in_range a) → IsTrue (all_in_range b) → slice_cmp nat_cmp (bytes_of a) (bytes_of b) ≡ slice_cmp int_cmp a b
same_order [] [] h k = refl
same_order [] (d ∷ b) h k = empty_less d (in_range_is d (and_parts (is_in_range d) (all_in_range b) k).0) (bytes_of b)
same_order (c ∷ a) [] h k = empty_greater c (in_range_is c (and_parts (is_in_range c) (all_in_range a) h).0) (bytes_of a)
same_order (c ∷ a) (d ∷ b) h k =
    let p = and_parts (is_in_range c) (all_in_range a) h in let q = and_parts (is_in_range d) (all_in_range b) k in
    spell_order c d (in_range_is c p.0) (in_range_is d q.0) (bytes_of a) (bytes_of b) ∙ ap (λ o. ordering_then (int_cmp c d) o) (same_order a b p.1 q.1)

then_equal : (a b : Ordering) → ordering_then a b ≡ Equal → (a ≡ Equal) × (b ≡ Equal)
then_equal Less b e = absurd cc
then_equal Equal b e = (refl, e)
then_equal Greater b e = absurd cc

-- a spelling at the front is the only one
pub cancel : (c d : ℤ) → IsInRange c → IsInRange d → (xs ys : List ℕ) → spell c ++ xs ≡ spell d ++ ys → (c ≡ d) × (xs ≡ ys)
cancel c d h k xs ys e =
    let tied : slice_cmp nat_cmp (spell c ++ xs) (spell d ++ ys) ≡ Equal = ap (λ zs. slice_cmp nat_cmp zs (spell d ++ ys)) e ∙ tied_itself nat_list_cmp_total (spell d ++ ys) in
    let t = then_equal (int_cmp c d) (slice_cmp nat_cmp xs ys) (sym (spell_order c d h k xs ys) ∙ tied) in
    (exact_signed c d t.0, exact_bytes xs ys t.1)

nonempty : (c : ℤ) → IsInRange c → (xs : List ℕ) → spell c ++ xs ≡ [] → ⊥
nonempty c h xs e = let s = spelling_begins (rank c) (rank_below c h) in let f : s.head ∷ (s.tail ++ xs) ≡ [] = sym (ap (λ zs. zs ++ xs) s.is) ∙ e in cc

-- where the bytes of a are at the front of those of b, a is at the front of b
pub front_from_bytes : (a b : List ℤ) (zs : List ℕ) → IsTrue (all_in_range a) → IsTrue (all_in_range b) → bytes_of b ≡ bytes_of a ++ zs → (rest : List ℤ) × (b ≡ a ++ rest)
front_from_bytes [] b zs h k e = (b, refl)
front_from_bytes (c ∷ a) [] zs h k e = absurd (nonempty c (in_range_is c (and_parts (is_in_range c) (all_in_range a) h).0) (bytes_of a ++ zs) (sym (append_assoc (spell c) (bytes_of a) zs) ∙ sym e))
front_from_bytes (c ∷ a) (d ∷ b) zs h k e =
    let p = and_parts (is_in_range c) (all_in_range a) h in let q = and_parts (is_in_range d) (all_in_range b) k in
    let t = cancel d c (in_range_is d q.0) (in_range_is c p.0) (bytes_of b) (bytes_of a ++ zs) (e ∙ append_assoc (spell c) (bytes_of a) zs) in
    let r = front_from_bytes a b zs p.1 q.1 t.1 in
    (r.0, ap₂ (λ x zs. x ∷ zs) t.0 r.1)

pub bytes_of-append : (a b : List ℤ) → bytes_of (a ++ b) ≡ bytes_of a ++ bytes_of b
bytes_of-append [] b = refl
bytes_of-append (c ∷ a) b = ap (λ zs. spell c ++ zs) (bytes_of-append a b) ∙ sym (append_assoc (spell c) (bytes_of a) (bytes_of b))

-- the bytes of a are a front of those of b exactly where a is a front of b
pub same_front : (a b : List ℤ) → IsTrue (all_in_range a) → IsTrue (all_in_range b) → (IsPrefix (bytes_of a) (bytes_of b) → IsAncestorOrSelf a b) × (IsAncestorOrSelf a b → IsPrefix (bytes_of a) (bytes_of b))
same_front a b h k = (λ f. (splits a b).1 (front_from_bytes a b f.0 h k f.1), λ f. let r = (splits a b).0 f in (bytes_of r.0, ap bytes_of r.1 ∙ bytes_of-append a r.0))

-- bytes spell at most one list of components
pub spelled_once : (a b : List ℤ) → IsTrue (all_in_range a) → IsTrue (all_in_range b) → bytes_of a ≡ bytes_of b → a ≡ b
spelled_once [] [] h k e = refl
spelled_once [] (d ∷ b) h k e = absurd (nonempty d (in_range_is d (and_parts (is_in_range d) (all_in_range b) k).0) (bytes_of b) (sym e))
spelled_once (c ∷ a) [] h k e = absurd (nonempty c (in_range_is c (and_parts (is_in_range c) (all_in_range a) h).0) (bytes_of a) e)
spelled_once (c ∷ a) (d ∷ b) h k e =
    let p = and_parts (is_in_range c) (all_in_range a) h in let q = and_parts (is_in_range d) (all_in_range b) k in
    let t = cancel c d (in_range_is c p.0) (in_range_is d q.0) (bytes_of a) (bytes_of b) e in
    ap₂ (λ x zs. x ∷ zs) t.0 (spelled_once a b p.1 q.1 t.1)
