-- The longest common front of two labels, and their bytes.
use Rattle.std.proofs.Common.{◌⊎◌, inl, inr, ◌≡◌, ◌≢◌, ℕ, ◌-◌, ◌<◌, ◌≤◌, Bool, true, false, cond, IsTrue, ◌↔◌, List, [], ◌∷◌, ◌++◌, length, take, int_eq, refl, sym, ap, ap₂, subst, ◌∙◌, arith, ℤ, get_or, append_assoc, append-nil, Some, None, length-append, take_at}
use Rattle.std.proofs.lemmas.Bool.Decides.{Decides-int_eq}
use Rattle.std.proofs.lemmas.Bool.{and_parts}
use Rattle.mm_label.specs.Bytes.{spell, bytes_of}
use Rattle.mm_label.specs.Label.{IsLabel, IsAncestorOrSelf, all_in_range, is_in_range, is_odd, last_odd, common_front, onto_whole, whole, lca}
use Rattle.mm_label.specs.Facts.Fronts.{front_trans, front_lca, lca_left, lca_right}
use Rattle.mm_label.specs.Facts.Order.{splits}
use Rattle.mm_label.specs.Facts.Parents.{label_whole}
use Rattle.mm_label.specs.Components.{component_at, components, Found}
use Rattle.mm_label.specs.Inside.Reading.{IsSpelled}
use Rattle.mm_label.proofs.ByteLaws.{in_range_is, bytes_of-append}
use Rattle.mm_label.proofs.Readback.{spells_some, components_more, components_none}
use Rattle.mm_label.proofs.HeldFacts.{step_parts, front_all, IsMade, made_is}

-- ---- common fronts

common_front-append : (f u v : List ℤ) → common_front (f ++ u) (f ++ v) ≡ f ++ common_front u v
common_front-append [] u v = refl
common_front-append (c ∷ f) u v = by_test (int_eq c c) ((Decides-int_eq c c).1 refl) (common_front-append f u v)
  where
    by_test : (t : Bool) → t ≡ true → common_front (f ++ u) (f ++ v) ≡ f ++ common_front u v → cond t (c ∷ common_front (f ++ u) (f ++ v)) [] ≡ c ∷ (f ++ common_front u v)
    by_test true e ih = ap (λ zs. c ∷ zs) ih
    by_test false e ih = absurd cc

-- ---- whole segments

whole-push : (cs : List ℤ) (c : ℤ) → whole (cs ++ c ∷ []) ≡ cond (is_odd c) (cs ++ c ∷ []) (whole cs)
whole-push [] c = refl
whole-push (d ∷ cs) c = ap (λ zs. onto_whole d zs) (whole-push cs c) ∙ by_test cs (is_odd c)
  where
    by_test : (cs : List ℤ) (t : Bool) → onto_whole d (cond t (cs ++ c ∷ []) (whole cs)) ≡ cond t (d ∷ (cs ++ c ∷ [])) (onto_whole d (whole cs))
    by_test cs false = refl
    by_test [] true = refl
    by_test (e ∷ es) true = refl

onto_odd : (b : Bool) (c : ℤ) (v : List ℤ) → (v ≡ []) ⊎ (last_odd (is_odd c) v ≡ true) → (onto_whole c v ≡ []) ⊎ (last_odd b (onto_whole c v) ≡ true)
onto_odd b c [] h = by_test (is_odd c) refl
  where
    by_test : (t : Bool) → is_odd c ≡ t → (cond t (c ∷ []) [] ≡ []) ⊎ (last_odd b (cond t (c ∷ []) []) ≡ true)
    by_test true e = inr e
    by_test false e = inl refl
onto_odd b c (d ∷ v) h = elim h [ inl e ↦ absurd cc | inr o ↦ inr o ]

whole_odd : (b : Bool) (cs : List ℤ) → (whole cs ≡ []) ⊎ (last_odd b (whole cs) ≡ true)
whole_odd b [] = inl refl
whole_odd b (c ∷ cs) = onto_odd b c (whole cs) (whole_odd (is_odd c) cs)

-- ---- the lowest common ancestor

-- a label is at or above and_parts exactly where it is at or above their lowest common ancestor
pub common_ancestors : (a b z : List ℤ) → IsLabel z → (IsAncestorOrSelf z a × IsAncestorOrSelf z b) ↔ IsAncestorOrSelf z (lca a b)
common_ancestors a b z h = (
  λ f. front_lca z a b (label_whole z h) f.0 f.1,
  λ f. (front_trans z (lca a b) a f (lca_left a b), front_trans z (lca a b) b f (lca_right a b)),
)

-- ---- bytes

no_bytes : (cs : List ℤ) → IsTrue (all_in_range cs) → length (bytes_of cs) ≡ 0 → cs ≡ []
no_bytes [] h e = refl
no_bytes (c ∷ cs) h e = absurd (omega (arith, e, spells_some c (in_range_is c (and_parts (is_in_range c) (all_in_range cs) h).0), length-append (spell c) (bytes_of cs)))

lca_in_range : (a b : List ℤ) → IsTrue (all_in_range a) → IsTrue (all_in_range (lca a b))
lca_in_range a b h = let f = (splits (lca a b) a).0 (lca_left a b) in front_all (lca a b) f.0 (subst (λ zs. IsTrue (all_in_range zs)) f.1 h)

pub lca_length : (x y s t : List ℕ) (n : ℕ) (a b : List ℤ) → s ≡ x → t ≡ y → components x ≡ a → components y ≡ b → n ≡ length (bytes_of (lca (components s) (components t))) → n ≡ length (bytes_of (lca a b))
lca_length x y s t n a b e f g h m = m ∙ ap₂ (λ u v. length (bytes_of (lca u v))) (ap components e ∙ g) (ap components f ∙ h)

pub lca_none : (x : List ℕ) (n : ℕ) (a b : List ℤ) → IsSpelled x → components x ≡ a → n ≡ length (bytes_of (lca a b)) → n ≡ 0 → lca a b ≡ []
lca_none x n a b h e m z = no_bytes (lca a b) (lca_in_range a b (subst (λ zs. IsTrue (all_in_range zs)) e h.label.in_range)) (sym m ∙ z)

pub lca_fits : (x : List ℕ) (n : ℕ) (a b : List ℤ) → IsSpelled x → components x ≡ a → n ≡ length (bytes_of (lca a b)) → n ≤ length x
lca_fits x n a b h e m =
    let f = (splits (lca a b) a).0 (lca_left a b) in
    let p : x ≡ bytes_of (lca a b) ++ bytes_of f.0 = sym h.spelled ∙ ap bytes_of (e ∙ f.1) ∙ bytes_of-append (lca a b) f.0 in
    omega (arith, m, ap (λ (zs : List ℕ). length zs) p, length-append (bytes_of (lca a b)) (bytes_of f.0))

pub lca_made : (x cut : List ℕ) (n : ℕ) (a b : List ℤ) → IsSpelled x → components x ≡ a → n ≡ length (bytes_of (lca a b)) → n ≢ 0 → cut ≡ take n x → IsMade cut (lca a b)
lca_made x cut n a b h e m ne t =
    let l : IsLabel a = subst IsLabel e h.label in
    let f = (splits (lca a b) a).0 (lca_left a b) in
    let p : x ≡ bytes_of (lca a b) ++ bytes_of f.0 = sym h.spelled ∙ ap bytes_of (e ∙ f.1) ∙ bytes_of-append (lca a b) f.0 in
    let s : length (bytes_of (lca a b)) ≤ 512 =
    omega (arith, l.short, ap (λ (zs : List ℕ). length zs) (ap bytes_of f.1 ∙ bytes_of-append (lca a b) f.0), length-append (bytes_of (lca a b)) (bytes_of f.0)) in
    let o : last_odd false (lca a b) ≡ true =
    elim (whole_odd false (common_front a b)) [ inl z ↦ absurd (ne (m ∙ ap (λ zs. length (bytes_of zs)) z)) | inr o ↦ o ] in
    made_is (lca a b) cut (record { in_range = lca_in_range a b l.in_range; ends_odd = o; short = s })
    (t ∙ ap (λ zs. take n zs) p ∙ take_at (bytes_of (lca a b)) (bytes_of f.0) n (sym m))

-- ---- walking down and_parts

-- the front of and_parts up to the rests, and how many bytes its whole segments take
pub record Shared (a b left right : List ℕ) (n : ℕ) : Type 0 where
  pub front : List ℤ
  pub parts : a ≡ bytes_of front ++ left
  pub in_range : IsTrue (all_in_range front)
  pub one : components a ≡ front ++ components left
  pub other : components b ≡ front ++ components right
  pub size : n ≡ length (bytes_of (whole front))

pub shared_none : (a b : List ℕ) → Shared a b a b 0
shared_none a b = record { front = []; parts = refl; in_range = refl; one = refl; other = refl; size = refl }

next : (x left after : List ℕ) (front : List ℤ) (c : ℤ) → component_at left ≡ Some (c, after) → components x ≡ front ++ components left → components x ≡ (front ++ c ∷ []) ++ components after
next x left after front c e h = h ∙ ap (λ zs. front ++ zs) (components_more left after c e) ∙ sym (append_assoc front (c ∷ []) (components after))

pub shared_more : (a b left right after others : List ℕ) (n m : ℕ) (c : ℤ) (odd : Bool) → ((k : ℕ) → get_or a k 0 < 256)
    → component_at left ≡ Some (c, after) → component_at right ≡ Some (c, others) → odd ≡ is_odd c → m ≡ cond odd (length a - length after) n
    → Shared a b left right n → Shared a b after others m
shared_more a b left right after others n m c odd t e f o g s =
    let p = step_parts a left after s.front c t e s.parts s.in_range in
    record {
      front = s.front ++ c ∷ [];
      parts = p.0;
      in_range = p.1;
      one = next a left after s.front c e s.one;
      other = next b right others s.front c f s.other;
      size = g ∙ by_odd odd p.0 ∙ ap (λ t. length (bytes_of (cond t (s.front ++ c ∷ []) (whole s.front)))) o ∙ ap (λ zs. length (bytes_of zs)) (sym (whole-push s.front c));
    }
  where
    by_odd : (t : Bool) → a ≡ bytes_of (s.front ++ c ∷ []) ++ after → cond t (length a - length after) n ≡ length (bytes_of (cond t (s.front ++ c ∷ []) (whole s.front)))
    by_odd true p = omega (arith, ap (λ (zs : List ℕ). length zs) p, length-append (bytes_of (s.front ++ c ∷ [])) after)
    by_odd false p = s.size

pub rest_below : (a b left right after : List ℕ) (n : ℕ) (c : ℤ) → ((k : ℕ) → get_or a k 0 < 256) → component_at left ≡ Some (c, after) → Shared a b left right n → length after ≤ length a
rest_below a b left right after n c t e s =
    let p = step_parts a left after s.front c t e s.parts s.in_range in
    omega (arith, ap (λ (zs : List ℕ). length zs) p.0, length-append (bytes_of (s.front ++ c ∷ [])) after)

-- a component at the front, or none
data First (bs : List ℕ) : Type 0 where
  Nothing : components bs ≡ [] → First bs
  Component : (c : ℤ) (after : List ℕ) → component_at bs ≡ Some (c, after) → components bs ≡ c ∷ components after → First bs

first_of : (bs : List ℕ) → First bs
first_of bs = by_found (component_at bs) refl
  where
    by_found : (f : Found) → component_at bs ≡ f → First bs
    by_found None e = Nothing (components_none bs e)
    by_found (Some x) e = Component x.0 x.1 e (components_more bs x.1 x.0 e)

apart : (left right : List ℕ) → ((c : ℤ) (u v : List ℕ) → component_at left ≡ Some (c, u) → component_at right ≡ Some (c, v) → ⊥) → First left → First right → common_front (components left) (components right) ≡ []
apart left right none (Nothing e) s = ap (λ zs. common_front zs (components right)) e
apart left right none (Component c u e f) (Nothing g) = ap₂ common_front f g
apart left right none (Component c u e f) (Component d v g h) = ap₂ common_front f h ∙ by_test (int_eq c d) refl
  where
    by_test : (t : Bool) → int_eq c d ≡ t → cond t (c ∷ common_front (components u) (components v)) [] ≡ []
    by_test true k = absurd (let s = (Decides-int_eq c d).0 k in none c u v e (g ∙ ap (λ z. Some (z, v)) (sym s)))
    by_test false k = refl

pub shared_all : (a b left right : List ℕ) (n : ℕ) → ((c : ℤ) (u v : List ℕ) → component_at left ≡ Some (c, u) → component_at right ≡ Some (c, v) → ⊥) → Shared a b left right n → n ≡ length (bytes_of (lca (components a) (components b)))
shared_all a b left right n none s =
    s.size ∙ ap (λ zs. length (bytes_of (whole zs)))
    (sym (ap₂ common_front s.one s.other ∙ common_front-append s.front (components left) (components right)
    ∙ ap (λ zs. s.front ++ zs) (apart left right none (first_of left) (first_of right)) ∙ append-nil s.front))
