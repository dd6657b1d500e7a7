-- The distinct masks of siblings, by their parent.
use Rattle.std.proofs.Common.{◌+◌, ◌<◌, length, get_or, drop, ap₂, nat_eq, ◌≡◌, Bool, true, false, ◌&&◌, ◌||◌, cond, ℕ, List, [], ◌∷◌, ◌++◌, refl, ap, sym, subst, ◌∙◌, Option, Some, None}
use Rattle.std.specs.Prelude.{unwrap_or}
use Rattle.std.proofs.lemmas.Bool.{eqb-true}
use Rattle.std.specs.BTreeMap.{BTreeMap, get}
use Rattle.std.specs.List.{list_any}
use Rattle.std.specs.Option.{option_cmp}
use Rattle.std.specs.Ordering.{int_cmp, is_eq}
use Rattle.std.specs.Cmp.Lexicographic.{slice_cmp}
use Rattle.mm_list.specs.Facts.{drop_at}
use Rattle.mm_match.specs.declared.mark.Mark.{Mark}
use Rattle.mm_label.specs.Fronts.{Label, is_front, same, parent, unless_empty}
use Rattle.mm_match.specs.Marks.{under, is_rival, is_beaten}
use Rattle.mm_match.specs.Inside.Passing.{masks_in, outdone, same_parent, thin, taken, next_cut}
use Rattle.mm_match.proofs.Ties.{key_is, key_same}
use Rattle.mm_match.proofs.Thinning.{thin_step}

pub parents_same : (p q : Option Label) → is_eq (option_cmp (slice_cmp int_cmp) p q) ≡ same_parent p q
parents_same None None = refl
parents_same None (Some b) = refl
parents_same (Some a) None = refl
parents_same (Some a) (Some b) = key_same a b

parents_are : (p q : Option Label) → is_eq (option_cmp (slice_cmp int_cmp) p q) ≡ true → p ≡ q
parents_are None None e = refl
parents_are None (Some b) e = absurd cc
parents_are (Some a) None e = absurd cc
parents_are (Some a) (Some b) e = ap (λ (x : Label). Some x) (key_is a b e)

-- masks are taken out, one more put to them, and they are put back
pub put_is : (old mid new : BTreeMap (Option Label) (List ℕ)) (parent : Option Label) (masks more : List ℕ) (mask : ℕ)
    → masks ≡ masks_in old parent → ((v : ℕ) → list_any (under v) more ≡ (list_any (under v) masks || under v mask))
    → ((q : Option Label) → get (option_cmp (slice_cmp int_cmp)) mid q ≡ cond (is_eq (option_cmp (slice_cmp int_cmp) parent q)) None (get (option_cmp (slice_cmp int_cmp)) old q))
    → ((q : Option Label) → get (option_cmp (slice_cmp int_cmp)) new q ≡ cond (is_eq (option_cmp (slice_cmp int_cmp) parent q)) (Some more) (get (option_cmp (slice_cmp int_cmp)) mid q))
    → (at : Option Label) (v : ℕ) → outdone new at v ≡ (outdone old at v || (same_parent parent at && under v mask))
put_is old mid new parent masks more mask a b f g at v = by (is_eq (option_cmp (slice_cmp int_cmp) parent at)) refl
  where
    here : (t : Bool) → is_eq (option_cmp (slice_cmp int_cmp) parent at) ≡ t → same_parent parent at ≡ t
    here t e = sym (parents_same parent at) ∙ e

    or_false : (t : Bool) → t ≡ (t || false)
    or_false true = refl
    or_false false = refl

    by : (t : Bool) → is_eq (option_cmp (slice_cmp int_cmp) parent at) ≡ t → outdone new at v ≡ (outdone old at v || (same_parent parent at && under v mask))
    by true e =
        ap (λ (o : Option (List ℕ)). list_any (under v) (unwrap_or o [])) (g at ∙ ap (λ (t : Bool). cond t (Some more) (get (option_cmp (slice_cmp int_cmp)) mid at)) e)
        ∙ (b v ∙ ap (λ (l : List ℕ). list_any (under v) l || under v mask) (a ∙ ap (masks_in old) (parents_are parent at e))
        ∙ ap (λ (t : Bool). outdone old at v || (t && under v mask)) (sym (here true e)))
    by false e =
        ap (λ (o : Option (List ℕ)). list_any (under v) (unwrap_or o [])) (g at ∙ ap (λ (t : Bool). cond t (Some more) (get (option_cmp (slice_cmp int_cmp)) mid at)) e ∙ f at ∙ ap (λ (t : Bool). cond t None (get (option_cmp (slice_cmp int_cmp)) old at)) e)
        ∙ (or_false (outdone old at v) ∙ ap (λ (t : Bool). outdone old at v || (t && under v mask)) (sym (here false e)))

-- ---- siblings by the labels of their parents

named_same : (a b : Label) → same_parent (unless_empty a) (unless_empty b) ≡ same a b
named_same [] [] = refl
named_same [] (y ∷ b) = refl
named_same (x ∷ a) [] = refl
named_same (x ∷ a) (y ∷ b) = refl

turned : (a b : Label) → same a b ≡ same b a
turned a b = by (is_front a b) (is_front b a)
  where
    by : (p q : Bool) → (p && q) ≡ (q && p)
    by true true = refl
    by true false = refl
    by false true = refl
    by false false = refl

pub beaten_is : (m : Mark) (all : List Mark) → list_any (λ n. same_parent (unless_empty (parent n.label)) (unless_empty (parent m.label)) && under m.mask n.mask) all ≡ is_beaten all m
beaten_is m [] = refl
beaten_is m (n ∷ all) =
    ap (λ (t : Bool). (t && under m.mask n.mask) || list_any (λ n. same_parent (unless_empty (parent n.label)) (unless_empty (parent m.label)) && under m.mask n.mask) all)
    (named_same (parent n.label) (parent m.label) ∙ turned (parent n.label) (parent m.label))
    ∙ ap (λ (t : Bool). is_rival m n || t) (beaten_is m all)

-- ---- one mask more

pub pushed : (v mask : ℕ) (masks : List ℕ) → list_any (under v) (masks ++ mask ∷ []) ≡ (list_any (under v) masks || under v mask)
pushed v mask [] = by (under v mask)
  where
    by : (t : Bool) → (t || false) ≡ t
    by true = refl
    by false = refl
pushed v mask (m ∷ masks) = by (under v m) (pushed v mask masks)
  where
    by : (t : Bool) → list_any (under v) (masks ++ mask ∷ []) ≡ (list_any (under v) masks || under v mask)
        → (t || list_any (under v) (masks ++ mask ∷ [])) ≡ ((t || list_any (under v) masks) || under v mask)
    by true h = refl
    by false h = h

found : (v mask : ℕ) (masks : List ℕ) → list_any (λ y. nat_eq y mask) masks ≡ true → under v mask ≡ true → list_any (under v) masks ≡ true
found v mask [] h u = absurd cc
found v mask (m ∷ masks) h u = by (nat_eq m mask) refl h (λ k. found v mask masks k u)
  where
    or_true : (t : Bool) → (t || true) ≡ true
    or_true true = refl
    or_true false = refl

    by : (t : Bool) → nat_eq m mask ≡ t → (t || list_any (λ y. nat_eq y mask) masks) ≡ true → (list_any (λ y. nat_eq y mask) masks ≡ true → list_any (under v) masks ≡ true)
        → (under v m || list_any (under v) masks) ≡ true
    by true e h again = ap (λ (t : Bool). t || list_any (under v) masks) (subst (λ (k : ℕ). under v k ≡ true) (sym (eqb-true m mask e)) u)
    by false e h again = ap (λ (t : Bool). under v m || t) (again h) ∙ or_true (under v m)

pub contained : (v mask : ℕ) (masks : List ℕ) → list_any (λ y. nat_eq y mask) masks ≡ true → list_any (under v) masks ≡ (list_any (under v) masks || under v mask)
contained v mask masks h = by (list_any (under v) masks) (under v mask) refl refl
  where
    by : (s t : Bool) → list_any (under v) masks ≡ s → under v mask ≡ t → s ≡ (s || t)
    by true t e f = refl
    by false false e f = refl
    by false true e f = let k = found v mask masks h f in absurd cc

-- ---- one mark after the other

pub any_next : (t : Mark → Bool) (all : List Mark) (i : ℕ) (m : Mark) (before after total : Bool) → i < length all → m ≡ get_or all i m → after ≡ (before || t m)
    → (before || list_any t (drop i all)) ≡ total → (after || list_any t (drop (i + 1) all)) ≡ total
any_next t all i m before after total h e a same =
    ap (λ (b : Bool). b || list_any t (drop (i + 1) all)) a ∙ (assoc before (t m) (list_any t (drop (i + 1) all)) ∙ (ap (λ (ms : List Mark). before || list_any t ms) (sym (drop_at all i m h e)) ∙ same))
  where
    assoc : (p q r : Bool) → ((p || q) || r) ≡ (p || (q || r))
    assoc true q r = refl
    assoc false q r = refl

pub thin_next : (all out more : List Mark) (cut next : Option Label) (i : ℕ) (m : Mark) (beaten : Bool) (total : List Mark) → i < length all → m ≡ get_or all i m → beaten ≡ is_beaten all m
    → (more ≡ taken beaten out cut m) × (next ≡ next_cut beaten cut m) → out ++ thin (is_beaten all) cut (drop i all) ≡ total → more ++ thin (is_beaten all) next (drop (i + 1) all) ≡ total
thin_next all out more cut next i m beaten total h e b t same =
    ap₂ (λ (o : List Mark) (c : Option Label). o ++ thin (is_beaten all) c (drop (i + 1) all)) (t.0 ∙ ap (λ (u : Bool). taken u out cut m) b) (t.1 ∙ ap (λ (u : Bool). next_cut u cut m) b)
    ∙ (sym (thin_step (is_beaten all) out cut m (drop (i + 1) all)) ∙ (ap (λ (ms : List Mark). out ++ thin (is_beaten all) cut ms) (sym (drop_at all i m h e)) ∙ same))
