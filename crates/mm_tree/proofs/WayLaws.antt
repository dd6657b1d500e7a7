-- In a well-formed forest the way down by labels misses nothing.
use Rattle.std.proofs.Common.{◌≡◌, refl, ap, sym, ◌∙◌, Bool, true, false, ◌||◌, not, List, [], ◌∷◌, ◌++◌, append_assoc, true≢false, Ordering, Less, Equal, Greater}
use Rattle.std.specs.Prelude.{ℤ, Option, Some, None, if◌then◌else◌, MatchOption, IsTrue, ◌↔◌}
use Rattle.std.specs.List.{starts_with}
use Rattle.std.specs.Ordering.{is_lt, ordering_reverse, int_cmp, int_eq}
use Rattle.std.specs.Cmp.{int_cmp_total}
use Rattle.std.specs.Cmp.Lexicographic.{slice_cmp, lists_total}
use Rattle.std.proofs.lemmas.Slice.Eq.{slice_eq-Decides}
use Rattle.std.proofs.lemmas.Bool.Decides.{Decides-int_eq}
use Rattle.std.proofs.lemmas.List.{append-nil}
use Rattle.std.proofs.lemmas.Bool.{and_parts}
use Rattle.mm_label.specs.Label.{is_odd, is_empty, is_segment, IsAncestorOrSelf}
use Rattle.mm_label.specs.Facts.Order.{splits}
use Rattle.mm_tree.specs.Trees.{Trees, none, node, Tree}
use Rattle.mm_tree.specs.Numbering.{Labelled}
use Rattle.mm_tree.specs.Forests.{segment_below, is_before, are_labelled, is_well_formed}
use Rattle.mm_tree.specs.declared.forest.place.Place.{Place}
use Rattle.mm_tree.specs.Edits.{has_label, has_node, found, Change, edit, Gap, gap_at, gap}
use Rattle.mm_tree.specs.Inside.Ways.{leads_to, found_down, edit_down, gap_down}
use Rattle.mm_tree.specs.Facts.Formed.{front_is}
use Rattle.mm_tree.specs.Facts.Formed.{front_splits, parts}
use Rattle.mm_tree.proofs.OrderLaws.{Under, rises_more}
use Rattle.mm_tree.specs.Facts.Found.{not_found, present}

pub label_is : (x : List ℤ) (e : Labelled) → has_label x e ≡ true → e.label ≡ x
label_is x e = (slice_eq-Decides Decides-int_eq e.label x (has_label x e) refl).0

pub leads_home : (x : List ℤ) (e : Labelled) → has_label x e ≡ true → leads_to x e ≡ true
leads_home x e h = front_is e.label x [] (sym (label_is x e h) ∙ sym (append-nil e.label))

not_itself : (r : Ordering) → r ≡ ordering_reverse r → is_lt r ≡ false
not_itself Less e = absurd cc
not_itself Equal e = refl
not_itself Greater e = refl

pub before_irreflexive : (a : List ℤ) → is_before a a ≡ false
before_irreflexive a = not_itself (slice_cmp int_cmp a a) ((lists_total int_cmp_total).antisymm a a)

any_of : (a b c : Bool) → (a || (b || c)) ≡ true → (P : Type 0) → (a ≡ true → P) → (b ≡ true → P) → (c ≡ true → P) → P
any_of true b c h P p q r = p refl
any_of false true c h P p q r = q refl
any_of false false c h P p q r = r h

-- a label among siblings and those below them goes on from the parent's
pub within : (y : List ℤ) (left : Option (List ℤ)) (ts : Trees Labelled) (x : List ℤ) → are_labelled y left ts ≡ true → has_node x ts ≡ true → Under y left x
within y left none x l h = absurd cc
within y left (node e inner rest) x l h =
    let s = segment_below y e.label in
    let p = parts y left e inner rest l in
    let e_is : e.label ≡ y ++ s = front_splits y e.label p.front in
    any_of (has_label x e) (has_node x inner) (has_node x rest) h (Under y left x)
    (λ k. record { segment = s; more = []; is = sym (label_is x e k) ∙ e_is ∙ ap (λ (z : List ℤ). y ++ z) (sym (append-nil s)); whole = p.whole; above = p.above })
    (λ k. let u = within e.label None inner x p.below k in
    record { segment = s; more = u.segment ++ u.more; is = u.is ∙ ap (λ (z : List ℤ). z ++ (u.segment ++ u.more)) e_is ∙ append_assoc y s (u.segment ++ u.more); whole = p.whole; above = p.above })
    (λ k. let u = within y (Some s) rest x p.after k in
    record { segment = u.segment; more = u.more; is = u.is; whole = u.whole; above = rises_more left s u.segment p.above u.above })

-- no segment is a proper prefix of another
pub one_segment : (s t m n : List ℤ) → is_segment s ≡ true → is_segment t ≡ true → s ++ m ≡ t ++ n → s ≡ t
one_segment [] t m n p q e = absurd cc
one_segment (c ∷ cs) [] m n p q e = absurd cc
one_segment (c ∷ cs) (d ∷ ds) m n p q e =
    let h : c ≡ d = cc in
    let r : cs ++ m ≡ ds ++ n = cc in
    let q2 : (if is_odd c then is_empty ds else is_segment ds) ≡ true = ap (λ z. if is_odd z then is_empty ds else is_segment ds) h ∙ q in
    let f : cs ≡ ds = by_test (is_odd c) cs ds p q2 (λ a b. one_segment cs ds m n a b r) in
    λ i. h i ∷ f i
  where
    by_test : (b : Bool) (cs ds : List ℤ) → (if b then is_empty cs else is_segment cs) ≡ true → (if b then is_empty ds else is_segment ds) ≡ true → (is_segment cs ≡ true → is_segment ds ≡ true → cs ≡ ds) → cs ≡ ds
    by_test true [] [] p q f = refl
    by_test true [] (d ∷ ds) p q f = absurd cc
    by_test true (c ∷ cs) ds p q f = absurd cc
    by_test false cs ds p q f = f p q

pub cancel : (y a b : List ℤ) → y ++ a ≡ y ++ b → a ≡ b
cancel [] a b e = e
cancel (c ∷ y) a b e = cancel y a b cc

refuted : (b : Bool) → (b ≡ true → true ≡ false) → b ≡ false
refuted true f = f refl
refuted false f = refl

-- nothing beside a node on the way has the label
pub none_beside : (y : List ℤ) (left : Option (List ℤ)) (e : Labelled) (inner rest : Trees Labelled) (x : List ℤ) → are_labelled y left (node e inner rest) ≡ true → leads_to x e ≡ true → has_node x rest ≡ false
none_beside y left e inner rest x l f =
    let s = segment_below y e.label in
    let p = parts y left e inner rest l in
    let e_is : e.label ≡ y ++ s = front_splits y e.label p.front in
    refuted (has_node x rest) (λ k.
    let u = within y (Some s) rest x p.after k in
    let r : y ++ (s ++ segment_below e.label x) ≡ y ++ (u.segment ++ u.more) =
    sym (append_assoc y s _) ∙ ap (λ (z : List ℤ). z ++ segment_below e.label x) (sym e_is) ∙ sym (front_splits e.label x f) ∙ u.is in
    let g : s ≡ u.segment = one_segment s u.segment (segment_below e.label x) u.more p.whole u.whole (cancel y _ _ r) in
    sym u.above ∙ ap (λ (z : List ℤ). is_before s z) (sym g) ∙ before_irreflexive s)

-- nothing below a node off the way has the label
pub none_below : (e : Labelled) (inner : Trees Labelled) (x : List ℤ) → are_labelled e.label None inner ≡ true → leads_to x e ≡ false → has_node x inner ≡ false
none_below e inner x l f =
    refuted (has_node x inner) (λ k. let u = within e.label None inner x l k in sym (front_is e.label x _ u.is) ∙ f)

-- ---- the node that is found

-- what is found tells whether the label is there
pub is_found : (x : List ℤ) (ts : Trees Labelled) → has_node x ts ≡ true → found x ts ≡ None → true ≡ false
is_found x none h n = sym h
is_found x (node e inner rest) h n = by_tests (has_label x e) (has_node x inner) (has_node x rest) h n (is_found x inner) (is_found x rest)
  where
    by_tests : (a b c : Bool) → (a || (b || c)) ≡ true → (if a then Some (e, inner) else (if b then found x inner else found x rest)) ≡ None
        → (b ≡ true → found x inner ≡ None → true ≡ false) → (c ≡ true → found x rest ≡ None → true ≡ false) → true ≡ false
    by_tests true b c h n p q = absurd cc
    by_tests false true c h n p q = p refl n
    by_tests false false c h n p q = q h n

pub absent : (x : List ℤ) (ts : Trees Labelled) → found x ts ≡ None → not (has_node x ts) ≡ true
absent x ts n = by_test (has_node x ts) (λ h. is_found x ts h n)
  where
    by_test : (b : Bool) → (b ≡ true → true ≡ false) → not b ≡ true
    by_test true f = sym (f refl)
    by_test false f = refl

-- the way down by labels finds the same node
pub found_is : (x y : List ℤ) (left : Option (List ℤ)) (ts : Trees Labelled) → are_labelled y left ts ≡ true → found_down x ts ≡ found x ts
found_is x y left none l = refl
found_is x y left (node e inner rest) l =
    let p = parts y left e inner rest l in
    by_tests (leads_to x e) (has_label x e) (has_node x inner) (found_is x e.label None inner p.below) (found_is x y (Some (segment_below y e.label)) rest p.after) (leads_home x e)
    (λ k. not_found x rest (none_beside y left e inner rest x l k)) (λ k. none_below e inner x p.below k) (not_found x inner)
  where
    by_tests : (a b c : Bool) → found_down x inner ≡ found x inner → found_down x rest ≡ found x rest → (b ≡ true → a ≡ true) → (a ≡ true → found x rest ≡ None) → (a ≡ false → c ≡ false) → (c ≡ false → found x inner ≡ None)
        → (if a then (if b then Some (e, inner) else found_down x inner) else found_down x rest) ≡ (if b then Some (e, inner) else (if c then found x inner else found x rest))
    by_tests true true c p q r s t u = refl
    by_tests true false true p q r s t u = p
    by_tests true false false p q r s t u = p ∙ u refl ∙ sym (s refl)
    by_tests false true c p q r s t u = absurd (true≢false (sym (r refl)))
    by_tests false false true p q r s t u = absurd (true≢false (t refl))
    by_tests false false false p q r s t u = q

pub found_tells : {A : Type 0} (r : Option A) (f : A → Tree Labelled) (x : List ℤ) (ts : Trees Labelled) → MatchOption r (found x ts ≡ None) (λ n. found x ts ≡ Some (f n))
    → MatchOption r (IsTrue (not (has_node x ts))) (λ n. IsTrue (has_node x ts))
found_tells None f x ts h = absent x ts h
found_tells (Some n) f x ts h = present x ts (f n) h

pub labels_of : (forest : Trees Labelled) → is_well_formed forest ≡ true → are_labelled [] None forest ≡ true
labels_of forest w = (and_parts (are_labelled [] None forest) _ w).0

-- a test that says whether a label is a prefix
pub leads_is : (b : Bool) (label x : List ℤ) → IsTrue b ↔ IsAncestorOrSelf label x → b ≡ starts_with int_eq x label
leads_is b label x h = by_tests b (starts_with int_eq x label) (λ k. let r = (splits label x).0 (h.0 k) in front_is label x r.0 r.1) (λ k. h.1 ((splits label x).1 (segment_below label x, front_splits label x k)))
  where
    by_tests : (b c : Bool) → (b ≡ true → c ≡ true) → (c ≡ true → b ≡ true) → b ≡ c
    by_tests true c f g = sym (f refl)
    by_tests false true f g = g refl
    by_tests false false f g = refl

-- ---- the edit and the gap

unchanged : (f : Change) (x : List ℤ) (ts : Trees Labelled) → has_node x ts ≡ false → edit f x ts ≡ ts
unchanged f x none h = refl
unchanged f x (node e inner rest) h =
    by_tests (has_label x e) (has_node x inner) (has_node x rest) (f e inner rest) (edit f x inner) (edit f x rest) h (unchanged f x inner) (unchanged f x rest)
  where
    by_tests : (a b c : Bool) (F i r : Trees Labelled) → (a || (b || c)) ≡ false → (b ≡ false → i ≡ inner) → (c ≡ false → r ≡ rest) → (if a then F else node e i r) ≡ node e inner rest
    by_tests true b c F i r h p q = absurd cc
    by_tests false true c F i r h p q = absurd cc
    by_tests false false c F i r h p q = λ j. node e (p refl j) (q h j)

-- the way down by labels makes the same edit
pub edit_is : (f : Change) (x y : List ℤ) (left : Option (List ℤ)) (ts : Trees Labelled) → are_labelled y left ts ≡ true → edit_down f x ts ≡ edit f x ts
edit_is f x y left none l = refl
edit_is f x y left (node e inner rest) l =
    let p = parts y left e inner rest l in
    by_tests (leads_to x e) (has_label x e) (f e inner rest) _ _ _ _ (leads_home x e) (edit_is f x e.label None inner p.below) (edit_is f x y (Some (segment_below y e.label)) rest p.after)
    (λ k. unchanged f x rest (none_beside y left e inner rest x l k)) (λ k. unchanged f x inner (none_below e inner x p.below k))
  where
    by_tests : (a b : Bool) (F gi ei gr er : Trees Labelled) → (b ≡ true → a ≡ true) → gi ≡ ei → gr ≡ er → (a ≡ true → er ≡ rest) → (a ≡ false → ei ≡ inner)
        → (if a then (if b then F else node e gi rest) else node e inner gr) ≡ (if b then F else node e ei er)
    by_tests true true F gi ei gr er f p q r s = refl
    by_tests true false F gi ei gr er f p q r s = λ j. node e (p j) (sym (r refl) j)
    by_tests false true F gi ei gr er f p q r s = absurd (true≢false (sym (f refl)))
    by_tests false false F gi ei gr er f p q r s = λ j. node e (sym (s refl) j) (q j)

-- the way down by labels finds the same gap
pub gap_is : (place : Place) (x y : List ℤ) (left l : Option (List ℤ)) (ts : Trees Labelled) → are_labelled y left ts ≡ true → gap_down place x y l ts ≡ (if has_node x ts then Some (gap place x y l ts) else None)
gap_is place x y left l none k = refl
gap_is place x y left l (node e inner rest) k =
    let p = parts y left e inner rest k in
    by_tests (leads_to x e) (has_label x e) (has_node x inner) (has_node x rest) (gap_at place y l e inner rest) _ _ _ _ (gap_is place x e.label None None inner p.below) (gap_is place x y (Some (segment_below y e.label)) (Some e.label) rest p.after)
    (leads_home x e) (λ h. none_beside y left e inner rest x k h) (λ h. none_below e inner x p.below h)
  where
    by_tests : (a b c d : Bool) (G i r : Gap) (di dr : Option Gap) → di ≡ (if c then Some i else None) → dr ≡ (if d then Some r else None) → (b ≡ true → a ≡ true) → (a ≡ true → d ≡ false) → (a ≡ false → c ≡ false)
        → (if a then (if b then Some G else di) else dr) ≡ (if (b || (c || d)) then Some (if b then G else (if c then i else r)) else None)
    by_tests true true c d G i r di dr p q f g h = refl
    by_tests true false true d G i r di dr p q f g h = p
    by_tests true false false true G i r di dr p q f g h = absurd (true≢false (g refl))
    by_tests true false false false G i r di dr p q f g h = p
    by_tests false true c d G i r di dr p q f g h = absurd (true≢false (sym (f refl)))
    by_tests false false true d G i r di dr p q f g h = absurd (true≢false (h refl))
    by_tests false false false d G i r di dr p q f g h = q
