-- In a well-formed forest, document order is the order of labels.
use Rattle.std.proofs.Common.{◌≡◌, refl, ap, sym, ◌∙◌, subst, Bool, true, false, cond, List, [], ◌∷◌, ◌++◌, append_assoc, Ordering, Less, Equal, Greater, arith}
use Rattle.std.specs.Prelude.{ℤ, Option, Some, None, All, AllPairs}
use Rattle.std.specs.Ordering.{is_lt, is_eq, int_cmp, ordering_then}
use Rattle.std.specs.Cmp.{int_cmp_total}
use Rattle.std.specs.Cmp.Lexicographic.{slice_cmp, lists_total}
use Rattle.std.proofs.lemmas.Cmp.{tied_itself}
use Rattle.std.proofs.lemmas.Bool.Decides.{Decides-int_eq}
use Rattle.std.proofs.lemmas.List.{append-nil, map-append}
use Rattle.std.proofs.lemmas.List.Elements.{All-nil, All-cons}
use Rattle.std.proofs.lemmas.List.Kept.{AllPairs-cons}
use Rattle.std.proofs.lemmas.Bool.{and_parts}
use Rattle.mm_label.specs.Label.{is_odd, is_empty, is_segment, IsBefore}
use Rattle.mm_label.specs.Facts.Order.{lt_is}
use Rattle.mm_tree.specs.Trees.{Trees, none, node, preorder}
use Rattle.mm_tree.specs.Numbering.{Labelled}
use Rattle.mm_tree.specs.Forests.{segment_below, is_before, rises, are_labelled, is_well_formed}
use Rattle.mm_tree.specs.Order.{labels}
use Rattle.mm_tree.specs.Facts.Formed.{front_splits, parts}

-- ---- the order of lists

same_component : (c : ℤ) → int_cmp c c ≡ Equal
same_component c = tied_itself int_cmp_total c

equal_is : (c d : ℤ) → int_cmp c d ≡ Equal → c ≡ d
equal_is c d e = (Decides-int_eq c d).0 (ap is_eq e)

-- a common front decides nothing
front_same : (y a b : List ℤ) → slice_cmp int_cmp (y ++ a) (y ++ b) ≡ slice_cmp int_cmp a b
front_same [] a b = refl
front_same (c ∷ y) a b = ap (λ o. ordering_then o (slice_cmp int_cmp (y ++ a) (y ++ b))) (same_component c) ∙ front_same y a b

-- a proper prefix comes first
prefix_first : (a : List ℤ) (c : ℤ) (r : List ℤ) → IsBefore a (a ++ c ∷ r)
prefix_first a c r = ap (λ (z : List ℤ). slice_cmp int_cmp z (a ++ c ∷ r)) (sym (append-nil a)) ∙ front_same a [] (c ∷ r)

-- two segments differ in a component, whatever follows
pub apart : (s t m n : List ℤ) → is_segment s ≡ true → is_segment t ≡ true → IsBefore s t → IsBefore (s ++ m) (t ++ n)
apart [] t m n p q less = absurd cc
apart (c ∷ s) [] m n p q less = absurd cc
apart (c ∷ s) (d ∷ t) m n p q less = by_order (int_cmp c d) refl less (apart s t m n)
  where
    by_test : (b : Bool) (s t : List ℤ) → cond b (is_empty s) (is_segment s) ≡ true → cond b (is_empty t) (is_segment t) ≡ true → IsBefore s t
        → (is_segment s ≡ true → is_segment t ≡ true → IsBefore s t → IsBefore (s ++ m) (t ++ n)) → IsBefore (s ++ m) (t ++ n)
    by_test true [] [] p q l f = absurd cc
    by_test true [] (d ∷ t) p q l f = absurd cc
    by_test true (c ∷ s) t p q l f = absurd cc
    by_test false s t p q l f = f p q l

    alike : c ≡ d → is_odd d ≡ is_odd c
    alike e = ap is_odd (sym e)

    by_order : (o : Ordering) → int_cmp c d ≡ o → ordering_then o (slice_cmp int_cmp s t) ≡ Less → (is_segment s ≡ true → is_segment t ≡ true → IsBefore s t → IsBefore (s ++ m) (t ++ n))
        → ordering_then (int_cmp c d) (slice_cmp int_cmp (s ++ m) (t ++ n)) ≡ Less
    by_order Less e l f = ap (λ o. ordering_then o (slice_cmp int_cmp (s ++ m) (t ++ n))) e
    by_order Equal e l f =
        ap (λ o. ordering_then o (slice_cmp int_cmp (s ++ m) (t ++ n))) e
        ∙ by_test (is_odd c) s t p (ap (λ b. cond b (is_empty t) (is_segment t)) (sym (alike (equal_is c d e))) ∙ q) l f
    by_order Greater e l f = absurd cc

-- ---- where the labels of siblings and of all below them stand

pub record Under (parent : List ℤ) (left : Option (List ℤ)) (x : List ℤ) : Type 0 where
  pub segment : List ℤ
  pub more : List ℤ
  pub is : x ≡ parent ++ (segment ++ more)
  pub whole : is_segment segment ≡ true
  pub above : rises left segment ≡ true

pub before_is : (a b : List ℤ) → is_before a b ≡ true → IsBefore a b
before_is a b e = lt_is _ e

pub rises_more : (left : Option (List ℤ)) (s t : List ℤ) → rises left s ≡ true → is_before s t ≡ true → rises left t ≡ true
rises_more None s t a b = refl
rises_more (Some l) s t a b = ap is_lt ((lists_total int_cmp_total).trans l s t (before_is l s a) (before_is s t b))

abbrev pub Each : {X : Type 0} → (X → Type 0) → List X → Type 0
Each P [] = Unit {0}
Each P (x ∷ xs) = P x × Each P xs

pub each_behind : {X : Type 0} (P : X → Type 0) (xs ys : List X) → Each P xs → Each P ys → Each P (xs ++ ys)
each_behind P [] ys a b = b
each_behind P (x ∷ xs) ys a b = (a.0, each_behind P xs ys a.1 b)

each_so : {X : Type 0} (P Q : X → Type 0) (xs : List X) → ((x : X) → P x → Q x) → Each P xs → Each Q xs
each_so P Q [] f a = tt
each_so P Q (x ∷ xs) f a = (f x a.0, each_so P Q xs f a.1)

all_from : {X : Type 0} (P : X → Type 0) (xs : List X) → Each P xs → All P xs
all_from P [] a = All-nil P
all_from P (x ∷ xs) a = All-cons P x xs a.0 (all_from P xs a.1)

pub labels_node : (e : Labelled) (inner rest : Trees Labelled) → labels (node e inner rest) ≡ e.label ∷ labels inner ++ labels rest
labels_node e inner rest = ap (λ (z : List (List ℤ)). e.label ∷ z) (map-append (λ (x : Labelled). x.label) (preorder inner) (preorder rest))

pub all_under : (y : List ℤ) (left : Option (List ℤ)) (ts : Trees Labelled) → are_labelled y left ts ≡ true → Each (Under y left) (labels ts)
all_under y left none l = tt
all_under y left (node e inner rest) l =
    let s = segment_below y e.label in
    let p = parts y left e inner rest l in
    let e_is : e.label ≡ y ++ s = front_splits y e.label p.front in
    let here : Under y left e.label = record { segment = s; more = []; is = e_is ∙ ap (λ (z : List ℤ). y ++ z) (sym (append-nil s)); whole = p.whole; above = p.above } in
    let inside = each_so (Under e.label None) (Under y left) (labels inner) (λ x u. record { segment = s; more = u.segment ++ u.more; is = u.is ∙ ap (λ (z : List ℤ). z ++ (u.segment ++ u.more)) e_is ∙ append_assoc y s (u.segment ++ u.more); whole = p.whole; above = p.above }) (all_under e.label None inner p.below) in
    let after = each_so (Under y (Some s)) (Under y left) (labels rest) (λ x u. record { segment = u.segment; more = u.more; is = u.is; whole = u.whole; above = rises_more left s u.segment p.above u.above }) (all_under y (Some s) rest p.after) in
    subst (λ (z : List (List ℤ)). Each (Under y left) z) (sym (labels_node e inner rest)) (here, each_behind (Under y left) (labels inner) (labels rest) inside after)

-- ---- the order

abbrev pub Rise : List (List ℤ) → Type 0
Rise [] = Unit {0}
Rise (x ∷ xs) = Each (IsBefore x) xs × Rise xs

pub rise_behind : (xs ys : List (List ℤ)) → Rise xs → Rise ys → Each (λ x. Each (IsBefore x) ys) xs → Rise (xs ++ ys)
rise_behind [] ys a b c = b
rise_behind (x ∷ xs) ys a b c = (each_behind (IsBefore x) xs ys a.0 c.0, rise_behind xs ys a.1 b c.1)

pub pairs_from : (xs : List (List ℤ)) → Rise xs → AllPairs IsBefore xs
pairs_from [] a = λ i j d h k. absurd (omega arith)
pairs_from (x ∷ xs) a = AllPairs-cons IsBefore x xs (all_from (IsBefore x) xs a.0) (pairs_from xs a.1)

-- a label below a node comes after the node's
pub below_after : (y : List ℤ) (x : List ℤ) → Under y None x → IsBefore y x
below_after y x u = by_segment u.segment u.more u.is u.whole
  where
    by_segment : (s m : List ℤ) → x ≡ y ++ (s ++ m) → is_segment s ≡ true → IsBefore y x
    by_segment [] m e w = absurd cc
    by_segment (c ∷ s) m e w = subst (λ (z : List ℤ). IsBefore y z) (sym e) (prefix_first y c (s ++ m))

-- labels at or below a sibling come before those at or below a later one
pub side_after : (y s m x : List ℤ) → is_segment s ≡ true → Under y (Some s) x → IsBefore (y ++ (s ++ m)) x
side_after y s m x w u =
    subst (λ (z : List ℤ). IsBefore (y ++ (s ++ m)) z) (sym u.is) (front_same y (s ++ m) (u.segment ++ u.more) ∙ apart s u.segment m u.more w u.whole (before_is s u.segment u.above))

pub rise : (y : List ℤ) (left : Option (List ℤ)) (ts : Trees Labelled) → are_labelled y left ts ≡ true → Rise (labels ts)
rise y left none l = tt
rise y left (node e inner rest) l =
    let s = segment_below y e.label in
    let p = parts y left e inner rest l in
    let e_is : e.label ≡ y ++ s = front_splits y e.label p.front in
    let inside = all_under e.label None inner p.below in
    let after = all_under y (Some s) rest p.after in
    let first_inside = each_so (Under e.label None) (IsBefore e.label) (labels inner) (λ x u. below_after e.label x u) inside in
    let first_after = each_so (Under y (Some s)) (IsBefore e.label) (labels rest) (λ x u. subst (λ (z : List ℤ). IsBefore z x) (ap (λ (z : List ℤ). y ++ z) (append-nil s) ∙ sym e_is) (side_after y s [] x p.whole u)) after in
    let across = each_so (Under e.label None) (λ x. Each (IsBefore x) (labels rest)) (labels inner) (λ x u. each_so (Under y (Some s)) (IsBefore x) (labels rest) (λ z v. subst (λ (w : List ℤ). IsBefore w z) (sym (u.is ∙ ap (λ (w : List ℤ). w ++ (u.segment ++ u.more)) e_is ∙ append_assoc y s (u.segment ++ u.more))) (side_after y s (u.segment ++ u.more) z p.whole v)) after) inside in
    subst (λ (z : List (List ℤ)). Rise z) (sym (labels_node e inner rest)) (each_behind (IsBefore e.label) (labels inner) (labels rest) first_inside first_after, rise_behind (labels inner) (labels rest) (rise e.label None inner p.below) (rise y (Some s) rest p.after) across)

pub preorder_rises : (forest : Trees Labelled) → is_well_formed forest ≡ true → AllPairs IsBefore (labels forest)
preorder_rises forest w = pairs_from (labels forest) (rise [] None forest (and_parts (are_labelled [] None forest) _ w).0)
