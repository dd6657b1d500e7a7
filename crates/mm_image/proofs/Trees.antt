-- Trees of the program, one after the other: where their labels stand, and how they are taken in.
use Rattle.std.proofs.Common.{inl, inr, ◌≡◌, ◌⊎◌, ℕ, ℤ, zero, suc, ◌+◌, ◌-◌, ◌<◌, ◌≤◌, Bool, true, false, cond, ◌&&◌, ◌||◌, not, List, [], ◌∷◌, ◌++◌, reverse, length, get_or, take, drop, refl, ap, ap₂, sym, subst, ◌∙◌, Option, Some, None, append-nil, append_assoc, arith}
use Rattle.std.specs.Prelude.{◌==◌, ◌↔◌, IsTrue, nat_eq, nat_le}
use Rattle.std.specs.List.{starts_with}
use Rattle.std.specs.Ordering.{int_cmp, int_eq, is_lt, ordering_then}
use Rattle.std.specs.Cmp.Lexicographic.{slice_cmp}
use Rattle.std.proofs.lemmas.Bool.{and_parts}
use Rattle.std.proofs.lemmas.Bool.Decides.{Decides-int_eq, nat_tests}
use Rattle.std.proofs.lemmas.Cmp.{int_cmp_total, tied_itself}
use Rattle.std.proofs.lemmas.List.{length-drop, length-reverse, reverse-append, take-append-drop, take_at, drop_at}
use Rattle.std.proofs.lemmas.Slice.Eq.{starts_is}
use Rattle.mm_label.specs.Label.{IsLabel, is_child, is_empty, is_odd, is_segment, last_odd, level}
use Rattle.mm_label.specs.Fronts.{is_front}
use Rattle.mm_label.specs.Facts.Levels.{level-cons}
use Rattle.mm_label.specs.Facts.Order.{splits}
use Rattle.mm_label.specs.Facts.Fronts.{front_yes, is_front_of}
use Rattle.mm_tree.specs.declared.node.Node.{Node}
use Rattle.mm_tree.specs.declared.node.Node.TheViews.{out-Node}
use Rattle.mm_tree.specs.Facts.Walks.{forest_at, labelled, node_of_out}
use Rattle.mm_tree.specs.Formed.{node_label}
use Rattle.mm_tree.specs.Forests.{are_labelled, rises, segment_below}
use Rattle.mm_tree.specs.Numbering.{Labelled, forest_of, node_of}
use Rattle.mm_tree.specs.Rebuild.{behind, below, rebuild, take_in}
use Rattle.mm_tree.specs.Trees.{Trees, Tree, none, node, every, has_some, preorder}
use Rattle.mm_image.specs.declared.rebuilding.Bare.{Bare}
use Rattle.mm_image.specs.Inside.Placing.{comes_after, fits_place}
use Rattle.mm_image.specs.Inside.Rebuilding.{bare, bared, count_below}
use Rattle.mm_label.specs.Facts.Levels.{level_joined}

first_is : (n : Node) (ns : List Node) → forest_of (n ∷ ns) ≡ node (labelled n) (forest_of (out-Node n).children) (forest_of ns)
first_is n ns = ap (λ (t : Tree Labelled). node t.0 t.1 (forest_of ns)) (node_of_out n)

-- ---- one segment more

no_odd : (c : ℤ) (s : List ℤ) → last_odd (is_odd c) s ≡ true → level s ≡ 0 → (is_odd c ≡ true) × (is_empty s ≡ true)
no_odd c [] e f = (e, refl)
no_odd c (d ∷ s) e f = by (is_odd d) refl (no_odd d s e)
  where
    by : (b : Bool) → is_odd d ≡ b → (level s ≡ 0 → (is_odd d ≡ true) × (is_empty s ≡ true)) → (is_odd c ≡ true) × (is_empty (d ∷ s) ≡ true)
    by b q g =
        let t = level-cons d s in
        let z : level s ≡ 0 = omega arith in
        let u = g z in
        let w : ◌≡◌ {A = ℕ} (cond (is_odd d) 1 0) 1 = ap (λ (x : Bool). cond x 1 0) u.0 in
        absurd (omega (arith, f, t, w))

some_level : (b : Bool) (s : List ℤ) → last_odd b s ≡ true → (b ≡ false) → 1 ≤ level s
some_level b [] e f = absurd cc
some_level b (c ∷ s) e f = by (is_odd c) refl (some_level (is_odd c) s e)
  where
    by : (o : Bool) → is_odd c ≡ o → (is_odd c ≡ false → 1 ≤ level s) → 1 ≤ level (c ∷ s)
    by true q g = let t = level-cons c s in let w : ◌≡◌ {A = ℕ} (cond (is_odd c) 1 0) 1 = ap (λ (x : Bool). cond x 1 0) q in omega (arith, t, w)
    by false q g = let t = level-cons c s in let l = g q in omega (arith, t, l)

-- what ends in an odd component is one segment exactly where it has one odd component
one_segment : (b : Bool) (s : List ℤ) → last_odd b s ≡ true → is_segment s ≡ nat_eq (level s) 1
one_segment b [] e = refl
one_segment b (c ∷ s) e = by (is_odd c) refl (one_segment (is_odd c) s e)
  where
    yes : (n : ℕ) → n ≡ 1 → nat_eq n 1 ≡ true
    yes n e = grind (arith, nat_tests)

    not_one : (n : ℕ) → (n ≡ 1 → ⊥) → nat_eq n 1 ≡ false
    not_one n f = grind (arith, nat_tests)

    empty : (s : List ℤ) → is_odd c ≡ true → last_odd (is_odd c) s ≡ true → is_empty s ≡ nat_eq (level (c ∷ s)) 1
    empty [] q e = sym (yes (level (c ∷ [])) (level-cons c [] ∙ ap (λ (x : Bool). cond x 1 0 + 0) q))
    empty (d ∷ s) q e =
        let t = level-cons c (d ∷ s) in
        let w : ◌≡◌ {A = ℕ} (cond (is_odd c) 1 0) 1 = ap (λ (x : Bool). cond x 1 0) q in
        sym (not_one (level (c ∷ (d ∷ s))) (λ h.
        let z : level (d ∷ s) ≡ 0 = omega (arith, t, w, h) in
        let u = no_odd c (d ∷ s) e z in
        let v = u.1 in absurd cc))

    by : (o : Bool) → is_odd c ≡ o → is_segment s ≡ nat_eq (level s) 1 → cond (is_odd c) (is_empty s) (is_segment s) ≡ nat_eq (level (c ∷ s)) 1
    by true q i = ap (λ (x : Bool). cond x (is_empty s) (is_segment s)) q ∙ empty s q e
    by false q i =
        let t : level (c ∷ s) ≡ level s = level-cons c s ∙ ap (λ (x : Bool). cond x 1 0 + level s) q ∙ omega arith in
        ap (λ (x : Bool). cond x (is_empty s) (is_segment s)) q ∙ i ∙ ap (λ (n : ℕ). nat_eq n 1) (sym t)

last_behind : (b : Bool) (y s : List ℤ) → last_odd b (y ++ s) ≡ true → (c : Bool) × (last_odd c s ≡ true)
last_behind b [] s e = (b, e)
last_behind b (c ∷ y) s e = last_behind (is_odd c) y s e

joined_told : (y s : List ℤ) (c : Bool) → last_odd c s ≡ true → is_child y (y ++ s) ≡ nat_eq (level (y ++ s) - level y) 1
joined_told y s c o =
    let starts : starts_with int_eq (y ++ s) y ≡ true = (starts_is Decides-int_eq (y ++ s) y (starts_with int_eq (y ++ s) y) refl).1 s refl in
    let l : level (y ++ s) - level y ≡ level s = let t = level_joined y s in omega (arith, t) in
    ap (λ (b : Bool). b && is_segment (drop (length y) (y ++ s))) starts
    ∙ ap is_segment (drop_at y s (length y) refl)
    ∙ one_segment c s o
    ∙ ap (λ (n : ℕ). nat_eq n 1) (sym l)

pub child_told : (y x : List ℤ) → IsLabel x → is_front y x ≡ true → nat_eq (level x - level y) 1 ≡ is_child y x
child_told y x l f =
    let t = (splits y x).0 (front_yes y x f) in
    let o = last_behind false y t.0 (subst (λ (z : List ℤ). last_odd false z ≡ true) t.1 l.ends_odd) in
    sym (subst (λ (z : List ℤ). is_child y z ≡ nat_eq (level z - level y) 1) (sym t.1) (joined_told y t.0 o.0 o.1))

pub level_above : (y x : List ℤ) → is_front y x ≡ true → level y ≤ level x
level_above y x f =
    let t = (splits y x).0 (front_yes y x f) in
    subst (λ (z : List ℤ). level y ≤ level z) (sym t.1) (let u = level_joined y t.0 in omega (arith, u))

pub no_child : (y x : List ℤ) → is_front y x ≡ false → false ≡ is_child y x
no_child y x f = by (starts_with int_eq x y) refl
  where
    by : (b : Bool) → starts_with int_eq x y ≡ b → false ≡ (starts_with int_eq x y && is_segment (drop (length y) x))
    by true e =
        let t = (starts_is Decides-int_eq x y (starts_with int_eq x y) refl).0 e in
        let u = is_front_of y x ((splits y x).1 (drop (length y) x, t)) in
        let v : true ≡ false = sym u ∙ f in absurd cc
    by false e = sym (ap (λ (b : Bool). b && is_segment (drop (length y) x)) e)

-- ---- siblings

-- the segment of the one on the left
abbrev pub StandsLeft : List ℤ → Option (List ℤ) → Option (List ℤ) → Type 0
StandsLeft y None s = s ≡ None
StandsLeft y (Some l) s = (s ≡ Some (segment_below y l)) × (starts_with int_eq l y ≡ true)

prefix_goes : (y s t : List ℤ) → slice_cmp int_cmp (y ++ s) (y ++ t) ≡ slice_cmp int_cmp s t
prefix_goes [] s t = refl
prefix_goes (c ∷ y) s t = ap (λ o. ordering_then o (slice_cmp int_cmp (y ++ s) (y ++ t))) (tied_itself int_cmp_total c) ∙ prefix_goes y s t

front_splits : (y x : List ℤ) → starts_with int_eq x y ≡ true → x ≡ y ++ segment_below y x
front_splits y x = (starts_is Decides-int_eq x y (starts_with int_eq x y) refl).0

-- labels below one parent compare as their segments
pub after_left : (y : List ℤ) (left s : Option (List ℤ)) (x : List ℤ) → StandsLeft y left s → starts_with int_eq x y ≡ true → comes_after left x ≡ rises s (segment_below y x)
after_left y None s x l e = ap (λ z. rises z (segment_below y x)) (sym l)
after_left y (Some l) s x h e =
    ap₂ (λ a b. is_lt (slice_cmp int_cmp a b)) (front_splits y l h.1) (front_splits y x e)
    ∙ ap is_lt (prefix_goes y (segment_below y l) (segment_below y x))
    ∙ ap (λ z. rises z (segment_below y x)) (sym h.0)

-- what is left of siblings tells the rest
pub record Labelling (y : List ℤ) (left : Option (List ℤ)) (nodes : List Node) (i : ℕ) : Type 0 where
  pub segment : Option (List ℤ)
  pub stands : StandsLeft y left segment
  pub same : are_labelled y segment (forest_of (drop i nodes)) ≡ are_labelled y None (forest_of nodes)

grouped : (g r c d : Bool) → ((g && r) && (c && d)) ≡ ((g && (r && c)) && d)
grouped true true c d = refl
grouped true false c d = refl
grouped false r c d = refl

regrouped : (s g r b c d : Bool) → (s ≡ true → b ≡ r) → ((s && (g && r)) && (c && d)) ≡ (((s && g) && (b && c)) && d)
regrouped true g r b c d f = grouped g r c d ∙ ap (λ (x : Bool). (g && (x && c)) && d) (sym (f refl))
regrouped false g r b c d f = refl

-- the first of these siblings, with those below it
first_labelled : (y : List ℤ) (left segment : Option (List ℤ)) (e : Labelled) (inner rest : Trees Labelled) → StandsLeft y left segment
    → are_labelled y segment (node e inner rest) ≡ ((is_child y e.label && (comes_after left e.label && are_labelled e.label None inner)) && are_labelled y (Some (segment_below y e.label)) rest)
first_labelled y left segment e inner rest l =
    regrouped (starts_with int_eq e.label y) (is_segment (segment_below y e.label)) (rises segment (segment_below y e.label)) (comes_after left e.label) (are_labelled e.label None inner) (are_labelled y (Some (segment_below y e.label)) rest)
    (after_left y left segment e.label l)

child_starts : (y x : List ℤ) → is_child y x ≡ true → starts_with int_eq x y ≡ true
child_starts y x e = (and_parts (starts_with int_eq x y) _ e).0

pub labelling_first : (y : List ℤ) (nodes : List Node) → Labelling y None nodes 0
labelling_first y nodes = record { segment = None; stands = refl; same = refl }

pub labelling_more : (y : List ℤ) (left : Option (List ℤ)) (nodes : List Node) (i : ℕ) (n : Node) → Labelling y left nodes i → i < length nodes → n ≡ get_or nodes i n
    → is_child y (labelled n).label ≡ true → comes_after left (labelled n).label ≡ true → are_labelled (labelled n).label None (forest_of (out-Node n).children) ≡ true → Labelling y (Some (labelled n).label) nodes (i + 1)
labelling_more y left nodes i n l h e a b c =
    let x = (labelled n).label in
    let rest = forest_of (drop (i + 1) nodes) in
    let inner = forest_of (out-Node n).children in
    record {
      segment = Some (segment_below y x);
      stands = (refl, child_starts y x a);
      same = sym (ap (λ (t : Trees Labelled). are_labelled y l.segment t) (forest_at nodes i n h e) ∙ first_labelled y left l.segment (labelled n) inner rest l.stands
          ∙ ap (λ (t : Bool). (t && (comes_after left x && are_labelled x None inner)) && are_labelled y (Some (segment_below y x)) rest) a
          ∙ ap (λ (t : Bool). (t && are_labelled x None inner) && are_labelled y (Some (segment_below y x)) rest) b
          ∙ ap (λ (t : Bool). t && are_labelled y (Some (segment_below y x)) rest) c)
          ∙ l.same;
    }

some_false : (a b c d : Bool) → (a ≡ false) ⊎ ((b ≡ false) ⊎ (c ≡ false)) → ((a && (b && c)) && d) ≡ false
some_false false b c d e = refl
some_false true false c d e = refl
some_false true true false d e = refl
some_false true true true d e = elim e [ inl h ↦ absurd cc | inr k ↦ elim k [ inl h ↦ absurd cc | inr h ↦ absurd cc ] ]

pub labelling_fails : (y : List ℤ) (left : Option (List ℤ)) (nodes : List Node) (i : ℕ) (n : Node) → Labelling y left nodes i → i < length nodes → n ≡ get_or nodes i n
    → (is_child y (labelled n).label ≡ false) ⊎ ((comes_after left (labelled n).label ≡ false) ⊎ (are_labelled (labelled n).label None (forest_of (out-Node n).children) ≡ false)) → false ≡ are_labelled y None (forest_of nodes)
labelling_fails y left nodes i n l h e f =
    let x = (labelled n).label in
    let rest = forest_of (drop (i + 1) nodes) in
    let inner = forest_of (out-Node n).children in
    sym (some_false (is_child y x) (comes_after left x) (are_labelled x None inner) (are_labelled y (Some (segment_below y x)) rest) f)
    ∙ sym (ap (λ (t : Trees Labelled). are_labelled y l.segment t) (forest_at nodes i n h e) ∙ first_labelled y left l.segment (labelled n) inner rest l.stands)
    ∙ l.same

nothing_left : {X : Type 0} (xs : List X) (i : ℕ) → length xs ≤ i → drop i xs ≡ []
nothing_left [] zero h = refl
nothing_left [] (suc i) h = refl
nothing_left (x ∷ xs) zero h = absurd (omega arith)
nothing_left (x ∷ xs) (suc i) h = nothing_left xs i (omega arith)

pub labelling_ended : (y : List ℤ) (left : Option (List ℤ)) (nodes : List Node) (i : ℕ) → Labelling y left nodes i → length nodes ≤ i → true ≡ are_labelled y None (forest_of nodes)
labelling_ended y left nodes i l h = sym (ap (λ (ns : List Node). are_labelled y l.segment (forest_of ns)) (nothing_left nodes i h)) ∙ l.same

-- ---- levels and sorts

abbrev pub fit : List Node → Bool
fit nodes = every fits_place (forest_of nodes)

first_fits : (nodes : List Node) (i : ℕ) (n : Node) → i < length nodes → n ≡ get_or nodes i n
    → fit (drop i nodes) ≡ (fits_place (labelled n) (has_some (forest_of (out-Node n).children)) && (fit (out-Node n).children && fit (drop (i + 1) nodes)))
first_fits nodes i n h e = ap (every fits_place) (forest_at nodes i n h e)

pub has_none : (ns : List Node) → not (has_some (forest_of ns)) ≡ (length ns == 0)
has_none [] = refl
has_none (n ∷ ns) = sym (more (length ns))
  where
    more : (k : ℕ) → (suc k == 0) ≡ false
    more k = grind (arith, nat_tests)

pub empty_told : (r : Bool) (ns : List Node) → IsTrue r ↔ (ns ≡ []) → r ≡ not (has_some (forest_of ns))
empty_told true ns e = ap (λ (z : List Node). not (has_some (forest_of z))) (sym (e.0 refl))
empty_told false [] e = e.1 refl
empty_told false (n ∷ ns) e = refl

pub fits_told : (level_of limit : ℕ) (element empty : Bool) → level_of ≤ limit → element ≡ false → empty ≡ (nat_le level_of limit && (element || empty))
fits_told l m e b h f = sym (ap (λ (x : Bool). x && (e || b)) (yes l m h) ∙ ap (λ (x : Bool). x || b) f)
  where
    yes : (l m : ℕ) → l ≤ m → nat_le l m ≡ true
    yes l m h = grind (arith, nat_tests)

two_false : (a b d : Bool) → (a ≡ false) ⊎ (b ≡ false) → (a && (b && d)) ≡ false
two_false false b d e = refl
two_false true false d e = refl
two_false true true d e = elim e [ inl h ↦ absurd cc | inr h ↦ absurd cc ]

abbrev pub own_fit : Node → Bool
own_fit n = fits_place (labelled n) (has_some (forest_of (out-Node n).children))

pub fit_fails : (nodes : List Node) (i : ℕ) (n : Node) → fit (drop i nodes) ≡ fit nodes → i < length nodes → n ≡ get_or nodes i n → (own_fit n ≡ false) ⊎ (fit (out-Node n).children ≡ false) → false ≡ fit nodes
fit_fails nodes i n l h e f = sym (two_false (own_fit n) (fit (out-Node n).children) (fit (drop (i + 1) nodes)) f) ∙ sym (first_fits nodes i n h e) ∙ l

pub fit_more : (nodes : List Node) (i : ℕ) (n : Node) → fit (drop i nodes) ≡ fit nodes → i < length nodes → n ≡ get_or nodes i n → own_fit n ≡ true → fit (out-Node n).children ≡ true → fit (drop (i + 1) nodes) ≡ fit nodes
fit_more nodes i n l h e a b =
    sym (first_fits nodes i n h e ∙ ap (λ (t : Bool). t && (fit (out-Node n).children && fit (drop (i + 1) nodes))) a ∙ ap (λ (t : Bool). t && fit (drop (i + 1) nodes)) b) ∙ l

-- ---- trees that are taken off a pile

pub count_within : (x : List ℤ) (ns : List Node) → count_below x ns ≤ length ns
count_within x [] = omega arith
count_within x (n ∷ ns) = by (is_front x (out-Node n).label) (count_within x ns)
  where
    by : (b : Bool) → count_below x ns ≤ length ns → cond b (1 + count_below x ns) 0 ≤ suc (length ns)
    by true l = omega arith
    by false l = omega arith

pub reversed_parts : {X : Type 0} (s : List X) (k : ℕ) → k ≤ length s → (reverse (drop (length s - k) s) ≡ take k (reverse s)) × (reverse (take (length s - k) s) ≡ drop k (reverse s))
reversed_parts s k l =
    let m = length s - k in
    let whole : reverse s ≡ reverse (drop m s) ++ reverse (take m s) = ap reverse (sym (take-append-drop m s)) ∙ reverse-append (take m s) (drop m s) in
    let size : length (reverse (drop m s)) ≡ k = length-reverse (drop m s) ∙ length-drop m s ∙ left (length s) k l in
    (sym (ap (take k) whole ∙ take_at (reverse (drop m s)) (reverse (take m s)) k size), sym (ap (drop k) whole ∙ drop_at (reverse (drop m s)) (reverse (take m s)) k size))
  where
    left : (n k : ℕ) → k ≤ n → n - (n - k) ≡ k
    left n k l = omega arith

one_first : (k : ℕ) (n : Node) (ns : List Node) → take (1 + k) (n ∷ ns) ≡ n ∷ take k ns
one_first k n ns = let e : 1 + k ≡ suc k = omega arith in ap (λ (j : ℕ). take j (n ∷ ns)) e

one_off : (k : ℕ) (n : Node) (ns : List Node) → drop (1 + k) (n ∷ ns) ≡ drop k ns
one_off k n ns = let e : 1 + k ≡ suc k = omega arith in ap (λ (j : ℕ). drop j (n ∷ ns)) e

pub below_is : (x : List ℤ) (ns : List Node) → below node_label x (forest_of ns) ≡ forest_of (take (count_below x ns) ns)
below_is x [] = refl
below_is x (n ∷ ns) = ap (below node_label x) (first_is n ns) ∙ by (is_front x (out-Node n).label) (below_is x ns)
  where
    by : (b : Bool) → below node_label x (forest_of ns) ≡ forest_of (take (count_below x ns) ns)
        → cond b (node (labelled n) (forest_of (out-Node n).children) (below node_label x (forest_of ns))) none ≡ forest_of (take (cond b (1 + count_below x ns) 0) (n ∷ ns))
    by true i = ap (node (labelled n) (forest_of (out-Node n).children)) i ∙ sym (ap forest_of (one_first (count_below x ns) n ns) ∙ first_is n (take (count_below x ns) ns))
    by false i = refl

pub behind_is : (x : List ℤ) (ns : List Node) → behind node_label x (forest_of ns) ≡ forest_of (drop (count_below x ns) ns)
behind_is x [] = refl
behind_is x (n ∷ ns) = ap (behind node_label x) (first_is n ns) ∙ by (is_front x (out-Node n).label) (behind_is x ns)
  where
    by : (b : Bool) → behind node_label x (forest_of ns) ≡ forest_of (drop (count_below x ns) ns)
        → cond b (behind node_label x (forest_of ns)) (node (labelled n) (forest_of (out-Node n).children) (forest_of ns)) ≡ forest_of (drop (cond b (1 + count_below x ns) 0) (n ∷ ns))
    by true i = i ∙ sym (ap forest_of (one_off (count_below x ns) n ns))
    by false i = sym (first_is n ns)

-- some of the nodes are left, and the pile has the trees of the others
pub record Piling (nodes left : List Bare) (trees : List Node) : Type 0 where
  pub done : List Bare
  pub all : nodes ≡ left ++ done
  pub made : forest_of (reverse trees) ≡ rebuild node_label (bared done)

pub piling_first : (nodes : List Bare) (trees : List Node) → trees ≡ [] → Piling nodes nodes trees
piling_first nodes trees e = record { done = []; all = sym (append-nil nodes); made = ap (λ (ns : List Node). forest_of (reverse ns)) e }

pub piling_more : (nodes left rest : List Bare) (trees others more children : List Node) (b : Bare) (n : Node) → Piling nodes left trees → left ≡ rest ++ b ∷ [] → children ≡ take (count_below b.label (reverse trees)) (reverse trees)
    → reverse others ≡ drop (count_below b.label (reverse trees)) (reverse trees) → more ≡ others ++ n ∷ [] → node_of n ≡ (bare b, forest_of children) → Piling nodes rest more
piling_more nodes left rest trees others more children b n g e c o m s =
    let pile = reverse trees in
    let x = b.label in
    record {
      done = b ∷ g.done;
      all = g.all ∙ ap (λ (r : List Bare). r ++ g.done) e ∙ append_assoc rest (b ∷ []) g.done;
      made = ap (λ (ns : List Node). forest_of (reverse ns)) m
          ∙ ap forest_of (reverse-append others (n ∷ []))
          ∙ ap (λ (t : Tree Labelled). node t.0 t.1 (forest_of (reverse others))) s
          ∙ ap (λ (ns : List Node). node (bare b) (forest_of ns) (forest_of (reverse others))) c
          ∙ ap (λ (ns : List Node). node (bare b) (forest_of (take (count_below x pile) pile)) (forest_of ns)) o
          ∙ sym (ap₂ (λ (u v : Trees Labelled). node (bare b) u v) (below_is x pile) (behind_is x pile))
          ∙ ap (take_in node_label (bare b)) g.made;
    }

pub piling_ended : (nodes left : List Bare) (trees : List Node) → Piling nodes left trees → left ≡ [] → forest_of (reverse trees) ≡ rebuild node_label (bared nodes)
piling_ended nodes left trees g e = g.made ∙ ap (λ (bs : List Bare). rebuild node_label (bared bs)) (sym (g.all ∙ ap (λ (r : List Bare). r ++ g.done) e))

-- the nodes of a tree that is rebuilt are those that were there
both_parts : (x : List ℤ) (us : Trees Labelled) → preorder (below node_label x us) ++ preorder (behind node_label x us) ≡ preorder us
both_parts x none = refl
both_parts x (node e inner rest) = by (is_front x e.label) (both_parts x rest)
  where
    by : (b : Bool) → preorder (below node_label x rest) ++ preorder (behind node_label x rest) ≡ preorder rest
        → preorder (cond b (node e inner (below node_label x rest)) none) ++ preorder (cond b (behind node_label x rest) (node e inner rest)) ≡ preorder (node e inner rest)
    by true i = ap (λ (z : List Labelled). e ∷ z) (append_assoc (preorder inner) (preorder (below node_label x rest)) (preorder (behind node_label x rest)) ∙ ap (λ (z : List Labelled). preorder inner ++ z) i)
    by false i = refl

pub rebuilt_nodes : (es : List Labelled) → preorder (rebuild node_label es) ≡ es
rebuilt_nodes [] = refl
rebuilt_nodes (e ∷ es) = ap (λ (z : List Labelled). e ∷ z) (both_parts e.label (rebuild node_label es) ∙ rebuilt_nodes es)
