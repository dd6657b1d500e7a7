-- A forest whose nodes sit as the tests of labels tell, and may stand by themselves, is well formed.
use Rattle.std.proofs.Common.{inl, inr, ◌≡◌, ℕ, ℤ, ◌+◌, ◌≤◌, Bool, true, false, ◌||◌, not, IsTrue, List, [], ◌∷◌, ◌++◌, length, drop, refl, ap, subst, ◌∙◌, Option, Some, None, arith}
use Rattle.std.specs.Prelude.{max, nat_le}
use Rattle.std.specs.List.{starts_with}
use Rattle.std.specs.Ordering.{int_eq, is_lt}
use Rattle.std.proofs.lemmas.Bool.{and_from, and_parts}
use Rattle.std.proofs.lemmas.Int.{ints}
use Rattle.mm_label.specs.Bytes.{bytes_of}
use Rattle.mm_label.specs.Label.{IsLabel, all_in_range, is_child, is_segment, level}
use Rattle.mm_label.specs.Fronts.{Apart, Front, Label, Le, Lt, Within}
use Rattle.mm_label.specs.Facts.Fronts.{front_refl}
use Rattle.mm_label.specs.Facts.Levels.{level_joined, segment_level}
use Rattle.mm_label.specs.Facts.Members.{within_first, within_second}
use Rattle.mm_label.specs.Facts.Order.{lt_before}
use Rattle.mm_tree.specs.Facts.Formed.{front_splits}
use Rattle.mm_tree.specs.Formed.{ApartFrom, node_label}
use Rattle.mm_tree.specs.Forests.{are_elements, are_labelled, has_valid_kind, is_child_label, is_well_formed, level_limit, rises, segment_below}
use Rattle.mm_tree.specs.Numbering.{Labelled, has_room}
use Rattle.mm_tree.specs.Trees.{Trees, every, has_some, levels, node, none, preorder}
use Rattle.mm_tree.specs.Validity.{is_element, is_valid_kind}
use Rattle.mm_check.proofs.Parts.{at_most, no_more}
use Rattle.mm_check.proofs.Planting.{MayHave, Sits}

-- ---- labels

le_cancel : (y s t : Label) → Le (y ++ s) (y ++ t) → Le s t
le_cancel [] s t l = l
le_cancel (c ∷ y) s t l = elim l [ inl h ↦ absurd (omega (arith, ints)) | inr h ↦ le_cancel y s t h.1 ]

-- the trees come after the segment on the left
abbrev Above : Label → Option Label → Trees Labelled → Type 0
Above y None f = Unit {0}
Above y (Some s) f = ApartFrom node_label (y ++ s) f

first_rises : (y : Label) (left : Option Label) (e : Labelled) (inner rest : Trees Labelled) → starts_with int_eq e.label y ≡ true → Above y left (node e inner rest) → rises left (segment_below y e.label) ≡ true
first_rises y None e inner rest f a = refl
first_rises y (Some s) e inner rest f a =
    let t = segment_below y e.label in
    let p : Apart (y ++ s) (y ++ t) = subst (Apart (y ++ s)) (front_splits y e.label f) a.0 in
    let l : Lt s t = (le_cancel y s t p.0, λ q. p.1 (subst (λ (z : Label). Front (y ++ s) (y ++ z)) q (front_refl (y ++ s)))) in
    ap is_lt (lt_before s t l)

labelled_of : (y : Label) (left : Option Label) (f : Trees Labelled) → Sits y f → Above y left f → are_labelled y left f ≡ true
labelled_of y left none u a = refl
labelled_of y left (node e inner rest) u a =
    let s = segment_below y e.label in
    let c = and_parts (starts_with int_eq e.label y) (is_segment s) u.0 in
    and_from (is_child_label y left e.label) _ (and_from (starts_with int_eq e.label y) _ c.0 (and_from (is_segment s) _ c.1 (first_rises y left e inner rest c.0 a)))
    (and_from (are_labelled e.label None inner) _ (labelled_of e.label None inner u.2 tt) (labelled_of y (Some s) rest u.4 (subst (λ (x : Label). ApartFrom node_label x rest) (front_splits y e.label c.0) u.3)))

-- ---- levels

pub child_level : (y x : List ℤ) → is_child y x ≡ true → level x ≡ level y + 1
child_level y x h =
    let c = and_parts (starts_with int_eq x y) (is_segment (drop (length y) x)) h in
    ap level (front_splits y x c.0) ∙ level_joined y (drop (length y) x) ∙ ap (λ (n : ℕ). level y + n) (segment_level (drop (length y) x) c.1)

levels_low : (y : Label) (f : Trees Labelled) → Sits y f → level y ≤ 200 → ((d : Labelled) → Within d (preorder f) → level d.label ≤ 200) → level y + levels f ≤ 200
levels_low y none u h k = omega arith
levels_low y (node e inner rest) u h k =
    let l = child_level y e.label u.0 in
    let i = levels_low e.label inner u.2 (k e (inl refl)) (λ d w. k d (inr (within_first d (preorder inner) (preorder rest) w))) in
    let r = levels_low y rest u.4 h (λ d w. k d (inr (within_second d (preorder inner) (preorder rest) w))) in
    both (level y) (level e.label) (levels inner) (levels rest) l i r
  where
    both : (a b c d : ℕ) → b ≡ a + 1 → b + c ≤ 200 → a + d ≤ 200 → a + max (1 + c) d ≤ 200
    both a b c d e i r = omega arith

-- ---- all nodes

-- what each node has by itself
pub record StandsAlone (e : Labelled) : Type 0 where
  pub label : IsLabel e.label
  pub shallow : nat_le (level e.label) level_limit ≡ true
  pub kind : is_valid_kind e.kind ≡ true
  pub top : level e.label ≡ 1 → is_element e.kind ≡ true

abbrev pub AllAlone : List Labelled → Type 0
AllAlone es = (d : Labelled) → Within d es → StandsAlone d

have_room : (f : Trees Labelled) → AllAlone (preorder f) → every has_room f ≡ true
have_room none k = refl
have_room (node e inner rest) k =
    let l = (k e (inl refl)).label in
    and_from (has_room e (has_some inner)) _ (and_from (all_in_range e.label) _ l.in_range (at_most (length (bytes_of e.label)) 512 l.short))
    (and_from (every has_room inner) _ (have_room inner (λ d w. k d (inr (within_first d (preorder inner) (preorder rest) w)))) (have_room rest (λ d w. k d (inr (within_second d (preorder inner) (preorder rest) w)))))

texts : (e : Labelled) (f : Trees Labelled) → MayHave e f → (is_element e.kind || not (has_some f)) ≡ true
texts e none m = by (is_element e.kind)
  where
    by : (t : Bool) → (t || not false) ≡ true
    by true = refl
    by false = refl
texts e (node d inner rest) m = ap (λ (t : Bool). t || not true) m

have_kinds : (y : Label) (f : Trees Labelled) → Sits y f → AllAlone (preorder f) → every has_valid_kind f ≡ true
have_kinds y none u k = refl
have_kinds y (node e inner rest) u k =
    and_from (has_valid_kind e (has_some inner)) _ (and_from (is_valid_kind e.kind) _ (k e (inl refl)).kind (texts e inner u.1))
    (and_from (every has_valid_kind inner) _ (have_kinds e.label inner u.2 (λ d w. k d (inr (within_first d (preorder inner) (preorder rest) w))))
    (have_kinds y rest u.4 (λ d w. k d (inr (within_second d (preorder inner) (preorder rest) w)))))

roots : (f : Trees Labelled) → Sits [] f → AllAlone (preorder f) → are_elements f ≡ true
roots none u k = refl
roots (node e inner rest) u k =
    and_from (is_element e.kind) _ ((k e (inl refl)).top (child_level [] e.label u.0)) (roots rest u.4 (λ d w. k d (inr (within_second d (preorder inner) (preorder rest) w))))

pub well_formed : (f : Trees Labelled) → Sits [] f → AllAlone (preorder f) → IsTrue (is_well_formed f)
well_formed f u k =
    and_from (are_labelled [] None f) _ (labelled_of [] None f u tt)
    (and_from (every has_room f) _ (have_room f k)
    (and_from (every has_valid_kind f) _ (have_kinds [] f u k)
    (and_from (are_elements f) _ (roots f u k) (at_most (levels f) 200 (low (levels f) (levels_low [] f u (omega arith) (λ d w. no_more (level d.label) 200 (k d w).shallow)))))))
  where
    low : (n : ℕ) → level [] + n ≤ 200 → n ≤ 200
    low n h = omega arith
