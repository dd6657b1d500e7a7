-- Trees that may stand at a label: each subtree of a well-formed forest may, and what may can be stored.
use Rattle.std.proofs.Common.{inl, inr, ◌≡◌, ℕ, ℤ, ◌+◌, ◌≤◌, Bool, true, false, ◌||◌, List, [], ◌∷◌, refl, ap, sym, subst, ◌∙◌, Option, Some, None, arith}
use Rattle.std.specs.Prelude.{IsTrue, max, nat_le, nat_lt}
use Rattle.std.specs.Cmp.Lexicographic.{pointwise}
use Rattle.std.specs.Ordering.{int_eq}
use Rattle.std.proofs.lemmas.Bool.{and_from, and_parts}
use Rattle.std.proofs.lemmas.Bool.Decides.{nat_tests}
use Rattle.mm_label.specs.Fronts.{Label, Within}
use Rattle.mm_label.specs.Label.{level, IsLabel}
use Rattle.mm_label.specs.Facts.Levels.{level_joined, segment_level}
use Rattle.mm_label.specs.Facts.Order.{label_same, same_label}
use Rattle.mm_tree.specs.Facts.Formed.{front_splits, parts}
use Rattle.mm_tree.specs.Facts.Nodes.{Stands as StandsIn}
use Rattle.mm_tree.specs.Forests.{are_elements, are_labelled, has_valid_kind, is_well_formed, segment_below}
use Rattle.mm_tree.specs.Numbering.{Labelled, has_room}
use Rattle.mm_tree.specs.Trees.{Tree, Trees, every, has_some, levels, node, none, one, preorder}
use Rattle.mm_tree.specs.Validity.{is_element, is_valid_kind}
use Rattle.mm_image.specs.Subtrees.{is_shallow, is_subtree}
use Rattle.mm_label.specs.Facts.Members.{within_joined}
use Rattle.mm_tree.specs.Facts.Labels.{labels_are}
use Rattle.mm_image.specs.Facts.Members.{node_is_valid}
use Rattle.mm_image.specs.Inside.Gathered.{CanBeStored}

-- ---- the parts of a subtree

pub record Stands (label : List ℤ) (t : Tree Labelled) : Type 0 where
  pub same : label ≡ t.0.label
  pub labels : are_labelled label None t.1 ≡ true
  pub room : every has_room (one t) ≡ true
  pub kinds : every has_valid_kind (one t) ≡ true
  pub shallow : every is_shallow (one t) ≡ true
  pub top : (is_element t.0.kind || nat_lt 1 (level label)) ≡ true

pub stands : (label : List ℤ) (t : Tree Labelled) → is_subtree label t ≡ true → Stands label t
stands label t e =
    let a = and_parts (pointwise int_eq label t.0.label) _ e in
    let b = and_parts (are_labelled label None t.1) _ a.1 in
    let c = and_parts (every has_room (one t)) _ b.1 in
    let d = and_parts (every has_valid_kind (one t)) _ c.1 in
    let f = and_parts (every is_shallow (one t)) _ d.1 in
    record { same = same_label label t.0.label a.0; labels = b.0; room = c.0; kinds = d.0; shallow = f.0; top = f.1 }

pub is_standing : (label : List ℤ) (t : Tree Labelled) → Stands label t → is_subtree label t ≡ true
is_standing label t s =
    and_from (pointwise int_eq label t.0.label) _ (label_same label t.0.label s.same)
    (and_from (are_labelled label None t.1) _ s.labels
    (and_from (every has_room (one t)) _ s.room (and_from (every has_valid_kind (one t)) _ s.kinds (and_from (every is_shallow (one t)) _ s.shallow s.top))))

-- ---- the subtrees of a well-formed forest

inner_labelled : (y : Label) (left : Option Label) (f : Trees Labelled) (d : Labelled) (low : Trees Labelled) → are_labelled y left f ≡ true → StandsIn d low f → are_labelled d.label None low ≡ true
inner_labelled y left none d low a h = absurd h
inner_labelled y left (node e inner rest) d low a h =
    let p = parts y left e inner rest a in
    elim h [
      | inl k ↦ subst (λ (z : Labelled). are_labelled z.label None low ≡ true) (sym k.0) (subst (λ (z : Trees Labelled). are_labelled e.label None z ≡ true) (sym k.1) p.below)
      | inr k ↦ elim k [
        | inl q ↦ inner_labelled e.label None inner d low p.below q
        | inr q ↦ inner_labelled y (Some (segment_below y e.label)) rest d low p.after q
      ]
    ]

every_inner : {A : Type 0} (p : A → Bool → Bool) (f : Trees A) (d : A) (low : Trees A) → every p f ≡ true → StandsIn d low f → every p (one (d, low)) ≡ true
every_inner p none d low e h = absurd h
every_inner {A} p (node a inner rest) d low e h =
    let s = and_parts (p a (has_some inner)) _ e in
    let t = and_parts (every p inner) _ s.1 in
    elim h [
      | inl k ↦ subst (λ (z : A). every p (one (z, low)) ≡ true) (sym k.0) (subst (λ (z : Trees A). every p (one (a, z)) ≡ true) (sym k.1) (and_from (p a (has_some inner)) _ s.0 (and_from (every p inner) true t.0 refl)))
      | inr k ↦ elim k [
        | inl q ↦ every_inner p inner d low t.0 q
        | inr q ↦ every_inner p rest d low t.1 q
      ]
    ]

child_level : (y : Label) (left : Option Label) (e : Labelled) (inner rest : Trees Labelled) → are_labelled y left (node e inner rest) ≡ true → level e.label ≡ level y + 1
child_level y left e inner rest a =
    let p = parts y left e inner rest a in
    let s = segment_below y e.label in
    ap level (front_splits y e.label p.front) ∙ level_joined y s ∙ ap (λ (n : ℕ). level y + n) (segment_level s p.whole)

shallow_all : (y : Label) (left : Option Label) (f : Trees Labelled) → are_labelled y left f ≡ true → level y + levels f ≤ 200 → every is_shallow f ≡ true
shallow_all y left none a h = refl
shallow_all y left (node e inner rest) a h =
    let p = parts y left e inner rest a in
    let l = child_level y left e inner rest a in
    let i : level e.label + levels inner ≤ 200 = inner_limit (level y) (level e.label) (levels inner) (levels rest) l h in
    let r : level y + levels rest ≤ 200 = rest_limit (level y) (levels inner) (levels rest) h in
    and_from (is_shallow e (has_some inner)) _ (no_more (level e.label) (levels inner) i)
    (and_from (every is_shallow inner) _ (shallow_all e.label None inner p.below i) (shallow_all y (Some (segment_below y e.label)) rest p.after r))
  where
    inner_limit : (a b c d : ℕ) → b ≡ a + 1 → a + max (1 + c) d ≤ 200 → b + c ≤ 200
    inner_limit a b c d e h = omega arith

    rest_limit : (a c d : ℕ) → a + max (1 + c) d ≤ 200 → a + d ≤ 200
    rest_limit a c d h = omega arith

    no_more : (a b : ℕ) → a + b ≤ 200 → nat_le a 200 ≡ true
    no_more a b h = grind (arith, nat_tests)

deeper : (y : Label) (left : Option Label) (f : Trees Labelled) (d : Labelled) (low : Trees Labelled) → are_labelled y left f ≡ true → StandsIn d low f → level y + 1 ≤ level d.label
deeper y left none d low a h = absurd h
deeper y left (node e inner rest) d low a h =
    let p = parts y left e inner rest a in
    let l = child_level y left e inner rest a in
    elim h [
      | inl k ↦ subst (λ (z : Labelled). level y + 1 ≤ level z.label) (sym k.0) (omega (arith, l))
      | inr k ↦ elim k [
        | inl q ↦ let u = deeper e.label None inner d low p.below q in omega (arith, l, u)
        | inr q ↦ deeper y (Some (segment_below y e.label)) rest d low p.after q
      ]
    ]

on_top : (left : Option Label) (f : Trees Labelled) (d : Labelled) (low : Trees Labelled) → are_labelled [] left f ≡ true → are_elements f ≡ true → StandsIn d low f → (is_element d.kind || nat_lt 1 (level d.label)) ≡ true
on_top left none d low a e h = absurd h
on_top left (node n inner rest) d low a e h =
    let p = parts [] left n inner rest a in
    let q = and_parts (is_element n.kind) _ e in
    elim h [
      | inl k ↦ subst (λ (z : Labelled). (is_element z.kind || nat_lt 1 (level z.label)) ≡ true) (sym k.0) (ap (λ (b : Bool). b || nat_lt 1 (level n.label)) q.0)
      | inr k ↦ elim k [
        | inl w ↦
            let l = child_level [] left n inner rest a in
            let u = deeper n.label None inner d low p.below w in
            below_top (is_element d.kind) (level d.label) (omega (arith, l, u))
        | inr w ↦ on_top (Some (segment_below [] n.label)) rest d low p.after q.1 w
      ]
    ]
  where
    below_top : (b : Bool) (n : ℕ) → 2 ≤ n → (b || nat_lt 1 n) ≡ true
    below_top true n h = refl
    below_top false n h = grind (arith, nat_tests)

pub stands_in : (f : Trees Labelled) (t : Tree Labelled) → IsTrue (is_well_formed f) → StandsIn t.0 t.1 f → Stands t.0.label t
stands_in f t w h =
    let a = and_parts (are_labelled [] None f) _ w in
    let r = and_parts (every has_room f) _ a.1 in
    let v = and_parts (every has_valid_kind f) _ r.1 in
    let e = and_parts (are_elements f) _ v.1 in
    record {
      same = refl;
      labels = inner_labelled [] None f t.0 t.1 a.0 h;
      room = every_inner has_room f t.0 t.1 r.0 h;
      kinds = every_inner has_valid_kind f t.0 t.1 v.0 h;
      shallow = every_inner is_shallow f t.0 t.1 (shallow_all [] None f a.0 (limit (levels f) e.1)) h;
      top = on_top None f t.0 t.1 a.0 e.0 h;
    }
  where
    limit : (n : ℕ) → nat_le n 200 ≡ true → 0 + n ≤ 200
    limit n h = grind (arith, nat_tests)

-- ---- its nodes can be stored

stored_of : (es : List Labelled) → ((d : Labelled) → Within d es → IsLabel d.label) → ((d : Labelled) → Within d es → is_valid_kind d.kind ≡ true) → CanBeStored es
stored_of [] l k = tt
stored_of (e ∷ es) l k = (l e (inl refl), k e (inl refl), stored_of es (λ d w. l d (inr w)) (λ d w. k d (inr w)))

pub stored_label : (es : List Labelled) → CanBeStored es → (d : Labelled) → Within d es → IsLabel d.label
stored_label [] s d w = absurd w
stored_label (e ∷ es) s d w = elim w [ inl h ↦ subst (λ (z : Labelled). IsLabel z.label) (sym h) s.0 | inr h ↦ stored_label es s.2 d h ]

pub stored_tree : (label : List ℤ) (t : Tree Labelled) → IsLabel label → Stands label t → CanBeStored (preorder (one t))
stored_tree label t g s = stored_of (preorder (one t)) labels (λ d w. node_is_valid (one t) s.kinds d w)
  where
    labels : (d : Labelled) → Within d (preorder (one t)) → IsLabel d.label
    labels d w = elim w [
      | inl h ↦ subst (λ (z : Labelled). IsLabel z.label) (sym h) (subst IsLabel s.same g)
      | inr h ↦ elim (within_joined d (preorder t.1) [] h) [
        | inl k ↦ labels_are label None t.1 d s.labels (and_parts (every has_room t.1) _ (and_parts (has_room t.0 (has_some t.1)) _ s.room).1).0 k
        | inr k ↦ absurd k
      ]
    ]
