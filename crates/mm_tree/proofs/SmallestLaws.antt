-- The answers of a search are the smallest full nodes.
use Rattle.std.proofs.Common.{◌≡◌, refl, ap, ap₂, sym, ◌∙◌, subst, ℕ, ◌⊎◌, inl, inr, Bool, true, false, cond, ◌||◌, List, [], ◌∷◌, ◌++◌, append_assoc, append-nil, ◌↔◌, Contains, AllPairs}
use Rattle.std.specs.Prelude.{ℤ, Option, Some, None}
use Rattle.std.proofs.lemmas.Slice.Eq.{slice_eq-Decides}
use Rattle.std.proofs.lemmas.Bool.Decides.{Decides-int_eq}
use Rattle.std.proofs.Math.Bool.{or-true}
use Rattle.mm_label.specs.Label.{is_segment, IsBefore, IsAncestorOrSelf}
use Rattle.mm_label.specs.Fronts.{Within}
use Rattle.mm_label.specs.Facts.Fronts.{front_refl, front_trans}
use Rattle.mm_label.specs.Facts.Order.{splits}
use Rattle.mm_label.specs.Facts.Members.{contains_of, within_of, within_joined, within_first, within_second}
use Rattle.mm_tree.specs.Trees.{Trees, none, node}
use Rattle.mm_tree.specs.Numbering.{Labelled}
use Rattle.mm_tree.specs.Forests.{segment_below, is_before, are_labelled, is_well_formed}
use Rattle.mm_tree.specs.Edits as edits
use Rattle.mm_tree.specs.Search.{Worded, own, worded, is_full, some_full, slca}
use Rattle.mm_tree.specs.Smallest.{full_nodes, IsSmallest, HasAnswer}
use Rattle.mm_tree.specs.Facts.Formed.{front_splits, Parts, parts}
use Rattle.mm_tree.proofs.OrderLaws.{Under, Each, Rise, rises_more, rise_behind, pairs_from, side_after}
use Rattle.mm_tree.proofs.WayLaws.{before_irreflexive, one_segment, cancel, labels_of}
use Rattle.mm_tree.proofs.SearchFacts.{part}
use Rattle.mm_tree.specs.Facts.Full.{full_of_child}

-- ---- members of lists

each_from : (P : List ℤ → Type 0) (xs : List (List ℤ)) → ((x : List ℤ) → Within x xs → P x) → Each P xs
each_from P [] f = tt
each_from P (x ∷ xs) f = (f x (inl refl), each_from P xs (λ z w. f z (inr w)))

-- ---- full nodes

abbrev pub seen : Labelled → Worded
seen e = record { label = e.label; words = own e.kind }

-- a full node at the root, among its children and below them, or behind
pub full_cases : (query : List (List ℕ)) (e : Worded) (inner rest : Trees Worded) (x : List ℤ) → Within x (full_nodes query (node e inner rest))
    → ((is_full query e inner ≡ true) × (x ≡ e.label)) ⊎ (Within x (full_nodes query inner) ⊎ Within x (full_nodes query rest))
full_cases query e inner rest x w = by_test (is_full query e inner) refl w
  where
    by_test : (b : Bool) → is_full query e inner ≡ b → Within x (cond b (e.label ∷ []) [] ++ (full_nodes query inner ++ full_nodes query rest))
        → ((is_full query e inner ≡ true) × (x ≡ e.label)) ⊎ (Within x (full_nodes query inner) ⊎ Within x (full_nodes query rest))
    by_test true f (inl g) = inl (f, g)
    by_test true f (inr v) = inr (within_joined x (full_nodes query inner) (full_nodes query rest) v)
    by_test false f v = inr (within_joined x (full_nodes query inner) (full_nodes query rest) v)

pub full_here : (query : List (List ℕ)) (e : Worded) (inner rest : Trees Worded) → is_full query e inner ≡ true → Within e.label (full_nodes query (node e inner rest))
full_here query e inner rest f = subst (λ b. Within e.label (cond b (e.label ∷ []) [] ++ (full_nodes query inner ++ full_nodes query rest))) (sym f) (inl refl)

pub full_inside : (query : List (List ℕ)) (e : Worded) (inner rest : Trees Worded) (x : List ℤ) → Within x (full_nodes query inner) → Within x (full_nodes query (node e inner rest))
full_inside query e inner rest x w = within_second x (cond (is_full query e inner) (e.label ∷ []) []) _ (within_first x (full_nodes query inner) (full_nodes query rest) w)

pub full_behind : (query : List (List ℕ)) (e : Worded) (inner rest : Trees Worded) (x : List ℤ) → Within x (full_nodes query rest) → Within x (full_nodes query (node e inner rest))
full_behind query e inner rest x w = within_second x (cond (is_full query e inner) (e.label ∷ []) []) _ (within_second x (full_nodes query inner) (full_nodes query rest) w)

-- the answers of a tree are those below its root, or else the root
part_cases : (query : List (List ℕ)) (e : Worded) (inner : Trees Worded) (x : List ℤ) → Within x (part query e inner)
    → (is_full query e inner ≡ true) × (((some_full query inner ≡ true) × Within x (slca query inner)) ⊎ ((some_full query inner ≡ false) × (x ≡ e.label)))
part_cases query e inner x w = by_tests (is_full query e inner) (some_full query inner) refl refl w
  where
    by_tests : (b c : Bool) → is_full query e inner ≡ b → some_full query inner ≡ c → Within x (cond b (cond c (slca query inner) (e.label ∷ [])) [])
        → (is_full query e inner ≡ true) × (((some_full query inner ≡ true) × Within x (slca query inner)) ⊎ ((some_full query inner ≡ false) × (x ≡ e.label)))
    by_tests true true f g v = (f, inl (g, v))
    by_tests true false f g (inl h) = (f, inr (g, h))
    by_tests true false f g (inr v) = absurd v
    by_tests false c f g v = absurd v

part_inside : (query : List (List ℕ)) (e : Worded) (inner : Trees Worded) (x : List ℤ) → is_full query e inner ≡ true → some_full query inner ≡ true → Within x (slca query inner) → Within x (part query e inner)
part_inside query e inner x f g w = subst (λ ls. Within x ls) (sym (ap₂ (λ b c. cond b (cond c (slca query inner) (e.label ∷ [])) []) f g)) w

part_here : (query : List (List ℕ)) (e : Worded) (inner : Trees Worded) → is_full query e inner ≡ true → some_full query inner ≡ false → Within e.label (part query e inner)
part_here query e inner f g = subst (λ ls. Within e.label ls) (sym (ap₂ (λ b c. cond b (cond c (slca query inner) (e.label ∷ [])) []) f g)) (inl refl)

-- a full node at or below these roots makes one of them full
pub full_root : (query : List (List ℕ)) (ts : Trees Worded) (x : List ℤ) → Within x (full_nodes query ts) → some_full query ts ≡ true
full_root query none x w = absurd w
full_root query (node e inner rest) x w = elim (full_cases query e inner rest x w) [
  | inl h ↦ ap (λ b. b || some_full query rest) h.0
  | inr v ↦ elim v [
    | inl i ↦ ap (λ b. b || some_full query rest) (full_of_child query e inner (full_root query inner x i))
    | inr r ↦ ap (λ b. is_full query e inner || b) (full_root query rest x r) ∙ or-true (is_full query e inner)
  ]
]

-- an answer is full
answer_full : (query : List (List ℕ)) (ts : Trees Worded) (x : List ℤ) → Within x (slca query ts) → Within x (full_nodes query ts)
answer_full query none x w = absurd w
answer_full query (node e inner rest) x w = elim (within_joined x (part query e inner) (slca query rest) w) [
  | inl p ↦ let q = part_cases query e inner x p in elim q.1 [
    | inl i ↦ full_inside query e inner rest x (answer_full query inner x i.1)
    | inr h ↦ subst (λ z. Within z (full_nodes query (node e inner rest))) (sym h.1) (full_here query e inner rest q.0)
  ]
  | inr r ↦ full_behind query e inner rest x (answer_full query rest x r)
]

-- where a root is full, there is an answer
some_answer : (query : List (List ℕ)) (ts : Trees Worded) → some_full query ts ≡ true → (x : List ℤ) × Within x (slca query ts)
some_answer query none h = absurd cc
some_answer query (node e inner rest) h = by_tests (is_full query e inner) (some_full query inner) refl refl h (some_answer query inner) (some_answer query rest)
  where
    by_tests : (b c : Bool) → is_full query e inner ≡ b → some_full query inner ≡ c → (b || some_full query rest) ≡ true → (some_full query inner ≡ true → (x : List ℤ) × Within x (slca query inner)) → (some_full query rest ≡ true → (x : List ℤ) × Within x (slca query rest))
        → (x : List ℤ) × Within x (slca query (node e inner rest))
    by_tests true true f g k i r = let a = i g in (a.0, within_first a.0 (part query e inner) (slca query rest) (part_inside query e inner a.0 f g a.1))
    by_tests true false f g k i r = (e.label, within_first e.label (part query e inner) (slca query rest) (part_here query e inner f g))
    by_tests false c f g k i r = let a = r k in (a.0, within_second a.0 (part query e inner) (slca query rest) a.1)

-- ---- labels

is_label : (x : List ℤ) (e : Labelled) → e.label ≡ x → edits.has_label x e ≡ true
is_label x e = (slice_eq-Decides Decides-int_eq e.label x (edits.has_label x e) refl).1

pub here_under : (y : List ℤ) (left : Option (List ℤ)) (e : Labelled) (inner rest : Trees Labelled) → Parts y left e inner rest → Under y left e.label
here_under y left e inner rest p = record {
  segment = segment_below y e.label;
  more = [];
  is = front_splits y e.label p.front ∙ ap (λ z. y ++ z) (sym (append-nil (segment_below y e.label)));
  whole = p.whole;
  above = p.above;
}

pub inside_under : (y : List ℤ) (left : Option (List ℤ)) (e : Labelled) (inner rest : Trees Labelled) → Parts y left e inner rest → (x : List ℤ) → Under e.label None x → Under y left x
inside_under y left e inner rest p x u = record {
  segment = segment_below y e.label;
  more = u.segment ++ u.more;
  is = u.is ∙ ap (λ z. z ++ (u.segment ++ u.more)) (front_splits y e.label p.front) ∙ append_assoc y (segment_below y e.label) (u.segment ++ u.more);
  whole = p.whole;
  above = p.above;
}

pub behind_under : (y : List ℤ) (left : Option (List ℤ)) (e : Labelled) (inner rest : Trees Labelled) → Parts y left e inner rest → (x : List ℤ) → Under y (Some (segment_below y e.label)) x → Under y left x
behind_under y left e inner rest p x u = record { segment = u.segment; more = u.more; is = u.is; whole = u.whole; above = rises_more left (segment_below y e.label) u.segment p.above u.above }

pub full_under : (query : List (List ℕ)) (y : List ℤ) (left : Option (List ℤ)) (ts : Trees Labelled) → are_labelled y left ts ≡ true → (x : List ℤ) → Within x (full_nodes query (worded ts)) → Under y left x
full_under query y left none l x w = absurd w
full_under query y left (node e inner rest) l x w =
    let p = parts y left e inner rest l in
    elim (full_cases query (seen e) (worded inner) (worded rest) x w) [
      | inl h ↦ subst (λ z. Under y left z) (sym h.1) (here_under y left e inner rest p)
      | inr v ↦ elim v [
        | inl i ↦ inside_under y left e inner rest p x (full_under query e.label None inner p.below x i)
        | inr r ↦ behind_under y left e inner rest p x (full_under query y (Some (segment_below y e.label)) rest p.after x r)
      ]
    ]

pub true_false : true ≡ false → ⊥
true_false e = absurd cc

-- two siblings' segments begin no common label
no_clash : (y s r t n : List ℤ) → is_segment s ≡ true → is_segment t ≡ true → is_before s t ≡ true → y ++ (s ++ r) ≡ y ++ (t ++ n) → ⊥
no_clash y s r t n p q less e =
    let same : s ≡ t = one_segment s t r n p q (cancel y (s ++ r) (t ++ n) e) in
    true_false (sym less ∙ ap (λ z. is_before s z) (sym same) ∙ before_irreflexive s)

-- no label at or below a node is at or below a node behind it
pub not_behind : (y : List ℤ) (left : Option (List ℤ)) (e : Labelled) (inner rest : Trees Labelled) → Parts y left e inner rest → (x z : List ℤ) → Under y (Some (segment_below y e.label)) x → IsAncestorOrSelf e.label z → IsAncestorOrSelf x z → ⊥
not_behind y left e inner rest p x z u a b =
    let s = segment_below y e.label in
    let a = (splits e.label z).0 a in
    let b = (splits x z).0 b in
    no_clash y s a.0 u.segment (u.more ++ b.0) p.whole u.whole u.above
    (sym (a.1 ∙ ap (λ w. w ++ a.0) (front_splits y e.label p.front) ∙ append_assoc y s a.0)
    ∙ b.1 ∙ ap (λ w. w ++ b.0) u.is ∙ append_assoc y (u.segment ++ u.more) b.0 ∙ ap (λ w. y ++ w) (append_assoc u.segment u.more b.0))

-- a node is not below one below it
pub not_above : (y x : List ℤ) → Under y None x → IsAncestorOrSelf x y → ⊥
not_above y x u a = by_segment u.segment u.whole (cancel y [] ((u.segment ++ u.more) ++ rest.0) (append-nil y ∙ rest.1 ∙ ap (λ w. w ++ rest.0) u.is ∙ append_assoc y (u.segment ++ u.more) rest.0))
  where
    rest : (r : List ℤ) × (y ≡ x ++ r)
    rest = (splits x y).0 a

    by_segment : (s : List ℤ) → is_segment s ≡ true → [] ≡ (s ++ u.more) ++ rest.0 → ⊥
    by_segment [] w e = true_false (sym w)
    by_segment (c ∷ s) w e = absurd cc

pub below : (y x : List ℤ) → Under y None x → IsAncestorOrSelf y x
below y x u = (splits y x).1 (u.segment ++ u.more, u.is)

-- the label of an answer in a tree goes on from its root's
part_below : (query : List (List ℕ)) (e : Labelled) (inner : Trees Labelled) → are_labelled e.label None inner ≡ true → (x : List ℤ) → Within x (part query (seen e) (worded inner)) → IsAncestorOrSelf e.label x
part_below query e inner l x w = elim (part_cases query (seen e) (worded inner) x w).1 [
  | inl i ↦ below e.label x (full_under query e.label None inner l x (answer_full query (worded inner) x i.1))
  | inr h ↦ subst (λ z. IsAncestorOrSelf e.label z) (sym h.1) (front_refl e.label)
]

-- ---- each full node has an answer at or below it

abbrev Reached : List (List ℕ) → Trees Worded → List ℤ → Type 0
Reached query ts z = (x : List ℤ) × Within x (slca query ts) × IsAncestorOrSelf z x

reached_at : (query : List (List ℕ)) (e : Labelled) (inner : Trees Labelled) (rest : Trees Worded) → are_labelled e.label None inner ≡ true → is_full query (seen e) (worded inner) ≡ true → Reached query (node (seen e) (worded inner) rest) e.label
reached_at query e inner rest l f = by_test (some_full query (worded inner)) refl
  where
    by_test : (b : Bool) → some_full query (worded inner) ≡ b → Reached query (node (seen e) (worded inner) rest) e.label
    by_test true g =
        let a = some_answer query (worded inner) g in
        (a.0, within_first a.0 (part query (seen e) (worded inner)) (slca query rest) (part_inside query (seen e) (worded inner) a.0 f g a.1), below e.label a.0 (full_under query e.label None inner l a.0 (answer_full query (worded inner) a.0 a.1)))
    by_test false g = (e.label, within_first e.label (part query (seen e) (worded inner)) (slca query rest) (part_here query (seen e) (worded inner) f g), front_refl e.label)

covers : (query : List (List ℕ)) (y : List ℤ) (left : Option (List ℤ)) (ts : Trees Labelled) → are_labelled y left ts ≡ true → (z : List ℤ) → Within z (full_nodes query (worded ts)) → Reached query (worded ts) z
covers query y left none l z w = absurd w
covers query y left (node e inner rest) l z w =
    let p = parts y left e inner rest l in
    let I = worded inner in
    let R = worded rest in
    elim (full_cases query (seen e) I R z w) [
      | inl h ↦ let a = reached_at query e inner R p.below h.0 in (a.0, a.1, subst (λ t. IsAncestorOrSelf t a.0) (sym h.1) a.2)
      | inr v ↦ elim v [
        | inl i ↦
            let a = covers query e.label None inner p.below z i in
            let g = full_root query I z i in
            (a.0, within_first a.0 (part query (seen e) I) (slca query R) (part_inside query (seen e) I a.0 (full_of_child query (seen e) I g) g a.1), a.2)
        | inr r ↦ let a = covers query y (Some (segment_below y e.label)) rest p.after z r in (a.0, within_second a.0 (part query (seen e) I) (slca query R) a.1, a.2)
      ]
    ]

-- ---- no full node is below an answer

lowest : (query : List (List ℕ)) (y : List ℤ) (left : Option (List ℤ)) (ts : Trees Labelled) → are_labelled y left ts ≡ true → (x z : List ℤ) → Within x (slca query (worded ts)) → Within z (full_nodes query (worded ts)) → IsAncestorOrSelf x z → z ≡ x
lowest query y left none l x z v w a = absurd v
lowest query y left (node e inner rest) l x z v w a =
    let s = segment_below y e.label in
    let p = parts y left e inner rest l in
    let I = worded inner in
    let R = worded rest in
    let behind : (t : List ℤ) → Within t (full_nodes query R) → Under y (Some s) t = full_under query y (Some s) rest p.after in
    let inside : (t : List ℤ) → Within t (full_nodes query I) → Under e.label None t = full_under query e.label None inner p.below in
    elim (within_joined x (part query (seen e) I) (slca query R) v) [
      | inl t ↦
          let from_root : IsAncestorOrSelf e.label x = part_below query e inner p.below x t in
          elim (part_cases query (seen e) I x t).1 [
            | inl i ↦ elim (full_cases query (seen e) I R z w) [
              | inl h ↦ absurd (not_above e.label x (inside x (answer_full query I x i.1)) (subst (λ k. IsAncestorOrSelf x k) h.1 a))
              | inr j ↦ elim j [
                | inl k ↦ lowest query e.label None inner p.below x z i.1 k a
                | inr r ↦ absurd (not_behind y left e inner rest p z z (behind z r) (front_trans e.label x z from_root a) (front_refl z))
              ]
            ]
            | inr h ↦ elim (full_cases query (seen e) I R z w) [
              | inl g ↦ g.1 ∙ sym h.1
              | inr j ↦ elim j [
                | inl k ↦ absurd (true_false (sym (full_root query I z k) ∙ h.0))
                | inr r ↦ absurd (not_behind y left e inner rest p z z (behind z r) (front_trans e.label x z from_root a) (front_refl z))
              ]
            ]
          ]
      | inr t ↦
          let u : Under y (Some s) x = behind x (answer_full query R x t) in
          elim (full_cases query (seen e) I R z w) [
            | inl h ↦ absurd (not_behind y left e inner rest p x z u (subst (λ k. IsAncestorOrSelf e.label k) (sym h.1) (front_refl e.label)) a)
            | inr j ↦ elim j [
              | inl k ↦ absurd (not_behind y left e inner rest p x z u (below e.label z (inside z k)) a)
              | inr r ↦ lowest query y (Some s) rest p.after x z t r a
            ]
          ]
    ]

-- ---- the order of the answers

part_rises : (query : List (List ℕ)) (e : Worded) (inner : Trees Worded) → Rise (slca query inner) → Rise (part query e inner)
part_rises query e inner r = by_tests (is_full query e inner) (some_full query inner)
  where
    by_tests : (b c : Bool) → Rise (cond b (cond c (slca query inner) (e.label ∷ [])) [])
    by_tests true true = r
    by_tests true false = (tt, tt)
    by_tests false c = tt

rising : (query : List (List ℕ)) (y : List ℤ) (left : Option (List ℤ)) (ts : Trees Labelled) → are_labelled y left ts ≡ true → Rise (slca query (worded ts))
rising query y left none l = tt
rising query y left (node e inner rest) l =
    let s = segment_below y e.label in
    let p = parts y left e inner rest l in
    let I = worded inner in
    let R = worded rest in
    let before : (x z : List ℤ) → Within x (part query (seen e) I) → Within z (slca query R) → IsBefore x z
    = λ x z w v.
    let a = (splits e.label x).0 (part_below query e inner p.below x w) in
    subst (λ t. IsBefore t z) (sym (a.1 ∙ ap (λ t. t ++ a.0) (front_splits y e.label p.front) ∙ append_assoc y s a.0))
    (side_after y s a.0 z p.whole (full_under query y (Some s) rest p.after z (answer_full query R z v))) in
    rise_behind (part query (seen e) I) (slca query R) (part_rises query (seen e) I (rising query e.label None inner p.below)) (rising query y (Some s) rest p.after)
    (each_from (λ x. Each (IsBefore x) (slca query R)) (part query (seen e) I) (λ x w. each_from (IsBefore x) (slca query R) (λ z v. before x z w v)))

-- ---- the laws

full_has : (query : List (List ℕ)) (ts : Trees Labelled) (x : List ℤ) → Within x (full_nodes query (worded ts)) → edits.has_node x ts ≡ true
full_has query none x w = absurd w
full_has query (node e inner rest) x w = elim (full_cases query (seen e) (worded inner) (worded rest) x w) [
  | inl h ↦ ap (λ b. b || (edits.has_node x inner || edits.has_node x rest)) (is_label x e (sym h.1))
  | inr v ↦ elim v [
    | inl i ↦ ap (λ b. edits.has_label x e || (b || edits.has_node x rest)) (full_has query inner x i) ∙ or-true (edits.has_label x e)
    | inr r ↦ ap (λ b. edits.has_label x e || (edits.has_node x inner || b)) (full_has query rest x r) ∙ ap (λ b. edits.has_label x e || b) (or-true (edits.has_node x inner)) ∙ or-true (edits.has_label x e)
  ]
]

pub answers_are_nodes : (query : List (List ℕ)) (forest : Trees Labelled) (x : List ℤ) → Contains (slca query (worded forest)) x → edits.has_node x forest ≡ true
answers_are_nodes query forest x c = full_has query forest x (answer_full query (worded forest) x (within_of x _ c))

pub full_nodes_have_answers : (query : List (List ℕ)) (forest : Trees Labelled) → is_well_formed forest ≡ true → (x : List ℤ) → Contains (full_nodes query (worded forest)) x → HasAnswer query (worded forest) x
full_nodes_have_answers query forest g x c =
    let a = covers query [] None forest (labels_of forest g) x (within_of x _ c) in
    record { answer = a.0; found = contains_of a.0 _ a.1; below = a.2 }

pub answers_are_smallest : (query : List (List ℕ)) (forest : Trees Labelled) → is_well_formed forest ≡ true → (x : List ℤ) → Contains (slca query (worded forest)) x ↔ IsSmallest query (worded forest) x
answers_are_smallest query forest g x =
    let l = labels_of forest g in (
      λ c.
          let w = within_of x (slca query (worded forest)) c in record {
            full = contains_of x _ (answer_full query (worded forest) x w);
            lowest = λ z d a. lowest query [] None forest l x z w (within_of z _ d) a;
          },
      λ m.
          let h = full_nodes_have_answers query forest g x m.full in
          let is : h.answer ≡ x = m.lowest h.answer (contains_of h.answer _ (answer_full query (worded forest) h.answer (within_of h.answer _ h.found))) h.below in
          subst (λ t. Contains (slca query (worded forest)) t) is h.found,
    )

pub answers_are_apart : (query : List (List ℕ)) (forest : Trees Labelled) → is_well_formed forest ≡ true → (x y : List ℤ) → Contains (slca query (worded forest)) x → Contains (slca query (worded forest)) y → IsAncestorOrSelf x y → y ≡ x
answers_are_apart query forest g x y c d a =
    let w = within_of y (slca query (worded forest)) d in
    lowest query [] None forest (labels_of forest g) x y (within_of x _ c) (answer_full query (worded forest) y w) a

pub answers_rise : (query : List (List ℕ)) (forest : Trees Labelled) → is_well_formed forest ≡ true → AllPairs IsBefore (slca query (worded forest))
answers_rise query forest g = pairs_from (slca query (worded forest)) (rising query [] None forest (labels_of forest g))
