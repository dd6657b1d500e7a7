-- The nodes that own every word of a query are those with an occurrence of each outside the full nodes below them.
use Rattle.std.proofs.Common.{◌≡◌, refl, sym, ◌∙◌, subst, ℕ, ◌⊎◌, inl, inr, Bool, true, false, cond, not, ◌&&◌, ◌||◌, List, [], ◌∷◌, ◌++◌, ◌↔◌, Contains}
use Rattle.std.specs.Prelude.{ℤ, Option, Some, None, All}
use Rattle.std.proofs.lemmas.Bool.{or_cases, or_left, or_right, and_from, and_parts}
use Rattle.std.proofs.lemmas.List.Elements.{All-nil, All-cons, All-head, All-tail}
use Rattle.mm_label.specs.Label.{IsAncestorOrSelf}
use Rattle.mm_label.specs.Fronts.{Within}
use Rattle.mm_label.specs.Facts.Fronts.{front_refl, front_trans, front_antisym}
use Rattle.mm_label.specs.Facts.Members.{contains_of, within_of, within_joined, within_first, within_second}
use Rattle.mm_tree.specs.Trees.{Trees, none, node}
use Rattle.mm_tree.specs.Numbering.{Labelled}
use Rattle.mm_tree.specs.Forests.{segment_below, are_labelled, is_well_formed}
use Rattle.mm_tree.specs.Search.{Worded, worded, has, holds, is_full, list_of}
use Rattle.mm_tree.specs.Elca.{outside, owns, elca}
use Rattle.mm_tree.specs.Smallest.{full_nodes}
use Rattle.mm_tree.specs.Owners.{OwnOccurrence, IsExclusive}
use Rattle.mm_tree.specs.Facts.Formed.{Parts, parts}
use Rattle.mm_tree.proofs.OrderLaws.{Under}
use Rattle.mm_tree.proofs.WayLaws.{labels_of}
use Rattle.mm_tree.specs.Facts.Full.{full_of_child}
use Rattle.mm_tree.proofs.SmallestLaws.{seen, full_cases, full_here, full_inside, full_behind, full_root, full_under, here_under, inside_under, behind_under, not_behind, not_above, below, true_false}
use Rattle.mm_tree.proofs.OwnerLaws.{mine, mine_is, mine_only, owner_full}

-- ---- the keyword list of a word

list_cases : (w : List ℕ) (e : Worded) (inner rest : Trees Worded) (x : List ℤ) → Within x (list_of w (node e inner rest))
    → ((has e w ≡ true) × (x ≡ e.label)) ⊎ (Within x (list_of w inner) ⊎ Within x (list_of w rest))
list_cases w e inner rest x v = by (has e w) refl v
  where
    by : (b : Bool) → has e w ≡ b → Within x (cond b (e.label ∷ []) [] ++ (list_of w inner ++ list_of w rest))
        → ((has e w ≡ true) × (x ≡ e.label)) ⊎ (Within x (list_of w inner) ⊎ Within x (list_of w rest))
    by true h (inl g) = inl (h, g)
    by true h (inr u) = inr (within_joined x (list_of w inner) (list_of w rest) u)
    by false h u = inr (within_joined x (list_of w inner) (list_of w rest) u)

list_here : (w : List ℕ) (e : Worded) (inner rest : Trees Worded) → has e w ≡ true → Within e.label (list_of w (node e inner rest))
list_here w e inner rest h = subst (λ b. Within e.label (cond b (e.label ∷ []) [] ++ (list_of w inner ++ list_of w rest))) (sym h) (inl refl)

list_inside : (w : List ℕ) (e : Worded) (inner rest : Trees Worded) (x : List ℤ) → Within x (list_of w inner) → Within x (list_of w (node e inner rest))
list_inside w e inner rest x v = within_second x (cond (has e w) (e.label ∷ []) []) _ (within_first x (list_of w inner) (list_of w rest) v)

list_behind : (w : List ℕ) (e : Worded) (inner rest : Trees Worded) (x : List ℤ) → Within x (list_of w rest) → Within x (list_of w (node e inner rest))
list_behind w e inner rest x v = within_second x (cond (has e w) (e.label ∷ []) []) _ (within_second x (list_of w inner) (list_of w rest) v)

held_somewhere : (w : List ℕ) (ts : Trees Worded) → holds w ts ≡ true → (x : List ℤ) × Within x (list_of w ts)
held_somewhere w none h = absurd cc
held_somewhere w (node e inner rest) h = elim (or_cases (has e w) _ h) [
  | inl k ↦ (e.label, list_here w e inner rest k)
  | inr k ↦ elim (or_cases (holds w inner) _ k) [
    | inl i ↦ let f = held_somewhere w inner i in (f.0, list_inside w e inner rest f.0 f.1)
    | inr r ↦ let f = held_somewhere w rest r in (f.0, list_behind w e inner rest f.0 f.1)
  ]
]

somewhere_held : (w : List ℕ) (ts : Trees Worded) (x : List ℤ) → Within x (list_of w ts) → holds w ts ≡ true
somewhere_held w none x v = absurd v
somewhere_held w (node e inner rest) x v = elim (list_cases w e inner rest x v) [
  | inl h ↦ or_left (has e w) _ h.0
  | inr u ↦ elim u [
    | inl i ↦ or_right (has e w) _ (or_left (holds w inner) _ (somewhere_held w inner x i))
    | inr r ↦ or_right (has e w) _ (or_right (holds w inner) _ (somewhere_held w rest x r))
  ]
]

list_under : (w : List ℕ) (y : List ℤ) (left : Option (List ℤ)) (ts : Trees Labelled) → are_labelled y left ts ≡ true → (x : List ℤ) → Within x (list_of w (worded ts)) → Under y left x
list_under w y left none l x v = absurd v
list_under w y left (node e inner rest) l x v =
    let p = parts y left e inner rest l in
    elim (list_cases w (seen e) (worded inner) (worded rest) x v) [
      | inl h ↦ subst (λ z. Under y left z) (sym h.1) (here_under y left e inner rest p)
      | inr u ↦ elim u [
        | inl i ↦ inside_under y left e inner rest p x (list_under w e.label None inner p.below x i)
        | inr r ↦ behind_under y left e inner rest p x (list_under w y (Some (segment_below y e.label)) rest p.after x r)
      ]
    ]

-- ---- an occurrence outside the full ones among siblings

abbrev Outside : List (List ℕ) → List ℕ → Trees Worded → Type 0
Outside query w ts = (m : List ℤ) × Within m (list_of w ts) × ((z : List ℤ) → Within z (full_nodes query ts) → IsAncestorOrSelf z m → ⊥)

second_of : (a b : Bool) → (not a && b) ≡ true → (a ≡ false) × (b ≡ true)
second_of true b e = absurd cc
second_of false b e = (refl, e)

outside_at : (query : List (List ℕ)) (w : List ℕ) (y : List ℤ) (left : Option (List ℤ)) (ts : Trees Labelled) → are_labelled y left ts ≡ true → outside w query (worded ts) ≡ true → Outside query w (worded ts)
outside_at query w y left none l h = absurd cc
outside_at query w y left (node e inner rest) l h =
    let s = segment_below y e.label in
    let p = parts y left e inner rest l in
    let I = worded inner in
    let R = worded rest in
    let behind : (z : List ℤ) → Within z (full_nodes query R) → Under y (Some s) z = full_under query y (Some s) rest p.after in
    let inside : (z : List ℤ) → Within z (full_nodes query I) → Under e.label None z = full_under query e.label None inner p.below in
    elim (or_cases (not (is_full query (seen e) I) && (has (seen e) w || holds w I)) _ h) [
      | inl k ↦
          let q = second_of (is_full query (seen e) I) _ k in
          let found : (m : List ℤ) × Within m (list_of w (worded (node e inner rest))) × IsAncestorOrSelf e.label m = elim (or_cases (has (seen e) w) _ q.1) [
            | inl g ↦ (e.label, list_here w (seen e) I R g, front_refl e.label)
            | inr g ↦ let f = held_somewhere w I g in (f.0, list_inside w (seen e) I R f.0 f.1, below e.label f.0 (list_under w e.label None inner p.below f.0 f.1))
          ] in (
            found.0,
            found.1,
            λ z v a. elim (full_cases query (seen e) I R z v) [
              | inl f ↦ true_false (sym f.0 ∙ q.0)
              | inr u ↦ elim u [
                | inl i ↦ true_false (sym (full_of_child query (seen e) I (full_root query I z i)) ∙ q.0)
                | inr r ↦ not_behind y left e inner rest p z found.0 (behind z r) found.2 a
              ]
            ],
          )
      | inr k ↦
          let t = outside_at query w y (Some s) rest p.after k in
          let u : Under y (Some s) t.0 = list_under w y (Some s) rest p.after t.0 t.1 in (
            t.0,
            list_behind w (seen e) I R t.0 t.1,
            λ z v a. elim (full_cases query (seen e) I R z v) [
              | inl f ↦ not_behind y left e inner rest p t.0 t.0 u (subst (λ x. IsAncestorOrSelf x t.0) f.1 a) (front_refl t.0)
              | inr c ↦ elim c [
                | inl i ↦ not_behind y left e inner rest p t.0 t.0 u (front_trans e.label z t.0 (below e.label z (inside z i)) a) (front_refl t.0)
                | inr r ↦ t.2 z r a
              ]
            ],
          )
    ]

outside_of : (query : List (List ℕ)) (w : List ℕ) (y : List ℤ) (left : Option (List ℤ)) (ts : Trees Labelled) → are_labelled y left ts ≡ true → Outside query w (worded ts) → outside w query (worded ts) ≡ true
outside_of query w y left none l t = absurd t.1
outside_of query w y left (node e inner rest) l t =
    let p = parts y left e inner rest l in
    let I = worded inner in
    let R = worded rest in
    let first : IsAncestorOrSelf e.label t.0 → (has (seen e) w || holds w I) ≡ true → outside w query (worded (node e inner rest)) ≡ true
    = λ a h. or_left (not (is_full query (seen e) I) && (has (seen e) w || holds w I)) _ (not_full (is_full query (seen e) I) refl a h) in
    elim (list_cases w (seen e) I R t.0 t.1) [
      | inl h ↦ first (subst (λ x. IsAncestorOrSelf e.label x) (sym h.1) (front_refl e.label)) (or_left (has (seen e) w) _ h.0)
      | inr u ↦ elim u [
        | inl i ↦ first (below e.label t.0 (list_under w e.label None inner p.below t.0 i)) (or_right (has (seen e) w) _ (somewhere_held w I t.0 i))
        | inr r ↦ or_right (not (is_full query (seen e) I) && (has (seen e) w || holds w I)) _
            (outside_of query w y (Some (segment_below y e.label)) rest p.after (t.0, r, λ z v a. t.2 z (full_behind query (seen e) I R z v) a))
      ]
    ]
  where
    not_full : (b : Bool) → is_full query (seen e) (worded inner) ≡ b → IsAncestorOrSelf e.label t.0 → (has (seen e) w || holds w (worded inner)) ≡ true → (not b && (has (seen e) w || holds w (worded inner))) ≡ true
    not_full true f a h = absurd (t.2 e.label (full_here query (seen e) (worded inner) (worded rest) f) a)
    not_full false f a h = h

-- ---- an occurrence that is a node's own

abbrev Own : List (List ℕ) → Trees Worded → List ℤ → List ℕ → Type 0
Own query ts x w = (m : List ℤ) × Within m (list_of w ts) × IsAncestorOrSelf x m × ((z : List ℤ) → Within z (full_nodes query ts) → IsAncestorOrSelf x z → IsAncestorOrSelf z m → z ≡ x)

abbrev OwnEach : List (List ℕ) → Trees Worded → List ℤ → List (List ℕ) → Type 0
OwnEach query ts x [] = Unit {0}
OwnEach query ts x (w ∷ ws) = Own query ts x w × OwnEach query ts x ws

each_so : (query : List (List ℕ)) (ts us : Trees Worded) (x : List ℤ) → ((w : List ℕ) → Own query ts x w → Own query us x w) → (ws : List (List ℕ)) → OwnEach query ts x ws → OwnEach query us x ws
each_so query ts us x f [] h = tt
each_so query ts us x f (w ∷ ws) h = (f w h.0, each_so query ts us x f ws h.1)

-- two labels that are at or below each other are one
one_label : (x z : List ℤ) → IsAncestorOrSelf x z → IsAncestorOrSelf z x → z ≡ x
one_label x z a b = front_antisym z x b a

-- at the root of a tree
module _ (query : List (List ℕ)) (y : List ℤ) (left : Option (List ℤ)) (e : Labelled) (inner rest : Trees Labelled) (p : Parts y left e inner rest) where
  behind_it : (z : List ℤ) → Within z (full_nodes query (worded rest)) → Under y (Some (segment_below y e.label)) z
  behind_it = full_under query y (Some (segment_below y e.label)) rest p.after

  inside_it : (z : List ℤ) → Within z (full_nodes query (worded inner)) → Under e.label None z
  inside_it = full_under query e.label None inner p.below

  root_owns : (w : List ℕ) → (has (seen e) w || outside w query (worded inner)) ≡ true → Own query (worded (node e inner rest)) e.label w
  root_owns w h = elim (or_cases (has (seen e) w) _ h) [
    | inl k ↦ (e.label, list_here w (seen e) (worded inner) (worded rest) k, front_refl e.label, λ z v a b. one_label e.label z a b)
    | inr k ↦
        let t = outside_at query w e.label None inner p.below k in (
          t.0,
          list_inside w (seen e) (worded inner) (worded rest) t.0 t.1,
          below e.label t.0 (list_under w e.label None inner p.below t.0 t.1),
          λ z v a b. elim (full_cases query (seen e) (worded inner) (worded rest) z v) [
            | inl f ↦ f.1
            | inr u ↦ elim u [
              | inl i ↦ absurd (t.2 z i b)
              | inr r ↦ absurd (not_behind y left e inner rest p z z (behind_it z r) a (front_refl z))
            ]
          ],
        )
  ]

  own_root : (w : List ℕ) → Own query (worded (node e inner rest)) e.label w → (has (seen e) w || outside w query (worded inner)) ≡ true
  own_root w o = elim (list_cases w (seen e) (worded inner) (worded rest) o.0 o.1) [
    | inl h ↦ or_left (has (seen e) w) _ h.0
    | inr u ↦ elim u [
      | inl i ↦ or_right (has (seen e) w) _ (outside_of query w e.label None inner p.below (
        o.0,
        i,
        λ z v b.
            not_above e.label z (inside_it z v) (subst (λ t. IsAncestorOrSelf z t) (o.3 z (full_inside query (seen e) (worded inner) (worded rest) z v) (below e.label z (inside_it z v)) b) (front_refl z)),
      ))
      | inr r ↦ absurd (not_behind y left e inner rest p o.0 o.0 (list_under w y (Some (segment_below y e.label)) rest p.after o.0 r) o.2 (front_refl o.0))
    ]
  ]

  roots_own : (ws : List (List ℕ)) → owns ws query (seen e) (worded inner) ≡ true → OwnEach query (worded (node e inner rest)) e.label ws
  roots_own [] h = tt
  roots_own (w ∷ ws) h = let q = and_parts (has (seen e) w || outside w query (worded inner)) (owns ws query (seen e) (worded inner)) h in (root_owns w q.0, roots_own ws q.1)

  own_roots : (ws : List (List ℕ)) → OwnEach query (worded (node e inner rest)) e.label ws → owns ws query (seen e) (worded inner) ≡ true
  own_roots [] h = refl
  own_roots (w ∷ ws) h = and_from (has (seen e) w || outside w query (worded inner)) (owns ws query (seen e) (worded inner)) (own_root w h.0) (own_roots ws h.1)

  -- below the root, the whole tree and its siblings tell nothing more
  up_inside : (x : List ℤ) → Under e.label None x → (w : List ℕ) → Own query (worded inner) x w → Own query (worded (node e inner rest)) x w
  up_inside x n w o = (
    o.0,
    list_inside w (seen e) (worded inner) (worded rest) o.0 o.1,
    o.2,
    λ z v a b. elim (full_cases query (seen e) (worded inner) (worded rest) z v) [
      | inl f ↦ absurd (not_above e.label x n (subst (λ t. IsAncestorOrSelf x t) f.1 a))
      | inr u ↦ elim u [
        | inl i ↦ o.3 z i a b
        | inr r ↦ absurd (not_behind y left e inner rest p z z (behind_it z r) (front_trans e.label x z (below e.label x n) a) (front_refl z))
      ]
    ],
  )

  down_inside : (x : List ℤ) → Under e.label None x → (w : List ℕ) → Own query (worded (node e inner rest)) x w → Own query (worded inner) x w
  down_inside x n w o = elim (list_cases w (seen e) (worded inner) (worded rest) o.0 o.1) [
    | inl h ↦ absurd (not_above e.label x n (subst (λ t. IsAncestorOrSelf x t) h.1 o.2))
    | inr u ↦ elim u [
      | inl i ↦ (o.0, i, o.2, λ z v a b. o.3 z (full_inside query (seen e) (worded inner) (worded rest) z v) a b)
      | inr r ↦ absurd (not_behind y left e inner rest p o.0 o.0 (list_under w y (Some (segment_below y e.label)) rest p.after o.0 r) (front_trans e.label x o.0 (below e.label x n) o.2) (front_refl o.0))
    ]
  ]

  -- and so behind it
  up_behind : (x : List ℤ) → Under y (Some (segment_below y e.label)) x → (w : List ℕ) → Own query (worded rest) x w → Own query (worded (node e inner rest)) x w
  up_behind x n w o = (
    o.0,
    list_behind w (seen e) (worded inner) (worded rest) o.0 o.1,
    o.2,
    λ z v a b. elim (full_cases query (seen e) (worded inner) (worded rest) z v) [
      | inl f ↦ absurd (not_behind y left e inner rest p x z n (subst (λ t. IsAncestorOrSelf e.label t) (sym f.1) (front_refl e.label)) a)
      | inr u ↦ elim u [
        | inl i ↦ absurd (not_behind y left e inner rest p x z n (below e.label z (inside_it z i)) a)
        | inr r ↦ o.3 z r a b
      ]
    ],
  )

  down_behind : (x : List ℤ) → Under y (Some (segment_below y e.label)) x → (w : List ℕ) → Own query (worded (node e inner rest)) x w → Own query (worded rest) x w
  down_behind x n w o = elim (list_cases w (seen e) (worded inner) (worded rest) o.0 o.1) [
    | inl h ↦ absurd (not_behind y left e inner rest p x o.0 n (subst (λ t. IsAncestorOrSelf e.label t) (sym h.1) (front_refl e.label)) o.2)
    | inr u ↦ elim u [
      | inl i ↦ absurd (not_behind y left e inner rest p x o.0 n (below e.label o.0 (list_under w e.label None inner p.below o.0 i)) o.2)
      | inr r ↦ (o.0, r, o.2, λ z v a b. o.3 z (full_behind query (seen e) (worded inner) (worded rest) z v) a b)
    ]
  ]

-- ---- the answers

answer_owns : (query : List (List ℕ)) (y : List ℤ) (left : Option (List ℤ)) (ts : Trees Labelled) → are_labelled y left ts ≡ true → (x : List ℤ) → Within x (elca query (worded ts)) → OwnEach query (worded ts) x query
answer_owns query y left none l x v = absurd v
answer_owns query y left (node e inner rest) l x v =
    let p = parts y left e inner rest l in
    let I = worded inner in
    let R = worded rest in
    elim (within_joined x (mine query (seen e) I) (elca query I ++ elca query R) v) [
      | inl m ↦ let k = mine_only query (seen e) I x m in subst (λ t. OwnEach query (worded (node e inner rest)) t query) (sym k.1) (roots_own query y left e inner rest p query k.0)
      | inr u ↦ elim (within_joined x (elca query I) (elca query R) u) [
        | inl i ↦ each_so query I (worded (node e inner rest)) x (up_inside query y left e inner rest p x (inside_it query y left e inner rest p x (owner_full query I x i))) query (answer_owns query e.label None inner p.below x i)
        | inr r ↦ each_so query R (worded (node e inner rest)) x (up_behind query y left e inner rest p x (behind_it query y left e inner rest p x (owner_full query R x r))) query (answer_owns query y (Some (segment_below y e.label)) rest p.after x r)
      ]
    ]

owner_answers : (query : List (List ℕ)) (y : List ℤ) (left : Option (List ℤ)) (ts : Trees Labelled) → are_labelled y left ts ≡ true → (x : List ℤ) → Within x (full_nodes query (worded ts)) → OwnEach query (worded ts) x query
    → Within x (elca query (worded ts))
owner_answers query y left none l x v o = absurd v
owner_answers query y left (node e inner rest) l x v o =
    let p = parts y left e inner rest l in
    let I = worded inner in
    let R = worded rest in
    elim (full_cases query (seen e) I R x v) [
      | inl h ↦
          let k : owns query query (seen e) I ≡ true = own_roots query y left e inner rest p query (subst (λ t. OwnEach query (worded (node e inner rest)) t query) h.1 o) in
          within_first x (mine query (seen e) I) (elca query I ++ elca query R) (subst (λ t. Within t (mine query (seen e) I)) (sym h.1) (mine_is query (seen e) I k))
      | inr u ↦ elim u [
        | inl i ↦ within_second x (mine query (seen e) I) _ (within_first x (elca query I) (elca query R)
            (owner_answers query e.label None inner p.below x i (each_so query (worded (node e inner rest)) I x (down_inside query y left e inner rest p x (inside_it query y left e inner rest p x i)) query o)))
        | inr r ↦ within_second x (mine query (seen e) I) _ (within_second x (elca query I) (elca query R)
            (owner_answers query y (Some (segment_below y e.label)) rest p.after x r (each_so query (worded (node e inner rest)) R x (down_behind query y left e inner rest p x (behind_it query y left e inner rest p x r)) query o)))
      ]
    ]

-- ---- the law

occurrences : (query : List (List ℕ)) (ts : Trees Worded) (x : List ℤ) (ws : List (List ℕ)) → OwnEach query ts x ws → All (OwnOccurrence query ts x) ws
occurrences query ts x [] h = All-nil (OwnOccurrence query ts x)
occurrences query ts x (w ∷ ws) h =
    let o = h.0 in
    All-cons (OwnOccurrence query ts x) w ws
    (record { occurrence = o.0; has_word = contains_of o.0 (list_of w ts) o.1; below = o.2; outside = λ z v a b. o.3 z (within_of z (full_nodes query ts) v) a b })
    (occurrences query ts x ws h.1)

each_owned : (query : List (List ℕ)) (ts : Trees Worded) (x : List ℤ) (ws : List (List ℕ)) → All (OwnOccurrence query ts x) ws → OwnEach query ts x ws
each_owned query ts x [] h = tt
each_owned query ts x (w ∷ ws) h =
    let o = All-head (OwnOccurrence query ts x) w ws h in (
      (o.occurrence, within_of o.occurrence (list_of w ts) o.has_word, o.below, λ z v a b. o.outside z (contains_of z (full_nodes query ts) v) a b),
      each_owned query ts x ws (All-tail (OwnOccurrence query ts x) w ws h),
    )

pub answers_are_exclusive : (query : List (List ℕ)) (forest : Trees Labelled) → is_well_formed forest ≡ true → (x : List ℤ) → Contains (elca query (worded forest)) x ↔ IsExclusive query (worded forest) x
answers_are_exclusive query forest g x =
    let l = labels_of forest g in (
      λ c. let v = within_of x (elca query (worded forest)) c in record {
        full = contains_of x (full_nodes query (worded forest)) (owner_full query (worded forest) x v);
        words = occurrences query (worded forest) x query (answer_owns query [] None forest l x v);
      },
      λ m. contains_of x (elca query (worded forest)) (owner_answers query [] None forest l x (within_of x (full_nodes query (worded forest)) m.full) (each_owned query (worded forest) x query m.words)),
    )
