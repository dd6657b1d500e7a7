-- The answers of a search tell which children of a node are full.
use Rattle.std.proofs.Common.{inl, inr, ◌≡◌, ◌⊎◌, true, ◌||◌, cond, List, [], ◌∷◌, ◌++◌, refl, ap, sym, subst, ◌∙◌, Some}
use Rattle.std.specs.Prelude.{◌↔◌}
use Rattle.std.specs.List.{Contains}
use Rattle.std.proofs.lemmas.Bool.{or_cases, or_left, or_right}
use Rattle.mm_label.specs.Fronts.{Label, Front, Within}
use Rattle.mm_tree.specs.Trees.{Trees, Tree, none, node}
use Rattle.mm_tree.specs.Numbering.{Labelled}
use Rattle.mm_tree.specs.Edits.{found}
use Rattle.mm_tree.specs.Fragments.{named}
use Rattle.mm_tree.specs.Search.{Worded, worded, has, holds, is_full, slca, worded_as}
use Rattle.mm_tree.specs.Elca.{elca}
use Rattle.mm_tree.specs.Smallest.{full_nodes, AnswersAreSmallest, FullNodesHaveAnswers}
use Rattle.mm_tree.specs.Owners.{SmallestAreExclusive, ExclusiveAreFull}
use Rattle.mm_tree.specs.Formed.{Formed, node_label}
use Rattle.mm_tree.specs.Facts.Nodes.{Stands, stands_under, stands_after}
use Rattle.mm_fragment.specs.Matching.{Reaches, TellsAll}
use Rattle.mm_fragment.specs.Telling.{SmallestTell, ExclusiveTell}
use Rattle.mm_label.specs.Facts.Lists.{own_cases, own_of}
use Rattle.mm_label.specs.Facts.Members.{contains_of, within_of, within_joined, within_first, within_second}
use Rattle.mm_fragment.proofs.Subtree.{apart_common}
use Rattle.mm_tree.specs.Facts.Found.{found_stands}
use Rattle.mm_fragment.proofs.Open.{bares_named}
use Rattle.mm_label.specs.Facts.Fronts.{front_refl, front_trans, front_antisym}
use Rattle.mm_tree.specs.Facts.Formed.{formed}
use Rattle.mm_fragment.proofs.LinkPaths.{Word}
use Rattle.mm_tree.specs.Facts.Full.{full_above}

-- ---- nodes with their children

stands_below : (d e : Labelled) (low inner f : Trees Labelled) → Stands d low inner → Stands e inner f → Stands d low f
stands_below d e low inner none s h = absurd h
stands_below d e low inner (node g i r) s h = elim h [
  | inl k ↦ inr (inl (subst (Stands d low) k.1 s))
  | inr k ↦ elim k [
    | inl q ↦ inr (inl (stands_below d e low inner i s q))
    | inr q ↦ inr (inr (stands_below d e low inner r s q))
  ]
]

-- a node at or below another one, by its label, is that or one of those below it
abbrev pub IsInside : Labelled → Trees Labelled → Labelled → Trees Labelled → Type 0
IsInside d low e inner = ((d ≡ e) × (low ≡ inner)) ⊎ Stands d low inner

stands_inside : (y : Label) (f : Trees Labelled) (d e : Labelled) (low inner : Trees Labelled) → Formed node_label y f → Stands d low f → Stands e inner f → Front e.label d.label → IsInside d low e inner
stands_inside y none d e low inner u s h g = absurd h
stands_inside y (node n i r) d e low inner u s h g = elim h [
  | inl k ↦ elim s [
    | inl q ↦ inl (q.0 ∙ sym k.0, q.1 ∙ sym k.1)
    | inr q ↦ elim q [
      | inl z ↦ inr (subst (Stands d low) (sym k.1) z)
      | inr z ↦ absurd ((stands_after node_label n.label y r d low u.3 u.2 z).1 (subst (λ (m : Labelled). Front m.label d.label) k.0 g))
    ]
  ]
  | inr k ↦ elim k [
    | inl q ↦
        let b = stands_under node_label n.label i e inner u.1 q in
        elim s [
          | inl z ↦ absurd (b.1 (front_antisym e.label n.label (subst (λ (m : Labelled). Front e.label m.label) z.0 g) b.0))
          | inr z ↦ elim z [
            | inl v ↦ stands_inside n.label i d e low inner u.1 v q g
            | inr v ↦ absurd ((stands_after node_label n.label y r d low u.3 u.2 v).1 (front_trans n.label e.label d.label b.0 g))
          ]
        ]
    | inr q ↦ elim s [
      | inl z ↦ absurd (passed q n.label (subst (λ (m : Labelled). Front e.label m.label) z.0 g) (front_refl n.label))
      | inr z ↦ elim z [
        | inl v ↦ absurd (passed q d.label g (stands_under node_label n.label i d low u.1 v).0)
        | inr v ↦ stands_inside y r d e low inner u.3 v q g
      ]
    ]
  ]
]
  where
    passed : Stands e inner r → (x : Label) → Front e.label x → Front n.label x → ⊥
    passed q x a b = apart_common n.label e.label x (stands_after node_label n.label y r e inner u.3 u.2 q) b a

-- ---- full nodes

stands_holds : (w : Word) (f : Trees Labelled) (d : Labelled) (low : Trees Labelled) → Stands d low f → (has (worded_as d) w || holds w (worded low)) ≡ true → holds w (worded f) ≡ true
stands_holds w none d low s h = absurd s
stands_holds w (node e inner rest) d low s h = elim s [
  | inl k ↦ first (subst (λ (i : Trees Labelled). (has (worded_as e) w || holds w (worded i)) ≡ true) k.1 (subst (λ (n : Labelled). (has (worded_as n) w || holds w (worded low)) ≡ true) k.0 h))
  | inr k ↦ or_right (has (worded_as e) w) (holds w (worded inner) || holds w (worded rest)) (elim k [
    | inl q ↦ or_left (holds w (worded inner)) (holds w (worded rest)) (stands_holds w inner d low q h)
    | inr q ↦ or_right (holds w (worded inner)) (holds w (worded rest)) (stands_holds w rest d low q h)
  ])
]
  where
    first : (has (worded_as e) w || holds w (worded inner)) ≡ true → (has (worded_as e) w || (holds w (worded inner) || holds w (worded rest))) ≡ true
    first h = elim (or_cases (has (worded_as e) w) (holds w (worded inner)) h) [
      | inl q ↦ or_left (has (worded_as e) w) (holds w (worded inner) || holds w (worded rest)) q
      | inr q ↦ or_right (has (worded_as e) w) (holds w (worded inner) || holds w (worded rest)) (or_left (holds w (worded inner)) (holds w (worded rest)) q)
    ]

inside_full : (query : List Word) (d e : Labelled) (low inner : Trees Labelled) → IsInside d low e inner → is_full query (worded_as d) (worded low) ≡ true → is_full query (worded_as e) (worded inner) ≡ true
inside_full query d e low inner s h = elim s [
  | inl k ↦ subst (λ (i : Trees Labelled). is_full query (worded_as e) (worded i) ≡ true) k.1 (subst (λ (n : Labelled). is_full query (worded_as n) (worded low) ≡ true) k.0 h)
  | inr k ↦ full_above query (worded_as e) (worded_as d) (worded inner) (worded low)
      (λ w a. or_right (has (worded_as e) w) (holds w (worded inner)) (stands_holds w inner d low k a)) h
]

full_listed : (query : List Word) (f : Trees Labelled) (d : Labelled) (low : Trees Labelled) → Stands d low f → is_full query (worded_as d) (worded low) ≡ true → Within d.label (full_nodes query (worded f))
full_listed query none d low s h = absurd s
full_listed query (node e inner rest) d low s h = elim s [
  | inl k ↦ within_first d.label (mine e inner) (full_nodes query (worded inner) ++ full_nodes query (worded rest))
      (subst (λ (x : Label). Within x (mine e inner)) (sym (ap node_label k.0)) (own_of (is_full query (worded_as e) (worded inner)) e.label e.label (inside_full query d e low inner (inl k) h) refl))
  | inr k ↦ within_second d.label (mine e inner) (full_nodes query (worded inner) ++ full_nodes query (worded rest)) (elim k [
    | inl q ↦ within_first d.label (full_nodes query (worded inner)) (full_nodes query (worded rest)) (full_listed query inner d low q h)
    | inr q ↦ within_second d.label (full_nodes query (worded inner)) (full_nodes query (worded rest)) (full_listed query rest d low q h)
  ])
]
  where
    mine : Labelled → Trees Labelled → List Label
    mine e inner = cond (is_full query (worded_as e) (worded inner)) (e.label ∷ []) []

-- a full node with the label
pub record FullAt (query : List Word) (x : Label) (f : Trees Labelled) : Type 0 where
  pub entry : Labelled
  pub low : Trees Labelled
  pub stands : Stands entry low f
  pub is : x ≡ entry.label
  pub full : is_full query (worded_as entry) (worded low) ≡ true

listed_full : (query : List Word) (x : Label) (f : Trees Labelled) → Within x (full_nodes query (worded f)) → FullAt query x f
listed_full query x none h = absurd h
listed_full query x (node e inner rest) h = elim (within_joined x (cond (is_full query (worded_as e) (worded inner)) (e.label ∷ []) []) (full_nodes query (worded inner) ++ full_nodes query (worded rest)) h) [
  | inl k ↦ let o = own_cases (is_full query (worded_as e) (worded inner)) e.label x k in record { entry = e; low = inner; stands = inl (refl, refl); is = o.1; full = o.0 }
  | inr k ↦ elim (within_joined x (full_nodes query (worded inner)) (full_nodes query (worded rest)) k) [
    | inl q ↦ let r = listed_full query x inner q in record { entry = r.entry; low = r.low; stands = inr (inl r.stands); is = r.is; full = r.full }
    | inr q ↦ let r = listed_full query x rest q in record { entry = r.entry; low = r.low; stands = inr (inr r.stands); is = r.is; full = r.full }
  ]
]

-- ---- the children of a node

all_tell : (query : List Word) (answers : List Label) (s : Trees Labelled)
    → ((e : Labelled) (inner : Trees Labelled) → Stands e inner s → (is_full query (worded_as e) (worded inner) ≡ true) ↔ Reaches e.label answers) → TellsAll answers query (named s)
all_tell query answers none h = tt
all_tell query answers (node e inner rest) h = (
  subst (λ (i : Trees Worded). (is_full query (worded_as e) i ≡ true) ↔ Reaches e.label answers) (sym (bares_named inner)) (h e inner (inl (refl, refl))),
  all_tell query answers rest (λ d low w. h d low (inr (inr w))),
)

-- where the answers are full nodes, and each full node has one at or below it
answers_tell : (query : List Word) (f : Trees Labelled) (answers : List Label) → Formed node_label [] f
    → ((x : Label) → Contains (full_nodes query (worded f)) x → Reaches x answers) → ((x : Label) → Contains answers x → Contains (full_nodes query (worded f)) x)
    → (e : Labelled) (inner : Trees Labelled) → Stands e inner f → (is_full query (worded_as e) (worded inner) ≡ true) ↔ Reaches e.label answers
answers_tell query f answers u reached full e inner s = (
  λ h. reached e.label (contains_of e.label (full_nodes query (worded f)) (full_listed query f e inner s h)),
  λ r.
      let k = listed_full query r.0 f (within_of r.0 (full_nodes query (worded f)) (full r.0 r.1)) in
      inside_full query k.entry e k.low inner (stands_inside [] f k.entry e k.low inner u k.stands s (subst (Front e.label) k.is r.2)) k.full,
)

below_root : (x : Label) (f : Trees Labelled) (t : Tree Labelled) → found x f ≡ Some t → (e : Labelled) (inner : Trees Labelled) → Stands e inner t.1 → Stands e inner f
below_root x f t h e inner s = stands_below e t.0 inner t.1 f s (found_stands x f t h).0

pub smallest_tell : AnswersAreSmallest → FullNodesHaveAnswers → SmallestTell
smallest_tell are have query f w x t h =
    let tell = answers_tell query f (slca query (worded f)) (formed f w)
    (λ z c. let a = have query f w z c in (a.answer, a.found, a.below))
    (λ z c. ((are query f w z).0 c).full) in
    all_tell query (slca query (worded f)) t.1 (λ e inner s. tell e inner (below_root x f t h e inner s))

pub exclusive_tell : FullNodesHaveAnswers → SmallestAreExclusive → ExclusiveAreFull → ExclusiveTell
exclusive_tell have exclusive full query f w x t h =
    let tell = answers_tell query f (elca query (worded f)) (formed f w)
    (λ z c. let a = have query f w z c in (a.answer, exclusive query f a.answer a.found, a.below))
    (λ z c. full query f z c) in
    all_tell query (elca query (worded f)) t.1 (λ e inner s. tell e inner (below_root x f t h e inner s))
