-- The tree at a label of a well-formed forest.
use Rattle.std.proofs.Common.{inl, inr, ◌≡◌, ◌⊎◌, Bool, true, false, cond, [], ◌∷◌, ◌++◌, refl, sym, subst, Some}
use Rattle.std.specs.Prelude.{if◌then◌else◌}
use Rattle.mm_label.specs.Fronts.{Label, Front, Apart, Within}
use Rattle.mm_lists.specs.Full.{Word}
use Rattle.mm_label.specs.Label.{whole}
use Rattle.mm_tree.specs.Trees.{Trees, none, node, Tree}
use Rattle.mm_tree.specs.Numbering.{Labelled}
use Rattle.mm_tree.specs.Search.{Worded, has, list_of, worded, worded_as}
use Rattle.mm_tree.specs.Edits.{found, has_label}
use Rattle.mm_tree.specs.Edits as edits
use Rattle.mm_lists.specs.Formed.{WellFormed}
use Rattle.mm_label.specs.Facts.Fronts.{front_refl, front_trans, front_antisym, fronts_of_one, front_le, le_antisym}
use Rattle.mm_lists.specs.Facts.Below.{NodeOf, node_below, node_after}
use Rattle.mm_label.specs.Facts.Lists.{own_cases, own_of}
use Rattle.mm_label.specs.Facts.Members.{within_joined, within_first, within_second}
use Rattle.mm_lists.specs.Facts.Listed.{listed_node}
use Rattle.mm_label.specs.Facts.Order.{same_label}

-- nothing lies below two that lie apart
pub apart_common : (a b m : Label) → Apart a b → Front a m → Front b m → ⊥
apart_common a b m p f g = elim (fronts_of_one a b m f g) [
  | inl h ↦ p.1 h
  | inr h ↦ p.1 (subst (Front a) (le_antisym a b p.0 (front_le b a h)) (front_refl a))
]

-- ---- the nodes that hold a word, in one tree and in those behind it

-- m is the label of a node that holds the word: the root, or one below it
abbrev pub Holder : Word → Label → Worded → Trees Worded → Type 0
Holder w m e inner = ((has e w ≡ true) × (m ≡ e.label)) ⊎ Within m (list_of w inner)

pub list_node : (w : Word) (m : Label) (e : Worded) (inner rest : Trees Worded) → Within m (list_of w (node e inner rest)) → Holder w m e inner ⊎ Within m (list_of w rest)
list_node w m e inner rest h = elim (within_joined m (cond (has e w) (e.label ∷ []) []) (list_of w inner ++ list_of w rest) h) [
  | inl k ↦ inl (inl (own_cases (has e w) e.label m k))
  | inr k ↦ elim (within_joined m (list_of w inner) (list_of w rest) k) [ inl q ↦ inl (inr q) | inr q ↦ inr q ]
]

pub node_list : (w : Word) (m : Label) (e : Worded) (inner rest : Trees Worded) → Holder w m e inner ⊎ Within m (list_of w rest) → Within m (list_of w (node e inner rest))
node_list w m e inner rest h = elim h [
  | inl k ↦ elim k [
    | inl q ↦ within_first m (cond (has e w) (e.label ∷ []) []) (list_of w inner ++ list_of w rest) (own_of (has e w) e.label m q.0 q.1)
    | inr q ↦ within_second m (cond (has e w) (e.label ∷ []) []) (list_of w inner ++ list_of w rest) (within_first m (list_of w inner) (list_of w rest) q)
  ]
  | inr k ↦ within_second m (cond (has e w) (e.label ∷ []) []) (list_of w inner ++ list_of w rest) (within_second m (list_of w inner) (list_of w rest) k)
]

pub holder_node : (w : Word) (m : Label) (e : Worded) (inner rest : Trees Worded) → Holder w m e inner → NodeOf m (node e inner rest)
holder_node w m e inner rest h = elim h [ inl k ↦ inl k.1 | inr k ↦ inr (inl (listed_node w m inner k)) ]

pub holder_front : (w : Word) (m : Label) (e : Worded) (inner : Trees Worded) → WellFormed e.label inner → Holder w m e inner → Front e.label m
holder_front w m e inner g h = elim h [
  | inl k ↦ subst (Front e.label) (sym k.1) (front_refl e.label)
  | inr k ↦ (node_below e.label m inner g (listed_node w m inner k)).0
]

-- ---- the tree at a label

-- the tree with this root and these children is the trees' at x
pub record IsAt (x : Label) (trees : Trees Worded) (e : Worded) (inner : Trees Worded) : Type 0 where
  pub is : e.label ≡ x
  pub formed : WellFormed e.label inner
  pub is_whole : whole e.label ≡ e.label
  pub node : NodeOf x trees
  pub inside : (w : Word) (m : Label) → Within m (list_of w trees) → Front x m → Holder w m e inner
  pub back : (w : Word) (m : Label) → Holder w m e inner → Within m (list_of w trees)

here_at : (y : Label) (e : Worded) (inner rest : Trees Worded) → WellFormed y (node e inner rest) → IsAt e.label (node e inner rest) e inner
here_at y e inner rest g = record {
  is = refl;
  formed = g.1;
  is_whole = g.0.is_whole;
  node = inl refl;
  inside = λ w m h f. elim (list_node w m e inner rest h) [
    | inl k ↦ k
    | inr k ↦ absurd ((node_after e.label y m rest g.3 g.2 (listed_node w m rest k)).1 f)
  ];
  back = λ w m h. node_list w m e inner rest (inl h);
}

inner_at : (y x : Label) (e d : Worded) (inner rest deep : Trees Worded) → WellFormed y (node e inner rest) → IsAt x inner d deep → IsAt x (node e inner rest) d deep
inner_at y x e d inner rest deep g a =
    let b = node_below e.label x inner g.1 a.node in
    record {
      is = a.is;
      formed = a.formed;
      is_whole = a.is_whole;
      node = inr (inl a.node);
      inside = λ w m h f. elim (list_node w m e inner rest h) [
        | inl k ↦ elim k [
          | inl q ↦ absurd (b.1 (front_antisym x e.label (subst (Front x) q.1 f) b.0))
          | inr q ↦ a.inside w m q f
        ]
        | inr k ↦ absurd ((node_after e.label y m rest g.3 g.2 (listed_node w m rest k)).1 (front_trans e.label x m b.0 f))
      ];
      back = λ w m h. node_list w m e inner rest (inl (inr (a.back w m h)));
    }

rest_at : (y x : Label) (e d : Worded) (inner rest deep : Trees Worded) → WellFormed y (node e inner rest) → IsAt x rest d deep → IsAt x (node e inner rest) d deep
rest_at y x e d inner rest deep g a =
    let b = node_after e.label y x rest g.3 g.2 a.node in
    record {
      is = a.is;
      formed = a.formed;
      is_whole = a.is_whole;
      node = inr (inr a.node);
      inside = λ w m h f. elim (list_node w m e inner rest h) [
        | inl k ↦ absurd (apart_common e.label x m b (holder_front w m e inner g.1 k) f)
        | inr k ↦ a.inside w m k f
      ];
      back = λ w m h. node_list w m e inner rest (inr (a.back w m h));
    }

pub found_at : (y x : Label) (f : Trees Labelled) (t : Tree Labelled) → WellFormed y (worded f) → found x f ≡ Some t → IsAt x (worded f) (worded_as t.0) (worded t.1)
found_at y x none t g h = absurd cc
found_at y x (node e inner rest) t g h = by (has_label x e) refl h (λ k. found_at e.label x inner t g.1 k) (λ k. found_at y x rest t g.3 k)
  where
    deeper : (b : Bool) → (if b then found x inner else found x rest) ≡ Some t → (found x inner ≡ Some t → IsAt x (worded inner) (worded_as t.0) (worded t.1))
        → (found x rest ≡ Some t → IsAt x (worded rest) (worded_as t.0) (worded t.1)) → IsAt x (worded (node e inner rest)) (worded_as t.0) (worded t.1)
    deeper true h p q = inner_at y x (worded_as e) (worded_as t.0) (worded inner) (worded rest) (worded t.1) g (p h)
    deeper false h p q = rest_at y x (worded_as e) (worded_as t.0) (worded inner) (worded rest) (worded t.1) g (q h)

    same : (u v : Tree Labelled) → Some u ≡ Some v → u ≡ v
    same u v e = cc

    by : (b : Bool) → has_label x e ≡ b → (if b then Some (e, inner) else (if edits.has_node x inner then found x inner else found x rest)) ≡ Some t → (found x inner ≡ Some t → IsAt x (worded inner) (worded_as t.0) (worded t.1))
        → (found x rest ≡ Some t → IsAt x (worded rest) (worded_as t.0) (worded t.1)) → IsAt x (worded (node e inner rest)) (worded_as t.0) (worded t.1)
    by true k h p q =
        subst (λ (u : Tree Labelled). IsAt x (worded (node e inner rest)) (worded_as u.0) (worded u.1)) (same (e, inner) t h)
        (subst (λ (z : Label). IsAt z (worded (node e inner rest)) (worded_as e) (worded inner)) (same_label e.label x k)
        (here_at y (worded_as e) (worded inner) (worded rest) g))
    by false k h p q = deeper (edits.has_node x inner) h p q
