-- The node that is found by its label: there is one exactly where a node has the label.
use Rattle.std.proofs.Common.{inl, inr, ◌≡◌, ◌⊎◌, ℤ, Bool, true, false, ◌||◌, cond, List, refl, ap, sym, subst, ◌∙◌, Some, None}
use Rattle.std.specs.Prelude.{if◌then◌else◌}
use Rattle.mm_label.specs.Fronts.{Within}
use Rattle.mm_label.specs.Facts.Members.{within_joined}
use Rattle.mm_label.specs.Facts.Order.{label_same, same_label}
use Rattle.mm_tree.specs.Trees.{Tree, Trees, none, node, preorder}
use Rattle.mm_tree.specs.Numbering.{Labelled}
use Rattle.mm_tree.specs.Formed.{node_label}
use Rattle.mm_tree.specs.Edits.{found, has_label, has_node}
use Rattle.mm_tree.specs.Facts.Nodes.{Stands}

-- ---- it is one of the nodes, and has the label

pub found_stands : (x : List ℤ) (f : Trees Labelled) (t : Tree Labelled) → found x f ≡ Some t → Stands t.0 t.1 f × (t.0.label ≡ x)
found_stands x none t e = absurd cc
found_stands x (node d inner rest) t e = by (has_label x d) refl (has_node x inner) e (found_stands x inner t) (found_stands x rest t)
  where
    by : (a : Bool) → has_label x d ≡ a → (b : Bool) → cond a (Some (d, inner)) (cond b (found x inner) (found x rest)) ≡ Some t → (found x inner ≡ Some t → Stands t.0 t.1 inner × (t.0.label ≡ x)) → (found x rest ≡ Some t → Stands t.0 t.1 rest × (t.0.label ≡ x))
        → Stands t.0 t.1 (node d inner rest) × (t.0.label ≡ x)
    by true h b e f g =
        let q : ◌≡◌ {A = Tree Labelled} (d, inner) t = cc in
        subst (λ (z : Tree Labelled). Stands z.0 z.1 (node d inner rest) × (z.0.label ≡ x)) q (inl (refl, refl), same_label d.label x h)
    by false h true e f g = let r = f e in (inr (inl r.0), r.1)
    by false h false e f g = let r = g e in (inr (inr r.0), r.1)

-- ---- a node has the label

pub some_node : (x : List ℤ) (f : Trees Labelled) (p : Labelled) → Within p (preorder f) → p.label ≡ x → has_node x f ≡ true
some_node x none p w e = absurd w
some_node x (node d inner rest) p w e = elim w [
  | inl h ↦ ap (λ (b : Bool). b || (has_node x inner || has_node x rest)) (label_same d.label x (sym (ap node_label h) ∙ e))
  | inr h ↦ elim (within_joined p (preorder inner) (preorder rest) h) [
    | inl k ↦ or_second (has_label x d) (has_node x inner) (has_node x rest) (inl (some_node x inner p k e))
    | inr k ↦ or_second (has_label x d) (has_node x inner) (has_node x rest) (inr (some_node x rest p k e))
  ]
]
  where
    or_second : (a b c : Bool) → (b ≡ true) ⊎ (c ≡ true) → (a || (b || c)) ≡ true
    or_second true b c h = refl
    or_second false true c h = refl
    or_second false false c h = elim h [ inl k ↦ absurd cc | inr k ↦ k ]

-- ---- found, or not

pub some_found : (x : List ℤ) (f : Trees Labelled) → has_node x f ≡ true → (t : Tree Labelled) × (found x f ≡ Some t)
some_found x none h = absurd cc
some_found x (node d inner rest) h = by (has_label x d) (has_node x inner) refl h (some_found x inner) (some_found x rest)
  where
    by : (a b : Bool) → has_node x inner ≡ b → (a || (b || has_node x rest)) ≡ true → (has_node x inner ≡ true → (t : Tree Labelled) × (found x inner ≡ Some t)) → (has_node x rest ≡ true → (t : Tree Labelled) × (found x rest ≡ Some t))
        → (t : Tree Labelled) × (cond a (Some (d, inner)) (cond b (found x inner) (found x rest)) ≡ Some t)
    by true b q h f g = ((d, inner), refl)
    by false true q h f g = f q
    by false false q h f g = g h

pub not_found : (x : List ℤ) (ts : Trees Labelled) → has_node x ts ≡ false → found x ts ≡ None
not_found x none h = refl
not_found x (node e inner rest) h = by_tests (has_label x e) (has_node x inner) (has_node x rest) h (not_found x rest)
  where
    by_tests : (a b c : Bool) → (a || (b || c)) ≡ false → (c ≡ false → found x rest ≡ None) → (if a then Some (e, inner) else (if b then found x inner else found x rest)) ≡ None
    by_tests true b c h p = absurd cc
    by_tests false true c h p = absurd cc
    by_tests false false c h p = p h

pub present : (x : List ℤ) (ts : Trees Labelled) (t : Tree Labelled) → found x ts ≡ Some t → has_node x ts ≡ true
present x ts t e = by_test (has_node x ts) (not_found x ts)
  where
    by_test : (b : Bool) → (b ≡ false → found x ts ≡ None) → b ≡ true
    by_test true f = refl
    by_test false f = let n : found x ts ≡ None = f refl in absurd cc

pub found_none : (x : List ℤ) (f : Trees Labelled) → found x f ≡ None → has_node x f ≡ false
found_none x none h = refl
found_none x (node e inner rest) h = by (has_label x e) (has_node x inner) refl h (found_none x inner) (found_none x rest)
  where
    by : (a b : Bool) → has_node x inner ≡ b → (if a then Some (e, inner) else (if b then found x inner else found x rest)) ≡ None → (found x inner ≡ None → has_node x inner ≡ false) → (found x rest ≡ None → has_node x rest ≡ false) → a || (b || has_node x rest) ≡ false
    by true b p h f g = absurd cc
    by false true p h f g = absurd (let t = f h in cc)
    by false false p h f g = g h
