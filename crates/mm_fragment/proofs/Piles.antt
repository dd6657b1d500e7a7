-- A stack of fragments, and what is taken off it.
use Rattle.std.proofs.Common.{inl, inr, ◌≡◌, ◌⊎◌, Bool, true, false, List, [], ◌∷◌, ◌++◌, refl, sym, subst, ap, ap₂, ◌∙◌, Some, None, append_assoc}
use Rattle.std.specs.Prelude.{if◌then◌else◌}
use Rattle.std.proofs.lemmas.List.{reverse-append}
use Rattle.mm_label.specs.Fronts.{Label, is_front}
use Rattle.mm_tree.specs.declared.fragment.Fragment.{Fragment}
use Rattle.mm_tree.specs.declared.fragment.Fragment.TheFolds.{fold_out-Fragment}
use Rattle.mm_tree.specs.declared.fragment.Fragment.TheViews.{out-Fragment}
use Rattle.mm_tree.specs.Trees.{Trees, none, node, Tree, one}
use Rattle.mm_tree.specs.Forests.{and_then}
use Rattle.mm_tree.specs.Fragments.{Named, fragment_step, fragment_tree, fragment_trees}
use Rattle.mm_tree.specs.Formed.{name_label}
use Rattle.mm_tree.specs.Rebuild.{below, behind, take_in, rebuild}
use Rattle.mm_fragment.specs.Inside.Piling.{piled, label_of, TakesOff, TakesBelow, roots}

-- a fragment's own label is that of its tree's root
pub label_out : (f : Fragment) → label_of f ≡ (out-Fragment f).label
label_out f = ap (λ (t : Tree Named). t.0.label) (fold_out-Fragment (Tree Named) fragment_step f)

-- the last of the stack comes first
pub piled_last : (s : List Fragment) (t : Fragment) → piled (s ++ t ∷ []) ≡ node (fragment_tree t).0 (fragment_tree t).1 (piled s)
piled_last s t = ap fragment_trees (reverse-append s (t ∷ []))

pub trees_last : (s : List Fragment) (t : Fragment) (us : Trees Named) → and_then (fragment_trees (s ++ t ∷ [])) us ≡ and_then (fragment_trees s) (node (fragment_tree t).0 (fragment_tree t).1 us)
trees_last [] t us = refl
trees_last (u ∷ s) t us = ap (λ (r : Trees Named). node (fragment_tree u).0 (fragment_tree u).1 r) (trees_last s t us)

and_none : (us : Trees Named) → and_then us none ≡ us
and_none none = refl
and_none (node e inner rest) = ap (λ (r : Trees Named). node e inner r) (and_none rest)

below_yes : (x : Label) (t : Tree Named) (us : Trees Named) → is_front x t.0.label ≡ true → below name_label x (node t.0 t.1 us) ≡ node t.0 t.1 (below name_label x us)
below_yes x t us e = ap (λ (b : Bool). if b then node t.0 t.1 (below name_label x us) else none) e

below_no : (x : Label) (t : Tree Named) (us : Trees Named) → is_front x t.0.label ≡ false → below name_label x (node t.0 t.1 us) ≡ none
below_no x t us e = ap (λ (b : Bool). if b then node t.0 t.1 (below name_label x us) else none) e

behind_yes : (x : Label) (t : Tree Named) (us : Trees Named) → is_front x t.0.label ≡ true → behind name_label x (node t.0 t.1 us) ≡ behind name_label x us
behind_yes x t us e = ap (λ (b : Bool). if b then behind name_label x us else node t.0 t.1 us) e

behind_no : (x : Label) (t : Tree Named) (us : Trees Named) → is_front x t.0.label ≡ false → behind name_label x (node t.0 t.1 us) ≡ node t.0 t.1 us
behind_no x t us e = ap (λ (b : Bool). if b then behind name_label x us else node t.0 t.1 us) e

-- ---- while what lies below x is taken off

-- what was taken, and what is still to be taken, is all
pub record Taking (x : Label) (old now off : List Fragment) : Type 0 where
  pub taken : and_then (fragment_trees off) (below name_label x (piled now)) ≡ below name_label x (piled old)
  pub left : behind name_label x (piled now) ≡ behind name_label x (piled old)

pub taking_first : (x : Label) (old : List Fragment) → Taking x old old []
taking_first x old = record { taken = refl; left = refl }

pub taking_more : (x : Label) (old now new taken more : List Fragment) (t : Fragment) → Taking x old now taken → TakesOff x now new (Some t) → more ≡ taken ++ t ∷ [] → Taking x old new more
taking_more x old now new taken more t g h e =
    let p : piled now ≡ node (fragment_tree t).0 (fragment_tree t).1 (piled new) = ap piled h.0 ∙ piled_last new t in
    record {
      taken = ap (λ (s : List Fragment). and_then (fragment_trees s) (below name_label x (piled new))) e
          ∙ trees_last taken t (below name_label x (piled new))
          ∙ ap (λ (us : Trees Named). and_then (fragment_trees taken) us) (sym (ap (below name_label x) p ∙ below_yes x (fragment_tree t) (piled new) h.1))
          ∙ g.taken;
      left = sym (ap (behind name_label x) p ∙ behind_yes x (fragment_tree t) (piled new) h.1) ∙ g.left;
    }

last_cases : (s : List Fragment) → (s ≡ []) ⊎ ((r : List Fragment) × (t : Fragment) × (s ≡ r ++ t ∷ []))
last_cases [] = inl refl
last_cases (u ∷ s) = elim (last_cases s) [
  | inl e ↦ inr ([], u, ap (λ (r : List Fragment). u ∷ r) e)
  | inr k ↦ inr (u ∷ k.0, k.1, ap (λ (r : List Fragment). u ∷ r) k.2)
]

pub taking_ended : (x : Label) (old now new taken : List Fragment) → Taking x old now taken → TakesOff x now new None → TakesBelow x old new taken
taking_ended x old now new taken g h = elim (last_cases now) [
  | inl e ↦ ended none (ap piled e) refl refl
  | inr k ↦
      let p : piled now ≡ node (fragment_tree k.1).0 (fragment_tree k.1).1 (piled k.0) = ap piled k.2 ∙ piled_last k.0 k.1 in
      let n = h.1 k.0 k.1 k.2 in
      ended (node (fragment_tree k.1).0 (fragment_tree k.1).1 (piled k.0)) p (below_no x (fragment_tree k.1) (piled k.0) n) (behind_no x (fragment_tree k.1) (piled k.0) n)
]
  where
    ended : (us : Trees Named) → piled now ≡ us → below name_label x us ≡ none → behind name_label x us ≡ us → TakesBelow x old new taken
    ended us p b c = record {
      taken = sym (and_none (fragment_trees taken)) ∙ ap (λ (u : Trees Named). and_then (fragment_trees taken) u) (sym (ap (below name_label x) p ∙ b)) ∙ g.taken;
      left = ap piled h.0 ∙ p ∙ sym (ap (behind name_label x) p ∙ c) ∙ g.left;
    }

-- ---- from the last node to the first

-- some of the nodes are left, and the stack has the trees of the others
pub record Stacking (nodes left stack : List Fragment) : Type 0 where
  pub done : List Fragment
  pub all : nodes ≡ left ++ done
  pub trees : piled stack ≡ rebuild name_label (roots done)

joined_none : (fs : List Fragment) → fs ≡ fs ++ []
joined_none [] = refl
joined_none (f ∷ fs) = ap (λ (r : List Fragment). f ∷ r) (joined_none fs)

pub stacking_first : (nodes stack : List Fragment) → stack ≡ [] → Stacking nodes nodes stack
stacking_first nodes stack e = record { done = []; all = joined_none nodes; trees = ap piled e }

pub stacking_more : (nodes left rest stack middle more off : List Fragment) (n t : Fragment) (x : Label)
    → Stacking nodes left stack → left ≡ rest ++ n ∷ [] → x ≡ label_of n → TakesBelow x stack middle off → fragment_tree t ≡ ((fragment_tree n).0, fragment_trees off) → more ≡ middle ++ t ∷ []
    → Stacking nodes rest more
stacking_more nodes left rest stack middle more off n t x g e l h s k =
    let b = subst (λ (z : Label). TakesBelow z stack middle off) l h in
    record {
      done = n ∷ g.done;
      all = g.all ∙ ap (λ (r : List Fragment). r ++ g.done) e ∙ append_assoc rest (n ∷ []) g.done;
      trees = ap piled k ∙ piled_last middle t ∙ ap (λ (u : Tree Named). node u.0 u.1 (piled middle)) s
          ∙ ap₂ (λ (c r : Trees Named). node (fragment_tree n).0 c r) b.taken b.left
          ∙ ap (take_in name_label (fragment_tree n).0) g.trees;
    }

pub stacking_ended : (nodes left stack : List Fragment) → Stacking nodes left stack → left ≡ [] → piled stack ≡ rebuild name_label (roots nodes)
stacking_ended nodes left stack g e = g.trees ∙ ap (λ (fs : List Fragment). rebuild name_label (roots fs)) (sym (g.all ∙ ap (λ (r : List Fragment). r ++ g.done) e))

-- ---- the root

pub root_is : (old new : List Fragment) (r : Fragment) (us : Trees Named) (t : Tree Named) → piled old ≡ us → old ≡ new ++ r ∷ [] → us ≡ one t → fragment_tree r ≡ t
root_is old new r us t p e q = same (fragment_tree r) t (piled new) none (sym (ap piled e ∙ piled_last new r) ∙ p ∙ q)
  where
    same : (u v : Tree Named) (a b : Trees Named) → node u.0 u.1 a ≡ node v.0 v.1 b → u ≡ v
    same u v a b e = let h : u.0 ≡ v.0 = cc in let k : u.1 ≡ v.1 = cc in λ j. (h j, k j)

pub root_none : (old new : List Fragment) (r : Fragment) → piled old ≡ none → old ≡ new ++ r ∷ [] → ⊥
root_none old new r p e = clash (fragment_tree r) (piled new) (sym (ap piled e ∙ piled_last new r) ∙ p)
  where
    clash : (u : Tree Named) (a : Trees Named) → node u.0 u.1 a ≡ none → ⊥
    clash u a e = cc
