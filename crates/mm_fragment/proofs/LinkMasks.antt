-- What is kept of an answer's masks are the root and the nodes of its fragment.
use Rattle.std.proofs.Common.{inl, inr, ◌≡◌, ℕ, Bool, true, false, not, ◌&&◌, ◌||◌, cond, List, [], ◌∷◌, map, refl, ap, ap₂, sym, subst, ◌∙◌, length, nat_eq, bit_and, eq-eqb, append-nil}
use Rattle.std.specs.Prelude.{◌↔◌}
use Rattle.mm_match.specs.declared.mark.Mark.{Mark}
use Rattle.mm_label.specs.Label.{whole}
use Rattle.mm_label.specs.Fronts.{Label, Front, Within, Lt, Ascends, Meets}
use Rattle.mm_match.specs.Marks.{labels, IsOnPath, mask_at, kept}
use Rattle.mm_tree.specs.Trees.{Trees, Tree, none, node, one, preorder}
use Rattle.mm_tree.specs.Search.{has}
use Rattle.mm_tree.specs.Fragments.{Named, bare}
use Rattle.mm_tree.specs.Formed.{Formed, name_label}
use Rattle.mm_fragment.specs.Inside.Keeping.{AreMasks}
use Rattle.mm_fragment.specs.Inside.Marked.{Rowed, marked, rows_in, pruned, mask_of, mark_of, coded}
use Rattle.mm_fragment.specs.Matching.{open_nodes, matches_of}
use Rattle.mm_label.specs.Facts.Fronts.{front_refl, front_antisym, not_front}
use Rattle.mm_tree.specs.Facts.Places.{preorder_each, preorder_ascends, node_under, node_whole}
use Rattle.mm_label.specs.Facts.Lists.{lt_once}
use Rattle.mm_label.specs.Facts.Ordered.{ordered_same}
use Rattle.mm_label.specs.Facts.Members.{within_in, in_within}
use Rattle.mm_fragment.proofs.FlatKept.{at, tops, outdone, thinned, kept_preorder}
use Rattle.mm_fragment.proofs.CodedFacts.{marked_sized, coded_pruned}
use Rattle.mm_fragment.proofs.CodedMasks.{reaches, mask_is, row_there}
use Rattle.mm_fragment.proofs.MarkedOpen.{cleared, cleared_formed, outside_is, marked_is, marked_formed, words_in}
use Rattle.mm_tree.specs.Facts.Subforests.{each_formed}
use Rattle.mm_fragment.proofs.LinkPaths.{Word, HasMatch, match_of, match_meets, match_in, words_match, path}

-- ---- labels and masks tell an ascending list of marks

same_marks : (mask : Label → ℕ) (r s : List Mark) → labels r ≡ labels s → ((m : Mark) → Within m r → m.mask ≡ mask m.label) → ((m : Mark) → Within m s → m.mask ≡ mask m.label) → r ≡ s
same_marks mask [] [] e a b = refl
same_marks mask [] (y ∷ s) e a b = absurd cc
same_marks mask (x ∷ r) [] e a b = absurd cc
same_marks mask (x ∷ r) (y ∷ s) e a b =
    let first : x.label ≡ y.label = cc in
    let rest : labels r ≡ labels s = cc in
    let words : x.mask ≡ y.mask = a x (inl refl) ∙ (ap mask first ∙ sym (b y (inl refl))) in
    let later = same_marks mask r s rest (λ m i. a m (inr i)) (λ m i. b m (inr i)) in
    λ j. record { label = first j; mask = words j } ∷ later j

-- ---- the marks of an answer, as `masks` gives them

abbrev pub matches_at : List Word → Tree Named → List Mark
matches_at query t = matches_of 1 query (open_nodes query t)

abbrev pub root_mark : List Word → Tree Named → Mark
root_mark query t = record { label = t.0.label; mask = mask_at t.0.label (matches_at query t) }

-- the root, and below it the nodes with words
abbrev pub marked_tree : List Word → Tree Named → Trees Mark
marked_tree query t = node (root_mark query t) (coded (marked query t.1)) none

in_map : {A B : Type 0} (f : A → B) (b : B) (xs : List A) → Within b (map f xs) → (a : A) × Within a xs × (b ≡ f a)
in_map f b [] w = absurd w
in_map f b (x ∷ xs) w = elim w [ inl e ↦ (x, inl refl, e) | inr k ↦ let t = in_map f b xs k in (t.0, inr t.1, t.2) ]

map_in : {A B : Type 0} (f : A → B) (a : A) (xs : List A) → Within a xs → Within (f a) (map f xs)
map_in f a [] w = absurd w
map_in f a (x ∷ xs) w = elim w [ inl e ↦ inl (ap f e) | inr k ↦ inr (map_in f a xs k) ]

-- a node of the marked ones, as a mark and back
pub of_coded : (f : Trees Rowed) (m : Mark) → Within m (preorder (coded f)) → (k : Rowed) × Within k (preorder f) × (m ≡ mark_of k)
of_coded f m w = in_map mark_of m (preorder f) (subst (Within m) (preorder_each mark_of f) w)

to_coded : (f : Trees Rowed) (k : Rowed) → Within k (preorder f) → Within (mark_of k) (preorder (coded f))
to_coded f k w = subst (Within (mark_of k)) (sym (preorder_each mark_of f)) (map_in mark_of k (preorder f) w)

coded_formed : (query : List Word) (y : Label) (f : Trees Named) → Formed name_label y f → Formed at y (coded (marked query f))
coded_formed query y f u = each_formed mark_of at y (marked query f) (marked_formed query y f u)

tree_formed : (query : List Word) (y : Label) (t : Tree Named) → Formed name_label y (one t) → Formed at y (marked_tree query t)
tree_formed query y t u = (u.0, coded_formed query t.0.label t.1 u.1, tt, tt)

pub open_is : (query : List Word) (t : Tree Named) → open_nodes query t ≡ t.0 ∷ preorder (cleared query t.1)
open_is query t = ap (λ (r : List Named). t.0 ∷ r) (outside_is query t.1)

pub open_below : (query : List Word) (y : Label) (t : Tree Named) (e : Named) → Formed name_label y (one t) → Within e (t.0 ∷ preorder (cleared query t.1)) → Front t.0.label e.label
open_below query y t e u w = elim w [
  | inl h ↦ subst (λ (d : Named). Front t.0.label d.label) (sym h) (front_refl t.0.label)
  | inr h ↦ (node_under name_label t.0.label (cleared query t.1) e (cleared_formed query t.0.label t.1 u.1) h).0
]

pub matches_are : (query : List Word) (t : Tree Named) (x : Label) → Meets x (labels (matches_at query t)) → HasMatch x query (t.0 ∷ preorder (cleared query t.1))
matches_are query t x h = subst (HasMatch x query) (open_is query t) (match_of x 1 query (open_nodes query t) h)

pub are_matches : (query : List Word) (t : Tree Named) (x : Label) → HasMatch x query (t.0 ∷ preorder (cleared query t.1)) → Meets x (labels (matches_at query t))
are_matches query t x h = match_meets x 1 query (open_nodes query t) (subst (HasMatch x query) (sym (open_is query t)) h)

-- the nodes of the marked tree, and those on the paths
tree_path : (query : List Word) (y : Label) (t : Tree Named) (x : Label) → Formed name_label y (one t) → Meets t.0.label (labels (matches_at query t)) → Within x (labels (preorder (marked_tree query t))) → IsOnPath t.0.label (matches_at query t) x
tree_path query y t x u some w =
    let f = marked_tree query t in
    let g = tree_formed query y t u in
    let k = within_in at x (preorder f) w in
    elim k.1 [
      | inl e ↦ subst (IsOnPath t.0.label (matches_at query t)) (sym (k.2 ∙ ap at e)) (record { is_whole = u.0.is_whole; below = front_refl t.0.label; above = some })
      | inr h ↦
          let c = of_coded (marked query t.1) k.0 (subst (Within k.0) (append-nil (preorder (coded (marked query t.1)))) h) in
          let i = subst (λ (ts : Trees Rowed). Within c.0 (preorder ts)) (marked_is query t.1) c.1 in
          let v = cleared_formed query t.0.label t.1 u.1 in
          let j = words_in query (cleared query t.1) c.0 i in
          let m = words_match query t.0.label (cleared query t.1) c.0 v i in
          subst (IsOnPath t.0.label (matches_at query t)) (sym (k.2 ∙ ap at c.2)) (record {
            is_whole = node_whole name_label t.0.label (cleared query t.1) c.0.entry v j;
            below = (node_under name_label t.0.label (cleared query t.1) c.0.entry v j).0;
            above = are_matches query t c.0.entry.label (match_in c.0.entry.label query (preorder (cleared query t.1)) (t.0 ∷ preorder (cleared query t.1)) (λ e z. inr z) m);
          })
    ]

path_tree : (query : List Word) (y : Label) (t : Tree Named) (x : Label) → Formed name_label y (one t) → IsOnPath t.0.label (matches_at query t) x → Within x (labels (preorder (marked_tree query t)))
path_tree query y t x u p =
    let m = matches_are query t x p.above in
    let v = cleared_formed query t.0.label t.1 u.1 in
    elim m.listed [
      | inl e ↦ top (subst (λ (d : Named). Front x d.label) e m.low)
      | inr h ↦ elim (path query t.0.label x (cleared query t.1) m.word m.holder v p.is_whole m.asked h m.holds m.low) [
        | inl f ↦ top f
        | inr s ↦
            let i = subst (λ (ts : Trees Rowed). Within s.0 (preorder ts)) (sym (marked_is query t.1)) s.1 in
            listed (mark_of s.0) s.2 (inr (subst (Within (mark_of s.0)) (sym (append-nil (preorder (coded (marked query t.1))))) (to_coded (marked query t.1) s.0 i)))
      ]
    ]
  where
    listed : (m : Mark) → x ≡ m.label → Within m (preorder (marked_tree query t)) → Within x (labels (preorder (marked_tree query t)))
    listed m e i = subst (λ (z : Label). Within z (map at (preorder (marked_tree query t)))) (sym e) (in_within at m (preorder (marked_tree query t)) i)

    top : Front x t.0.label → Within x (labels (preorder (marked_tree query t)))
    top f = inl (front_antisym x t.0.label f p.below)

-- a marked node's mask is its row's
tree_mask : (query : List Word) (y : Label) (t : Tree Named) (m : Mark) → Formed name_label y (one t) → Within m (preorder (marked_tree query t)) → m.mask ≡ mask_at m.label (matches_at query t)
tree_mask query y t m u w = elim w [
  | inl e ↦ subst (λ (k : Mark). k.mask ≡ mask_at k.label (matches_at query t)) (sym e) refl
  | inr h ↦
      let c = of_coded (marked query t.1) m (subst (Within m) (append-nil (preorder (coded (marked query t.1)))) h) in
      let i = subst (λ (ts : Trees Rowed). Within c.0 (preorder ts)) (marked_is query t.1) c.1 in
      let v = cleared_formed query t.0.label t.1 u.1 in
      let n = node_under name_label t.0.label (cleared query t.1) c.0.entry v (words_in query (cleared query t.1) c.0 i) in
      subst (λ (k : Mark). k.mask ≡ mask_at k.label (matches_at query t)) (sym c.2) (sym (
      mask_is c.0.entry.label query (open_nodes query t)
      ∙ (ap (λ (es : List Named). mask_of (map (λ w. reaches c.0.entry.label w es) query)) (open_is query t)
      ∙ ap mask_of (without_root c.0.entry.label (λ f. n.1 (front_antisym c.0.entry.label t.0.label f n.0)) query ∙ row_there query t.0.label (cleared query t.1) c.0 v i))))
]
  where
    and_false : (a b : Bool) → ((a && false) || b) ≡ b
    and_false true b = refl
    and_false false b = refl

    without_root : (x : Label) → (Front x t.0.label → ⊥) → (ws : List Word) → map (λ w. reaches x w (t.0 ∷ preorder (cleared query t.1))) ws ≡ map (λ w. reaches x w (preorder (cleared query t.1))) ws
    without_root x n [] = refl
    without_root x n (w ∷ ws) =
        ap₂ (λ (a : Bool) (r : List Bool). a ∷ r)
        (ap (λ (b : Bool). (has (bare t.0) w && b) || reaches x w (preorder (cleared query t.1))) (not_front x t.0.label n) ∙ and_false (has (bare t.0) w) (reaches x w (preorder (cleared query t.1))))
        (without_root x n ws)

-- ---- the marks are the marked tree

pub masks_are : (query : List Word) (y : Label) (t : Tree Named) (r : List Mark) → Formed name_label y (one t) → Meets t.0.label (labels (matches_at query t)) → AreMasks t.0.label (matches_at query t) r → r ≡ preorder (marked_tree query t)
masks_are query y t r u some m =
    same_marks (λ x. mask_at x (matches_at query t)) r (preorder (marked_tree query t))
    (ordered_same Lt (labels r) (labels (preorder (marked_tree query t))) lt_once m.ordered (preorder_ascends at y (marked_tree query t) (tree_formed query y t u))
    (λ x w. path_tree query y t x u ((m.on_path x).0 w)) (λ x w. (m.on_path x).1 (tree_path query y t x u some w)))
    m.words (λ k i. tree_mask query y t k u i)

not_outdone : (m : Mark) → outdone m (m ∷ []) ≡ false
not_outdone m = by (nat_eq (bit_and m.mask m.mask) m.mask) (nat_eq m.mask m.mask) (eq-eqb m.mask m.mask refl)
  where
    by : (a b : Bool) → b ≡ true → ((a && not b) || false) ≡ false
    by true true e = refl
    by false true e = refl
    by a false e = absurd cc

pub kept_are : (query : List Word) (y : Label) (t : Tree Named) (r : List Mark) → whole y ≡ y → Formed name_label y (one t) → Meets t.0.label (labels (matches_at query t)) → AreMasks t.0.label (matches_at query t) r
    → kept r ≡ root_mark query t ∷ preorder (coded (pruned (rows_in (marked query t.1)) (marked query t.1)))
kept_are query y t r v u some m =
    let f = marked query t.1 in
    let z = marked_sized query t.1 in
    ap kept (masks_are query y t r u some m)
    ∙ (kept_preorder y (marked_tree query t) v (tree_formed query y t u)
    ∙ (ap (λ (b : Bool). preorder (cond b none (node (root_mark query t) (thinned (tops (coded f)) (coded f)) none))) (not_outdone (root_mark query t))
    ∙ ap (λ (r : List Mark). root_mark query t ∷ r) (append-nil (preorder (thinned (tops (coded f)) (coded f))) ∙ ap (λ (ts : Trees Mark). preorder ts) (coded_pruned (length query) f f z z))))
