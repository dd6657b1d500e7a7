-- Over the image of a forest, what the entries and the matches tell of a kept node is what the forest shows of it.
use Rattle.std.proofs.Common.{inl, inr, ◌≡◌, ◌+◌, Bool, true, false, cond, IsTrue, List, [], ◌∷◌, length, map, refl, ap, ap₂, sym, subst, ◌∙◌, Option, Some, None, arith, append-nil}
use Rattle.std.specs.Prelude.{unwrap_or}
use Rattle.std.proofs.lemmas.Bool.{and_parts}
use Rattle.mm_label.specs.Fronts.{Label, is_front, Within, Ordered}
use Rattle.mm_label.specs.Facts.Members.{within_first}
use Rattle.mm_match.specs.declared.mark.Mark.{Mark}
use Rattle.mm_match.specs.Marks.{kept, survives}
use Rattle.mm_tree.specs.Trees.{Trees, Tree, none, node, one, every, nodes, preorder}
use Rattle.mm_tree.specs.Numbering.{Labelled}
use Rattle.mm_tree.specs.Forests.{is_well_formed}
use Rattle.mm_tree.specs.Edits.{found}
use Rattle.mm_tree.specs.Hits.{name_of}
use Rattle.mm_tree.specs.Fragments.{Named, named_as}
use Rattle.mm_tree.specs.Formed.{Formed, name_label}
use Rattle.mm_tree.specs.Rebuild.{below, behind, rebuild}
use Rattle.mm_tree.specs.Facts.Formed.{formed}
use Rattle.mm_tree.specs.Facts.Places.{preorder_rises}
use Rattle.mm_tree.specs.Facts.Subforests.{each_formed, thins_within}
use Rattle.mm_keeper.specs.Entries.{Entry, Entries, IsSorted, index_of}
use Rattle.mm_image.specs.Content.{name_in, piece}
use Rattle.mm_image.specs.Image.{image}
use Rattle.mm_image.specs.Keys.{chunk_key}
use Rattle.mm_image.specs.Laws.{FirstPieceNames}
use Rattle.mm_image.specs.Naming.{stored_name}
use Rattle.mm_image.specs.Facts.Naming.{named_there}
use Rattle.mm_fragment.specs.Inside.Keeping.{AreMasks}
use Rattle.mm_fragment.specs.Inside.Marked.{Rowed, marked}
use Rattle.mm_fragment.specs.Inside.Owning.{Precedes, marked_words}
use Rattle.mm_fragment.specs.Matching.{open_nodes, matches_of}
use Rattle.mm_fragment.specs.Showing.{named_in, shown_at}
use Rattle.mm_fragment.specs.Inside.Stored.{stored_shown}
use Rattle.mm_fragment.proofs.LinkForest.{found_is}
use Rattle.mm_fragment.proofs.LinkFragment.{no_marks, named_in_forest, root_meets, shown_there}
use Rattle.mm_fragment.proofs.LinkMasks.{matches_at, marked_tree, masks_are, of_coded, open_is}
use Rattle.mm_fragment.proofs.LinkPaths.{Word}
use Rattle.mm_fragment.proofs.MarkedOpen.{cleared, cleared_formed, cleared_thins, marked_is, words_in}
use Rattle.mm_fragment.proofs.Owned.{Ascending, marks_are_own, matches_precede, within_kept}

-- ---- the nodes that are kept are open

pub open_ascends : (query : List Word) (y : Label) (t : Tree Named) → Formed name_label y (one t) → Ascending (open_nodes query t)
open_ascends query y t u =
    subst Ascending (sym (open_is query t))
    (subst (λ (es : List Named). Ascending (t.0 ∷ es)) (append-nil (preorder (cleared query t.1)))
    (preorder_rises name_label y (node t.0 (cleared query t.1) none) (u.0, cleared_formed query t.0.label t.1 u.1, tt, tt)))

open_inside : (query : List Word) (t : Tree Named) (e : Named) → Within e (open_nodes query t) → Within e (preorder (one t))
open_inside query t e i = elim (subst (Within e) (open_is query t) i) [
  | inl q ↦ inl q
  | inr q ↦ inr (within_first e (preorder t.1) [] (thins_within e (cleared query t.1) t.1 (cleared_thins query t.1) q))
]

record IsOpen (query : List Word) (t : Tree Named) (x : Label) : Type 0 where
  node : Named
  opened : Within node (open_nodes query t)
  label : x ≡ node.label

mark_is_open : (query : List Word) (y : Label) (t : Tree Named) (r : List Mark) (m : Mark) → Formed name_label y (one t) → AreMasks t.0.label (matches_at query t) r → Within m r → IsOpen query t m.label
mark_is_open query y t r m u a i = by (matches_at query t) refl
  where
    by : (ms : List Mark) → matches_at query t ≡ ms → IsOpen query t m.label
    by [] e = absurd (subst (Within m) (no_marks t.0.label r (subst (λ (l : List Mark). AreMasks t.0.label l r) e a)) i)
    by (k ∷ ms) e =
        let j : Within m (preorder (marked_tree query t)) = subst (Within m) (masks_are query y t r u (root_meets query y t k ms u e) a) i in
        elim j [
          | inl q ↦ record { node = t.0; opened = inl refl; label = ap (λ (z : Mark). z.label) q }
          | inr q ↦
              let c = of_coded (marked query t.1) m (subst (Within m) (append-nil _) q) in
              let z = words_in query (cleared query t.1) c.0 (subst (λ (ts : Trees Rowed). Within c.0 (preorder ts)) (marked_is query t.1) c.1) in
              record { node = c.0.entry; opened = subst (Within c.0.entry) (sym (open_is query t)) (inr z); label = ap (λ (n : Mark). n.label) c.2 }
        ]

-- ---- what is shown

-- a kept mark is that of a node of the forest, which is open below the root
record KeptNode (query : List Word) (f : Trees Labelled) (t : Tree Labelled) (x : Label) : Type 0 where
  node : Labelled
  inside : Within node (preorder f)
  opened : Within (named_as node) (open_nodes query (named_in t))
  label : x ≡ node.label

kept_node : (query : List Word) (f : Trees Labelled) (x : Label) (t : Tree Labelled) (r marks : List Mark) → IsTrue (is_well_formed f) → found x f ≡ Some t
    → marks ≡ matches_of 1 query (open_nodes query (named_in t)) → AreMasks x marks r → (k : Mark) → Within k (kept r) → KeptNode query f t k.label
kept_node query f x t r marks w h n a k i =
    let g = found_is [] x f t refl (formed f w) h in
    let v = each_formed named_as name_label g.up (one t) g.formed in
    let b = subst (λ (z : Label). AreMasks z (matches_at query (named_in t)) r) (sym g.is) (subst (λ (ms : List Mark). AreMasks x ms r) n a) in
    let o = mark_is_open query g.up (named_in t) r k v b (within_kept (survives r) k r i) in
    let q = named_in_forest (one t) o.node (open_inside query (named_in t) o.node o.opened) in
    record {
      node = q.0;
      inside = g.inside q.0 q.1;
      opened = subst (λ (z : Named). Within z (open_nodes query (named_in t))) q.2 o.opened;
      label = o.label ∙ ap (λ (z : Named). z.label) q.2;
    }

pub matches_in_order : (query : List Word) (f : Trees Labelled) (x : Label) (t : Tree Labelled) → IsTrue (is_well_formed f) → found x f ≡ Some t → Ordered Precedes (matches_of 1 query (open_nodes query (named_in t)))
matches_in_order query f x t w h =
    let g = found_is [] x f t refl (formed f w) h in
    matches_precede 1 query (open_nodes query (named_in t)) (omega arith) (open_ascends query g.up (named_in t) (each_formed named_as name_label g.up (one t) g.formed))

module _ (law : FirstPieceNames) (m : Entries) (query : List Word) (f : Trees Labelled) (x : Label) (t : Tree Labelled) (r marks : List Mark) (w : IsTrue (is_well_formed f)) (h : found x f ≡ Some t) (e : m ≡ image f) (s : IsSorted m)
    (n : marks ≡ matches_of 1 query (open_nodes query (named_in t))) (a : AreMasks x marks r) where
  -- each of them has a name
  pub kept_named : (k : Mark) → Within k (kept r) → stored_name m k.label ≡ None → ⊥
  kept_named k i q =
      let d = kept_node query f x t r marks w h n a k i in
      let name = sym q ∙ (ap (stored_name m) d.label ∙ named_there law m f w e s d.node d.inside) in
      absurd cc

  pub stored_is_shown : (k : Mark) → Within k (kept r) → stored_shown m query marks k.label ≡ shown_at query f k.label
  stored_is_shown k i =
      let g = found_is [] x f t refl (formed f w) h in
      let d = kept_node query f x t r marks w h n a k i in
      let name : stored_name m (d.node).label ≡ Some (name_of (d.node).kind) = named_there law m f w e s d.node d.inside in
      let asc = open_ascends query g.up (named_in t) (each_formed named_as name_label g.up (one t) g.formed) in
      let words = ap (λ (ms : List Mark). marked_words 1 query ms (d.node).label) n ∙ marks_are_own query (open_nodes query (named_in t)) (named_as d.node) asc d.opened in
      ap (stored_shown m query marks) d.label
      ∙ (λ j. record { label = (d.node).label; name = unwrap_or (name j) []; words = words j })
      ∙ sym (shown_there query [] f d.node (formed f w) d.inside)
      ∙ sym (ap (shown_at query f) d.label)

-- the root is shown as the forest shows it
pub root_is_shown : FirstPieceNames → (m : Entries) (query : List Word) (f : Trees Labelled) (x : Label) (t : Tree Labelled) (marks : List Mark) → IsTrue (is_well_formed f) → found x f ≡ Some t → m ≡ image f → IsSorted m
    → marks ≡ matches_of 1 query (open_nodes query (named_in t)) → stored_shown m query marks x ≡ shown_at query f x
root_is_shown law m query f x t marks w h e s n =
    let g = found_is [] x f t refl (formed f w) h in
    let inside = g.inside t.0 (inl refl) in
    let name : stored_name m (t.0).label ≡ Some (name_of (t.0).kind) = named_there law m f w e s t.0 inside in
    let asc = open_ascends query g.up (named_in t) (each_formed named_as name_label g.up (one t) g.formed) in
    let words = ap (λ (ms : List Mark). marked_words 1 query ms (t.0).label) n ∙ marks_are_own query (open_nodes query (named_in t)) (named_as t.0) asc (inl refl) in
    ap (stored_shown m query marks) (sym g.is)
    ∙ (λ j. record { label = (t.0).label; name = unwrap_or (name j) []; words = words j })
    ∙ sym (shown_there query [] f t.0 (formed f w) inside)
    ∙ ap (shown_at query f) g.is

pub root_named : FirstPieceNames → (m : Entries) (f : Trees Labelled) (x : Label) (t : Tree Labelled) → IsTrue (is_well_formed f) → found x f ≡ Some t → m ≡ image f → IsSorted m → stored_name m x ≡ None → ⊥
root_named law m f x t w h e s q =
    let g = found_is [] x f t refl (formed f w) h in
    let name = sym q ∙ (ap (stored_name m) (sym g.is) ∙ named_there law m f w e s t.0 (g.inside t.0 (inl refl))) in
    absurd cc

pub all_shown : (a b : Mark → Named) (ks : List Mark) → ((k : Mark) → Within k ks → a k ≡ b k) → map a ks ≡ map b ks
all_shown a b [] h = refl
all_shown a b (k ∷ ks) h = ap₂ (λ (d : Named) (ds : List Named). d ∷ ds) (h k (inl refl)) (all_shown a b ks (λ j i. h j (inr i)))

-- ---- how many are shown

parted : (x : Label) (us : Trees Named) → nodes (below name_label x us) + nodes (behind name_label x us) ≡ nodes us
parted x none = refl
parted x (node e inner rest) = by (is_front x e.label) (parted x rest)
  where
    by : (b : Bool) → nodes (below name_label x rest) + nodes (behind name_label x rest) ≡ nodes rest
        → nodes (cond b (node e inner (below name_label x rest)) none) + nodes (cond b (behind name_label x rest) (node e inner rest)) ≡ nodes (node e inner rest)
    by true h = omega (arith, h)
    by false h = omega arith

pub rebuilt_nodes : (ds : List Named) → nodes (rebuild name_label ds) ≡ length ds
rebuilt_nodes [] = refl
rebuilt_nodes (d ∷ ds) = let h = rebuilt_nodes ds in let p = parted d.label (rebuild name_label ds) in omega (arith, h, p)
