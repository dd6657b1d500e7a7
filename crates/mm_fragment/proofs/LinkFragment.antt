-- The fragment is rebuilt from the labels that are kept of its masks.
use Rattle.std.proofs.Common.{inl, inr, ◌≡◌, ◌⊎◌, List, [], ◌∷◌, map, refl, ap, ap₂, sym, subst, ◌∙◌, Option, Some, append-nil}
use Rattle.std.specs.Prelude.{IsTrue}
use Rattle.mm_match.specs.declared.mark.Mark.{Mark}
use Rattle.mm_label.specs.Label.{whole}
use Rattle.mm_label.specs.Fronts.{Label, Meets, Within}
use Rattle.mm_match.specs.Marks.{labels, kept}
use Rattle.mm_tree.specs.Trees.{Trees, Tree, none, node, one, preorder}
use Rattle.mm_tree.specs.Numbering.{Labelled}
use Rattle.mm_tree.specs.Forests.{is_well_formed}
use Rattle.mm_tree.specs.Hits.{name_if}
use Rattle.mm_tree.specs.Edits.{found}
use Rattle.mm_tree.specs.Fragments.{Named, named, named_as, shown, fragment}
use Rattle.mm_tree.specs.Formed.{Formed, name_label, node_label}
use Rattle.mm_fragment.specs.Inside.Keeping.{AreMasks}
use Rattle.mm_fragment.specs.Inside.Marked.{Rowed, marked, rows_in, pruned, show_all, mark_of}
use Rattle.mm_fragment.specs.Matching.{open_nodes, matches_of}
use Rattle.mm_tree.specs.Rebuild.{rebuild}
use Rattle.mm_fragment.specs.Showing.{named_in, own_in, shown_at}
use Rattle.mm_tree.specs.Facts.Places.{preorder_each}
use Rattle.mm_label.specs.Facts.Members.{within_first, within_in}
use Rattle.mm_fragment.proofs.LinkForest.{node_found, IsFound, found_is}
use Rattle.mm_tree.specs.Facts.Formed.{formed}
use Rattle.mm_fragment.proofs.LinkPaths.{Word, words_match}
use Rattle.mm_fragment.proofs.LinkMasks.{matches_at, kept_are, matches_are, are_matches, open_below}
use Rattle.mm_tree.specs.Facts.Rebuild.{rebuilt}
use Rattle.mm_fragment.proofs.MarkedFacts.{contributors_are}
use Rattle.mm_fragment.proofs.MarkedOpen.{cleared, cleared_formed, marked_is, marked_formed, marked_in, pruned_formed, pruned_in}
use Rattle.mm_tree.specs.Facts.Subforests.{each_formed}

-- ---- the fragment's nodes

abbrev pub kept_rows : List Word → Tree Named → Trees Rowed
kept_rows query t = pruned (rows_in (marked query t.1)) (marked query t.1)

fragment_is : (query : List Word) (t : Tree Named) → one (fragment query t) ≡ node (shown query t.0) (show_all query (kept_rows query t)) none
fragment_is query t = ap (λ (c : Trees Named). node (shown query t.0) c none) (contributors_are query t.1)

fragment_formed : (query : List Word) (y : Label) (t : Tree Named) → Formed name_label y (one t) → Formed name_label y (node (shown query t.0) (show_all query (kept_rows query t)) none)
fragment_formed query y t u = (
  u.0,
  each_formed (λ m. shown query m.entry) name_label t.0.label (kept_rows query t) (pruned_formed (rows_in (marked query t.1)) t.0.label (marked query t.1) (marked_formed query t.0.label t.1 u.1)),
  tt,
  tt,
)

shown_rows : (query : List Word) (show : Label → Named) (ms : List Rowed) → ((m : Rowed) → Within m ms → show m.entry.label ≡ shown query m.entry)
    → map (λ k. show k.label) (map mark_of ms) ≡ map (λ m. shown query m.entry) ms
shown_rows query show [] h = refl
shown_rows query show (m ∷ ms) h = ap₂ (λ (e : Named) (r : List Named). e ∷ r) (h m (inl refl)) (shown_rows query show ms (λ k i. h k (inr i)))

-- where there is a match: shown, the kept ones are the fragment's nodes
pub rebuilt_is : (query : List Word) (y : Label) (t : Tree Named) (show : Label → Named) (r : List Mark) → whole y ≡ y → Formed name_label y (one t)
    → ((e : Named) → Within e (preorder (one t)) → show e.label ≡ shown query e)
    → Meets t.0.label (labels (matches_at query t)) → AreMasks t.0.label (matches_at query t) r
    → rebuild name_label (map (λ m. show m.label) (kept r)) ≡ one (fragment query t)
rebuilt_is query y t show r v u h some m =
    let p = kept_rows query t in
    let inside = λ (k : Rowed) (i : Within k (preorder p)). h k.entry (inr (within_first k.entry (preorder t.1) [] (marked_in query t.1 k (pruned_in (rows_in (marked query t.1)) (marked query t.1) k i)))) in
    ap (λ (ms : List Mark). rebuild name_label (map (λ k. show k.label) ms)) (kept_are query y t r v u some m)
    ∙ (ap (rebuild name_label) (ap₂ (λ (e : Named) (es : List Named). e ∷ es) (h t.0 (inl refl))
    (ap (λ (ms : List Mark). map (λ k. show k.label) ms) (preorder_each mark_of p)
    ∙ (shown_rows query show (preorder p) inside
    ∙ (sym (preorder_each (λ k. shown query k.entry) p) ∙ sym (append-nil (preorder (show_all query p)))))))
    ∙ (rebuilt name_label y (node (shown query t.0) (show_all query p) none) (fragment_formed query y t u) ∙ sym (fragment_is query t)))

-- ---- where there is none

pub no_marks : (root : Label) (r : List Mark) → AreMasks root [] r → r ≡ []
no_marks root [] m = refl
no_marks root (k ∷ r) m = absurd ((m.on_path k.label).0 (inl refl)).above

no_rows : (f : Trees Rowed) → ((m : Rowed) → Within m (preorder f) → ⊥) → f ≡ none
no_rows none h = refl
no_rows (node m inner rest) h = absurd (h m (inl refl))

nothing_marked : (query : List Word) (y : Label) (t : Tree Named) → Formed name_label y (one t) → matches_at query t ≡ [] → marked query t.1 ≡ none
nothing_marked query y t u e = no_rows (marked query t.1) (λ m i.
    let j = subst (λ (ts : Trees Rowed). Within m (preorder ts)) (marked_is query t.1) i in
    let v = cleared_formed query t.0.label t.1 u.1 in
    let k = words_match query t.0.label (cleared query t.1) m v j in
    subst (λ (ms : List Mark). Meets m.entry.label (labels ms)) e
    (are_matches query t m.entry.label (record { word = k.word; asked = k.asked; holder = k.holder; listed = inr k.listed; holds = k.holds; low = k.low })))

-- a match at all is one at or below the root
pub root_meets : (query : List Word) (y : Label) (t : Tree Named) (m : Mark) (ms : List Mark) → Formed name_label y (one t) → matches_at query t ≡ m ∷ ms → Meets t.0.label (labels (matches_at query t))
root_meets query y t m ms u e =
    let k = matches_are query t [] (subst (λ (l : List Mark). Meets [] (labels l)) (sym e) (inl tt)) in
    are_matches query t t.0.label (record { word = k.word; asked = k.asked; holder = k.holder; listed = k.listed; holds = k.holds; low = open_below query y t k.holder u k.listed })

-- ---- in a forest

pub named_in_forest : (f : Trees Labelled) (e : Named) → Within e (preorder (named f)) → (d : Labelled) × Within d (preorder f) × (e ≡ named_as d)
named_in_forest f e w = within_in named_as e (preorder f) (subst (Within e) (preorder_each named_as f) w)

-- what a fragment shows of a node is told by the node's label
pub shown_there : (query : List Word) (y : Label) (f : Trees Labelled) (d : Labelled) → Formed node_label y f → Within d (preorder f) → shown_at query f d.label ≡ shown query (named_as d)
shown_there query y f d u i =
    let t = node_found y f d u i in
    ap (λ (o : Option (Tree Labelled)). record { label = d.label; name = name_if o; words = own_in query o }) t.1

-- what is kept of the masks of the matches below x: nothing, where the fragment is the node at x alone; else the nodes of the fragment
pub kept_is_fragment : (query : List Word) (f : Trees Labelled) (x : Label) (t : Tree Labelled) (r : List Mark) → IsTrue (is_well_formed f) → found x f ≡ Some t
    → AreMasks x (matches_of 1 query (open_nodes query (named_in t))) r
    → ((kept r ≡ []) × (fragment query (named_in t) ≡ (shown_at query f x, none))) ⊎ (rebuild name_label (map (λ m. shown_at query f m.label) (kept r)) ≡ one (fragment query (named_in t)))
kept_is_fragment query f x t r w h m =
    let u = formed f w in
    let g = found_is [] x f t refl u h in
    by g (each_formed named_as name_label g.up (one t) g.formed) (λ d i. shown_there query [] f d u (g.inside d i)) (matches_at query (named_in t)) refl
  where
    root_is : IsFound x f t → AreMasks t.0.label (matches_at query (named_in t)) r
    root_is g = subst (λ (z : Label). AreMasks z (matches_at query (named_in t)) r) (sym g.is) m

    alone : (k : List Mark) → k ≡ [] → kept k ≡ []
    alone k e = ap kept e

    by : (g : IsFound x f t) → Formed name_label g.up (one (named_in t)) → ((d : Labelled) → Within d (preorder (one t)) → shown_at query f d.label ≡ shown query (named_as d))
        → (ms : List Mark) → matches_at query (named_in t) ≡ ms
        → ((kept r ≡ []) × (fragment query (named_in t) ≡ (shown_at query f x, none))) ⊎ (rebuild name_label (map (λ k. shown_at query f k.label) (kept r)) ≡ one (fragment query (named_in t)))
    by g u shows [] e = inl (
      alone r (no_marks x r (subst (λ (l : List Mark). AreMasks x l r) e m)),
      ap₂ (λ (d : Named) (c : Trees Named). (d, c)) (sym (shows t.0 (inl refl)) ∙ ap (shown_at query f) g.is)
          (contributors_are query (named t.1) ∙ ap (λ (ts : Trees Rowed). show_all query (pruned (rows_in ts) ts)) (nothing_marked query g.up (named_in t) u e)),
    )
    by g u shows (k ∷ ms) e = inr (rebuilt_is query g.up (named_in t) (shown_at query f) r g.whole_up u
        (λ d i. let q = named_in_forest (one t) d i in subst (λ (n : Named). shown_at query f n.label ≡ shown query n) (sym q.2) (shows q.0 q.1))
        (root_meets query g.up (named_in t) k ms u e) (root_is g))
