-- From the entries of a forest's image to the fragment, its cost, and that nothing is found broken.
use Rattle.std.proofs.Common.{inl, inr, ◌≡◌, ◌⊎◌, ℕ, ℤ, ◌≤◌, IsTrue, List, [], ◌∷◌, length, map, ap, sym, subst, ◌∙◌, Option, Some, None, MatchOption, Result, Ok, Err, IfErr, arith}
use Rattle.std.proofs.lemmas.List.{length-map}
use Rattle.mm_host.specs.declared.damage.Fault.{Fault}
use Rattle.mm_host.specs.declared.damage.Fault.TheVariants.{DiskFault, Damaged, Spent, Memory}
use Rattle.mm_label.specs.Fronts.{Label, Within}
use Rattle.mm_label.specs.Facts.Members.{within_in}
use Rattle.mm_lists.specs.Causes.{IsSound}
use Rattle.mm_match.specs.declared.mark.Mark.{Mark}
use Rattle.mm_match.specs.Marks.{kept, labels, mark_label}
use Rattle.mm_tree.specs.declared.fragment.Fragment.{Fragment}
use Rattle.mm_tree.specs.Trees.{Trees, Tree, none, nodes, one}
use Rattle.mm_tree.specs.Forests.{is_well_formed}
use Rattle.mm_tree.specs.Numbering.{Labelled}
use Rattle.mm_tree.specs.Edits.{found}
use Rattle.mm_tree.specs.Formed.{name_label}
use Rattle.mm_tree.specs.Rebuild.{rebuild}
use Rattle.mm_tree.specs.Fragments.{Named, fragment, fragment_tree}
use Rattle.mm_keeper.specs.Entries.{Entries, IsSorted}
use Rattle.mm_image.specs.Image.{image}
use Rattle.mm_image.specs.Laws.{FirstPieceNames}
use Rattle.mm_image.specs.Naming.{stored_name}
use Rattle.mm_fragment.specs.Inside.Piling.{roots, shown_all}
use Rattle.mm_fragment.specs.Matching.{matches_of, open_nodes}
use Rattle.mm_fragment.specs.Showing.{named_in, shown_at}
use Rattle.mm_fragment.specs.Inside.Keeping.{IsKept}
use Rattle.mm_fragment.specs.Inside.Stored.{BlamesNames, stored_shown}
use Rattle.mm_fragment.proofs.Assembling.{assembled, masks_at}
use Rattle.mm_fragment.proofs.LinkFragment.{kept_is_fragment}
use Rattle.mm_fragment.proofs.StoredShown.{all_shown, kept_named, rebuilt_nodes, root_named, stored_is_shown}

err_more : {T : Type 0} {P Q : Fault → Type 0} (r : Result T Fault) → ((e : Fault) → P e → Q e) → IfErr r P → IfErr r Q
err_more (Ok a) f h = tt
err_more (Err e) f h = f e h

-- damage can't be told where each of these nodes has a name
unbroken : (m : Entries) (xs : List (List ℤ)) → ((x : List ℤ) → Within x xs → stored_name m x ≡ None → ⊥) → (e : Fault) → BlamesNames m xs e → IsSound e
unbroken m xs h DiskFault b = tt
unbroken m xs h Spent b = tt
unbroken m xs h Memory b = tt
unbroken m xs h (Damaged d) b = h b.0 b.1 b.2

pub some_node : (t : Tree Named) → 1 ≤ nodes (one t)
some_node t = omega arith

module _ (query : List (List ℕ)) (f : Trees Labelled) (x : Label) (t : Tree Labelled) (marks ks : List Mark) (w : IsTrue (is_well_formed f)) (h : found x f ≡ Some t)
    (n : marks ≡ matches_of 1 query (open_nodes query (named_in t))) (q : IsKept x marks ks) where
  by_kept : ((kept q.all ≡ []) × (fragment query (named_in t) ≡ (shown_at query f x, none))) ⊎ (rebuild name_label (map (λ m. shown_at query f m.label) (kept q.all)) ≡ one (fragment query (named_in t)))
  by_kept = kept_is_fragment query f x t q.all w h (masks_at query x t marks ks n q)

  -- no more nodes are kept than the fragment has
  pub few : length ks ≤ nodes (one (fragment query (named_in t)))
  few = elim by_kept [
    | inl p ↦ let z : length ks ≡ 0 = ap length (q.kept ∙ p.0) in omega (arith, z)
    | inr p ↦
        let a = rebuilt_nodes (map (λ m. shown_at query f m.label) (kept q.all)) in
        let b : nodes (rebuild name_label (map (λ m. shown_at query f m.label) (kept q.all))) ≡ nodes (one (fragment query (named_in t))) = ap nodes p in
        let c : length (map (λ m. shown_at query f m.label) (kept q.all)) ≡ length (kept q.all) = length-map (kept q.all) _ in
        let d : length ks ≡ length (kept q.all) = ap length q.kept in
        omega (arith, a, b, c, d)
  ]

  module _ (law : FirstPieceNames) (m : Entries) (e : m ≡ image f) (s : IsSorted m) where
    pub all_named : (z : List ℤ) → Within z (labels ks) → stored_name m z ≡ None → ⊥
    all_named z i l =
        let p = within_in mark_label z ks i in
        kept_named law m query f x t q.all marks w h e s n q.masks p.0 (subst (Within p.0) q.kept p.1) (ap (stored_name m) (sym p.2) ∙ l)

    pub sound : {T : Type 0} (o : Result T Fault) → IfErr o (BlamesNames m (labels ks)) → IfErr o IsSound
    sound o b = err_more o (unbroken m (labels ks) all_named) b

    pub root_sound : {T : Type 0} (o : Result T Fault) (y : Label) → y ≡ x → IfErr o (BlamesNames m (y ∷ [])) → IfErr o IsSound
    root_sound o y l b = err_more o (unbroken m (y ∷ []) (λ z i p. elim i [
      | inl c ↦ root_named law m f x t w h e s (ap (stored_name m) (sym (c ∙ l)) ∙ p)
      | inr c ↦ absurd c
    ])) b

    module _ (shown : List Fragment) (o : Option Fragment) (i : roots shown ≡ map (λ z. stored_shown m query marks z.label) ks)
        (tree : (u : Tree Named) → rebuild name_label (roots shown) ≡ one u → MatchOption o ⊥ (λ g. fragment_tree g ≡ u)) (alone : shown ≡ [] → o ≡ None) where
      same : roots shown ≡ shown_all query f ks
      same = i ∙ all_shown (λ z. stored_shown m query marks z.label) (λ z. shown_at query f z.label) ks (λ z l. stored_is_shown law m query f x t q.all marks w h e s n q.masks z (subst (Within z) q.kept l))

      pub put_together : MatchOption o (fragment query (named_in t) ≡ (shown_at query f x, none)) (λ g. fragment_tree g ≡ fragment query (named_in t))
      put_together = assembled query f x t marks ks shown o w h n q same tree alone

      -- the root is shown alone only where no node is kept
      pub none_kept : o ≡ None → length ks ≡ 0
      none_kept z = elim by_kept [
        | inl p ↦ ap length (q.kept ∙ p.0)
        | inr p ↦ absurd (subst (λ (y : Option Fragment). MatchOption y ⊥ (λ g. fragment_tree g ≡ fragment query (named_in t))) z (tree (fragment query (named_in t)) (ap (rebuild name_label) (same ∙ ap (shown_all query f) q.kept) ∙ p)))
      ]
