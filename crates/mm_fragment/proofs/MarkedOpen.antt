-- The siblings that aren't full, and what is marked below them.
use Rattle.std.proofs.Common.{inl, inr, ◌≡◌, ℕ, Bool, true, false, not, ◌&&◌, cond, List, [], ◌∷◌, ◌++◌, refl, ap, ap₂, sym, subst, ◌∙◌}
use Rattle.std.specs.List.{list_any}
use Rattle.std.proofs.lemmas.Bool.{or_parts}
use Rattle.mm_label.specs.Fronts.{Label, Within}
use Rattle.mm_label.specs.Facts.Members.{in_within}
use Rattle.mm_tree.specs.Facts.Places.{preorder_each}
use Rattle.mm_tree.specs.Facts.Full.{none_below}
use Rattle.mm_tree.specs.Facts.Subforests.{Thins, thins_formed, thins_within, formed_each}
use Rattle.mm_tree.specs.Trees.{Trees, none, node, preorder, each}
use Rattle.mm_tree.specs.Search.{is_full, some_full}
use Rattle.mm_tree.specs.Fragments.{Named, bare, bares, row_of, some, less}
use Rattle.mm_tree.specs.Formed.{Formed, name_label}
use Rattle.mm_fragment.specs.Inside.Marked.{Rowed, marked, rows_in, pruned}
use Rattle.mm_fragment.specs.Matching.{outside_full}

abbrev pub row_label : Rowed → Label
row_label m = m.entry.label

-- ---- without the full ones among the siblings

abbrev pub cleared : List (List ℕ) → Trees Named → Trees Named
cleared query none = none
cleared query (node e inner rest) = cond (is_full query (bare e) (bares inner)) (cleared query rest) (node e inner (cleared query rest))

pub outside_is : (query : List (List ℕ)) (f : Trees Named) → outside_full query f ≡ preorder (cleared query f)
outside_is query none = refl
outside_is query (node e inner rest) = by (is_full query (bare e) (bares inner)) (outside_is query rest)
  where
    by : (t : Bool) → outside_full query rest ≡ preorder (cleared query rest)
        → cond t [] (e ∷ preorder inner) ++ outside_full query rest ≡ preorder (cond t (cleared query rest) (node e inner (cleared query rest)))
    by true h = h
    by false h = ap (λ (r : List Named). e ∷ (preorder inner ++ r)) h

-- the nodes with a word, with no regard to full ones
abbrev pub with_words : List (List ℕ) → Trees Named → Trees Rowed
with_words query none = none
with_words query (node e inner rest) =
    cond (some (row_of query e inner)) (node (record { entry = e; row = row_of query e inner }) (with_words query inner) (with_words query rest)) (with_words query rest)

none_full : (query : List (List ℕ)) (f : Trees Named) → some_full query (bares f) ≡ false → marked query f ≡ with_words query f
none_full query none h = refl
none_full query (node e inner rest) h =
    let n = or_parts (is_full query (bare e) (bares inner)) (some_full query (bares rest)) h in
    let low = none_full query inner (none_below query (bare e) (bares inner) n.0) in
    let later = none_full query rest n.1 in
    ap (λ (t : Bool). cond (not t && some (row_of query e inner)) (node (record { entry = e; row = row_of query e inner }) (marked query inner) (marked query rest)) (marked query rest)) n.0
    ∙ ap₂ (λ (i r : Trees Rowed). cond (some (row_of query e inner)) (node (record { entry = e; row = row_of query e inner }) i r) r) low later

pub marked_is : (query : List (List ℕ)) (f : Trees Named) → marked query f ≡ with_words query (cleared query f)
marked_is query none = refl
marked_is query (node e inner rest) = by (is_full query (bare e) (bares inner)) refl (marked_is query rest)
  where
    by : (t : Bool) → is_full query (bare e) (bares inner) ≡ t → marked query rest ≡ with_words query (cleared query rest)
        → cond (not t && some (row_of query e inner)) (node (record { entry = e; row = row_of query e inner }) (marked query inner) (marked query rest)) (marked query rest)
        ≡ with_words query (cond t (cleared query rest) (node e inner (cleared query rest)))
    by true h later = later
    by false h later =
        ap₂ (λ (i r : Trees Rowed). cond (some (row_of query e inner)) (node (record { entry = e; row = row_of query e inner }) i r) r)
        (none_full query inner (none_below query (bare e) (bares inner) h)) later

-- ---- subtrees alone are left out

thins_itself : {A : Type 0} (f : Trees A) → Thins f f
thins_itself none = refl
thins_itself (node a inner rest) = inr (inner, rest, refl, thins_itself inner, thins_itself rest)

pub cleared_thins : (query : List (List ℕ)) (f : Trees Named) → Thins (cleared query f) f
cleared_thins query none = refl
cleared_thins query (node e inner rest) = by (is_full query (bare e) (bares inner)) (cleared_thins query rest)
  where
    by : (t : Bool) → Thins (cleared query rest) rest → Thins (cond t (cleared query rest) (node e inner (cleared query rest))) (node e inner rest)
    by true h = inl h
    by false h = inr (inner, cleared query rest, refl, thins_itself inner, h)

abbrev pub entries : Trees Rowed → Trees Named
entries = each (λ m. m.entry)

words_thins : (query : List (List ℕ)) (f : Trees Named) → Thins (entries (with_words query f)) f
words_thins query none = refl
words_thins query (node e inner rest) = by (some (row_of query e inner)) (words_thins query inner) (words_thins query rest)
  where
    by : (t : Bool) → Thins (entries (with_words query inner)) inner → Thins (entries (with_words query rest)) rest
        → Thins (entries (cond t (node (record { entry = e; row = row_of query e inner }) (with_words query inner) (with_words query rest)) (with_words query rest))) (node e inner rest)
    by true i h = inr (entries (with_words query inner), entries (with_words query rest), refl, i, h)
    by false i h = inl h

pruned_thins : (all : List (List Bool)) (f : Trees Rowed) → Thins (pruned all f) f
pruned_thins all none = refl
pruned_thins all (node m inner rest) = by (list_any (less m.row) all) (pruned_thins (rows_in inner) inner) (pruned_thins all rest)
  where
    by : (t : Bool) → Thins (pruned (rows_in inner) inner) inner → Thins (pruned all rest) rest → Thins (cond t (pruned all rest) (node m (pruned (rows_in inner) inner) (pruned all rest))) (node m inner rest)
    by true i h = inl h
    by false i h = inr (pruned (rows_in inner) inner, pruned all rest, refl, i, h)

-- ---- all of them are well formed

pub cleared_formed : (query : List (List ℕ)) (y : Label) (f : Trees Named) → Formed name_label y f → Formed name_label y (cleared query f)
cleared_formed query y f u = thins_formed name_label y (cleared query f) f (cleared_thins query f) u

pub words_formed : (query : List (List ℕ)) (y : Label) (f : Trees Named) → Formed name_label y f → Formed row_label y (with_words query f)
words_formed query y f u = formed_each (λ m. m.entry) name_label y (with_words query f) (thins_formed name_label y (entries (with_words query f)) f (words_thins query f) u)

pub pruned_formed : (all : List (List Bool)) (y : Label) (f : Trees Rowed) → Formed row_label y f → Formed row_label y (pruned all f)
pruned_formed all y f u = thins_formed row_label y (pruned all f) f (pruned_thins all f) u

pub marked_formed : (query : List (List ℕ)) (y : Label) (f : Trees Named) → Formed name_label y f → Formed row_label y (marked query f)
marked_formed query y f u = subst (Formed row_label y) (sym (marked_is query f)) (words_formed query y (cleared query f) (cleared_formed query y f u))

-- ---- nodes of them are nodes of the trees

pub words_in : (query : List (List ℕ)) (f : Trees Named) (m : Rowed) → Within m (preorder (with_words query f)) → Within m.entry (preorder f)
words_in query f m w = thins_within m.entry (entries (with_words query f)) f (words_thins query f)
    (subst (Within m.entry) (sym (preorder_each (λ m. m.entry) (with_words query f))) (in_within (λ m. m.entry) m (preorder (with_words query f)) w))

pub marked_in : (query : List (List ℕ)) (f : Trees Named) (m : Rowed) → Within m (preorder (marked query f)) → Within m.entry (preorder f)
marked_in query f m w = thins_within m.entry (cleared query f) f (cleared_thins query f)
    (words_in query (cleared query f) m (subst (λ (t : Trees Rowed). Within m (preorder t)) (marked_is query f) w))

pub pruned_in : (all : List (List Bool)) (f : Trees Rowed) (m : Rowed) → Within m (preorder (pruned all f)) → Within m (preorder f)
pruned_in all f m w = thins_within m (pruned all f) f (pruned_thins all f) w
