-- The nodes with words are those on the paths to the nodes that hold a word themselves.
use Rattle.std.proofs.Common.{inl, inr, ◌≡◌, ◌⊎◌, ℕ, ◌+◌, Bool, true, false, ◌||◌, cond, List, [], ◌∷◌, ◌++◌, map, refl, ap, sym, subst, ◌∙◌}
use Rattle.std.specs.List.{filter}
use Rattle.std.proofs.lemmas.Bool.{or_cases, or_left, or_right}
use Rattle.mm_label.specs.Label.{whole}
use Rattle.mm_match.specs.declared.mark.Mark.{Mark}
use Rattle.mm_label.specs.Fronts.{Label, Front, Meets, Within}
use Rattle.mm_match.specs.Marks.{labels}
use Rattle.mm_tree.specs.Trees.{Trees, none, node, preorder}
use Rattle.mm_tree.specs.Search.{has, holds}
use Rattle.mm_tree.specs.Fragments.{Named, bare, bares, row_of, some}
use Rattle.mm_tree.specs.Formed.{Formed, name_label}
use Rattle.mm_fragment.specs.Inside.Marked.{Rowed}
use Rattle.mm_fragment.specs.Matching.{marks_of, matches_of}
use Rattle.mm_label.specs.Facts.Fronts.{front_refl}
use Rattle.mm_tree.specs.Facts.Places.{node_under}
use Rattle.mm_label.specs.Facts.Members.{within_joined, within_first, within_second}
use Rattle.mm_fragment.proofs.MarkedOpen.{with_words}

abbrev pub Word : Type 0
Word = List ℕ

-- one of these nodes, at or below x, holds a word of the query itself
pub record HasMatch (x : Label) (query : List Word) (es : List Named) : Type 0 where
  pub word : Word
  pub asked : Within word query
  pub holder : Named
  pub listed : Within holder es
  pub holds : has (bare holder) word ≡ true
  pub low : Front x holder.label

-- ---- matches and the nodes that they are of

meets_cases : (x : Label) (xs ys : List Mark) → Meets x (labels (xs ++ ys)) → Meets x (labels xs) ⊎ Meets x (labels ys)
meets_cases x [] ys h = inr h
meets_cases x (m ∷ xs) ys h = elim h [ inl f ↦ inl (inl f) | inr k ↦ elim (meets_cases x xs ys k) [ inl q ↦ inl (inr q) | inr q ↦ inr q ] ]

meets_first : (x : Label) (xs ys : List Mark) → Meets x (labels xs) → Meets x (labels (xs ++ ys))
meets_first x [] ys h = absurd h
meets_first x (m ∷ xs) ys h = elim h [ inl f ↦ inl f | inr k ↦ inr (meets_first x xs ys k) ]

meets_second : (x : Label) (xs ys : List Mark) → Meets x (labels ys) → Meets x (labels (xs ++ ys))
meets_second x [] ys h = h
meets_second x (m ∷ xs) ys h = inr (meets_second x xs ys h)

one_word : (x : Label) (bit : ℕ) (w : Word) (es : List Named) → Meets x (labels (marks_of bit (filter (λ e. has (bare e) w) es)))
    → (e : Named) × Within e es × (has (bare e) w ≡ true) × Front x e.label
one_word x bit w [] = λ h. absurd h
one_word x bit w (e ∷ es) = by (has (bare e) w) refl (one_word x bit w es)
  where
    by : (t : Bool) → has (bare e) w ≡ t → (Meets x (labels (marks_of bit (filter (λ e. has (bare e) w) es))) → (d : Named) × Within d es × (has (bare d) w ≡ true) × Front x d.label)
        → Meets x (labels (marks_of bit (cond t (e ∷ filter (λ e. has (bare e) w) es) (filter (λ e. has (bare e) w) es)))) → (d : Named) × Within d (e ∷ es) × (has (bare d) w ≡ true) × Front x d.label
    by true q later h = elim h [ inl f ↦ (e, inl refl, q, f) | inr k ↦ let t = later k in (t.0, inr t.1, t.2, t.3) ]
    by false q later h = let t = later h in (t.0, inr t.1, t.2, t.3)

of_word : (x : Label) (bit : ℕ) (w : Word) (es : List Named) (d : Named) → Within d es → has (bare d) w ≡ true → Front x d.label → Meets x (labels (marks_of bit (filter (λ e. has (bare e) w) es)))
of_word x bit w [] d i q f = absurd i
of_word x bit w (e ∷ es) d i q f = by (has (bare e) w) refl i (λ k. of_word x bit w es d k q f)
  where
    by : (t : Bool) → has (bare e) w ≡ t → Within d (e ∷ es) → (Within d es → Meets x (labels (marks_of bit (filter (λ e. has (bare e) w) es))))
        → Meets x (labels (marks_of bit (cond t (e ∷ filter (λ e. has (bare e) w) es) (filter (λ e. has (bare e) w) es))))
    by true r i later = elim i [ inl k ↦ inl (subst (λ (n : Named). Front x n.label) k f) | inr k ↦ inr (later k) ]
    by false r i later = elim i [
      | inl k ↦ let z = subst (λ (n : Named). has (bare n) w ≡ true) k q in absurd cc
      | inr k ↦ later k
    ]

pub match_of : (x : Label) (bit : ℕ) (query : List Word) (es : List Named) → Meets x (labels (matches_of bit query es)) → HasMatch x query es
match_of x bit [] es h = absurd h
match_of x bit (w ∷ query) es h = elim (meets_cases x (marks_of bit (filter (λ e. has (bare e) w) es)) (matches_of (bit + bit) query es) h) [
  | inl k ↦ let t = one_word x bit w es k in record { word = w; asked = inl refl; holder = t.0; listed = t.1; holds = t.2; low = t.3 }
  | inr k ↦ let m = match_of x (bit + bit) query es k in record { word = m.word; asked = inr m.asked; holder = m.holder; listed = m.listed; holds = m.holds; low = m.low }
]

meets_at : (x : Label) (bit : ℕ) (query : List Word) (es : List Named) (w : Word) (d : Named) → Within w query → Within d es → has (bare d) w ≡ true → Front x d.label → Meets x (labels (matches_of bit query es))
meets_at x bit [] es w d a i q f = absurd a
meets_at x bit (v ∷ query) es w d a i q f = elim a [
  | inl k ↦ meets_first x (marks_of bit (filter (λ e. has (bare e) v) es)) (matches_of (bit + bit) query es) (of_word x bit v es d i (subst (λ (u : Word). has (bare d) u ≡ true) k q) f)
  | inr k ↦ meets_second x (marks_of bit (filter (λ e. has (bare e) v) es)) (matches_of (bit + bit) query es) (meets_at x (bit + bit) query es w d k i q f)
]

pub match_meets : (x : Label) (bit : ℕ) (query : List Word) (es : List Named) → HasMatch x query es → Meets x (labels (matches_of bit query es))
match_meets x bit query es m = meets_at x bit query es m.word m.holder m.asked m.listed m.holds m.low

pub match_in : (x : Label) (query : List Word) (es ds : List Named) → ((e : Named) → Within e es → Within e ds) → HasMatch x query es → HasMatch x query ds
match_in x query es ds into m = record { word = m.word; asked = m.asked; holder = m.holder; listed = into m.holder m.listed; holds = m.holds; low = m.low }

-- ---- rows and the nodes that they are of

some_word : (t : Word → Bool) (query : List Word) → some (map t query) ≡ true → (w : Word) × Within w query × (t w ≡ true)
some_word t [] h = absurd cc
some_word t (w ∷ query) h = elim (or_cases (t w) (some (map t query)) h) [
  | inl k ↦ (w, inl refl, k)
  | inr k ↦ let r = some_word t query k in (r.0, inr r.1, r.2)
]

word_some : (t : Word → Bool) (query : List Word) (w : Word) → Within w query → t w ≡ true → some (map t query) ≡ true
word_some t [] w i h = absurd i
word_some t (v ∷ query) w i h = elim i [
  | inl k ↦ or_left (t v) (some (map t query)) (ap t (sym k) ∙ h)
  | inr k ↦ or_right (t v) (some (map t query)) (word_some t query w k h)
]

holder_of : (w : Word) (f : Trees Named) → holds w (bares f) ≡ true → (e : Named) × Within e (preorder f) × (has (bare e) w ≡ true)
holder_of w none h = absurd cc
holder_of w (node e inner rest) h = elim (or_cases (has (bare e) w) (holds w (bares inner) || holds w (bares rest)) h) [
  | inl k ↦ (e, inl refl, k)
  | inr k ↦ elim (or_cases (holds w (bares inner)) (holds w (bares rest)) k) [
    | inl q ↦ let t = holder_of w inner q in (t.0, inr (within_first t.0 (preorder inner) (preorder rest) t.1), t.2)
    | inr q ↦ let t = holder_of w rest q in (t.0, inr (within_second t.0 (preorder inner) (preorder rest) t.1), t.2)
  ]
]

pub of_holder : (w : Word) (f : Trees Named) (e : Named) → Within e (preorder f) → has (bare e) w ≡ true → holds w (bares f) ≡ true
of_holder w none e i h = absurd i
of_holder w (node d inner rest) e i h = elim i [
  | inl k ↦ or_left (has (bare d) w) (holds w (bares inner) || holds w (bares rest)) (subst (λ (n : Named). has (bare n) w ≡ true) k h)
  | inr k ↦ or_right (has (bare d) w) (holds w (bares inner) || holds w (bares rest)) (elim (within_joined e (preorder inner) (preorder rest) k) [
    | inl q ↦ or_left (holds w (bares inner)) (holds w (bares rest)) (of_holder w inner e q h)
    | inr q ↦ or_right (holds w (bares inner)) (holds w (bares rest)) (of_holder w rest e q h)
  ])
]

-- a node with a word in its row has a match at or below it
row_match : (query : List Word) (e : Named) (inner : Trees Named) → Formed name_label e.label inner → some (row_of query e inner) ≡ true → HasMatch e.label query (e ∷ preorder inner)
row_match query e inner u h =
    let r = some_word (λ w. has (bare e) w || holds w (bares inner)) query h in
    elim (or_cases (has (bare e) r.0) (holds r.0 (bares inner)) r.2) [
      | inl k ↦ record { word = r.0; asked = r.1; holder = e; listed = inl refl; holds = k; low = front_refl e.label }
      | inr k ↦ let t = holder_of r.0 inner k in
          record { word = r.0; asked = r.1; holder = t.0; listed = inr t.1; holds = t.2; low = (node_under name_label e.label inner t.0 u t.1).0 }
    ]

pub words_match : (query : List Word) (y : Label) (f : Trees Named) (m : Rowed) → Formed name_label y f → Within m (preorder (with_words query f)) → HasMatch m.entry.label query (preorder f)
words_match query y none m u w = absurd w
words_match query y (node e inner rest) m u w = by (some (row_of query e inner)) refl (words_match query e.label inner m u.1) (words_match query y rest m u.3) w
  where
    by : (t : Bool) → some (row_of query e inner) ≡ t → (Within m (preorder (with_words query inner)) → HasMatch m.entry.label query (preorder inner)) → (Within m (preorder (with_words query rest)) → HasMatch m.entry.label query (preorder rest))
        → Within m (preorder (cond t (node (record { entry = e; row = row_of query e inner }) (with_words query inner) (with_words query rest)) (with_words query rest)))
        → HasMatch m.entry.label query (e ∷ (preorder inner ++ preorder rest))
    by true h i r w = elim w [
      | inl k ↦ subst (λ (n : Rowed). HasMatch n.entry.label query (e ∷ (preorder inner ++ preorder rest))) (sym k)
          (match_in e.label query (e ∷ preorder inner) (e ∷ (preorder inner ++ preorder rest)) (λ d q. elim q [ inl z ↦ inl z | inr z ↦ inr (within_first d (preorder inner) (preorder rest) z) ]) (row_match query e inner u.1 h))
      | inr k ↦ elim (within_joined m (preorder (with_words query inner)) (preorder (with_words query rest)) k) [
        | inl q ↦ match_in m.entry.label query (preorder inner) (e ∷ (preorder inner ++ preorder rest)) (λ d z. inr (within_first d (preorder inner) (preorder rest) z)) (i q)
        | inr q ↦ match_in m.entry.label query (preorder rest) (e ∷ (preorder inner ++ preorder rest)) (λ d z. inr (within_second d (preorder inner) (preorder rest) z)) (r q)
      ]
    ]
    by false h i r w = match_in m.entry.label query (preorder rest) (e ∷ (preorder inner ++ preorder rest)) (λ d z. inr (within_second d (preorder inner) (preorder rest) z)) (r w)

-- ---- each node above a match has words

abbrev pub Shown : Label → List Rowed → Type 0
Shown x ms = (m : Rowed) × Within m ms × (x ≡ m.entry.label)

abbrev pub both_trees : List Word → Named → Trees Named → Trees Named → Trees Rowed
both_trees query e inner rest = node (record { entry = e; row = row_of query e inner }) (with_words query inner) (with_words query rest)

pub path : (query : List Word) (y x : Label) (f : Trees Named) (w : Word) (d : Named) → Formed name_label y f → whole x ≡ x → Within w query → Within d (preorder f) → has (bare d) w ≡ true → Front x d.label
    → Front x y ⊎ Shown x (preorder (with_words query f))
path query y x none w d u v a i h f = absurd i
path query y x (node e inner rest) w d u v a i h f = elim i [
  | inl k ↦ top (or_left (has (bare e) w) (holds w (bares inner)) (subst (λ (n : Named). has (bare n) w ≡ true) k h)) (subst (λ (n : Named). Front x n.label) k f)
  | inr k ↦ elim (within_joined d (preorder inner) (preorder rest) k) [
    | inl q ↦
        let held = or_right (has (bare e) w) (holds w (bares inner)) (of_holder w inner d q h) in
        elim (path query e.label x inner w d u.1 v a q h f) [
          | inl g ↦ top held g
          | inr s ↦ inr (subst (λ (t : Bool). Shown x (preorder (cond t (both_trees query e inner rest) (with_words query rest)))) (sym (row_some held)) (s.0, inr (within_first s.0 (preorder (with_words query inner)) (preorder (with_words query rest)) s.1), s.2))
        ]
    | inr q ↦ elim (path query y x rest w d u.3 v a q h f) [
      | inl g ↦ inl g
      | inr s ↦ inr (later (some (row_of query e inner)) s)
    ]
  ]
]
  where
    row_some : (has (bare e) w || holds w (bares inner)) ≡ true → some (row_of query e inner) ≡ true
    row_some held = word_some (λ v. has (bare e) v || holds v (bares inner)) query w a held

    later : (t : Bool) → Shown x (preorder (with_words query rest)) → Shown x (preorder (cond t (both_trees query e inner rest) (with_words query rest)))
    later true s = (s.0, inr (within_second s.0 (preorder (with_words query inner)) (preorder (with_words query rest)) s.1), s.2)
    later false s = s

    top : (has (bare e) w || holds w (bares inner)) ≡ true → Front x e.label → Front x y ⊎ Shown x (preorder (cond (some (row_of query e inner)) (both_trees query e inner rest) (with_words query rest)))
    top held g = elim (u.0.one x v g) [
      | inl k ↦ inl k
      | inr k ↦ inr (subst (λ (t : Bool). Shown x (preorder (cond t (both_trees query e inner rest) (with_words query rest)))) (sym (row_some held)) (record { entry = e; row = row_of query e inner }, inl refl, k))
    ]
