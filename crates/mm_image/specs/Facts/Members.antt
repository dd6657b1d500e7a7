-- What stands in the image of a forest: each node of a word's list, each word's count, and nothing else in their ranges.
use Rattle.std.proofs.Common.{map, inl, inr, ◌≡◌, ◌⊎◌, ℕ, ℤ, zero, suc, ◌≤◌, arith, Bool, true, false, cond, IsTrue, List, [], ◌∷◌, ◌++◌, refl, ap, sym, subst, ◌∙◌}
use Rattle.std.specs.Prelude.{bytes_eq, flat_map}
use Rattle.std.specs.List.{list_any, range_with_len}
use Rattle.std.proofs.lemmas.Bool.{and_parts}
use Rattle.std.proofs.lemmas.Grind.{flat_map-append}
use Rattle.std.proofs.lemmas.Slice.Eq.{bytes_eq-Decides}
use Rattle.mm_list.specs.Facts.{flat_map_mapped}
use Rattle.mm_label.specs.Bytes.{bytes_of}
use Rattle.mm_label.specs.Fronts.{Within}
use Rattle.mm_label.specs.Label.{IsLabel}
use Rattle.mm_label.specs.Facts.Lists.{within_own}
use Rattle.mm_label.specs.Facts.Members.{within_first, within_second, within_joined, within_flat, flat_within, within_in, in_within, any_found}
use Rattle.mm_words.specs.Words.{is_word}
use Rattle.mm_keeper.specs.Entries.{Entry, below}
use Rattle.mm_tree.specs.Trees.{Trees, none, node, every, has_some, preorder}
use Rattle.mm_tree.specs.Forests.{has_valid_kind, is_well_formed}
use Rattle.mm_tree.specs.Numbering.{Labelled}
use Rattle.mm_tree.specs.Search.{Worded, has, list_of, own, worded, worded_as}
use Rattle.mm_tree.specs.declared.plain.Kind.{Kind}
use Rattle.mm_tree.specs.declared.plain.Kind.TheVariants.{Element, Words}
use Rattle.mm_tree.specs.Validity.{is_valid_kind, piece_count}
use Rattle.mm_image.specs.Content.{piece}
use Rattle.mm_tree.specs.Facts.Labels.{node_is_labelled}
use Rattle.mm_tree.specs.Facts.Places.{preorder_each}
use Rattle.mm_tree.specs.Facts.Words.{own_word}
use Rattle.mm_image.specs.Image.{chunks, chunks_of, count_of, counts, image, in_order, occurrences, occurrences_of, with_word, words}
use Rattle.mm_image.specs.Keys.{chunk_key, count_key, occurrence_key}
use Rattle.mm_image.specs.Facts.Keys.{no_zero, same_word}

abbrev Label : Type 0
Label = List ℤ

abbrev Word : Type 0
Word = List ℕ

-- ---- the nodes of a word

abbrev pub own_label : Word → Labelled → List Label
own_label w e = cond (list_any (bytes_eq w) (own e.kind)) (e.label ∷ []) []

list_is : (w : Word) (nodes : Trees Worded) → list_of w nodes ≡ flat_map (λ e. cond (has e w) (e.label ∷ []) []) (preorder nodes)
list_is w none = refl
list_is w (node e inner rest) = ap (λ (z : List Label). cond (has e w) (e.label ∷ []) [] ++ z) (
    ap (λ (z : List Label). z ++ list_of w rest) (list_is w inner)
    ∙ (ap (λ (z : List Label). flat_map (λ d. cond (has d w) (d.label ∷ []) []) (preorder inner) ++ z) (list_is w rest)
    ∙ sym (flat_map-append (λ d. cond (has d w) (d.label ∷ []) []) (preorder inner) (preorder rest))))

pub listed_is : (w : Word) (f : Trees Labelled) → list_of w (worded f) ≡ flat_map (own_label w) (preorder f)
listed_is w f = list_is w (worded f)
    ∙ (ap (flat_map (λ e. cond (has e w) (e.label ∷ []) [])) (preorder_each worded_as f)
    ∙ flat_map_mapped (λ e. cond (has e w) (e.label ∷ []) []) worded_as (preorder f))

pub own_within : (w : Word) (e : Labelled) (m : Label) → Within m (own_label w e) → m ≡ e.label
own_within w e m h = within_own (list_any (bytes_eq w) (own e.kind)) e.label m h

pub listed_label : (w : Word) (f : Trees Labelled) → IsTrue (is_well_formed f) → (m : Label) → Within m (list_of w (worded f)) → IsLabel m
listed_label w f g m h =
    let t = within_flat (own_label w) m (preorder f) (subst (Within m) (listed_is w f) h) in
    subst IsLabel (sym (own_within w t.0 m t.2)) (node_is_labelled f g t.0 t.1)

-- ---- the words in order, each once

with_word_of : (v w : Word) (ws : List Word) → Within v (with_word w ws) → (v ≡ w) ⊎ Within v ws
with_word_of v w [] h = elim h [ inl q ↦ inl q | inr q ↦ absurd q ]
with_word_of v w (u ∷ us) h = by (below u w) (bytes_eq u w) h (with_word_of v w us)
  where
    by : (b c : Bool) → Within v (cond b (u ∷ with_word w us) (cond c (u ∷ us) (w ∷ u ∷ us))) → (Within v (with_word w us) → (v ≡ w) ⊎ Within v us) → (v ≡ w) ⊎ Within v (u ∷ us)
    by true c h f = elim h [ inl q ↦ inr (inl q) | inr q ↦ elim (f q) [ inl r ↦ inl r | inr r ↦ inr (inr r) ] ]
    by false true h f = inr h
    by false false h f = elim h [ inl q ↦ inl q | inr q ↦ inr q ]

in_order_of : (v : Word) (ws : List Word) → Within v (in_order ws) → Within v ws
in_order_of v [] h = h
in_order_of v (w ∷ ws) h = elim (with_word_of v w (in_order ws) h) [ inl q ↦ inl q | inr q ↦ inr (in_order_of v ws q) ]

pub words_are : (f : Trees Labelled) (v : Word) → Within v (words (worded f)) → is_word v ≡ true
words_are f v h =
    let t = within_flat (λ (e : Worded). e.words) v (preorder (worded f)) (in_order_of v (flat_map (λ e. e.words) (preorder (worded f))) h) in
    let u = within_in worded_as t.0 (preorder f) (subst (Within t.0) (preorder_each worded_as f) t.1) in
    own_word v (u.0.kind) (subst (λ (z : Worded). Within v z.words) u.2 t.2)

with_word_has : (w : Word) (ws : List Word) → Within w (with_word w ws)
with_word_has w [] = inl refl
with_word_has w (u ∷ us) = by (below u w) (bytes_eq u w) refl (with_word_has w us)
  where
    by : (b c : Bool) → bytes_eq u w ≡ c → Within w (with_word w us) → Within w (cond b (u ∷ with_word w us) (cond c (u ∷ us) (w ∷ u ∷ us)))
    by true c e f = inr f
    by false true e f = inl (sym ((bytes_eq-Decides u w).0 e))
    by false false e f = inl refl

with_word_keeps : (v w : Word) (ws : List Word) → Within v ws → Within v (with_word w ws)
with_word_keeps v w [] h = absurd h
with_word_keeps v w (u ∷ us) h = by (below u w) (bytes_eq u w) h (with_word_keeps v w us)
  where
    by : (b c : Bool) → Within v (u ∷ us) → (Within v us → Within v (with_word w us)) → Within v (cond b (u ∷ with_word w us) (cond c (u ∷ us) (w ∷ u ∷ us)))
    by true c h f = elim h [ inl q ↦ inl q | inr q ↦ inr (f q) ]
    by false true h f = h
    by false false h f = inr h

in_order_has : (v : Word) (ws : List Word) → Within v ws → Within v (in_order ws)
in_order_has v [] h = h
in_order_has v (w ∷ ws) h = elim h [
  | inl q ↦ subst (λ (z : Word). Within z (with_word w (in_order ws))) (sym q) (with_word_has w (in_order ws))
  | inr q ↦ with_word_keeps v w (in_order ws) (in_order_has v ws q)
]

-- a listed word is one of the words
pub listed_word : (w : Word) (l : Label) (f : Trees Labelled) → Within l (list_of w (worded f)) → Within w (words (worded f))
listed_word w l f h =
    let t = within_flat (own_label w) l (preorder f) (subst (Within l) (listed_is w f) h) in
    in_order_has w (flat_map (λ e. e.words) (preorder (worded f)))
    (flat_within (λ (e : Worded). e.words) (worded_as t.0) w (preorder (worded f)) (subst (Within (worded_as t.0)) (sym (preorder_each worded_as f)) (in_within worded_as t.0 (preorder f) t.1)) (held t.0 (list_any (bytes_eq w) (own (t.0).kind)) refl t.2))
  where
    held : (e : Labelled) (b : Bool) → list_any (bytes_eq w) (own e.kind) ≡ b → Within l (cond b (e.label ∷ []) []) → Within w (own e.kind)
    held e true k h = let r = any_found (bytes_eq w) (own e.kind) k in subst (λ (z : Word). Within z (own e.kind)) (sym ((bytes_eq-Decides w r.0).0 r.2)) r.1
    held e false k h = absurd h

-- ---- entries

-- each node of a word's list has its entry
pub occurrence_in : (w : List ℕ) (l : List ℤ) (f : Trees Labelled) → Within l (list_of w (worded f)) → Within (occurrence_key w l, []) (image f)
occurrence_in w l f h =
    within_second (occurrence_key w l, []) (chunks f) (occurrences (worded f) ++ counts (worded f))
    (within_first (occurrence_key w l, []) (occurrences (worded f)) (counts (worded f))
    (flat_within (occurrences_of (worded f)) w (occurrence_key w l, []) (words (worded f)) (listed_word w l f h)
    (in_within (λ (k : List ℤ). (occurrence_key w k, [])) l (list_of w (worded f)) h)))

-- an entry of a word's range is that of a node of its list
pub occurrence_of : (w r : List ℕ) (e : Entry) (f : Trees Labelled) → is_word w ≡ true → Within e (image f) → e.0 ≡ 2 ∷ w ++ (0 ∷ r) → (l : List ℤ) × Within l (list_of w (worded f)) × (r ≡ bytes_of l)
occurrence_of w r e f g h k = elim (within_joined e (chunks f) (occurrences (worded f) ++ counts (worded f)) h) [
  | inl q ↦ absurd (let t = within_flat chunks_of e (preorder f) q in let u = within_in _ e _ t.2 in let s = u.2 in cc)
  | inr q ↦ elim (within_joined e (occurrences (worded f)) (counts (worded f)) q) [
    | inl p ↦
        let t = within_flat (occurrences_of (worded f)) e (words (worded f)) p in
        let u = within_in (λ (l : List ℤ). (occurrence_key t.0 l, [])) e (list_of t.0 (worded f)) t.2 in
        let s = u.2 in
        let x : t.0 ++ (0 ∷ bytes_of u.0) ≡ w ++ (0 ∷ r) = cc in
        let y = same_word t.0 w (bytes_of u.0) r (no_zero t.0 (words_are f t.0 t.1)) (no_zero w g) x in
        (u.0, subst (λ (z : List ℕ). Within u.0 (list_of z (worded f))) y.0 u.1, sym y.1)
    | inr p ↦ absurd (let u = within_in (count_of (worded f)) e (words (worded f)) p in let s = u.2 in cc)
  ]
]

-- a word with a node has its count
pub count_in : (w : List ℕ) (l : List ℤ) (f : Trees Labelled) → Within l (list_of w (worded f)) → Within (count_of (worded f) w) (image f)
count_in w l f h =
    within_second (count_of (worded f) w) (chunks f) (occurrences (worded f) ++ counts (worded f))
    (within_second (count_of (worded f) w) (occurrences (worded f)) (counts (worded f))
    (in_within (count_of (worded f)) w (words (worded f)) (listed_word w l f h)))

-- an entry at a word's count is its count
pub count_is : (w : List ℕ) (e : Entry) (f : Trees Labelled) → Within e (image f) → e.0 ≡ count_key w → e ≡ count_of (worded f) w
count_is w e f h k = elim (within_joined e (chunks f) (occurrences (worded f) ++ counts (worded f)) h) [
  | inl q ↦ absurd (let t = within_flat chunks_of e (preorder f) q in let u = within_in _ e _ t.2 in let s = u.2 in cc)
  | inr q ↦ elim (within_joined e (occurrences (worded f)) (counts (worded f)) q) [
    | inl p ↦ absurd (
        let t = within_flat (occurrences_of (worded f)) e (words (worded f)) p in
        let u = within_in (λ (l : List ℤ). (occurrence_key t.0 l, [])) e (list_of t.0 (worded f)) t.2 in
        let s = u.2 in cc)
    | inr p ↦ let u = within_in (count_of (worded f)) e (words (worded f)) p in let s = u.2 in let t : u.0 ≡ w = cc in s ∙ ap (count_of (worded f)) t
  ]
]

-- ---- the first piece of a node

-- the kinds of a well-formed forest are valid
pub node_is_valid : (f : Trees Labelled) → every has_valid_kind f ≡ true → (d : Labelled) → Within d (preorder f) → is_valid_kind d.kind ≡ true
node_is_valid none v d i = absurd i
node_is_valid (node e inner rest) v d i =
    let a = and_parts (has_valid_kind e (has_some inner)) _ v in
    let b = and_parts (every has_valid_kind inner) _ a.1 in
    elim i [
      | inl h ↦ subst (λ (z : Labelled). is_valid_kind z.kind ≡ true) (sym h) (and_parts (is_valid_kind e.kind) _ a.0).0
      | inr h ↦ elim (within_joined d (preorder inner) (preorder rest) h) [
        | inl m ↦ node_is_valid inner b.0 d m
        | inr m ↦ node_is_valid rest b.1 d m
      ]
    ]

piece_there : (kind : Kind) → 1 ≤ piece_count kind
piece_there (Element name attributes) = omega arith
piece_there (Words text) = omega arith

first_of_range : {X : Type 0} (g : ℕ → X) (n : ℕ) → 1 ≤ n → Within (g 0) (map g (range_with_len 0 n))
first_of_range g zero h = absurd (omega (arith, h))
first_of_range g (suc n) h = inl refl

-- each node has its first piece
pub chunk_in : (f : Trees Labelled) (d : Labelled) → Within d (preorder f) → Within (chunk_key d.label 0, piece d.kind 0) (image f)
chunk_in f d i =
    within_first (chunk_key d.label 0, piece d.kind 0) (chunks f) (occurrences (worded f) ++ counts (worded f))
    (flat_within chunks_of d (chunk_key d.label 0, piece d.kind 0) (preorder f) i (first_of_range (λ n. (chunk_key d.label n, piece d.kind n)) (piece_count d.kind) (piece_there d.kind)))
