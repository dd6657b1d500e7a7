-- A node's mask is its row as a number.
use Rattle.std.proofs.Common.{inl, inr, ◌≡◌, ℕ, suc, ◌+◌, ◌*◌, ◌^◌, ◌<◌, Bool, true, false, ◌&&◌, ◌||◌, cond, List, [], ◌∷◌, ◌++◌, map, refl, ap, ap₂, sym, subst, ◌∙◌, arith}
use Rattle.std.specs.List.{list_any, filter}
use Rattle.std.specs.Int.Bits.{bit_or, or_zero_r}
use Rattle.std.proofs.lemmas.Nat.{or_block}
use Rattle.std.proofs.lemmas.List.Folds.{list_any-append}
use Rattle.std.proofs.lemmas.Bool.{and_parts}
use Rattle.mm_match.specs.declared.mark.Mark.{Mark}
use Rattle.mm_label.specs.Fronts.{Label, Front, is_front, Apart, Within}
use Rattle.mm_match.specs.Marks.{mask_from, mask_at}
use Rattle.mm_tree.specs.Trees.{Trees, none, node, preorder}
use Rattle.mm_tree.specs.Search.{has, holds}
use Rattle.mm_tree.specs.Fragments.{Named, bare, bares, row_of, some}
use Rattle.mm_tree.specs.Formed.{Formed, name_label}
use Rattle.mm_fragment.specs.Inside.Marked.{Rowed, mask_of}
use Rattle.mm_fragment.specs.Matching.{marks_of, matches_of}
use Rattle.mm_fragment.proofs.Subtree.{apart_common}
use Rattle.mm_label.specs.Facts.Fronts.{front_refl, front_trans, front_antisym, front_yes, is_front_of, not_front}
use Rattle.mm_tree.specs.Facts.Places.{node_under, node_apart}
use Rattle.mm_label.specs.Facts.Members.{within_joined, any_none}
use Rattle.mm_fragment.proofs.MarkedOpen.{with_words, words_in}
use Rattle.mm_fragment.proofs.LinkPaths.{Word, both_trees}

-- one of these nodes at or below x holds the word itself
abbrev pub reaches : Label → Word → List Named → Bool
reaches x w es = list_any (λ e. has (bare e) w && is_front x e.label) es

-- ---- the matches' bits, word by word

bit_more : (n k : ℕ) (seen : Bool) → n < 2 ^ k → bit_or (n + cond seen (2 ^ k) 0) (2 ^ k) ≡ n + 2 ^ k
bit_more n k seen h =
    let p : 0 < 2 ^ k = omega (arith, h) in
    ap₂ bit_or (first seen) (second (2 ^ k)) ∙ (or_block k (cond seen 1 0) 1 n 0 h p ∙ last seen)
  where
    first : (seen : Bool) → n + cond seen (2 ^ k) 0 ≡ cond seen 1 0 * 2 ^ k + n
    first true = omega arith
    first false = omega arith

    second : (p : ℕ) → p ≡ 1 * p + 0
    second p = omega arith

    zero_last : bit_or n 0 ≡ n
    zero_last = or_zero_r n

    last : (seen : Bool) → bit_or (cond seen 1 0) 1 * 2 ^ k + bit_or n 0 ≡ n + 2 ^ k
    last true = ap (λ (m : ℕ). 1 * 2 ^ k + m) zero_last ∙ omega arith
    last false = ap (λ (m : ℕ). 1 * 2 ^ k + m) zero_last ∙ omega arith

one_word : (n k : ℕ) (x : Label) (w : Word) (es : List Named) (ms : List Mark) (seen : Bool) → n < 2 ^ k
    → mask_from (n + cond seen (2 ^ k) 0) x (marks_of (2 ^ k) (filter (λ e. has (bare e) w) es) ++ ms) ≡ mask_from (n + cond (seen || reaches x w es) (2 ^ k) 0) x ms
one_word n k x w [] ms seen h = ap (λ (t : Bool). mask_from (n + cond t (2 ^ k) 0) x ms) (by seen)
  where
    by : (t : Bool) → t ≡ (t || false)
    by true = refl
    by false = refl
one_word n k x w (e ∷ es) ms seen h = by (has (bare e) w) (is_front x e.label) refl (one_word n k x w es ms true h) (one_word n k x w es ms seen h)
  where
    or_true : (t : Bool) → (t || true) ≡ true
    or_true true = refl
    or_true false = refl

    by : (t f : Bool) → is_front x e.label ≡ f
        → mask_from (n + 2 ^ k) x (marks_of (2 ^ k) (filter (λ e. has (bare e) w) es) ++ ms) ≡ mask_from (n + 2 ^ k) x ms
        → mask_from (n + cond seen (2 ^ k) 0) x (marks_of (2 ^ k) (filter (λ e. has (bare e) w) es) ++ ms) ≡ mask_from (n + cond (seen || reaches x w es) (2 ^ k) 0) x ms
        → mask_from (n + cond seen (2 ^ k) 0) x (marks_of (2 ^ k) (cond t (e ∷ filter (λ e. has (bare e) w) es) (filter (λ e. has (bare e) w) es)) ++ ms)
        ≡ mask_from (n + cond (seen || ((t && f) || reaches x w es)) (2 ^ k) 0) x ms
    by false f q more same = same
    by true true q more same =
        ap (λ (t : Bool). mask_from (cond t (bit_or (n + cond seen (2 ^ k) 0) (2 ^ k)) (n + cond seen (2 ^ k) 0)) x (marks_of (2 ^ k) (filter (λ e. has (bare e) w) es) ++ ms)) q
        ∙ (ap (λ (m : ℕ). mask_from m x (marks_of (2 ^ k) (filter (λ e. has (bare e) w) es) ++ ms)) (bit_more n k seen h)
        ∙ (more ∙ ap (λ (t : Bool). mask_from (n + cond t (2 ^ k) 0) x ms) (sym (or_true seen))))
    by true false q more same =
        ap (λ (t : Bool). mask_from (cond t (bit_or (n + cond seen (2 ^ k) 0) (2 ^ k)) (n + cond seen (2 ^ k) 0)) x (marks_of (2 ^ k) (filter (λ e. has (bare e) w) es) ++ ms)) q ∙ same

doubled : (n p rest : ℕ) (flag : Bool) → (n + cond flag p 0) + (p + p) * rest ≡ n + p * (rest * 2 ^ 1 + cond flag 1 0)
doubled n p rest true = omega arith
doubled n p rest false = omega arith

more_bits : (k : ℕ) → 2 ^ k + 2 ^ k ≡ 2 ^ suc k
more_bits k = omega arith

all_words : (n k : ℕ) (x : Label) (query : List Word) (es : List Named) → n < 2 ^ k
    → mask_from n x (matches_of (2 ^ k) query es) ≡ n + 2 ^ k * mask_of (map (λ w. reaches x w es) query)
all_words n k x [] es h = omega arith
all_words n k x (w ∷ query) es h =
    let m = n + cond (reaches x w es) (2 ^ k) 0 in
    let d = more_bits k in
    let s : m < 2 ^ suc k = small (reaches x w es) in
    ap (λ (j : ℕ). mask_from j x (marks_of (2 ^ k) (filter (λ e. has (bare e) w) es) ++ matches_of (2 ^ k + 2 ^ k) query es)) (plain n)
    ∙ (one_word n k x w es (matches_of (2 ^ k + 2 ^ k) query es) false h
    ∙ (ap (λ (p : ℕ). mask_from m x (matches_of p query es)) d
    ∙ (all_words m (suc k) x query es s
    ∙ (ap (λ (p : ℕ). m + p * mask_of (map (λ v. reaches x v es) query)) (sym d)
    ∙ doubled n (2 ^ k) (mask_of (map (λ v. reaches x v es) query)) (reaches x w es)))))
  where
    plain : (n : ℕ) → n ≡ n + 0
    plain n = omega arith

    small : (t : Bool) → n + cond t (2 ^ k) 0 < 2 ^ suc k
    small true = omega (arith, h)
    small false = omega (arith, h)

pub mask_is : (x : Label) (query : List Word) (es : List Named) → mask_at x (matches_of 1 query es) ≡ mask_of (map (λ w. reaches x w es) query)
mask_is x query es = all_words 0 0 x query es (omega arith) ∙ omega arith

-- ---- what is reached from a node

none_reached : (x : Label) (w : Word) (es : List Named) → ((e : Named) → Within e es → Front x e.label → ⊥) → reaches x w es ≡ false
none_reached x w es h = any_none (λ e. has (bare e) w && is_front x e.label) es (λ e i q. h e i (front_yes x e.label (and_parts (has (bare e) w) (is_front x e.label) q).1))

or_none : (t : Bool) → (t || false) ≡ t
or_none true = refl
or_none false = refl

all_reached : (x y : Label) (w : Word) (f : Trees Named) → Formed name_label y f → Front x y → reaches x w (preorder f) ≡ holds w (bares f)
all_reached x y w none u g = refl
all_reached x y w (node e inner rest) u g =
    ap₂ (λ (a b : Bool). (has (bare e) w && a) || b) (is_front_of x e.label (front_trans x y e.label g u.0.below))
    (list_any-append (λ d. has (bare d) w && is_front x d.label) (preorder inner) (preorder rest)
    ∙ ap₂ (λ (a b : Bool). a || b) (all_reached x e.label w inner u.1 (front_trans x y e.label g u.0.below)) (all_reached x y w rest u.3 g))
    ∙ by (has (bare e) w)
  where
    by : (t : Bool) → ((t && true) || (holds w (bares inner) || holds w (bares rest))) ≡ (t || (holds w (bares inner) || holds w (bares rest)))
    by true = refl
    by false = refl

-- the first reaches itself and what lies below it
reached_first : (y : Label) (w : Word) (e : Named) (inner rest : Trees Named) → Formed name_label y (node e inner rest)
    → reaches e.label w (e ∷ (preorder inner ++ preorder rest)) ≡ (has (bare e) w || holds w (bares inner))
reached_first y w e inner rest u =
    ap₂ (λ (a b : Bool). (has (bare e) w && a) || b) (is_front_of e.label e.label (front_refl e.label))
    (list_any-append (λ d. has (bare d) w && is_front e.label d.label) (preorder inner) (preorder rest)
    ∙ ap₂ (λ (a b : Bool). a || b) (all_reached e.label e.label w inner u.1 (front_refl e.label))
    (none_reached e.label w (preorder rest) (λ d i f. (node_apart name_label e.label y rest d u.3 u.2 i).1 f)))
    ∙ by (has (bare e) w) (holds w (bares inner))
  where
    by : (t s : Bool) → ((t && true) || (s || false)) ≡ (t || s)
    by true s = refl
    by false s = or_none s

-- what lies below the first reaches none but those there
reached_inner : (y x : Label) (w : Word) (e : Named) (inner rest : Trees Named) → Formed name_label y (node e inner rest) → Front e.label x → (x ≡ e.label → ⊥)
    → reaches x w (e ∷ (preorder inner ++ preorder rest)) ≡ reaches x w (preorder inner)
reached_inner y x w e inner rest u f n =
    ap₂ (λ (a b : Bool). (has (bare e) w && a) || b) (not_front x e.label (λ g. n (front_antisym x e.label g f)))
    (list_any-append (λ d. has (bare d) w && is_front x d.label) (preorder inner) (preorder rest)
    ∙ ap (λ (b : Bool). reaches x w (preorder inner) || b)
    (none_reached x w (preorder rest) (λ d i g. (node_apart name_label e.label y rest d u.3 u.2 i).1 (front_trans e.label x d.label f g))))
    ∙ by (has (bare e) w) (reaches x w (preorder inner))
  where
    by : (t s : Bool) → ((t && false) || (s || false)) ≡ s
    by true s = or_none s
    by false s = or_none s

-- the later ones reach none but those
reached_rest : (y x : Label) (w : Word) (e : Named) (inner rest : Trees Named) → Formed name_label y (node e inner rest) → Apart e.label x
    → reaches x w (e ∷ (preorder inner ++ preorder rest)) ≡ reaches x w (preorder rest)
reached_rest y x w e inner rest u p =
    ap₂ (λ (a b : Bool). (has (bare e) w && a) || b) (not_front x e.label (λ g. apart_common e.label x e.label p (front_refl e.label) g))
    (list_any-append (λ d. has (bare d) w && is_front x d.label) (preorder inner) (preorder rest)
    ∙ ap (λ (b : Bool). b || reaches x w (preorder rest))
    (none_reached x w (preorder inner) (λ d i g. apart_common e.label x d.label p (node_under name_label e.label inner d u.1 i).0 g)))
    ∙ by (has (bare e) w) (reaches x w (preorder rest))
  where
    by : (t s : Bool) → ((t && false) || (false || s)) ≡ s
    by true s = refl
    by false s = refl

same_map : (s t : Word → Bool) (query : List Word) → ((w : Word) → s w ≡ t w) → map s query ≡ map t query
same_map s t [] h = refl
same_map s t (w ∷ query) h = ap₂ (λ (a : Bool) (r : List Bool). a ∷ r) (h w) (same_map s t query h)

-- ---- the rows are what is reached

pub row_there : (query : List Word) (y : Label) (f : Trees Named) (m : Rowed) → Formed name_label y f → Within m (preorder (with_words query f)) → map (λ w. reaches m.entry.label w (preorder f)) query ≡ m.row
row_there query y none m u i = absurd i
row_there query y (node e inner rest) m u i = by (some (row_of query e inner)) (row_there query e.label inner m u.1) (row_there query y rest m u.3) i
  where
    later : (map (λ w. reaches m.entry.label w (preorder rest)) query ≡ m.row) → Within m (preorder (with_words query rest)) → map (λ w. reaches m.entry.label w (e ∷ (preorder inner ++ preorder rest))) query ≡ m.row
    later r i =
        same_map (λ w. reaches m.entry.label w (e ∷ (preorder inner ++ preorder rest))) (λ w. reaches m.entry.label w (preorder rest)) query
        (λ w. reached_rest y m.entry.label w e inner rest u (node_apart name_label e.label y rest m.entry u.3 u.2 (words_in query rest m i))) ∙ r

    by : (t : Bool) → (Within m (preorder (with_words query inner)) → map (λ w. reaches m.entry.label w (preorder inner)) query ≡ m.row) → (Within m (preorder (with_words query rest)) → map (λ w. reaches m.entry.label w (preorder rest)) query ≡ m.row)
        → Within m (preorder (cond t (both_trees query e inner rest) (with_words query rest))) → map (λ w. reaches m.entry.label w (e ∷ (preorder inner ++ preorder rest))) query ≡ m.row
    by true p q i = elim i [
      | inl k ↦ subst (λ (n : Rowed). map (λ w. reaches n.entry.label w (e ∷ (preorder inner ++ preorder rest))) query ≡ n.row) (sym k)
          (same_map (λ w. reaches e.label w (e ∷ (preorder inner ++ preorder rest))) (λ w. has (bare e) w || holds w (bares inner)) query (λ w. reached_first y w e inner rest u))
      | inr k ↦ elim (within_joined m (preorder (with_words query inner)) (preorder (with_words query rest)) k) [
        | inl h ↦
            let n = node_under name_label e.label inner m.entry u.1 (words_in query inner m h) in
            same_map (λ w. reaches m.entry.label w (e ∷ (preorder inner ++ preorder rest))) (λ w. reaches m.entry.label w (preorder inner)) query
            (λ w. reached_inner y m.entry.label w e inner rest u n.0 n.1) ∙ p h
        | inr h ↦ later (q h) h
      ]
    ]
    by false p q i = later (q i) i
