-- The words of some nodes in order: each once, and each has a node that holds it.
use Rattle.std.proofs.Common.{◌≡◌, ℕ, Bool, true, false, ◌||◌, cond, List, [], ◌∷◌, ◌++◌, refl, ap, sym, ◌∙◌, Ordering, Less, Equal, Greater, ℤ}
use Rattle.std.specs.Prelude.{bytes_eq, flat_map}
use Rattle.std.specs.Cmp.Lexicographic.{slice_cmp}
use Rattle.std.specs.List.{AllByRecursion, list_any}
use Rattle.std.specs.List.Sorted.{IsStrictlySortedBy}
use Rattle.std.specs.Ordering.{nat_cmp, is_eq, is_lt, ordering_reverse}
use Rattle.std.proofs.lemmas.Cmp.{nat_list_cmp_total}
use Rattle.std.proofs.lemmas.Grind.{flat_map-append}
use Rattle.std.proofs.lemmas.List.Folds.{list_any-append}
use Rattle.std.proofs.lemmas.Map.Text.{is_eq-slice_cmp}
use Rattle.std.proofs.lemmas.Slice.Eq.{bytes_eq-Decides}
use Rattle.mm_keeper.specs.Entries.{below}
use Rattle.mm_tree.specs.Search.{Worded, has, list_of}
use Rattle.mm_tree.specs.Trees.{Trees, none, node, preorder}
use Rattle.mm_image.specs.Image.{in_order, with_word, words}

abbrev pub Above : List ℕ → List ℕ → Type 0
Above u v = slice_cmp nat_cmp u v ≡ Less

-- ---- each word once

pub below_is : (u v : List ℕ) → below u v ≡ true → Above u v
below_is u v h = by (slice_cmp nat_cmp u v) refl h
  where
    by : (o : Ordering) → slice_cmp nat_cmp u v ≡ o → is_lt o ≡ true → Above u v
    by Less e h = e
    by Equal e h = absurd cc
    by Greater e h = absurd cc

-- neither below nor equal: above
above_is : (u v : List ℕ) → below u v ≡ false → bytes_eq u v ≡ false → Above v u
above_is u v h k = by (slice_cmp nat_cmp u v) refl h (is_eq-slice_cmp u v ∙ k)
  where
    by : (o : Ordering) → slice_cmp nat_cmp u v ≡ o → is_lt o ≡ false → is_eq (slice_cmp nat_cmp u v) ≡ false → Above v u
    by Less e h k = absurd cc
    by Equal e h k = let t = ap is_eq e in absurd cc
    by Greater e h k = nat_list_cmp_total.antisymm v u ∙ ap ordering_reverse e

pub all_above : (u v : List ℕ) (ws : List (List ℕ)) → Above u v → AllByRecursion (λ y. Above v y) ws → AllByRecursion (λ y. Above u y) ws
all_above u v [] h a = a
all_above u v (w ∷ ws) h a = (nat_list_cmp_total.trans u v w h a.0, all_above u v ws h a.1)

all_with : (u w : List ℕ) (ws : List (List ℕ)) → Above u w → AllByRecursion (λ y. Above u y) ws → AllByRecursion (λ y. Above u y) (with_word w ws)
all_with u w [] h a = (h, a)
all_with u w (v ∷ vs) h a = by (below v w) (bytes_eq v w) (all_with u w vs h a.1)
  where
    by : (b c : Bool) → AllByRecursion (λ y. Above u y) (with_word w vs) → AllByRecursion (λ y. Above u y) (cond b (v ∷ with_word w vs) (cond c (v ∷ vs) (w ∷ v ∷ vs)))
    by true c i = (a.0, i)
    by false true i = a
    by false false i = (h, a)

pub with_word_rises : (w : List ℕ) (ws : List (List ℕ)) → IsStrictlySortedBy (slice_cmp nat_cmp) ws → IsStrictlySortedBy (slice_cmp nat_cmp) (with_word w ws)
unfolding IsStrictlySortedBy
with_word_rises w [] s = (tt, tt)
with_word_rises w (v ∷ vs) s = by (below v w) (bytes_eq v w) refl refl (with_word_rises w vs s.1)
  where
    by : (b c : Bool) → below v w ≡ b → bytes_eq v w ≡ c → IsStrictlySortedBy (slice_cmp nat_cmp) (with_word w vs) → IsStrictlySortedBy (slice_cmp nat_cmp) (cond b (v ∷ with_word w vs) (cond c (v ∷ vs) (w ∷ v ∷ vs)))
    by true c e f i = (all_with v w vs (below_is v w e) s.0, i)
    by false true e f i = s
    by false false e f i = let h = above_is v w e f in ((h, all_above w v vs h s.0), s)

none_rise : IsStrictlySortedBy (slice_cmp nat_cmp) []
unfolding IsStrictlySortedBy
none_rise = tt

pub in_order_rises : (ws : List (List ℕ)) → IsStrictlySortedBy (slice_cmp nat_cmp) (in_order ws)
in_order_rises [] = none_rise
in_order_rises (w ∷ ws) = with_word_rises w (in_order ws) (in_order_rises ws)

-- ---- the same words as before

or_swap : (a b c : Bool) → (a || (b || c)) ≡ (b || (a || c))
or_swap true true c = refl
or_swap true false c = refl
or_swap false true c = refl
or_swap false false c = refl

or_twice : (a c : Bool) → (a || c) ≡ (a || (a || c))
or_twice true c = refl
or_twice false c = refl

pub with_word_same : (p : List ℕ → Bool) (w : List ℕ) (ws : List (List ℕ)) → list_any p (with_word w ws) ≡ (p w || list_any p ws)
with_word_same p w [] = refl
with_word_same p w (v ∷ vs) = by (below v w) (bytes_eq v w) refl (with_word_same p w vs)
  where
    by : (b c : Bool) → bytes_eq v w ≡ c → list_any p (with_word w vs) ≡ (p w || list_any p vs) → list_any p (cond b (v ∷ with_word w vs) (cond c (v ∷ vs) (w ∷ v ∷ vs))) ≡ (p w || (p v || list_any p vs))
    by true c e h = ap (λ (t : Bool). p v || t) h ∙ or_swap (p v) (p w) (list_any p vs)
    by false true e h =
        let q : v ≡ w = (bytes_eq-Decides v w).0 e in
        or_twice (p v) (list_any p vs) ∙ ap (λ (z : List ℕ). p z || (p v || list_any p vs)) q
    by false false e h = refl

pub in_order_same : (p : List ℕ → Bool) (ws : List (List ℕ)) → list_any p (in_order ws) ≡ list_any p ws
in_order_same p [] = refl
in_order_same p (w ∷ ws) = with_word_same p w (in_order ws) ∙ ap (λ (t : Bool). p w || t) (in_order_same p ws)

-- ---- a word has a node exactly where it is one of the words

abbrev pub is_listed : List (List ℤ) → Bool
is_listed [] = false
is_listed (l ∷ ls) = true

is_listed_joined : (a b : List (List ℤ)) → is_listed (a ++ b) ≡ (is_listed a || is_listed b)
is_listed_joined [] b = refl
is_listed_joined (l ∷ a) b = refl

held : (w : List ℕ) (nodes : Trees Worded) → list_any (bytes_eq w) (flat_map (λ e. e.words) (preorder nodes)) ≡ is_listed (list_of w nodes)
held w none = refl
held w (node e inner rest) =
    let words_in : List Worded → List (List ℕ) = λ ns. flat_map (λ (d : Worded). d.words) ns in
    list_any-append (bytes_eq w) e.words (words_in (preorder inner ++ preorder rest))
    ∙ (ap (λ (t : Bool). has e w || t) (behind (held w inner) (held w rest) ∙ sym (is_listed_joined (list_of w inner) (list_of w rest)))
    ∙ sym (is_listed_joined (cond (has e w) (e.label ∷ []) []) (list_of w inner ++ list_of w rest) ∙ ap (λ (t : Bool). t || is_listed (list_of w inner ++ list_of w rest)) (one (has e w))))
  where
    one : (b : Bool) → is_listed (cond b (e.label ∷ []) []) ≡ b
    one true = refl
    one false = refl

    behind : list_any (bytes_eq w) (flat_map (λ d. d.words) (preorder inner)) ≡ is_listed (list_of w inner) → list_any (bytes_eq w) (flat_map (λ d. d.words) (preorder rest)) ≡ is_listed (list_of w rest) → list_any (bytes_eq w) (flat_map (λ d. d.words) (preorder inner ++ preorder rest)) ≡ (is_listed (list_of w inner) || is_listed (list_of w rest))
    behind i r = ap (list_any (bytes_eq w)) (flat_map-append (λ (d : Worded). d.words) (preorder inner) (preorder rest))
        ∙ (list_any-append (bytes_eq w) (flat_map (λ d. d.words) (preorder inner)) (flat_map (λ d. d.words) (preorder rest))
        ∙ both i r)
      where
        both : {a b c d : Bool} → a ≡ c → b ≡ d → (a || b) ≡ (c || d)
        both p q = cc

pub word_is_held : (w : List ℕ) (nodes : Trees Worded) → list_any (bytes_eq w) (words nodes) ≡ is_listed (list_of w nodes)
word_is_held w nodes = in_order_same (bytes_eq w) (flat_map (λ e. e.words) (preorder nodes)) ∙ held w nodes
