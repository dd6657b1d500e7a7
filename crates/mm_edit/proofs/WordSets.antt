-- The words of the nodes that leave and of those that come, in a set.
use Rattle.std.proofs.Common.{◌≡◌, refl, ap, sym, ◌∙◌, Bool, true, false, ℕ, ℤ, List, [], ◌∷◌, ◌||◌, cond, Option, Some, None, arith, length, ◌+◌}
use Rattle.std.specs.Prelude.{bytes_eq, flat_map, is_some, nat_lt, unwrap_or}
use Rattle.std.specs.BTreeMap.{BTreeMap, get, is_at}
use Rattle.std.specs.BTreeSet.{BTreeSet, IsOrdered, Updates, contains}
use Rattle.std.specs.Cmp.Lexicographic.{slice_cmp}
use Rattle.std.specs.List.{list_any}
use Rattle.std.specs.Map.{lookup}
use Rattle.std.specs.Ordering.{nat_cmp}
use Rattle.std.proofs.lemmas.Bool.Decides.{nat_tests}
use Rattle.std.proofs.lemmas.Cmp.{nat_list_cmp_total, nat_list_eq_equiv}
use Rattle.std.proofs.lemmas.Map.Lookups.{btree_set_from_contains, exact_bytes}
use Rattle.std.proofs.lemmas.Map.Text.{is_eq-slice_cmp}
use Rattle.mm_tree.specs.Forests.{and_then}
use Rattle.mm_tree.specs.KeywordLists.{AreFilled, list_in}
use Rattle.mm_tree.specs.Numbering.{Labelled}
use Rattle.mm_tree.specs.Search.{list_of, worded}
use Rattle.mm_tree.specs.Trees.{Trees, preorder}
use Rattle.mm_image.specs.Facts.Words.{in_order_rises, is_listed, word_is_held}
use Rattle.mm_edit.specs.Inside.Changes.{number_of, words_of}
use Rattle.mm_edit.proofs.Editing.{both_numbers}

abbrev Word : Type 0
Word = List ℕ

abbrev Lists : Type 0
Lists = BTreeMap Word (List (List ℤ))

abbrev pub Words : BTreeSet Word → Word → Bool
Words words w = contains (slice_cmp nat_cmp) words w

-- one of the entries is the word's
abbrev pub among : Word → List (Word × List (List ℤ)) → Bool
among w es = list_any (λ e. is_at (slice_cmp nat_cmp w) e.0) es

pub some_among : (w : Word) (es : List (Word × List (List ℤ))) → is_some (lookup (is_at (slice_cmp nat_cmp w)) es) ≡ among w es
some_among w [] = refl
some_among w (e ∷ es) = by (is_at (slice_cmp nat_cmp w) e.0) (some_among w es)
  where
    by : (b : Bool) → is_some (lookup (is_at (slice_cmp nat_cmp w)) es) ≡ among w es → is_some (cond b (Some e.1) (lookup (is_at (slice_cmp nat_cmp w)) es)) ≡ (b || among w es)
    by true h = refl
    by false h = h

turned : (v w : Word) → is_at (slice_cmp nat_cmp v) w ≡ is_at (slice_cmp nat_cmp w) v
turned v w = is_eq-slice_cmp v w ∙ nat_list_eq_equiv.symm v w ∙ sym (is_eq-slice_cmp w v)

-- one word more is in the set, and one entry less is left
pub one_more : (old new : BTreeSet Word) (word : Word) (e : Word × List (List ℤ)) (es rest : List (Word × List (List ℤ))) (all : Bool) (w : Word)
    → word ≡ e.0 → Updates (slice_cmp nat_cmp) old new word true → es ≡ e ∷ rest → (Words old w || among w es) ≡ all → (Words new w || among w rest) ≡ all
one_more old new word e es rest all w k u x h =
    ap (λ b. b || among w rest) (u.0 w)
    ∙ by (is_at (slice_cmp nat_cmp word) w) (Words old w)
    ∙ ap (λ b. Words old w || (b || among w rest)) (turned word w ∙ ap (is_at (slice_cmp nat_cmp w)) k)
    ∙ ap (λ z. Words old w || among w z) (sym x) ∙ h
  where
    by : (a b : Bool) → ((cond a true b) || among w rest) ≡ (b || (a || among w rest))
    by true true = refl
    by true false = refl
    by false true = refl
    by false false = refl

no_more : (b : Bool) → b ≡ (b || false)
no_more true = refl
no_more false = refl

pub none_left : (new : BTreeSet Word) (es : List (Word × List (List ℤ))) (all : Bool) (w : Word) → es ≡ [] → (Words new w || among w es) ≡ all → Words new w ≡ all
none_left new es all w x h = no_more (Words new w) ∙ ap (λ z. Words new w || among w z) (sym x) ∙ h

-- ---- these words are those of both

listed_some : (lists : Lists) (w : Word) → AreFilled lists → is_some (get (slice_cmp nat_cmp) lists w) ≡ nat_lt 0 (length (list_in lists w))
listed_some lists w f = by (get (slice_cmp nat_cmp) lists w) refl
  where
    by : (o : Option (List (List ℤ))) → get (slice_cmp nat_cmp) lists w ≡ o → is_some o ≡ nat_lt 0 (length (unwrap_or o []))
    by None e = refl
    by (Some []) e = absurd (f w e)
    by (Some (l ∷ ls)) e = grind arith

listed_length : (list : List (List ℤ)) → is_listed list ≡ nat_lt 0 (length list)
listed_length [] = refl
listed_length (l ∷ ls) = grind arith

at_same : (w : Word) (ws : List Word) → list_any (is_at (slice_cmp nat_cmp w)) ws ≡ list_any (bytes_eq w) ws
at_same w [] = refl
at_same w (v ∷ vs) = ap (λ b. b || list_any (is_at (slice_cmp nat_cmp w)) vs) (is_eq-slice_cmp w v) ∙ ap (λ b. bytes_eq w v || b) (at_same w vs)

either : (m n : ℕ) → (nat_lt 0 m || nat_lt 0 n) ≡ nat_lt 0 (m + n)
either m n = grind (arith, nat_tests)

pub set_is : (taken given : Trees Labelled) (leaving coming : Lists) (first words : BTreeSet Word) → IsOrdered (slice_cmp nat_cmp) words
    → ((w : Word) → list_in leaving w ≡ list_of w (worded taken)) → AreFilled leaving → ((w : Word) → list_in coming w ≡ list_of w (worded given)) → AreFilled coming
    → ((w : Word) → Words first w ≡ is_some (get (slice_cmp nat_cmp) leaving w)) → ((w : Word) → Words words w ≡ (Words first w || is_some (get (slice_cmp nat_cmp) coming w)))
    → words.keys ≡ words_of taken given
set_is taken given leaving coming first words o l f m g p q =
    btree_set_from_contains nat_list_cmp_total words (record { keys = words_of taken given }) o (in_order_rises (flat_map (λ e. e.words) (preorder (worded (and_then taken given))))) same exact_bytes
  where
    same : (w : Word) → Words words w ≡ Words (record { keys = words_of taken given }) w
    same w =
        q w ∙ ap (λ b. b || is_some (get (slice_cmp nat_cmp) coming w)) (p w ∙ listed_some leaving w f ∙ ap (λ z. nat_lt 0 (length z)) (l w))
        ∙ ap (λ b. nat_lt 0 (number_of taken w) || b) (listed_some coming w g ∙ ap (λ z. nat_lt 0 (length z)) (m w))
        ∙ either (number_of taken w) (number_of given w) ∙ ap (nat_lt 0) (sym (both_numbers taken given w))
        ∙ sym (at_same w (words_of taken given) ∙ word_is_held w (worded (and_then taken given)) ∙ listed_length (list_of w (worded (and_then taken given))))
