-- The keyword lists of some nodes in a map are, as entries, each of their words with its list.
use Rattle.std.proofs.Common.{◌≡◌, ℕ, ℤ, Bool, true, false, ◌||◌, cond, List, [], ◌∷◌, refl, ap, sym, subst, ◌∙◌, Option, Some, None, Ordering, Less, Equal, Greater, map}
use Rattle.std.specs.Prelude.{bytes_eq, flat_map, unwrap_or}
use Rattle.std.specs.BTreeMap.{BTreeMap, get, IsOrdered}
use Rattle.std.specs.Map.{keys_of, lookup}
use Rattle.std.specs.Cmp.Lexicographic.{slice_cmp}
use Rattle.std.specs.List.{AllByRecursion, list_any}
use Rattle.std.specs.List.Sorted.{IsStrictlySortedBy}
use Rattle.std.specs.Ordering.{nat_cmp, is_eq, ordering_reverse}
use Rattle.std.proofs.lemmas.Cmp.{nat_list_cmp_total}
use Rattle.std.proofs.lemmas.Map.Lookups.{exact_bytes}
use Rattle.std.proofs.lemmas.Map.Keys.{sorted_head, sorted_tail}
use Rattle.std.proofs.lemmas.Map.Text.{is_eq-slice_cmp}
use Rattle.std.proofs.lemmas.Slice.Eq.{bytes_eq-Decides}
use Rattle.mm_list.specs.Facts.{flat_map_mapped, map_mapped}
use Rattle.mm_tree.specs.KeywordLists.{AreFilled, list_in}
use Rattle.mm_tree.specs.Search.{Worded, list_of}
use Rattle.mm_tree.specs.Trees.{Trees, preorder}
use Rattle.mm_image.specs.Image.{counts, occurrences, words}
use Rattle.mm_check.specs.Inside.Stopping.{counted_list, listed}
use Rattle.mm_image.specs.Facts.Words.{Above, all_above, is_listed, word_is_held, in_order_rises}

abbrev Map : Type 0
Map = BTreeMap (List ℕ) (List (List ℤ))

abbrev entry_of : Trees Worded → List ℕ → List ℕ × List (List ℤ)
entry_of nodes w = (w, list_of w nodes)

looked_up : (lists : Map) (w : List ℕ) (list : List (List ℤ)) → list_in lists w ≡ list → AreFilled lists → get (slice_cmp nat_cmp) lists w ≡ cond (is_listed list) (Some list) None
looked_up lists w list e f = by (get (slice_cmp nat_cmp) lists w) refl e
  where
    by : (o : Option (List (List ℤ))) → get (slice_cmp nat_cmp) lists w ≡ o → unwrap_or o [] ≡ list → o ≡ cond (is_listed list) (Some list) None
    by None h k = ap (λ (z : List (List ℤ)). cond (is_listed z) (Some z) None) k
    by (Some []) h k = absurd (f w h)
    by (Some (l ∷ ls)) h k = ap (λ (z : List (List ℤ)). cond (is_listed z) (Some z) None) k

none_at : (w : List ℕ) (es : List (List ℕ × List (List ℤ))) → AllByRecursion (λ y. Above w y) (keys_of es) → lookup (λ k. is_eq (slice_cmp nat_cmp w k)) es ≡ None
none_at w [] a = refl
none_at w (e ∷ es) a = ap (λ (o : Ordering). cond (is_eq o) (Some e.1) (lookup (λ k. is_eq (slice_cmp nat_cmp w k)) es)) a.0 ∙ none_at w es a.1

none_any : (w : List ℕ) (ws : List (List ℕ)) → AllByRecursion (λ y. Above w y) ws → list_any (bytes_eq w) ws ≡ false
none_any w [] a = refl
none_any w (v ∷ vs) a = let e : bytes_eq w v ≡ false = sym (is_eq-slice_cmp w v) ∙ ap is_eq a.0 in ap (λ (b : Bool). b || list_any (bytes_eq w) vs) e ∙ none_any w vs a.1

itself : (w : List ℕ) → bytes_eq w w ≡ true
itself w = (bytes_eq-Decides w w).1 refl

tied : (w : List ℕ) → is_eq (slice_cmp nat_cmp w w) ≡ true
tied w = is_eq-slice_cmp w w ∙ itself w

abbrev Looks : (List ℕ → List (List ℤ)) → List (List ℕ × List (List ℤ)) → List (List ℕ) → Type 0
Looks f es ws = (w : List ℕ) → lookup (λ k. is_eq (slice_cmp nat_cmp w k)) es ≡ cond (list_any (bytes_eq w) ws) (Some (f w)) None

-- the first look-up, by its own key
at_first : (f : List ℕ → List (List ℤ)) (e : List ℕ × List (List ℤ)) (es : List (List ℕ × List (List ℤ))) (ws : List (List ℕ)) → Looks f (e ∷ es) ws → Some e.1 ≡ cond (list_any (bytes_eq e.0) ws) (Some (f e.0)) None
at_first f e es ws h = sym (ap (λ (b : Bool). cond b (Some e.1) (lookup (λ k. is_eq (slice_cmp nat_cmp e.0 k)) es)) (tied e.0)) ∙ h e.0

among_first : (f : List ℕ → List (List ℤ)) (es : List (List ℕ × List (List ℤ))) (v : List ℕ) (vs : List (List ℕ)) → Looks f es (v ∷ vs) → lookup (λ k. is_eq (slice_cmp nat_cmp v k)) es ≡ Some (f v)
among_first f es v vs h = h v ∙ ap (λ (b : Bool). cond (b || list_any (bytes_eq v) vs) (Some (f v)) None) (itself v)

looks_on : (f : List ℕ → List (List ℤ)) (e : List ℕ × List (List ℤ)) (es : List (List ℕ × List (List ℤ))) (v : List ℕ) (vs : List (List ℕ)) → e.0 ≡ v
    → AllByRecursion (λ y. Above e.0 y) (keys_of es) → AllByRecursion (λ y. Above v y) vs → Looks f (e ∷ es) (v ∷ vs) → Looks f es vs
looks_on f e es v vs q a b h w = by (bytes_eq w v) refl
  where
    by : (t : Bool) → bytes_eq w v ≡ t → lookup (λ k. is_eq (slice_cmp nat_cmp w k)) es ≡ cond (list_any (bytes_eq w) vs) (Some (f w)) None
    by true k =
        let p : w ≡ v = (bytes_eq-Decides w v).0 k in
        let m : lookup (λ k. is_eq (slice_cmp nat_cmp w k)) es ≡ None = none_at w es (subst (λ (z : List ℕ). AllByRecursion (λ y. Above z y) (keys_of es)) (q ∙ sym p) a) in
        let n : list_any (bytes_eq w) vs ≡ false = none_any w vs (subst (λ (z : List ℕ). AllByRecursion (λ y. Above z y) vs) (sym p) b) in
        m ∙ sym (ap (λ (t : Bool). cond t (Some (f w)) None) n)
    by false k =
        let m : is_eq (slice_cmp nat_cmp w e.0) ≡ false = ap (λ (z : List ℕ). is_eq (slice_cmp nat_cmp w z)) q ∙ (is_eq-slice_cmp w v ∙ k) in
        sym (ap (λ (t : Bool). cond t (Some e.1) (lookup (λ k. is_eq (slice_cmp nat_cmp w k)) es)) m)
        ∙ (h w ∙ ap (λ (t : Bool). cond (t || list_any (bytes_eq w) vs) (Some (f w)) None) k)

pair : {x y : List ℕ × List (List ℤ)} → x.0 ≡ y.0 → x.1 ≡ y.1 → x ≡ y
pair p q = λ i. (p i, q i)

both : {x y : List ℕ × List (List ℤ)} {xs ys : List (List ℕ × List (List ℤ))} → x ≡ y → xs ≡ ys → x ∷ xs ≡ y ∷ ys
both p q = λ i. p i ∷ q i

-- entries in order and words in order, by the same look-ups
same_entries : (f : List ℕ → List (List ℤ)) (es : List (List ℕ × List (List ℤ))) (ws : List (List ℕ)) → IsStrictlySortedBy (slice_cmp nat_cmp) (keys_of es) → IsStrictlySortedBy (slice_cmp nat_cmp) ws → Looks f es ws → es ≡ map (λ w. (w, f w)) ws
same_entries f [] [] s t h = refl
same_entries f [] (v ∷ vs) s t h = let k = among_first f [] v vs h in absurd cc
same_entries f (e ∷ es) [] s t h = let k = at_first f e es [] h in absurd cc
same_entries f (e ∷ es) (v ∷ vs) s t h = by (slice_cmp nat_cmp e.0 v) refl (same_entries f es vs (sorted_tail (slice_cmp nat_cmp) e.0 (keys_of es) s) (sorted_tail (slice_cmp nat_cmp) v vs t))
  where
    after_e : AllByRecursion (λ y. Above e.0 y) (keys_of es)
    after_e = sorted_head (slice_cmp nat_cmp) e.0 (keys_of es) s

    after_v : AllByRecursion (λ y. Above v y) vs
    after_v = sorted_head (slice_cmp nat_cmp) v vs t

    by : (o : Ordering) → slice_cmp nat_cmp e.0 v ≡ o → (Looks f es vs → es ≡ map (λ w. (w, f w)) vs) → e ∷ es ≡ (v, f v) ∷ map (λ w. (w, f w)) vs
    by Less k i =
        let m : list_any (bytes_eq e.0) (v ∷ vs) ≡ false = none_any e.0 (v ∷ vs) (k, all_above e.0 v vs k after_v) in
        let n = at_first f e es (v ∷ vs) h ∙ ap (λ (b : Bool). cond b (Some (f e.0)) None) m in absurd cc
    by Greater k i =
        let g : Above v e.0 = nat_list_cmp_total.antisymm v e.0 ∙ ap ordering_reverse k in
        let m = none_at v (e ∷ es) (g, all_above v e.0 (keys_of es) g after_e) in
        let n = among_first f (e ∷ es) v vs h in absurd cc
    by Equal k i =
        let q : e.0 ≡ v = exact_bytes e.0 v k in
        let m : list_any (bytes_eq e.0) (v ∷ vs) ≡ true = ap (λ (b : Bool). b || list_any (bytes_eq e.0) vs) ((bytes_eq-Decides e.0 v).1 q) in
        let n : Some e.1 ≡ Some (f e.0) = at_first f e es (v ∷ vs) h ∙ ap (λ (b : Bool). cond b (Some (f e.0)) None) m in
        let r : e.1 ≡ f v = cc in
        let tail = i (looks_on f e es v vs q after_e after_v h) in
        both (pair q r) tail

pub lists_are : (nodes : Trees Worded) (lists : Map) → IsOrdered (slice_cmp nat_cmp) lists → ((w : List ℕ) → list_in lists w ≡ list_of w nodes) → AreFilled lists → lists.entries ≡ map (entry_of nodes) (words nodes)
lists_are nodes lists s e f = same_entries (λ w. list_of w nodes) lists.entries (words nodes) s (in_order_rises (flat_map (λ d. d.words) (preorder nodes)))
    (λ w. looked_up lists w (list_of w nodes) (e w) f ∙ ap (λ (b : Bool). cond b (Some (list_of w nodes)) None) (sym (word_is_held w nodes)))

-- ---- what is made of the entries

pub all_listed : (nodes : Trees Worded) (lists : Map) → IsOrdered (slice_cmp nat_cmp) lists → ((w : List ℕ) → list_in lists w ≡ list_of w nodes) → AreFilled lists → flat_map listed lists.entries ≡ occurrences nodes
all_listed nodes lists s e f = ap (flat_map listed) (lists_are nodes lists s e f) ∙ flat_map_mapped listed (entry_of nodes) (words nodes)

pub all_counted : (nodes : Trees Worded) (lists : Map) → IsOrdered (slice_cmp nat_cmp) lists → ((w : List ℕ) → list_in lists w ≡ list_of w nodes) → AreFilled lists → map counted_list lists.entries ≡ counts nodes
all_counted nodes lists s e f = ap (map counted_list) (lists_are nodes lists s e f) ∙ map_mapped counted_list (entry_of nodes) (words nodes)
