-- Lists in memory hold the labels that were put into them.
use Rattle.std.proofs.Common.{◌≡◌, ℕ, Bool, true, false, ◌||◌, cond, List, [], ◌∷◌, ◌++◌, refl, ap, sym, subst, ◌∙◌, Option, Some, None, length, arith, ◌+◌, ◌<◌, Less, get_or, drop, append_assoc}
use Rattle.std.specs.Prelude.{unwrap_or, bytes_eq, ◌↔◌}
use Rattle.std.specs.BTreeMap.{BTreeMap, get}
use Rattle.std.specs.List.{list_any, Contains, AllByRecursion}
use Rattle.std.specs.List.Sorted.{IsStrictlySortedBy}
use Rattle.std.specs.Ordering.{nat_cmp, is_eq}
use Rattle.std.specs.Cmp.{both_ways}
use Rattle.std.specs.Cmp.Lexicographic.{slice_cmp}
use Rattle.std.proofs.lemmas.Cmp.{nat_list_cmp_total, nat_list_eq_equiv, tied_itself}
use Rattle.std.proofs.lemmas.List.{append-nil}
use Rattle.std.proofs.lemmas.Map.Keys.{sorted_head, sorted_tail}
use Rattle.std.proofs.lemmas.Map.Text.{is_eq-slice_cmp}
use Rattle.std.proofs.lemmas.Map.Views.{Contains-from_any, list_any-from_Contains}
use Rattle.std.proofs.lemmas.Slice.Eq.{bytes_eq-Decides}
use Rattle.mm_label.specs.Fronts.{Label}
use Rattle.mm_tree.specs.declared.node.Node.{Node}
use Rattle.mm_tree.specs.declared.node.Node.TheViews.{out-Node}
use Rattle.mm_tree.specs.Numbering.{forest_of}
use Rattle.mm_tree.specs.Search.{Worded, list_of, own, worded}
use Rattle.mm_tree.specs.Trees.{Trees}
use Rattle.mm_tree.specs.KeywordLists.{AreFilled, list_in}
use Rattle.mm_tree.proofs.SearchFacts.{seen_next}

bytes_turned : (v w : List ℕ) → bytes_eq v w ≡ true → bytes_eq w v ≡ true
bytes_turned v w e = (bytes_eq-Decides w v).1 (sym ((bytes_eq-Decides v w).0 e))

-- a label is put behind the list of the word
pub put_is : (old new : BTreeMap (List ℕ) (List Label)) (word : List ℕ) (list more : List Label) (label : Label)
    → list ≡ list_in old word → more ≡ list ++ label ∷ []
    → ((q : List ℕ) → get (slice_cmp nat_cmp) new q ≡ cond (is_eq (slice_cmp nat_cmp word q)) (Some more) (get (slice_cmp nat_cmp) old q))
    → (w : List ℕ) → list_in new w ≡ list_in old w ++ cond (bytes_eq w word) (label ∷ []) []
put_is old new word list more label a b f w = by (is_eq (slice_cmp nat_cmp word w)) refl
  where
    here : is_eq (slice_cmp nat_cmp word w) ≡ bytes_eq word w
    here = is_eq-slice_cmp word w

    turned : (t : Bool) → bytes_eq word w ≡ t → bytes_eq w word ≡ t
    turned true e = bytes_turned word w e
    turned false e = other (bytes_eq w word) refl
      where
        other : (u : Bool) → bytes_eq w word ≡ u → bytes_eq w word ≡ false
        other true h = let k = bytes_turned w word h in absurd cc
        other false h = h

    by : (t : Bool) → is_eq (slice_cmp nat_cmp word w) ≡ t → list_in new w ≡ list_in old w ++ cond (bytes_eq w word) (label ∷ []) []
    by true e =
        let p : bytes_eq word w ≡ true = sym here ∙ e in
        let q : word ≡ w = (bytes_eq-Decides word w).0 p in
        let k : get (slice_cmp nat_cmp) new w ≡ Some more = f w ∙ ap (λ (t : Bool). cond t (Some more) (get (slice_cmp nat_cmp) old w)) e in
        ap (λ (o : Option (List Label)). unwrap_or o []) k
        ∙ (b ∙ (ap (λ (z : List Label). z ++ label ∷ []) (a ∙ ap (list_in old) q)
        ∙ ap (λ (t : Bool). list_in old w ++ cond t (label ∷ []) []) (sym (turned true p))))
    by false e =
        let p : bytes_eq word w ≡ false = sym here ∙ e in
        let k : get (slice_cmp nat_cmp) new w ≡ get (slice_cmp nat_cmp) old w = f w ∙ ap (λ (t : Bool). cond t (Some more) (get (slice_cmp nat_cmp) old w)) e in
        ap (λ (o : Option (List Label)). unwrap_or o []) k
        ∙ (sym (append-nil (list_in old w)) ∙ ap (λ (t : Bool). list_in old w ++ cond t (label ∷ []) []) (sym (turned false p)))

-- ---- a node's own words, one after the other

none_later : (w : List ℕ) (ws : List (List ℕ)) → AllByRecursion (λ y. slice_cmp nat_cmp w y ≡ Less) ws → list_any (bytes_eq w) ws ≡ false
none_later w [] a = refl
none_later w (y ∷ ws) a = by (bytes_eq w y) refl (none_later w ws a.1)
  where
    by : (t : Bool) → bytes_eq w y ≡ t → list_any (bytes_eq w) ws ≡ false → (bytes_eq w y || list_any (bytes_eq w) ws) ≡ false
    by true e h =
        let p = subst (λ (x : List ℕ). slice_cmp nat_cmp w x ≡ Less) (sym ((bytes_eq-Decides w y).0 e)) a.0 in
        let q = tied_itself nat_list_cmp_total w in
        absurd cc
    by false e h = ap (λ (t : Bool). t || list_any (bytes_eq w) ws) e ∙ h

-- the label is put behind the list of the first word: that of no later one
pub put_first : (before after : BTreeMap (List ℕ) (List Label)) (x : List ℕ) (rest : List (List ℕ)) (label : Label) → IsStrictlySortedBy (slice_cmp nat_cmp) (x ∷ rest)
    → ((w : List ℕ) → list_in after w ≡ list_in before w ++ cond (bytes_eq w x) (label ∷ []) [])
    → (w : List ℕ) (all : List Label) → list_in before w ++ cond (list_any (bytes_eq w) (x ∷ rest)) (label ∷ []) [] ≡ all
    → list_in after w ++ cond (list_any (bytes_eq w) rest) (label ∷ []) [] ≡ all
put_first before after x rest label s f w all e = by (bytes_eq w x) refl
  where
    part : Bool → List Label
    part t = cond t (label ∷ []) []

    by : (t : Bool) → bytes_eq w x ≡ t → list_in after w ++ cond (list_any (bytes_eq w) rest) (label ∷ []) [] ≡ all
    by true h =
        let none : list_any (bytes_eq w) rest ≡ false = none_later w rest (subst (λ (v : List ℕ). AllByRecursion (λ y. slice_cmp nat_cmp v y ≡ Less) rest) (sym ((bytes_eq-Decides w x).0 h)) (sorted_head (slice_cmp nat_cmp) x rest s)) in
        ap (λ (t : Bool). list_in after w ++ cond t (label ∷ []) []) none
        ∙ (append-nil (list_in after w)
        ∙ (f w ∙ (ap (λ (t : Bool). list_in before w ++ cond t (label ∷ []) []) h
        ∙ (sym (ap (λ (t : Bool). list_in before w ++ cond (t || list_any (bytes_eq w) rest) (label ∷ []) []) h) ∙ e))))
    by false h =
        ap (λ (z : List Label). z ++ cond (list_any (bytes_eq w) rest) (label ∷ []) []) (f w ∙ (ap (λ (t : Bool). list_in before w ++ cond t (label ∷ []) []) h ∙ append-nil (list_in before w)))
        ∙ (sym (ap (λ (t : Bool). list_in before w ++ cond (t || list_any (bytes_eq w) rest) (label ∷ []) []) h) ∙ e)

-- the same words: the same test
pub same_any : (these list : List (List ℕ)) → ((w : List ℕ) → Contains list w ↔ Contains these w) → (w : List ℕ) → list_any (bytes_eq w) list ≡ list_any (bytes_eq w) these
same_any these list f w = both_ways (list_any (bytes_eq w) list) (list_any (bytes_eq w) these)
    (λ e. there these ((f w).0 (here list e)))
    (λ e. there list ((f w).1 (here these e)))
  where
    here : (ks : List (List ℕ)) → list_any (bytes_eq w) ks ≡ true → Contains ks w
    here ks e = Contains-from_any {eq = bytes_eq} (λ x y h. (bytes_eq-Decides x y).0 h) w ks e

    there : (ks : List (List ℕ)) → Contains ks w → list_any (bytes_eq w) ks ≡ true
    there ks c = list_any-from_Contains {eq = bytes_eq} nat_list_eq_equiv w ks c

-- one word fewer is left
pub fewer_left : (left rest : List (List ℕ)) (x : List ℕ) (n m : ℕ) → n ≡ length left → left ≡ x ∷ rest → m + 1 ≡ n → m ≡ length rest
fewer_left left rest x n m e f g = let t : length left ≡ length (x ∷ rest) = ap length f in omega arith

pub tail_rises : (left rest : List (List ℕ)) (x : List ℕ) → IsStrictlySortedBy (slice_cmp nat_cmp) left → left ≡ x ∷ rest → IsStrictlySortedBy (slice_cmp nat_cmp) rest
tail_rises left rest x s e = sorted_tail (slice_cmp nat_cmp) x rest (subst (IsStrictlySortedBy (slice_cmp nat_cmp)) e s)

pub found_list : (lists : BTreeMap (List ℕ) (List Label)) (word : List ℕ) (list : List Label) → Some list ≡ get (slice_cmp nat_cmp) lists word → list ≡ list_in lists word
found_list lists word list e = ap (λ (o : Option (List Label)). unwrap_or o []) e

pub no_list : (lists : BTreeMap (List ℕ) (List Label)) (word : List ℕ) (list : List Label) → None ≡ get (slice_cmp nat_cmp) lists word → list ≡ [] → list ≡ list_in lists word
no_list lists word list e k = k ∙ ap (λ (o : Option (List Label)). unwrap_or o []) e

-- a list that got a label isn't empty
pub filled_more : (old new : BTreeMap (List ℕ) (List Label)) (word : List ℕ) (list more : List Label) (label : Label)
    → more ≡ list ++ label ∷ []
    → ((q : List ℕ) → get (slice_cmp nat_cmp) new q ≡ cond (is_eq (slice_cmp nat_cmp word q)) (Some more) (get (slice_cmp nat_cmp) old q))
    → AreFilled old → AreFilled new
filled_more old new word list more label b f filled w none = by (is_eq (slice_cmp nat_cmp word w)) refl
  where
    grown : (ms : List Label) → ms ++ label ∷ [] ≡ [] → ⊥
    grown [] e = absurd cc
    grown (m ∷ ms) e = absurd cc

    by : (t : Bool) → is_eq (slice_cmp nat_cmp word w) ≡ t → ⊥
    by true e =
        let k : get (slice_cmp nat_cmp) new w ≡ Some more = f w ∙ ap (λ (t : Bool). cond t (Some more) (get (slice_cmp nat_cmp) old w)) e in
        let m : more ≡ [] = some_is (sym k ∙ none) in
        grown list (sym b ∙ m)
      where
        some_is : {x y : List Label} → Some x ≡ Some y → x ≡ y
        some_is {x} {y} h = ap (λ (o : Option (List Label)). unwrap_or o x) h
    by false e =
        filled w (sym (f w ∙ ap (λ (t : Bool). cond t (Some more) (get (slice_cmp nat_cmp) old w)) e) ∙ none)

-- ---- one node of a list after the other

-- the labels of a node and of those below it came behind the list, and those behind it are left
pub gathered_more : (nodes : List Node) (i : ℕ) (n : Node) (w : List ℕ) (was here inner all : List Label) → i < length nodes → n ≡ get_or nodes i n
    → was ++ list_of w (worded (forest_of (drop i nodes))) ≡ all
    → here ≡ was ++ cond (list_any (bytes_eq w) (own (out-Node n).kind)) ((out-Node n).label ∷ []) []
    → inner ≡ here ++ list_of w (worded (forest_of (out-Node n).children))
    → inner ++ list_of w (worded (forest_of (drop (i + 1) nodes))) ≡ all
gathered_more nodes i n w was here inner all h e k p q =
    let own_label = cond (list_any (bytes_eq w) (own (out-Node n).kind)) ((out-Node n).label ∷ []) [] in
    let below = list_of w (worded (forest_of (out-Node n).children)) in
    let rest = list_of w (worded (forest_of (drop (i + 1) nodes))) in
    let front : was ++ (own_label ++ (below ++ rest)) ≡ all = sym (ap (λ (t : Trees Worded). was ++ list_of w t) (seen_next nodes i n h e)) ∙ k in
    ap (λ (z : List Label). z ++ rest) (q ∙ ap (λ (z : List Label). z ++ below) p)
    ∙ (append_assoc (was ++ own_label) below rest ∙ (append_assoc was own_label (below ++ rest) ∙ front))
