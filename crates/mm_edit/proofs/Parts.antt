-- The part of a map that a plan has in hand: the entries of some nodes, and the counts of their words.
use Rattle.std.proofs.Common.{inl, inr, ◌≡◌, refl, ap, sym, ◌∙◌, subst, Bool, true, false, ℕ, ◌+◌, zero, suc, List, [], ◌∷◌, ◌++◌, append_assoc, arith, length}
use Rattle.std.specs.Prelude.{Some, None, ◌⊎◌, if◌then◌else◌, ◌||◌, nat_lt, map}
use Rattle.std.specs.List.{list_any}
use Rattle.std.specs.Ordering.{is_lt}
use Rattle.std.specs.Str.{bytes_eq}
use Rattle.std.proofs.lemmas.Slice.Eq.{bytes_eq-Decides}
use Rattle.byteorder.specs.Endian.{big_bytes}
use Rattle.mm_label.specs.Fronts.{Ordered, Within}
use Rattle.mm_label.specs.Facts.Members.{any_at, in_within, within_joined}
use Rattle.mm_keeper.specs.Entries.{Entry, Entries, below, IsBelow, Rises}
use Rattle.mm_tree.specs.Forests.{and_then}
use Rattle.mm_tree.specs.Numbering.{Labelled}
use Rattle.mm_tree.specs.Search.{list_of, own, worded}
use Rattle.mm_tree.specs.Trees.{Trees, none, node, preorder}
use Rattle.mm_image.specs.Keys.{count_key}
use Rattle.mm_image.specs.Image.{chunks, entries_of, occurrences, words}
use Rattle.mm_image.specs.Facts.Members.{listed_word}
use Rattle.mm_image.specs.Facts.LabelOrder.{Ancestry, ByteOrder}
use Rattle.mm_image.specs.Facts.Rising.{Headed, Nodes, chunks_headed, entries_rise, headed, occurrences_headed, words_rise}
use Rattle.mm_image.specs.Facts.Words.{Above}
use Rattle.mm_edit.specs.Difference.{Key}
use Rattle.mm_edit.specs.Inside.Changes.{words_of}
use Rattle.mm_edit.specs.Inside.Counting.{count_entry, counts_at}
use Rattle.mm_edit.specs.Inside.Finding.{find}
use Rattle.mm_edit.specs.Inside.Nodes.{owned, tally, counted_as, or_else, IsPart}
use Rattle.mm_edit.proofs.Keys.{same, same_self}
use Rattle.mm_edit.proofs.Lookups.{Value}
use Rattle.mm_edit.proofs.Runs.{find-append, tally_joined}
use Rattle.mm_edit.proofs.Values.{holder_listed, in_count_keys, occurrences_are, owned_find, tally_number, tally_some, word_listed}

abbrev Word : Type 0
Word = List ℕ

-- ---- what counts find

turned_eq : (a b : Key) → bytes_eq a b ≡ bytes_eq b a
turned_eq a b = by (bytes_eq a b) (bytes_eq b a) refl refl
  where
    by : (s t : Bool) → bytes_eq a b ≡ s → bytes_eq b a ≡ t → s ≡ t
    by true true p q = refl
    by false false p q = refl
    by true false p q = let h : bytes_eq b a ≡ true = (bytes_eq-Decides b a).1 (sym (same a b p)) in cc
    by false true p q = let h : bytes_eq a b ≡ true = (bytes_eq-Decides a b).1 (sym (same b a q)) in cc

find_count : (w : Word) (n : ℕ) (k : Key) → find (count_entry w n) k ≡ (if bytes_eq k (count_key w) then counted_as n else None)
find_count w n k = by (nat_lt 0 n) refl (bytes_eq k (count_key w)) refl
  where
    by : (p : Bool) → nat_lt 0 n ≡ p → (t : Bool) → bytes_eq k (count_key w) ≡ t
        → find (if p then (count_key w, big_bytes 8 n) ∷ [] else []) k ≡ (if t then (if p then Some (big_bytes 8 n) else None) else None)
    by true h t q = ap (λ b. if b then Some (big_bytes 8 n) else None) (turned_eq (count_key w) k ∙ q)
    by false h true q = refl
    by false h false q = refl

pub find_counts : (number : Key → ℕ) (ws : List Word) (k : Key)
    → find (counts_at (λ w. number (count_key w)) ws) k ≡ (if list_any (bytes_eq k) (map count_key ws) then counted_as (number k) else None)
find_counts number [] k = refl
find_counts number (w ∷ ws) k =
    find-append (count_entry w (number (count_key w))) (counts_at (λ w. number (count_key w)) ws) k
    ∙ ap (λ z. or_else z (find (counts_at (λ w. number (count_key w)) ws) k)) (find_count w (number (count_key w)) k)
    ∙ by (bytes_eq k (count_key w)) refl (list_any (bytes_eq k) (map count_key ws)) (find_counts number ws k)
  where
    chosen : (o r : Value) (u : Bool) → r ≡ (if u then o else None) → or_else o r ≡ o
    chosen None r true e = e
    chosen None r false e = e
    chosen (Some v) r u e = refl

    by : (t : Bool) → bytes_eq k (count_key w) ≡ t → (u : Bool) → find (counts_at (λ w. number (count_key w)) ws) k ≡ (if u then counted_as (number k) else None)
        → or_else (if t then counted_as (number (count_key w)) else None) (find (counts_at (λ w. number (count_key w)) ws) k) ≡ (if t || u then counted_as (number k) else None)
    by true q u f =
        ap (λ z. or_else (counted_as (number z)) (find (counts_at (λ w. number (count_key w)) ws) k)) (sym (same k (count_key w) q))
        ∙ chosen (counted_as (number k)) (find (counts_at (λ w. number (count_key w)) ws) k) u f
    by false q u f = f

-- ---- counts rise as their words do

pub below_from : (k : Key) (m : Entries) → ((e : Entry) → Within e m → below k e.0 ≡ true) → IsBelow k m
below_from k [] h = tt
below_from k (e ∷ m) h = (h e (inl refl), below_from k m (λ d i. h d (inr i)))

pub below_to : (k : Key) (m : Entries) → IsBelow k m → (e : Entry) → Within e m → below k e.0 ≡ true
below_to k [] b e i = absurd i
below_to k (d ∷ m) b e i = elim i [ inl q ↦ subst (λ (z : Entry). below k z.0 ≡ true) (sym q) b.0 | inr q ↦ below_to k m b.1 e q ]

pub rises_joined : (a b : Entries) → Rises a → Rises b → ((e d : Entry) → Within e a → Within d b → below e.0 d.0 ≡ true) → Rises (a ++ b)
rises_joined [] b r s h = s
rises_joined (e ∷ a) b r s h = (
  below_from e.0 (a ++ b) (λ d i. elim (within_joined d a b i) [ inl q ↦ below_to e.0 a r.0 d q | inr q ↦ h e d (inl refl) q ]),
  rises_joined a b r.1 s (λ c d i j. h c d (inr i) j),
)

count_at : (w : Word) (n : ℕ) (e : Entry) → Within e (count_entry w n) → e.0 ≡ count_key w
count_at w n e h = by (nat_lt 0 n) h
  where
    by : (p : Bool) → Within e (if p then (count_key w, big_bytes 8 n) ∷ [] else []) → e.0 ≡ count_key w
    by true h = elim h [ inl q ↦ ap (λ (z : Entry). z.0) q | inr q ↦ absurd q ]
    by false h = absurd h

pub counts_of : (number : Word → ℕ) (ws : List Word) (e : Entry) → Within e (counts_at number ws) → (w : Word) × Within w ws × (e.0 ≡ count_key w)
counts_of number [] e h = absurd h
counts_of number (w ∷ ws) e h = elim (within_joined e (count_entry w (number w)) (counts_at number ws) h) [
  | inl q ↦ (w, inl refl, count_at w (number w) e q)
  | inr q ↦ let t = counts_of number ws e q in (t.0, inr t.1, t.2)
]

one_rises : (w : Word) (n : ℕ) → Rises (count_entry w n)
one_rises w n = by (nat_lt 0 n)
  where
    by : (p : Bool) → Rises (if p then (count_key w, big_bytes 8 n) ∷ [] else [])
    by true = (tt, tt)
    by false = tt

pub counts_rise : (number : Word → ℕ) (ws : List Word) → Ordered Above ws → Rises (counts_at number ws)
counts_rise number [] o = tt
counts_rise number (w ∷ ws) o = rises_joined (count_entry w (number w)) (counts_at number ws) (one_rises w (number w)) (counts_rise number ws o.1)
    (λ e d i j.
    let t = counts_of number ws d j in
    let k : below (count_key w) (count_key t.0) ≡ true = ap is_lt (o.0 t.0 t.1) in
    subst (λ (z : Key). below z d.0 ≡ true) (sym (count_at w (number w) e i)) (subst (λ (z : Key). below (count_key w) z ≡ true) (sym t.2) k))

pub counts_same : (number other : Word → ℕ) (ws : List Word) → ((w : Word) → Within w ws → number w ≡ other w) → counts_at number ws ≡ counts_at other ws
counts_same number other [] h = refl
counts_same number other (w ∷ ws) h = ap (λ n. count_entry w n ++ counts_at number ws) (h w (inl refl)) ∙ ap (λ z. count_entry w (other w) ++ z) (counts_same number other ws (λ v i. h v (inr i)))

-- ---- the entries of nodes, and their words

-- these are the chunk and occurrence entries of the nodes, in the order of the keys
pub record AreEntriesOf (own : Entries) (xs : List Labelled) : Type 0 where
  pub rises : Rises own
  pub low : (e : Entry) → Within e own → Headed 1 e ⊎ Headed 2 e
  pub at : (k : Key) → find own k ≡ find (owned xs) k

-- these are the words of the nodes of both runs, in order
pub record AreWordsOf (ws : List Word) (taken given : List Labelled) : Type 0 where
  pub rise : Ordered Above ws
  pub at : (k : Key) → nat_lt 0 (tally taken k + tally given k) ≡ list_any (bytes_eq k) (map count_key ws)

pub below_count : (e : Entry) (w : Word) → Headed 1 e ⊎ Headed 2 e → below e.0 (count_key w) ≡ true
below_count e w (inl h) = subst (λ (z : Key). below z (count_key w) ≡ true) (sym h.1) (headed 1 3 h.0 w (omega arith))
below_count e w (inr h) = subst (λ (z : Key). below z (count_key w) ≡ true) (sym h.1) (headed 2 3 h.0 w (omega arith))

-- what is in hand is the part
pub in_hand_is_part : (all run other : List Labelled) (own : Entries) (ws : List Word) → AreEntriesOf own run → Ordered Above ws
    → ((k : Key) → nat_lt 0 (tally run k + tally other k) ≡ list_any (bytes_eq k) (map count_key ws))
    → IsPart (own ++ counts_at (λ w. tally all (count_key w)) ws) all run other
in_hand_is_part all run other own ws o w i = record {
  rises = rises_joined own (counts_at (λ w. tally all (count_key w)) ws) o.rises (counts_rise (λ w. tally all (count_key w)) ws w)
      (λ e d p q. let t = counts_of (λ w. tally all (count_key w)) ws d q in subst (λ (z : Key). below e.0 z ≡ true) (sym t.2) (below_count e t.0 (o.low e p)));
  at = λ k. find-append own (counts_at (λ w. tally all (count_key w)) ws) k ∙ ap (λ z. or_else z (find (counts_at (λ w. tally all (count_key w)) ws) k)) (o.at k)
      ∙ ap (λ z. or_else (find (owned run) k) z) (find_counts (tally all) ws k ∙ ap (λ b. if b then counted_as (tally all k) else None) (sym (i k)));
}

pub entries_low : (u : Trees Labelled) (e : Entry) → Within e (entries_of u) → Headed 1 e ⊎ Headed 2 e
entries_low u e i = elim (within_joined e (chunks u) (occurrences (worded u)) i) [ inl q ↦ inl (chunks_headed u e q) | inr q ↦ inr (occurrences_headed (worded u) e q) ]

pub tree_entries : ByteOrder → Ancestry → (u : Trees Labelled) → Nodes u → AreEntriesOf (entries_of u) (preorder u)
tree_entries order ancestry u n = record {
  rises = entries_rise order ancestry u n;
  low = entries_low u;
  at = λ k. find-append (chunks u) (occurrences (worded u)) k ∙ ap (λ z. or_else (find (chunks u) k) z) (occurrences_are u k) ∙ sym (owned_find (preorder u) k);
}

pub is_a_word : (u : Trees Labelled) (k : Key) → nat_lt 0 (tally (preorder u) k) ≡ list_any (bytes_eq k) (map count_key (words (worded u)))
is_a_word u k = by (tally (preorder u) k) refl (list_any (bytes_eq k) (map count_key (words (worded u)))) refl
  where
    suc_is : (n : ℕ) → nat_lt 0 (suc n) ≡ true
    suc_is n = grind arith

    by : (n : ℕ) → tally (preorder u) k ≡ n → (b : Bool) → list_any (bytes_eq k) (map count_key (words (worded u))) ≡ b → nat_lt 0 n ≡ b
    by zero p false q = refl
    by (suc n) p true q = suc_is n
    by zero p true q =
        let t = in_count_keys k (words (worded u)) q in
        let l = word_listed t.0 u t.1 in
        let m : length (list_of t.0 (worded u)) ≡ 0 = sym (tally_number u t.0) ∙ ap (tally (preorder u)) (sym t.2) ∙ p in
        absurd (omega (arith, l, m))
    by (suc n) p false q =
        let t = tally_some k (preorder u) n p in
        let l = holder_listed t.word t.who u t.stands t.holds in
        let i = in_within count_key t.word (words (worded u)) (listed_word t.word t.who.label u l) in
        let a = any_at (bytes_eq k) (count_key t.word) (map count_key (words (worded u))) i (subst (λ (z : Key). bytes_eq k z ≡ true) t.key (same_self k)) in
        absurd cc

pub preorder_joined : (f g : Trees Labelled) → preorder (and_then f g) ≡ preorder f ++ preorder g
preorder_joined none g = refl
preorder_joined (node e inner rest) g = ap (λ z. e ∷ preorder inner ++ z) (preorder_joined rest g) ∙ ap (λ z. e ∷ z) (sym (append_assoc (preorder inner) (preorder rest) (preorder g)))

pub words_both : (taken given : Trees Labelled) → AreWordsOf (words_of taken given) (preorder taken) (preorder given)
words_both taken given = record {
  rise = words_rise (worded (and_then taken given));
  at = λ k. ap (nat_lt 0) (sym (ap (λ z. tally z k) (preorder_joined taken given) ∙ tally_joined (preorder taken) (preorder given) k)) ∙ is_a_word (and_then taken given) k;
}
