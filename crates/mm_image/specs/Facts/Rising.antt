-- The keys of the entries of a well-formed forest rise.
use Rattle.std.proofs.Common.{inl, inr, ◌≡◌, ℕ, ℤ, zero, suc, ◌+◌, ◌<◌, ◌≤◌, true, IsTrue, List, [], ◌∷◌, ◌++◌, refl, ap, sym, subst, ◌∙◌, None, Less, map, arith}
use Rattle.std.specs.Prelude.{bytes_eq, flat_map}
use Rattle.std.specs.Cmp.Lexicographic.{slice_cmp}
use Rattle.std.specs.List.{AllByRecursion, list_any, range_with_len}
use Rattle.std.specs.List.Sorted.{IsStrictlySortedBy}
use Rattle.std.specs.Ordering.{int_cmp, is_lt, nat_cmp, ordering_then}
use Rattle.std.proofs.lemmas.Bool.{and_parts}
use Rattle.std.proofs.lemmas.Bool.Decides.{nat_tests}
use Rattle.std.proofs.lemmas.Cmp.{int_cmp_total, lists_total, nat_list_cmp_total, tied_itself}
use Rattle.mm_label.specs.Bytes.{bytes_of}
use Rattle.mm_label.specs.Fronts.{Ascends, Lt, Ordered, Within}
use Rattle.mm_label.specs.Facts.Lists.{ascends_own}
use Rattle.mm_label.specs.Facts.Members.{within_flat, within_in, within_joined}
use Rattle.mm_label.specs.Facts.Order.{lt_before}
use Rattle.mm_label.specs.Facts.Ordered.{ordered_joined, ordered_map}
use Rattle.mm_label.specs.Label.{IsLabel}
use Rattle.mm_words.specs.Words.{is_word}
use Rattle.mm_keeper.specs.Entries.{Entries, Entry, IsBelow, Rises, below}
use Rattle.mm_tree.specs.Facts.Formed.{formed}
use Rattle.mm_tree.specs.Facts.Labels.{node_is_labelled}
use Rattle.mm_tree.specs.Facts.Places.{preorder_rises}
use Rattle.mm_tree.specs.Formed.{node_label}
use Rattle.mm_tree.specs.Forests.{are_labelled, has_valid_kind, is_well_formed}
use Rattle.mm_tree.specs.Numbering.{Labelled, has_room}
use Rattle.mm_tree.specs.Search.{Worded, list_of, own, worded}
use Rattle.mm_tree.specs.Trees.{Trees, every, preorder}
use Rattle.mm_tree.specs.Validity.{is_valid_kind, piece_count}
use Rattle.mm_image.specs.Content.{piece}
use Rattle.mm_image.specs.Facts.Members.{node_is_valid, listed_is, own_label, own_within, words_are}
use Rattle.mm_image.specs.Image.{chunks, chunks_of, count_of, counts, entries_of, image, occurrences, occurrences_of, words}
use Rattle.mm_image.specs.Keys.{chunk_key, occurrence_key}
use Rattle.mm_image.specs.Laws.{ImagesRise}
use Rattle.mm_image.specs.Facts.Pieces.{few_pieces}
use Rattle.mm_image.specs.Facts.Keys.{no_zero}
use Rattle.mm_image.specs.Facts.LabelOrder.{Ancestry, ByteOrder}
use Rattle.mm_image.specs.Facts.KeyOrder.{chunk_less, chunk_order, less_is, occurrence_order, word_less}
use Rattle.mm_image.specs.Facts.Words.{Above, in_order_rises}

-- ---- lists in order

ordered_flat : {X Y : Type 0} (S : X → X → Type 0) (R : Y → Y → Type 0) (f : X → List Y) (xs : List X) → Ordered S xs → ((x : X) → Within x xs → Ordered R (f x))
    → ((x z : X) → Within x xs → Within z xs → S x z → (u v : Y) → Within u (f x) → Within v (f z) → R u v) → Ordered R (flat_map f xs)
ordered_flat S R f [] o g h = tt
ordered_flat S R f (x ∷ xs) o g h =
    ordered_joined R (f x) (flat_map f xs) (g x (inl refl))
    (ordered_flat S R f xs o.1 (λ z w. g z (inr w)) (λ y z p q. h y z (inr p) (inr q)))
    (λ u v p q. let t = within_flat f v xs q in h x t.0 (inl refl) (inr t.1) (o.0 t.0 t.1) u v p t.2)

ordered_with : {X : Type 0} (R S : X → X → Type 0) (xs : List X) → ((u r : X) → Within u xs → Within r xs → R u r → S u r) → Ordered R xs → Ordered S xs
ordered_with R S [] f o = tt
ordered_with R S (x ∷ xs) f o = (λ r w. f x r (inl refl) (inr w) (o.0 r w), ordered_with R S xs (λ u r p q. f u r (inr p) (inr q)) o.1)

pub within_range : {X : Type 0} (g : ℕ → X) (x : X) (n a : ℕ) → Within x (map g (range_with_len a n)) → (i : ℕ) × (a ≤ i) × (i < a + n) × (x ≡ g i)
within_range g x zero a w = absurd w
within_range g x (suc n) a w = elim w [
  | inl e ↦ (a, omega arith, omega arith, e)
  | inr k ↦ let t = within_range g x n (a + 1) k in let l = t.1 in let m = t.2 in (t.0, omega arith, omega arith, t.3)
]

ordered_range : {X : Type 0} (R : X → X → Type 0) (g : ℕ → X) (n a : ℕ) → ((i j : ℕ) → i < j → j < a + n → R (g i) (g j)) → Ordered R (map g (range_with_len a n))
ordered_range R g zero a h = tt
ordered_range R g (suc n) a h = (
  λ x w. let t = within_range g x n (a + 1) w in let l = t.1 in let m = t.2 in subst (R (g a)) (sym t.3) (h a t.0 (omega arith) (omega arith)),
  ordered_range R g n (a + 1) (λ i j p q. h i j p (omega arith)),
)

abbrev Before : Entry → Entry → Type 0
Before d e = below d.0 e.0 ≡ true

below_all : (k : List ℕ) (m : Entries) → ((e : Entry) → Within e m → below k e.0 ≡ true) → IsBelow k m
below_all k [] f = tt
below_all k (e ∷ m) f = (f e (inl refl), below_all k m (λ d w. f d (inr w)))

rises : (m : Entries) → Ordered Before m → Rises m
rises [] o = tt
rises (e ∷ m) o = (below_all e.0 m o.0, rises m o.1)

is_below : (k l : List ℕ) → slice_cmp nat_cmp k l ≡ Less → below k l ≡ true
is_below k l e = ap is_lt e

-- ---- the nodes

abbrev Label : Type 0
Label = List ℤ

abbrev Word : Type 0
Word = List ℕ

-- what a well-formed forest gives
pub record Nodes (f : Trees Labelled) : Type 0 where
  pub label : (d : Labelled) → Within d (preorder f) → IsLabel d.label
  pub kind : (d : Labelled) → Within d (preorder f) → is_valid_kind d.kind ≡ true
  pub order : Ordered (λ a b. Lt (node_label a) (node_label b)) (preorder f)

pub nodes_of : (f : Trees Labelled) → IsTrue (is_well_formed f) → Nodes f
nodes_of f w =
    let a = and_parts (are_labelled [] None f) _ w in
    let r = and_parts (every has_room f) _ a.1 in
    let v = and_parts (every has_valid_kind f) _ r.1 in
    record {
      label = node_is_labelled f w;
      kind = node_is_valid f v.0;
      order = preorder_rises node_label [] f (formed f w);
    }

-- ---- chunks

chunks_rise : ByteOrder → Ancestry → (f : Trees Labelled) → Nodes f → Ordered Before (chunks f)
chunks_rise order ancestry f n = ordered_flat (λ a b. Lt (node_label a) (node_label b)) Before chunks_of (preorder f) n.order
    (λ e w. ordered_range Before (λ i. (chunk_key e.label i, piece e.kind i)) (piece_count e.kind) 0 (λ i j p q.
    let few = few_pieces e.kind (n.kind e w) in
    let most : piece_count e.kind ≤ 4294967296 = grind (arith, nat_tests, few) in
    let l = n.label e w in
    is_below (chunk_key e.label i) (chunk_key e.label j) (
    chunk_order order ancestry e.label e.label i j l l (omega arith) (omega arith)
    ∙ (ap (λ o. ordering_then o (nat_cmp i j)) (tied_itself (lists_total int_cmp_total) e.label) ∙ less_is i j p))))
    (λ a b p q s u v x y.
    let t = within_range (λ i. (chunk_key a.label i, piece a.kind i)) u (piece_count a.kind) 0 x in
    let r = within_range (λ i. (chunk_key b.label i, piece b.kind i)) v (piece_count b.kind) 0 y in
    subst (λ (z : Entry). below z.0 v.0 ≡ true) (sym t.3) (subst (λ (z : Entry). below (chunk_key a.label t.0) z.0 ≡ true) (sym r.3)
    (is_below (chunk_key a.label t.0) (chunk_key b.label r.0) (both_less a.label b.label _ _ (n.label a p) (n.label b q) (lt_before a.label b.label s)))))
  where
    both_less : (a b : Label) (s t : List ℕ) → IsLabel a → IsLabel b → slice_cmp int_cmp a b ≡ Less → slice_cmp nat_cmp (1 ∷ bytes_of a ++ (0 ∷ s)) (1 ∷ bytes_of b ++ (0 ∷ t)) ≡ Less
    both_less a b s t g h l = chunk_less order ancestry a b s t g h l

-- ---- the nodes of a word

own_ascends : (w : Word) (e : Labelled) → Ascends (own_label w e)
own_ascends w e = ascends_own (list_any (bytes_eq w) (own e.kind)) e.label

list_ascends : (w : Word) (f : Trees Labelled) → Nodes f → Ascends (list_of w (worded f))
list_ascends w f n = subst Ascends (sym (listed_is w f)) (
    ordered_flat (λ a b. Lt (node_label a) (node_label b)) Lt (own_label w) (preorder f) n.order
    (λ e i. own_ascends w e)
    (λ a b p q s u v x y. subst (λ (z : Label). Lt z v) (sym (own_within w a u x)) (subst (Lt a.label) (sym (own_within w b v y)) s)))

listed_node : (w : Word) (f : Trees Labelled) → Nodes f → (m : Label) → Within m (list_of w (worded f)) → IsLabel m
listed_node w f n m h =
    let t = within_flat (own_label w) m (preorder f) (subst (Within m) (listed_is w f) h) in
    subst IsLabel (sym (own_within w t.0 m t.2)) (n.label t.0 t.1)

-- ---- words

all_within : (P : Word → Type 0) (ws : List Word) → AllByRecursion P ws → (v : Word) → Within v ws → P v
all_within P [] a v h = absurd h
all_within P (w ∷ ws) a v h = elim h [ inl q ↦ subst P (sym q) a.0 | inr q ↦ all_within P ws a.1 v q ]

sorted_ordered : (ws : List Word) → IsStrictlySortedBy (slice_cmp nat_cmp) ws → Ordered Above ws
unfolding IsStrictlySortedBy
sorted_ordered [] s = tt
sorted_ordered (w ∷ ws) s = (λ v h. all_within (Above w) ws s.0 v h, sorted_ordered ws s.1)

pub words_rise : (nodes : Trees Worded) → Ordered Above (words nodes)
words_rise nodes = sorted_ordered (words nodes) (in_order_rises (flat_map (λ e. e.words) (preorder nodes)))

-- ---- occurrences and counts

occurrences_rise : ByteOrder → (f : Trees Labelled) → Nodes f → Ordered Before (occurrences (worded f))
occurrences_rise order f n = ordered_flat Above Before (occurrences_of (worded f)) (words (worded f)) (words_rise (worded f))
    (λ w i. ordered_map (λ (m : Label). (occurrence_key w m, [])) Before (list_of w (worded f)) (
    ordered_with Lt (λ a b. Before (occurrence_key w a, []) (occurrence_key w b, [])) (list_of w (worded f)) (λ a b p q s.
    is_below (occurrence_key w a) (occurrence_key w b) (one_word w a b (words_are f w i) (listed_node w f n a p) (listed_node w f n b q) (lt_before a b s)))
    (list_ascends w f n)))
    (λ v w p q s x y k l.
    let t = within_in (λ (m : Label). (occurrence_key v m, [])) x (list_of v (worded f)) k in
    let r = within_in (λ (m : Label). (occurrence_key w m, [])) y (list_of w (worded f)) l in
    subst (λ (z : Entry). below z.0 y.0 ≡ true) (sym t.2) (subst (λ (z : Entry). below (occurrence_key v t.0) z.0 ≡ true) (sym r.2)
    (is_below (occurrence_key v t.0) (occurrence_key w r.0) (word_less v w (bytes_of t.0) (bytes_of r.0) (no_zero w (words_are f w q)) s))))
  where
    one_word : (w : Word) (a b : Label) → is_word w ≡ true → IsLabel a → IsLabel b → slice_cmp int_cmp a b ≡ Less → slice_cmp nat_cmp (occurrence_key w a) (occurrence_key w b) ≡ Less
    one_word w a b i g h l = occurrence_order order w w a b i i g h ∙ (ap (λ o. ordering_then o (slice_cmp int_cmp a b)) (tied_itself nat_list_cmp_total w) ∙ l)

counts_rise : (nodes : Trees Worded) → Ordered Before (counts nodes)
counts_rise nodes = ordered_map (count_of nodes) Before (words nodes) (ordered_with Above (λ v w. Before (count_of nodes v) (count_of nodes w)) (words nodes) (λ v w p q s. is_below v w s) (words_rise nodes))

-- ---- one run after the other

-- what begins with less stands before
pub headed : (a b : ℕ) (k l : List ℕ) → a < b → below (a ∷ k) (b ∷ l) ≡ true
headed a b k l h = ap is_lt (ap (λ o. ordering_then o (slice_cmp nat_cmp k l)) (less_is a b h))

abbrev pub Headed : ℕ → Entry → Type 0
Headed a e = (k : List ℕ) × (e.0 ≡ a ∷ k)

pub chunks_headed : (f : Trees Labelled) (e : Entry) → Within e (chunks f) → Headed 1 e
chunks_headed f e h =
    let t = within_flat chunks_of e (preorder f) h in
    let r = within_range (λ i. (chunk_key (t.0).label i, piece (t.0).kind i)) e (piece_count (t.0).kind) 0 t.2 in
    (_, ap (λ (z : Entry). z.0) r.3)

pub occurrences_headed : (nodes : Trees Worded) (e : Entry) → Within e (occurrences nodes) → Headed 2 e
occurrences_headed nodes e h =
    let t = within_flat (occurrences_of nodes) e (words nodes) h in
    let r = within_in (λ (m : Label). (occurrence_key t.0 m, [])) e (list_of t.0 nodes) t.2 in
    (_, ap (λ (z : Entry). z.0) r.2)

pub counts_headed : (nodes : Trees Worded) (e : Entry) → Within e (counts nodes) → Headed 3 e
counts_headed nodes e h = let r = within_in (count_of nodes) e (words nodes) h in (_, ap (λ (z : Entry). z.0) r.2)

apart : (a b : ℕ) (d e : Entry) → a < b → Headed a d → Headed b e → Before d e
apart a b d e l h k = subst (λ (z : List ℕ). below z e.0 ≡ true) (sym h.1) (subst (λ (z : List ℕ). below (a ∷ h.0) z ≡ true) (sym k.1) (headed a b h.0 k.0 l))

-- what trees bring stands in the order of the keys, wherever the trees stand
pub entries_rise : ByteOrder → Ancestry → (f : Trees Labelled) → Nodes f → Rises (entries_of f)
entries_rise order ancestry f n =
    rises (entries_of f) (ordered_joined Before (chunks f) (occurrences (worded f)) (chunks_rise order ancestry f n) (occurrences_rise order f n)
    (λ u r p q. apart 1 2 u r (omega arith) (chunks_headed f u p) (occurrences_headed (worded f) r q)))

pub images_rise : ByteOrder → Ancestry → ImagesRise
images_rise order ancestry f w =
    let n = nodes_of f w in
    let later = ordered_joined Before (occurrences (worded f)) (counts (worded f)) (occurrences_rise order f n) (counts_rise (worded f))
    (λ u r p q. apart 2 3 u r (omega arith) (occurrences_headed (worded f) u p) (counts_headed (worded f) r q)) in
    record {
      rises = rises (image f) (ordered_joined Before (chunks f) (occurrences (worded f) ++ counts (worded f)) (chunks_rise order ancestry f n) later
          (λ u r p q. elim (within_joined r (occurrences (worded f)) (counts (worded f)) q) [
            | inl k ↦ apart 1 2 u r (omega arith) (chunks_headed f u p) (occurrences_headed (worded f) r k)
            | inr k ↦ apart 1 3 u r (omega arith) (chunks_headed f u p) (counts_headed (worded f) r k)
          ]));
    }
