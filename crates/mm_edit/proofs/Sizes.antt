-- The entries of a plan are of sizes that a keeper takes.
use Rattle.std.proofs.Common.{inl, inr, ◌≡◌, ◌≤◌, ◌*◌, refl, ℕ, ℤ, zero, suc, true, List, [], ◌∷◌, ◌++◌, length, length-append, sym, subst, arith, take, drop}
use Rattle.std.specs.Prelude.{◌&&◌, nat_le}
use Rattle.std.specs.List.{range_with_len}
use Rattle.std.proofs.lemmas.Bool.{and_parts, leb-true}
use Rattle.byteorder.specs.Endian.{big_bytes}
use Rattle.mm_label.specs.Bytes.{bytes_of}
use Rattle.mm_label.specs.Fronts.{Within}
use Rattle.mm_label.specs.Label.{all_in_range, label_limit}
use Rattle.mm_label.specs.Facts.Members.{within_flat, within_in, within_joined}
use Rattle.mm_words.specs.Words.{has_no_zero, is_word, word_limit}
use Rattle.mm_keeper.specs.Entries.{Entries, Entry}
use Rattle.mm_tree.specs.declared.plain.Kind.{Kind}
use Rattle.mm_tree.specs.Numbering.{Labelled, fits, has_room}
use Rattle.mm_tree.specs.Search.{list_of, worded}
use Rattle.mm_tree.specs.Trees.{Trees, every, none, node, preorder}
use Rattle.mm_tree.specs.Validity.{piece_count}
use Rattle.mm_image.specs.Content.{content, piece}
use Rattle.mm_image.specs.Image.{chunks, chunks_of, entries_of, occurrences, occurrences_of, words}
use Rattle.mm_image.specs.Keys.{chunk_key, count_key, occurrence_key}
use Rattle.mm_image.specs.Facts.Members.{words_are}
use Rattle.mm_edit.specs.Plans.{AreSized, IsSized}
use Rattle.mm_edit.proofs.Values.{listed_holder}

pub sized_joined : (a b : Entries) → AreSized a → AreSized b → AreSized (a ++ b)
sized_joined [] b s t = t
sized_joined (e ∷ a) b s t = (s.0, sized_joined a b s.1 t)

word_short : (w : List ℕ) → is_word w ≡ true → length w ≤ 256
word_short w h =
    let p = and_parts (nat_le 1 (length w) && nat_le (length w) word_limit) (has_no_zero w) h in
    let q = and_parts (nat_le 1 (length w)) (nat_le (length w) word_limit) p.0 in
    leb-true (length w) 256 q.1

pub count_sized : (w value : List ℕ) → is_word w ≡ true → length value ≡ 8 → IsSized (count_key w, value)
count_sized w value h v = let l = word_short w h in (omega arith, omega (arith, l), omega (arith, v))

pub one_sized : (old new : Entries) (w key value : List ℕ) → is_word w ≡ true → key ≡ count_key w → length value ≡ 8 → new ≡ old ++ (key, value) ∷ [] → AreSized old → AreSized new
one_sized old new w key value h k v n a =
    subst AreSized (sym n) (sized_joined old ((key, value) ∷ []) a (subst (λ (z : List ℕ). IsSized (z, value)) (sym k) (count_sized w value h v), tt))

-- ---- the entries of nodes whose labels fit

sized_each : (es : Entries) → ((e : Entry) → Within e es → IsSized e) → AreSized es
sized_each [] h = tt
sized_each (e ∷ es) h = (h e (inl refl), sized_each es (λ d i. h d (inr i)))

label_short : (f : Trees Labelled) → every has_room f ≡ true → (d : Labelled) → Within d (preorder f) → length (bytes_of d.label) ≤ 512
label_short none h d i = absurd i
label_short (node e inner rest) h d i =
    let p = and_parts (fits e.label) (every has_room inner && every has_room rest) h in
    let q = and_parts (every has_room inner) (every has_room rest) p.1 in
    elim i [
      | inl k ↦ subst (λ (z : Labelled). length (bytes_of z.label) ≤ 512) (sym k) (leb-true (length (bytes_of e.label)) 512 (and_parts (all_in_range e.label) (nat_le (length (bytes_of e.label)) label_limit) p.0).1)
      | inr k ↦ elim (within_joined d (preorder inner) (preorder rest) k) [ inl l ↦ label_short inner q.0 d l | inr l ↦ label_short rest q.1 d l ]
    ]

take_short : (n : ℕ) (xs : List ℕ) → length (take n xs) ≤ n
take_short zero xs = omega arith
take_short (suc n) [] = omega arith
take_short (suc n) (x ∷ xs) = let t = take_short n xs in omega (arith, t)

chunk_sized : (l : List ℤ) (kind : Kind) (i : ℕ) → length (bytes_of l) ≤ 512 → IsSized (chunk_key l i, piece kind i)
chunk_sized l kind i s =
    let t = take_short 1000 (drop (1000 * i) (content kind)) in
    (omega arith, omega (arith, s, length-append (bytes_of l) (0 ∷ big_bytes 4 i)), omega (arith, t))

occurrence_sized : (w : List ℕ) (l : List ℤ) → is_word w ≡ true → length (bytes_of l) ≤ 512 → IsSized (occurrence_key w l, [])
occurrence_sized w l h s = let t = word_short w h in (omega arith, omega (arith, s, t, length-append w (0 ∷ bytes_of l)), omega arith)

pub tree_sized : (u : Trees Labelled) → every has_room u ≡ true → AreSized (entries_of u)
tree_sized u h = sized_joined (chunks u) (occurrences (worded u)) (sized_each (chunks u) chunk) (sized_each (occurrences (worded u)) occurrence)
  where
    chunk : (e : Entry) → Within e (chunks u) → IsSized e
    chunk e i =
        let t = within_flat chunks_of e (preorder u) i in
        let v = within_in (λ n. (chunk_key t.0.label n, piece t.0.kind n)) e (range_with_len 0 (piece_count t.0.kind)) t.2 in
        subst IsSized (sym v.2) (chunk_sized t.0.label t.0.kind v.0 (label_short u h t.0 t.1))

    occurrence : (e : Entry) → Within e (occurrences (worded u)) → IsSized e
    occurrence e i =
        let t = within_flat (occurrences_of (worded u)) e (words (worded u)) i in
        let v = within_in (λ label. (occurrence_key t.0 label, [])) e (list_of t.0 (worded u)) t.2 in
        let d = listed_holder t.0 v.0 u v.1 in
        subst IsSized (sym v.2) (occurrence_sized t.0 v.0 (words_are u t.0 t.1) (subst (λ (z : List ℤ). length (bytes_of z) ≤ 512) (sym d.3) (label_short u h d.0 d.1)))
