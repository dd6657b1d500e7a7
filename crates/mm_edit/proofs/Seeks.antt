-- The first key from one on and the last one up to it, in the image of a forest.
use Rattle.std.proofs.Common.{inl, inr, ◌≡◌, ◌⊎◌, ℕ, ◌<◌, Bool, true, false, IsTrue, List, [], ◌∷◌, ◌++◌, refl, ap, sym, subst, ◌∙◌, Option, Some, None, append_assoc, append-nil, arith, zero, suc}
use Rattle.std.specs.Ordering.{is_lt}
use Rattle.std.proofs.lemmas.Grind.{flat_map-append}
use Rattle.byteorder.specs.Endian.{big_bytes}
use Rattle.mm_label.specs.Bytes.{bytes_of, rank, spell}
use Rattle.mm_label.specs.Fronts.{Apart, Label, Le, Lt, Within}
use Rattle.mm_label.specs.Label.{IsBefore, IsLabel}
use Rattle.mm_label.specs.Facts.Fronts.{front_cases, le_antisym, le_total}
use Rattle.mm_label.specs.Facts.Members.{in_within, within_flat, within_in, within_joined}
use Rattle.mm_label.specs.Facts.Order.{apart_past, le_before, le_of, lt_before, splits}
use Rattle.mm_keeper.specs.Entries.{Entry, below}
use Rattle.mm_tree.specs.Facts.Labels.{node_is_labelled}
use Rattle.mm_tree.specs.Forests.{is_well_formed}
use Rattle.mm_tree.specs.Formed.{node_label}
use Rattle.mm_tree.specs.Numbering.{Labelled}
use Rattle.mm_tree.specs.Search.{worded}
use Rattle.mm_tree.specs.Trees.{Trees, preorder}
use Rattle.mm_image.specs.Content.{piece}
use Rattle.mm_image.specs.Image.{chunks, chunks_of, count_of, counts, image, occurrences, occurrences_of, words}
use Rattle.mm_image.specs.Keys.{chunk_key, occurrence_key}
use Rattle.mm_image.specs.Facts.Finding.{IsDown, IsUp}
use Rattle.mm_image.specs.Facts.LabelOrder.{Ancestry, ByteOrder, begins, label_upto, past_upto, upto_label}
use Rattle.mm_image.specs.Facts.Members.{chunk_in}
use Rattle.mm_image.specs.Facts.Upto.{UpTo, below_not, below_upto, not_below, upto_behind, upto_cancel, upto_front, upto_more, upto_refl, upto_trans}
use Rattle.mm_image.specs.Facts.KeyOrder.{chunk_less}
use Rattle.mm_edit.specs.Inside.Placing.{IsFirst, IsLast, TellsLabel}
use Rattle.mm_edit.proofs.Nearest.{labels_of}

-- ---- keys

longer : (a b s : List ℕ) → UpTo a b → UpTo a (b ++ s)
longer [] b s u = tt
longer (x ∷ a) [] s u = absurd u
longer (x ∷ a) (y ∷ b) s u = elim u [ inl q ↦ inl q | inr q ↦ inr (q.0, longer a b s q.1) ]

no_longer : (a s : List ℕ) (c : ℕ) → UpTo (a ++ c ∷ s) a → ⊥
no_longer [] s c u = u
no_longer (x ∷ a) s c u = elim u [ inl q ↦ omega (arith, q) | inr q ↦ no_longer a s c q.1 ]

either : (a b : List ℕ) → UpTo a b ⊎ UpTo b a
either a b = by (below b a) refl
  where
    by : (t : Bool) → below b a ≡ t → UpTo a b ⊎ UpTo b a
    by true e = inr (below_upto b a e)
    by false e = inl (not_below a b e)

-- what stands between two keys that begin with 01 does so
one_first : (k e j : List ℕ) → UpTo (1 ∷ k) e → UpTo e (1 ∷ j) → (r : List ℕ) × (e ≡ 1 ∷ r)
one_first k [] j u v = absurd u
one_first k (b ∷ e) j u v = elim v [ inl q ↦ absurd (elim u [ inl p ↦ omega (arith, p, q) | inr p ↦ let s = p.0 in omega (arith, s, q) ]) | inr q ↦ let s = q.0 in (e, cc) ]

-- what a label's bytes go on with is above 00, at or above 01, and below FF
above_zero : (r : Label) (s : List ℕ) → (r ≡ [] → ⊥) → UpTo (0 ∷ s) (bytes_of r)
above_zero [] s n = absurd (n refl)
above_zero (c ∷ r) s n = let b = begins (rank c) in subst (λ (z : List ℕ). UpTo (0 ∷ s) (z ++ bytes_of r)) (sym b.is) (inl b.above)

above_one : (r : Label) (s : List ℕ) → (r ≡ [] → ⊥) → UpTo (1 ∷ []) (bytes_of r ++ s)
above_one [] s n = absurd (n refl)
above_one (c ∷ r) s n = let b = begins (rank c) in longer (1 ∷ []) (bytes_of (c ∷ r)) s (subst (λ (z : List ℕ). UpTo (1 ∷ []) (z ++ bytes_of r)) (sym b.is) (at b.head b.above))
  where
    at : (h : ℕ) → 0 < h → (1 < h) ⊎ ((1 ≡ h) × Unit {0})
    at zero l = absurd (omega (arith, l))
    at (suc zero) l = inr (refl, tt)
    at (suc (suc h)) l = inl (omega arith)

below_last : (r : Label) (s : List ℕ) → UpTo (255 ∷ []) (bytes_of r ++ 0 ∷ s) → ⊥
below_last [] s u = elim u [ inl q ↦ omega (arith, q) | inr q ↦ let e = q.0 in omega (arith, e) ]
below_last (c ∷ r) s u =
    let b = begins (rank c) in
    let l = b.low in
    elim (subst (λ (z : List ℕ). UpTo (255 ∷ []) ((z ++ bytes_of r) ++ 0 ∷ s)) b.is u) [ inl q ↦ omega (arith, q, l) | inr q ↦ let e = q.0 in omega (arith, e, l) ]

joined_bytes : (a d r : Label) → d ≡ a ++ r → bytes_of d ≡ bytes_of a ++ bytes_of r
joined_bytes a d r e = ap bytes_of e ∙ flat_map-append spell a r

-- where a label goes on from another, so does its key
goes_on : (a d r : Label) (s : List ℕ) → d ≡ a ++ r → bytes_of d ++ s ≡ bytes_of a ++ (bytes_of r ++ s)
goes_on a d r s e = ap (λ (z : List ℕ). z ++ s) (joined_bytes a d r e) ∙ append_assoc (bytes_of a) (bytes_of r) s

proper : (a d r : Label) → (a ≡ d → ⊥) → d ≡ a ++ r → r ≡ [] → ⊥
proper a d r n e q = n (sym (e ∙ ap (λ (z : Label). a ++ z) q ∙ append-nil a))

-- ---- the order of the keys of pieces

module _ (order : ByteOrder) (ancestry : Ancestry) where
  chunk_before : (a b : Label) (m n : ℕ) → IsLabel a → IsLabel b → IsBefore a b → below (chunk_key a m) (chunk_key b n) ≡ true
  chunk_before a b m n g h l = ap is_lt (chunk_less order ancestry a b (big_bytes 4 m) (big_bytes 4 n) g h l)

  pub chunk_le : (a b : Label) (m n : ℕ) → IsLabel a → IsLabel b → UpTo (chunk_key a m) (chunk_key b n) → Le a b
  chunk_le a b m n g h u = elim (le_total a b) [
    | inl l ↦ l
    | inr l ↦ elim (le_before b a l) [
      | inl e ↦ subst (λ (z : Label). Le z b) e (le_of b b (inl refl))
      | inr k ↦ absurd (below_not (chunk_key a m) (chunk_key b n) (chunk_before b a n m h g k) u)
    ]
  ]

  -- from a key on that goes on from the first of x's, no label before x
  at_or_after : (x d : Label) (n : ℕ) (k : List ℕ) → IsLabel x → IsLabel d → UpTo (chunk_key x 0) k → UpTo k (chunk_key d n) → Le x d
  at_or_after x d n k g h u v = chunk_le x d 0 n g h (upto_trans (chunk_key x 0) k (chunk_key d n) u v)

  -- ---- past all of x: 01, its bytes, FF

  pub past_to : (x d : Label) (n : ℕ) → IsLabel x → IsLabel d → Apart x d → UpTo (1 ∷ bytes_of x ++ 255 ∷ []) (chunk_key d n)
  past_to x d n g h a = inr (refl, longer (bytes_of x ++ 255 ∷ []) (bytes_of d) (0 ∷ big_bytes 4 n) (past_upto order ancestry x d g h (apart_past x d a)))

  pub past_of : (x d : Label) (n : ℕ) → IsLabel x → IsLabel d → UpTo (1 ∷ bytes_of x ++ 255 ∷ []) (chunk_key d n) → Apart x d
  past_of x d n g h u = (
    at_or_after x d n (1 ∷ bytes_of x ++ 255 ∷ []) g h (inr (refl, upto_front (bytes_of x) (0 ∷ big_bytes 4 0) (255 ∷ []) (inl (omega arith)))) u,
    λ f. let r = (splits x d).0 f in
        below_last r.0 (big_bytes 4 n) (upto_cancel (1 ∷ bytes_of x) (255 ∷ []) (bytes_of r.0 ++ 0 ∷ big_bytes 4 n)
        (subst (λ (z : List ℕ). UpTo (1 ∷ bytes_of x ++ 255 ∷ []) (1 ∷ z)) (goes_on x d r.0 (0 ∷ big_bytes 4 n) r.1) u)),
  )

  -- ---- behind x: 01, its bytes, 01

  pub behind_to : (x d : Label) (n : ℕ) → IsLabel x → IsLabel d → Lt x d → UpTo (1 ∷ bytes_of x ++ 1 ∷ []) (chunk_key d n)
  behind_to x d n g h l = elim (front_cases x d) [
    | inl f ↦
        let r = (splits x d).0 f in
        subst (λ (z : List ℕ). UpTo (1 ∷ bytes_of x ++ 1 ∷ []) (1 ∷ z)) (sym (goes_on x d r.0 (0 ∷ big_bytes 4 n) r.1))
        (inr (refl, upto_front (bytes_of x) (1 ∷ []) (bytes_of r.0 ++ 0 ∷ big_bytes 4 n) (above_one r.0 (0 ∷ big_bytes 4 n) (proper x d r.0 l.1 r.1))))
    | inr f ↦ upto_trans (1 ∷ bytes_of x ++ 1 ∷ []) (1 ∷ bytes_of x ++ 255 ∷ []) (chunk_key d n) (inr (refl, upto_front (bytes_of x) (1 ∷ []) (255 ∷ []) (inl (omega arith)))) (past_to x d n g h (l.0, f))
  ]

  pub behind_of : (x d : Label) (n : ℕ) → IsLabel x → IsLabel d → UpTo (1 ∷ bytes_of x ++ 1 ∷ []) (chunk_key d n) → Lt x d
  behind_of x d n g h u = (
    at_or_after x d n (1 ∷ bytes_of x ++ 1 ∷ []) g h (inr (refl, upto_front (bytes_of x) (0 ∷ big_bytes 4 0) (1 ∷ []) (inl (omega arith)))) u,
    λ e. elim (upto_cancel (1 ∷ bytes_of x) (1 ∷ []) (0 ∷ big_bytes 4 n) (subst (λ (z : Label). UpTo (1 ∷ bytes_of x ++ 1 ∷ []) (chunk_key z n)) (sym e) u)) [
      | inl q ↦ omega (arith, q)
      | inr q ↦ let s = q.0 in omega (arith, s)
    ],
  )

  -- ---- before x: 01, its bytes

  pub before_to : (x d : Label) (n : ℕ) → IsLabel x → IsLabel d → Lt d x → UpTo (chunk_key d n) (1 ∷ bytes_of x)
  before_to x d n g h l = inr (
    refl,
    elim (front_cases d x) [
      | inl f ↦
          let r = (splits d x).0 f in
          subst (UpTo (bytes_of d ++ 0 ∷ big_bytes 4 n)) (sym (joined_bytes d x r.0 r.1)) (upto_front (bytes_of d) (0 ∷ big_bytes 4 n) (bytes_of r.0) (above_zero r.0 (big_bytes 4 n) (proper d x r.0 l.1 r.1)))
      | inr f ↦ upto_behind (bytes_of d) (0 ∷ big_bytes 4 n) (bytes_of x) (upto_label order d x h g (inr (lt_before d x l))) (λ r e. f ((ancestry d x h g).0 (r, e)))
    ],
  )

  pub before_of : (x d : Label) (n : ℕ) → IsLabel x → IsLabel d → UpTo (chunk_key d n) (1 ∷ bytes_of x) → Lt d x
  before_of x d n g h u =
      let v = upto_cancel (1 ∷ []) (bytes_of d ++ 0 ∷ big_bytes 4 n) (bytes_of x) u in (
        le_of d x (label_upto order d x h g (upto_more (bytes_of d) (0 ∷ big_bytes 4 n) (bytes_of x) v)),
        λ e. no_longer (bytes_of x) (big_bytes 4 n) 0 (subst (λ (z : Label). UpTo (bytes_of z ++ 0 ∷ big_bytes 4 n) (bytes_of x)) e v),
      )

  -- ---- not past all of y: 01, its bytes, FF; all labels without a y

  pub within_to : (y d : Label) (n : ℕ) → IsLabel y → IsLabel d → (Apart y d → ⊥) → UpTo (chunk_key d n) (1 ∷ bytes_of y ++ 255 ∷ [])
  within_to y d n g h m = elim (either (chunk_key d n) (1 ∷ bytes_of y ++ 255 ∷ [])) [ inl u ↦ u | inr u ↦ absurd (m (past_of y d n g h u)) ]

  pub within_of : (y d : Label) (n : ℕ) → IsLabel y → IsLabel d → UpTo (chunk_key d n) (1 ∷ bytes_of y ++ 255 ∷ []) → Apart y d → ⊥
  within_of y d n g h u a =
      no_longer (bytes_of d) (big_bytes 4 n) 0
      (upto_trans (bytes_of d ++ 0 ∷ big_bytes 4 n) (bytes_of y ++ 255 ∷ []) (bytes_of d) (upto_cancel (1 ∷ []) (bytes_of d ++ 0 ∷ big_bytes 4 n) (bytes_of y ++ 255 ∷ []) u) (past_upto order ancestry y d g h (apart_past y d a)))

  pub top_to : (d : Label) (n : ℕ) → UpTo (chunk_key d n) (1 ∷ 255 ∷ [])
  top_to d n = elim (either (chunk_key d n) (1 ∷ 255 ∷ [])) [ inl u ↦ u | inr u ↦ absurd (below_last d (big_bytes 4 n) (upto_cancel (1 ∷ []) (255 ∷ []) (bytes_of d ++ 0 ∷ big_bytes 4 n) u)) ]

  -- ---- what was found in an image

  node_of_key : (f : Trees Labelled) (e : Entry) (r : List ℕ) → Within e (image f) → e.0 ≡ 1 ∷ r → (d : Labelled) × Within d (preorder f) × ((n : ℕ) × (e.0 ≡ chunk_key d.label n))
  node_of_key f e r i q = elim (within_joined e (chunks f) (occurrences (worded f) ++ counts (worded f)) i) [
    | inl w ↦
        let t = within_flat chunks_of e (preorder f) w in
        let u = within_in (λ n. (chunk_key (t.0).label n, piece (t.0).kind n)) e _ t.2 in
        (t.0, t.1, (u.0, ap (λ (z : Entry). z.0) u.2))
    | inr w ↦ absurd (elim (within_joined e (occurrences (worded f)) (counts (worded f)) w) [
      | inl p ↦ let t = within_flat (occurrences_of (worded f)) e (words (worded f)) p in let u = within_in (λ (l : Label). (occurrence_key t.0 l, [])) e _ t.2 in let s = u.2 in cc
      | inr p ↦ let u = within_in (count_of (worded f)) e (words (worded f)) p in let s = u.2 in cc
    ])
  ]

  pub label_told : (f : Trees Labelled) (e : Entry) (z : Label) (n : ℕ) → IsTrue (is_well_formed f) → Within e (image f) → IsLabel z → e.0 ≡ chunk_key z n → Within z (labels_of f)
  label_told f e z n w i g q =
      let t = node_of_key f e (bytes_of z ++ 0 ∷ big_bytes 4 n) i q in
      let h = node_is_labelled f w t.0 t.1 in
      let s : chunk_key z n ≡ chunk_key (t.0).label t.2.0 = sym q ∙ t.2.1 in
      let k : z ≡ (t.0).label = le_antisym z (t.0).label (chunk_le z (t.0).label n t.2.0 g h (subst (UpTo (chunk_key z n)) s (upto_refl (chunk_key z n))))
      (chunk_le (t.0).label z t.2.0 n h g (subst (λ (y : List ℕ). UpTo y (chunk_key z n)) s (upto_refl (chunk_key z n)))) in
      subst (λ (y : Label). Within y (labels_of f)) (sym k) (in_within node_label t.0 (preorder f) t.1)

  -- the first piece of the node with the label
  node_piece : (f : Trees Labelled) (d : Label) → IsTrue (is_well_formed f) → Within d (labels_of f) → IsLabel d × ((v : List ℕ) × Within {A = Entry} (chunk_key d 0, v) (image f))
  node_piece f d w i =
      let t = within_in node_label d (preorder f) i in
      subst (λ (z : Label). IsLabel z × ((v : List ℕ) × Within {A = Entry} (chunk_key z 0, v) (image f))) (sym t.2) (node_is_labelled f w t.0 t.1, (piece (t.0).kind 0, chunk_in f t.0 t.1))

  pub first_told : (f : Trees Labelled) (P : Label → Type 0) (k : List ℕ) → IsTrue (is_well_formed f) → ((d : Label) (n : ℕ) → IsLabel d → P d → UpTo (1 ∷ k) (chunk_key d n))
      → ((d : Label) (n : ℕ) → IsLabel d → UpTo (1 ∷ k) (chunk_key d n) → P d) → (found : Option Entry) (o : Option Label) → IsUp (image f) (1 ∷ k) found → TellsLabel found o → IsFirst (labels_of f) P o
  first_told f P k w to from None None u t = λ d i p. let m = node_piece f d w i in u (chunk_key d 0, m.1.0) m.1.1 (to d 0 m.0 p)
  first_told f P k w to from None (Some z) u t = absurd cc
  first_told f P k w to from (Some e) None u t = λ d i p.
      let m = node_piece f d w i in
      let r = one_first k e.0 (bytes_of d ++ 0 ∷ big_bytes 4 0) u.1 (u.2 (chunk_key d 0, m.1.0) m.1.1 (to d 0 m.0 p)) in
      t r.0 r.1
  first_told f P k w to from (Some e) (Some z) u t = (
    label_told f e z t.1.0 w u.0 t.0 t.1.1,
    from z t.1.0 t.0 (subst (UpTo (1 ∷ k)) t.1.1 u.1),
    λ d i p. let m = node_piece f d w i in chunk_le z d t.1.0 0 t.0 m.0 (subst (λ (y : List ℕ). UpTo y (chunk_key d 0)) t.1.1 (u.2 (chunk_key d 0, m.1.0) m.1.1 (to d 0 m.0 p))),
  )

  pub last_told : (f : Trees Labelled) (P : Label → Type 0) (k : List ℕ) → IsTrue (is_well_formed f) → ((d : Label) (n : ℕ) → IsLabel d → P d → UpTo (chunk_key d n) (1 ∷ k))
      → ((d : Label) (n : ℕ) → IsLabel d → UpTo (chunk_key d n) (1 ∷ k) → P d) → (found : Option Entry) (o : Option Label) → IsDown (image f) (1 ∷ k) found → TellsLabel found o → IsLast (labels_of f) P o
  last_told f P k w to from None None u t = λ d i p. let m = node_piece f d w i in u (chunk_key d 0, m.1.0) m.1.1 (to d 0 m.0 p)
  last_told f P k w to from None (Some z) u t = absurd cc
  last_told f P k w to from (Some e) None u t = λ d i p.
      let m = node_piece f d w i in
      let r = one_first (bytes_of d ++ 0 ∷ big_bytes 4 0) e.0 k (u.2 (chunk_key d 0, m.1.0) m.1.1 (to d 0 m.0 p)) u.1 in
      t r.0 r.1
  last_told f P k w to from (Some e) (Some z) u t = (
    label_told f e z t.1.0 w u.0 t.0 t.1.1,
    from z t.1.0 t.0 (subst (λ (y : List ℕ). UpTo y (1 ∷ k)) t.1.1 u.1),
    λ d i p. let m = node_piece f d w i in chunk_le d z 0 t.1.0 m.0 t.0 (subst (UpTo (chunk_key d 0)) t.1.1 (u.2 (chunk_key d 0, m.1.0) m.1.1 (to d 0 m.0 p))),
  )
