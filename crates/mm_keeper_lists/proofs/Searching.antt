-- Over the image of a well-formed forest, a look-up among the keys is the look-up in the keyword list.
use Rattle.std.proofs.Common.{inl, inr, ◌≡◌, ℕ, ◌+◌, ◌<◌, ◌≤◌, ◌^◌, true, IsTrue, List, [], ◌∷◌, ◌++◌, refl, ap, sym, subst, ◌∙◌, ℤ, Option, Some, None, map, length, arith, nat_cmp}
use Rattle.std.specs.Prelude.{flat_map}
use Rattle.std.specs.List.{Contains}
use Rattle.std.specs.Cmp.Lexicographic.{slice_cmp}
use Rattle.std.proofs.lemmas.Cmp.{nat_list_cmp_total, tied_itself}
use Rattle.mm_label.specs.Bytes.{bytes_of}
use Rattle.mm_label.specs.Label.{IsLabel, IsBefore}
use Rattle.mm_label.specs.Fronts.{Within, Ascends, IsAtOrBefore, IsPast}
use Rattle.mm_label.specs.Facts.Order.{exact, before_lt, le_of}
use Rattle.mm_label.specs.Facts.Fronts.{le_antisym}
use Rattle.mm_label.specs.Facts.Members.{contains_of, within_of}
use Rattle.mm_words.specs.Words.{is_word}
use Rattle.mm_tree.specs.Trees.{Trees}
use Rattle.mm_tree.specs.Numbering.{Labelled}
use Rattle.mm_tree.specs.Forests.{is_well_formed}
use Rattle.mm_tree.specs.Search.{worded, list_of}
use Rattle.mm_keeper.specs.Entries.{Entry, Entries, weight_of}
use Rattle.mm_host.specs.declared.damage.Damage.TheVariants as damage
use Rattle.mm_host.specs.declared.damage.Fault.{Fault}
use Rattle.mm_host.specs.declared.damage.Fault.TheVariants.{DiskFault, Damaged, Spent, Memory}
use Rattle.mm_lists.specs.Causes.{IsSound}
use Rattle.mm_lists.specs.Lists.{IsFirst, IsLeft, IsRight, IsNext, IsRightPast, head_of}
use Rattle.mm_lists.specs.Facts.Formed.{formed}
use Rattle.mm_lists.specs.Facts.Listed.{list_ascends}
use Rattle.mm_image.specs.Content.{count_in as value_in}
use Rattle.mm_image.specs.Laws.{CountsAreLengths}
use Rattle.mm_image.specs.Keys.{occurrence_key, count_key}
use Rattle.mm_image.specs.Image.{image, words, chunks, occurrences, occurrences_of, counts, count_of}
use Rattle.mm_image.specs.Facts.Upto.{UpTo, upto_front, upto_cancel, between, upto_next, next_upto}
use Rattle.mm_image.specs.Facts.Finding.{IsUp, IsDown, IsAt}
use Rattle.mm_image.specs.Facts.LabelOrder.{ByteOrder, Ancestry, label_upto, upto_label, upto_past, past_upto}
use Rattle.mm_image.specs.Facts.Members.{occurrence_in, occurrence_of, count_in, count_is, listed_label, listed_word}
use Rattle.mm_keeper_lists.specs.Found.{Tells, TellsCount, BlamesCount}
use Rattle.mm_keeper_lists.specs.Ranges.{range_key}

-- ---- keys of one word

onto : (w a b : List ℕ) → UpTo a b → UpTo (2 ∷ w ++ (0 ∷ a)) (2 ∷ w ++ (0 ∷ b))
onto w a b u = inr (refl, upto_front w (0 ∷ a) (0 ∷ b) (inr (refl, u)))

off : (w a b : List ℕ) → UpTo (2 ∷ w ++ (0 ∷ a)) (2 ∷ w ++ (0 ∷ b)) → UpTo a b
off w a b u = elim (upto_cancel (2 ∷ w) (0 ∷ a) (0 ∷ b) u) [ inl q ↦ absurd (omega (arith, q)) | inr q ↦ q.1 ]

-- what stands between two keys of a word's range is in that range
among : (w a b e : List ℕ) → UpTo (2 ∷ w ++ (0 ∷ a)) e → UpTo e (2 ∷ w ++ (0 ∷ b)) → (r : List ℕ) × (e ≡ range_key w r)
among w a b e h k =
    let t = between (2 ∷ w) (0 ∷ a) (0 ∷ b) e h k in
    let u = head t.0 (upto_cancel (2 ∷ w) (0 ∷ a) t.0 (subst (UpTo (2 ∷ w ++ (0 ∷ a))) t.1 h)) (upto_cancel (2 ∷ w) t.0 (0 ∷ b) (subst (λ (z : List ℕ). UpTo z (2 ∷ w ++ (0 ∷ b))) t.1 k)) in
    (u.0, t.1 ∙ ap (λ (z : List ℕ). 2 ∷ w ++ z) u.1)
  where
    head : (r : List ℕ) → UpTo (0 ∷ a) r → UpTo r (0 ∷ b) → (q : List ℕ) × (r ≡ 0 ∷ q)
    head [] h k = absurd h
    head (x ∷ r) h k = elim k [ inl q ↦ absurd (omega (arith, q)) | inr q ↦ let s = q.0 in (r, cc) ]

-- bytes spell at most one label
same_label : ByteOrder → (a b : List ℤ) → IsLabel a → IsLabel b → bytes_of a ≡ bytes_of b → a ≡ b
same_label order a b g h e = exact a b (sym (order a b g h) ∙ ap (λ (z : List ℕ). slice_cmp nat_cmp z (bytes_of b)) e ∙ tied_itself nat_list_cmp_total (bytes_of b))

-- a key that spells a label is that of a node of the list
told : ByteOrder → (w : List ℕ) (l : List ℤ) (e : Entry) (f : Trees Labelled) → is_word w ≡ true → IsTrue (is_well_formed f) → Within e (image f) → IsLabel l → e.0 ≡ occurrence_key w l → Within l (list_of w (worded f))
told order w l e f g k i h s =
    let t = occurrence_of w (bytes_of l) e f g i s in
    subst (λ (z : List ℤ). Within z (list_of w (worded f))) (sym (same_label order l t.0 h (listed_label w f k t.0 t.1) t.2)) t.1

-- ---- the first

pub first_is : ByteOrder → (w : List ℕ) → is_word w ≡ true → (f : Trees Labelled) → IsTrue (is_well_formed f)
    → (P : List ℤ → Type 0) (s : List ℕ) → ((l : List ℤ) → IsLabel l → P l → UpTo s (bytes_of l)) → ((l : List ℤ) → IsLabel l → UpTo s (bytes_of l) → P l)
    → (found : Option Entry) (o : Option (List ℤ)) → IsUp (image f) (2 ∷ w ++ (0 ∷ s)) found → Tells w found o → IsFirst P (list_of w (worded f)) o
first_is order w g f k P s to from found o u t = by found o u t
  where
    listed_in : (m : List ℤ) → Contains (list_of w (worded f)) m → Within m (list_of w (worded f))
    listed_in m c = within_of m (list_of w (worded f)) c

    key_up : (m : List ℤ) → Within m (list_of w (worded f)) → P m → UpTo (2 ∷ w ++ (0 ∷ s)) (occurrence_key w m)
    key_up m i p = onto w s (bytes_of m) (to m (listed_label w f k m i) p)

    none : (o : Option (List ℤ)) → o ≡ None → ((m : List ℤ) → Contains (list_of w (worded f)) m → P m → ⊥) → IsFirst P (list_of w (worded f)) o
    none None e h = h
    none (Some l) e h = absurd cc

    by : (found : Option Entry) (o : Option (List ℤ)) → IsUp (image f) (2 ∷ w ++ (0 ∷ s)) found → Tells w found o → IsFirst P (list_of w (worded f)) o
    by None o u t = none o t (λ m c p. let i = listed_in m c in u (occurrence_key w m, []) (occurrence_in w m f i) (key_up m i p))
    by (Some e) None u t = λ m c p.
        let i = listed_in m c in
        let r = among w s (bytes_of m) e.0 u.1 (u.2 (occurrence_key w m, []) (occurrence_in w m f i) (key_up m i p)) in t r.0 r.1
    by (Some e) (Some l) u t =
        let i = told order w l e f g k u.0 t.0 t.1 in (
          contains_of l (list_of w (worded f)) i,
          from l t.0 (off w s (bytes_of l) (subst (UpTo (2 ∷ w ++ (0 ∷ s))) t.1 u.1)),
          λ m c p. let j = listed_in m c in
              label_upto order l m t.0 (listed_label w f k m j) (off w (bytes_of l) (bytes_of m)
              (subst (λ (z : List ℕ). UpTo z (occurrence_key w m)) t.1 (u.2 (occurrence_key w m, []) (occurrence_in w m f j) (key_up m j p)))),
        )

-- ---- the last

pub left_is : ByteOrder → (w : List ℕ) → is_word w ≡ true → (f : Trees Labelled) → IsTrue (is_well_formed f) → (v : List ℤ) → IsLabel v
    → (found : Option Entry) (o : Option (List ℤ)) → IsDown (image f) (occurrence_key w v) found → Tells w found o → IsLeft (list_of w (worded f)) v o
left_is order w g f k v h found o u t = by found o u t
  where
    listed_in : (m : List ℤ) → Contains (list_of w (worded f)) m → Within m (list_of w (worded f))
    listed_in m c = within_of m (list_of w (worded f)) c

    key_up : (m : List ℤ) → Within m (list_of w (worded f)) → IsAtOrBefore m v → UpTo (occurrence_key w m) (occurrence_key w v)
    key_up m i p = onto w (bytes_of m) (bytes_of v) (upto_label order m v (listed_label w f k m i) h p)

    none : (o : Option (List ℤ)) → o ≡ None → ((m : List ℤ) → Contains (list_of w (worded f)) m → IsAtOrBefore m v → ⊥) → IsLeft (list_of w (worded f)) v o
    none None e h = h
    none (Some l) e h = absurd cc

    by : (found : Option Entry) (o : Option (List ℤ)) → IsDown (image f) (occurrence_key w v) found → Tells w found o → IsLeft (list_of w (worded f)) v o
    by None o u t = none o t (λ m c p. let i = listed_in m c in u (occurrence_key w m, []) (occurrence_in w m f i) (key_up m i p))
    by (Some e) None u t = λ m c p.
        let i = listed_in m c in
        let r = among w (bytes_of m) (bytes_of v) e.0 (u.2 (occurrence_key w m, []) (occurrence_in w m f i) (key_up m i p)) u.1 in t r.0 r.1
    by (Some e) (Some l) u t =
        let i = told order w l e f g k u.0 t.0 t.1 in (
          contains_of l (list_of w (worded f)) i,
          label_upto order l v t.0 h (off w (bytes_of l) (bytes_of v) (subst (λ (z : List ℕ). UpTo z (occurrence_key w v)) t.1 u.1)),
          λ m c p. let j = listed_in m c in
              label_upto order m l (listed_label w f k m j) t.0 (off w (bytes_of m) (bytes_of l)
              (subst (UpTo (occurrence_key w m)) t.1 (u.2 (occurrence_key w m, []) (occurrence_in w m f j) (key_up m j p)))),
        )

-- ---- the four that go up

pub right_is : ByteOrder → (w : List ℕ) → is_word w ≡ true → (f : Trees Labelled) → IsTrue (is_well_formed f) → (v : List ℤ) → IsLabel v
    → (found : Option Entry) (o : Option (List ℤ)) → IsUp (image f) (occurrence_key w v) found → Tells w found o → IsRight (list_of w (worded f)) v o
right_is order w g f k v h found o u t = first_is order w g f k (λ m. IsAtOrBefore v m) (bytes_of v) (λ l i p. upto_label order v l h i p) (λ l i p. label_upto order v l h i p) found o u t

-- with 00 behind the key
pub next_is : ByteOrder → (w : List ℕ) → is_word w ≡ true → (f : Trees Labelled) → IsTrue (is_well_formed f) → (v : List ℤ) → IsLabel v
    → (found : Option Entry) (o : Option (List ℤ)) → IsUp (image f) (2 ∷ w ++ (0 ∷ (bytes_of v ++ 0 ∷ []))) found → Tells w found o → IsNext (list_of w (worded f)) v o
next_is order w g f k v h found o u t =
    first_is order w g f k (λ m. IsBefore v m) (bytes_of v ++ 0 ∷ [])
    (λ l i p. next_upto (bytes_of v) (bytes_of l) (upto_label order v l h i (inr p)) (λ e. ahead v l p (same_label order v l h i e)))
    (λ l i p. let q = upto_next (bytes_of v) (bytes_of l) p in elim (label_upto order v l h i q.0) [ inl e ↦ absurd (q.1 (ap bytes_of e)) | inr e ↦ e ])
    found o u t
  where
    ahead : (a b : List ℤ) → IsBefore a b → a ≡ b → ⊥
    ahead a b p e = (before_lt a b p).1 e

-- with FF behind the key
pub right_past_is : ByteOrder → Ancestry → (w : List ℕ) → is_word w ≡ true → (f : Trees Labelled) → IsTrue (is_well_formed f) → (v : List ℤ) → IsLabel v
    → (found : Option Entry) (o : Option (List ℤ)) → IsUp (image f) (2 ∷ w ++ (0 ∷ (bytes_of v ++ 255 ∷ []))) found → Tells w found o → IsRightPast (list_of w (worded f)) v o
right_past_is order ancestry w g f k v h found o u t =
    first_is order w g f k (λ m. IsPast v m) (bytes_of v ++ 255 ∷ []) (λ l i p. past_upto order ancestry v l h i p) (λ l i p. upto_past order v l h i p) found o u t

first_of : (list : List (List ℤ)) (o : Option (List ℤ)) → Ascends list → IsFirst (λ m. Unit {0}) list o → o ≡ head_of list
first_of [] None a h = refl
first_of [] (Some l) a h = absurd (within_of l [] h.0)
first_of (m ∷ ms) None a h = absurd (h m (contains_of m (m ∷ ms) (inl refl)) tt)
first_of (m ∷ ms) (Some l) a h = elim (within_of l (m ∷ ms) h.0) [
  | inl e ↦ ap Some e
  | inr e ↦ ap Some (le_antisym l m (le_of l m (h.2 m (contains_of m (m ∷ ms) (inl refl)) tt)) (a.0 l e).0)
]

-- with nothing behind the word
pub head_is : ByteOrder → (w : List ℕ) → is_word w ≡ true → (f : Trees Labelled) → IsTrue (is_well_formed f)
    → (found : Option Entry) (o : Option (List ℤ)) → IsUp (image f) (2 ∷ w ++ (0 ∷ [])) found → Tells w found o → o ≡ head_of (list_of w (worded f))
head_is order w g f k found o u t =
    first_of (list_of w (worded f)) o (list_ascends [] w (worded f) (formed f k))
    (first_is order w g f k (λ m. Unit {0}) [] (λ l i p. tt) (λ l i p. tt) found o u t)

-- ---- the count

weight_joined : (a b : Entries) → weight_of (a ++ b) ≡ weight_of a + weight_of b
weight_joined [] b = omega arith
weight_joined (e ∷ a) b = let t = weight_joined a b in omega (arith, t)

heavier : {X : Type 0} (f : X → Entries) (x : X) (xs : List X) → Within x xs → weight_of (f x) ≤ weight_of (flat_map f xs)
heavier f x [] h = absurd h
heavier f x (a ∷ xs) h = elim h [
  | inl q ↦ subst (λ z. weight_of (f z) ≤ weight_of (f a ++ flat_map f xs)) (sym q) (omega (arith, weight_joined (f a) (flat_map f xs)))
  | inr q ↦ let t = heavier f x xs q in omega (arith, weight_joined (f a) (flat_map f xs), t)
]

keys_weigh : (w : List ℕ) (list : List (List ℤ)) → length list ≤ weight_of (map (λ l. (occurrence_key w l, [])) list)
keys_weigh w [] = omega arith
keys_weigh w (l ∷ ls) = let t = keys_weigh w ls in omega (arith, t)

list_few : (w : List ℕ) (f : Trees Labelled) → length (list_of w (worded f)) ≤ weight_of (image f)
list_few w f = by (list_of w (worded f)) refl
  where
    by : (list : List (List ℤ)) → list_of w (worded f) ≡ list → length list ≤ weight_of (image f)
    by [] e = omega arith
    by (l ∷ ls) e =
        let i : Within l (list_of w (worded f)) = subst (Within l) (sym e) (inl refl) in
        let t = heavier (occurrences_of (worded f)) w (words (worded f)) (listed_word w l f i) in
        let n = keys_weigh w (list_of w (worded f)) in
        let m : length (list_of w (worded f)) ≡ length (l ∷ ls) = ap length e in
        omega (arith, t, n, m, weight_joined (chunks f) (occurrences (worded f) ++ counts (worded f)), weight_joined (occurrences (worded f)) (counts (worded f)))

pub count_is_length : CountsAreLengths → (w : List ℕ) (f : Trees Labelled) → weight_of (image f) < 2 ^ 64 → (found : Option Entry) (n : ℕ) → IsAt (image f) (count_key w) found → TellsCount found n → n ≡ length (list_of w (worded f))
count_is_length law w f few None n u t = by (list_of w (worded f)) refl
  where
    by : (list : List (List ℤ)) → list_of w (worded f) ≡ list → n ≡ length list
    by [] e = t
    by (l ∷ ls) e = absurd (u (count_of (worded f) w) (count_in w l f (subst (Within l) (sym e) (inl refl))) refl)
count_is_length law w f few (Some e) n u t =
    let s = count_is w e f u.0 u.1 in
    let m = list_few w f in
    let k : Some n ≡ Some (length (list_of w (worded f))) = sym t ∙ (ap (λ (z : Entry). value_in z.1) s ∙ law (worded f) w (omega (arith, m, few))) in
    cc

-- over an image no count is found broken
pub unbroken_count : CountsAreLengths → (w : List ℕ) (f : Trees Labelled) → weight_of (image f) < 2 ^ 64 → (found : Option Entry) → IsAt (image f) (count_key w) found → (fault : Fault) → BlamesCount found fault → IsSound fault
unbroken_count law w f few found u DiskFault b = tt
unbroken_count law w f few found u Spent b = tt
unbroken_count law w f few found u Memory b = tt
unbroken_count law w f few None u (Damaged d) b = absurd b
unbroken_count law w f few (Some e) u (Damaged (damage.Key key)) b =
    let s = count_is w e f u.0 u.1 in
    let m = list_few w f in
    let k : None ≡ Some (length (list_of w (worded f))) = sym b.1 ∙ (ap (λ (z : Entry). value_in z.1) s ∙ law (worded f) w (omega (arith, m, few))) in
    absurd cc
unbroken_count law w f few (Some e) u (Damaged d) b = absurd b
