-- The value of the image at each key is what the nodes bring there.
use Rattle.std.proofs.Common.{inl, inr, ◌≡◌, ◌⊎◌, ℕ, zero, suc, ◌+◌, ◌<◌, Bool, true, false, cond, List, [], ◌∷◌, ◌++◌, refl, ap, sym, subst, ◌∙◌, ℤ, length, arith}
use Rattle.std.specs.Prelude.{Some, None, flat_map, map, if◌then◌else◌, ◌||◌, nat_lt, bytes_eq}
use Rattle.std.specs.List.{list_any}
use Rattle.std.proofs.lemmas.Slice.Eq.{bytes_eq-Decides}
use Rattle.byteorder.specs.Endian.{big_bytes}
use Rattle.mm_label.specs.Fronts.{Within}
use Rattle.mm_label.specs.Facts.Lists.{own_cases, own_of}
use Rattle.mm_label.specs.Facts.Members.{within_flat, flat_within, within_in, in_within, any_found, any_at}
use Rattle.mm_keeper.specs.Entries.{Entry, Entries}
use Rattle.mm_tree.specs.Trees.{Trees, preorder}
use Rattle.mm_tree.specs.Numbering.{Labelled}
use Rattle.mm_tree.specs.Search.{list_of, own, worded}
use Rattle.mm_image.specs.Keys.{count_key, occurrence_key}
use Rattle.mm_image.specs.Image.{chunks, chunks_of, count_of, counts, image, occurrences, occurrences_of, words}
use Rattle.mm_image.specs.Facts.Members.{listed_is, listed_word, own_label}
use Rattle.mm_image.specs.Facts.Rising.{chunks_headed, counts_headed, occurrences_headed}
use Rattle.mm_image.specs.Facts.Words.{is_listed, word_is_held}
use Rattle.mm_edit.specs.Difference.{Key}
use Rattle.mm_edit.specs.Inside.Finding.{find}
use Rattle.mm_edit.specs.Inside.Nodes.{brought, occurring, owned, tally, is_counted, counted_as, or_else, value_at}
use Rattle.mm_edit.proofs.Keys.{same, same_self}
use Rattle.mm_edit.proofs.Lookups.{Value}
use Rattle.mm_edit.proofs.Runs.{find-append}

abbrev Word : Type 0
Word = List ℕ

abbrev Label : Type 0
Label = List ℤ

-- ---- look-ups by membership

pub find_some : (m : Entries) (k v : List ℕ) → find m k ≡ Some v → Within (k, v) m
find_some [] k v h = absurd cc
find_some (e ∷ m) k v h = by (bytes_eq e.0 k) refl h (find_some m k v)
  where
    by : (t : Bool) → bytes_eq e.0 k ≡ t → (if t then Some e.1 else find m k) ≡ Some v → (find m k ≡ Some v → Within (k, v) m) → Within (k, v) (e ∷ m)
    by true p h f = let q : e.1 ≡ v = cc in let r = same e.0 k p in inl (ap (λ (z : List ℕ). (z, v)) (sym r) ∙ ap (λ (z : List ℕ). (e.0, z)) (sym q))
    by false p h f = inr (f h)

pub find_none : (m : Entries) (k : List ℕ) → ((e : Entry) → Within e m → e.0 ≡ k → ⊥) → find m k ≡ None
find_none [] k h = refl
find_none (e ∷ m) k h = by (bytes_eq e.0 k) refl (find_none m k (λ d i. h d (inr i)))
  where
    by : (t : Bool) → bytes_eq e.0 k ≡ t → find m k ≡ None → (if t then Some e.1 else find m k) ≡ None
    by true p f = absurd (h e (inl refl) (same e.0 k p))
    by false p f = f

pub none_found : (m : Entries) (k : List ℕ) → find m k ≡ None → (e : Entry) → Within e m → e.0 ≡ k → ⊥
none_found [] k h e i q = i
none_found (d ∷ m) k h e i q = by (bytes_eq d.0 k) refl h (none_found m k)
  where
    by : (t : Bool) → bytes_eq d.0 k ≡ t → (if t then Some d.1 else find m k) ≡ None → (find m k ≡ None → (c : Entry) → Within c m → c.0 ≡ k → ⊥) → ⊥
    by true p h f = cc
    by false p h f = elim i [
      | inl s ↦ let t : bytes_eq d.0 k ≡ true = (bytes_eq-Decides d.0 k).1 (sym (ap (λ (z : Entry). z.0) s) ∙ q) in cc
      | inr s ↦ f h e s q
    ]

-- lists of keys without values, with the same keys
same_find : (a b : Entries) (k : List ℕ) → ((e : Entry) → Within e a → Within e b) → ((e : Entry) → Within e b → Within e a) → ((e : Entry) → Within e a → e.1 ≡ []) → find a k ≡ find b k
same_find a b k f g n = by (find a k) (find b k) refl refl
  where
    by : (x y : Value) → find a k ≡ x → find b k ≡ y → x ≡ y
    by None None p q = refl
    by None (Some v) p q = absurd (none_found a k p (k, v) (g (k, v) (find_some b k v q)) refl)
    by (Some u) None p q = absurd (none_found b k q (k, u) (f (k, u) (find_some a k u p)) refl)
    by (Some u) (Some v) p q =
        let s : u ≡ [] = n (k, u) (find_some a k u p) in
        let t : v ≡ [] = n (k, v) (g (k, v) (find_some b k v q)) in cc

-- ---- chunks

swapped : (c o cs os : Value) → (o ≡ None) ⊎ (cs ≡ None) → or_else (or_else c o) (or_else cs os) ≡ or_else (or_else c cs) (or_else o os)
swapped (Some v) o cs os h = refl
swapped None None cs os h = refl
swapped None (Some v) None os h = refl
swapped None (Some v) (Some w) os h = elim h [ inl q ↦ absurd cc | inr q ↦ absurd cc ]

pub heads : (k r s : List ℕ) (a b : ℕ) → k ≡ a ∷ r → k ≡ b ∷ s → a < b → ⊥
heads k r s a b p q l = let e : a ≡ b = cc in omega (arith, e, l)

chunk_head : (xs : List Labelled) (e : Entry) → Within e (flat_map chunks_of xs) → (r : List ℕ) × (e.0 ≡ 1 ∷ r)
chunk_head xs e h =
    let t = within_flat chunks_of e xs h in
    let u = within_in _ e _ t.2 in (_, ap (λ (z : Entry). z.0) u.2)

pub owned_find : (xs : List Labelled) (k : Key) → find (owned xs) k ≡ or_else (find (flat_map chunks_of xs) k) (find (flat_map occurring xs) k)
owned_find [] k = refl
owned_find (x ∷ xs) k =
    find-append (brought x) (owned xs) k
    ∙ ap (λ z. or_else z (find (owned xs) k)) (find-append (chunks_of x) (occurring x) k)
    ∙ ap (λ z. or_else (or_else (find (chunks_of x) k) (find (occurring x) k)) z) (owned_find xs k)
    ∙ swapped (find (chunks_of x) k) (find (occurring x) k) (find (flat_map chunks_of xs) k) (find (flat_map occurring xs) k) (apart (find (occurring x) k) refl)
    ∙ sym (ap (λ z. or_else z (find (flat_map occurring (x ∷ xs)) k)) (find-append (chunks_of x) (flat_map chunks_of xs) k)
    ∙ ap (λ z. or_else (or_else (find (chunks_of x) k) (find (flat_map chunks_of xs) k)) z) (find-append (occurring x) (flat_map occurring xs) k))
  where
    apart : (o : Value) → find (occurring x) k ≡ o → (find (occurring x) k ≡ None) ⊎ (find (flat_map chunks_of xs) k ≡ None)
    apart None p = inl p
    apart (Some v) p = inr (find_none (flat_map chunks_of xs) k (λ e i q.
        let t = within_in (λ (w : Word). (occurrence_key w x.label, [])) (k, v) (own x.kind) (find_some (occurring x) k v p) in
        let s = ap (λ (z : Entry). z.0) t.2 in
        let u = chunk_head xs e i in
        heads k u.0 _ 1 2 (sym q ∙ u.1) s (omega arith)))

-- ---- occurrences

-- a node that holds a word is in the list of the word
pub holder_listed : (w : Word) (d : Labelled) (f : Trees Labelled) → Within d (preorder f) → Within w (own d.kind) → Within d.label (list_of w (worded f))
holder_listed w d f i h = subst (Within d.label) (sym (listed_is w f))
    (flat_within (own_label w) d d.label (preorder f) i (own_of (list_any (bytes_eq w) (own d.kind)) d.label d.label (any_at (bytes_eq w) w (own d.kind) h (same_self w)) refl))

-- a listed label is that of a node that holds the word
pub listed_holder : (w : Word) (l : Label) (f : Trees Labelled) → Within l (list_of w (worded f)) → (d : Labelled) × Within d (preorder f) × Within w (own d.kind) × (l ≡ d.label)
listed_holder w l f h =
    let t = within_flat (own_label w) l (preorder f) (subst (Within l) (listed_is w f) h) in
    let c = own_cases (list_any (bytes_eq w) (own (t.0).kind)) (t.0).label l t.2 in
    let a = any_found (bytes_eq w) (own (t.0).kind) c.0 in
    (t.0, t.1, subst (λ (z : Word). Within z (own (t.0).kind)) (sym (same w a.0 a.2)) a.1, c.1)

pub occurrences_are : (f : Trees Labelled) (k : Key) → find (occurrences (worded f)) k ≡ find (flat_map occurring (preorder f)) k
occurrences_are f k = same_find (occurrences (worded f)) (flat_map occurring (preorder f)) k there back empty
  where
    there : (e : Entry) → Within e (occurrences (worded f)) → Within e (flat_map occurring (preorder f))
    there e h =
        let t = within_flat (occurrences_of (worded f)) e (words (worded f)) h in
        let u = within_in (λ (l : Label). (occurrence_key t.0 l, [])) e (list_of t.0 (worded f)) t.2 in
        let v = listed_holder t.0 u.0 f u.1 in
        flat_within occurring v.0 e (preorder f) v.1
        (subst (λ (z : Entry). Within z (occurring v.0)) (sym (u.2 ∙ ap (λ (l : Label). (occurrence_key t.0 l, [])) v.3))
        (in_within (λ (w : Word). (occurrence_key w (v.0).label, [])) t.0 (own (v.0).kind) v.2))

    back : (e : Entry) → Within e (flat_map occurring (preorder f)) → Within e (occurrences (worded f))
    back e h =
        let t = within_flat occurring e (preorder f) h in
        let u = within_in (λ (w : Word). (occurrence_key w (t.0).label, [])) e (own (t.0).kind) t.2 in
        let l = holder_listed u.0 t.0 f t.1 u.1 in
        subst (λ (z : Entry). Within z (occurrences (worded f))) (sym u.2)
        (flat_within (occurrences_of (worded f)) u.0 (occurrence_key u.0 (t.0).label, []) (words (worded f)) (listed_word u.0 (t.0).label f l)
        (in_within (λ (l : Label). (occurrence_key u.0 l, [])) (t.0).label (list_of u.0 (worded f)) l))

    empty : (e : Entry) → Within e (occurrences (worded f)) → e.1 ≡ []
    empty e h =
        let t = within_flat (occurrences_of (worded f)) e (words (worded f)) h in
        let u = within_in (λ (l : Label). (occurrence_key t.0 l, [])) e (list_of t.0 (worded f)) t.2 in
        ap (λ (z : Entry). z.1) u.2

-- ---- counts

count_keys_any : (w : Word) (ws : List Word) → list_any (bytes_eq (count_key w)) (map count_key ws) ≡ list_any (bytes_eq w) ws
count_keys_any w [] = refl
count_keys_any w (v ∷ ws) = ap (λ z. bytes_eq w v || z) (count_keys_any w ws)

pub in_count_keys : (k : Key) (ws : List Word) → list_any (bytes_eq k) (map count_key ws) ≡ true → (w : Word) × Within w ws × (k ≡ count_key w)
in_count_keys k ws h =
    let a = any_found (bytes_eq k) (map count_key ws) h in
    let u = within_in count_key a.0 ws a.1 in (u.0, u.1, same k a.0 a.2 ∙ u.2)

pub tally_is : (w : Word) (xs : List Labelled) → tally xs (count_key w) ≡ length (flat_map (own_label w) xs)
tally_is w [] = refl
tally_is w (x ∷ xs) =
    ap (λ (b : Bool). (if b then 1 else 0) + tally xs (count_key w)) (count_keys_any w (own x.kind))
    ∙ by (list_any (bytes_eq w) (own x.kind)) (tally_is w xs)
  where
    by : (b : Bool) → tally xs (count_key w) ≡ length (flat_map (own_label w) xs) → (if b then 1 else 0) + tally xs (count_key w) ≡ length (cond b (x.label ∷ []) [] ++ flat_map (own_label w) xs)
    by true h = omega (arith, h)
    by false h = omega (arith, h)

pub tally_number : (f : Trees Labelled) (w : Word) → tally (preorder f) (count_key w) ≡ length (list_of w (worded f))
tally_number f w = tally_is w (preorder f) ∙ ap length (sym (listed_is w f))

pub record Counted (k : Key) (xs : List Labelled) : Type 0 where
  pub who : Labelled
  pub stands : Within who xs
  pub word : Word
  pub holds : Within word (own who.kind)
  pub key : k ≡ count_key word

pub tally_some : (k : Key) (xs : List Labelled) (n : ℕ) → tally xs k ≡ suc n → Counted k xs
tally_some k [] n h = absurd cc
tally_some k (x ∷ xs) n h = by (is_counted x k) refl h (tally_some k xs n)
  where
    by : (b : Bool) → is_counted x k ≡ b → (if b then 1 else 0) + tally xs k ≡ suc n → (tally xs k ≡ suc n → Counted k xs) → Counted k (x ∷ xs)
    by true e h f = let t = in_count_keys k (own x.kind) e in record { who = x; stands = inl refl; word = t.0; holds = t.1; key = t.2 }
    by false e h f = let g : tally xs k ≡ suc n = omega (arith, h) in let t = f g in record { who = t.who; stands = inr t.stands; word = t.word; holds = t.holds; key = t.key }

pub within_some : {X : Type 0} (x : X) (xs : List X) → Within x xs → 0 < length xs
within_some x [] h = absurd h
within_some x (y ∷ xs) h = omega arith

-- each of the words has a node
pub word_listed : (w : Word) (f : Trees Labelled) → Within w (words (worded f)) → 0 < length (list_of w (worded f))
word_listed w f h = by (list_of w (worded f)) (sym (word_is_held w (worded f)) ∙ any_at (bytes_eq w) w (words (worded f)) h (same_self w))
  where
    by : (list : List Label) → is_listed list ≡ true → 0 < length list
    by [] e = absurd cc
    by (l ∷ ls) e = omega arith

counted_some : (n : ℕ) → 0 < n → counted_as n ≡ Some (big_bytes 8 n)
counted_some n h = ap (λ (b : Bool). if b then Some (big_bytes 8 n) else None) (is_some n h)
  where
    is_some : (n : ℕ) → 0 < n → nat_lt 0 n ≡ true
    is_some n h = grind arith

pub counts_are : (f : Trees Labelled) (k : Key) → find (counts (worded f)) k ≡ counted_as (tally (preorder f) k)
counts_are f k = by (find (counts (worded f)) k) refl (tally (preorder f) k) refl
  where
    by : (o : Value) → find (counts (worded f)) k ≡ o → (n : ℕ) → tally (preorder f) k ≡ n → o ≡ counted_as n
    by None p zero q = refl
    by None p (suc n) q =
        let t = tally_some k (preorder f) n q in
        let l = holder_listed t.word t.who f t.stands t.holds in
        absurd (none_found (counts (worded f)) k p (count_of (worded f) t.word) (in_within (count_of (worded f)) t.word (words (worded f)) (listed_word t.word t.who.label f l)) (sym t.key))
    by (Some v) p n q =
        let u = within_in (count_of (worded f)) (k, v) (words (worded f)) (find_some (counts (worded f)) k v p) in
        let s : k ≡ count_key u.0 = ap (λ (z : Entry). z.0) u.2 in
        let r : v ≡ big_bytes 8 (length (list_of u.0 (worded f))) = ap (λ (z : Entry). z.1) u.2 in
        let m : n ≡ length (list_of u.0 (worded f)) = sym q ∙ ap (tally (preorder f)) s ∙ tally_number f u.0 in
        let h = word_listed u.0 f u.1 in
        ap (λ (z : List ℕ). Some z) (r ∙ ap (big_bytes 8) (sym m)) ∙ sym (counted_some n (subst (λ z. 0 < z) (sym m) h))

-- ---- the image

rotated : (c o n : Value) → (n ≡ None) ⊎ ((c ≡ None) × (o ≡ None)) → or_else c (or_else o n) ≡ or_else n (or_else c o)
rotated None None None h = refl
rotated None None (Some w) h = refl
rotated None (Some u) None h = refl
rotated (Some v) o None h = refl
rotated None (Some u) (Some w) h = elim h [ inl q ↦ absurd cc | inr q ↦ let r = q.1 in absurd cc ]
rotated (Some v) o (Some w) h = elim h [ inl q ↦ absurd cc | inr q ↦ let r = q.0 in absurd cc ]

pub image_value : (f : Trees Labelled) (k : Key) → find (image f) k ≡ value_at (preorder f) k
image_value f k =
    find-append (chunks f) (occurrences (worded f) ++ counts (worded f)) k
    ∙ ap (λ z. or_else (find (chunks f) k) z) (find-append (occurrences (worded f)) (counts (worded f)) k)
    ∙ rotated (find (chunks f) k) (find (occurrences (worded f)) k) (find (counts (worded f)) k) (apart (find (counts (worded f)) k) refl)
    ∙ ap (λ z. or_else z (or_else (find (chunks f) k) (find (occurrences (worded f)) k))) (counts_are f k)
    ∙ ap (λ z. or_else (counted_as (tally (preorder f) k)) (or_else (find (chunks f) k) z)) (occurrences_are f k)
    ∙ ap (λ z. or_else (counted_as (tally (preorder f) k)) z) (sym (owned_find (preorder f) k))
  where
    apart : (o : Value) → find (counts (worded f)) k ≡ o → (find (counts (worded f)) k ≡ None) ⊎ ((find (chunks f) k ≡ None) × (find (occurrences (worded f)) k ≡ None))
    apart None p = inl p
    apart (Some v) p =
        let t = counts_headed (worded f) (k, v) (find_some (counts (worded f)) k v p) in
        inr (
          find_none (chunks f) k (λ e i q. let u = chunks_headed f e i in heads k u.0 t.0 1 3 (sym q ∙ u.1) t.1 (omega arith)),
          find_none (occurrences (worded f)) k (λ e i q. let u = occurrences_headed (worded f) e i in heads k u.0 t.0 2 3 (sym q ∙ u.1) t.1 (omega arith)),
        )
