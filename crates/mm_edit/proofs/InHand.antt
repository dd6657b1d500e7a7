-- What is in hand at an edit, over any map and over the image of a forest.
use Rattle.std.proofs.Common.{inl, inr, IsTrue, ◌≡◌, ◌≤◌, ◌<◌, ◌^◌, refl, ap, sym, ◌∙◌, subst, ℕ, ℤ, suc, ◌+◌, ◌-◌, Bool, true, false, List, [], ◌∷◌, ◌++◌, arith, length, length-append, map}
use Rattle.std.specs.Prelude.{◌⊎◌, Option, Some, None, Result, Ok, Err, IfOk, OnOk, min, flat_map, if◌then◌else◌, nat_lt, not, option_map, ◌==◌}
use Rattle.std.proofs.lemmas.Bool.Decides.{nat_tests}
use Rattle.byteorder.specs.Endian.{big_bytes, big_number}
use Rattle.mm_host.specs.declared.damage.Damage.TheVariants as damage
use Rattle.mm_host.specs.declared.damage.Fault.{Fault}
use Rattle.mm_host.specs.declared.damage.Fault.TheVariants as fault
use Rattle.mm_tree.specs.declared.refusal.Refusal.{Refusal}
use Rattle.mm_tree.specs.declared.refusal.Refusal.TheVariants.{Full}
use Rattle.mm_image.specs.Subtrees as subtrees
use Rattle.mm_list.specs.Facts.{flat_map_mapped}
use Rattle.mm_label.specs.Fronts.{Ordered, Within}
use Rattle.mm_label.specs.Facts.Members.{within_flat, within_in}
use Rattle.mm_keeper.specs.Entries.{Entry, Entries, IsSorted, Rises, below, lookup, weight_of}
use Rattle.mm_tree.specs.Forests.{and_then, is_well_formed}
use Rattle.mm_tree.specs.Numbering.{Labelled}
use Rattle.mm_tree.specs.Search.{list_of, worded}
use Rattle.mm_tree.specs.Trees.{Trees, none, preorder}
use Rattle.mm_tree.specs.Untouched.{OneRun}
use Rattle.mm_image.specs.Content.{count_in}
use Rattle.mm_image.specs.Image.{chunks, count_of, counts, entries_of, image, occurrences, occurrences_of, words}
use Rattle.mm_image.specs.Keys.{count_key, occurrence_key}
use Rattle.mm_image.specs.Laws.{CountsAreLengths, ImagesRise, KeysAreApart}
use Rattle.mm_image.specs.Facts.LabelOrder.{Ancestry, ByteOrder}
use Rattle.mm_image.specs.Facts.Members.{count_is, listed_word}
use Rattle.mm_image.specs.Facts.Members as members
use Rattle.mm_image.specs.Facts.Rising.{Headed, occurrences_headed, words_rise}
use Rattle.mm_image.specs.Facts.Words.{Above}
use Rattle.mm_edit.specs.Difference.{Key, IsDifference, changed, gone, holds, keys, without_all}
use Rattle.mm_edit.specs.declared.changing.WordChange.{WordChange}
use Rattle.mm_edit.specs.Inside.Changes.{Becomes, change, changes, number_of, words_of}
use Rattle.mm_edit.specs.Inside.Counting.{AreTold, BlamesCounts, IsUndamaged, count_entry, counts_at, counts_held, counts_left, held, number_after, number_held, number_in, or_zero}
use Rattle.mm_edit.specs.Inside.Finding.{find}
use Rattle.mm_edit.specs.Plans.{HaveRoom}
use Rattle.mm_edit.proofs.Editing.{Leads, counts_follow, counts_within, part_of, swap_leads}
use Rattle.mm_edit.proofs.Lookups.{Value, lookup_is}
use Rattle.mm_edit.proofs.Filters.{filter_passes}
use Rattle.mm_edit.proofs.Rooming.{KeepLengths, difference_has_room, filter_light, light_room, light_without}
use Rattle.mm_edit.proofs.Numbers.{blames_more}
use Rattle.mm_edit.proofs.Parts.{below_count, counts_of, counts_rise, counts_same, entries_low, rises_joined}
use Rattle.mm_edit.proofs.Values.{find_some, none_found}

-- ---- the counts in hand, word by word

abbrev numbers_after : Entries → Trees Labelled → Trees Labelled → List ℕ → ℕ
numbers_after m taken given w = number_after (held m w) (change taken given w)

pub held_at_words : (m : Entries) (taken given : Trees Labelled) → counts_held m (changes taken given) ≡ counts_at (held m) (words_of taken given)
held_at_words m taken given = flat_map_mapped (λ (t : WordChange). count_entry t.word (held m t.word)) (change taken given) (words_of taken given)

pub left_at_words : (m : Entries) (taken given : Trees Labelled) → counts_left m (changes taken given) ≡ counts_at (numbers_after m taken given) (words_of taken given)
left_at_words m taken given = flat_map_mapped (λ (t : WordChange). count_entry t.word (number_after (held m t.word) t)) (change taken given) (words_of taken given)

-- entries of nodes and counts behind them rise
part_rises : (own : Entries) (number : List ℕ → ℕ) (ws : List (List ℕ)) → Rises own → ((e : Entry) → Within e own → Headed 1 e ⊎ Headed 2 e) → Ordered Above ws → Rises (own ++ counts_at number ws)
part_rises own number ws r low o =
    rises_joined own (counts_at number ws) r (counts_rise number ws o)
    (λ e d p q. let t = counts_of number ws d q in subst (λ (z : Key). below e.0 z ≡ true) (sym t.2) (below_count e t.0 (low e p)))

pub before_rises : (m : Entries) (taken given : Trees Labelled) → IsSorted (entries_of taken) → IsSorted (entries_of taken ++ counts_held m (changes taken given))
before_rises m taken given s = record {
  rises = subst (λ z. Rises (entries_of taken ++ z)) (sym (held_at_words m taken given))
      (part_rises (entries_of taken) (held m) (words_of taken given) s.rises (entries_low taken) (words_rise (worded (and_then taken given))));
}

pub after_rises : (m : Entries) (taken given : Trees Labelled) → IsSorted (entries_of given) → IsSorted (entries_of given ++ counts_left m (changes taken given))
after_rises m taken given s = record {
  rises = subst (λ z. Rises (entries_of given ++ z)) (sym (left_at_words m taken given))
      (part_rises (entries_of given) (numbers_after m taken given) (words_of taken given) s.rises (entries_low given) (words_rise (worded (and_then taken given))));
}

-- ---- over an image

longer : {X Y : Type 0} (f : X → List Y) (x : X) (xs : List X) → Within x xs → length (f x) ≤ length (flat_map f xs)
longer f x [] h = absurd h
longer f x (a ∷ xs) h = elim h [
  | inl q ↦ subst (λ z. length (f z) ≤ length (f a ++ flat_map f xs)) (sym q) (omega (arith, length-append (f a) (flat_map f xs)))
  | inr q ↦ let t = longer f x xs q in omega (arith, length-append (f a) (flat_map f xs), t)
]

weight_joined : (a b : Entries) → weight_of (a ++ b) ≡ weight_of a + weight_of b
weight_joined [] b = omega arith
weight_joined (e ∷ a) b = let t = weight_joined a b in omega (arith, t)

light : (es : Entries) → ((e : Entry) → Within e es → 0 < length e.0) → length es ≤ weight_of es
light [] h = omega arith
light (e ∷ es) h = let t = light es (λ d i. h d (inr i)) in let k = h e (inl refl) in omega (arith, t, k)

mapped : {X Y : Type 0} (f : X → Y) (xs : List X) → length (map f xs) ≡ length xs
mapped f [] = refl
mapped f (x ∷ xs) = ap suc (mapped f xs)

number_light : (f : Trees Labelled) (w : List ℕ) → number_of f w ≤ weight_of (image f)
number_light f w = by (list_of w (worded f)) refl
  where
    low : length (occurrences (worded f)) ≤ weight_of (occurrences (worded f))
    low = light (occurrences (worded f)) (λ e i. let t = occurrences_headed (worded f) e i in let k : length e.0 ≡ suc (length t.0) = ap length t.1 in omega arith)

    by : (list : List (List ℤ)) → list_of w (worded f) ≡ list → length list ≤ weight_of (image f)
    by [] e = omega arith
    by (l ∷ ls) e =
        let i : Within l (list_of w (worded f)) = subst (Within l) (sym e) (inl refl) in
        let t = longer (occurrences_of (worded f)) w (words (worded f)) (listed_word w l f i) in
        let n : length (occurrences_of (worded f) w) ≡ length (list_of w (worded f)) = mapped {Y = Entry} (λ (k : List ℤ). (occurrence_key w k, [])) (list_of w (worded f)) in
        let m : length (list_of w (worded f)) ≡ length (l ∷ ls) = ap length e in
        omega (arith, t, n, m, low, weight_joined (chunks f) (occurrences (worded f) ++ counts (worded f)), weight_joined (occurrences (worded f)) (counts (worded f)))

no_nodes : (f : Trees Labelled) (w : List ℕ) → find (image f) (count_key w) ≡ None → 0 ≡ number_of f w
no_nodes f w h = by (list_of w (worded f)) refl
  where
    by : (list : List (List ℤ)) → list_of w (worded f) ≡ list → 0 ≡ length list
    by [] e = refl
    by (l ∷ ls) e = absurd (none_found (image f) (count_key w) h (count_of (worded f) w) (members.count_in w l f (subst (Within l) (sym e) (inl refl))) refl)

pub image_number : CountsAreLengths → (f : Trees Labelled) (w : List ℕ) → IsSorted (image f) → weight_of (image f) < 2 ^ 64 → number_held (image f) w ≡ Some (number_of f w)
image_number law f w s few = ap number_in (lookup_is (count_key w) (image f) s.rises) ∙ by (find (image f) (count_key w)) refl
  where
    by : (o : Value) → find (image f) (count_key w) ≡ o → number_in o ≡ Some (number_of f w)
    by None e = ap Some (no_nodes f w e)
    by (Some v) e =
        let t = count_is w (count_key w, v) f (find_some (image f) (count_key w) v e) refl in
        ap (λ (z : Entry). count_in z.1) t ∙ law (worded f) w (omega (arith, number_light f w, few))

pub unblamed : CountsAreLengths → (f : Trees Labelled) (ts : List WordChange) (fault : Fault) → IsSorted (image f) → weight_of (image f) < 2 ^ 64 → BlamesCounts (image f) ts fault → IsUndamaged fault
unblamed law f ts fault s few b = blames_more _ (λ key. ⊥) fault (λ key x. let p : None ≡ Some (number_of f x.0.word) = sym x.3 ∙ image_number law f x.0.word s few in cc) b

pub image_held : CountsAreLengths → (f : Trees Labelled) (w : List ℕ) → IsSorted (image f) → weight_of (image f) < 2 ^ 64 → held (image f) w ≡ number_of f w
image_held law f w s few = ap or_zero (image_number law f w s few)

-- the counts before are those of the forest
pub held_parts : CountsAreLengths → (f taken given : Trees Labelled) → IsSorted (image f) → weight_of (image f) < 2 ^ 64 → counts_held (image f) (changes taken given) ≡ counts_at (number_of f) (words_of taken given)
held_parts law f taken given s few = held_at_words (image f) taken given ∙ counts_same (held (image f)) (number_of f) (words_of taken given) (λ w i. image_held law f w s few)

-- the counts afterwards are those of the forest afterwards, as far as eight bytes go
left_numbers : CountsAreLengths → (f g taken given : Trees Labelled) → OneRun (preorder f) (preorder g) (preorder taken) (preorder given) → IsSorted (image f) → weight_of (image f) < 2 ^ 64
    → (w : List ℕ) → numbers_after (image f) taken given w ≡ min (number_of g w) (2 ^ 64 - 1)
left_numbers law f g taken given run s few w =
    ap (λ n. min (n - number_of taken w + number_of given w) (2 ^ 64 - 1)) (image_held law f w s few)
    ∙ ap (λ n. min n (2 ^ 64 - 1)) (let a = counts_follow f g taken given run w in let b = counts_within f g taken given run w in omega (arith, a, b))

pub left_parts : CountsAreLengths → (f g taken given : Trees Labelled) → OneRun (preorder f) (preorder g) (preorder taken) (preorder given) → IsSorted (image f) → weight_of (image f) < 2 ^ 64 → ((w : List ℕ) → number_of g w < 2 ^ 64)
    → counts_left (image f) (changes taken given) ≡ counts_at (number_of g) (words_of taken given)
left_parts law f g taken given run s few small =
    left_at_words (image f) taken given ∙ counts_same (numbers_after (image f) taken given) (number_of g) (words_of taken given)
    (λ w i. left_numbers law f g taken given run s few w ∙ least (number_of g w) (small w))
  where
    least : (n : ℕ) → n < 2 ^ 64 → min n (2 ^ 64 - 1) ≡ n
    least n l = grind arith

-- counts that fit their eight bytes: of a map that does, and after a deletion
pub small_by_weight : (g : Trees Labelled) → weight_of (image g) < 2 ^ 64 → (w : List ℕ) → number_of g w < 2 ^ 64
small_by_weight g light w = let t = number_light g w in omega (arith, t, light)

pub small_by_deletion : (f g taken : Trees Labelled) → OneRun (preorder f) (preorder g) (preorder taken) [] → weight_of (image f) < 2 ^ 64 → (w : List ℕ) → number_of g w < 2 ^ 64
small_by_deletion f g taken run light w = let t = number_light f w in let u = counts_follow f g taken none run w in let v : number_of none w ≡ 0 = refl in omega (arith, t, u, v, light)

-- a count weighs the same whatever its number
count_weighs : (w : List ℕ) (m n : ℕ) → nat_lt 0 m ≡ nat_lt 0 n → weight_of (count_entry w m) ≡ weight_of (count_entry w n)
count_weighs w m n e = by (nat_lt 0 m) refl (nat_lt 0 n) refl e
  where
    by : (b : Bool) → nat_lt 0 m ≡ b → (c : Bool) → nat_lt 0 n ≡ c → b ≡ c → weight_of (if b then (count_key w, big_bytes 8 m) ∷ [] else []) ≡ weight_of (if c then (count_key w, big_bytes 8 n) ∷ [] else [])
    by true p true q h = refl
    by true p false q h = absurd cc
    by false p true q h = absurd cc
    by false p false q h = refl

counts_weigh : (number other : List ℕ → ℕ) (ws : List (List ℕ)) → ((w : List ℕ) → nat_lt 0 (number w) ≡ nat_lt 0 (other w)) → weight_of (counts_at number ws) ≡ weight_of (counts_at other ws)
counts_weigh number other [] h = refl
counts_weigh number other (w ∷ ws) h =
    weight_joined (count_entry w (number w)) (counts_at number ws)
    ∙ (let a = count_weighs w (number w) (other w) (h w) in let b = counts_weigh number other ws h in omega (arith, a, b))
    ∙ sym (weight_joined (count_entry w (other w)) (counts_at other ws))

-- and so what is in hand afterwards weighs what the part weighs
pub left_weighs : CountsAreLengths → (f g taken given : Trees Labelled) → OneRun (preorder f) (preorder g) (preorder taken) (preorder given) → IsSorted (image f) → weight_of (image f) < 2 ^ 64
    → weight_of (entries_of given ++ counts_left (image f) (changes taken given)) ≡ weight_of (part_of g (entries_of given) (words_of taken given))
left_weighs law f g taken given run s few =
    weight_joined (entries_of given) (counts_left (image f) (changes taken given))
    ∙ ap (λ n. weight_of (entries_of given) + n) (ap weight_of (left_at_words (image f) taken given) ∙ counts_weigh (numbers_after (image f) taken given) (number_of g) (words_of taken given)
    (λ w. ap (nat_lt 0) (left_numbers law f g taken given run s few w) ∙ some (number_of g w)))
    ∙ sym (weight_joined (entries_of given) (counts_at (number_of g) (words_of taken given)))
  where
    some : (n : ℕ) → nat_lt 0 (min n (2 ^ 64 - 1)) ≡ nat_lt 0 n
    some n = grind (arith, nat_tests)

-- the difference of what is in hand is that of the images
pub planned_difference : (f g taken given : Trees Labelled) (before after puts : Entries) (removes : List Key)
    → Leads (image f) (image g) (part_of f (entries_of taken) (words_of taken given)) (part_of g (entries_of given) (words_of taken given))
    → before ≡ part_of f (entries_of taken) (words_of taken given) → after ≡ part_of g (entries_of given) (words_of taken given)
    → (IsSorted after → removes ≡ keys (gone before after)) → (IsSorted before → puts ≡ changed before after)
    → IsDifference removes puts (image f) (image g)
planned_difference f g taken given before after puts removes a p q r t =
    let s : IsSorted before = record { rises = subst Rises (sym p) a.rises_before } in
    let u : IsSorted after = record { rises = subst Rises (sym q) a.rises_after } in
    record {
      removes_are = r u ∙ ap (λ z. keys (gone z after)) p ∙ ap (λ z. keys (gone (part_of f (entries_of taken) (words_of taken given)) z)) q ∙ sym (ap keys a.removes);
      puts_are = t s ∙ ap (λ z. changed z after) p ∙ ap (λ z. changed (part_of f (entries_of taken) (words_of taken given)) z) q ∙ sym a.puts;
    }

-- what the laws of keys, values and images tell
pub record Laws : Type 0 where
  pub lengths : CountsAreLengths
  pub apart : KeysAreApart
  pub rise : ImagesRise
  pub order : ByteOrder
  pub ancestry : Ancestry

-- a map that is the image of a well-formed forest, which an edit turns into another, and what is in hand of it
pub record Standing (m : Entries) (f g taken given : Trees Labelled) (before after : Entries) : Type 0 where
  pub formed : IsTrue (is_well_formed f)
  pub map_is : m ≡ image f
  pub light : weight_of m < 2 ^ 64
  pub becomes : Becomes f g taken given
  pub before_is : before ≡ entries_of taken ++ counts_held m (changes taken given)
  pub after_is : after ≡ entries_of given ++ counts_left m (changes taken given)

-- as two calls tell it, of which one read the nodes that come
pub stands : (m : Entries) (f g taken read given : Trees Labelled) (before after : Entries) (now : ℕ) → IsTrue (is_well_formed f) × (m ≡ image f) → now ≡ weight_of m → now < 2 ^ 64 → Becomes f g taken given → read ≡ given
    → before ≡ entries_of taken ++ counts_held m (changes taken read) → after ≡ entries_of read ++ counts_left m (changes taken read) → Standing m f g taken given before after
stands m f g taken read given before after now s n l becomes e b a = record {
  formed = s.0;
  map_is = s.1;
  light = subst (λ (k : ℕ). k < 2 ^ 64) n l;
  becomes = becomes;
  before_is = subst (λ (z : Trees Labelled). before ≡ entries_of taken ++ counts_held m (changes taken z)) e b;
  after_is = subst (λ (z : Trees Labelled). after ≡ entries_of z ++ counts_left m (changes taken z)) e a;
}

module _ (laws : Laws) {m : Entries} {f g taken given : Trees Labelled} {before after : Entries} (s : Standing m f g taken given before after) where
  few : weight_of (image f) < 2 ^ 64
  few = subst (λ (z : Entries). weight_of z < 2 ^ 64) s.map_is s.light

  leads : Leads (image f) (image g) (part_of f (entries_of taken) (words_of taken given)) (part_of g (entries_of given) (words_of taken given))
  leads = swap_leads laws.apart laws.rise laws.order laws.ancestry f g taken given s.formed s.becomes

  before_part : before ≡ part_of f (entries_of taken) (words_of taken given)
  before_part = s.before_is ∙ ap (λ z. entries_of taken ++ counts_held z (changes taken given)) s.map_is ∙ ap (λ z. entries_of taken ++ z) (held_parts laws.lengths f taken given (laws.rise f s.formed) few)

  after_hand : after ≡ entries_of given ++ counts_left (image f) (changes taken given)
  after_hand = s.after_is ∙ ap (λ z. entries_of given ++ counts_left z (changes taken given)) s.map_is

  pub swap_difference : ((w : List ℕ) → number_of g w < 2 ^ 64) → (puts : Entries) (removes : List Key)
      → (IsSorted after → removes ≡ keys (gone before after)) → (IsSorted before → puts ≡ changed before after) → IsDifference removes puts (image f) (image g)
  swap_difference small puts removes r p =
      planned_difference f g taken given before after puts removes leads before_part
      (after_hand ∙ ap (λ z. entries_of given ++ z) (left_parts laws.lengths f g taken given s.becomes.run (laws.rise f s.formed) few small)) r p

  -- what the map weighs afterwards
  pub swap_weighs : (weight_of before ≤ weight_of m) × (weight_of (image g) + weight_of before ≡ weight_of m + weight_of after)
  swap_weighs =
      let b = ap weight_of before_part in
      let a = ap weight_of after_hand ∙ left_weighs laws.lengths f g taken given s.becomes.run (laws.rise f s.formed) few in
      let n = ap weight_of s.map_is in
      let l = leads.light in
      let w = leads.weight in
      (omega (arith, b, n, l), omega (arith, b, a, n, w))

-- ---- room, over any map

same_at : {A B : Type 0} (f g : A → B) (xs : List A) → map f xs ≡ map g xs → (x : A) → Within x xs → f x ≡ g x
same_at f g [] e x w = absurd w
same_at f g (y ∷ ys) e x w = elim w [
  | inl q ↦ let p : f y ≡ g y = cc in ap f q ∙ p ∙ sym (ap g q)
  | inr q ↦ let p : map f ys ≡ map g ys = cc in same_at f g ys p x q
]

eight : (v : List ℕ) (n : ℕ) → count_in v ≡ Some n → length v ≡ 8
eight v n e = by (length v == 8) refl e
  where
    by : (b : Bool) → (length v == 8) ≡ b → (if b then Some (big_number 8 v) else None) ≡ Some n → length v ≡ 8
    by true p q = grind (arith, nat_tests)
    by false p q = absurd cc

held_length : (m : Entries) (w : List ℕ) (n : ℕ) → number_held m w ≡ Some n → 0 < n → option_map length (lookup m (count_key w)) ≡ Some 8
held_length m w n e l = by (lookup m (count_key w)) e
  where
    by : (o : Value) → number_in o ≡ Some n → option_map length o ≡ Some 8
    by None e = absurd (let p : 0 ≡ n = cc in omega (arith, p, l))
    by (Some v) e = ap Some (eight v n e)

one_count : (w : List ℕ) (n : ℕ) (e : Entry) → Within e (count_entry w n) → (e ≡ (count_key w, big_bytes 8 n)) × (0 < n)
one_count w n e h = by (nat_lt 0 n) refl h
  where
    by : (b : Bool) → nat_lt 0 n ≡ b → Within e (if b then (count_key w, big_bytes 8 n) ∷ [] else []) → (e ≡ (count_key w, big_bytes 8 n)) × (0 < n)
    by true p h = elim h [ inl q ↦ (q, grind (arith, nat_tests)) | inr q ↦ absurd q ]
    by false p h = absurd h

left_lengths : (m : Entries) (taken : Trees Labelled) → AreTold m (changes taken none) → KeepLengths m (counts_left m (changes taken none))
left_lengths m taken told e i =
    let t = within_flat (λ (t : WordChange). count_entry t.word (number_after (held m t.word) t)) e (changes taken none) i in
    let n = number_after (held m t.0.word) t.0 in
    let c = one_count t.0.word n e t.2 in
    let k = same_at (λ (t : WordChange). number_held m t.word) (λ t. Some (held m t.word)) (changes taken none) told t.0 t.1 in
    let w = within_in (change taken none) t.0 (words_of taken none) t.1 in
    let g : t.0.given ≡ 0 = ap (λ (z : WordChange). z.given) w.2 in
    let l : 0 < held m t.0.word = by (held m t.0.word) t.0.taken t.0.given g c.1 in
    ap (λ (z : Entry). option_map length (lookup m z.0)) c.0 ∙ held_length m t.0.word (held m t.0.word) k l ∙ sym (ap (λ (z : Entry). Some (length z.1)) c.0)
  where
    by : (h t g : ℕ) → g ≡ 0 → 0 < min (h - t + g) (2 ^ 64 - 1) → 0 < h
    by h t g e l = grind arith

pub deletion_room : (m : Entries) (taken : Trees Labelled) (before after puts : Entries) (removes : List Key) → IsSorted m → IsSorted (entries_of taken)
    → AreTold m (changes taken none) → before ≡ entries_of taken ++ counts_held m (changes taken none) → after ≡ counts_left m (changes taken none)
    → (IsSorted after → removes ≡ keys (gone before after)) → (IsSorted before → puts ≡ changed before after)
    → HaveRoom (without_all removes m) puts
deletion_room m taken before after puts removes sorted own told p q r t =
    let b : IsSorted before = subst IsSorted (sym p) (before_rises m taken none own) in
    let a : IsSorted after = subst IsSorted (sym q) (after_rises m taken none (record { rises = tt })) in
    let keep : KeepLengths m (changed before after) = λ e i. left_lengths m taken told e (subst (Within e) q (filter_passes (λ (e : Entry). not (holds before e)) after e i).0) in
    subst (λ z. HaveRoom (without_all z m) puts) (sym (r a)) (subst (λ z. HaveRoom (without_all (keys (gone before after)) m) z) (sym (t b)) (difference_has_room m before after sorted.rises b.rises a keep))

-- what the map and the puts weigh together leaves room
pub swap_room : (m : Entries) (taken given : Trees Labelled) (before after puts : Entries) (removes : List Key) → IsSorted (entries_of taken) → IsSorted (entries_of given)
    → before ≡ entries_of taken ++ counts_held m (changes taken given) → after ≡ entries_of given ++ counts_left m (changes taken given)
    → (IsSorted after → removes ≡ keys (gone before after)) → (IsSorted before → puts ≡ changed before after)
    → weight_of m + weight_of after ≤ 2 ^ 42 → HaveRoom (without_all removes m) puts
swap_room m taken given before after puts removes s u p q r t l =
    let b : IsSorted before = subst IsSorted (sym p) (before_rises m taken given s) in
    subst (λ z. HaveRoom (without_all removes m) z) (sym (t b))
    (light_room (changed before after) (without_all removes m)
    (let x = light_without removes m in let y = filter_light (λ (e : Entry). not (holds before e)) after in omega (arith, l, x, y)))

-- ---- what a plan is, where there is one

pub three_ok : {X E S T C : Type 0} {A B : X → Type 0} (Q : X → Type 0) (r : Result X E) → (S → IfOk r A) → (T → IfOk r B) → OnOk r C → ((x : X) → (S → A x) → (T → B x) → C → Q x) → IfOk r Q
three_ok Q (Ok x) a b c k = k x a b c
three_ok Q (Err e) a b c k = tt

-- the weight afterwards, by what it was and what is in hand
pub fits : (limit after b a now : ℕ) → after + b ≡ now + a → now + a ≤ limit + b → after ≤ limit
fits limit after b a now e l = omega (arith, e, l)

pub none_full : (limit after : ℕ) → after ≤ limit → ◌≡◌ {A = Option Refusal} (if nat_lt limit after then Some Full else None) None
none_full limit after l = ap (λ b. if b then Some Full else None) (below limit after l)
  where
    below : (m n : ℕ) → n ≤ m → nat_lt m n ≡ false
    below m n l = grind (arith, nat_tests)

pub same_test : (limit after b a now : ℕ) → after + b ≡ now + a → nat_lt (limit + b) (now + a) ≡ nat_lt limit after
same_test limit after b a now e = ap (nat_lt (limit + b)) (sym e) ∙ both limit after b
  where
    both : (m n k : ℕ) → nat_lt (m + k) (n + k) ≡ nat_lt m n
    both m n k = grind (arith, nat_tests)

pub undamaged : (f : Fault) → IsUndamaged f → subtrees.IsUndamaged f
undamaged (fault.Damaged (damage.Key key)) u = u
undamaged (fault.Damaged (damage.Cut place at needed held)) u = u
undamaged (fault.Damaged (damage.Digest at stored found)) u = u
undamaged (fault.Damaged (damage.Sort at stored due)) u = u
undamaged (fault.Damaged (damage.Size at stored least most)) u = u
undamaged (fault.Damaged (damage.Page page why stored due)) u = u
undamaged fault.DiskFault u = tt
undamaged fault.Spent u = tt
undamaged fault.Memory u = tt
