-- The chunks of a subtree in a map, and in the image of a forest.
use Rattle.std.proofs.Common.{inl, inr, ◌≡◌, ◌⊎◌, ℕ, ℤ, zero, suc, ◌+◌, ◌≤◌, Bool, true, false, cond, IsTrue, List, [], ◌∷◌, ◌++◌, filter, map, length, drop, refl, ap, ap₂, sym, subst, ◌∙◌, Option, Some, None, is_some, option_map, IfSome, Result, Ok, Err, IfOk, IfErr, MatchResult, append-nil, append_assoc, arith}
use Rattle.std.proofs.lemmas.List.{append_cancel_left}
use Rattle.std.specs.Prelude.{bytes_eq, flat_map}
use Rattle.std.specs.List.{range_with_len}
use Rattle.std.specs.Ordering.{is_lt}
use Rattle.std.proofs.lemmas.Cmp.{nat_list_cmp_total, tied_itself}
use Rattle.std.proofs.lemmas.Grind.{flat_map-append}
use Rattle.std.proofs.lemmas.Slice.Eq.{bytes_eq-Decides}
use Rattle.byteorder.specs.Endian.{big_bytes}
use Rattle.mm_label.specs.Bytes.{bytes_of, rank as rank_of, spell}
use Rattle.mm_label.specs.Label.{IsLabel}
use Rattle.mm_label.specs.Fronts.{Front, Within}
use Rattle.mm_label.specs.Facts.Fronts.{front_le, front_refl, le_antisym}
use Rattle.mm_label.specs.Facts.Members.{within_first, within_flat, within_joined, within_second}
use Rattle.mm_label.specs.Facts.Order.{splits}
use Rattle.mm_host.specs.declared.damage.Damage.{Damage}
use Rattle.mm_host.specs.declared.damage.Damage.TheVariants as damage
use Rattle.mm_host.specs.declared.damage.Fault.{Fault}
use Rattle.mm_host.specs.declared.damage.Fault.TheVariants as fault
use Rattle.mm_keeper.specs.Entries.{Entries, Entry, IsBelow, Rises, below, has, index_of, rank}
use Rattle.mm_keeper.specs.Keeping.{Seen}
use Rattle.mm_tree.specs.declared.node.Node.{Node}
use Rattle.mm_tree.specs.Edits.{found}
use Rattle.mm_tree.specs.Facts.Formed.{formed}
use Rattle.mm_tree.specs.Facts.Labels.{node_is_labelled}
use Rattle.mm_tree.specs.Facts.Nodes.{Stands}
use Rattle.mm_tree.specs.Facts.Runs.{IsSubtreeRun, subtree_run}
use Rattle.mm_tree.specs.Formed.{node_label}
use Rattle.mm_tree.specs.Rebuild.{rebuild}
use Rattle.mm_tree.specs.Validity.{piece_count}
use Rattle.mm_tree.specs.Forests.{is_well_formed}
use Rattle.mm_tree.specs.Numbering.{Labelled, node_of}
use Rattle.mm_tree.specs.Search.{worded}
use Rattle.mm_tree.specs.Trees.{Tree, Trees, none, one, preorder}
use Rattle.mm_image.specs.Facts.LabelOrder.{Ancestry, begins as spelled}
use Rattle.mm_tree.specs.Facts.Found.{found_stands, some_found, some_node}
use Rattle.mm_image.specs.Facts.Upto.{UpTo, below_upto, between}
use Rattle.mm_image.specs.Image.{chunks, chunks_of, counts, image, occurrences}
use Rattle.mm_image.specs.Content.{piece}
use Rattle.mm_image.specs.Keys.{chunk_key}
use Rattle.mm_image.specs.Laws.{ImagesRise}
use Rattle.mm_image.specs.Subtrees.{IsSubtree, IsUndamaged, NamesKey, at_or_below, begins, is_subtree, leading, run_of}
use Rattle.mm_image.specs.declared.gathering.Group.{Group}
use Rattle.mm_image.specs.Inside.Gathered.{as_group, gathered}
use Rattle.mm_image.specs.Inside.Running.{Gathers, NamesOdd, Reaches, StopsAt, TreeAt, left_at}
use Rattle.mm_image.proofs.Determined.{OneLabel, chunk_of, first_chunk, some_pieces}
use Rattle.mm_image.proofs.KeyFacts.{same_front}
use Rattle.mm_image.proofs.Groups.{nodes_gathered, same_groups, same_nodes, stored_groups}
use Rattle.mm_image.specs.Facts.Rising.{counts_headed, occurrences_headed}
use Rattle.mm_image.specs.Facts.Standing.{is_standing, stands, stands_in, stored_tree}
use Rattle.mm_image.proofs.Standing.{node_parts, rebuilt_tree}
use Rattle.mm_image.proofs.Walking.{begins_not, begins_of}

-- ---- entries that are sought by a test

none_pass : {X : Type 0} (p : X → Bool) (xs : List X) → ((x : X) → Within x xs → p x ≡ false) → filter p xs ≡ []
none_pass p [] h = refl
none_pass p (x ∷ xs) h = ap (λ (b : Bool). cond b (x ∷ filter p xs) (filter p xs)) (h x (inl refl)) ∙ none_pass p xs (λ y w. h y (inr w))

all_pass : {X : Type 0} (p : X → Bool) (xs : List X) → ((x : X) → Within x xs → p x ≡ true) → filter p xs ≡ xs
all_pass p [] h = refl
all_pass p (x ∷ xs) h = ap (λ (b : Bool). cond b (x ∷ filter p xs) (filter p xs)) (h x (inl refl)) ∙ ap (λ z. x ∷ z) (all_pass p xs (λ y w. h y (inr w)))

pass_joined : {X : Type 0} (p : X → Bool) (xs ys : List X) → filter p (xs ++ ys) ≡ filter p xs ++ filter p ys
pass_joined p [] ys = refl
pass_joined p (x ∷ xs) ys = by (p x) (pass_joined p xs ys)
  where
    by : (b : Bool) → filter p (xs ++ ys) ≡ filter p xs ++ filter p ys → cond b (x ∷ filter p (xs ++ ys)) (filter p (xs ++ ys)) ≡ cond b (x ∷ filter p xs) (filter p xs) ++ filter p ys
    by true i = ap (λ z. x ∷ z) i
    by false i = i

passed_within : {X : Type 0} (p : X → Bool) (x : X) (xs : List X) → Within x (filter p xs) → Within x xs
passed_within p x [] w = w
passed_within p x (y ∷ ys) w = by (p y) w (passed_within p x ys)
  where
    by : (b : Bool) → Within x (cond b (y ∷ filter p ys) (filter p ys)) → (Within x (filter p ys) → Within x ys) → Within x (y ∷ ys)
    by true w f = elim w [ inl h ↦ inl h | inr h ↦ inr (f h) ]
    by false w f = inr (f w)

-- ---- the run of a label in a sorted map

below_in : (k : List ℕ) (m : Entries) (e : Entry) → IsBelow k m → Within e m → below k e.0 ≡ true
below_in k [] e b w = absurd w
below_in k (d ∷ m) e b w = elim w [ inl h ↦ subst (λ (z : Entry). below k z.0 ≡ true) (sym h) b.0 | inr h ↦ below_in k m e b.1 h ]

not_itself : (k : List ℕ) → below k k ≡ false
not_itself k = ap is_lt (tied_itself nat_list_cmp_total k)

-- behind a key that begins so, the keys that do stand together
together : (front a : List ℕ) (m : Entries) → Rises m → IsBelow (1 ∷ (front ++ a)) m → leading front m ≡ filter (begins front) m
together front a [] r b = refl
together front a (e ∷ m) r b = by (begins front e) refl (together front a m r.1 b.1)
  where
    apart : begins front e ≡ false → (d : Entry) → Within d m → begins front d ≡ false
    apart h d w = begins_not front d (λ rest q.
        let u = below_upto (1 ∷ (front ++ a)) e.0 b.0 in
        let v = below_upto e.0 d.0 (below_in e.0 m d r.0 w) in
        let t = between (1 ∷ front) a rest e.0 u (subst (UpTo e.0) q v) in
        let z : true ≡ false = sym (begins_of front t.0 e t.1) ∙ h in absurd cc)

    by : (t : Bool) → begins front e ≡ t → leading front m ≡ filter (begins front) m → cond t (e ∷ leading front m) [] ≡ cond t (e ∷ filter (begins front) m) (filter (begins front) m)
    by true h i = ap (λ (z : Entries). e ∷ z) i
    by false h i = sym (none_pass (begins front) m (apart h))

key_behind : (label : List ℤ) (n : ℕ) → chunk_key label n ≡ 1 ∷ (bytes_of label ++ (0 ∷ big_bytes 4 n))
key_behind label n = refl

abbrev first_of : Entries → Entry → Entry
first_of [] d = d
first_of (e ∷ m) d = e

pub run_is : (label : List ℤ) (m : Entries) (v : List ℕ) (rest : Entries) → Rises m → at_or_below label m ≡ (chunk_key label 0, v) ∷ rest → run_of label m ≡ (chunk_key label 0, v) ∷ rest
run_is label [] v rest r e = absurd cc
run_is label (d ∷ m) v rest r e = by (begins (bytes_of label) d) refl e (run_is label m v rest r.1)
  where
    here : d ≡ (chunk_key label 0, v) → filter (begins (bytes_of label)) m ≡ rest → begins (bytes_of label) d ≡ true → leading (bytes_of label) (drop (rank (d ∷ m) (chunk_key label 0)) (d ∷ m)) ≡ (chunk_key label 0, v) ∷ rest
    here h f b =
        let k : d.0 ≡ chunk_key label 0 = ap (λ (z : Entry). z.0) h in
        let n : below d.0 (chunk_key label 0) ≡ false = ap (λ (z : List ℕ). below z (chunk_key label 0)) k ∙ not_itself (chunk_key label 0) in
        ap (λ (t : Bool). leading (bytes_of label) (drop (cond t (suc (rank m (chunk_key label 0))) 0) (d ∷ m))) n
        ∙ ap (λ (t : Bool). cond t (d ∷ leading (bytes_of label) m) []) b
        ∙ ap (λ (z : Entries). d ∷ z) (together (bytes_of label) (0 ∷ big_bytes 4 0) m r.1 (subst (λ (z : List ℕ). IsBelow z m) k r.0) ∙ f)
        ∙ ap (λ (z : Entry). z ∷ rest) h

    later : filter (begins (bytes_of label)) m ≡ (chunk_key label 0, v) ∷ rest → (filter (begins (bytes_of label)) m ≡ (chunk_key label 0, v) ∷ rest → leading (bytes_of label) (drop (rank m (chunk_key label 0)) m) ≡ (chunk_key label 0, v) ∷ rest)
        → leading (bytes_of label) (drop (rank (d ∷ m) (chunk_key label 0)) (d ∷ m)) ≡ (chunk_key label 0, v) ∷ rest
    later f i =
        let w = passed_within (begins (bytes_of label)) (chunk_key label 0, v) m (subst (Within {A = Entry} (chunk_key label 0, v)) (sym f) (inl refl)) in
        let b = below_in d.0 m (chunk_key label 0, v) r.0 w in
        ap (λ (t : Bool). leading (bytes_of label) (drop (cond t (suc (rank m (chunk_key label 0))) 0) (d ∷ m))) b ∙ i f

    by : (t : Bool) → begins (bytes_of label) d ≡ t → cond t (d ∷ filter (begins (bytes_of label)) m) (filter (begins (bytes_of label)) m) ≡ (chunk_key label 0, v) ∷ rest
        → (filter (begins (bytes_of label)) m ≡ (chunk_key label 0, v) ∷ rest → leading (bytes_of label) (drop (rank m (chunk_key label 0)) m) ≡ (chunk_key label 0, v) ∷ rest)
        → leading (bytes_of label) (drop (rank (d ∷ m) (chunk_key label 0)) (d ∷ m)) ≡ (chunk_key label 0, v) ∷ rest
    by true h e i = here (ap (λ (z : Entries). first_of z d) e) (ap (drop 1) e) h
    by false h e i = later e i

-- ---- which keys a map has

pub has_of : (m : Entries) (e : Entry) → Rises m → Within e m → has m e.0 ≡ true
has_of [] e r w = absurd w
has_of (d ∷ m) e r w = elim w [
  | inl h ↦
      ap (λ (z : Entry). cond (below d.0 z.0) (has m z.0) (bytes_eq d.0 z.0)) h
      ∙ ap (λ (b : Bool). cond b (has m d.0) (bytes_eq d.0 d.0)) (not_itself d.0)
      ∙ (bytes_eq-Decides d.0 d.0).1 refl
  | inr h ↦ ap (λ (b : Bool). cond b (has m e.0) (bytes_eq d.0 e.0)) (below_in d.0 m e r.0 h) ∙ has_of m e r.1 h
]

pub has_within : (m : Entries) (k : List ℕ) → has m k ≡ true → (e : Entry) × Within e m × (e.0 ≡ k)
has_within [] k h = absurd cc
has_within (d ∷ m) k h = by (below d.0 k) h (has_within m k)
  where
    by : (b : Bool) → cond b (has m k) (bytes_eq d.0 k) ≡ true → (has m k ≡ true → (e : Entry) × Within e m × (e.0 ≡ k)) → (e : Entry) × Within e (d ∷ m) × (e.0 ≡ k)
    by true h f = let t = f h in (t.0, inr t.1, t.2)
    by false h f = (d, inl refl, (bytes_eq-Decides d.0 k).0 h)

-- ---- chunks under a label, and others

two_fronts : (a b u v : List ℕ) → a ++ u ≡ b ++ v → ((r : List ℕ) × (a ≡ b ++ r)) ⊎ ((c : ℕ) × (r : List ℕ) × (b ≡ a ++ c ∷ r) × (u ≡ c ∷ (r ++ v)))
two_fronts a [] u v e = inl (a, refl)
two_fronts [] (y ∷ b) u v e = inr (y, b, refl, e)
two_fronts (x ∷ a) (y ∷ b) u v e =
    let p : x ≡ y = cc in
    let q : a ++ u ≡ b ++ v = cc in
    elim (two_fronts a b u v q) [
      | inl h ↦ let s = h.1 in inl (h.0, cc)
      | inr h ↦ let s = h.2 in inr (h.0, h.1, cc, h.3)
    ]

-- no spelling begins with 00
no_zero_first : (cs : List ℤ) (c : ℕ) (r : List ℕ) → bytes_of cs ≡ c ∷ r → c ≡ 0 → ⊥
no_zero_first [] c r e z = absurd cc
no_zero_first (x ∷ cs) c r e z =
    let s = spelled (rank_of x) in
    let l = s.above in
    let t : spell x ++ bytes_of cs ≡ c ∷ r = e in
    let w : (s.head ∷ s.tail) ++ bytes_of cs ≡ c ∷ r = subst (λ (y : List ℕ). y ++ bytes_of cs ≡ c ∷ r) s.is t in
    let h : s.head ≡ c = cc in
    omega (arith, l, h, z)

under_label : Ancestry → (x p : List ℤ) (i : ℕ) (rest : List ℕ) → IsLabel x → IsLabel p → chunk_key p i ≡ 1 ∷ (bytes_of x ++ rest) → Front x p
under_label ancestry x p i rest g h e =
    let q : bytes_of p ++ (0 ∷ big_bytes 4 i) ≡ bytes_of x ++ rest = cc in
    elim (two_fronts (bytes_of p) (bytes_of x) (0 ∷ big_bytes 4 i) rest q) [
      | inl k ↦ (ancestry x p g h).0 k
      | inr k ↦
          let above : Front p x = (ancestry p x h g).0 (k.0 ∷ k.1, k.2) in
          let s = (splits p x).0 above in
          let b : bytes_of x ≡ bytes_of p ++ bytes_of s.0 = ap bytes_of s.1 ∙ flat_map-append spell p s.0 in
          let same : bytes_of s.0 ≡ k.0 ∷ k.1 = append_cancel_left (bytes_of p) (bytes_of s.0) (k.0 ∷ k.1) (sym b ∙ k.2) in
          let z : 0 ≡ k.0 = let t = k.3 in cc in
          absurd (no_zero_first s.0 k.0 k.1 same (sym z))
    ]

chunk_begins : Ancestry → (x : List ℤ) (d : Labelled) (e : Entry) → IsLabel x → IsLabel d.label → Within e (chunks_of d) → Front x d.label → begins (bytes_of x) e ≡ true
chunk_begins ancestry x d e g h w f =
    let o = chunk_of d e w in
    let p = (ancestry x d.label g h).1 f in
    begins_of (bytes_of x) (p.0 ++ (0 ∷ big_bytes 4 o.0)) e
    (o.1 ∙ ap (λ (z : List ℕ). 1 ∷ (z ++ (0 ∷ big_bytes 4 o.0))) p.1 ∙ ap (λ (z : List ℕ). 1 ∷ z) (append_assoc (bytes_of x) p.0 (0 ∷ big_bytes 4 o.0)))

chunk_not : Ancestry → (x : List ℤ) (d : Labelled) (e : Entry) → IsLabel x → IsLabel d.label → Within e (chunks_of d) → (Front x d.label → ⊥) → begins (bytes_of x) e ≡ false
chunk_not ancestry x d e g h w n =
    let o = chunk_of d e w in
    begins_not (bytes_of x) e (λ rest q. n (under_label ancestry x d.label o.0 rest g h (sym o.1 ∙ q)))

-- ---- the chunks of a subtree in the image of a forest

-- of a well-formed forest, the entries at or below a node are the chunks of its subtree
pub image_run : Ancestry → (f : Trees Labelled) (t : Tree Labelled) → IsTrue (is_well_formed f) → Stands t.0 t.1 f → at_or_below t.0.label (image f) ≡ chunks (one t)
image_run ancestry f t w s =
    let x = t.0.label in
    let r = subtree_run node_label [] t.0 t.1 f (formed f w) s in
    let g = node_is_labelled f w in
    let inner = t.0 ∷ preorder t.1 in
    let others = occurrences (worded f) ++ counts (worded f) in
    let at : (d : Labelled) → Within d (r.front ++ (inner ++ r.back)) → IsLabel d.label = λ d k. g d (subst (Within d) (sym r.is) k) in
    let label : IsLabel x = at t.0 (within_second t.0 r.front (inner ++ r.back) (inl refl)) in
    let split : chunks f ≡ flat_map chunks_of r.front ++ (flat_map chunks_of inner ++ flat_map chunks_of r.back) =
    ap (flat_map chunks_of) r.is ∙ flat_map-append chunks_of r.front (inner ++ r.back) ∙ ap (λ (z : Entries). flat_map chunks_of r.front ++ z) (flat_map-append chunks_of inner r.back) in
    let before : filter (begins (bytes_of x)) (flat_map chunks_of r.front) ≡ [] =
    none_pass (begins (bytes_of x)) (flat_map chunks_of r.front) (λ e k.
    let q = within_flat chunks_of e r.front k in
    chunk_not ancestry x q.0 e label (at q.0 (within_first q.0 r.front (inner ++ r.back) q.1)) q.2 (λ h. let l = r.before q.0 q.1 in l.1 (le_antisym (q.0).label x l.0 (front_le x (q.0).label h)))) in
    let within : filter (begins (bytes_of x)) (flat_map chunks_of inner) ≡ flat_map chunks_of inner =
    all_pass (begins (bytes_of x)) (flat_map chunks_of inner) (λ e k.
    let q = within_flat chunks_of e inner k in
    chunk_begins ancestry x q.0 e label (at q.0 (within_second q.0 r.front (inner ++ r.back) (within_first q.0 inner r.back q.1))) q.2 (below_node r q.0 q.1)) in
    let after : filter (begins (bytes_of x)) (flat_map chunks_of r.back) ≡ [] =
    none_pass (begins (bytes_of x)) (flat_map chunks_of r.back) (λ e k.
    let q = within_flat chunks_of e r.back k in
    chunk_not ancestry x q.0 e label (at q.0 (within_second q.0 r.front (inner ++ r.back) (within_second q.0 inner r.back q.1))) q.2 (r.after q.0 q.1).1) in
    let behind : filter (begins (bytes_of x)) others ≡ [] = none_pass (begins (bytes_of x)) others (λ e k. begins_not (bytes_of x) e (λ rest q. no_other f e k (bytes_of x ++ rest) q)) in
    let one_list : flat_map chunks_of inner ≡ chunks (one t) = ap (λ (z : List Labelled). flat_map chunks_of (t.0 ∷ z)) (sym (append-nil (preorder t.1))) in
    pass_joined (begins (bytes_of x)) (chunks f) others
    ∙ ap (λ (z : Entries). filter (begins (bytes_of x)) z ++ filter (begins (bytes_of x)) others) split
    ∙ ap (λ (z : Entries). z ++ filter (begins (bytes_of x)) others) (pass_joined (begins (bytes_of x)) (flat_map chunks_of r.front) (flat_map chunks_of inner ++ flat_map chunks_of r.back)
    ∙ ap (λ (z : Entries). z ++ filter (begins (bytes_of x)) (flat_map chunks_of inner ++ flat_map chunks_of r.back)) before
    ∙ pass_joined (begins (bytes_of x)) (flat_map chunks_of inner) (flat_map chunks_of r.back)
    ∙ ap (λ (z : Entries). filter (begins (bytes_of x)) (flat_map chunks_of inner) ++ z) after
    ∙ append-nil (filter (begins (bytes_of x)) (flat_map chunks_of inner))
    ∙ within)
    ∙ ap (λ (z : Entries). flat_map chunks_of inner ++ z) behind
    ∙ append-nil (flat_map chunks_of inner)
    ∙ one_list
  where
    below_node : IsSubtreeRun node_label t.0 t.1 f → (d : Labelled) → Within d (t.0 ∷ preorder t.1) → Front t.0.label d.label
    below_node r d k = elim k [ inl h ↦ subst (λ (z : Labelled). Front t.0.label z.label) (sym h) (front_refl t.0.label) | inr h ↦ r.below d h ]

    no_other : (f : Trees Labelled) (e : Entry) → Within e (occurrences (worded f) ++ counts (worded f)) → (z : List ℕ) → e.0 ≡ 1 ∷ z → ⊥
    no_other f e k z q = elim (within_joined e (occurrences (worded f)) (counts (worded f)) k) [
      | inl h ↦ let u = occurrences_headed (worded f) e h in let v = u.1 in let s : 1 ∷ z ≡ 2 ∷ u.0 = sym q ∙ v in absurd cc
      | inr h ↦ let u = counts_headed (worded f) e h in let v = u.1 in let s : 1 ∷ z ≡ 3 ∷ u.0 = sym q ∙ v in absurd cc
    ]

-- ---- the node with a label

-- the map holds the first chunk of a label exactly where a node has it
pub held_found : OneLabel → (x : List ℤ) (f : Trees Labelled) → IsLabel x → IsTrue (is_well_formed f) → has (image f) (chunk_key x 0) ≡ true → (t : Tree Labelled) × (found x f ≡ Some t)
held_found one_label x f g w h =
    let t = has_within (image f) (chunk_key x 0) h in
    elim (within_joined t.0 (chunks f) (occurrences (worded f) ++ counts (worded f)) t.1) [
      | inl k ↦
          let q = within_flat chunks_of t.0 (preorder f) k in
          let o = chunk_of q.0 t.0 q.2 in
          let keys : chunk_key x 0 ≡ chunk_key (q.0).label o.0 = sym t.2 ∙ o.1 in
          let bytes = same_front (bytes_of x) (bytes_of (q.0).label) (0 ∷ big_bytes 4 0) (0 ∷ big_bytes 4 o.0) (ap (drop 1) keys) refl in
          some_found x f (some_node x f q.0 q.1 (sym (one_label x (q.0).label g (node_is_labelled f w q.0 q.1) bytes.0)))
      | inr k ↦ elim (within_joined t.0 (occurrences (worded f)) (counts (worded f)) k) [
        | inl p ↦ let u = occurrences_headed (worded f) t.0 p in let v = u.1 in let s : 1 ∷ (bytes_of x ++ (0 ∷ big_bytes 4 0)) ≡ 2 ∷ u.0 = sym t.2 ∙ v in absurd cc
        | inr p ↦ let u = counts_headed (worded f) t.0 p in let v = u.1 in let s : 1 ∷ (bytes_of x ++ (0 ∷ big_bytes 4 0)) ≡ 3 ∷ u.0 = sym t.2 ∙ v in absurd cc
      ]
    ]

first_of_tree : (t : Tree Labelled) → Within {A = Entry} (chunk_key t.0.label 0, piece t.0.kind 0) (chunks (one t))
first_of_tree t = within_first (chunk_key t.0.label 0, piece t.0.kind 0) (chunks_of t.0) (flat_map chunks_of (preorder t.1 ++ [])) (first_chunk t.0)

pub found_held : (x : List ℤ) (f : Trees Labelled) (t : Tree Labelled) → Rises (image f) → found x f ≡ Some t → at_or_below t.0.label (image f) ≡ chunks (one t) → has (image f) (chunk_key x 0) ≡ true
found_held x f t r e a =
    let s = found_stands x f t e in
    let w = passed_within (begins (bytes_of t.0.label)) (chunk_key t.0.label 0, piece t.0.kind 0) (image f) (subst (Within {A = Entry} (chunk_key t.0.label 0, piece t.0.kind 0)) (sym a) (first_of_tree t)) in
    subst (λ (z : List ℤ). has (image f) (chunk_key z 0) ≡ true) s.1 (has_of (image f) (chunk_key t.0.label 0, piece t.0.kind 0) r w)

-- ---- the run of a tree, from its first chunk on

starts_at : (t : Tree Labelled) → (v : List ℕ) × (rest : Entries) × (chunks (one t) ≡ (chunk_key t.0.label 0, v) ∷ rest)
starts_at t = by (piece_count t.0.kind) (some_pieces t.0.kind)
  where
    by : (n : ℕ) → 1 ≤ n → (v : List ℕ) × (rest : Entries) × (map (λ i. (chunk_key t.0.label i, piece t.0.kind i)) (range_with_len 0 n) ++ flat_map chunks_of (preorder t.1 ++ []) ≡ (chunk_key t.0.label 0, v) ∷ rest)
    by zero h = absurd (omega arith)
    by (suc n) h = (piece t.0.kind 0, map (λ i. (chunk_key t.0.label i, piece t.0.kind i)) (range_with_len 1 n) ++ flat_map chunks_of (preorder t.1 ++ []), refl)

-- in a sorted map, the entries at or below a label that are the chunks of a tree are the run from its first chunk on
pub tree_run : (label : List ℤ) (m : Entries) (t : Tree Labelled) → Rises m → label ≡ t.0.label → at_or_below label m ≡ chunks (one t) → run_of label m ≡ chunks (one t)
tree_run label m t r s e =
    let q = starts_at t in
    let key : (chunk_key t.0.label 0, q.0) ∷ q.1 ≡ (chunk_key label 0, q.0) ∷ q.1 = ap (λ (z : List ℤ). (chunk_key z 0, q.0) ∷ q.1) (sym s) in
    run_is label m q.0 q.1 r (e ∙ q.2 ∙ key) ∙ sym (q.2 ∙ key)

-- ---- from what was read to what is told

pub not_odd : (label : List ℤ) (es : Entries) (f : Fault) → IsLabel label → NamesOdd es f → NamesKey label es f
not_odd label es (fault.Damaged (damage.Key key)) g h = λ t s. h (preorder (one t)) [] (stored_tree label t g (stands label t s.tree)) (sym s.chunks ∙ sym (append-nil es))
not_odd label es (fault.Damaged (damage.Cut place at needed held)) g h = h
not_odd label es (fault.Damaged (damage.Digest at stored found)) g h = h
not_odd label es (fault.Damaged (damage.Sort at stored due)) g h = h
not_odd label es (fault.Damaged (damage.Size at stored least most)) g h = h
not_odd label es (fault.Damaged (damage.Page page why stored due)) g h = h
not_odd label es fault.DiskFault g h = tt
not_odd label es fault.Spent g h = tt
not_odd label es fault.Memory g h = tt

pub run_names : (label : List ℤ) (m : Entries) (f : Fault) → Rises m → NamesKey label (run_of label m) f → NamesKey label (at_or_below label m) f
run_names label m (fault.Damaged (damage.Key key)) r h = λ t s. h t (record { tree = s.tree; chunks = tree_run label m t r (stands label t s.tree).same s.chunks })
run_names label m (fault.Damaged (damage.Cut place at needed held)) r h = h
run_names label m (fault.Damaged (damage.Digest at stored found)) r h = h
run_names label m (fault.Damaged (damage.Sort at stored due)) r h = h
run_names label m (fault.Damaged (damage.Size at stored least most)) r h = h
run_names label m (fault.Damaged (damage.Page page why stored due)) r h = h
run_names label m fault.DiskFault r h = tt
run_names label m fault.Spent r h = tt
run_names label m fault.Memory r h = tt

undamaged : (label : List ℤ) (es : Entries) (t : Tree Labelled) (f : Fault) → IsSubtree label t es → NamesKey label es f → IsUndamaged f
undamaged label es t (fault.Damaged (damage.Key key)) s h = h t s
undamaged label es t (fault.Damaged (damage.Cut place at needed held)) s h = h
undamaged label es t (fault.Damaged (damage.Digest at stored found)) s h = h
undamaged label es t (fault.Damaged (damage.Sort at stored due)) s h = h
undamaged label es t (fault.Damaged (damage.Size at stored least most)) s h = h
undamaged label es t (fault.Damaged (damage.Page page why stored due)) s h = h
undamaged label es t fault.DiskFault s h = tt
undamaged label es t fault.Spent s h = tt
undamaged label es t fault.Memory s h = tt

-- one tree has these chunks
one_tree_of : OneLabel → (label : List ℤ) (s t : Tree Labelled) (es : Entries) → IsLabel label → IsSubtree label s es → IsSubtree label t es → s ≡ t
one_tree_of one_label label s t es g h k =
    let p = stands label s h.tree in
    let q = stands label t k.tree in
    let c = stored_tree label s g p in
    let d = stored_tree label t g q in
    let groups = same_groups one_label (map as_group (preorder (one s))) (map as_group (preorder (one t))) (stored_groups (preorder (one s)) c) (stored_groups (preorder (one t)) d)
    (nodes_gathered (preorder (one s)) ∙ sym h.chunks ∙ k.chunks ∙ sym (nodes_gathered (preorder (one t)))) in
    let nodes = same_nodes (preorder (one s)) (preorder (one t)) c d groups in
    let trees : one s ≡ one t = sym (rebuilt_tree label s p) ∙ ap (rebuild node_label) nodes ∙ rebuilt_tree label t q in
    let parts = node_parts s.0 t.0 s.1 t.1 none none trees in
    λ i. (parts.0 i, parts.1 i)

-- ---- over the image of a forest

pub over_image : OneLabel → Ancestry → ImagesRise → (label : List ℤ) (f : Trees Labelled) (m : Entries) → IsLabel label → IsTrue (is_well_formed f) → m ≡ image f
    → (r : Result (Option Node) Fault) → IfOk r (λ o. is_some o ≡ has m (chunk_key label 0)) → IfOk r (λ o. IfSome o (λ n. IsSubtree label (node_of n) (run_of label m))) → IfErr r (NamesKey label (at_or_below label m))
    → (has m (chunk_key label 0) ≡ false → IfErr r IsUndamaged) → MatchResult r (λ o. option_map node_of o ≡ found label f) IsUndamaged
over_image one_label ancestry rise label f m g w e r some tree damaged held = by (has m (chunk_key label 0)) refl
  where
    rises : Rises m
    rises = subst Rises (sym e) (rise f w).rises

    -- a node has the label
    there : (t : Tree Labelled) → found label f ≡ Some t → IsSubtree label t (at_or_below label m)
    there t q =
        let s = found_stands label f t q in
        let a : at_or_below t.0.label (image f) ≡ chunks (one t) = image_run ancestry f t w s.0 in
        record {
          tree = subst (λ (x : List ℤ). is_subtree x t ≡ true) s.1 (is_standing t.0.label t (stands_in f t w s.0));
          chunks = ap₂ at_or_below (sym s.1) e ∙ a;
        }

    run : (t : Tree Labelled) → IsSubtree label t (at_or_below label m) → IsSubtree label t (run_of label m)
    run t s = record { tree = s.tree; chunks = tree_run label m t rises (stands label t s.tree).same s.chunks }

    told : (t : Tree Labelled) → found label f ≡ Some t → has m (chunk_key label 0) ≡ true → (r : Result (Option Node) Fault) → IfOk r (λ o. is_some o ≡ has m (chunk_key label 0)) → IfOk r (λ o. IfSome o (λ n. IsSubtree label (node_of n) (run_of label m)))
        → IfErr r (NamesKey label (at_or_below label m)) → MatchResult r (λ o. option_map node_of o ≡ found label f) IsUndamaged
    told t q h (Ok None) a b c = let z : false ≡ true = a ∙ h in absurd cc
    told t q h (Ok (Some s)) a b c = ap Some (one_tree_of one_label label (node_of s) t (run_of label m) g b (run t (there t q))) ∙ sym q
    told t q h (Err x) a b c = undamaged label (at_or_below label m) t x (there t q) c

    absent : has m (chunk_key label 0) ≡ false → (o : Option (Tree Labelled)) → found label f ≡ o → None ≡ o
    absent h None q = refl
    absent h (Some t) q =
        let s = found_stands label f t q in
        let z : has (image f) (chunk_key label 0) ≡ true = found_held label f t (subst Rises e rises) q (image_run ancestry f t w s.0) in
        let y : false ≡ true = sym h ∙ ap (λ (z : Entries). has z (chunk_key label 0)) e ∙ z in absurd cc

    none_told : has m (chunk_key label 0) ≡ false → (r : Result (Option Node) Fault) → IfOk r (λ o. is_some o ≡ has m (chunk_key label 0)) → IfErr r IsUndamaged → MatchResult r (λ o. option_map node_of o ≡ found label f) IsUndamaged
    none_told h (Ok None) a c = absent h (found label f) refl
    none_told h (Ok (Some s)) a c = let z : true ≡ false = a ∙ h in absurd cc
    none_told h (Err x) a c = c

    by : (b : Bool) → has m (chunk_key label 0) ≡ b → MatchResult r (λ o. option_map node_of o ≡ found label f) IsUndamaged
    by true h = let t = held_found one_label label f g w (sym (ap (λ (z : Entries). has z (chunk_key label 0)) e) ∙ h) in told t.0 t.1 h r some tree damaged
    by false h = none_told h r some (held h)

-- ---- a fault without damage, and where the first chunk stands

plain_names : (label : List ℤ) (es : Entries) (f : Fault) → ((d : Damage) → f ≡ fault.Damaged d → ⊥) → NamesKey label es f
plain_names label es (fault.Damaged d) n = absurd (n d refl)
plain_names label es fault.DiskFault n = tt
plain_names label es fault.Spent n = tt
plain_names label es fault.Memory n = tt

plain_undamaged : (f : Fault) → ((d : Damage) → f ≡ fault.Damaged d → ⊥) → IsUndamaged f
plain_undamaged (fault.Damaged d) n = n d refl
plain_undamaged fault.DiskFault n = tt
plain_undamaged fault.Spent n = tt
plain_undamaged fault.Memory n = tt

has_none : (m : Entries) (k : List ℕ) → None ≡ index_of m k → has m k ≡ false
has_none m k e = by (has m k) e
  where
    by : (b : Bool) → None ≡ cond b (Some (rank m k)) None → b ≡ false
    by true e = absurd cc
    by false e = refl

has_some_at : (m : Entries) (k : List ℕ) (i : ℕ) → Some i ≡ index_of m k → (has m k ≡ true) × (i ≡ rank m k)
has_some_at m k i e = by (has m k) e
  where
    by : (b : Bool) → Some i ≡ cond b (Some (rank m k)) None → (b ≡ true) × (i ≡ rank m k)
    by true e = (refl, cc)
    by false e = absurd cc

-- ---- from the first chunk on

module _ (label : List ℤ) (front : List ℕ) (m : Entries) (groups : List Group) (steps steps' i : ℕ) where
  pub first_stops : (f : Fault) → IsLabel label → front ≡ bytes_of label → StopsAt front m [] steps steps' i f → NamesKey label (left_at (bytes_of label) m (Some i)) f
  first_stops f g e s = not_odd label (left_at (bytes_of label) m (Some i)) f g (subst (λ (z : List ℕ). NamesOdd (left_at z m (Some i)) f) e s.odd)

  pub first_stops_cost : (f : Fault) → front ≡ bytes_of label → StopsAt front m [] steps steps' i f → steps' ≤ steps + length (left_at (bytes_of label) m (Some i))
  first_stops_cost f e s = subst (λ (z : List ℕ). steps' ≤ steps + length (left_at z m (Some i))) e s.cost

  pub first_cost : front ≡ bytes_of label → Gathers front m groups steps steps' i → steps' ≤ steps + length (left_at (bytes_of label) m (Some i))
  first_cost e s = subst (λ (z : List ℕ). steps' ≤ steps + length (left_at z m (Some i))) e s.cost

  first_run : front ≡ bytes_of label → Gathers front m groups steps steps' i → gathered groups ≡ left_at (bytes_of label) m (Some i)
  first_run e s = subst (λ (z : List ℕ). gathered groups ≡ left_at z m (Some i)) e s.run

  pub first_node : (t : Tree Labelled) → front ≡ bytes_of label → Gathers front m groups steps steps' i → TreeAt label (gathered groups) (Some t) → IsSubtree label t (left_at (bytes_of label) m (Some i))
  first_node t e s k = subst (λ (z : Entries). IsSubtree label t z) (first_run e s) k

  pub first_none : front ≡ bytes_of label → Gathers front m groups steps steps' i → TreeAt label (gathered groups) None → (t : Tree Labelled) → IsSubtree label t (left_at (bytes_of label) m (Some i)) → ⊥
  first_none e s k t h = k t (subst (λ (z : Entries). IsSubtree label t z) (sym (first_run e s)) h)

  pub first_plain : (f : Fault) → ((d : Damage) → f ≡ fault.Damaged d → ⊥) → NamesKey label (left_at (bytes_of label) m (Some i)) f
  first_plain f n = plain_names label (left_at (bytes_of label) m (Some i)) f n

-- ---- what was read in the end

module _ (label : List ℤ) (m : Entries) (steps steps' : ℕ) where
  pub reach_memory : steps' ≡ steps → Reaches label m steps steps' (Err fault.Memory)
  reach_memory e = record { some = tt; node = tt; damaged = tt; held = λ h. tt; cost = omega (arith, e) }

  pub reach_refused : (f : Fault) → ((d : Damage) → f ≡ fault.Damaged d → ⊥) → steps' ≡ steps + 1 → Reaches label m steps steps' (Err f)
  reach_refused f n e = record { some = tt; node = tt; damaged = plain_names label (at_or_below label m) f n; held = λ h. plain_undamaged f n; cost = omega (arith, e) }

  pub reach_none : None ≡ index_of m (chunk_key label 0) → steps' ≡ steps + 1 → Reaches label m steps steps' (Ok None)
  reach_none q e = record { some = sym (has_none m (chunk_key label 0) q); node = tt; damaged = tt; held = λ h. tt; cost = omega (arith, e) }

  pub reach_some : (i steps1 : ℕ) (n : Node) → Some i ≡ index_of m (chunk_key label 0) → steps1 ≡ steps + 1 → IsSubtree label (node_of n) (left_at (bytes_of label) m (Some i)) → steps' ≤ steps1 + length (left_at (bytes_of label) m (Some i)) → Reaches label m steps steps' (Ok (Some n))
  reach_some i steps1 n q e s l =
      let t = has_some_at m (chunk_key label 0) i q in
      let run : left_at (bytes_of label) m (Some i) ≡ run_of label m = ap (λ (k : ℕ). left_at (bytes_of label) m (Some k)) t.1 in
      let size : length (left_at (bytes_of label) m (Some i)) ≡ length (run_of label m) = ap length run in
      record { some = sym t.0; node = subst (λ (z : Entries). IsSubtree label (node_of n) z) run s; damaged = tt; held = λ h. tt; cost = omega (arith, l, e, size) }

  pub reach_stops : (i steps1 : ℕ) (f : Fault) → Rises m → Some i ≡ index_of m (chunk_key label 0) → steps1 ≡ steps + 1 → NamesKey label (left_at (bytes_of label) m (Some i)) f → steps' ≤ steps1 + length (left_at (bytes_of label) m (Some i)) → Reaches label m steps steps' (Err f)
  reach_stops i steps1 f r q e s l =
      let t = has_some_at m (chunk_key label 0) i q in
      let run : left_at (bytes_of label) m (Some i) ≡ run_of label m = ap (λ (k : ℕ). left_at (bytes_of label) m (Some k)) t.1 in
      let size : length (left_at (bytes_of label) m (Some i)) ≡ length (run_of label m) = ap length run in
      record {
        some = tt;
        node = tt;
        damaged = run_names label m f r (subst (λ (z : Entries). NamesKey label z f) run s);
        held = λ h. let z : true ≡ false = sym t.0 ∙ h in absurd cc;
        cost = omega (arith, l, e, size);
      }

-- the same by the spot at which the first chunk was found
pub reach_err : {S : Type 0} (label : List ℤ) (x y : Seen S) (spot : S) (o : Option S) (k : List ℕ) (steps steps1 steps' : ℕ) (f : Fault) → Rises x.now → y ≡ x → o ≡ Some spot → k ≡ chunk_key label 0 → option_map x.place o ≡ index_of x.now k → steps1 ≡ steps + 1
    → NamesKey label (left_at (bytes_of label) y.now (Some (y.place spot))) f → steps' ≤ steps1 + length (left_at (bytes_of label) y.now (Some (y.place spot))) → Reaches label x.now steps steps' (Err f)
reach_err {S} label x y spot o k steps steps1 steps' f r e q w found s n c =
    let i : Some (x.place spot) ≡ index_of x.now (chunk_key label 0) = sym (ap (option_map x.place) q) ∙ found ∙ ap (index_of x.now) w in
    reach_stops label x.now steps steps' (x.place spot) steps1 f r i s
    (subst (λ (z : Seen S). NamesKey label (left_at (bytes_of label) z.now (Some (z.place spot))) f) e n)
    (subst (λ (z : Seen S). steps' ≤ steps1 + length (left_at (bytes_of label) z.now (Some (z.place spot)))) e c)

pub reach_ok : {S : Type 0} (label : List ℤ) (x y : Seen S) (spot : S) (o : Option S) (k : List ℕ) (steps steps1 steps' : ℕ) (n : Node) → y ≡ x → o ≡ Some spot → k ≡ chunk_key label 0 → option_map x.place o ≡ index_of x.now k → steps1 ≡ steps + 1
    → IsSubtree label (node_of n) (left_at (bytes_of label) y.now (Some (y.place spot))) → steps' ≤ steps1 + length (left_at (bytes_of label) y.now (Some (y.place spot))) → Reaches label x.now steps steps' (Ok (Some n))
reach_ok {S} label x y spot o k steps steps1 steps' n e q w found s t c =
    let i : Some (x.place spot) ≡ index_of x.now (chunk_key label 0) = sym (ap (option_map x.place) q) ∙ found ∙ ap (index_of x.now) w in
    reach_some label x.now steps steps' (x.place spot) steps1 n i s
    (subst (λ (z : Seen S). IsSubtree label (node_of n) (left_at (bytes_of label) z.now (Some (z.place spot)))) e t)
    (subst (λ (z : Seen S). steps' ≤ steps1 + length (left_at (bytes_of label) z.now (Some (z.place spot)))) e c)
