-- The entries of a well-formed forest tell the forest.
use Rattle.std.proofs.Common.{inl, inr, ◌≡◌, ℕ, ℤ, zero, suc, ◌+◌, ◌<◌, ◌≤◌, true, IsTrue, List, [], ◌∷◌, ◌++◌, refl, ap, sym, subst, ◌∙◌, map, length, get_or, drop, arith}
use Rattle.std.specs.Prelude.{flat_map}
use Rattle.std.specs.List.{list_all, range_with_len}
use Rattle.std.proofs.lemmas.Bool.{and_parts}
use Rattle.std.proofs.lemmas.List.{append_assoc}
use Rattle.byteorder.specs.Endian.{big_bytes, big_number}
use Rattle.byteorder.specs.Numbers.{big_number-reads_back}
use Rattle.mm_label.specs.Bytes.{bytes_of}
use Rattle.mm_label.specs.Fronts.{Front, Lt, Ordered, Within}
use Rattle.mm_label.specs.Label.{IsLabel}
use Rattle.mm_label.specs.Facts.Members.{within_first, within_flat, within_joined}
use Rattle.mm_keeper.specs.Entries.{Entries, Entry}
use Rattle.mm_tree.specs.declared.plain.Attribute.{Attribute}
use Rattle.mm_tree.specs.declared.plain.Kind.{Kind}
use Rattle.mm_tree.specs.declared.plain.Kind.TheVariants.{Element, Words}
use Rattle.mm_tree.specs.Facts.Formed.{formed}
use Rattle.mm_tree.specs.Facts.Places.{node_apart, node_under}
use Rattle.mm_tree.specs.Formed.{Formed, node_label}
use Rattle.mm_tree.specs.Forests.{is_well_formed}
use Rattle.mm_tree.specs.Numbering.{Labelled}
use Rattle.mm_tree.specs.Search.{worded}
use Rattle.mm_tree.specs.Trees.{Trees, none, node, preorder}
use Rattle.mm_tree.specs.Validity.{content_size, is_node_name, is_valid_attribute, is_valid_kind, piece_count}
use Rattle.mm_image.specs.Content.{attribute_bytes, content, piece, sized}
use Rattle.mm_image.specs.Image.{chunks, chunks_of, counts, occurrences}
use Rattle.mm_image.specs.Inside.Cutting.{join}
use Rattle.mm_image.specs.Keys.{chunk_key}
use Rattle.mm_image.specs.Laws.{ImagesTellForests}
use Rattle.mm_image.specs.Facts.Pieces.{count_is, joined}
use Rattle.mm_image.proofs.ChunkFacts.{name_fits, valid_attributes, valid_name, valid_parts, value_fits}
use Rattle.mm_image.proofs.KeyFacts.{same_front}
use Rattle.mm_image.specs.Facts.Rising.{chunks_headed, counts_headed, Headed, nodes_of, occurrences_headed, within_range}

-- two lists that are split by what their first parts have and their ends haven't
same_runs : {X : Type 0} (P : X → Type 0) (m n k l : List X) → ((x : X) → Within x m → P x) → ((x : X) → Within x n → P x) → ((x : X) → Within x k → P x → ⊥) → ((x : X) → Within x l → P x → ⊥)
    → m ++ k ≡ n ++ l → (m ≡ n) × (k ≡ l)
same_runs P [] [] k l a b c d e = (refl, e)
same_runs {X} P [] (y ∷ n) k l a b c d e = absurd (c y (subst (Within y) (sym e) (inl refl)) (b y (inl refl)))
same_runs {X} P (x ∷ m) [] k l a b c d e = absurd (d x (subst (Within x) e (inl refl)) (a x (inl refl)))
same_runs P (x ∷ m) (y ∷ n) k l a b c d e =
    let p : x ≡ y = cc in
    let q : m ++ k ≡ n ++ l = cc in
    let t = same_runs P m n k l (λ z w. a z (inr w)) (λ z w. b z (inr w)) c d q in
    let u = t.0 in
    (cc, t.1)

-- ---- what is behind its number

equal_fronts : (a b x y : List ℕ) → a ++ x ≡ b ++ y → length a ≡ length b → (a ≡ b) × (x ≡ y)
equal_fronts [] [] x y e l = (refl, e)
equal_fronts [] (c ∷ b) x y e l = absurd (omega arith)
equal_fronts (c ∷ a) [] x y e l = absurd (omega arith)
equal_fronts (c ∷ a) (d ∷ b) x y e l =
    let p : c ≡ d = cc in
    let q : a ++ x ≡ b ++ y = cc in
    let t = equal_fronts a b x y q (omega arith) in
    let u = t.0 in
    (cc, t.1)

two_bytes : (a b x y : List ℕ) → length a < 65536 → length b < 65536 → (sized 2 a) ++ x ≡ (sized 2 b) ++ y → (a ≡ b) × (x ≡ y)
two_bytes a b x y h k e =
    let s : big_number 2 ((sized 2 a) ++ x) ≡ big_number 2 ((sized 2 b) ++ y) = ap (big_number 2) e in
    let n : length a ≡ length b = sym (big_number-reads_back 2 (length a) (a ++ x) h) ∙ (s ∙ big_number-reads_back 2 (length b) (b ++ y) k) in
    equal_fronts a b x y (ap (drop 2) e) n

four_bytes : (a b x y : List ℕ) → length a < 4294967296 → length b < 4294967296 → (sized 4 a) ++ x ≡ (sized 4 b) ++ y → (a ≡ b) × (x ≡ y)
four_bytes a b x y h k e =
    let s : big_number 4 ((sized 4 a) ++ x) ≡ big_number 4 ((sized 4 b) ++ y) = ap (big_number 4) e in
    let n : length a ≡ length b = sym (big_number-reads_back 4 (length a) (a ++ x) h) ∙ (s ∙ big_number-reads_back 4 (length b) (b ++ y) k) in
    equal_fronts a b x y (ap (drop 4) e) n

-- ---- contents

same_attributes : (cs bs : List Attribute) → list_all is_valid_attribute cs ≡ true → list_all is_valid_attribute bs ≡ true → flat_map attribute_bytes cs ≡ flat_map attribute_bytes bs → cs ≡ bs
same_attributes [] [] h k e = refl
same_attributes [] (b ∷ bs) h k e = absurd cc
same_attributes (a ∷ cs) [] h k e = absurd cc
same_attributes (a ∷ cs) (b ∷ bs) h k e =
    let p = and_parts (is_valid_attribute a) _ h in
    let q = and_parts (is_valid_attribute b) _ k in
    let r = flat_map attribute_bytes cs in
    let s = flat_map attribute_bytes bs in
    let named = two_bytes a.name b.name (sized 4 a.value ++ r) (sized 4 b.value ++ s)
    (name_fits a.name (and_parts (is_node_name a.name) _ p.0).0) (name_fits b.name (and_parts (is_node_name b.name) _ q.0).0)
    (sym (append_assoc (sized 2 a.name) (sized 4 a.value) r) ∙ (e ∙ append_assoc (sized 2 b.name) (sized 4 b.value) s)) in
    let valued = four_bytes a.value b.value r s (value_fits a p.0) (value_fits b q.0) named.1 in
    let rest = same_attributes cs bs p.1 q.1 valued.1 in
    λ i. record { name = named.0 i; value = valued.0 i } ∷ rest i

pub same_content : (k j : Kind) → is_valid_kind k ≡ true → is_valid_kind j ≡ true → content k ≡ content j → k ≡ j
same_content (Words t) (Words u) h g e = let p : t ≡ u = cc in cc
same_content (Words t) (Element n cs) h g e = let p : ◌≡◌ {A = ℕ} 84 69 = ap (λ (z : List ℕ). get_or z 0 0) e in absurd (omega arith)
same_content (Element n cs) (Words t) h g e = let p : ◌≡◌ {A = ℕ} 69 84 = ap (λ (z : List ℕ). get_or z 0 0) e in absurd (omega arith)
same_content (Element n cs) (Element m bs) h g e =
    let v = valid_parts (Element n cs) h in
    let w = valid_parts (Element m bs) g in
    let r = flat_map attribute_bytes cs in
    let s = flat_map attribute_bytes bs in
    let named = two_bytes n m (big_bytes 4 (length cs) ++ r) (big_bytes 4 (length bs) ++ s) (name_fits n (valid_name n cs v)) (name_fits m (valid_name m bs w)) (ap (drop 1) e) in
    let rest : r ≡ s = ap (drop 4) named.1 in
    let all = same_attributes cs bs (valid_attributes n cs v) (valid_attributes m bs w) rest in
    λ i. Element (named.0 i) (all i)

values_are : (label : List ℤ) (f : ℕ → List ℕ) (n a : ℕ) → map (λ (e : Entry). e.1) (map (λ i. (chunk_key label i, f i)) (range_with_len a n)) ≡ map f (range_with_len a n)
values_are label f zero a = refl
values_are label f (suc n) a = ap (λ z. f a ∷ z) (values_are label f n (a + 1))

pub content_told : (e : Labelled) → join (map (λ (x : Entry). x.1) (chunks_of e)) ≡ content e.kind
content_told e =
    ap join (values_are e.label (piece e.kind) (piece_count e.kind) 0 ∙ ap (λ (n : ℕ). map (piece e.kind) (range_with_len 0 n)) (sym (count_is e.kind)))
    ∙ joined (content e.kind)

-- ---- nodes

abbrev pub OneLabel : Type 0
OneLabel = (a b : List ℤ) → IsLabel a → IsLabel b → bytes_of a ≡ bytes_of b → a ≡ b

key_label : OneLabel → (a b : List ℤ) (m n : ℕ) → IsLabel a → IsLabel b → chunk_key a m ≡ chunk_key b n → a ≡ b
key_label one a b m n g h e =
    let t : bytes_of a ++ (0 ∷ big_bytes 4 m) ≡ bytes_of b ++ (0 ∷ big_bytes 4 n) = cc in
    one a b g h (same_front (bytes_of a) (bytes_of b) (0 ∷ big_bytes 4 m) (0 ∷ big_bytes 4 n) t refl).0

pub some_size : (k : Kind) → 1 ≤ content_size k
some_size (Element n cs) = omega arith
some_size (Words t) = omega arith

pub some_pieces : (k : Kind) → 1 ≤ piece_count k
some_pieces k = let t = some_size k in omega arith

-- the first chunk of a node
pub first_chunk : (e : Labelled) → Within {A = Entry} (chunk_key e.label 0, piece e.kind 0) (chunks_of e)
first_chunk e = at_least (piece_count e.kind) (some_pieces e.kind)
  where
    at_least : (n : ℕ) → 1 ≤ n → Within {A = Entry} (chunk_key e.label 0, piece e.kind 0) (map (λ i. (chunk_key e.label i, piece e.kind i)) (range_with_len 0 n))
    at_least zero h = absurd (omega arith)
    at_least (suc n) h = inl refl

first_within : (e : Labelled) (es : List Labelled) → Within {A = Entry} (chunk_key e.label 0, piece e.kind 0) (flat_map chunks_of (e ∷ es))
first_within e es = within_first (chunk_key e.label 0, piece e.kind 0) (chunks_of e) (flat_map chunks_of es) (first_chunk e)

abbrev pub OfLabel : List ℤ → Entry → Type 0
OfLabel l x = (i : ℕ) × (x.0 ≡ chunk_key l i)

pub chunk_of : (e : Labelled) (x : Entry) → Within x (chunks_of e) → OfLabel e.label x
chunk_of e x w = let t = within_range (λ i. (chunk_key e.label i, piece e.kind i)) x (piece_count e.kind) 0 w in (t.0, ap (λ (z : Entry). z.0) t.3)

record Listed (es : List Labelled) : Type 0 where
  label : (d : Labelled) → Within d es → IsLabel d.label
  kind : (d : Labelled) → Within d es → is_valid_kind d.kind ≡ true
  order : Ordered (λ a b. Lt (node_label a) (node_label b)) es

tail_of : (e : Labelled) (es : List Labelled) → Listed (e ∷ es) → Listed es
tail_of e es l = record { label = λ d w. l.label d (inr w); kind = λ d w. l.kind d (inr w); order = l.order.1 }

-- no chunk of a later node has the first one's label
later : OneLabel → (e : Labelled) (es : List Labelled) → Listed (e ∷ es) → (x : Entry) → Within x (flat_map chunks_of es) → OfLabel e.label x → ⊥
later one e es l x w o =
    let t = within_flat chunks_of x es w in
    let c = chunk_of t.0 x t.2 in
    let s : e.label ≡ (t.0).label = key_label one e.label (t.0).label o.0 c.0 (l.label e (inl refl)) (l.label t.0 (inr t.1)) (sym o.1 ∙ c.1) in
    (l.order.0 t.0 t.1).1 s

abbrev pub first_key : Entries → List ℕ
first_key [] = []
first_key (x ∷ xs) = x.0

first_label : OneLabel → (e d : Labelled) (es ds : List Labelled) → Listed (e ∷ es) → Listed (d ∷ ds) → flat_map chunks_of (e ∷ es) ≡ flat_map chunks_of (d ∷ ds) → e.label ≡ d.label
first_label one e d es ds l m q = by (piece_count e.kind) (piece_count d.kind) (some_pieces e.kind) (some_pieces d.kind) q
  where
    by : (i j : ℕ) → 1 ≤ i → 1 ≤ j → map (λ n. (chunk_key e.label n, piece e.kind n)) (range_with_len 0 i) ++ flat_map chunks_of es ≡ map (λ n. (chunk_key d.label n, piece d.kind n)) (range_with_len 0 j) ++ flat_map chunks_of ds → e.label ≡ d.label
    by zero j h k q = absurd (omega arith)
    by (suc i) zero h k q = absurd (omega arith)
    by (suc i) (suc j) h k q = key_label one e.label d.label 0 0 (l.label e (inl refl)) (m.label d (inl refl)) (ap first_key q)

same_list : OneLabel → (es ds : List Labelled) → Listed es → Listed ds → flat_map chunks_of es ≡ flat_map chunks_of ds → es ≡ ds
same_list one [] [] l m q = refl
same_list one [] (d ∷ ds) l m q = absurd (subst (Within {A = Entry} (chunk_key d.label 0, piece d.kind 0)) (sym q) (first_within d ds))
same_list one (e ∷ es) [] l m q = absurd (subst (Within {A = Entry} (chunk_key e.label 0, piece e.kind 0)) q (first_within e es))
same_list one (e ∷ es) (d ∷ ds) l m q =
    let same = first_label one e d es ds l m q in
    let runs = same_runs (OfLabel e.label) (chunks_of e) (chunks_of d) (flat_map chunks_of es) (flat_map chunks_of ds)
    (λ x w. chunk_of e x w)
    (λ x w. subst (λ (z : List ℤ). OfLabel z x) (sym same) (chunk_of d x w))
    (later one e es l)
    (λ x w o. later one d ds m x w (subst (λ (z : List ℤ). OfLabel z x) same o)) q in
    let bytes : content e.kind ≡ content d.kind = sym (content_told e) ∙ (ap (λ (z : Entries). join (map (λ (x : Entry). x.1) z)) runs.0 ∙ content_told d) in
    let kinds = same_content e.kind d.kind (l.kind e (inl refl)) (m.kind d (inl refl)) bytes in
    let rest = same_list one es ds (tail_of e es l) (tail_of d ds m) runs.1 in
    λ i. record { label = same i; kind = kinds i } ∷ rest i

-- ---- trees

same_trees : (y : List ℤ) (f g : Trees Labelled) → Formed node_label y f → Formed node_label y g → preorder f ≡ preorder g → f ≡ g
same_trees y none none u v q = refl
same_trees y none (node d low more) u v q = absurd cc
same_trees y (node e inner rest) none u v q = absurd cc
same_trees y (node e inner rest) (node d low more) u v q =
    let p : e ≡ d = cc in
    let s : preorder inner ++ preorder rest ≡ preorder low ++ preorder more = cc in
    let w = subst (λ (z : Labelled). Formed node_label y (node z low more)) (sym p) v in
    let runs = same_runs (λ (x : Labelled). Front e.label x.label) (preorder inner) (preorder low) (preorder rest) (preorder more)
    (λ x h. (node_under node_label e.label inner x u.1 h).0)
    (λ x h. (node_under node_label e.label low x w.1 h).0)
    (λ x h k. (node_apart node_label e.label y rest x u.3 u.2 h).1 k)
    (λ x h k. (node_apart node_label e.label y more x w.3 w.2 h).1 k) s in
    let i = same_trees e.label inner low u.1 w.1 runs.0 in
    let r = same_trees y rest more u.3 w.3 runs.1 in
    λ j. node (p j) (i j) (r j)

listed_of : (f : Trees Labelled) → IsTrue (is_well_formed f) → Listed (preorder f)
listed_of f w = let n = nodes_of f w in record { label = n.label; kind = n.kind; order = n.order }

no_chunk : (f : Trees Labelled) (e : Entry) → Within e (occurrences (worded f) ++ counts (worded f)) → Headed 1 e → ⊥
no_chunk f e w h = elim (within_joined e (occurrences (worded f)) (counts (worded f)) w) [
  | inl k ↦ let t = occurrences_headed (worded f) e k in let q = t.1 in let r = h.1 in let s : 1 ∷ h.0 ≡ 2 ∷ t.0 = sym r ∙ q in absurd cc
  | inr k ↦ let t = counts_headed (worded f) e k in let q = t.1 in let r = h.1 in let s : 1 ∷ h.0 ≡ 3 ∷ t.0 = sym r ∙ q in absurd cc
]

pub determined : OneLabel → ImagesTellForests
determined one f g v w e =
    let runs = same_runs (Headed 1) (chunks f) (chunks g) (occurrences (worded f) ++ counts (worded f)) (occurrences (worded g) ++ counts (worded g))
    (chunks_headed f) (chunks_headed g) (no_chunk f) (no_chunk g) e in
    same_trees [] f g (formed f v) (formed g w) (same_list one (preorder f) (preorder g) (listed_of f v) (listed_of g w) runs.0)
