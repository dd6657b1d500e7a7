-- The chunks of a node are its content cut into pieces and numbered.
use Rattle.std.proofs.Common.{◌≡◌, ℕ, ℤ, zero, suc, ◌+◌, ◌*◌, ◌/◌, ◌<◌, ◌≤◌, true, List, [], ◌∷◌, ◌++◌, refl, ap, sym, ◌∙◌, length, map, take, drop, arith}
use Rattle.std.specs.Prelude.{flat_map, sum_by, nat_le}
use Rattle.std.specs.List.{range_with_len}
use Rattle.std.proofs.lemmas.Bool.{and_parts}
use Rattle.std.proofs.lemmas.Bool.Decides.{nat_tests}
use Rattle.std.proofs.lemmas.List.{length-append, length-take, length-drop}
use Rattle.std.proofs.lemmas.List.Concat.{length-flat_map}
use Rattle.byteorder.specs.Endian.{big_bytes}
use Rattle.mm_keeper.specs.Entries.{Entries}
use Rattle.mm_tree.specs.declared.plain.Attribute.{Attribute}
use Rattle.mm_tree.specs.declared.plain.Kind.{Kind}
use Rattle.mm_tree.specs.declared.plain.Kind.TheVariants.{Element, Words}
use Rattle.mm_tree.specs.Validity.{attribute_size, content_size, has_valid_parts, is_valid_kind, piece_count}
use Rattle.mm_image.specs.Content.{attribute_bytes, content, piece, piece_limit, sized}
use Rattle.mm_image.specs.Image.{chunks_of}
use Rattle.mm_image.specs.Inside.Cutting.{join, numbered, pieces_of}
use Rattle.mm_image.specs.Inside.Gathered.{IsCut}
use Rattle.mm_image.specs.Keys.{chunk_key}

-- ---- the size of a content

pub few_pieces : (kind : Kind) → is_valid_kind kind ≡ true → nat_le (piece_count kind) 4294967296 ≡ true
unfolding is_valid_kind
few_pieces kind h = (and_parts (has_valid_parts kind) _ h).1

attribute_sized : (a : Attribute) → length (attribute_bytes a) ≡ attribute_size a
attribute_sized a = let t = length-append a.name (sized 4 a.value) in omega arith

content_sized : (kind : Kind) → content_size kind ≡ length (content kind)
content_sized (Element name attributes) =
    let sum : sum_by (λ x. length (attribute_bytes x)) attributes ≡ sum_by attribute_size attributes = ap (λ (f : Attribute → ℕ). sum_by f attributes) (λ i x. attribute_sized x i) in
    let all : length (flat_map attribute_bytes attributes) ≡ sum_by attribute_size attributes = length-flat_map attribute_bytes attributes ∙ sum in
    let t = length-append name (big_bytes 4 (length attributes) ++ flat_map attribute_bytes attributes) in
    omega arith
content_sized (Words text) = omega arith

pub count_is : (kind : Kind) → (length (content kind) + 999) / 1000 ≡ piece_count kind
count_is kind = ap (λ (n : ℕ). (n + 999) / 1000) (sym (content_sized kind))

pub length_mapped : {X : Type 0} (f : ℕ → X) (n a : ℕ) → length (map f (range_with_len a n)) ≡ n
length_mapped f zero a = refl
length_mapped f (suc n) a = ap suc (length_mapped f n (a + 1))

pub pieces_few : (kind : Kind) → is_valid_kind kind ≡ true → length (pieces_of (content kind)) ≤ 4294967296
pieces_few kind h =
    let t = few_pieces kind h in
    let u = length_mapped (piece kind) ((length (content kind) + 999) / 1000) 0 in
    let v = count_is kind in
    let w : piece_count kind ≤ 4294967296 = grind (arith, nat_tests, t) in
    omega (arith, u, v, w)

-- ---- numbers

numbered_range : (label : List ℤ) (f : ℕ → List ℕ) (n a : ℕ) → numbered label a (map f (range_with_len a n)) ≡ map (λ i. (chunk_key label i, f i)) (range_with_len a n)
numbered_range label f zero a = refl
numbered_range label f (suc n) a = ap (λ (z : Entries). (chunk_key label a, f a) ∷ z) (numbered_range label f n (a + 1))

pub chunks_are : (label : List ℤ) (kind : Kind) → numbered label 0 (pieces_of (content kind)) ≡ chunks_of (record { label = label; kind = kind })
chunks_are label kind =
    numbered_range label (piece kind) ((length (content kind) + 999) / 1000) 0
    ∙ ap (λ (n : ℕ). map (λ i. (chunk_key label i, piece kind i)) (range_with_len 0 n)) (count_is kind)

-- ---- bytes that are cut, and joined again

pub take_all : (n : ℕ) (xs : List ℕ) → length xs ≤ n → take n xs ≡ xs
take_all zero [] l = refl
take_all zero (x ∷ xs) l = absurd (omega arith)
take_all (suc n) [] l = refl
take_all (suc n) (x ∷ xs) l = ap (λ (z : List ℕ). x ∷ z) (take_all n xs (omega arith))

drop_none : (k : ℕ) → drop {A = ℕ} k [] ≡ []
drop_none zero = refl
drop_none (suc k) = refl

drop_drop : (m n : ℕ) (xs : List ℕ) → drop m (drop n xs) ≡ drop (n + m) xs
drop_drop m zero xs = ap (λ (k : ℕ). drop k xs) (omega arith)
drop_drop m (suc n) [] = drop_none m ∙ sym (drop_none (suc n + m))
drop_drop m (suc n) (x ∷ xs) = let e : suc n + m ≡ suc (n + m) = omega arith in drop_drop m n xs ∙ sym (ap (λ (k : ℕ). drop k (x ∷ xs)) e)

take_more_of : (m n : ℕ) (xs : List ℕ) → take m xs ++ take n (drop m xs) ≡ take (m + n) xs
take_more_of zero n xs = ap (λ (k : ℕ). take k xs) (omega arith)
take_more_of (suc m) zero [] = let e : suc m + 0 ≡ suc m = omega arith in sym (ap (λ (k : ℕ). take k []) e)
take_more_of (suc m) (suc n) [] = let e : suc m + suc n ≡ suc (m + suc n) = omega arith in sym (ap (λ (k : ℕ). take k []) e)
take_more_of (suc m) n (x ∷ xs) = let e : suc m + n ≡ suc (m + n) = omega arith in ap (λ (z : List ℕ). x ∷ z) (take_more_of m n xs) ∙ sym (ap (λ (k : ℕ). take k (x ∷ xs)) e)

joined_from : (b : List ℕ) (n a : ℕ) → join (map (λ i. take piece_limit (drop (piece_limit * i) b)) (range_with_len a n)) ≡ take (piece_limit * n) (drop (piece_limit * a) b)
joined_from b zero a = refl
joined_from b (suc n) a =
    let here = drop (piece_limit * a) b in
    let p : piece_limit * (a + 1) ≡ piece_limit * a + piece_limit = omega arith in
    let q : piece_limit + piece_limit * n ≡ piece_limit * suc n = omega arith in
    ap (λ (z : List ℕ). take piece_limit here ++ z) (joined_from b n (a + 1))
    ∙ (ap (λ (z : List ℕ). take piece_limit here ++ take (piece_limit * n) z) (ap (λ (k : ℕ). drop k b) p ∙ sym (drop_drop piece_limit (piece_limit * a) b))
    ∙ (take_more_of piece_limit (piece_limit * n) here ∙ ap (λ (k : ℕ). take k here) q))

pub joined : (b : List ℕ) → join (pieces_of b) ≡ b
joined b = joined_from b ((length b + 999) / 1000) 0 ∙ take_all (piece_limit * ((length b + 999) / 1000)) b (omega arith)

cut_range : (b : List ℕ) (n a : ℕ) → 1000 * (a + n) < length b + 1000 → length b ≤ 1000 * (a + n) → 1 ≤ n → IsCut (map (λ i. take piece_limit (drop (piece_limit * i) b)) (range_with_len a n))
cut_range b zero a l h p = absurd (omega arith)
cut_range b (suc zero) a l h p =
    let t = length-take 1000 (drop (1000 * a) b) in
    let u = length-drop (1000 * a) b in
    (omega arith, omega arith)
cut_range b (suc (suc n)) a l h p =
    let t = length-take 1000 (drop (1000 * a) b) in
    let u = length-drop (1000 * a) b in
    (omega arith, cut_range b (suc n) (a + 1) (omega arith) (omega arith) (omega arith))

pub cut_is : (b : List ℕ) → 1 ≤ length b → IsCut (pieces_of b)
cut_is b s = cut_range b ((length b + 999) / 1000) 0 (omega arith) (omega arith) (omega arith)
