-- Nodes whose chunks rise come one after the other.
use Rattle.std.proofs.Common.{inl, inr, ◌≡◌, ℕ, zero, suc, ◌≤◌, true, List, [], ◌∷◌, ◌++◌, map, refl, ap, sym, subst, ◌∙◌, Ordering, Less, Equal, Greater, nat_cmp, arith}
use Rattle.std.specs.Prelude.{flat_map}
use Rattle.std.specs.List.{range_with_len}
use Rattle.std.specs.Ordering.{int_cmp, is_lt, ordering_then}
use Rattle.std.specs.Cmp.Lexicographic.{slice_cmp}
use Rattle.mm_keeper.specs.Entries.{Entries, IsBelow, Rises, below}
use Rattle.mm_label.specs.Fronts.{Label, Lt, Ordered, Within}
use Rattle.mm_label.specs.Label.{IsLabel}
use Rattle.mm_label.specs.Facts.Order.{before_lt}
use Rattle.mm_tree.specs.declared.plain.Kind.{Kind}
use Rattle.mm_tree.specs.declared.plain.Kind.TheVariants.{Element, Words}
use Rattle.mm_tree.specs.Numbering.{Labelled}
use Rattle.mm_tree.specs.Validity.{piece_count}
use Rattle.mm_image.specs.Content.{piece}
use Rattle.mm_image.specs.Image.{chunks_of}
use Rattle.mm_image.specs.Keys.{chunk_key}
use Rattle.mm_image.specs.Laws.{ChunkOrder}

before_of : ChunkOrder → (x y : Label) → IsLabel x → IsLabel y → below (chunk_key x 0) (chunk_key y 0) ≡ true → Lt x y
before_of order x y g h e = before_lt x y (by (slice_cmp int_cmp x y) (sym (ap is_lt (order x y 0 0 g h (omega arith) (omega arith))) ∙ e))
  where
    by : (o : Ordering) → is_lt (ordering_then o (nat_cmp 0 0)) ≡ true → o ≡ Less
    by Less e = refl
    by Equal e = absurd cc
    by Greater e = absurd cc

-- ---- the first chunk of a node

pub record FirstChunk (e : Labelled) : Type 0 where
  pub others : Entries
  pub are : chunks_of e ≡ (chunk_key e.label 0, piece e.kind 0) ∷ others

some_pieces : (k : Kind) → 1 ≤ piece_count k
some_pieces (Element name attributes) = omega arith
some_pieces (Words text) = omega arith

pub first_chunk : (e : Labelled) → FirstChunk e
first_chunk e = let t = by (piece_count e.kind) (some_pieces e.kind) in record { others = t.0; are = t.1 }
  where
    by : (n : ℕ) → 1 ≤ n → (others : Entries) × (map (λ i. (chunk_key e.label i, piece e.kind i)) (range_with_len 0 n) ≡ (chunk_key e.label 0, piece e.kind 0) ∷ others)
    by zero h = absurd (omega arith)
    by (suc n) h = (map (λ i. (chunk_key e.label i, piece e.kind i)) (range_with_len 1 n), refl)

-- ---- entries that rise

below_back : (k : List ℕ) (xs ys : Entries) → IsBelow k (xs ++ ys) → IsBelow k ys
below_back k [] ys b = b
below_back k (x ∷ xs) ys b = below_back k xs ys b.1

below_front : (k : List ℕ) (xs ys : Entries) → IsBelow k (xs ++ ys) → IsBelow k xs
below_front k [] ys b = tt
below_front k (x ∷ xs) ys b = (b.0, below_front k xs ys b.1)

pub rises_back : (xs ys : Entries) → Rises (xs ++ ys) → Rises ys
rises_back [] ys r = r
rises_back (x ∷ xs) ys r = rises_back xs ys r.1

pub rises_front : (xs ys : Entries) → Rises (xs ++ ys) → Rises xs
rises_front [] ys r = tt
rises_front (x ∷ xs) ys r = (below_front x.0 xs ys r.0, rises_front xs ys r.1)

-- ---- nodes that rise

abbrev pub AreLabels : List Labelled → Type 0
AreLabels ds = (d : Labelled) → Within d ds → IsLabel d.label

before_all : ChunkOrder → (x : Label) (ds : List Labelled) → IsLabel x → AreLabels ds → IsBelow (chunk_key x 0) (flat_map chunks_of ds) → (d : Labelled) → Within d ds → Lt x d.label
before_all order x [] g l b d w = absurd w
before_all order x (c ∷ ds) g l b d w =
    let f = first_chunk c in
    let k : IsBelow (chunk_key x 0) ((chunk_key c.label 0, piece c.kind 0) ∷ f.others ++ flat_map chunks_of ds) = subst (λ (z : Entries). IsBelow (chunk_key x 0) (z ++ flat_map chunks_of ds)) f.are b in
    elim w [
      | inl h ↦ subst (λ (z : Labelled). Lt x z.label) (sym h) (before_of order x c.label g (l c (inl refl)) k.0)
      | inr h ↦ before_all order x ds g (λ z v. l z (inr v)) (below_back (chunk_key x 0) (chunks_of c) (flat_map chunks_of ds) b) d h
    ]

abbrev pub Climb : List Labelled → Type 0
Climb = Ordered (λ a b. Lt a.label b.label)

pub nodes_rise : ChunkOrder → (ds : List Labelled) → AreLabels ds → Rises (flat_map chunks_of ds) → Climb ds
nodes_rise order [] l r = tt
nodes_rise order (c ∷ ds) l r =
    let f = first_chunk c in
    let k : Rises ((chunk_key c.label 0, piece c.kind 0) ∷ f.others ++ flat_map chunks_of ds) = subst (λ (z : Entries). Rises (z ++ flat_map chunks_of ds)) f.are r in (
      before_all order c.label ds (l c (inl refl)) (λ z v. l z (inr v)) (below_back (chunk_key c.label 0) f.others (flat_map chunks_of ds) k.0),
      nodes_rise order ds (λ z v. l z (inr v)) (rises_back (chunks_of c) (flat_map chunks_of ds) r),
    )
