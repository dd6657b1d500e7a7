-- The kinds that pieces tell, node by node.
use Rattle.std.proofs.Common.{◌≡◌, ℕ, ◌+◌, ◌*◌, ◌≤◌, ◌/◌, true, List, [], ◌∷◌, ◌++◌, map, length, take, drop, refl, ap, sym, subst, ◌∙◌, None, append_assoc, arith}
use Rattle.std.specs.Prelude.{nat_le}
use Rattle.std.proofs.lemmas.Bool.{and_from}
use Rattle.std.proofs.lemmas.Bool.Decides.{nat_tests}
use Rattle.std.proofs.lemmas.List.{map-append}
use Rattle.mm_label.specs.Label.{IsLabel}
use Rattle.mm_tree.specs.declared.plain.Kind.{Kind}
use Rattle.mm_tree.specs.Numbering.{Labelled}
use Rattle.mm_tree.specs.Validity.{has_valid_parts, is_valid_kind, piece_count}
use Rattle.mm_image.specs.declared.gathering.Group.{Group}
use Rattle.mm_image.specs.Content.{IsContent, IsKindOf, content}
use Rattle.mm_image.specs.Inside.Cutting.{join, pieces_of}
use Rattle.mm_image.specs.Inside.Gathered.{AreGroups, CanBeStored, IsGroup, Tells, as_group}
use Rattle.mm_image.specs.Facts.Pieces.{count_is, length_mapped}
use Rattle.mm_image.proofs.ChunkFacts.{valid_parts}
use Rattle.mm_image.specs.Facts.Pieces.{joined}
use Rattle.mm_image.proofs.Groups.{cut_again}

-- the groups that were looked at, and those that are left
pub record Making (groups : List Group) (nodes : List Labelled) (left : List Group) : Type 0 where
  pub all : map as_group nodes ++ left ≡ groups
  pub stored : CanBeStored nodes

stored_push : (ns : List Labelled) (e : Labelled) → CanBeStored ns → IsLabel e.label → is_valid_kind e.kind ≡ true → CanBeStored (ns ++ e ∷ [])
stored_push [] e s l k = (l, k, tt)
stored_push (n ∷ ns) e s l k = (s.0, s.1, stored_push ns e s.2 l k)

group_within : (done : List Labelled) (g : Group) (left groups : List Group) → AreGroups groups → map as_group done ++ g ∷ left ≡ groups → IsGroup g
group_within [] g left groups a e = (subst AreGroups (sym e) a).0
group_within (d ∷ done) g left groups a e = group_within done g left (map as_group done ++ g ∷ left) (subst AreGroups (sym e) a).1 refl

pieces_told : (g : Group) (k : Kind) → IsGroup g → join g.pieces ≡ content k → pieces_of (content k) ≡ g.pieces
pieces_told g k i e = ap pieces_of (sym e) ∙ cut_again g.pieces i.cut

at_most : (a b : ℕ) → a ≤ b → nat_le a b ≡ true
at_most a b h = grind (arith, nat_tests)

valid_told : (g : Group) (k : Kind) → IsGroup g → join g.pieces ≡ content k → has_valid_parts k ≡ true → is_valid_kind k ≡ true
unfolding is_valid_kind
valid_told g k i e v =
    let n : length (pieces_of (content k)) ≡ (length (content k) + 999) / 1000 = length_mapped (λ i. take 1000 (drop (1000 * i) (content k))) ((length (content k) + 999) / 1000) 0 in
    let m : length (pieces_of (content k)) ≡ length g.pieces = ap length (pieces_told g k i e) in
    let c = count_is k in
    let few = i.few in
    and_from (has_valid_parts k) _ v (at_most (piece_count k) 4294967296 (omega (arith, n, m, c, few)))

pub making_more : (groups left : List Group) (nodes more : List Labelled) (g : Group) (k : Kind) → AreGroups groups → Making groups nodes (g ∷ left) → IsContent (join g.pieces) k
    → more ≡ nodes ++ record { label = g.label; kind = k } ∷ [] → Making groups more left
making_more groups left nodes more g k a m c q =
    let i = group_within nodes g left groups a m.all in
    let n : Labelled = record { label = g.label; kind = k } in
    let pieces = pieces_told g k i c.is in
    let same : as_group n ≡ g = λ j. record { label = g.label; pieces = pieces j } in
    record {
      all = ap (λ (ns : List Labelled). map as_group ns ++ left) q ∙ ap (λ (gs : List Group). gs ++ left) (map-append as_group nodes (n ∷ [])) ∙ append_assoc (map as_group nodes) (as_group n ∷ []) left
          ∙ ap (λ (h : Group). map as_group nodes ++ h ∷ left) same ∙ m.all;
      stored = subst CanBeStored (sym q) (stored_push nodes n m.stored i.label (valid_told g k i c.is c.good));
    }

-- no kind has these pieces
told_apart : (done nodes : List Labelled) (g : Group) (left : List Group) → CanBeStored nodes → map as_group nodes ≡ map as_group done ++ g ∷ left → IsKindOf (join g.pieces) None → ⊥
told_apart [] [] g left s e n = absurd cc
told_apart [] (d ∷ nodes) g left s e n =
    let h : as_group d ≡ g = cc in
    n d.kind (record { is = sym (ap (λ (z : Group). join z.pieces) h) ∙ joined (content d.kind); good = valid_parts d.kind s.1 })
told_apart (c ∷ done) [] g left s e n = absurd cc
told_apart (c ∷ done) (d ∷ nodes) g left s e n = let q : map as_group nodes ≡ map as_group done ++ g ∷ left = cc in told_apart done nodes g left s.2 q n

pub making_fails : (groups left : List Group) (nodes : List Labelled) (g : Group) → Making groups nodes (g ∷ left) → IsKindOf (join g.pieces) None → Tells groups None
making_fails groups left nodes g m n ns s e = told_apart nodes ns g left s (e ∙ sym m.all) n
