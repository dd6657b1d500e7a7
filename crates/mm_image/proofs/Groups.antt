-- What stands before a chunk among the chunks of nodes, and that these tell the nodes.
use Rattle.std.proofs.Common.{◌≡◌, ℕ, ℤ, zero, suc, ◌+◌, ◌<◌, ◌≤◌, Bool, true, false, not, List, [], ◌∷◌, ◌++◌, refl, ap, sym, subst, ◌∙◌, Option, Some, None, map, length, drop, append_assoc, append-nil, arith}
use Rattle.std.specs.Prelude.{flat_map}
use Rattle.std.proofs.lemmas.Grind.{flat_map-append}
use Rattle.std.proofs.lemmas.List.{length-append}
use Rattle.mm_tree.specs.declared.plain.Kind.{Kind}
use Rattle.mm_tree.specs.declared.plain.Kind.TheVariants.{Element, Words}
use Rattle.byteorder.specs.Endian.{big_bytes}
use Rattle.mm_label.specs.Bytes.{bytes_of}
use Rattle.mm_label.specs.Label.{IsLabel}
use Rattle.mm_keeper.specs.Entries.{Entries, Entry}
use Rattle.mm_tree.specs.Numbering.{Labelled}
use Rattle.mm_image.specs.declared.gathering.Group.{Group}
use Rattle.mm_image.specs.declared.parsed.Parsed.TheVariants.{Chunk}
use Rattle.mm_image.specs.Content.{content, piece, piece_limit}
use Rattle.mm_image.specs.Image.{chunks_of}
use Rattle.mm_image.specs.Keys.{chunk_key, StandsFor}
use Rattle.mm_image.specs.Inside.Cutting.{join, numbered, pieces_of}
use Rattle.mm_image.specs.Inside.Gathered.{AreGroups, BeginNone, CanBeStored, IsChunk, IsCut, IsGroup, as_group, gathered, group_chunks}
use Rattle.mm_image.proofs.Apart.{same_number}
use Rattle.mm_image.specs.Facts.Pieces.{chunks_are, pieces_few}
use Rattle.mm_image.specs.Facts.Pieces.{joined}
use Rattle.mm_image.proofs.Determined.{OneLabel, first_key, same_content}
use Rattle.mm_image.proofs.PieceFacts.{cut_with_last, one_more}
use Rattle.mm_image.proofs.KeyFacts.{same_front}
use Rattle.mm_image.specs.Facts.Pieces.{cut_is}

-- ---- keys

key_parts : (a b : List ℤ) (m n : ℕ) → m < 4294967296 → n < 4294967296 → chunk_key a m ≡ chunk_key b n → (bytes_of a ≡ bytes_of b) × (m ≡ n)
key_parts a b m n h k e =
    let t : bytes_of a ++ (0 ∷ big_bytes 4 m) ≡ bytes_of b ++ (0 ∷ big_bytes 4 n) = cc in
    let u = same_front (bytes_of a) (bytes_of b) (0 ∷ big_bytes 4 m) (0 ∷ big_bytes 4 n) t refl in
    let d : big_bytes 4 m ≡ big_bytes 4 n = let v = u.1 in cc in
    (u.0, same_number m n h k d)

-- ---- each chunk but a node's first stands behind a full one of the same node

abbrev pub FullBefore : Option Entry → List ℤ → ℕ → Type 0
FullBefore None label i = ⊥
FullBefore (Some d) label i = (d.0 ≡ chunk_key label i) × (length d.1 ≡ piece_limit)

pub record Follows (before : Option Entry) (e : Entry) : Type 0 where
  pub key : IsChunk e.0
  pub size : (1 ≤ length e.1) × (length e.1 ≤ piece_limit)
  pub next : (i : ℕ) → key.number ≡ suc i → FullBefore before key.label i

abbrev pub Linked : Option Entry → Entries → Type 0
Linked before [] = Unit {0}
Linked before (e ∷ es) = Follows before e × Linked (Some e) es

abbrev pub last_of : Option Entry → Entries → Option Entry
last_of before [] = before
last_of before (e ∷ es) = last_of (Some e) es

pub linked_at : (before : Option Entry) (es : Entries) (e : Entry) (more : Entries) → Linked before (es ++ e ∷ more) → Follows (last_of before es) e
linked_at before [] e more l = l.0
linked_at before (d ∷ es) e more l = linked_at (Some d) es e more l.1

linked_joined : (before : Option Entry) (es ds : Entries) → Linked before es → Linked (last_of before es) ds → Linked before (es ++ ds)
linked_joined before [] ds l m = m
linked_joined before (e ∷ es) ds l m = (l.0, linked_joined (Some e) es ds l.1 m)

-- pieces from a number on, behind what is before them
pub linked_pieces : (before : Option Entry) (label : List ℤ) (n : ℕ) (ps : List (List ℕ)) → IsLabel label → IsCut ps → n + length ps ≤ 4294967296 → ((i : ℕ) → n ≡ suc i → FullBefore before label i) → Linked before (numbered label n ps)
linked_pieces before label n [] g c b f = absurd c
linked_pieces before label n (p ∷ []) g c b f = (record { key = record { label = label; number = n; is = refl; good = g; few = omega arith }; size = c; next = f }, tt)
linked_pieces before label n (p ∷ (q ∷ ps)) g c b f = (
  record { key = record { label = label; number = n; is = refl; good = g; few = omega arith }; size = (let e = c.0 in omega arith, let e = c.0 in omega arith); next = f },
  linked_pieces (Some (chunk_key label n, p)) label (n + 1) (q ∷ ps) g c.1 (omega arith) (λ i e. (let t : n ≡ i = omega arith in ap (chunk_key label) t, c.0)),
)

pub linked_groups : (before : Option Entry) (gs : List Group) → AreGroups gs → Linked before (gathered gs)
linked_groups before [] a = tt
linked_groups before (g ∷ gs) a =
    linked_joined before (group_chunks g) (gathered gs)
    (linked_pieces before g.label 0 g.pieces a.0.label a.0.cut (omega (arith, a.0.few)) (λ i e. absurd (omega arith)))
    (linked_groups (last_of before (group_chunks g)) gs a.1)

-- and pieces that are cut so are those of their bytes
pub cut_again : (ps : List (List ℕ)) → IsCut ps → pieces_of (join ps) ≡ ps
cut_again [] c = absurd c
cut_again (p ∷ []) c = ap pieces_of (append-nil p) ∙ cut_with_last [] p tt (omega (arith, c.0)) c.1
cut_again (p ∷ (q ∷ ps)) c = one_more p (join (q ∷ ps)) c.0 ∙ ap (λ (z : List (List ℕ)). p ∷ z) (cut_again (q ∷ ps) c.1)

-- ---- nodes as they are gathered

some_content : (k : Kind) → 1 ≤ length (content k)
some_content (Element name attributes) = omega arith
some_content (Words text) = omega arith

pub node_gathered : (e : Labelled) → group_chunks (as_group e) ≡ chunks_of e
node_gathered e = chunks_are e.label e.kind

pub nodes_gathered : (es : List Labelled) → gathered (map as_group es) ≡ flat_map chunks_of es
nodes_gathered [] = refl
nodes_gathered (e ∷ es) = ap (λ (z : Entries). group_chunks (as_group e) ++ z) (nodes_gathered es) ∙ ap (λ (z : Entries). z ++ flat_map chunks_of es) (node_gathered e)

pub stored_groups : (es : List Labelled) → CanBeStored es → AreGroups (map as_group es)
stored_groups [] s = tt
stored_groups (e ∷ es) s = (record { label = s.0; cut = cut_is (content e.kind) (some_content e.kind); few = pieces_few e.kind s.1 }, stored_groups es s.2)

linked_nodes : (es : List Labelled) → CanBeStored es → Linked None (flat_map chunks_of es)
linked_nodes es s = subst (Linked None) (nodes_gathered es) (linked_groups None (map as_group es) (stored_groups es s))

-- an entry that can't follow what was gathered
pub refused : (groups : List Group) (e : Entry) → (Follows (last_of None (gathered groups)) e → ⊥) → BeginNone (gathered groups ++ e ∷ [])
refused groups e n nodes more s same =
    n (linked_at None (gathered groups) e more (subst (Linked None) (same ∙ append_assoc (gathered groups) (e ∷ []) more) (linked_nodes nodes s)))

-- ---- groups are told by their chunks

first_differs : (l : List ℤ) (n : ℕ) (q : List ℕ) (m : Entries) (gs : List Group) → AreGroups gs → 1 ≤ n → n < 4294967296 → gathered gs ≡ (chunk_key l n, q) ∷ m → ⊥
first_differs l n q m [] a p h e = absurd cc
first_differs l n q m (g ∷ gs) a p h e = by g.pieces a.0.cut e
  where
    by : (ps : List (List ℕ)) → IsCut ps → numbered g.label 0 ps ++ gathered gs ≡ (chunk_key l n, q) ∷ m → ⊥
    by [] c e = absurd c
    by (r ∷ ps) c e =
        let k : chunk_key g.label 0 ≡ chunk_key l n = ap first_key e in
        let t = (key_parts g.label l 0 n (omega arith) h k).1 in absurd (omega arith)

abbrev first_value : Entries → List ℕ
first_value [] = []
first_value (x ∷ xs) = x.1

same_pieces : (l : List ℤ) (n : ℕ) (ps qs : List (List ℕ)) (gs hs : List Group) → AreGroups gs → AreGroups hs → 1 ≤ n → n + length ps ≤ 4294967296 → n + length qs ≤ 4294967296
    → numbered l n ps ++ gathered gs ≡ numbered l n qs ++ gathered hs → (ps ≡ qs) × (gathered gs ≡ gathered hs)
same_pieces l n [] [] gs hs a b p h k e = (refl, e)
same_pieces l n [] (q ∷ qs) gs hs a b p h k e = absurd (first_differs l n q (numbered l (n + 1) qs ++ gathered hs) gs a p (omega arith) e)
same_pieces l n (q ∷ ps) [] gs hs a b p h k e = absurd (first_differs l n q (numbered l (n + 1) ps ++ gathered gs) hs b p (omega arith) (sym e))
same_pieces l n (q ∷ ps) (r ∷ qs) gs hs a b p h k e =
    let s : q ≡ r = ap first_value e in
    let t = same_pieces l (n + 1) ps qs gs hs a b (omega arith) (omega arith) (omega arith) (ap (drop 1) e) in
    (λ i. s i ∷ t.0 i, t.1)

pub same_groups : OneLabel → (gs hs : List Group) → AreGroups gs → AreGroups hs → gathered gs ≡ gathered hs → gs ≡ hs
same_groups one [] [] a b e = refl
same_groups one [] (h ∷ hs) a b e = absurd (none_are h.pieces b.0.cut e)
  where
    none_are : (ps : List (List ℕ)) → IsCut ps → [] ≡ numbered h.label 0 ps ++ gathered hs → ⊥
    none_are [] c e = absurd c
    none_are (p ∷ ps) c e = absurd cc
same_groups one (g ∷ gs) [] a b e = absurd (none_are g.pieces a.0.cut e)
  where
    none_are : (ps : List (List ℕ)) → IsCut ps → numbered g.label 0 ps ++ gathered gs ≡ [] → ⊥
    none_are [] c e = absurd c
    none_are (p ∷ ps) c e = absurd cc
same_groups one (g ∷ gs) (h ∷ hs) a b e = by g.pieces h.pieces a.0.cut b.0.cut a.0.few b.0.few e refl refl (same_groups one gs hs a.1 b.1)
  where
    by : (ps qs : List (List ℕ)) → IsCut ps → IsCut qs → length ps ≤ 4294967296 → length qs ≤ 4294967296 → numbered g.label 0 ps ++ gathered gs ≡ numbered h.label 0 qs ++ gathered hs → g.pieces ≡ ps → h.pieces ≡ qs
        → (gathered gs ≡ gathered hs → gs ≡ hs) → g ∷ gs ≡ h ∷ hs
    by [] qs c d l m e x y f = absurd c
    by (p ∷ ps) [] c d l m e x y f = absurd d
    by (p ∷ ps) (q ∷ qs) c d l m e x y f =
        let k : chunk_key g.label 0 ≡ chunk_key h.label 0 = ap first_key e in
        let same : g.label ≡ h.label = one g.label h.label a.0.label b.0.label (key_parts g.label h.label 0 0 (omega arith) (omega arith) k).0 in
        let first : p ≡ q = ap first_value e in
        let rest : numbered h.label 1 ps ++ gathered gs ≡ numbered h.label 1 qs ++ gathered hs = ap (λ (z : List ℤ). numbered z 1 ps ++ gathered gs) (sym same) ∙ ap (drop 1) e in
        let t = same_pieces h.label 1 ps qs gs hs a.1 b.1 (omega arith) (omega arith) (omega arith) rest in
        let all : g.pieces ≡ h.pieces = x ∙ (λ i. first i ∷ t.0 i) ∙ sym y in
        let others = f t.1 in
        λ i. record { label = same i; pieces = all i } ∷ others i

-- two lists of nodes that are gathered alike
pub same_nodes : (es ds : List Labelled) → CanBeStored es → CanBeStored ds → map as_group es ≡ map as_group ds → es ≡ ds
same_nodes [] [] s t e = refl
same_nodes [] (d ∷ ds) s t e = absurd cc
same_nodes (e ∷ es) [] s t q = absurd cc
same_nodes (e ∷ es) (d ∷ ds) s t q =
    let g : as_group e ≡ as_group d = cc in
    let label : e.label ≡ d.label = ap (λ (z : Group). z.label) g in
    let bytes : content e.kind ≡ content d.kind = sym (joined (content e.kind)) ∙ (ap (λ (z : Group). join z.pieces) g ∙ joined (content d.kind)) in
    let kind = same_content e.kind d.kind s.1 t.1 bytes in
    let rest = same_nodes es ds s.2 t.2 cc in
    λ i. record { label = label i; kind = kind i } ∷ rest i

-- ---- one piece more

numbered_push : (l : List ℤ) (n : ℕ) (ps : List (List ℕ)) (p : List ℕ) → numbered l n (ps ++ p ∷ []) ≡ numbered l n ps ++ (chunk_key l (n + length ps), p) ∷ []
numbered_push l n [] p = let e : n ≡ n + 0 = omega arith in ap (λ (k : ℕ). (chunk_key l k, p) ∷ []) e
numbered_push l n (q ∷ ps) p =
    let e : n + 1 + length ps ≡ n + suc (length ps) = omega arith in
    ap (λ (z : Entries). (chunk_key l n, q) ∷ z) (numbered_push l (n + 1) ps p ∙ ap (λ (k : ℕ). numbered l (n + 1) ps ++ (chunk_key l k, p) ∷ []) e)

pub gathered_push : (gs : List Group) (g : Group) → gathered (gs ++ g ∷ []) ≡ gathered gs ++ group_chunks g
gathered_push gs g = flat_map-append group_chunks gs (g ∷ []) ∙ ap (λ (z : Entries). gathered gs ++ z) (append-nil (group_chunks g))

pub groups_parts : (gs : List Group) (g : Group) → AreGroups (gs ++ g ∷ []) → AreGroups gs × IsGroup g
groups_parts [] g a = (tt, a.0)
groups_parts (h ∷ gs) g a = let t = groups_parts gs g a.1 in ((a.0, t.0), t.1)

pub groups_push : (gs : List Group) (g : Group) → AreGroups gs → IsGroup g → AreGroups (gs ++ g ∷ [])
groups_push [] g a i = (i, tt)
groups_push (h ∷ gs) g a i = (a.0, groups_push gs g a.1 i)

cut_push : (front : List (List ℕ)) (last p : List ℕ) → IsCut (front ++ last ∷ []) → length last ≡ piece_limit → (1 ≤ length p) × (length p ≤ piece_limit) → IsCut ((front ++ last ∷ []) ++ p ∷ [])
cut_push [] last p c f s = (f, s)
cut_push (q ∷ []) last p c f s = (c.0, (f, s))
cut_push (q ∷ (r ∷ front)) last p c f s = (c.0, cut_push (r ∷ front) last p c.1 f s)

last_push : (before : Option Entry) (es : Entries) (d : Entry) → last_of before (es ++ d ∷ []) ≡ Some d
last_push before [] d = refl
last_push before (e ∷ es) d = last_push (Some e) es d

last_gathered : (gs : List Group) (l : List ℤ) (front : List (List ℕ)) (last : List ℕ) → last_of None (gathered (gs ++ record { label = l; pieces = front ++ last ∷ [] } ∷ [])) ≡ Some (chunk_key l (length front), last)
last_gathered gs l front last =
    let zeroth : 0 + length front ≡ length front = omega arith in
    ap (last_of None) (gathered_push gs (record { label = l; pieces = front ++ last ∷ [] }) ∙ ap (λ (z : Entries). gathered gs ++ z) (numbered_push l 0 front last ∙ ap (λ (k : ℕ). numbered l 0 front ++ (chunk_key l k, last) ∷ []) zeroth)
    ∙ sym (append_assoc (gathered gs) (numbered l 0 front) ((chunk_key l (length front), last) ∷ [])))
    ∙ last_push None (gathered gs ++ numbered l 0 front) (chunk_key l (length front), last)

-- what a chunk that is not a node's first tells of the one before it
pub record GoesOn (l : List ℤ) (n : ℕ) (last : List ℕ) (label : List ℤ) (number : ℕ) : Type 0 where
  pub same : l ≡ label
  pub next : n + 1 ≡ number
  pub full : length last ≡ piece_limit

goes_on : OneLabel → (l : List ℤ) (n : ℕ) (last : List ℕ) (label : List ℤ) (number : ℕ) (piece : List ℕ) → IsLabel l → n < 4294967296 → IsLabel label → 0 < number → number < 4294967296
    → Follows (Some (chunk_key l n, last)) (chunk_key label number, piece) → GoesOn l n last label number
goes_on one l n last label number piece g b h p q f =
    let k = f.key in
    let s = key_parts label k.label number k.number q k.few k.is in
    by k.number refl s
  where
    by : (m : ℕ) → f.key.number ≡ m → (bytes_of label ≡ bytes_of f.key.label) × (number ≡ f.key.number) → GoesOn l n last label number
    by zero e s = let t = s.1 in absurd (omega arith)
    by (suc i) e s =
        let w = f.next i e in
        let few = f.key.few in
        let t = key_parts l f.key.label n i b (omega arith) w.0 in
        let u = s.1 in
        let v = t.1 in
        record { same = one l f.key.label g f.key.good t.0 ∙ sym (one label f.key.label h f.key.good s.0); next = omega arith; full = w.1 }

-- where that does not hold of the last chunk gathered, no chunks of nodes begin so
pub goes_not_on : OneLabel → (groups gs : List Group) (g : Group) (front : List (List ℕ)) (last : List ℕ) (label : List ℤ) (number : ℕ) (piece : List ℕ) → AreGroups groups → groups ≡ gs ++ g ∷ [] → g.pieces ≡ front ++ last ∷ [] → IsLabel label → 0 < number → number < 4294967296
    → (GoesOn g.label (length front) last label number → ⊥) → BeginNone (gathered groups ++ (chunk_key label number, piece) ∷ [])
goes_not_on one groups gs g front last label number piece a e w h p q n =
    let t = groups_parts gs g (subst AreGroups e a) in
    let same : g ≡ record { label = g.label; pieces = front ++ last ∷ [] } = λ i. record { label = g.label; pieces = w i } in
    let is : last_of None (gathered groups) ≡ Some (chunk_key g.label (length front), last) =
    ap (λ (z : List Group). last_of None (gathered z)) e ∙ ap (λ (z : Group). last_of None (gathered (gs ++ z ∷ []))) same ∙ last_gathered gs g.label front last in
    let few = t.1.few in
    let size : length g.pieces ≡ length front + 1 = ap length w ∙ length-append front (last ∷ []) in
    refused groups (chunk_key label number, piece) (λ f.
    n (goes_on one g.label (length front) last label number piece t.1.label (omega arith) h p q (subst (λ (z : Option Entry). Follows z (chunk_key label number, piece)) is f)))

pub goes_not_first : (label : List ℤ) (number : ℕ) (piece : List ℕ) → 0 < number → number < 4294967296 → BeginNone ((chunk_key label number, piece) ∷ [])
goes_not_first label number piece p q = refused [] (chunk_key label number, piece) (λ f.
    let s = key_parts label f.key.label number f.key.number q f.key.few f.key.is in by f f.key.number refl s.1)
  where
    by : (f : Follows None (chunk_key label number, piece)) (m : ℕ) → f.key.number ≡ m → number ≡ f.key.number → ⊥
    by f zero e s = absurd (omega arith)
    by f (suc i) e s = f.next i e

pub put_behind : (groups gs more : List Group) (g : Group) (front : List (List ℕ)) (last : List ℕ) (label : List ℤ) (number : ℕ) (piece : List ℕ) → AreGroups groups → groups ≡ gs ++ g ∷ [] → g.pieces ≡ front ++ last ∷ []
    → GoesOn g.label (length front) last label number → number < 4294967296 → (1 ≤ length piece) × (length piece ≤ piece_limit) → more ≡ gs ++ record { label = g.label; pieces = (front ++ last ∷ []) ++ piece ∷ [] } ∷ []
    → (gathered more ≡ gathered groups ++ (chunk_key label number, piece) ∷ []) × AreGroups more
put_behind groups gs more g front last label number piece a e w n q s m =
    let t = groups_parts gs g (subst AreGroups e a) in
    let ps = front ++ last ∷ [] in
    let h : Group = record { label = g.label; pieces = ps ++ piece ∷ [] } in
    let size : length ps ≡ length front + 1 = length-append front (last ∷ []) in
    let size2 : length (ps ++ piece ∷ []) ≡ length ps + 1 = length-append ps (piece ∷ []) in
    let k = n.next in
    let count : 0 + length ps ≡ number = omega arith in (
      ap gathered m ∙ gathered_push gs h ∙ ap (λ (z : Entries). gathered gs ++ z) (numbered_push g.label 0 ps piece)
          ∙ sym (append_assoc (gathered gs) (numbered g.label 0 ps) ((chunk_key g.label (0 + length ps), piece) ∷ []))
          ∙ ap (λ (z : List (List ℕ)). (gathered gs ++ numbered g.label 0 z) ++ (chunk_key g.label (0 + length ps), piece) ∷ []) (sym w)
          ∙ ap (λ (z : Entries). z ++ (chunk_key g.label (0 + length ps), piece) ∷ []) (sym (ap gathered e ∙ gathered_push gs g))
          ∙ ap (λ (z : List ℤ). gathered groups ++ (chunk_key z (0 + length ps), piece) ∷ []) n.same
          ∙ ap (λ (z : ℕ). gathered groups ++ (chunk_key label z, piece) ∷ []) count,
      subst AreGroups (sym m) (groups_push gs h t.0 (record { label = t.1.label; cut = cut_push front last piece (subst IsCut w t.1.cut) n.full s; few = omega arith })),
    )

pub put_begun : (groups more : List Group) (label : List ℤ) (piece : List ℕ) → AreGroups groups → IsLabel label → (1 ≤ length piece) × (length piece ≤ piece_limit) → more ≡ groups ++ record { label = label; pieces = piece ∷ [] } ∷ []
    → (gathered more ≡ gathered groups ++ (chunk_key label 0, piece) ∷ []) × AreGroups more
put_begun groups more label piece a g s m =
    let h : Group = record { label = label; pieces = piece ∷ [] } in
    (ap gathered m ∙ gathered_push groups h, subst AreGroups (sym m) (groups_push groups h a (record { label = g; cut = s; few = omega arith })))

-- a value of another size, or a key that is no chunk's
pub other_size : (groups : List Group) (e : Entry) → ((1 ≤ length e.1) → (length e.1 ≤ piece_limit) → ⊥) → BeginNone (gathered groups ++ e ∷ [])
other_size groups e n = refused groups e (λ f. n f.size.0 f.size.1)

pub other_key : (groups : List Group) (e : Entry) → (IsChunk e.0 → ⊥) → BeginNone (gathered groups ++ e ∷ [])
other_key groups e n = refused groups e (λ f. n f.key)

pub unread : (key : List ℕ) → StandsFor key None → IsChunk key → ⊥
unread key s k = s (Chunk k.label k.number) (k.good, k.few) (sym k.is)

pub unequal : (b r : Bool) → r ≡ not b → r ≡ true → b ≡ false
unequal true r e f = absurd cc
unequal false r e f = refl

pub equal : (b r : Bool) → r ≡ not b → r ≡ false → b ≡ true
equal true r e f = refl
equal false r e f = absurd cc
