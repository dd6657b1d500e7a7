-- Entries that are read without a blame are the chunks of the nodes that they spell.
use Rattle.std.proofs.Common.{◌≡◌, ℕ, ℤ, suc, ◌+◌, ◌*◌, ◌/◌, ◌≤◌, Bool, true, false, cond, List, [], ◌∷◌, ◌++◌, length, take, drop, map, reverse, refl, ap, ap₂, sym, subst, ◌∙◌, append-nil, append_assoc, Option, Some, None, Ok, Err, arith}
use Rattle.std.specs.Prelude.{◌==◌, flat_map}
use Rattle.std.specs.List.{range_with_len}
use Rattle.std.specs.Cmp.Lexicographic.{pointwise}
use Rattle.std.specs.Ordering.{int_eq}
use Rattle.std.proofs.Math.Seq.{take-append_seam}
use Rattle.std.proofs.lemmas.Bool.{and_parts}
use Rattle.std.proofs.lemmas.List.{drop-drop, drop_at, length-append, take_all}
use Rattle.mm_keeper.specs.Entries.{Entries, Entry}
use Rattle.mm_label.specs.Facts.Order.{same_label}
use Rattle.mm_tree.specs.declared.plain.Kind.{Kind}
use Rattle.mm_tree.specs.Numbering.{Labelled}
use Rattle.mm_image.specs.Content.{content, piece}
use Rattle.mm_image.specs.Fields.{standing}
use Rattle.mm_image.specs.Image.{chunks_of}
use Rattle.mm_image.specs.Keys.{chunk_key}
use Rattle.mm_image.specs.Laws.{ReadAreContents}
use Rattle.mm_image.specs.Facts.Pieces.{count_is}
use Rattle.mm_check.specs.Laws.{AreBytes, AreValues}
use Rattle.mm_check.specs.Reading.{Open, Place, Progress, ◌&>◌, continued, ended, ended_node, is_first, is_next, is_piece, kind_of, not_due, place_of, read, started, step_at}
use Rattle.mm_check.proofs.Explaining.{first_open, next_open, told}
use Rattle.mm_check.proofs.Parts.{byte_at, bytes_joined, ok_parts, piece_size, placed, same_number, then_parts}
use Rattle.mm_check.proofs.Running.{onto}
use Rattle.mm_check.proofs.Sound.{turned_twice}

-- ---- pieces

abbrev join : List (List ℕ) → List ℕ
join [] = []
join (p ∷ ps) = p ++ join ps

abbrev numbered : List ℤ → ℕ → List (List ℕ) → Entries
numbered label n [] = []
numbered label n (p ∷ ps) = (chunk_key label n, p) ∷ numbered label (n + 1) ps

-- all pieces but the last are as long as may be
abbrev CutFrom : List ℕ → List (List ℕ) → Type 0
CutFrom p [] = (1 ≤ length p) × (length p ≤ 1000)
CutFrom p (q ∷ qs) = (length p ≡ 1000) × CutFrom q qs

pieces_are : (label : List ℤ) (kind : Kind) (n : ℕ) (p : List ℕ) (more : List (List ℕ)) → CutFrom p more → drop (1000 * n) (content kind) ≡ p ++ join more
    → numbered label n (p ∷ more) ≡ map (λ i. (chunk_key label i, piece kind i)) (range_with_len n (length (p ∷ more)))
pieces_are label kind n p [] c e = ap (λ (l : List ℕ). (chunk_key label n, l) ∷ []) (sym (ap (take 1000) (e ∙ append-nil p) ∙ take_all 1000 p c.1))
pieces_are label kind n p (q ∷ qs) c e =
    ap₂ (λ (l : List ℕ) (r : Entries). (chunk_key label n, l) ∷ r)
    (sym (ap (take 1000) e ∙ ap (λ (k : ℕ). take k (p ++ join (q ∷ qs))) (sym c.0) ∙ take-append_seam p (join (q ∷ qs))))
    (pieces_are label kind (n + 1) q qs c.1 (ap (λ (k : ℕ). drop k (content kind)) (mul_next n) ∙ sym (drop-drop 1000 (1000 * n) (content kind)) ∙ ap (drop 1000) e ∙ drop_at p (join (q ∷ qs)) 1000 c.0))
  where
    mul_next : (n : ℕ) → 1000 * (n + 1) ≡ 1000 * n + 1000
    mul_next n = omega arith

few_of : (p : List ℕ) (more : List (List ℕ)) → CutFrom p more → (length (join (p ∷ more)) + 999) / 1000 ≡ length (p ∷ more)
few_of p [] c = ap (λ (l : List ℕ). (length l + 999) / 1000) (append-nil p) ∙ one (length p) c.0 c.1
  where
    one : (k : ℕ) → 1 ≤ k → k ≤ 1000 → (k + 999) / 1000 ≡ 1
    one k a b = omega arith
few_of p (q ∷ qs) c = ap (λ (k : ℕ). (k + 999) / 1000) (length-append p (join (q ∷ qs))) ∙ ap (λ (k : ℕ). (k + length (join (q ∷ qs)) + 999) / 1000) c.0 ∙ more (length (join (q ∷ qs))) ∙ ap suc (few_of q qs c.1)
  where
    more : (k : ℕ) → (1000 + k + 999) / 1000 ≡ suc ((k + 999) / 1000)
    more k = omega arith

chunks_are : (e : Labelled) (p : List ℕ) (more : List (List ℕ)) → CutFrom p more → join (p ∷ more) ≡ content e.kind → numbered e.label 0 (p ∷ more) ≡ chunks_of e
chunks_are e p more c w =
    pieces_are e.label e.kind 0 p more c (sym w)
    ∙ ap (λ (k : ℕ). map (λ i. (chunk_key e.label i, piece e.kind i)) (range_with_len 0 k)) (sym (few_of p more c) ∙ ap (λ (l : List ℕ). (length l + 999) / 1000) w ∙ count_is e.kind)

-- ---- what is read from here on

record Explained (o : Open) (nodes : List Labelled) (es : Entries) (ns : List Labelled) : Type 0 where
  more : List (List ℕ)
  node : Labelled
  later : List Labelled
  label : node.label ≡ o.label
  entries : es ≡ numbered o.label (o.number + 1) more ++ flat_map chunks_of later
  whole : o.content ++ join more ≡ content node.kind
  cut : CutFrom o.last more
  result : ns ≡ onto (node ∷ nodes) later

-- what is kept of a node that is being read
record Held (o : Open) : Type 0 where
  bytes : AreBytes o.content
  last : (1 ≤ length o.last) × (length o.last ≤ 1000)

record Begun (nodes : List Labelled) (e : Entry) (es : Entries) (ns : List Labelled) : Type 0 where
  later : List Labelled
  entries : e ∷ es ≡ flat_map chunks_of later
  result : ns ≡ onto nodes later

record Spelled (es : Entries) (ns : List Labelled) : Type 0 where
  nodes : List Labelled
  entries : es ≡ flat_map chunks_of nodes
  result : ns ≡ onto [] nodes

-- what the entries behind this one tell
abbrev Later : Entries → List Labelled → Type 0
Later es ns = (o : Open) (nodes : List Labelled) → Held o → read nodes (Some o) es ≡ Ok ns → Explained o nodes es ns

begun : (nodes : List Labelled) (p : Place) (e : Entry) (es : Entries) (ns : List Labelled) → chunk_key p.label p.number ≡ e.0 → p.number ≡ 0 → Explained (first_open p e.1) nodes es ns → Begun nodes e es ns
begun nodes p e es ns k z x =
    let first : e ≡ (chunk_key x.node.label 0, e.1) = ap (λ (k : List ℕ). (k, e.1)) (sym k ∙ ap₂ chunk_key (sym x.label) z) in
    let rest : es ≡ numbered x.node.label 1 x.more ++ flat_map chunks_of x.later =
    x.entries ∙ ap₂ (λ (l : List ℤ) (n : ℕ). numbered l n x.more ++ flat_map chunks_of x.later) (sym x.label) (ap (λ (n : ℕ). n + 1) z) in
    record {
      later = x.node ∷ x.later;
      entries = ap₂ (λ (u : Entry) (v : Entries). u ∷ v) first rest ∙ ap (λ (l : Entries). l ++ flat_map chunks_of x.later) (chunks_are x.node e.1 x.more x.cut x.whole);
      result = x.result;
    }

module _ (contents : ReadAreContents) where
  whole_of : (o : Open) (e : Labelled) → AreBytes o.content → ended_node o ≡ Ok e → (e.label ≡ o.label) × (o.content ≡ content e.kind)
  whole_of o e a h =
      let t = then_parts (kind_of (standing o.content) o) (λ kind. Ok (record { label = o.label; kind = kind })) e h in
      let c = contents o.content t.x (byte_at o.content a) (told (standing o.content) o t.x t.first) in
      let s = t.second in
      let made : Labelled = record { label = o.label; kind = t.x } in
      let p : made ≡ e = cc in
      subst (λ (z : Labelled). (z.label ≡ o.label) × (o.content ≡ content z.kind)) p (refl, c.0)

  start_at : (nodes : List Labelled) (p : Place) (e : Entry) (es : Entries) (ns : List Labelled) (r : Progress) → chunk_key p.label p.number ≡ e.0 → AreBytes e.1 → Later es ns → started nodes p e ≡ Ok r → read r.nodes r.node es ≡ Ok ns → Begun nodes e es ns
  start_at nodes p e es ns r k a ih s rd =
      let t = ok_parts (is_first nodes p e.1) (record { nodes = nodes; node = Some (first_open p e.1) }) r (not_due e) s in
      let f = and_parts (p.number == 0) _ t.0 in
      let g = and_parts _ _ f.1 in
      let h = and_parts _ _ g.1 in
      let i = and_parts (is_piece e.1) _ h.1 in
      begun nodes p e es ns k (same_number p.number 0 f.0) (ih (first_open p e.1) nodes (record { bytes = a; last = piece_size e.1 i.0 }) (subst (λ (z : Progress). read z.nodes z.node es ≡ Ok ns) (sym t.1) rd))

  go_on : (nodes : List Labelled) (o : Open) (p : Place) (e : Entry) (es : Entries) (ns : List Labelled) (r : Progress) → Held o → chunk_key p.label p.number ≡ e.0 → AreBytes e.1 → o.label ≡ p.label → Later es ns → continued nodes o p e ≡ Ok r → read r.nodes r.node es ≡ Ok ns → Explained o nodes (e ∷ es) ns
  go_on nodes o p e es ns r k q a same ih s rd =
      let t = ok_parts (is_next o p e.1) (record { nodes = nodes; node = Some (next_open o p e.1) }) r (not_due e) s in
      let f = and_parts (p.number == o.number + 1) _ t.0 in
      let g = and_parts (length o.last == 1000) _ f.1 in
      let i = and_parts (is_piece e.1) _ g.1 in
      let n = same_number p.number (o.number + 1) f.0 in
      let x = ih (next_open o p e.1) nodes (record { bytes = bytes_joined o.content e.1 k.bytes a; last = piece_size e.1 i.0 }) (subst (λ (z : Progress). read z.nodes z.node es ≡ Ok ns) (sym t.1) rd) in
      record {
        more = e.1 ∷ x.more;
        node = x.node;
        later = x.later;
        label = x.label;
        entries = ap₂ (λ (u : Entry) (v : Entries). u ∷ v) (ap (λ (c : List ℕ). (c, e.1)) (sym q ∙ ap₂ chunk_key (sym same) n)) (x.entries ∙ ap (λ (i : ℕ). numbered o.label (i + 1) x.more ++ flat_map chunks_of x.later) n);
        whole = sym (append_assoc o.content e.1 (join x.more)) ∙ x.whole;
        cut = (same_number (length o.last) 1000 g.0, x.cut);
        result = x.result;
      }

  go_new : (nodes : List Labelled) (o : Open) (p : Place) (e : Entry) (es : Entries) (ns : List Labelled) (r : Progress) → Held o → chunk_key p.label p.number ≡ e.0 → AreBytes e.1 → Later es ns → (ended nodes (Some o) &> λ nodes. started nodes p e) ≡ Ok r → read r.nodes r.node es ≡ Ok ns
      → Explained o nodes (e ∷ es) ns
  go_new nodes o p e es ns r k w a ih s rd =
      let d = then_parts (ended nodes (Some o)) (λ nodes. started nodes p e) r s in
      let b = then_parts (ended_node o) (λ e. Ok (e ∷ nodes)) d.x d.first in
      let c = whole_of o b.x k.bytes b.first in
      let u = b.second in
      let same : b.x ∷ nodes ≡ d.x = cc in
      let g = start_at d.x p e es ns r w a ih d.second rd in
      record {
        more = [];
        node = b.x;
        later = g.later;
        label = c.0;
        entries = g.entries;
        whole = append-nil o.content ∙ c.1;
        cut = k.last;
        result = g.result ∙ ap (λ (z : List Labelled). onto z g.later) (sym same);
      }

  explain_step : (nodes : List Labelled) (o : Open) (e : Entry) (es : Entries) (ns : List Labelled) (r : Progress) (q : Option Place) → place_of e.0 ≡ q → Held o → AreBytes e.1 → Later es ns → step_at nodes (Some o) q e ≡ Ok r → read r.nodes r.node es ≡ Ok ns → Explained o nodes (e ∷ es) ns
  explain_step nodes o e es ns r None q k a ih s rd =
      let t = then_parts (ended nodes (Some o)) (λ _. Err (not_due e)) r s in
      let w = t.second in absurd cc
  explain_step nodes o e es ns r (Some p) q k a ih s rd = by (pointwise int_eq o.label p.label) refl s
    where
      by : (t : Bool) → pointwise int_eq o.label p.label ≡ t → cond t (continued nodes o p e) (ended nodes (Some o) &> λ nodes. started nodes p e) ≡ Ok r → Explained o nodes (e ∷ es) ns
      by true y s = go_on nodes o p e es ns r k (placed e.0 p q).is a (same_label o.label p.label y) ih s rd
      by false y s = go_new nodes o p e es ns r k (placed e.0 p q).is a ih s rd

  explain : (es : Entries) (o : Open) (nodes : List Labelled) (ns : List Labelled) → Held o → AreValues es → read nodes (Some o) es ≡ Ok ns → Explained o nodes es ns
  explain [] o nodes ns k v h =
      let t = then_parts (ended_node o) (λ e. Ok (e ∷ nodes)) ns h in
      let c = whole_of o t.x k.bytes t.first in
      let s = t.second in
      let same : t.x ∷ nodes ≡ ns = cc in
      record { more = []; node = t.x; later = []; label = c.0; entries = refl; whole = append-nil o.content ∙ c.1; cut = k.last; result = sym same }
  explain (e ∷ es) o nodes ns k v h =
      let t = then_parts (step_at nodes (Some o) (place_of e.0) e) (λ r. read r.nodes r.node es) ns h in
      explain_step nodes o e es ns t.x (place_of e.0) refl k v.0 (λ o nodes k h. explain es o nodes ns k v.1 h) t.first t.second

  from_none : (e : Entry) (es : Entries) (ns : List Labelled) (r : Progress) (q : Option Place) → place_of e.0 ≡ q → AreBytes e.1 → AreValues es → step_at [] None q e ≡ Ok r → read r.nodes r.node es ≡ Ok ns → Spelled (e ∷ es) ns
  from_none e es ns r None q a v s rd = absurd cc
  from_none e es ns r (Some p) q a v s rd =
      let g = start_at [] p e es ns r (placed e.0 p q).is a (λ o nodes k h. explain es o nodes ns k v h) s rd in
      record { nodes = g.later; entries = g.entries; result = g.result }

  spelled : (es : Entries) (ns : List Labelled) → AreValues es → read [] None es ≡ Ok ns → Spelled es ns
  spelled [] ns v h = record { nodes = []; entries = refl; result = let e : [] ≡ ns = cc in sym e }
  spelled (e ∷ es) ns v h =
      let t = then_parts (step_at [] None (place_of e.0) e) (λ r. read r.nodes r.node es) ns h in
      from_none e es ns t.x (place_of e.0) refl v.0 v.1 t.first t.second

  -- what is read without a blame are the chunks of the nodes that were read
  pub read_chunks : (es : Entries) (ns : List Labelled) → AreValues es → read [] None es ≡ Ok ns → es ≡ flat_map chunks_of (reverse ns)
  read_chunks es ns v h = let s = spelled es ns v h in s.entries ∙ ap (flat_map chunks_of) (sym (ap reverse s.result ∙ turned_twice s.nodes))
