-- What is read without a blame are nodes that may stand where they hang.
use Rattle.std.proofs.Common.{◌≡◌, ℕ, ◌+◌, ◌*◌, ◌/◌, ◌<◌, ◌≤◌, Bool, true, false, cond, ◌&&◌, List, [], ◌∷◌, ◌++◌, length, refl, ap, sym, subst, Option, Some, None, Ok, Err, arith}
use Rattle.std.specs.Prelude.{◌==◌, nat_le, not}
use Rattle.std.specs.Cmp.Lexicographic.{pointwise}
use Rattle.std.specs.Ordering.{int_eq}
use Rattle.std.proofs.lemmas.Bool.{and_from, and_parts}
use Rattle.std.proofs.lemmas.List.{length-append}
use Rattle.mm_keeper.specs.Entries.{Entries, Entry}
use Rattle.mm_label.specs.Label.{IsLabel, level}
use Rattle.mm_tree.specs.declared.plain.Kind.{Kind}
use Rattle.mm_tree.specs.declared.plain.Kind.TheVariants.{Element, Words}
use Rattle.mm_tree.specs.Forests.{level_limit}
use Rattle.mm_tree.specs.Numbering.{Labelled}
use Rattle.mm_tree.specs.Validity.{has_valid_parts, is_element, is_valid_kind, piece_count}
use Rattle.mm_image.specs.Content.{content}
use Rattle.mm_image.specs.Fields.{Field, Short, Wrong, Right, is_text, kind_told, may_stand, standing}
use Rattle.mm_check.specs.Laws.{AreBytes, AreValues}
use Rattle.mm_check.specs.Reading.{Open, Place, Progress, ◌&>◌, begins_text, continued, ended, ended_node, hangs, is_first, is_label, is_next, is_piece, kind_of, last_piece, not_due, ok_if, place_of, read, started, step_at}
use Rattle.mm_image.specs.Facts.Pieces.{count_is}
use Rattle.mm_image.specs.Laws.{ReadAreContents}
use Rattle.mm_check.proofs.Parts.{IsPlaced, at_most, byte_at, bytes_joined, label_of, ok_parts, piece_size, placed, same_number, then_parts}

-- ---- nodes

-- a node may stand after these, the latest first
pub record IsRead (nodes : List Labelled) (e : Labelled) : Type 0 where
  pub label : IsLabel e.label
  pub hung : hangs nodes e.label ≡ true
  pub shallow : nat_le (level e.label) level_limit ≡ true
  pub kind : is_valid_kind e.kind ≡ true
  pub top : level e.label ≡ 1 → is_element e.kind ≡ true

abbrev pub AllRead : List Labelled → Type 0
AllRead [] = Unit {0}
AllRead (e ∷ nodes) = IsRead nodes e × AllRead nodes

-- a node of which pieces were read
pub record Opened (nodes : List Labelled) (o : Open) : Type 0 where
  pub label : is_label o.label ≡ true
  pub hung : hangs nodes o.label ≡ true
  pub shallow : nat_le (level o.label) level_limit ≡ true
  pub bytes : AreBytes o.content
  pub some : 1 ≤ length o.content
  pub size : length o.content ≤ 1000 * (o.number + 1)
  pub number : o.number < 4294967296
  pub top : not ((level o.label == 1) && begins_text o.content) ≡ true

-- ---- a node that ends

pub told : (f : Field Kind) (o : Open) (k : Kind) → kind_of f o ≡ Ok k → kind_told f ≡ Some k
told Short o k e = absurd cc
told Wrong o k e = absurd cc
told (Right (Element name attributes) rest) o k e = let p : Element name attributes ≡ k = cc in ap Some p
told (Right (Words text) rest) o k e = by (is_text text) e
  where
    by : (b : Bool) → ok_if b (Words text) (last_piece o) ≡ Ok k → cond b (Some (Words text)) None ≡ Some k
    by true e = let p : Words text ≡ k = cc in ap Some p
    by false e = absurd cc

valid_of : (k : Kind) (n : ℕ) → has_valid_parts k ≡ true → length (content k) ≤ 1000 * (n + 1) → n < 4294967296 → is_valid_kind k ≡ true
unfolding is_valid_kind
valid_of k n v l b = let s = count_is k in and_from (has_valid_parts k) _ v (at_most (piece_count k) 4294967296 (few (length (content k)) n (piece_count k) s l b))
  where
    few : (s n c : ℕ) → (s + 999) / 1000 ≡ c → s ≤ 1000 * (n + 1) → n < 4294967296 → c ≤ 4294967296
    few s n c e l b = omega arith

top_is : (l : ℕ) (bytes : List ℕ) (k : Kind) → bytes ≡ content k → not ((l == 1) && begins_text bytes) ≡ true → l ≡ 1 → is_element k ≡ true
top_is l bytes (Element name attributes) w t e = refl
top_is l bytes (Words text) w t e =
    let z : not ((1 == 1) && begins_text (84 ∷ text)) ≡ true =
    subst (λ (x : ℕ). not ((x == 1) && begins_text (84 ∷ text)) ≡ true) e (subst (λ (x : List ℕ). not ((l == 1) && begins_text x) ≡ true) w t) in absurd cc

abbrev pub first_open : Place → List ℕ → Open
first_open p value = record { label = p.label; number = p.number; last = value; content = value }

abbrev pub next_open : Open → Place → List ℕ → Open
next_open o p value = record { label = o.label; number = p.number; last = value; content = o.content ++ value }

-- what the entries behind this one leave
abbrev Later : Entries → List Labelled → Type 0
Later es ns = (nodes : List Labelled) (o : Open) → AllRead nodes → Opened nodes o → read nodes (Some o) es ≡ Ok ns → AllRead ns

module _ (contents : ReadAreContents) where
  closed : (nodes : List Labelled) (o : Open) (e : Labelled) → Opened nodes o → ended_node o ≡ Ok e → IsRead nodes e
  closed nodes o e a h =
      let t = then_parts (kind_of (standing o.content) o) (λ kind. Ok (record { label = o.label; kind = kind })) e h in
      let c = contents o.content t.x (byte_at o.content a.bytes) (told (standing o.content) o t.x t.first) in
      let s = t.second in
      let made : Labelled = record { label = o.label; kind = t.x } in
      let p : made ≡ e = cc in
      subst (IsRead nodes) p (record {
        label = label_of o.label a.label;
        hung = a.hung;
        shallow = a.shallow;
        kind = valid_of t.x o.number c.1 (subst (λ (z : List ℕ). length z ≤ 1000 * (o.number + 1)) c.0 a.size) a.number;
        top = top_is (level o.label) o.content t.x c.0 a.top;
      })

  ended_read : (nodes : List Labelled) (o : Open) (ns : List Labelled) → AllRead nodes → Opened nodes o → ended nodes (Some o) ≡ Ok ns → AllRead ns
  ended_read nodes o ns r a h =
      let t = then_parts (ended_node o) (λ e. Ok (e ∷ nodes)) ns h in
      let s = t.second in
      let p : t.x ∷ nodes ≡ ns = cc in
      subst AllRead p (closed nodes o t.x a t.first, r)

  -- ---- one piece more

  opened_first : (nodes : List Labelled) (key : List ℕ) (p : Place) (value : List ℕ) → IsPlaced key p → AreBytes value → is_first nodes p value ≡ true → Opened nodes (first_open p value)
  opened_first nodes key p value q b e =
      let a = and_parts (p.number == 0) _ e in
      let c = and_parts (hangs nodes p.label) _ a.1 in
      let d = and_parts (nat_le (level p.label) level_limit) _ c.1 in
      let f = and_parts (is_piece value) _ d.1 in
      let g = and_parts (may_stand value) _ f.1 in
      let s = piece_size value f.0 in
      record { label = q.label; hung = c.0; shallow = d.0; bytes = b; some = s.0; size = wide (length value) p.number s.1; number = q.number; top = g.1 }
    where
      wide : (l n : ℕ) → l ≤ 1000 → l ≤ 1000 * (n + 1)
      wide l n h = omega arith

  begins_more : (a b : List ℕ) → 1 ≤ length a → begins_text (a ++ b) ≡ begins_text a
  begins_more [] b h = absurd (omega arith)
  begins_more (x ∷ a) b h = refl

  opened_next : (nodes : List Labelled) (o : Open) (key : List ℕ) (p : Place) (value : List ℕ) → Opened nodes o → IsPlaced key p → AreBytes value → is_next o p value ≡ true → Opened nodes (next_open o p value)
  opened_next nodes o key p value a q b e =
      let c = and_parts (p.number == o.number + 1) _ e in
      let d = and_parts (length o.last == 1000) _ c.1 in
      let f = and_parts (is_piece value) _ d.1 in
      let s = piece_size value f.0 in
      let n = same_number p.number (o.number + 1) c.0 in
      let l = length-append o.content value in
      record {
        label = a.label;
        hung = a.hung;
        shallow = a.shallow;
        bytes = bytes_joined o.content value a.bytes b;
        some = longer (length (o.content ++ value)) (length o.content) (length value) l a.some;
        size = wide (length (o.content ++ value)) (length o.content) (length value) o.number p.number l n a.size s.1;
        number = q.number;
        top = subst (λ (t : Bool). not ((level o.label == 1) && t) ≡ true) (sym (begins_more o.content value a.some)) a.top;
      }
    where
      longer : (j x y : ℕ) → j ≡ x + y → 1 ≤ x → 1 ≤ j
      longer j x y e h = omega arith

      wide : (j x y n m : ℕ) → j ≡ x + y → m ≡ n + 1 → x ≤ 1000 * (n + 1) → y ≤ 1000 → j ≤ 1000 * (m + 1)
      wide j x y n m e f h k = omega arith

  -- ---- one entry more

  start_read : (nodes : List Labelled) (p : Place) (e : Entry) (es : Entries) (ns : List Labelled) (r : Progress) → AllRead nodes → IsPlaced e.0 p → AreBytes e.1 → Later es ns → started nodes p e ≡ Ok r → read r.nodes r.node es ≡ Ok ns → AllRead ns
  start_read nodes p e es ns r a q b ih s rd =
      let next : Progress = record { nodes = nodes; node = Some (first_open p e.1) } in
      let t = ok_parts (is_first nodes p e.1) next r (not_due e) s in
      ih nodes (first_open p e.1) a (opened_first nodes e.0 p e.1 q b t.0) (subst (λ (z : Progress). read z.nodes z.node es ≡ Ok ns) (sym t.1) rd)

  go_on : (nodes : List Labelled) (o : Open) (p : Place) (e : Entry) (es : Entries) (ns : List Labelled) (r : Progress) → AllRead nodes → Opened nodes o → IsPlaced e.0 p → AreBytes e.1 → Later es ns → continued nodes o p e ≡ Ok r → read r.nodes r.node es ≡ Ok ns → AllRead ns
  go_on nodes o p e es ns r a k q b ih s rd =
      let next : Progress = record { nodes = nodes; node = Some (next_open o p e.1) } in
      let t = ok_parts (is_next o p e.1) next r (not_due e) s in
      ih nodes (next_open o p e.1) a (opened_next nodes o e.0 p e.1 k q b t.0) (subst (λ (z : Progress). read z.nodes z.node es ≡ Ok ns) (sym t.1) rd)

  go_new : (nodes : List Labelled) (o : Open) (p : Place) (e : Entry) (es : Entries) (ns : List Labelled) (r : Progress) → AllRead nodes → Opened nodes o → IsPlaced e.0 p → AreBytes e.1 → Later es ns → (ended nodes (Some o) &> λ nodes. started nodes p e) ≡ Ok r
      → read r.nodes r.node es ≡ Ok ns → AllRead ns
  go_new nodes o p e es ns r a k q b ih s rd =
      let d = then_parts (ended nodes (Some o)) (λ nodes. started nodes p e) r s in
      start_read d.x p e es ns r (ended_read nodes o d.x a k d.first) q b ih d.second rd

  step_read : (nodes : List Labelled) (o : Open) (e : Entry) (es : Entries) (ns : List Labelled) (r : Progress) (q : Option Place) → place_of e.0 ≡ q → AllRead nodes → Opened nodes o → AreBytes e.1 → Later es ns → step_at nodes (Some o) q e ≡ Ok r
      → read r.nodes r.node es ≡ Ok ns → AllRead ns
  step_read nodes o e es ns r None q a k b ih s rd = let t = then_parts (ended nodes (Some o)) (λ _. Err (not_due e)) r s in let w = t.second in absurd cc
  step_read nodes o e es ns r (Some p) q a k b ih s rd = by (pointwise int_eq o.label p.label) s
    where
      by : (t : Bool) → cond t (continued nodes o p e) (ended nodes (Some o) &> λ nodes. started nodes p e) ≡ Ok r → AllRead ns
      by true s = go_on nodes o p e es ns r a k (placed e.0 p q) b ih s rd
      by false s = go_new nodes o p e es ns r a k (placed e.0 p q) b ih s rd

  reads : (es : Entries) (nodes : List Labelled) (o : Open) (ns : List Labelled) → AreValues es → AllRead nodes → Opened nodes o → read nodes (Some o) es ≡ Ok ns → AllRead ns
  reads [] nodes o ns v a k h = ended_read nodes o ns a k h
  reads (e ∷ es) nodes o ns v a k h =
      let t = then_parts (step_at nodes (Some o) (place_of e.0) e) (λ r. read r.nodes r.node es) ns h in
      step_read nodes o e es ns t.x (place_of e.0) refl a k v.0 (λ nodes o a k h. reads es nodes o ns v.1 a k h) t.first t.second

  first_read : (e : Entry) (es : Entries) (ns : List Labelled) (r : Progress) (q : Option Place) → place_of e.0 ≡ q → AreBytes e.1 → AreValues es → step_at [] None q e ≡ Ok r → read r.nodes r.node es ≡ Ok ns → AllRead ns
  first_read e es ns r None q b v s rd = absurd cc
  first_read e es ns r (Some p) q b v s rd = start_read [] p e es ns r tt (placed e.0 p q) b (λ nodes o a k h. reads es nodes o ns v a k h) s rd

  pub all_read : (es : Entries) (ns : List Labelled) → AreValues es → read [] None es ≡ Ok ns → AllRead ns
  all_read [] ns v h = let e : [] ≡ ns = cc in subst AllRead e tt
  all_read (e ∷ es) ns v h =
      let t = then_parts (step_at [] None (place_of e.0) e) (λ r. read r.nodes r.node es) ns h in
      first_read e es ns t.x (place_of e.0) refl v.0 v.1 t.first t.second
