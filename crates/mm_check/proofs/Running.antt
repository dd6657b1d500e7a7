-- The chunks of nodes are read without a blame.
use Rattle.std.proofs.Common.{inl, ◌≡◌, ℕ, ℤ, suc, ◌+◌, ◌-◌, ◌<◌, ◌≤◌, Bool, true, false, cond, ◌&&◌, List, [], ◌∷◌, ◌++◌, length, take, drop, refl, ap, ap₂, sym, subst, ◌∙◌, append-nil, append_assoc, Option, Some, None, Result, Ok, arith}
use Rattle.std.specs.Prelude.{◌==◌, flat_map, nat_le, nat_lt, not}
use Rattle.std.proofs.lemmas.Bool.{and_from}
use Rattle.std.proofs.lemmas.List.{drop_at, length-append, take_at}
use Rattle.std.proofs.lemmas.Slice.Eq.{bytes_eq-Decides}
use Rattle.byteorder.specs.Endian.{big_bytes, big_number}
use Rattle.byteorder.specs.Numbers.{big_number-reads_back}
use Rattle.mm_keeper.specs.Entries.{Entries, Entry}
use Rattle.mm_label.specs.Bytes.{bytes_of}
use Rattle.mm_label.specs.Components.{components}
use Rattle.mm_label.specs.Label.{IsLabel, level}
use Rattle.mm_label.specs.Facts.Order.{label_other, label_same}
use Rattle.mm_tree.specs.declared.plain.Kind.{Kind}
use Rattle.mm_tree.specs.declared.plain.Kind.TheVariants.{Element, Words}
use Rattle.mm_tree.specs.Forests.{level_limit}
use Rattle.mm_tree.specs.Numbering.{Labelled}
use Rattle.mm_tree.specs.Validity.{has_valid_parts, is_element, is_valid_kind}
use Rattle.mm_image.specs.Content.{content}
use Rattle.mm_image.specs.Fields.{Field, Short, Wrong, Right, is_text, is_wrong, kind_told, may_stand, standing}
use Rattle.mm_image.specs.Image.{chunks_of}
use Rattle.mm_image.specs.Keys.{chunk_key}
use Rattle.mm_image.specs.Inside.Cutting.{join, numbered, pieces_of}
use Rattle.mm_image.specs.Inside.Gathered.{IsCut}
use Rattle.mm_check.specs.declared.verdict.Named.{Named}
use Rattle.mm_check.specs.Reading.{Open, Place, Progress, ◌&>◌, begins_text, continued, ended, ended_node, hangs, is_first, is_label, is_next, is_piece, is_place, kind_of, last_piece, not_due, ok_if, place_in, place_of, read, started, step_at}
use Rattle.mm_image.specs.Facts.Pieces.{chunks_are, cut_is, joined, pieces_few}
use Rattle.mm_image.specs.Laws.{ContentsAreRead}
use Rattle.mm_check.proofs.Lasting.{wrong_stays}
use Rattle.mm_check.proofs.Parts.{is_label_of, less, ok_yes, piece_yes, same_number, yes_eq}
use Rattle.mm_check.proofs.Explaining.{IsRead}
use Rattle.mm_check.proofs.Order.{Climb}

-- ---- keys

drop_in : (u v : List ℕ) → drop (length u + 2) (1 ∷ u ++ (0 ∷ v)) ≡ v
drop_in u v = ap (λ (l : List ℕ). drop (length u + 2) (1 ∷ l)) (sym (append_assoc u (0 ∷ []) v)) ∙ drop_at (1 ∷ u ++ (0 ∷ [])) v (length u + 2) (two (length (u ++ (0 ∷ []))) (length u) (length-append u (0 ∷ [])))
  where
    two : (n k : ℕ) → n ≡ k + 1 → suc n ≡ k + 2
    two n k e = omega arith

-- a label is read back from its bytes
abbrev pub ComponentsAgain : Type 0
ComponentsAgain = (a : List ℤ) → IsLabel a → components (bytes_of a) ≡ a

place_again : ComponentsAgain → (x : List ℤ) (n : ℕ) → IsLabel x → n < 4294967296 → place_in (chunk_key x n) ≡ record { label = x; number = n }
place_again again x n g h =
    let t : List ℕ = 0 ∷ big_bytes 4 n in
    let size : length (bytes_of x ++ t) ≡ length (bytes_of x) + 5 = length-append (bytes_of x) t in
    let a : take (length (chunk_key x n) - 6) (bytes_of x ++ t) ≡ bytes_of x = ap (λ (k : ℕ). take k (bytes_of x ++ t)) (less_six (length (bytes_of x ++ t)) (length (bytes_of x)) size) ∙ take_at (bytes_of x) t (length (bytes_of x)) refl in
    let b : drop (length (chunk_key x n) - 4) (chunk_key x n) ≡ big_bytes 4 n = ap (λ (k : ℕ). drop k (chunk_key x n)) (less_four (length (bytes_of x ++ t)) (length (bytes_of x)) size) ∙ drop_in (bytes_of x) (big_bytes 4 n) in
    ap₂ (λ (c : List ℤ) (d : ℕ). record { label = c; number = d }) (ap components a ∙ again x g) (ap (big_number 4) b ∙ big_number-reads_back 4 n [] h)
  where
    less_six : (l k : ℕ) → l ≡ k + 5 → suc l - 6 ≡ k
    less_six l k e = omega arith

    less_four : (l k : ℕ) → l ≡ k + 5 → suc l - 4 ≡ k + 2
    less_four l k e = omega arith

pub place_of_key : ComponentsAgain → (x : List ℤ) (n : ℕ) → IsLabel x → n < 4294967296 → place_of (chunk_key x n) ≡ Some (record { label = x; number = n })
unfolding place_of
place_of_key again x n g h =
    let p : Place = record { label = x; number = n } in
    let e : place_in (chunk_key x n) ≡ p = place_again again x n g h in
    let t : is_place p (chunk_key x n) ≡ true = and_from (is_label x) _ (is_label_of x g) (and_from (nat_lt n 4294967296) _ (less n 4294967296 h) ((bytes_eq-Decides (chunk_key x n) (chunk_key x n)).1 refl)) in
    ap (λ (q : Place). cond (is_place q (chunk_key x n)) (Some q) None) e ∙ ap (λ (b : Bool). cond b (Some p) None) t

-- ---- the beginning of a content is not wrong

may_begin : ContentsAreRead → (a b : List ℕ) (k : Kind) → has_valid_parts k ≡ true → a ++ b ≡ content k → may_stand a ≡ true
may_begin reads a b k g e = by (standing a) refl
  where
    by : (f : Field Kind) → standing a ≡ f → not (is_wrong f) ≡ true
    by Short q = refl
    by Wrong q =
        let w : standing (content k) ≡ Wrong = sym (ap standing e) ∙ wrong_stays a b q in
        let z : None ≡ Some k = sym (ap kind_told w) ∙ reads k g in absurd cc
    by (Right x r) q = refl

first_size : (p : List ℕ) (ps : List (List ℕ)) → IsCut (p ∷ ps) → (1 ≤ length p) × (length p ≤ 1000)
first_size p [] c = c
first_size p (q ∷ qs) c = let e = c.0 in (omega (arith, e), omega (arith, e))

valid_parts : (kind : Kind) → is_valid_kind kind ≡ true → has_valid_parts kind ≡ true
unfolding is_valid_kind
valid_parts kind h = (first_of (has_valid_parts kind) _ h)
  where
    first_of : (a b : Bool) → (a && b) ≡ true → a ≡ true
    first_of true b e = refl
    first_of false b e = e

-- ---- the pieces of a node

-- the node of e, all read
pub record Whole (o : Open) (e : Labelled) : Type 0 where
  pub label : o.label ≡ e.label
  pub content : o.content ≡ content e.kind

record Ran (nodes : List Labelled) (o : Open) (e : Labelled) (es rest : Entries) : Type 0 where
  last : Open
  whole : Whole last e
  ran : read nodes (Some o) es ≡ read nodes (Some last) rest

record RanFirst (nodes : List Labelled) (e : Labelled) (rest : Entries) : Type 0 where
  key : Entry
  others : Entries
  are : chunks_of e ≡ key ∷ others
  place : place_of key.0 ≡ Some (record { label = e.label; number = 0 })
  reading : Progress
  first : started nodes (record { label = e.label; number = 0 }) key ≡ Ok reading
  last : Open
  whole : Whole last e
  ran : read reading.nodes reading.node (others ++ rest) ≡ read nodes (Some last) rest

-- a kind that is told is the kind of the node that ends
pub kind_back : (f : Field Kind) (o : Open) (k : Kind) → kind_told f ≡ Some k → kind_of f o ≡ Ok k
kind_back Short o k e = absurd cc
kind_back Wrong o k e = absurd cc
kind_back (Right (Element name attributes) rest) o k e = let p : Element name attributes ≡ k = cc in ap Ok p
kind_back (Right (Words text) rest) o k e = by (is_text text) e
  where
    by : (b : Bool) → cond b (Some (Words text)) None ≡ Some k → ok_if b (Words text) (last_piece o) ≡ Ok k
    by true e = let p : Words text ≡ k = cc in ap Ok p
    by false e = absurd cc

-- nodes that may stand one after the other, behind these
abbrev pub AreNodes : List Labelled → List Labelled → Type 0
AreNodes nodes [] = Unit {0}
AreNodes nodes (e ∷ es) = IsRead nodes e × AreNodes (e ∷ nodes) es

-- the nodes, the latest first
abbrev pub onto : List Labelled → List Labelled → List Labelled
onto nodes [] = nodes
onto nodes (e ∷ es) = onto (e ∷ nodes) es

module _ (again : ComponentsAgain) (reads : ContentsAreRead) where
  run_pieces : (nodes : List Labelled) (o : Open) (e : Labelled) (ps : List (List ℕ)) (rest : Entries) → IsLabel o.label → o.label ≡ e.label → has_valid_parts e.kind ≡ true → IsCut (o.last ∷ ps) → o.content ++ join ps ≡ content e.kind
      → o.number + length ps < 4294967296 → Ran nodes o e (numbered o.label (o.number + 1) ps ++ rest) rest
  run_pieces nodes o e [] rest l s g c w b = record { last = o; whole = record { label = s; content = sym (append-nil o.content) ∙ w }; ran = refl }
  run_pieces nodes o e (q ∷ qs) rest l s g c w b =
      let next : Open = record { label = o.label; number = o.number + 1; last = q; content = o.content ++ q } in
      let p : Place = record { label = o.label; number = o.number + 1 } in
      let entry : Entry = (chunk_key o.label (o.number + 1), q) in
      let z = first_size q qs c.1 in
      let w2 : (o.content ++ q) ++ join qs ≡ content e.kind = append_assoc o.content q (join qs) ∙ w in
      let t : is_next o p q ≡ true =
      and_from (p.number == o.number + 1) _ (yes_eq (o.number + 1) (o.number + 1) refl)
      (and_from (length o.last == 1000) _ (yes_eq (length o.last) 1000 c.0) (and_from (is_piece q) _ (piece_yes q z.0 z.1) (may_begin reads (o.content ++ q) (join qs) e.kind g w2))) in
      let made : Progress = record { nodes = nodes; node = Some next } in
      let step : step_at nodes (Some o) (place_of (chunk_key o.label (o.number + 1))) entry ≡ Ok made =
      ap (λ (x : Option Place). step_at nodes (Some o) x entry) (place_of_key again o.label (o.number + 1) l (one_less o.number (length qs) b))
      ∙ ap (λ (x : Bool). cond x (continued nodes o p entry) (ended nodes (Some o) &> λ nodes. started nodes p entry)) (label_same o.label o.label refl)
      ∙ ok_yes (is_next o p q) made (not_due entry) t in
      let i = run_pieces nodes next e qs rest l s g c.1 w2 (shift o.number (length qs) b) in
      record { last = i.last; whole = i.whole; ran = ap (λ (x : Result Progress Named). x &> λ r. read r.nodes r.node (numbered o.label (o.number + 1 + 1) qs ++ rest)) step ∙ i.ran }
    where
      one_less : (n k : ℕ) → n + suc k < 4294967296 → n + 1 < 4294967296
      one_less n k h = omega arith

      shift : (n k : ℕ) → n + suc k < 4294967296 → n + 1 + k < 4294967296
      shift n k h = omega arith

  -- ---- a node ends

  abbrev done : Open → Kind → Result Labelled Named
  done o kind = Ok (record { label = o.label; kind = kind })

  end_is : (o : Open) (e : Labelled) → Whole o e → has_valid_parts e.kind ≡ true → ended_node o ≡ Ok e
  end_is o e w g =
      ap (λ (r : Result Kind Named). r &> done o) (kind_back (standing o.content) o e.kind (ap kind_told (ap standing w.content) ∙ reads e.kind g))
      ∙ ap same w.label
    where
      same : List ℤ → Result Labelled Named
      same l = Ok (record { label = l; kind = e.kind })

  ends_is : (nodes : List Labelled) (o : Open) (e : Labelled) → Whole o e → has_valid_parts e.kind ≡ true → ended nodes (Some o) ≡ Ok (e ∷ nodes)
  ends_is nodes o e w g = ap (λ (r : Result Labelled Named). r &> λ e. Ok (e ∷ nodes)) (end_is o e w g)

  -- ---- a first piece

  top_yes : (l : ℕ) (k : Kind) (p rest : List ℕ) → 1 ≤ length p → p ++ rest ≡ content k → (l ≡ 1 → is_element k ≡ true) → not ((l == 1) && begins_text p) ≡ true
  top_yes l k [] rest s w t = absurd (omega arith)
  top_yes l (Element name attributes) (b ∷ p) rest s w t = let h : b ≡ 69 = cc in mark (l == 1) b h
    where
      mark : (u : Bool) (b : ℕ) → b ≡ 69 → not (u && (b == 84)) ≡ true
      mark true b h = subst (λ (x : ℕ). not (x == 84) ≡ true) (sym h) refl
      mark false b h = refl
  top_yes l (Words text) (b ∷ p) rest s w t = by (l == 1) refl
    where
      by : (u : Bool) → (l == 1) ≡ u → not (u && (b == 84)) ≡ true
      by true q = let e = t (same_number l 1 q) in absurd cc
      by false q = refl

  first_yes : (nodes : List Labelled) (e : Labelled) (p : List ℕ) (ps : List (List ℕ)) → IsRead nodes e → IsCut (p ∷ ps) → p ++ join ps ≡ content e.kind → is_first nodes (record { label = e.label; number = 0 }) p ≡ true
  first_yes nodes e p ps r c w =
      let z = first_size p ps c in
      and_from (0 == 0) _ refl
      (and_from (hangs nodes e.label) _ r.hung
      (and_from (nat_le (level e.label) level_limit) _ r.shallow
      (and_from (is_piece p) _ (piece_yes p z.0 z.1)
      (and_from (may_stand p) _ (may_begin reads p (join ps) e.kind (valid_parts e.kind r.kind) w) (top_yes (level e.label) e.kind p (join ps) z.0 w r.top)))))

  some_content : (k : Kind) → 1 ≤ length (content k)
  some_content (Element name attributes) = omega arith
  some_content (Words text) = omega arith

  run_first : (nodes : List Labelled) (e : Labelled) (rest : Entries) → IsRead nodes e → RanFirst nodes e rest
  run_first nodes e rest g = let b = content e.kind in by (pieces_of b) (cut_is b (some_content e.kind)) (pieces_few e.kind g.kind) (joined b) (sym (chunks_are e.label e.kind))
    where
      by : (ps : List (List ℕ)) → IsCut ps → length ps ≤ 4294967296 → join ps ≡ content e.kind → chunks_of e ≡ numbered e.label 0 ps → RanFirst nodes e rest
      by [] c f j w = absurd c
      by (p ∷ ps) c f j w =
          let place : Place = record { label = e.label; number = 0 } in
          let entry : Entry = (chunk_key e.label 0, p) in
          let o : Open = record { label = e.label; number = 0; last = p; content = p } in
          let made : Progress = record { nodes = nodes; node = Some o } in
          let r = run_pieces nodes o e ps rest g.label refl (valid_parts e.kind g.kind) c j (few (length ps) f) in
          record {
            key = entry;
            others = numbered e.label (0 + 1) ps;
            are = w;
            place = place_of_key again e.label 0 g.label (omega arith);
            reading = made;
            first = ok_yes (is_first nodes place p) made (not_due entry) (first_yes nodes e p ps g c j);
            last = r.last;
            whole = r.whole;
            ran = r.ran;
          }
        where
          few : (n : ℕ) → suc n ≤ 4294967296 → 0 + n < 4294967296
          few n h = omega arith

  -- ---- nodes

  run_nodes : (nodes : List Labelled) (o : Open) (e : Labelled) (ds : List Labelled) → Whole o e → has_valid_parts e.kind ≡ true → AreNodes (e ∷ nodes) ds → Climb (e ∷ ds) → read nodes (Some o) (flat_map chunks_of ds) ≡ Ok (onto (e ∷ nodes) ds)
  run_nodes nodes o e [] w g n c = ends_is nodes o e w g
  run_nodes nodes o e (d ∷ ds) w g n c =
      let r = run_first (e ∷ nodes) d (flat_map chunks_of ds) n.0 in
      let p : Place = record { label = d.label; number = 0 } in
      let step : step_at nodes (Some o) (place_of r.key.0) r.key ≡ Ok r.reading =
      ap (λ (x : Option Place). step_at nodes (Some o) x r.key) r.place
      ∙ ap (λ (x : Bool). cond x (continued nodes o p r.key) (ended nodes (Some o) &> λ nodes. started nodes p r.key)) (label_other o.label d.label (λ s. (c.0 d (inl refl)).1 (sym w.label ∙ s)))
      ∙ ap (λ (x : Result (List Labelled) Named). x &> λ nodes. started nodes p r.key) (ends_is nodes o e w g)
      ∙ r.first in
      ap (λ (l : Entries). read nodes (Some o) (l ++ flat_map chunks_of ds)) r.are
      ∙ ap (λ (x : Result Progress Named). x &> λ z. read z.nodes z.node (r.others ++ flat_map chunks_of ds)) step
      ∙ r.ran
      ∙ run_nodes (e ∷ nodes) r.last d ds r.whole (valid_parts d.kind n.0.kind) n.1 c.1

  -- the chunks of nodes are read
  pub nodes_read : (ns : List Labelled) → AreNodes [] ns → Climb ns → read [] None (flat_map chunks_of ns) ≡ Ok (onto [] ns)
  nodes_read [] n c = refl
  nodes_read (e ∷ es) n c =
      let r = run_first [] e (flat_map chunks_of es) n.0 in
      ap (λ (l : Entries). read [] None (l ++ flat_map chunks_of es)) r.are
      ∙ ap (λ (x : Option Place). step_at [] None x r.key &> λ z. read z.nodes z.node (r.others ++ flat_map chunks_of es)) r.place
      ∙ ap (λ (x : Result Progress Named). x &> λ z. read z.nodes z.node (r.others ++ flat_map chunks_of es)) r.first
      ∙ r.ran
      ∙ run_nodes [] r.last e es r.whole (valid_parts e.kind n.0.kind) n.1 c
