-- What is named in a map, part by part, and what a map is in which nothing is.
use Rattle.std.proofs.Common.{◌≡◌, ℕ, ℤ, Bool, true, cond, List, [], ◌∷◌, ◌++◌, length, drop, reverse, IsTrue, refl, ap, sym, ◌∙◌, append-nil, append_assoc, Option, Some, None, Ok, Err, Ordering, Less, Equal, Greater, nat_cmp, arith}
use Rattle.std.specs.Prelude.{flat_map}
use Rattle.std.specs.List.{list_any}
use Rattle.std.specs.Ordering.{is_lt, ordering_then}
use Rattle.std.specs.Cmp.Lexicographic.{slice_cmp}
use Rattle.std.specs.Str.{bytes_eq}
use Rattle.std.proofs.lemmas.Cmp.{nat_list_cmp_total, tied_itself}
use Rattle.std.proofs.lemmas.List.{length-append, length-reverse, reverse-append}
use Rattle.std.proofs.lemmas.Slice.Eq.{bytes_eq-Decides}
use Rattle.byteorder.specs.Endian.{big_bytes}
use Rattle.mm_keeper.specs.Entries.{Entries, Entry, Rises, below, rank}
use Rattle.mm_label.specs.Bytes.{bytes_of}
use Rattle.mm_tree.specs.Forests.{is_well_formed}
use Rattle.mm_tree.specs.Formed.{node_label}
use Rattle.mm_tree.specs.Numbering.{Labelled}
use Rattle.mm_tree.specs.Rebuild.{rebuild}
use Rattle.mm_tree.specs.Search.{list_of, own, worded}
use Rattle.mm_tree.specs.Trees.{Trees, node, nodes, none, preorder}
use Rattle.mm_image.specs.Content.{piece}
use Rattle.mm_image.specs.Keys.{chunk_key}
use Rattle.mm_image.specs.Image.{chunks, chunks_of, counts, image, occurrences}
use Rattle.mm_image.specs.Laws.{ChunkOrder, ReadAreContents}
use Rattle.mm_check.specs.declared.verdict.Named.{Named}
use Rattle.mm_check.specs.Blame.{blame, blame_behind, chunks_in, first_difference, fronts_differ, other_value}
use Rattle.mm_check.specs.Laws.{AreValues}
use Rattle.mm_check.specs.Reading.{not_due, read}
use Rattle.mm_check.specs.Inside.Reader.{holders}
use Rattle.mm_check.specs.Inside.Stopping.{from}
use Rattle.mm_check.proofs.Differences.{no_difference}
use Rattle.mm_check.proofs.Order.{first_chunk}
use Rattle.mm_check.proofs.Planting.{nodes_rebuilt}
use Rattle.mm_check.proofs.Sound.{well_read}
use Rattle.mm_check.proofs.Spelling.{read_chunks}

-- the forest of nodes that were read, the latest first
abbrev pub forest_of : List Labelled → Trees Labelled
forest_of ns = rebuild node_label (reverse ns)

-- ---- differences

pub after_same : (cs s d : Entries) → first_difference (cs ++ s) (cs ++ d) ≡ first_difference s d
after_same [] s d = refl
after_same (e ∷ cs) s d =
    ap (λ (o : Ordering). fronts_differ o e e (first_difference (cs ++ s) (cs ++ d))) (tied_itself nat_list_cmp_total e.0)
    ∙ ap (λ (t : Bool). cond t (first_difference (cs ++ s) (cs ++ d)) (Some (other_value e e.1))) ((bytes_eq-Decides e.1 e.1).1 refl)
    ∙ after_same cs s d

-- a key before 01 stands before all that begin with 01
low_before : (k r : List ℕ) → below k (1 ∷ []) ≡ true → slice_cmp nat_cmp k (1 ∷ r) ≡ Less
low_before [] r e = refl
low_before (b ∷ bs) r e = by (nat_cmp b 1) e
  where
    never : (bs : List ℕ) → is_lt (slice_cmp nat_cmp bs []) ≡ true → ⊥
    never [] e = cc
    never (c ∷ cs) e = cc

    by : (o : Ordering) → is_lt (ordering_then o (slice_cmp nat_cmp bs [])) ≡ true → ordering_then o (slice_cmp nat_cmp bs r) ≡ Less
    by Less e = refl
    by Equal e = absurd (never bs e)
    by Greater e = absurd cc

named_low : (e : Entry) (rest : Entries) (key value : List ℕ) (more : Entries) → slice_cmp nat_cmp e.0 key ≡ Less → first_difference (e ∷ rest) ((key, value) ∷ more) ≡ Some (not_due e)
named_low e rest key value more h = ap (λ (o : Ordering). fronts_differ o e (key, value) (first_difference rest more)) h

pub front_named : (e : Entry) (rest : Entries) (es : List Labelled) → below e.0 (1 ∷ []) ≡ true → first_difference (e ∷ rest) (image (rebuild node_label es)) ≡ Some (not_due e)
front_named e rest [] l = refl
front_named e rest (d ∷ es) l =
    let f = first_chunk d in
    let w = worded (rebuild node_label (d ∷ es)) in
    let behind = occurrences w ++ counts w in
    ap (λ (ns : List Labelled). first_difference (e ∷ rest) (flat_map chunks_of ns ++ behind)) (nodes_rebuilt (d ∷ es))
    ∙ ap (λ (z : Entries). first_difference (e ∷ rest) ((z ++ flat_map chunks_of es) ++ behind)) f.are
    ∙ named_low e rest (chunk_key d.label 0) (piece d.kind 0) ((f.others ++ flat_map chunks_of es) ++ behind) (low_before e.0 (bytes_of d.label ++ 0 ∷ big_bytes 4 0) l)

-- ---- the image of what was read

chunks_read : (ns : List Labelled) → flat_map chunks_of (reverse ns) ≡ chunks (forest_of ns)
chunks_read ns = ap (flat_map chunks_of) (sym (nodes_rebuilt (reverse ns)))

pub named_in_chunks : (m : Entries) (n : Named) → read [] None (chunks_in m) ≡ Err n → blame m ≡ Some n
named_in_chunks m n e = ap (blame_behind m) e

pub named_before : (m : Entries) (ns : List Labelled) (e : Entry) (rest : Entries) → read [] None (chunks_in m) ≡ Ok ns → m ≡ e ∷ rest → below e.0 (1 ∷ []) ≡ true → blame m ≡ Some (not_due e)
named_before m ns e rest q s l = ap (blame_behind m) q ∙ ap (λ (z : Entries). first_difference z (image (forest_of ns))) s ∙ front_named e rest (reverse ns) l

module _ (contents : ReadAreContents) where
  split_map : (m : Entries) (ns : List Labelled) (at : Option ℕ) → read [] None (chunks_in m) ≡ Ok ns → AreValues (chunks_in m) → drop (rank m (1 ∷ [])) m ≡ chunks_in m ++ from m at → rank m (1 ∷ []) ≡ 0 → m ≡ chunks (forest_of ns) ++ from m at
  split_map m ns at q v s z = sym (ap (λ (k : ℕ). drop k m) z) ∙ s ∙ ap (λ (l : Entries). l ++ from m at) (read_chunks contents (chunks_in m) ns v q ∙ chunks_read ns)

  pub named_behind : (m : Entries) (ns : List Labelled) (at : Option ℕ) → read [] None (chunks_in m) ≡ Ok ns → AreValues (chunks_in m) → drop (rank m (1 ∷ [])) m ≡ chunks_in m ++ from m at → rank m (1 ∷ []) ≡ 0
      → blame m ≡ first_difference (from m at) (occurrences (worded (forest_of ns)) ++ counts (worded (forest_of ns)))
  named_behind m ns at q v s z =
      ap (blame_behind m) q
      ∙ ap (λ (l : Entries). first_difference l (image (forest_of ns))) (split_map m ns at q v s z)
      ∙ after_same (chunks (forest_of ns)) (from m at) (occurrences (worded (forest_of ns)) ++ counts (worded (forest_of ns)))

-- ---- what nothing is named in

count_nodes : (f : Trees Labelled) → length (preorder f) ≡ nodes f
count_nodes none = refl
count_nodes (node e inner rest) = let l = length-append (preorder inner) (preorder rest) in let a = count_nodes inner in let b = count_nodes rest in omega (arith, l, a, b)

pub nodes_counted : (ns : List Labelled) → length ns ≡ nodes (forest_of ns)
nodes_counted ns = sym (length-reverse ns) ∙ ap length (sym (nodes_rebuilt (reverse ns))) ∙ count_nodes (forest_of ns)

pub sound_map : ChunkOrder → ReadAreContents → (m : Entries) (ns : List Labelled) → read [] None (chunks_in m) ≡ Ok ns → AreValues (chunks_in m) → Rises m → blame m ≡ None → IsTrue (is_well_formed (forest_of ns)) × (m ≡ image (forest_of ns))
sound_map order contents m ns q v r e =
    let same : m ≡ image (forest_of ns) = no_difference m (image (forest_of ns)) (sym (ap (blame_behind m) q) ∙ e) in
    (well_read order contents m ns q v r same, same)

-- ---- words

-- the labels of nodes in document order that hold the word
abbrev held_in : List ℕ → List Labelled → List (List ℤ)
held_in w [] = []
held_in w (e ∷ es) = cond (list_any (bytes_eq w) (own e.kind)) (e.label ∷ []) [] ++ held_in w es

held_joined : (w : List ℕ) (xs ys : List Labelled) → held_in w (xs ++ ys) ≡ held_in w xs ++ held_in w ys
held_joined w [] ys = refl
held_joined w (e ∷ xs) ys = ap (λ (z : List (List ℤ)). cond (list_any (bytes_eq w) (own e.kind)) (e.label ∷ []) [] ++ z) (held_joined w xs ys) ∙ sym (append_assoc (cond (list_any (bytes_eq w) (own e.kind)) (e.label ∷ []) []) (held_in w xs) (held_in w ys))

held_forest : (w : List ℕ) (f : Trees Labelled) → list_of w (worded f) ≡ held_in w (preorder f)
held_forest w none = refl
held_forest w (node e inner rest) =
    ap (λ (z : List (List ℤ)). cond (list_any (bytes_eq w) (own e.kind)) (e.label ∷ []) [] ++ z)
    (ap (λ (z : List (List ℤ)). z ++ list_of w (worded rest)) (held_forest w inner) ∙ ap (λ (z : List (List ℤ)). held_in w (preorder inner) ++ z) (held_forest w rest) ∙ sym (held_joined w (preorder inner) (preorder rest)))

held_turned : (w : List ℕ) (ns : List Labelled) → holders w ns ≡ held_in w (reverse ns)
held_turned w [] = refl
held_turned w (e ∷ ns) =
    ap (λ (z : List (List ℤ)). z ++ cond (list_any (bytes_eq w) (own e.kind)) (e.label ∷ []) []) (held_turned w ns)
    ∙ ap (λ (z : List (List ℤ)). held_in w (reverse ns) ++ z) (sym (append-nil (cond (list_any (bytes_eq w) (own e.kind)) (e.label ∷ []) [])))
    ∙ sym (ap (held_in w) (reverse-append (e ∷ []) ns) ∙ held_joined w (reverse ns) (e ∷ []))

pub holders_listed : (w : List ℕ) (ns : List Labelled) → holders w ns ≡ list_of w (worded (forest_of ns))
holders_listed w ns = held_turned w ns ∙ ap (held_in w) (sym (nodes_rebuilt (reverse ns))) ∙ sym (held_forest w (forest_of ns))
