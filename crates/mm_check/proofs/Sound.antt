-- Nothing is named exactly where the map is the image of a well-formed forest.
use Rattle.std.proofs.Common.{inl, inr, ◌≡◌, ◌⊎◌, Bool, true, false, cond, List, [], ◌∷◌, ◌++◌, filter, map, reverse, IsTrue, refl, ap, sym, subst, ◌∙◌, append-nil, append_assoc, None, Result, Ok, Err}
use Rattle.std.specs.Prelude.{flat_map}
use Rattle.std.specs.List.{range_with_len}
use Rattle.std.proofs.lemmas.List.{reverse-append, reverse-reverse}
use Rattle.std.proofs.lemmas.List.Elements.{filter-append}
use Rattle.mm_keeper.specs.Entries.{Entries, Rises}
use Rattle.mm_label.specs.Fronts.{Within}
use Rattle.mm_tree.specs.Facts.Formed.{formed}
use Rattle.mm_tree.specs.Facts.Places.{preorder_rises}
use Rattle.mm_tree.specs.Facts.Rebuild.{rebuilt}
use Rattle.mm_tree.specs.Forests.{is_well_formed}
use Rattle.mm_tree.specs.Formed.{node_label}
use Rattle.mm_tree.specs.Numbering.{Labelled}
use Rattle.mm_tree.specs.Rebuild.{rebuild}
use Rattle.mm_tree.specs.Search.{Worded, list_of, worded}
use Rattle.mm_tree.specs.Trees.{Trees, preorder}
use Rattle.mm_tree.specs.Validity.{piece_count}
use Rattle.mm_image.specs.Image.{chunks, chunks_of, count_of, counts, image, occurrences, occurrences_of, words}
use Rattle.mm_image.specs.Content.{piece}
use Rattle.mm_image.specs.Keys.{chunk_key, occurrence_key}
use Rattle.mm_image.specs.Laws.{ChunkOrder, ContentsAreRead, ReadAreContents}
use Rattle.mm_check.specs.Blame.{begins_chunk, blame, blame_behind, chunks_in, first_difference}
use Rattle.mm_check.specs.Laws.{AreValues, IsImage, SoundIsImage}
use Rattle.mm_check.specs.declared.verdict.Named.{Named}
use Rattle.mm_check.specs.Reading.{read}
use Rattle.mm_check.proofs.Differences.{no_difference, same_same}
use Rattle.mm_check.proofs.Explaining.{AllRead, all_read}
use Rattle.mm_check.proofs.Forming.{AllAlone, StandsAlone, well_formed}
use Rattle.mm_check.proofs.Hanging.{all_nodes}
use Rattle.mm_check.proofs.Order.{nodes_rise, rises_front}
use Rattle.mm_check.proofs.Planting.{AllHang, nodes_rebuilt, read_sits}
use Rattle.mm_check.proofs.Running.{ComponentsAgain, nodes_read, onto}

-- ---- the chunks of a map

mapped_pass : {X Y : Type 0} (p : Y → Bool) (f : X → Y) (xs : List X) → ((x : X) → p (f x) ≡ true) → filter p (map f xs) ≡ map f xs
mapped_pass p f [] h = refl
mapped_pass p f (x ∷ xs) h = ap (λ (b : Bool). cond b (f x ∷ filter p (map f xs)) (filter p (map f xs))) (h x) ∙ ap (λ z. f x ∷ z) (mapped_pass p f xs h)

mapped_none : {X Y : Type 0} (p : Y → Bool) (f : X → Y) (xs : List X) → ((x : X) → p (f x) ≡ false) → filter p (map f xs) ≡ []
mapped_none p f [] h = refl
mapped_none p f (x ∷ xs) h = ap (λ (b : Bool). cond b (f x ∷ filter p (map f xs)) (filter p (map f xs))) (h x) ∙ mapped_none p f xs h

flat_pass : {X Y : Type 0} (p : Y → Bool) (f : X → List Y) (xs : List X) → ((x : X) → filter p (f x) ≡ f x) → filter p (flat_map f xs) ≡ flat_map f xs
flat_pass p f [] h = refl
flat_pass p f (x ∷ xs) h = filter-append p (f x) (flat_map f xs) ∙ ap (λ z. z ++ filter p (flat_map f xs)) (h x) ∙ ap (λ z. f x ++ z) (flat_pass p f xs h)

flat_none : {X Y : Type 0} (p : Y → Bool) (f : X → List Y) (xs : List X) → ((x : X) → filter p (f x) ≡ []) → filter p (flat_map f xs) ≡ []
flat_none p f [] h = refl
flat_none p f (x ∷ xs) h = filter-append p (f x) (flat_map f xs) ∙ ap (λ z. z ++ filter p (flat_map f xs)) (h x) ∙ flat_none p f xs h

no_occurrences : (nodes : Trees Worded) → chunks_in (occurrences nodes) ≡ []
no_occurrences nodes = flat_none begins_chunk (occurrences_of nodes) (words nodes) (λ w. mapped_none begins_chunk (λ label. (occurrence_key w label, [])) (list_of w nodes) (λ l. refl))

no_counts : (nodes : Trees Worded) → chunks_in (counts nodes) ≡ []
no_counts nodes = mapped_none begins_chunk (count_of nodes) (words nodes) (λ w. refl)

all_chunks : (f : Trees Labelled) → chunks_in (chunks f) ≡ chunks f
all_chunks f = flat_pass begins_chunk chunks_of (preorder f) (λ e. mapped_pass begins_chunk (λ i. (chunk_key e.label i, piece e.kind i)) (range_with_len 0 (piece_count e.kind)) (λ i. refl))

image_chunks : (f : Trees Labelled) → chunks_in (image f) ≡ chunks f
image_chunks f =
    let w = worded f in
    filter-append begins_chunk (chunks f) (occurrences w ++ counts w)
    ∙ ap (λ (z : Entries). z ++ chunks_in (occurrences w ++ counts w)) (all_chunks f)
    ∙ ap (λ (z : Entries). chunks f ++ z) (filter-append begins_chunk (occurrences w) (counts w) ∙ ap (λ (z : Entries). z ++ chunks_in (counts w)) (no_occurrences w) ∙ no_counts w)
    ∙ append-nil (chunks f)

values_in : (m : Entries) → AreValues m → AreValues (chunks_in m)
values_in [] v = tt
values_in (e ∷ es) v = by (begins_chunk e) (values_in es v.1)
  where
    by : (t : Bool) → AreValues (chunks_in es) → AreValues (cond t (e ∷ chunks_in es) (chunks_in es))
    by true i = (v.0, i)
    by false i = i

-- ---- the nodes, the latest first, and in order

abbrev back : List Labelled → List Labelled → List Labelled
back [] es = es
back (n ∷ ns) es = back ns (n ∷ es)

turn : (n : Labelled) (ns es : List Labelled) → reverse ns ++ (n ∷ es) ≡ reverse (n ∷ ns) ++ es
turn n ns es = sym (append_assoc (reverse ns) (n ∷ []) es) ∙ ap (λ (l : List Labelled). l ++ es) (sym (reverse-append (n ∷ []) ns))

back_is : (ns es : List Labelled) → back ns es ≡ reverse ns ++ es
back_is [] es = refl
back_is (n ∷ ns) es = back_is ns (n ∷ es) ∙ turn n ns es

hang_back : (ns es : List Labelled) → AllRead ns → AllHang ns es → AllHang [] (back ns es)
hang_back [] es a h = h
hang_back (n ∷ ns) es a h = hang_back ns (n ∷ es) a.1 (a.0.hung, h)

within_back : (d : Labelled) (ns es : List Labelled) → Within d (back ns es) → Within d ns ⊎ Within d es
within_back d [] es w = inr w
within_back d (n ∷ ns) es w = elim (within_back d ns (n ∷ es) w) [
  | inl u ↦ inl (inr u)
  | inr u ↦ elim u [ inl h ↦ inl (inl h) | inr v ↦ inr v ]
]

read_alone : (ns : List Labelled) → AllRead ns → (d : Labelled) → Within d ns → StandsAlone d
read_alone [] a d w = absurd w
read_alone (n ∷ ns) a d w = elim w [
  | inl h ↦ subst StandsAlone (sym h) (record { label = a.0.label; shallow = a.0.shallow; kind = a.0.kind; top = a.0.top })
  | inr k ↦ read_alone ns a.1 d k
]

turned : (nodes es : List Labelled) → onto nodes es ≡ reverse es ++ nodes
turned nodes [] = refl
turned nodes (e ∷ es) = turned (e ∷ nodes) es ∙ turn e es nodes

pub turned_twice : (es : List Labelled) → reverse (onto [] es) ≡ es
turned_twice es = ap reverse (turned [] es ∙ append-nil (reverse es)) ∙ reverse-reverse es

-- ---- both ways

module _ (order : ChunkOrder) (contents : ReadAreContents) where
  -- the forest of the nodes that were read, whose image is the map
  pub well_read : (m : Entries) (ns : List Labelled) → read [] None (chunks_in m) ≡ Ok ns → AreValues (chunks_in m) → Rises m → m ≡ image (rebuild node_label (reverse ns)) → IsTrue (is_well_formed (rebuild node_label (reverse ns)))
  well_read m ns q v r same_map =
      let a = all_read contents (chunks_in m) ns v q in
      let es = reverse ns in
      let f = rebuild node_label es in
      let same : back ns [] ≡ es = back_is ns [] ∙ append-nil es in
      let alone : AllAlone es = λ d w. elim (within_back d ns [] (subst (Within d) (sym same) w)) [ inl u ↦ read_alone ns a d u | inr u ↦ absurd u ] in
      let nodes = nodes_rebuilt es in
      let rises : Rises (flat_map chunks_of es) = subst (λ (l : List Labelled). Rises (flat_map chunks_of l)) nodes (rises_front (chunks f) _ (subst Rises same_map r)) in
      let climb = nodes_rise order es (λ d w. (alone d w).label) rises in
      well_formed f (read_sits es (subst (AllHang []) same (hang_back ns [] a tt)) climb) (subst AllAlone (sym nodes) alone)

  image_of : (m : Entries) (r : Result (List Labelled) Named) → read [] None (chunks_in m) ≡ r → AreValues (chunks_in m) → Rises m → blame_behind m r ≡ None → IsImage m
  image_of m (Err b) q v r e = absurd cc
  image_of m (Ok ns) q v r e =
      let same_map = no_difference m (image (rebuild node_label (reverse ns))) e in
      record { forest = rebuild node_label (reverse ns); well = well_read m ns q v r same_map; is = same_map }

none_of : ComponentsAgain → ContentsAreRead → (m : Entries) → IsImage m → blame m ≡ None
none_of again reads m i =
    let f = i.forest in
    let nodes = preorder f in
    let u = formed f i.well in
    let h : read [] None (chunks_in m) ≡ Ok (onto [] nodes) = ap (λ (z : Entries). read [] None (chunks_in z)) i.is ∙ ap (read [] None) (image_chunks f) ∙ nodes_read again reads nodes (all_nodes f i.well) (preorder_rises node_label [] f u) in
    ap (blame_behind m) h
    ∙ ap (λ (t : Trees Labelled). first_difference m (image t)) (ap (rebuild node_label) (turned_twice nodes) ∙ rebuilt node_label [] f u)
    ∙ ap (first_difference m) (sym i.is)
    ∙ same_same m

pub sound : ChunkOrder → ReadAreContents → ComponentsAgain → ContentsAreRead → SoundIsImage
sound order contents again reads m = (none_of again reads m, λ s v. image_of order contents m (read [] None (chunks_in m)) refl (values_in m v) s.rises)
