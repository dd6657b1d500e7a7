-- What the parts of a check tell together.
use Rattle.std.proofs.Common.{◌≡◌, ℕ, List, [], ◌∷◌, ◌++◌, map, refl, ap, sym, subst, ◌∙◌, append-nil, Option, Some, None, option_map, Err, IsTrue}
use Rattle.std.specs.Prelude.{flat_map}
use Rattle.std.specs.BTreeMap.{IsOrdered}
use Rattle.std.specs.Ordering.{nat_cmp}
use Rattle.std.specs.Cmp.Lexicographic.{slice_cmp}
use Rattle.mm_keeper.specs.Entries.{Entries, Rises, rank}
use Rattle.mm_keeper.specs.Keeping.{Seen}
use Rattle.mm_tree.specs.Forests.{is_well_formed}
use Rattle.mm_tree.specs.Numbering.{Labelled}
use Rattle.mm_tree.specs.KeywordLists.{list_in}
use Rattle.mm_tree.specs.Search.{Worded, list_of, worded}
use Rattle.mm_tree.specs.Trees.{Trees, nodes}
use Rattle.mm_image.specs.Image.{counts, image, occurrences}
use Rattle.mm_image.specs.Laws.{ChunkOrder, ReadAreContents}
use Rattle.mm_check.specs.declared.reader.Reader.{Reader}
use Rattle.mm_check.specs.declared.stop.Stop.{Stop}
use Rattle.mm_check.specs.declared.stop.Stop.TheVariants as stop
use Rattle.mm_check.specs.declared.verdict.Named.{Named}
use Rattle.mm_check.specs.Blame.{blame}
use Rattle.mm_check.specs.Inside.Chunks.{HasSpelled}
use Rattle.mm_check.specs.Inside.Stopping.{Fronts, Tells, counted_list, listed}
use Rattle.mm_check.proofs.Deciding.{forest_of, holders_listed, named_before, named_behind, nodes_counted, sound_map}
use Rattle.mm_check.proofs.Listing.{all_counted, all_listed}
use Rattle.mm_check.proofs.Passing.{differs, told_onward}

-- nothing differs, seen before
pub same_none : {S : Type 0} (x y : Seen S) (at : Option S) → y ≡ x → differs y at [] ≡ None → differs x at [] ≡ None
same_none {S} x y at same e = subst (λ (z : Seen S). differs z at [] ≡ None) same e

module _ {S : Type 0} (x : Seen S) (reader : Reader) (at : Option S) (spelled : HasSpelled x.now reader (option_map x.place at)) where
  -- what is told of the entries before 01
  pub tells_front : (y : Seen S) (s : Stop) → y ≡ x → Fronts {A = Unit {0}} y.now (Err s) → Tells (blame x.now) s
  tells_front y (stop.Named n) same f =
      let h = subst (λ (z : Seen S). Fronts {A = Unit {0}} z.now (Err (stop.Named n))) same f in
      named_before x.now spelled.nodes h.0 h.1 spelled.are h.2 h.3 ∙ ap Some (sym h.4)
  tells_front y (stop.Fault e) same f = f

  -- the counts that are due, and the occurrences before them
  abbrev pub due_counts : Entries
  due_counts = map counted_list reader.lists.entries ++ []

  abbrev pub due_words : Entries
  due_words = flat_map listed reader.lists.entries ++ due_counts

  module _ (contents : ReadAreContents) (ordered : IsOrdered (slice_cmp nat_cmp) reader.lists) (y : Seen S) (same : y ≡ x) (low : rank y.now (1 ∷ []) ≡ 0) where
    abbrev forest : Trees Worded
    forest = worded (forest_of spelled.nodes)

    held : (w : List ℕ) → list_in reader.lists w ≡ list_of w forest
    held w = spelled.kept.held w ∙ holders_listed w spelled.nodes

    words_due : occurrences forest ++ counts forest ≡ due_words
    words_due =
        ap (λ (z : Entries). z ++ counts forest) (sym (all_listed forest reader.lists ordered held spelled.kept.filled))
        ∙ ap (λ (z : Entries). flat_map listed reader.lists.entries ++ z) (sym (append-nil (map counted_list reader.lists.entries) ∙ all_counted forest reader.lists ordered held spelled.kept.filled))

    blame_is : blame x.now ≡ differs x at due_words
    blame_is =
        named_behind contents x.now spelled.nodes (option_map x.place at) spelled.are spelled.values spelled.split (subst (λ (z : Seen S). rank z.now (1 ∷ []) ≡ 0) same low)
        ∙ ap (differs x at) words_due

    -- what is told from a spot on
    pub tells_behind : (z : Seen S) (next : Option S) (due : Entries) (s : Stop) → z ≡ x → differs x at due_words ≡ differs x next due → Tells (differs z next due) s → Tells (blame x.now) s
    tells_behind z next due s e d t = subst (λ (n : Option Named). Tells n s) (sym blame_is) (told_onward x z at next due_words due due s e d refl t)

    pub none_named : (next : Option S) → differs x at due_words ≡ differs x next [] → differs x next [] ≡ None → blame x.now ≡ None
    none_named next d e = blame_is ∙ d ∙ e

    pub judged_sound : ChunkOrder → Rises x.now → blame x.now ≡ None → (f : Trees Labelled) × IsTrue (is_well_formed f) × (x.now ≡ image f) × (reader.nodes ≡ nodes f)
    judged_sound order rises e =
        let w = sound_map order contents x.now spelled.nodes spelled.are spelled.values rises e in
        (forest_of spelled.nodes, w.0, w.1, spelled.number ∙ nodes_counted spelled.nodes)
