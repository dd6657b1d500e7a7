-- A worked example: a bibliography of two books.
use Rattle.std.specs.Prelude.{ℕ, ℤ, pos, List, [], ◌∷◌, ◌≡◌, true, refl, codes}
use Rattle.std.specs.Char.{encode_utf8}
use Rattle.std.specs.Str.{chars, is_utf8}
use Rattle.mm_tree.specs.declared.plain.Kind.{Kind}
use Rattle.mm_tree.specs.declared.plain.Kind.TheVariants.{Element, Words}
use Rattle.mm_tree.specs.Trees.{Trees, none, node, Tree, one, nodes, levels}
use Rattle.mm_tree.specs.Validity.{is_valid_kind, is_valid_tree}
use Rattle.mm_tree.specs.Forests.{numbered_behind}
use Rattle.mm_tree.specs.Order.{labels}

-- an element with a text in it, before its later siblings
abbrev pub titled : List ℕ → List ℕ → Trees Kind → Trees Kind
titled name text rest = node (Element name []) (node (Words text) none none) rest

abbrev pub book : List ℕ → List ℕ → Trees Kind → Trees Kind
book title author rest = node (Element (codes "book") []) (titled (codes "title") title (titled (codes "author") author none)) rest

-- <bib><book><title>XML search</title><author>Liu</author></book><book><title>Keyword search</title><author>Chen</author></book></bib>
unfoldable pub bibliography : Tree Kind
bibliography = (Element (codes "bib") [], book (codes "XML search") (codes "Liu") (book (codes "Keyword search") (codes "Chen") none))

pub bibliography_is_valid : is_valid_tree bibliography ≡ true
unfolding bibliography is_valid_kind is_utf8 chars encode_utf8
bibliography_is_valid = refl

-- <bib><book>xml liu</book><note>xml</note><author>liu</author></bib>
unfoldable pub notes : Tree Kind
notes = (Element (codes "bib") [], titled (codes "book") (codes "xml liu") (titled (codes "note") (codes "xml") (titled (codes "author") (codes "liu") none)))

pub notes_are_valid : is_valid_tree notes ≡ true
unfolding notes is_valid_kind is_utf8 chars encode_utf8
notes_are_valid = refl

eleven_nodes : nodes (one bibliography) ≡ 11
unfolding bibliography
eleven_nodes = refl

four_levels : levels (one bibliography) ≡ 4
unfolding bibliography
four_levels = refl

label : List ℕ → List ℤ
label [] = []
label (n ∷ ns) = pos n ∷ label ns

-- the labels of the first book's nodes, and of the second's, whose last is that of the text "Chen"
its_labels : labels (numbered_behind none bibliography)
    ≡ label (1 ∷ [])
    ∷ label (1 ∷ 1 ∷ []) ∷ label (1 ∷ 1 ∷ 1 ∷ []) ∷ label (1 ∷ 1 ∷ 1 ∷ 1 ∷ []) ∷ label (1 ∷ 1 ∷ 3 ∷ []) ∷ label (1 ∷ 1 ∷ 3 ∷ 1 ∷ [])
    ∷ label (1 ∷ 3 ∷ []) ∷ label (1 ∷ 3 ∷ 1 ∷ []) ∷ label (1 ∷ 3 ∷ 1 ∷ 1 ∷ []) ∷ label (1 ∷ 3 ∷ 3 ∷ []) ∷ label (1 ∷ 3 ∷ 3 ∷ 1 ∷ [])
    ∷ []
unfolding bibliography label
its_labels = refl
