-- The name of a node, out of the image of its forest.
use Rattle.std.proofs.Common.{◌≡◌, ℤ, IsTrue, List, [], refl, ap, sym, subst, ◌∙◌, Option, Some, None}
use Rattle.std.proofs.lemmas.Bool.{and_parts}
use Rattle.mm_label.specs.Fronts.{Within}
use Rattle.mm_keeper.specs.Entries.{Entry, Entries, IsSorted, index_of}
use Rattle.mm_tree.specs.Edits.{found}
use Rattle.mm_tree.specs.Facts.Nodes.{stands_among}
use Rattle.mm_tree.specs.Forests.{are_labelled, has_valid_kind, is_well_formed}
use Rattle.mm_tree.specs.Hits.{name_of}
use Rattle.mm_tree.specs.Numbering.{Labelled, has_room}
use Rattle.mm_tree.specs.Trees.{Tree, Trees, every, preorder}
use Rattle.mm_image.specs.Content.{name_in, piece}
use Rattle.mm_image.specs.Facts.Finding.{IsAt, at_found, same_key}
use Rattle.mm_image.specs.Facts.Members.{chunk_in, node_is_valid}
use Rattle.mm_image.specs.Image.{image}
use Rattle.mm_image.specs.Keys.{chunk_key}
use Rattle.mm_image.specs.Laws.{FirstPieceNames}
use Rattle.mm_image.specs.Looking.{entry_at}
use Rattle.mm_image.specs.Naming.{name_of_entry, stored_name}
use Rattle.mm_tree.specs.Facts.Found.{found_stands}

-- the name of a node of the forest
pub named_there : FirstPieceNames → (m : Entries) (f : Trees Labelled) → IsTrue (is_well_formed f) → m ≡ image f → IsSorted m → (d : Labelled) → Within d (preorder f) → stored_name m d.label ≡ Some (name_of d.kind)
named_there law m f w e s d i =
    let key = chunk_key d.label 0 in
    let there : Within (key, piece d.kind 0) m = subst (Within (key, piece d.kind 0)) (sym e) (chunk_in f d i) in
    let a = and_parts (are_labelled [] None f) _ w in
    let r = and_parts (every has_room f) _ a.1 in
    let v = and_parts (every has_valid_kind f) _ r.1 in
    by (entry_at m (index_of m key)) there (at_found m key s.rises) ∙ law d.kind (node_is_valid f v.0 d i)
  where
    by : (o : Option Entry) → Within (chunk_key d.label 0, piece d.kind 0) m → IsAt m (chunk_key d.label 0) o → name_of_entry o ≡ name_in (piece d.kind 0)
    by None t h = absurd (h (chunk_key d.label 0, piece d.kind 0) t refl)
    by (Some c) t h = ap (λ (z : Entry). name_in z.1) (same_key m c (chunk_key d.label 0, piece d.kind 0) s.rises h.0 t h.1)

-- the name of the node with a label
pub found_named : FirstPieceNames → (m : Entries) (f : Trees Labelled) (x : List ℤ) (t : Tree Labelled) → IsTrue (is_well_formed f) → m ≡ image f → IsSorted m → found x f ≡ Some t → stored_name m x ≡ Some (name_of t.0.kind)
found_named law m f x t w e s h =
    let a = found_stands x f t h in
    ap (stored_name m) (sym a.1) ∙ named_there law m f w e s t.0 (stands_among f t.0 t.1 a.0)
