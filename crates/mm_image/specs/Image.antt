-- The image of a forest: the list of its entries, each a key and a value, in the order of the keys.
use Rattle.std.specs.Prelude.{ℕ, List, [], ◌∷◌, ◌++◌, length, map, flat_map, if◌then◌else◌}
use Rattle.std.specs.List.{range_with_len}
use Rattle.std.specs.Str.{bytes_eq}
use Rattle.byteorder.specs.Endian.{big_bytes}
use Rattle.mm_keeper.specs.Entries.{Entry, Entries, below}
use Rattle.mm_tree.specs.Trees.{Trees, preorder}
use Rattle.mm_tree.specs.Validity.{piece_count}
use Rattle.mm_tree.specs.Numbering.{Labelled}
use Rattle.mm_tree.specs.Search.{Worded, worded, list_of}
use Rattle.mm_image.specs.Keys.{chunk_key, occurrence_key, count_key}
use Rattle.mm_image.specs.Content.{piece}

-- ---- chunks: of each node in document order, the pieces of its content

abbrev pub chunks_of : Labelled → Entries
chunks_of e = map (λ i. (chunk_key e.label i, piece e.kind i)) (range_with_len 0 (piece_count e.kind))

abbrev pub chunks : Trees Labelled → Entries
chunks forest = flat_map chunks_of (preorder forest)

-- ---- the words of all nodes in order, each once; the nodes are given with their own words

-- a word among words in order
abbrev pub with_word : List ℕ → List (List ℕ) → List (List ℕ)
with_word w [] = w ∷ []
with_word w (v ∷ vs) = if below v w then v ∷ with_word w vs else (if bytes_eq v w then v ∷ vs else w ∷ v ∷ vs)

abbrev pub in_order : List (List ℕ) → List (List ℕ)
in_order [] = []
in_order (w ∷ ws) = with_word w (in_order ws)

abbrev pub words : Trees Worded → List (List ℕ)
words nodes = in_order (flat_map (λ e. e.words) (preorder nodes))

-- ---- of each of these words: the nodes that hold it, in document order, and their number

abbrev pub occurrences_of : Trees Worded → List ℕ → Entries
occurrences_of nodes w = map (λ label. (occurrence_key w label, [])) (list_of w nodes)

abbrev pub occurrences : Trees Worded → Entries
occurrences nodes = flat_map (occurrences_of nodes) (words nodes)

abbrev pub count_of : Trees Worded → List ℕ → Entry
count_of nodes w = (count_key w, big_bytes 8 (length (list_of w nodes)))

abbrev pub counts : Trees Worded → Entries
counts nodes = map (count_of nodes) (words nodes)

-- ---- all entries

abbrev pub image : Trees Labelled → Entries
image forest = chunks forest ++ (occurrences (worded forest) ++ counts (worded forest))

-- what the nodes of some trees bring: their chunks and occurrences
abbrev pub entries_of : Trees Labelled → Entries
entries_of trees = chunks trees ++ occurrences (worded trees)

-- each word of some trees with the number of nodes that hold it
abbrev pub counted : Trees Worded → List (List ℕ × ℕ)
counted nodes = map (λ w. (w, length (list_of w nodes))) (words nodes)
