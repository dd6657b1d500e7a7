-- How many steps a fragment may take.
use Rattle.std.specs.Prelude.{ℕ, ℤ, pos, codes, ◌≡◌, refl, ◌+◌, ◌*◌, List, [], ◌∷◌, length, filter, if◌then◌else◌}
use Rattle.mm_tree.specs.Trees.{Trees, none, node, Tree}
use Rattle.mm_tree.specs.Search.{has, is_full}
use Rattle.mm_tree.specs.Fragments.{Named, bare, bares}
use Rattle.mm_fragment.specs.Matching.{open_nodes}

-- how many of these siblings are full
abbrev pub full_count : List (List ℕ) → Trees Named → ℕ
full_count query none = 0
full_count query (node e inner rest) = (if is_full query (bare e) (bares inner) then 1 else 0) + full_count query rest

-- how many of the nodes hold the word themselves
abbrev pub holders : List ℕ → List Named → ℕ
holders w es = length (filter (λ e. has (bare e) w) es)

-- how many pairs there are of a word and a node that holds it
abbrev pub pairs : List (List ℕ) → List Named → ℕ
pairs [] es = 0
pairs (w ∷ words) es = holders w es + pairs words es

-- for each word one look-up more than the root has full children, and one for each match
abbrev pub cost_of : List (List ℕ) → Tree Named → ℕ
cost_of query t = pairs query (open_nodes query t) + length query * (full_count query t.1 + 1)

-- ---- a worked example: "xml liu" in notes of which a child, the first, holds both words

at : List ℤ → List (List ℕ) → Named
at l ws = record { label = l; name = []; words = ws }

notes : Tree Named
notes = (
  at (pos 1 ∷ []) (codes "bib" ∷ []),
  node (at (pos 1 ∷ pos 1 ∷ []) (codes "book" ∷ [])) (node (at (pos 1 ∷ pos 1 ∷ pos 1 ∷ []) (codes "xml" ∷ codes "liu" ∷ [])) none none)
      (node (at (pos 1 ∷ pos 3 ∷ []) (codes "note" ∷ [])) (node (at (pos 1 ∷ pos 3 ∷ pos 1 ∷ []) (codes "xml" ∷ [])) none none)
      (node (at (pos 1 ∷ pos 5 ∷ []) (codes "author" ∷ [])) (node (at (pos 1 ∷ pos 5 ∷ pos 1 ∷ []) (codes "liu" ∷ [])) none none)
      none)),
)

xml_liu : cost_of (codes "xml" ∷ codes "liu" ∷ []) notes ≡ 6
unfolding notes at
xml_liu = refl
