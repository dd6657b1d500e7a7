-- Worked rows: fragments of three documents, each node with its label, its name and its own words.
use Rattle.std.specs.Prelude.{ℕ, ℤ, pos, List, [], ◌∷◌, ◌≡◌, codes, refl}
use Rattle.mm_tree.specs.Trees.{Trees, none, node, Tree, one, preorder}
use Rattle.mm_tree.specs.Fragments.{Named, fragment}

label : List ℕ → List ℤ
label [] = []
label (n ∷ ns) = pos n ∷ label ns

at : List ℕ → List ℕ → List (List ℕ) → Named
at l name ws = record { label = label l; name = name; words = ws }

element : List ℕ → List ℕ → Named
element l name = at l name (name ∷ [])

text : List ℕ → List (List ℕ) → Named
text l ws = at l (codes "#text") ws

-- an element with a text in it, before its later siblings
holding : List ℕ → List ℕ → List ℕ → List ℕ → Trees Named → Trees Named
holding l name inner_label word rest = node (element l name) (node (text inner_label (word ∷ [])) none none) rest

-- ---- two players

players : Trees Named
players =
    node (element (1 ∷ 3 ∷ 1 ∷ []) (codes "player"))
    (holding (1 ∷ 3 ∷ 1 ∷ 1 ∷ []) (codes "name") (1 ∷ 3 ∷ 1 ∷ 1 ∷ 1 ∷ []) (codes "gold")
    (holding (1 ∷ 3 ∷ 1 ∷ 3 ∷ []) (codes "pos") (1 ∷ 3 ∷ 1 ∷ 3 ∷ 1 ∷ []) (codes "forward") none))
    (node (element (1 ∷ 3 ∷ 3 ∷ []) (codes "player"))
    (holding (1 ∷ 3 ∷ 3 ∷ 1 ∷ []) (codes "name") (1 ∷ 3 ∷ 3 ∷ 1 ∷ 1 ∷ []) (codes "miller")
    (holding (1 ∷ 3 ∷ 3 ∷ 3 ∷ []) (codes "pos") (1 ∷ 3 ∷ 3 ∷ 3 ∷ 1 ∷ []) (codes "guard") none))
    none)

team : Tree Named
team = (
  element (1 ∷ []) (codes "team"),
  holding (1 ∷ 1 ∷ []) (codes "name") (1 ∷ 1 ∷ 1 ∷ []) (codes "bears") (node (element (1 ∷ 3 ∷ []) (codes "players")) players none),
)

-- the second player is pruned
bears_gold_pos : preorder (one (fragment (codes "bears" ∷ codes "gold" ∷ codes "pos" ∷ []) team))
    ≡ at (1 ∷ []) (codes "team") [] ∷ at (1 ∷ 1 ∷ []) (codes "name") [] ∷ text (1 ∷ 1 ∷ 1 ∷ []) (codes "bears" ∷ [])
    ∷ at (1 ∷ 3 ∷ []) (codes "players") [] ∷ at (1 ∷ 3 ∷ 1 ∷ []) (codes "player") []
    ∷ at (1 ∷ 3 ∷ 1 ∷ 1 ∷ []) (codes "name") [] ∷ text (1 ∷ 3 ∷ 1 ∷ 1 ∷ 1 ∷ []) (codes "gold" ∷ [])
    ∷ element (1 ∷ 3 ∷ 1 ∷ 3 ∷ []) (codes "pos") ∷ []
unfolding team players holding element text at label
bears_gold_pos = refl

-- ---- two guards

guards : Tree Named
guards = (
  element (1 ∷ []) (codes "team"),
  holding (1 ∷ 1 ∷ []) (codes "name") (1 ∷ 1 ∷ 1 ∷ []) (codes "bears")
      (node (element (1 ∷ 3 ∷ []) (codes "player")) (holding (1 ∷ 3 ∷ 1 ∷ []) (codes "pos") (1 ∷ 3 ∷ 1 ∷ 1 ∷ []) (codes "guard") none)
      (node (element (1 ∷ 5 ∷ []) (codes "player")) (holding (1 ∷ 5 ∷ 1 ∷ []) (codes "pos") (1 ∷ 5 ∷ 1 ∷ 1 ∷ []) (codes "guard") none)
      none)),
)

-- equal siblings both stay
bears_pos : preorder (one (fragment (codes "bears" ∷ codes "pos" ∷ []) guards))
    ≡ at (1 ∷ []) (codes "team") [] ∷ at (1 ∷ 1 ∷ []) (codes "name") [] ∷ text (1 ∷ 1 ∷ 1 ∷ []) (codes "bears" ∷ [])
    ∷ at (1 ∷ 3 ∷ []) (codes "player") [] ∷ element (1 ∷ 3 ∷ 1 ∷ []) (codes "pos")
    ∷ at (1 ∷ 5 ∷ []) (codes "player") [] ∷ element (1 ∷ 5 ∷ 1 ∷ []) (codes "pos") ∷ []
unfolding guards holding element text at label
bears_pos = refl

-- ---- a full child

notes : Tree Named
notes = (
  element (1 ∷ []) (codes "bib"),
  node (element (1 ∷ 1 ∷ []) (codes "book")) (node (text (1 ∷ 1 ∷ 1 ∷ []) (codes "xml" ∷ codes "liu" ∷ [])) none none)
      (holding (1 ∷ 3 ∷ []) (codes "note") (1 ∷ 3 ∷ 1 ∷ []) (codes "xml")
      (holding (1 ∷ 5 ∷ []) (codes "author") (1 ∷ 5 ∷ 1 ∷ []) (codes "liu") none)),
)

-- a child that holds every word is left out and prunes no sibling
xml_liu : preorder (one (fragment (codes "xml" ∷ codes "liu" ∷ []) notes))
    ≡ at (1 ∷ []) (codes "bib") [] ∷ at (1 ∷ 3 ∷ []) (codes "note") [] ∷ text (1 ∷ 3 ∷ 1 ∷ []) (codes "xml" ∷ [])
    ∷ at (1 ∷ 5 ∷ []) (codes "author") [] ∷ text (1 ∷ 5 ∷ 1 ∷ []) (codes "liu" ∷ []) ∷ []
unfolding notes holding element text at label
xml_liu = refl

-- a text that holds both words shows them in the query's order
liu_xml : preorder (one (fragment (codes "liu" ∷ codes "xml" ∷ []) (text (1 ∷ 1 ∷ 1 ∷ []) (codes "xml" ∷ codes "liu" ∷ []), none)))
    ≡ text (1 ∷ 1 ∷ 1 ∷ []) (codes "liu" ∷ codes "xml" ∷ []) ∷ []
unfolding text at label
liu_xml = refl
